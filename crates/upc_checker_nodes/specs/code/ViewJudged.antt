-- What the code answers where the node of a member is judged.
use Rattle.std.specs.Prelude.{◌≡◌, ℕ, None, Result, Ok, Err}
use Rattle.upc_text.specs.declared.place.Place.{Place}
use Rattle.upc_text.specs.declared.faults.Stop.{Stop}
use Rattle.typing_rules.specs.Attributes.{Facts, attr}
use Rattle.typing_rules.specs.Nodes.{Node, view_attr}
use Rattle.typing_rules.specs.Rules.{lowest}
use Rattle.typing_rules_checks.specs.declared.reached.MemberNode.{MemberNode}
use Rattle.upc_checker_scopes.specs.layer.Finishes.{Refuses}

-- The node of a member meets every rule, and the answer has its attribute and the member's number; else the answer is
-- the lowest rule that the node breaks, or want of memory.
abbrev pub JudgesMember : Facts → Place → Node → ℕ → Result MemberNode Stop → Type 0
JudgesMember φ at x index (Ok m) = (lowest φ x ≡ None) × (view_attr m.attr ≡ attr φ x) × (m.index ≡ index)
JudgesMember φ at x index (Err e) = Refuses (lowest φ x) at e
