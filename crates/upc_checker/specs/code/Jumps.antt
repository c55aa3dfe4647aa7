-- Where a `break`, `continue` or `return` among the nodes of a source breaks rule 23 or 24 (docs/LANGUAGE.md, "Typing
-- rules").
use Rattle.std.specs.Prelude.{Bool, true, false, if◌then◌else◌, List, [], ◌∷◌, ◌++◌}
use Rattle.upc_text.specs.declared.place.Refusal.{Refusal}
use Rattle.typing_rules.specs.Rules.{rule_23, rule_24}
use Rattle.typing_rules.specs.Faults.{Seen}
use Rattle.affinity_checker.specs.layer.Rules.{refused, where_true}
use Rattle.upc_checker.specs.code.Lines as lines
use Rattle.upc_checker.specs.code.Lines.{Line, line_of}

-- Whether a line of the grammar is a `break`, a `continue` or a `return` (C99 6.8.6).
abbrev pub is_jump : Line → Bool
is_jump lines.Break = true
is_jump lines.Continue = true
is_jump lines.Returns = true
is_jump lines.ReturnsNothing = true
is_jump line = false

-- Those of the rules 23 and 24 that a node breaks, at its place (C99 6.8.6, UPC 6.6.2).
abbrev pub breaches_at : Seen → List Refusal
breaches_at x = where_true (rule_23 x.node) (refused x.at 23) ++ where_true (rule_24 x.node) (refused x.at 24)

-- Those of the rules 23 and 24 that jumps among nodes break, in order. An affinity, to which rule 23 applies too, is no
-- jump (C99 6.8.6, UPC 6.6.2).
abbrev pub jump_breaches : List Seen → List Refusal
jump_breaches [] = []
jump_breaches (x ∷ xs) = (if is_jump (line_of x.node) then breaches_at x else []) ++ jump_breaches xs
