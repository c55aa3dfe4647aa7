-- The values of the labels of a switch, as a set.
use Rattle.std.specs.Prelude.{◌≡◌, ℤ, List, Option}
use Rattle.std.specs.List.{list_any}
use Rattle.std.specs.BTreeSet.{BTreeSet, contains}
use Rattle.std.specs.Ordering.{int_cmp}
use Rattle.block_layout.specs.declared.kind.Kind.{Kind}
use Rattle.typing_rules.specs.declared.attribute.Constant.{Constant}
use Rattle.typing_rules.specs.Rules.{label_kind, is_label}

-- The set has a value exactly if one of the labels has it, at the kind of their switch.
abbrev pub AreValues : Option Kind → List Constant → BTreeSet ℤ → Type 0
AreValues kind labels values = (v : ℤ) → contains int_cmp values (label_kind kind v) ≡ list_any (is_label kind v) labels
