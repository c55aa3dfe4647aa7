use Rattle.std.proofs.Common.{◌≡◌, drop, map}
use Rattle.std.specs.List.{list_any}
use Rattle.upc_types.specs.View.{view}
use Rattle.typing_rules.specs.Rules as r
use Rattle.typing_rules_checks.proofs.declarations.any_is_struct.Given as goal

-- what is left decides
abbrev pub invariant-loop-t : goal.invariant-loop-t
invariant-loop-t l =
    list_any r.is_struct_type (map view l.types) ≡ list_any r.is_struct_type (map view (drop l.t-index l.types))
