-- What contracts see of a whole source that is walked.
use Rattle.std.specs.Prelude.{◌≡◌, Bool, Option, Some, None, Result, Ok, Err, map}
use Rattle.upc_text.specs.declared.place.Code.TheVariants.{Limit}
use Rattle.upc_text.specs.declared.faults.Stop.{Stop}
use Rattle.upc_text.specs.declared.faults.Stop.TheVariants as stop
use Rattle.upc_types.specs.ViewStructs.{view_structs}
use Rattle.typing_rules.specs.declared.setting.Home.{Home}
use Rattle.typed_tree.specs.ViewStatements.{view_object, view_function}
use Rattle.typed_tree.specs.Objects.{is_shared}
use Rattle.upc_checker.specs.declared.limits.Sort.{Sort}
use Rattle.upc_checker.specs.declared.limits.Sort.TheVariants as sort_variant
use Rattle.upc_checker.specs.declared.limits.Passed as passed_type
use Rattle.upc_checker.specs.declared.whole.Checked as checked
use Rattle.upc_checker.specs.Limits.{Passed, is_private}
use Rattle.typed_tree.specs.Programs.{Checked}
use Rattle.typed_tree.specs.Programs.{checked_of}

-- Whether an object of the file is of a sort: private, or shared.
abbrev pub view_sort : Sort → Home → Bool
view_sort sort_variant.Private home = is_private home
view_sort sort_variant.Shared home = is_shared home

-- The limit that is passed, or none, that the code holds.
abbrev pub view_passed : Option passed_type.Passed → Option Passed
view_passed None = None
view_passed (Some x) = Some (record { limit = x.limit; at = x.place })

-- What a source declares and defines, with types, as the code holds it.
abbrev pub view_checked : checked.Checked → Checked
view_checked x =
    checked_of x.threads (view_structs x.structs) (map view_object x.objects.items) (map view_function
    x.functions.items)

-- The answer of the code where this limit is passed, or none.
abbrev pub KeepsLimits : Option Passed → Result (Unit {0}) Stop → Type 0
KeepsLimits None (Ok u) = Unit {0}
KeepsLimits None (Err e) = ⊥
KeepsLimits (Some l) (Ok u) = ⊥
KeepsLimits (Some l) (Err stop.Memory) = ⊥
KeepsLimits (Some l) (Err (stop.Refused refusal)) = refusal ≡ record { place = l.at; code = Limit l.limit }
