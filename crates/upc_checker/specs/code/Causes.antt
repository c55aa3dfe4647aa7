-- What an outcome says of a source, in the words of its nodes.
use Rattle.std.specs.Prelude.{◌≡◌, ℕ, List, None, Some}
use Rattle.upc_text.specs.declared.place.Refusal.{Refusal}
use Rattle.upc_text.specs.declared.place.Code.TheVariants.{Typing, Limit}
use Rattle.upc_tree.specs.Unit.{External}
use Rattle.typed_tree.specs.Scopes.{begin}
use Rattle.typing_rules.specs.Faults.{Fault, AllMeet, IsFirst}
use Rattle.upc_checker.specs.Units.{setting, walk_unit, unit_nodes, typed_unit}
use Rattle.upc_checker.specs.Limits.{Passed, unit_passed}
use Rattle.typed_tree.specs.Programs.{Checked, without_targets}

-- A source is well typed: every node meets every rule, no limit is passed, and this is what it declares and defines.
pub record IsWellTyped (names : List (List ℕ)) (asked : ℕ) (unit : List External) (x : Checked) : Type 0 where
  pub rules : AllMeet (unit_nodes names asked unit)
  pub limits : unit_passed names asked unit ≡ None
  pub threads : x.threads ≡ asked
  pub structs : x.structs ≡ without_targets (walk_unit (setting names asked unit) unit begin).state.structs
  pub objects : x.objects ≡ (typed_unit names asked unit).objects
  pub functions : x.functions ≡ (typed_unit names asked unit).functions

-- Why a source is refused: this is the first node that breaks a rule, with the lowest such rule; or every node meets
-- every rule, and this is the first limit that is passed.
pub data HasCause (names : List (List ℕ)) (threads : ℕ) (unit : List External) (r : Refusal) : Type 0 where
  breaks_a_rule :
      (f : Fault) → IsFirst (unit_nodes names threads unit) f → r ≡ record { place = f.at; code = Typing f.rule } →
      HasCause names threads unit r
  passes_a_limit : (l : Passed) → AllMeet (unit_nodes names threads unit) → unit_passed names threads unit ≡ Some l →
      r ≡ record { place = l.at; code = Limit l.limit } →
      HasCause names threads unit r
