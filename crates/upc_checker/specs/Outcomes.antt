-- What a check of a source answers.
use Rattle.std.specs.Prelude.{◌≡◌, ℕ, List, Option, Some, None, Result, Ok, Err}
use Rattle.upc_text.specs.declared.place.Refusal.{Refusal}
use Rattle.upc_text.specs.declared.place.Code.TheVariants.{Typing, Limit}
use Rattle.upc_text.specs.declared.faults.Stop.{Stop}
use Rattle.upc_text.specs.declared.faults.Stop.TheVariants as stop
use Rattle.upc_tree.specs.Unit.{External}
use Rattle.typed_tree.specs.Scopes.{begin}
use Rattle.typing_rules.specs.Faults.{Fault, first_fault}
use Rattle.typed_tree.specs.Programs.{Checked, without_targets}
use Rattle.upc_checker_scopes.specs.Walk.{Walked}
use Rattle.upc_checker.specs.Units.{Made, setting, walk_unit}
use Rattle.upc_checker.specs.Limits.{Passed, limit_in}

-- The outcome of a check: a refusal with its place and its code, or what the source declares and defines, with types.
pub data Outcome : Type 0 where
  Refused : (refusal : Refusal) → Outcome
  Accepted : (checked : Checked) → Outcome

-- The first typing fault decides an outcome, and where there is none the first limit that is passed.
abbrev pub outcome_by : Option Fault → Option Passed → Checked → Outcome
outcome_by (Some f) limit checked = Refused (record { place = f.at; code = Typing f.rule })
outcome_by None (Some l) checked = Refused (record { place = l.at; code = Limit l.limit })
outcome_by None None checked = Accepted checked

-- The outcome of a check on so many threads, by the walk over the source.
abbrev pub outcome_in : ℕ → Walked Made → Outcome
outcome_in threads w =
    outcome_by (first_fault w.seen) (limit_in w) (record {
      threads = threads;
      structs = without_targets w.state.structs;
      objects = w.value.objects;
      functions = w.value.functions;
    })

-- The outcome of a source with these names on so many threads.
abbrev pub outcome : List (List ℕ) → ℕ → List External → Outcome
outcome names threads unit = outcome_in threads (walk_unit (setting names threads unit) unit begin)

-- An answer of a check that has this outcome, where a program is seen by `view`: want of memory is always an answer.
abbrev pub Answers : {P : Type 0} → (P → Checked) → Outcome → Result P Stop → Type 0
Answers view o (Ok program) = o ≡ Accepted (view program)
Answers view o (Err stop.Memory) = Unit {0}
Answers view o (Err (stop.Refused refusal)) = o ≡ Refused refusal

-- The outcome is that the source is accepted.
pub record Accepts (o : Outcome) : Type 0 where
  pub checked : Checked
  pub is : o ≡ Accepted checked

-- An answer whether a source is accepted that has this outcome: want of memory is always an answer.
abbrev pub Decides : Outcome → Result (Unit {0}) Stop → Type 0
Decides o (Ok u) = Accepts o
Decides o (Err stop.Memory) = Unit {0}
Decides o (Err (stop.Refused refusal)) = o ≡ Refused refusal
