-- How a call that asks for many actions goes on.
use Rattle.std.specs.Prelude.{◌≡◌, ◌<◌, false, List, length, Option, Some, None}
use Rattle.upc_text.specs.declared.place.Place.{Place}
use Rattle.upc_values.specs.declared.action.Reply.{Reply}
use Rattle.upc_values.specs.declared.scalar.Value.TheVariants as value
use Rattle.upc_values.specs.Scalars.{zero}
use Rattle.upc_values.specs.Expansion as expansion
use Rattle.upc_values.specs.Expansion.{Expansion, after_reply}
use Rattle.upc_values.specs.LibraryCalls.{gives_zero}
use Rattle.thread_steps.specs.States.{Thread, State, Val, Over}
use Rattle.upc_library.specs.layer.Wishes.{is_refusal}
use Rattle.upc_meaning_state.specs.declared.progress.Step.{Step}
use Rattle.upc_meaning_state.specs.declared.progress.Step.TheVariants.{Gives, Ends}
use Rattle.upc_meaning_state.specs.declared.progress.Progress.{Progress}
use Rattle.upc_meaning_state.specs.layer.Came.{state_seen}
use Rattle.upc_meaning_state.specs.layer.Libraries.{expanded_to}

-- A reply that was given refuses nothing.
abbrev pub Answers : Step Reply → Type 0
Answers (Gives r) = is_refusal r ≡ false
Answers (Ends e) = Unit {0}

-- What the call asks for is answered, and the rest follows; or the thread has ended.
abbrev pub IsAnswered : Thread → Place → Expansion (Unit {0}) → State → Step Reply → Progress → Type 0
IsAnswered τ at x σ (Gives r) q =
    expanded_to τ at (gives_zero x) σ ≡ expanded_to τ at (gives_zero (after_reply x r)) (state_seen q)
IsAnswered τ at x σ (Ends e) q = expanded_to τ at (gives_zero x) σ ≡ Over e (state_seen q)

-- So it is, if the call asks for anything; if not it is over.
abbrev pub IsAnsweredOrOver : Thread → Place → Expansion (Unit {0}) → State → Option (Step Reply) → Progress → Type 0
IsAnsweredOrOver τ at x σ (Some s) q = IsAnswered τ at x σ s q
IsAnsweredOrOver τ at x σ None q = expanded_to τ at (gives_zero x) σ ≡ Val (value.Scalar zero) (state_seen q)

-- There is something left to do.
abbrev pub IsUnfinished : Expansion (Unit {0}) → Type 0
IsUnfinished (expansion.Gives v) = ⊥
IsUnfinished x = Unit {0}

-- A reply that was given has been taken off those that were left.
abbrev pub IsTaken : List Reply → Step Reply → Progress → Type 0
IsTaken before (Gives r) q = length q.replies.now < length before
IsTaken before (Ends e) q = Unit {0}
