-- The steps of a world, and what its history keeps.
use Rattle.std.specs.Prelude.{ℕ, ◌<◌, ◌^◌, List, [], ◌∷◌, ◌++◌, length, Option, Some, None}
use Rattle.upc_values.specs.declared.action.Action.{Action}
use Rattle.upc_values.specs.declared.action.Reply.{Reply}
use Rattle.upc_values.specs.declared.journal.Entry.{Entry}
use Rattle.upc_values.specs.Drain.{entry_of}
use Rattle.upc_values.specs.Openings.{Opening, IsOpening}
use Rattle.upc_values.specs.History.{IsLegal, EachBelow}
use Rattle.upc_values.specs.Formed.{AreWellFormed}
use Rattle.memory_history.specs.code.After.{PartsState, IsAfter}
use Rattle.memory_history.specs.declared.step.Step.{Step}
use Rattle.memory_history.specs.declared.step.Step.TheVariants.{Done, Disabled}

-- The reply of a step; there is none where the action had none.
abbrev pub answer_of : Step → Option Reply
answer_of (Done r) = Some r
answer_of Disabled = None

-- The history after action i of thread t with this answer: one entry more, or the same.
abbrev pub performed : List Entry → ℕ → ℕ → Action → Option Reply → List Entry
performed es t i a None = es
performed es t i a (Some r) = es ++ entry_of t i a r ∷ []

-- What a history keeps: it is legal from its opening, each entry was well formed and is of one of the threads, and
-- there are fewer than 2^62 entries.
pub record IsKept (o : Opening) (es : List Entry) : Type 0 where
  pub opening : IsOpening o
  pub legal : IsLegal o es
  pub formed : AreWellFormed o es
  pub below : EachBelow o.threads es
  pub short : length es < 2 ^ 62

-- A memory: its history is kept, and its parts stand as the history has left them.
pub record IsWorld (p : PartsState) (es : List Entry) : Type 0 where
  pub kept : IsKept p.heap.opening es
  pub after : IsAfter p.heap.opening es p
