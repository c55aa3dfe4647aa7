-- What is true of a run with a copy for each thread at each moment.
use Rattle.std.specs.Prelude.{ℕ, ◌≡◌, ◌<◌, ◌^◌, List, length}
use Rattle.upc_values.specs.declared.journal.Entry.{Entry}
use Rattle.upc_values.specs.Openings.{Opening, IsOpening}
use Rattle.upc_values.specs.Formed.{AreWellFormed}
use Rattle.replica_space.specs.declared.event.Event.{Event}
use Rattle.replica_space.specs.Events.{history_in}
use Rattle.replica_space_quiet.specs.layer.Loud.{loud}
use Rattle.replica_space_copies.specs.layer.Copies.{CopiesState}
use Rattle.replica_space_mail.specs.layer.Deliveries.{Follows}

-- The threads have what they have after the events, which are a replica run; each action was well formed; the memory
-- has the actions other than reads and writes; and the events are counted.
pub record AreReplicas (w : Opening × List Entry) (c : CopiesState) (es : List Event) (count : ℕ) : Type 0 where
  pub opening : IsOpening w.0
  pub follows : Follows w.0 c es
  pub formed : AreWellFormed w.0 (history_in es)
  pub world : w.1 ≡ loud (history_in es)
  pub counted : count ≡ length es
  pub short : count < 2 ^ 62
