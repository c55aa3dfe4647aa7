-- What a verdict asks of a journal and its orders, part by part, for an opening and the end that each thread's source
-- comes to.
use Rattle.std.specs.Prelude.{ℕ, ◌≡◌, ◌<◌, ◌≤◌, true, List, [], length, Option, slice_index_or}
use Rattle.upc_values.specs.declared.action.Action.{Action}
use Rattle.upc_values.specs.declared.record.ToldEnd.{ToldEnd}
use Rattle.upc_values.specs.declared.journal.Entry.{Entry}
use Rattle.upc_values.specs.declared.journal.Strand.{Strand}
use Rattle.upc_values.specs.declared.journal.Journal.{Journal}
use Rattle.upc_values.specs.declared.order.Orders.{Orders}
use Rattle.upc_values.specs.Drain.{walked, drain, entries_of}
use Rattle.upc_values.specs.Openings.{Opening}
use Rattle.upc_values.specs.History.{IsLegal, EachBelow}
use Rattle.upc_values.specs.Formed.{AreWellFormed}
use Rattle.upc_values.specs.Strands.{AreJustified}
use Rattle.upc_values.specs.Ends.{OwnEnd, SharedEnd}
use Rattle.upc_values.specs.Orders.{no_strand, record_of}

-- The strand of a thread.
abbrev pub strand_of : Journal → ℕ → Strand
strand_of j t = slice_index_or j.strands t no_strand

-- Threads, strands and thread orders are as many as the program's threads; budget and actions are at least 1.
pub record HasShape (many : ℕ) (j : Journal) (given : Orders) : Type 0 where
  pub threads : j.threads ≡ many
  pub strands : length j.strands ≡ many
  pub orders : length given.threads ≡ many
  pub budget : 1 ≤ j.budget
  pub actions : 1 ≤ j.actions

-- The thread's entries in the history are what its record emits through the write buffer.
pub record Drains (j : Journal) (t : ℕ) : Type 0 where
  pub agrees : (walked t (record_of j t)).agrees ≡ true
  pub entries : entries_of t j.history ≡ drain t (record_of j t)

-- What is asked of the entries, of thread t: of thread 0 that each entry is of one of so many threads, and of each
-- thread that its record emits its entries.
pub record EntriesHold (many : ℕ) (j : Journal) (t : ℕ) : Type 0 where
  pub below : t ≡ 0 → EachBelow many j.history
  pub drains : Drains j t

-- Each entry of the history was well formed and has its lawful reply.
pub record HistoryHolds (o : Opening) (history : List Entry) : Type 0 where
  pub legal : IsLegal o history
  pub formed : AreWellFormed o history

-- The thread's Stalls are where its next action had no lawful reply; this action is wanted after its record.
abbrev pub StallsHold : Opening → Journal → Option Action → ℕ → Type 0
StallsHold o j want t = AreJustified o t j.history want [] (record_of j t)

-- The thread's record is short enough, and its end has a cause.
pub record EndHolds (o : Opening) (j : Journal) (e : ToldEnd) (t : ℕ) : Type 0 where
  pub short : length (record_of j t) ≤ j.actions
  pub own : OwnEnd j.actions e (record_of j t) (strand_of j t).«end»
  pub shared : SharedEnd o j t (strand_of j t).«end»

-- Of so many threads, this one is the first of which something fails.
pub record FailsFirst (many : ℕ) (holds : ℕ → Type 0) (t : ℕ) : Type 0 where
  pub within : t < many
  pub fails : holds t → ⊥
  pub before : (u : ℕ) → u < t → holds u

-- Something holds of each of so many threads.
abbrev pub HoldsOfEach : ℕ → (ℕ → Type 0) → Type 0
HoldsOfEach many holds = (t : ℕ) → t < many → holds t
