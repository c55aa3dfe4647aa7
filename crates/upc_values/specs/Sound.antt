-- A sound journal: records are what the sources give, one legal history takes them as the write buffers drain, stalls
-- are justified, and ends have their causes.
use Rattle.std.specs.Prelude.{ℕ, ◌≡◌, ◌≤◌, true, List, [], length}
use Rattle.upc_values.specs.declared.action.Reply.{Reply}
use Rattle.upc_values.specs.declared.journal.Entry.{Entry}
use Rattle.upc_values.specs.declared.journal.Strand.{Strand}
use Rattle.upc_values.specs.declared.journal.Journal.{Journal}
use Rattle.upc_values.specs.Lists.{Numbered}
use Rattle.upc_values.specs.Records.{replies_of}
use Rattle.upc_values.specs.Outcomes.{Outcome, wanted}
use Rattle.upc_values.specs.Drain.{walked, drain, entries_of}
use Rattle.upc_values.specs.Openings.{Opening}
use Rattle.upc_values.specs.History.{IsLegal, EachBelow}
use Rattle.upc_values.specs.Formed.{AreWellFormed}
use Rattle.upc_values.specs.Strands.{Conforms, AreJustified}
use Rattle.upc_values.specs.Ends.{OwnEnd, SharedEnd}

-- What thread t's strand is to the history, where its source has this meaning.
pub record IsStrand (o : Opening) (t actions : ℕ) (history : List Entry) (outcome : List Reply → Outcome)
    (s : Strand) : Type 0 where
  -- its record is what its source gives on its replies
  pub conforms : Conforms (outcome (replies_of s.items)) s
  -- its entries in the history are the drain of its record
  pub agrees : (walked t s.items).agrees ≡ true
  pub drains : entries_of t history ≡ drain t s.items
  -- its stalls are justified
  pub justified : AreJustified o t history (wanted (outcome (replies_of s.items)).«end») [] s.items
  -- its record has at most `actions` items
  pub short : length s.items ≤ actions
  pub «end» : OwnEnd actions (outcome (replies_of s.items)).«end» s.items s.«end»

-- The journal is sound for an opening and the meaning of each thread's source, by budget and thread: the budget is the
-- journal's own.
pub record IsSound (o : Opening) (outcome : (budget thread : ℕ) → List Reply → Outcome) (j : Journal) : Type 0 where
  pub threads : j.threads ≡ o.threads
  pub many : length j.strands ≡ o.threads
  pub below : EachBelow o.threads j.history
  pub legal : IsLegal o j.history
  pub formed : AreWellFormed o j.history
  pub strands : Numbered (λ t s. IsStrand o t j.actions j.history (outcome j.budget t) s) j.strands
  pub ends : Numbered (λ t s. SharedEnd o j t s.«end») j.strands
