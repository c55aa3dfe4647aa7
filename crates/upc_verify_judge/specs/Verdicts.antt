-- The verdict on a journal and its orders: which part fails first, and of which thread.
use Rattle.std.specs.Prelude.{ℕ, ◌≡◌, ◌<◌, ◌⊎◌, ◌↔◌, List}
use Rattle.upc_values.specs.declared.action.Reply.{Reply}
use Rattle.upc_values.specs.declared.journal.Journal.{Journal}
use Rattle.upc_values.specs.declared.order.Orders.{Orders}
use Rattle.upc_values.specs.Outcomes.{Outcome, wanted}
use Rattle.upc_values.specs.Openings.{Opening}
use Rattle.upc_values.specs.Strands.{Conforms}
use Rattle.upc_values.specs.Records.{replies_of}
use Rattle.upc_values.specs.Orders.{record_of}
use Rattle.upc_values.specs.Consistent.{begins}
use Rattle.upc_values.specs.Sound.{IsSound}
use Rattle.upc_verify_parts.specs.Parts.{strand_of, HasShape, EntriesHold, HistoryHolds, StallsHold, EndHolds}
use Rattle.upc_verify_orders.specs.Given.{OrderHolds, AreConsistentOrders}
use Rattle.upc_verify_judge.specs.declared.verdict.Verdict.{Verdict}
use Rattle.upc_verify_judge.specs.declared.verdict.Verdict.TheVariants.{Sound, Broken}

-- What is judged: a journal with orders, for an opening and the outcome that each thread's source has on the replies of
-- its record.
pub record Case : Type 0 where
  pub opening : Opening
  pub outcome : (thread : ℕ) → Outcome
  pub journal : Journal
  pub orders : Orders

-- A journal with orders is judged by what each thread's source comes to on the replies of its record, with the
-- journal's budget.
abbrev pub case_of : Opening → (outcome : (budget thread : ℕ) → List Reply → Outcome) → Journal → Orders → Case
case_of o outcome j orders = record {
  opening = o;
  outcome = λ t. outcome j.budget t (replies_of (record_of j t));
  journal = j;
  orders = orders;
}

-- The parts of a verdict, in order.
pub data Part : Type 0 where
  shape : Part
  strands : Part
  entries : Part
  history : Part
  stalls : Part
  ends : Part
  orders : Part

-- The number of a part.
abbrev pub number : Part → ℕ
number shape = 0
number strands = 1
number entries = 2
number history = 3
number stalls = 4
number ends = 5
number orders = 6

-- What a part asks of a thread. What it asks of all threads at once it asks of thread 0.
abbrev pub Holds : Case → Part → (thread : ℕ) → Type 0
-- the journal and its orders are of as many threads as the program
Holds c shape t = t ≡ 0 → HasShape c.opening.threads c.journal c.orders
-- the strand is what its source comes to
Holds c strands t = Conforms (c.outcome t) (strand_of c.journal t)
-- its entries in the history are what its record emits through the write buffer
Holds c entries t = EntriesHold c.opening.threads c.journal t
-- each entry of the history was well formed and has its lawful reply
Holds c history t = t ≡ 0 → HistoryHolds c.opening c.journal.history
-- its Stalls are where its next action had no lawful reply
Holds c stalls t = StallsHold c.opening c.journal (wanted (c.outcome t).«end») t
-- its record is short enough, and its end has a cause
Holds c ends t = EndHolds c.opening c.journal (c.outcome t).«end» t
-- its order satisfies UPC's memory model (UPC Appendix B)
Holds c orders t = OrderHolds (begins c.opening c.journal.history) c.journal c.orders t

-- Each part holds of each thread.
abbrev pub AllHold : Case → Type 0
AllHold c = (p : Part) (t : ℕ) → t < c.opening.threads → Holds c p t

-- The part fails of the thread; each part before it holds of each thread, and it holds of each thread before.
pub record Breaks (c : Case) (p : Part) (t : ℕ) : Type 0 where
  pub within : t < c.opening.threads
  pub fails : Holds c p t → ⊥
  pub before :
      (q : Part) (u : ℕ) → u < c.opening.threads → (number q < number p) ⊎ ((q ≡ p) × (u < t)) → Holds c q u

-- Sound: all hold. Broken: the first part that fails, by its number, of the first thread of which it does.
abbrev pub IsVerdict : Case → Verdict → Type 0
IsVerdict c Sound = AllHold c
IsVerdict c (Broken part t) = (p : Part) × (number p ≡ part) × Breaks c p t

-- The journal is sound, and the orders make its operations UPC consistent (UPC Appendix B).
pub record IsSoundRun (o : Opening) (outcome : (budget thread : ℕ) → List Reply → Outcome) (j : Journal)
    (orders : Orders) : Type 0 where
  pub shape : HasShape o.threads j orders
  pub sound : IsSound o outcome j
  pub consistent : AreConsistentOrders (begins o j.history) j orders

-- All parts hold of all threads just where it is so, for an opening of at least one thread.
abbrev pub PartsAreASoundRun : Type 0
PartsAreASoundRun =
    (o : Opening) (outcome : (budget thread : ℕ) → List Reply → Outcome) (j : Journal) (orders : Orders) → 0 < o.threads
    → AllHold (case_of o outcome j orders) ↔ IsSoundRun o outcome j orders
