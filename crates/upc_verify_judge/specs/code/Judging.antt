-- A verdict on the way: the parts below some number hold of all threads.
use Rattle.std.specs.Prelude.{ℕ, ◌≡◌, ◌<◌, List, length}
use Rattle.upc_values.specs.declared.journal.Journal.{Journal}
use Rattle.upc_values.specs.declared.order.Orders.{Orders}
use Rattle.upc_values.specs.Openings.{Opening}
use Rattle.thread_steps.specs.layer.Fronts.{IsInTurn}
use Rattle.upc_verify_parts.specs.Parts.{HasShape, HoldsOfEach}
use Rattle.upc_verify_judge.specs.declared.meant.Meant.{Meant}
use Rattle.upc_verify_judge.specs.layer.Meanings.{outcome_in}
use Rattle.upc_verify_judge.specs.Verdicts.{Case, Part, number, Holds}

-- What is judged, by what the sources come to as the program has it.
abbrev pub case_in : Opening → Journal → Orders → List Meant → Case
case_in o j orders meant = record { opening = o; outcome = outcome_in meant; journal = j; orders = orders }

-- Each part below this number holds of each thread.
abbrev pub HoldBelow : Case → ℕ → Type 0
HoldBelow c k = (q : Part) (u : ℕ) → u < c.opening.threads → number q < k → Holds c q u

-- All is of so many threads, each of which notifies and waits in turn, and the parts below this number hold.
pub record AreJudged (o : Opening) (j : Journal) (orders : Orders) (meant : List Meant) (k : ℕ) : Type 0 where
  pub some : 0 < o.threads
  pub shape : HasShape o.threads j orders
  pub many : length meant ≡ o.threads
  pub turns : HoldsOfEach o.threads (λ t. IsInTurn (outcome_in meant t).actions)
  pub parts : HoldBelow (case_in o j orders meant) k
