-- The events in which a thread delivers mail (UPC 5.1.2.3, Appendix B).
use Rattle.std.specs.Prelude.{ℕ, ◌≡◌, Bool, true, cond, List, [], ◌∷◌, ◌++◌}
use Rattle.upc_values.specs.Openings.{Opening}
use Rattle.replica_space.specs.declared.message.Message.{Message}
use Rattle.replica_space.specs.declared.event.Event.{Event}
use Rattle.replica_space.specs.Events.{delivered}
use Rattle.replica_space.specs.Spaces.{Space, met, space_after}
use Rattle.replica_space.specs.Runs.{IsReplicaRun, NoneWaits}
use Rattle.replica_space_copies.specs.layer.Copies.{CopiesState, threads_of, space_of}
use Rattle.replica_space_copies.specs.layer.Same.{IsSame}

-- The deliveries by thread t of these messages, which wait for thread `to` from thread `from`.
abbrev pub deliveries : ℕ → ℕ → ℕ → List Message → List Event
deliveries t to from [] = []
deliveries t to from (m ∷ ms) = delivered t to from ∷ deliveries t to from ms

-- The deliveries by thread t of all mail to thread `to` from the first n threads, by sender.
abbrev pub deliveries_to : ℕ → ℕ → ℕ → Space → List Event
deliveries_to t to ℕ.zero s = []
deliveries_to t to (ℕ.suc n) s = deliveries_to t to n s ++ deliveries t to n (s.mail to n)

-- The deliveries by thread t of all mail from k threads to the first n, by receiver, then sender.
abbrev pub all_deliveries : ℕ → ℕ → ℕ → Space → List Event
all_deliveries t k ℕ.zero s = []
all_deliveries t k (ℕ.suc n) s = all_deliveries t k n s ++ deliveries_to t n k s

-- The messages that wait for thread `to` from thread `from`.
abbrev pub mail_in : CopiesState → ℕ → ℕ → List Message
mail_in c to from = (space_of c).mail to from

-- The events are a replica run from the opening, and the threads have what they have after it.
pub record Follows (o : Opening) (c : CopiesState) (es : List Event) : Type 0 where
  pub many : threads_of c ≡ o.threads
  pub run : IsReplicaRun o es
  pub shows : IsSame o.threads (space_of c) (space_after o.threads es)

-- How many messages are delivered before an action: where `meets`, all that wait.
abbrev pub due : Bool → CopiesState → ℕ
due meets c = cond meets c.waiting 0

-- The events and, where `meets`, the deliveries of all mail that waits after them, among n threads, by thread t.
abbrev pub with_due : Bool → ℕ → ℕ → List Event → List Event
with_due meets t n es = cond meets (es ++ all_deliveries t n n (space_after n es)) es

-- An action of thread t may come after these events, which are a replica run, and other ones before with what was due;
-- where `meets`, no message waits after them, and the threads have what they have once their clocks have met.
pub record IsReady (o : Opening) (meets : Bool) (t : ℕ) (before : List Event) (c : CopiesState) (es : List Event)
    : Type 0 where
  pub many : threads_of c ≡ o.threads
  pub events : es ≡ with_due meets t o.threads before
  pub run : IsReplicaRun o es
  pub none : meets ≡ true → NoneWaits o.threads (space_after o.threads es)
  pub shows : IsSame o.threads (space_of c)
      (cond meets (met o.threads (space_after o.threads es)) (space_after o.threads es))
