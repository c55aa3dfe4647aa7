-- The collective calls that a history leaves: how often each thread has met, and the leader of each call.
use Rattle.std.specs.Prelude.{ℕ, ◌≡◌, ◌<◌, ◌≤◌, ◌+◌, ◌==◌, Bool, true, false, ◌&&◌, cond, List, [], ◌∷◌, ◌++◌, length}
use Rattle.std.specs.Prelude.{Some, None, slice_index_or, slice_get, slice_set}
use Rattle.block_layout.specs.declared.run_error.TheConstants.{COLLECTIVE_MISMATCH}
use Rattle.upc_values.specs.declared.scalar.Scalar.{Scalar}
use Rattle.upc_values.specs.declared.action.Action.TheVariants as act
use Rattle.upc_values.specs.declared.action.Reply.{Reply}
use Rattle.upc_values.specs.declared.action.Reply.TheVariants.{Done, Refused}
use Rattle.upc_values.specs.declared.journal.Entry.{Entry}
use Rattle.upc_values.specs.Lists.{Numbered}
use Rattle.upc_values.specs.Calls.{Call, call_of}
use Rattle.upc_values.specs.Openings.{Opening}
use Rattle.upc_values.specs.History.{Lead, meets, leader, is_done, notifies, same_list}

-- The leader of a call: what it called, how often it had notified before, its reply, and how many threads have met in
-- the call with reply Done.
pub record LeaderState : Type 0 where
  pub call : ℕ
  pub args : List Scalar
  pub notifies : ℕ
  pub reply : Reply
  pub done : ℕ

-- How often each thread has met, and the leaders, in order.
pub record MeetsState : Type 0 where
  pub counts : List ℕ
  pub leaders : List LeaderState

-- How many of the first n threads have met in the j-th call, from 0, with reply Done.
abbrev pub done_below : ℕ → ℕ → List Entry → ℕ
done_below ℕ.zero j es = 0
done_below (ℕ.suc n) j es = cond (is_done (slice_get (meets n es) j)) 1 0 + done_below n j es

-- The leader of the j-th call, from 0, as a history has it.
pub record Leads (o : Opening) (es : List Entry) (j : ℕ) (l : LeaderState) : Type 0 where
  pub lead : Lead
  pub is : leader j es ≡ Some lead
  pub action : lead.entry.action ≡ act.Meet l.call l.args
  pub reply : lead.entry.reply ≡ l.reply
  pub notifies : notifies lead.entry.thread lead.before ≡ l.notifies
  pub done : l.done ≡ done_below o.threads j es

-- Each thread has met as often as in the history, and the leaders are those of the history.
pub record MeetsAfter (o : Opening) (es : List Entry) (m : MeetsState) : Type 0 where
  pub count : length m.counts ≡ o.threads
  pub met : (u : ℕ) → u < o.threads → slice_index_or m.counts u 0 ≡ length (meets u es)
  pub led : Numbered (Leads o es) m.leaders
  pub last : (j : ℕ) → length m.leaders ≤ j → leader j es ≡ None

-- How often the thread has met.
abbrev pub times : ℕ → MeetsState → ℕ
times thread m = slice_index_or m.counts thread 0

-- Whether the thread's next call leads.
abbrev pub is_leading : ℕ → MeetsState → Bool
is_leading thread m = times thread m == length m.leaders

-- The leader that stands for none, where nobody has led a call.
abbrev pub nobody : LeaderState
nobody = record { call = 0; args = []; notifies = 0; reply = Done; done = 0 }

-- The leader of the j-th call.
abbrev pub leader_at : ℕ → MeetsState → LeaderState
leader_at j m = slice_index_or m.leaders j nobody

-- What a leader called, with its arguments.
abbrev pub called : LeaderState → Call
called l = call_of l.call l.args

-- The answer to a thread that meets, with so many notifies before, where another has led.
abbrev pub joined_answer : ℕ → ℕ → List Scalar → LeaderState → Reply
joined_answer notifies call args l =
    cond (((call == l.call) && same_list args l.args) && (notifies == l.notifies)) l.reply (Refused COLLECTIVE_MISMATCH)

-- The reply is Done.
abbrev pub is_done_reply : Reply → Bool
is_done_reply Done = true
is_done_reply r = false

-- The thread has met once more.
abbrev pub counted : ℕ → List ℕ → List ℕ
counted thread counts = slice_set counts thread (slice_index_or counts thread 0 + 1)

-- A new leader, alone so far.
abbrev pub leading : ℕ → List Scalar → ℕ → Reply → LeaderState
leading call args notifies reply =
    record { call = call; args = args; notifies = notifies; reply = reply; done = cond (is_done_reply reply) 1 0 }

-- One thread more has met in the call, with this reply.
abbrev pub joined : Reply → LeaderState → LeaderState
joined reply l = record l { done = l.done + cond (is_done_reply reply) 1 0 }

-- The thread leads a call.
abbrev pub with_leader : ℕ → LeaderState → MeetsState → MeetsState
with_leader thread l m = record { counts = counted thread m.counts; leaders = m.leaders ++ l ∷ [] }

-- The thread meets in a call that is led, with this reply.
abbrev pub with_joined : ℕ → Reply → MeetsState → MeetsState
with_joined thread reply m =
    let j = times thread m in
    record {
      counts = counted thread m.counts;
      leaders = slice_set m.leaders j (joined reply (leader_at j m));
    }

-- The thread meets with this call, after so many notifies, and with this reply: it leads, or another has led.
abbrev pub met_with : ℕ → ℕ → List Scalar → ℕ → Reply → MeetsState → MeetsState
met_with thread call args notifies reply m =
    cond (is_leading thread m) (with_leader thread (leading call args notifies reply) m) (with_joined thread reply m)
