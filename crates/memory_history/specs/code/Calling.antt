-- A collective call between its beginning and its reply.
use Rattle.std.specs.Prelude.{ℕ, ◌-◌, false, List, [], ◌∷◌, ◌++◌, length, slice_set, take}
use Rattle.upc_values.specs.declared.scalar.Scalar.{Scalar}
use Rattle.upc_values.specs.declared.action.Reply.{Reply}
use Rattle.upc_values.specs.declared.action.Reply.TheVariants.{Flag}
use Rattle.memory_history.specs.code.MeetsAfter.{LeaderState, MeetsState, leader_at, leading, counted}

-- One more call, which has no reply yet.
abbrev pub begun_call : ℕ → List Scalar → ℕ → MeetsState → MeetsState
begun_call call args notifies m =
    record { counts = m.counts; leaders = m.leaders ++ leading call args notifies (Flag false) ∷ [] }

-- The last call is forgotten.
abbrev pub without_last : MeetsState → MeetsState
without_last m = record { counts = m.counts; leaders = take (length m.leaders - 1) m.leaders }

-- A leader with this reply, alone so far.
abbrev pub answered : Reply → LeaderState → LeaderState
answered reply l = leading l.call l.args l.notifies reply

-- The thread has met once more, and the last call has this reply.
abbrev pub settled : ℕ → Reply → MeetsState → MeetsState
settled thread reply m =
    let last : ℕ = length m.leaders - 1 in
    record {
      counts = counted thread m.counts;
      leaders = slice_set m.leaders last (answered reply (leader_at last m));
    }
