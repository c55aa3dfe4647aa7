use Rattle.std.proofs.Common.{◌≡◌, ℕ, ◌+◌, ◌-◌, get_or, None, vec_len}
use Rattle.upc_types.proofs.structs.make_room.Given as goal

abbrev pub invariant-loop-list : goal.invariant-loop-list
invariant-loop-list g l = (n : ℕ) → get_or l.list.items n None ≡ get_or l.fn.list.items n None

abbrev pub decreases-loop-list : goal.decreases-loop-list
decreases-loop-list g l = (l.number + 1) - vec_len l.list
