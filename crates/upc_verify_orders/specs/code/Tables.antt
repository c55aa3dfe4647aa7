-- The strict list by threads, as the program looks places up in it.
use Rattle.std.specs.Prelude.{ℕ, ◌≡◌, ◌≤◌, ◌<◌, ◌+◌, ◌*◌, ◌==◌, nat_lt, nat_le, Bool, ◌&&◌, cond, List, [], ◌∷◌, map}
use Rattle.std.specs.List.{range_with_len}
use Rattle.upc_values.specs.declared.order.Op.{Op}
use Rattle.upc_values.specs.Lists.{Each, Pairwise}
use Rattle.upc_verify_orders.specs.declared.table.Point.{Point}
use Rattle.upc_verify_orders.specs.layer.Reach.{behind_last, first_place}

-- The place of an operation in program order, by its name.
abbrev pub op_rank : Op → ℕ
op_rank n = 2 * n.index + cond n.write 0 1

-- A name is of o's thread, and o or before it.
abbrev pub is_until : Op → Op → Bool
is_until o s = (s.thread == o.thread) && nat_le (op_rank s) (op_rank o)

-- A name is of o's thread, and o or behind it.
abbrev pub is_from : Op → Op → Bool
is_from o s = (s.thread == o.thread) && nat_le (op_rank o) (op_rank s)

-- The place behind the last in the list of o's thread at or before o, 0 where there is none.
abbrev pub reached : List Op → Op → ℕ
reached strict o = behind_last (is_until o) strict

-- The place of the next in the list of o's thread at or behind o, the length where there is none.
abbrev pub reaches : List Op → Op → ℕ
reaches strict o = first_place (is_from o) strict

-- Two names of one thread stand in program order.
abbrev pub InThread : Op → Op → Type 0
InThread a b = a.thread ≡ b.thread → op_rank a < op_rank b

-- The points of thread t in the list, whose first member has place n.
abbrev pub points : ℕ → ℕ → List Op → List Point
points t n [] = []
points t n (s ∷ ss) =
    cond (s.thread == t) (record { rank = op_rank s; place = n } ∷ points t (n + 1) ss) (points t (n + 1) ss)

-- Those of each of so many threads.
abbrev pub tables : ℕ → List Op → List (List Point)
tables threads strict = map (λ t. points t 0 strict) (range_with_len 0 threads)

-- One more than the place of the last point of at most this rank, 0 where none is.
abbrev pub up_to : ℕ → List Point → ℕ
up_to r [] = 0
up_to r (p ∷ ps) = cond (nat_lt 0 (up_to r ps)) (up_to r ps) (cond (nat_le p.rank r) (p.place + 1) 0)

-- The place of the first point of at least this rank, `none` where there is none.
abbrev pub from_on : ℕ → ℕ → List Point → ℕ
from_on r none [] = none
from_on r none (p ∷ ps) = cond (nat_le r p.rank) p.place (from_on r none ps)

-- The list keeps program order, and the order keeps the strict order that it makes.
pub record AreKept (threads : ℕ) (strict order : List Op) : Type 0 where
  pub strict_below : Each (λ n. n.thread < threads) strict
  pub order_below : Each (λ n. n.thread < threads) order
  pub program : Pairwise InThread strict
  pub walked : Pairwise (λ a b. reached strict a ≤ reaches strict b) order
