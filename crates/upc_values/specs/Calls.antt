-- What a collective call asks for, by its number and arguments.
use Rattle.std.specs.Prelude.{ℕ, ◌==◌, nat_lt, ℤ, unsigned_abs, Bool, ◌&&◌, cond, List, [], ◌∷◌, Option, Some, None}
use Rattle.block_layout.specs.declared.place.SharedPtr.{SharedPtr}
use Rattle.block_layout.specs.declared.kind.Kind.TheVariants as kind
use Rattle.upc_values.specs.declared.scalar.Scalar.{Scalar}
use Rattle.upc_values.specs.declared.scalar.Scalar.TheVariants.{Int, Shared, Lock}
use Rattle.block_layout.specs.Lists.{under}
use Rattle.integers.specs.Integers.{in_kind}

-- The ways in which a collective call copies blocks (UPC 7.3).
pub data Way : Type 0 where
  Broadcast : Way
  Scatter : Way
  Gather : Way
  Gather_all : Way
  Exchange : Way

-- A collective call with its arguments, by number (UPC 7.2.2, 7.2.4, 7.3).
pub data Call : Type 0 where
  -- 1: upc_all_alloc (UPC 7.2.2)
  Allocates : (nblocks nbytes shape : ℕ) → Call
  -- 2: upc_all_lock_alloc (UPC 7.2.4)
  Makes_lock : Call
  -- 3: upc_all_free (UPC 7.2.2)
  Frees : (p : SharedPtr) → Call
  -- 4: upc_all_lock_free (UPC 7.2.4)
  Frees_lock : (l : ℕ) → Call
  -- 5 to 9: upc_all_broadcast, scatter, gather, gather_all, exchange (UPC 7.3)
  Copies : (way : Way) (dst src : SharedPtr) (n : ℕ) (flags : ℤ) → Call
  -- 10: upc_all_permute (UPC 7.3)
  Permutes : (dst src perm : SharedPtr) (n : ℕ) (flags : ℤ) → Call
  -- 11: upc_all_reduce (UPC 7.3)
  Reduces : (dst src : SharedPtr) (op : ℤ) (nelems blk kind : ℕ) (flags : ℤ) → Call
  -- 12: upc_all_prefix_reduce (UPC 7.3)
  Reduces_prefixes : (dst src : SharedPtr) (op : ℤ) (nelems blk kind : ℕ) (flags : ℤ) → Call
  -- no call of these
  Other : Call

-- The number lies in the range of size_t (C99 6.2.5, 7.17).
abbrev pub is_size : ℤ → Bool
is_size v = in_kind kind.ULong v

-- The number lies in the range of int (C99 6.2.5).
abbrev pub is_int : ℤ → Bool
is_int v = in_kind kind.Int v

-- The way in which the collective call with this number copies, if it is one that copies (UPC 7.3).
abbrev pub way_of : ℕ → Option Way
way_of c = under c ((5, Broadcast) ∷ (6, Scatter) ∷ (7, Gather) ∷ (8, Gather_all) ∷ (9, Exchange) ∷ [])

-- The collective call with this number and these arguments, if they are of its parameters' types and in their ranges
-- (UPC 7.2.2, 7.2.4, 7.3).
abbrev pub call_of : ℕ → List Scalar → Call
call_of c (Int n ∷ Int b ∷ Int s ∷ []) =
    cond ((c == 1) && (is_size n && (is_size b && is_size s)))
    (Allocates (unsigned_abs n) (unsigned_abs b) (unsigned_abs s)) Other
call_of c [] = cond (c == 2) Makes_lock Other
call_of c (Shared p ∷ []) = cond (c == 3) (Frees p) Other
call_of c (Lock l ∷ []) = cond (c == 4) (Frees_lock l) Other
call_of c (Shared dst ∷ Shared src ∷ Int n ∷ Int f ∷ []) =
    cond (is_size n && is_int f)
    (elim (way_of c) [ Some w ↦ Copies w dst src (unsigned_abs n) f | None ↦ Other ]) Other
call_of c (Shared dst ∷ Shared src ∷ Shared perm ∷ Int n ∷ Int f ∷ []) =
    cond ((c == 10) && (is_size n && is_int f)) (Permutes dst src perm (unsigned_abs n) f) Other
call_of c (Shared dst ∷ Shared src ∷ Int op ∷ Int n ∷ Int b ∷ Int k ∷ Int f ∷ []) =
    cond (is_int op && (is_size n && (is_size b && (is_size k && (nat_lt (unsigned_abs k) 8 && is_int f)))))
    (cond (c == 11) (Reduces dst src op (unsigned_abs n) (unsigned_abs b) (unsigned_abs k) f)
    (cond (c == 12) (Reduces_prefixes dst src op (unsigned_abs n) (unsigned_abs b) (unsigned_abs k) f) Other))
    Other
call_of c args = Other
