-- The parts of the calls that copy: where they lie in the destination and in the source, and that they make up all of
-- the destination.
use Rattle.std.proofs.Common.{◌≡◌, ℕ, ◌+◌, ◌*◌, ◌/◌, ◌%◌, ◌<◌, ◌==◌, Bool, true, false, cond, List, [], ◌∷◌, map, inl}
use Rattle.std.proofs.Common.{inr, refl, sym, ap, ◌∙◌, subst, arith}
use Rattle.std.specs.List.{range_with_len}
use Rattle.std.proofs.lemmas.Bool.{cond-true, eq-eqb}
use Rattle.std.proofs.lemmas.Nat.{div-mul-add, mod-mul-add, div-add-mod', div_below, mod_below}
use Rattle.std.proofs.Math.Nat.{mul_comm}
use Rattle.block_layout.specs.declared.place.SharedPtr.{SharedPtr}
use Rattle.block_layout.specs.declared.kind.Shape.{Shape}
use Rattle.block_layout.proofs.Numbers.{row-below}
use Rattle.upc_values.specs.Lists.{Has}
use Rattle.upc_values.specs.Calls.{Way, Broadcast, Scatter, Gather, Gather_all, Exchange}
use Rattle.upc_values.specs.Expansions.{Part, goes, parts}
use Rattle.upc_values.specs.Views.{destination, source}
use Rattle.upc_values.specs.Collective.{source_byte}
use Rattle.collective_laws_steps.proofs.Lists.{map_from, map_has, range_below, range_has}

-- The byte of the destination at which part i of thread t begins.
abbrev pub part_into : Way → (threads n t i : ℕ) → ℕ
part_into Broadcast threads n t i = t * n
part_into Scatter threads n t i = t * n
part_into Gather threads n t i = i * n
part_into Gather_all threads n t i = t * (n * threads) + i * n
part_into Exchange threads n t i = t * (n * threads) + i * n

-- The byte of the source at which it begins.
abbrev pub part_from : Way → (threads n t i : ℕ) → ℕ
part_from Broadcast threads n t i = 0
part_from Scatter threads n t i = t * n
part_from Gather threads n t i = i * n
part_from Gather_all threads n t i = i * n
part_from Exchange threads n t i = i * (n * threads) + t * n

-- ---- numbers

pub in_block : (q o b r x : ℕ) → x ≡ q * b + o → o + r < b → x % b + r < b
in_block q o b r x e h =
    let left : x % b ≡ o = ap (λ y. y % b) e ∙ mod-mul-add q b o (omega arith) in omega arith

two_rows : (t i n T r : ℕ) → t < T → i < T → r < n → t * (n * T) + i * n + r < n * T * T
two_rows t i n T r ht hi hr =
    let below = row-below t (i * n + r) (n * T) T ht (row-below i r n T hi hr) in omega (arith, below)

mod_two : (t i n T r : ℕ) → i < T → r < n → (t * (n * T) + i * n + r) % (n * T) ≡ i * n + r
mod_two t i n T r hi hr =
    let sum : t * (n * T) + i * n + r ≡ t * (n * T) + (i * n + r) = omega arith in
    ap (λ x. x % (n * T)) sum ∙ mod-mul-add t (n * T) (i * n + r) (row-below i r n T hi hr)

div_two : (t i n T r : ℕ) → i < T → r < n → (t * (n * T) + i * n + r) / (n * T) ≡ t
div_two t i n T r hi hr =
    let sum : t * (n * T) + i * n + r ≡ t * (n * T) + (i * n + r) = omega arith in
    ap (λ x. x / (n * T)) sum ∙ div-mul-add t (n * T) (i * n + r) (row-below i r n T hi hr)

exchanged : (t i n T r : ℕ) → i < T → r < n
    → source_byte Exchange T n (t * (n * T) + i * n + r) ≡ i * (n * T) + t * n + r
exchanged t i n T r hi hr =
    let x : ℕ = t * (n * T) + i * n + r in
    ap (λ y. y / n * (n * T) + x / (n * T) * n + y % n) (mod_two t i n T r hi hr)
    ∙ ap (λ q. (i * n + r) / n * (n * T) + q * n + (i * n + r) % n) (div_two t i n T r hi hr)
    ∙ ap (λ q. q * (n * T) + t * n + (i * n + r) % n) (div-mul-add i n r hr)
    ∙ ap (λ m. i * (n * T) + t * n + m) (mod-mul-add i n r hr)

-- A part of n bytes from x of the destination and from y of the source on: it lies within both, in one block on each
-- side, and its bytes are those of the call.
pub record Fits (w : Way) (threads n x y : ℕ) : Type 0 where
  pub fits : (r : ℕ) → r < n → x + r < (destination w threads n).bytes
  pub reads : (r : ℕ) → r < n → y + r < (source w threads n).bytes
  pub into_block :
      (r : ℕ) → r < n → 0 < (destination w threads n).block
      → x % (destination w threads n).block + r < (destination w threads n).block
  pub from_block :
      (r : ℕ) → r < n → 0 < (source w threads n).block
      → y % (source w threads n).block + r < (source w threads n).block
  pub source_is : (r : ℕ) → r < n → source_byte w threads n (x + r) ≡ y + r

pub fits_all : (w : Way) (T n t i : ℕ) → t < T → i < T → Fits w T n (part_into w T n t i) (part_from w T n t i)
fits_all Broadcast T n t i ht hi = record {
  fits = λ r lt. row-below t r n T ht lt;
  reads = λ r lt. omega arith;
  into_block = λ r lt b. in_block t 0 n r (t * n) (omega arith) (omega arith);
  from_block = λ r lt b. absurd (omega arith);
  source_is = λ r lt. mod-mul-add t n r lt ∙ omega arith;
}
fits_all Scatter T n t i ht hi = record {
  fits = λ r lt. row-below t r n T ht lt;
  reads = λ r lt. row-below t r n T ht lt;
  into_block = λ r lt b. in_block t 0 n r (t * n) (omega arith) (omega arith);
  from_block = λ r lt b. absurd (omega arith);
  source_is = λ r lt. refl;
}
fits_all Gather T n t i ht hi = record {
  fits = λ r lt. row-below i r n T hi lt;
  reads = λ r lt. row-below i r n T hi lt;
  into_block = λ r lt b. absurd (omega arith);
  from_block = λ r lt b. in_block i 0 n r (i * n) (omega arith) (omega arith);
  source_is = λ r lt. refl;
}
fits_all Gather_all T n t i ht hi = record {
  fits = λ r lt. two_rows t i n T r ht hi lt;
  reads = λ r lt. row-below i r n T hi lt;
  into_block = λ r lt b. in_block t (i * n) (n * T) r (t * (n * T) + i * n) refl (row-below i r n T hi lt);
  from_block = λ r lt b. in_block i 0 n r (i * n) (omega arith) (omega arith);
  source_is = λ r lt. mod_two t i n T r hi lt;
}
fits_all Exchange T n t i ht hi = record {
  fits = λ r lt. two_rows t i n T r ht hi lt;
  reads = λ r lt. two_rows i t n T r hi ht lt;
  into_block = λ r lt b. in_block t (i * n) (n * T) r (t * (n * T) + i * n) refl (row-below i r n T hi lt);
  from_block = λ r lt b. in_block i (t * n) (n * T) r (i * (n * T) + t * n) refl (row-below t r n T ht lt);
  source_is = λ r lt. exchanged t i n T r hi lt;
}

-- A byte of the destination by thread, part and place in the part; in a gather the thread may be any.
pub record Numbered (w : Way) (threads n home x : ℕ) : Type 0 where
  pub thread : ℕ
  pub index : ℕ
  pub rest : ℕ
  pub thread_below : thread < threads
  pub index_below : index < threads
  pub less : rest < n
  pub sum : x ≡ part_into w threads n thread index + rest
  pub at_home : w ≡ Gather → thread ≡ home

pub by_row : (n T x : ℕ) → 0 < n → x < n * T → (x / n < T) × (x % n < n) × (x ≡ x / n * n + x % n)
by_row n T x h lt =
    (div_below x n T h (subst (λ m. x < m) (mul_comm n T) lt), mod_below x n h, sym (div-add-mod' x n))

by_two : (n T x : ℕ) → 0 < n → 0 < T → x < n * T * T
    → x ≡ x / (n * T) * (n * T) + x % (n * T) / n * n + x % (n * T) % n
by_two n T x h k lt =
    let a = div-add-mod' x (n * T) in
    let b = div-add-mod' (x % (n * T)) n in
    omega (arith, a, b)

some_product : (n T : ℕ) → 0 < n → 0 < T → 0 < n * T
some_product n T h k = let b = row-below 0 0 n T k h in omega (arith, b)

numbered_two : (w : Way) (n T home x : ℕ) → (w ≡ Gather → ⊥)
    → ((t i r : ℕ) → part_into w T n t i + r ≡ t * (n * T) + i * n + r) → 0 < n → 0 < T → x < n * T * T
    → Numbered w T n home x
numbered_two w n T home x other is h k lt =
    let some : 0 < n * T = some_product n T h k in
    let row = by_row (n * T) T x some lt in
    let part = by_row n T (x % (n * T)) h row.1 in
    record {
      thread = x / (n * T);
      index = x % (n * T) / n;
      rest = x % (n * T) % n;
      thread_below = row.0;
      index_below = part.0;
      less = part.1;
      sum = by_two n T x h k lt ∙ sym (is (x / (n * T)) (x % (n * T) / n) (x % (n * T) % n));
      at_home = λ e. absurd (other e);
    }

pub numbered : (w : Way) (T n home x : ℕ) → 0 < n → home < T → x < (destination w T n).bytes → Numbered w T n home x
numbered Broadcast T n home x h k lt =
    let row = by_row n T x h lt in
    record {
      thread = x / n;
      index = 0;
      rest = x % n;
      thread_below = row.0;
      index_below = omega arith;
      less = row.1;
      sum = row.2;
      at_home = λ e. absurd cc;
    }
numbered Scatter T n home x h k lt =
    let row = by_row n T x h lt in
    record {
      thread = x / n;
      index = 0;
      rest = x % n;
      thread_below = row.0;
      index_below = omega arith;
      less = row.1;
      sum = row.2;
      at_home = λ e. absurd cc;
    }
numbered Gather T n home x h k lt =
    let row = by_row n T x h lt in
    record {
      thread = home;
      index = x / n;
      rest = x % n;
      thread_below = k;
      index_below = row.0;
      less = row.1;
      sum = row.2;
      at_home = λ e. refl;
    }
numbered Gather_all T n home x h k lt =
    numbered_two Gather_all n T home x (λ e. cc) (λ t i r. refl) h (omega arith) lt
numbered Exchange T n home x h k lt =
    numbered_two Exchange n T home x (λ e. cc) (λ t i r. refl) h (omega arith) lt

-- A call of no byte has none in its destination.
pub no_bytes : (w : Way) (T x : ℕ) → x < (destination w T 0).bytes → ⊥
no_bytes Broadcast T x h = omega arith
no_bytes Scatter T x h = omega arith
no_bytes Gather T x h = omega arith
no_bytes Gather_all T x h = omega arith
no_bytes Exchange T x h = omega arith

-- ---- the parts of a thread

module _ (threads : ℕ) (shapes : List Shape) (t : ℕ) (w : Way) (dst src : SharedPtr) (n : ℕ) where
  -- Part i of the thread.
  abbrev pub part_at : ℕ → Part
  part_at i = goes threads shapes t w dst src n (part_from w threads n t i) (part_into w threads n t i)

  -- A part of the thread by its number.
  pub record IsPartAt (x : Part) : Type 0 where
    pub index : ℕ
    pub below : index < threads
    pub is : part_at index ≡ x

module _ (threads : ℕ) (shapes : List Shape) (t : ℕ) (dst src : SharedPtr) (n : ℕ) where
  in_all : (w : Way) (x : Part) → Has (map (part_at threads shapes t w dst src n) (range_with_len 0 threads)) x
      → IsPartAt threads shapes t w dst src n x
  in_all w x h =
      let c = map_from (part_at threads shapes t w dst src n) (range_with_len 0 threads) x h in
      record { index = c.from; below = let b = (range_below 0 threads c.from c.has).1 in omega (arith, b); is = c.is }

  one_part : (w : Way) (x : Part) → 0 < threads → Has (part_at threads shapes t w dst src n 0 ∷ []) x
      → IsPartAt threads shapes t w dst src n x
  one_part w x h (inl e) = record { index = 0; below = h; is = e }
  one_part w x h (inr m) = absurd m

  if_home : (b : Bool) (x : Part) (xs : List Part) → Has (cond b xs []) x → Has xs x
  if_home true x xs h = h
  if_home false x xs h = absurd h

  -- Each part of the thread has a number,
  pub parts_from : (w : Way) (x : Part) → 0 < threads → Has (parts threads shapes t w dst src n) x
      → IsPartAt threads shapes t w dst src n x
  parts_from Broadcast x h m = one_part Broadcast x h m
  parts_from Scatter x h m = one_part Scatter x h m
  parts_from Gather x h m = in_all Gather x (if_home (dst.thread == t) x _ m)
  parts_from Gather_all x h m = in_all Gather_all x m
  parts_from Exchange x h m = in_all Exchange x m

  all_has : (w : Way) (i : ℕ) → i < threads
      → Has (map (part_at threads shapes t w dst src n) (range_with_len 0 threads))
      (part_at threads shapes t w dst src n i)
  all_has w i lt =
      map_has (part_at threads shapes t w dst src n) (range_with_len 0 threads) i
      (range_has 0 threads i (omega arith) (omega arith))

  -- and each number is one of its parts; a gather is done by the thread of the destination.
  pub parts_have : (w : Way) (i : ℕ) → i < threads → (w ≡ Gather → t ≡ dst.thread)
      → Has (parts threads shapes t w dst src n) (part_at threads shapes t w dst src n i)
  parts_have Broadcast i lt home = inl refl
  parts_have Scatter i lt home = inl refl
  parts_have Gather i lt home =
      subst (λ (l : List Part). Has l (part_at threads shapes t Gather dst src n i))
      (sym (cond-true (dst.thread == t) (map (part_at threads shapes t Gather dst src n) (range_with_len 0 threads)) []
      (eq-eqb dst.thread t (sym (home refl)))))
      (all_has Gather i lt)
  parts_have Gather_all i lt home = all_has Gather_all i lt
  parts_have Exchange i lt home = all_has Exchange i lt
