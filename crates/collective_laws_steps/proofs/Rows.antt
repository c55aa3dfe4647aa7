-- Elements of a view: each has a location of its own, and the bytes of a block follow one another.
use Rattle.std.proofs.Common.{◌≡◌, ℕ, zero, suc, ◌+◌, ◌*◌, ◌/◌, ◌%◌, ◌<◌, true, false, refl, sym, ap, ◌∙◌, subst, arith}
use Rattle.std.proofs.Common.{int_le}
use Rattle.std.specs.Prelude.{ℤ, pos, negsuc, ◌+ℤ◌, ◌-ℤ◌, unsigned_abs}
use Rattle.std.proofs.lemmas.Int.{ints}
use Rattle.std.proofs.lemmas.Bool.{and_parts, false≢true, not-false}
use Rattle.std.proofs.lemmas.Nat.{div-mul-add, mod-mul-add, div-add-mod'}
use Rattle.std.proofs.Math.Nat.{div-div-eq-div-mul, mul-div_cancel, mul-add-mod_self_right}
use Rattle.block_layout.specs.declared.place.ObjectRef.{ObjectRef}
use Rattle.block_layout.specs.declared.place.SharedPtr.{SharedPtr}
use Rattle.block_layout.specs.declared.place.Loc.{Loc}
use Rattle.block_layout.specs.Pieces.{piece_of}
use Rattle.block_layout.specs.Pointers.{location}
use Rattle.upc_values.specs.Views.{element, byte_at, location_behind, leaves_piece, is_within}

-- The number is at least 0.
abbrev pub IsFromZero : ℤ → Type 0
IsFromZero z = z ≡ pos (unsigned_abs z)

pub from_zero : (z : ℤ) → int_le (pos 0) z ≡ true → IsFromZero z
from_zero (pos n) h = refl
from_zero (negsuc n) h = absurd (false≢true h)

-- What does not leave its piece has an offset of at least 0.
pub piece_from_zero : (T n : ℕ) (p : SharedPtr) → leaves_piece T n p ≡ false → IsFromZero p.offset
piece_from_zero T n p h =
    from_zero p.offset
    (and_parts (int_le (pos 0) p.offset) (int_le (p.offset +ℤ pos n) (pos (piece_of p.object p.thread T)))
    (not-false (is_within p.offset n (piece_of p.object p.thread T)) h)).0

-- ---- numbers

-- A number by the quotient of a quotient and what is left.
by_quotients : (b T e f : ℕ) → 0 < b → 0 < T → e / b % T ≡ f / b % T → e / b / T ≡ f / b / T → e % b ≡ f % b → e ≡ f
by_quotients b T e f hb hT p q r =
    let rows : e / b ≡ f / b =
    sym (div-add-mod' (e / b) T) ∙ ap (λ n. n * T + e / b % T) q ∙ ap (λ n. f / b / T * T + n) p
    ∙ div-add-mod' (f / b) T in
    sym (div-add-mod' e b) ∙ ap (λ n. n * b + e % b) rows ∙ ap (λ n. f / b * b + n) r ∙ div-add-mod' f b

-- Equal rows of blocks have equal parts.
same_rows : (b m n r s : ℕ) → r < b → s < b → m * b + r ≡ n * b + s → (m ≡ n) × (r ≡ s)
same_rows b m n r s hr hs e = (
  sym (div-mul-add m b r hr) ∙ ap (λ x. x / b) e ∙ div-mul-add n b s hs,
  sym (mod-mul-add m b r hr) ∙ ap (λ x. x % b) e ∙ mod-mul-add n b s hs,
)

same_times : (size m n : ℕ) → 0 < size → m * size ≡ n * size → m ≡ n
same_times size m n h e = sym (mul-div_cancel m h) ∙ ap (λ x. x / size) e ∙ mul-div_cancel n h

same_sums : (z : ℤ) (m n : ℕ) → z +ℤ pos m ≡ z +ℤ pos n → m ≡ n
same_sums z m n e = omega (arith, ints)

-- Where element e of an array with block b lies.
same_element : (b T size e f : ℕ) (z : ℤ) → 0 < b → 0 < T → 0 < size → e / b % T ≡ f / b % T
    → z +ℤ pos ((e / (b * T) * b + e % b) * size) ≡ z +ℤ pos ((f / (b * T) * b + f % b) * size) → e ≡ f
same_element b T size e f z hb hT hs p q =
    let rows = same_rows b (e / (b * T)) (f / (b * T)) (e % b) (f % b) (omega arith) (omega arith)
    (same_times size (e / (b * T) * b + e % b) (f / (b * T) * b + f % b) hs
    (same_sums z ((e / (b * T) * b + e % b) * size) ((f / (b * T) * b + f % b) * size) q)) in
    by_quotients b T e f hb hT p
    (div-div-eq-div-mul e b T ∙ rows.0 ∙ sym (div-div-eq-div-mul f b T)) rows.1

-- ---- elements

-- Equal locations have equal threads and offsets.
same_offsets : (x y : ℤ) → IsFromZero x → IsFromZero y → unsigned_abs x ≡ unsigned_abs y → x ≡ y
same_offsets x y h k e = h ∙ ap pos e ∙ sym k

swapped : (x y : ℤ) → x +ℤ y ≡ y +ℤ x
swapped x y = omega (arith, ints)

-- Two elements of a view at one location are one.
pub one_element : (p : SharedPtr) (b size T i j : ℕ) → 0 < size → 0 < T
    → IsFromZero (element p b size T i).offset → IsFromZero (element p b size T j).offset
    → location (element p b size T i) ≡ location (element p b size T j) → i ≡ j
one_element p zero size T i j hs hT h k e =
    same_times size i j hs
    (same_sums p.offset (i * size) (j * size)
    (same_offsets (p.offset +ℤ pos (i * size)) (p.offset +ℤ pos (j * size)) h k (ap (λ (l : Loc). l.offset) e)))
one_element p (suc c) size T i j hs hT h k e =
    let z : ℤ = p.offset -ℤ pos (p.phase * size) in
    let bytes : ℕ → ℕ = λ n. ((p.thread * suc c + p.phase + n) / (suc c * T) * suc c
    + (p.thread * suc c + p.phase + n) % suc c) * size in
    let same = same_element (suc c) T size (p.thread * suc c + p.phase + i) (p.thread * suc c + p.phase + j) z
    (omega arith) hT hs (ap (λ (l : Loc). l.thread) e)
    (swapped z (pos (bytes i))
    ∙ same_offsets (element p (suc c) size T i).offset (element p (suc c) size T j).offset h k
    (ap (λ (l : Loc). l.offset) e)
    ∙ swapped (pos (bytes j)) z) in
    omega (arith, same)

-- ---- bytes

-- A pointer so many bytes after another, on the same thread.
pub record IsBehind (p q : SharedPtr) (r : ℕ) : Type 0 where
  pub object : q.object ≡ p.object
  pub thread : q.thread ≡ p.thread
  pub offset : q.offset ≡ p.offset +ℤ pos r

-- A byte r after byte x in its block, of an array of char.
further : (b T e r : ℕ) → 0 < b → 0 < T → e % b + r < b
    → ((e + r) / b ≡ e / b) × ((e + r) % b ≡ e % b + r)
further b T e r hb hT lt =
    let whole : e + r ≡ e / b * b + (e % b + r) = omega (arith, div-add-mod' e b) in (
      ap (λ x. x / b) whole ∙ div-mul-add (e / b) b (e % b + r) lt,
      ap (λ x. x % b) whole ∙ mod-mul-add (e / b) b (e % b + r) lt,
    )

offset_further : (z : ℤ) (b T e f r : ℕ) → f / b ≡ e / b → f % b ≡ e % b + r
    → z +ℤ pos ((f / (b * T) * b + f % b) * 1) ≡ z +ℤ pos ((e / (b * T) * b + e % b) * 1) +ℤ pos r
offset_further z b T e f r p q =
    let rows : f / (b * T) ≡ e / (b * T) =
    sym (div-div-eq-div-mul f b T) ∙ ap (λ x. x / T) p ∙ div-div-eq-div-mul e b T in
    ap (λ x. z +ℤ pos ((x * b + f % b) * 1)) rows ∙ ap (λ x. z +ℤ pos ((e / (b * T) * b + x) * 1)) q
    ∙ omega (arith, ints)

plus_none : (n : ℕ) → n + 0 ≡ n
plus_none n = omega arith

-- In an array of char a byte r further on in a block lies r bytes further on.
pub byte_behind : (p : SharedPtr) (b T x r : ℕ) → 0 < T → (0 < b → x % b + r < b)
    → IsBehind (byte_at p b T x) (byte_at p b T (x + r)) r
byte_behind p zero T x r hT h = record { object = refl; thread = refl; offset = omega (arith, ints) }
byte_behind p (suc c) T x r hT h =
    let b : ℕ = suc c in
    let e : ℕ = p.thread * suc c + 0 + x in
    let f : ℕ = p.thread * suc c + 0 + (x + r) in
    let left : e % suc c ≡ x % suc c =
    ap (λ n. (n + x) % suc c) (plus_none (p.thread * suc c)) ∙ mul-add-mod_self_right p.thread (suc c) x in
    let lt : e % suc c + r < suc c = subst (λ n. n + r < suc c) (sym left) (h (omega arith)) in
    let next = further (suc c) T e r (omega arith) hT lt in
    let sum : f ≡ e + r = omega arith in
    let quotients : f / suc c ≡ e / suc c = ap (λ n. n / suc c) sum ∙ next.0 in
    let rests : f % suc c ≡ e % suc c + r = ap (λ n. n % suc c) sum ∙ next.1 in
    let z : ℤ = p.offset -ℤ pos (0 * 1) in
    let bytes : ℕ → ℕ = λ n. (n / (suc c * T) * suc c + n % suc c) * 1 in
    record {
      object = refl;
      thread = ap (λ n. n % T) quotients;
      offset = swapped (pos (bytes f)) z ∙ offset_further z (suc c) T e f r quotients rests
          ∙ ap (λ y. y +ℤ pos r) (swapped z (pos (bytes e)));
    }

sum_from_zero : (z : ℤ) (r : ℕ) → IsFromZero z → z +ℤ pos r ≡ pos (unsigned_abs (z +ℤ pos r))
sum_from_zero (pos n) r h = refl
sum_from_zero (negsuc n) r h = absurd cc

-- A pointer that lies behind another one: its offset is from 0, and its location is so many bytes after it.
pub behind_from_zero : (p q : SharedPtr) (r : ℕ) → IsBehind p q r → IsFromZero p.offset → IsFromZero q.offset
behind_from_zero p q r h z = h.offset ∙ sum_from_zero p.offset r z ∙ ap (λ x. pos (unsigned_abs x)) (sym h.offset)

abs_further : (z : ℤ) (r : ℕ) → IsFromZero z → unsigned_abs (z +ℤ pos r) ≡ unsigned_abs z + r
abs_further (pos n) r h = refl
abs_further (negsuc n) r h = absurd cc

pub behind_offset : (p q : SharedPtr) (r : ℕ) → IsBehind p q r → IsFromZero p.offset
    → unsigned_abs q.offset ≡ unsigned_abs p.offset + r
behind_offset p q r h z = ap unsigned_abs h.offset ∙ abs_further p.offset r z

pub behind_location : (p q : SharedPtr) (r : ℕ) → IsBehind p q r → IsFromZero p.offset
    → location q ≡ location_behind p r
behind_location p q r h z =
    let object = ap (λ (o : ObjectRef). o.number) h.object in
    let thread = h.thread in
    let offset = behind_offset p q r h z in
    λ i. record { object = object i; thread = thread i; offset = offset i }

-- A byte further on in a block, as a location.
pub byte_location : (p : SharedPtr) (b T x r : ℕ) → 0 < T → (0 < b → x % b + r < b)
    → IsFromZero (byte_at p b T x).offset
    → location_behind (byte_at p b T x) r ≡ location (byte_at p b T (x + r))
byte_location p b T x r hT h z =
    sym (behind_location (byte_at p b T x) (byte_at p b T (x + r)) r (byte_behind p b T x r hT h) z)
