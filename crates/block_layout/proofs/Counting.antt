-- The bytes of a thread, counted one by one, are those of its whole blocks and of what the last row has for it.
use Rattle.std.proofs.Common.{◌≡◌, ◌≢◌, ℕ, zero, suc, ◌+◌, ◌-◌, ◌*◌, ◌/◌, ◌%◌, ◌<◌, ◌≤◌, ◌==◌, min, ◌⊎◌, inl, inr, sym, ap, ◌∙◌, subst, arith}
use Rattle.std.proofs.Math.Nat.{zero-div, zero-mod}
use Rattle.std.proofs.lemmas.Nat.{div-mul-add, mod-mul-add, div-add-mod'}
use Rattle.std.proofs.lemmas.Bool.{cases_lt}
use Rattle.std.proofs.lemmas.Bool.Decides.{eqb_tells}
use Rattle.block_layout.specs.Pieces.{count_below}
use Rattle.block_layout.proofs.Numbers.{row-below}

-- The bytes of the thread among n, with blocks of c bytes on T threads.
abbrev pub closed : ℕ → ℕ → ℕ → ℕ → ℕ
closed n c t T = n / (c * T) * c + min (n % (c * T) - t * c) c

-- The thread of a byte is the block's place in its row.
place_in_row : (n c T : ℕ) → 0 < c → 0 < T → n / c % T ≡ n % (c * T) / c
place_in_row n c T h k =
    let q : ℕ = n / c in
    let low : q % T * c + n % c < c * T = row-below (q % T) (n % c) c T (omega arith) (omega arith) in
    let whole : q / T * (c * T) + (q % T * c + n % c) ≡ n = omega (arith, ap (λ x. x * c) (div-add-mod' q T), div-add-mod' n c) in
    let rest : n % (c * T) ≡ q % T * c + n % c = subst (λ x. x % (c * T) ≡ q % T * c + n % c) whole (mod-mul-add (q / T) (c * T) (q % T * c + n % c) low) in
    rw rest (sym (div-mul-add (q % T) c (n % c) (omega arith)))

-- A byte of the row is the thread's just where it lies in the thread's block.
in_block : (r c t : ℕ) → 0 < c → r / c ≡ t → (t * c ≤ r) × (r < t * c + c)
in_block r c t h e = let d : t * c + r % c ≡ r = subst (λ x. x * c + r % c ≡ r) e (div-add-mod' r c) in (omega arith, omega arith)

out_of_block : (r c t : ℕ) → 0 < c → r / c ≢ t → (r < t * c) ⊎ (t * c + c ≤ r)
out_of_block r c t h n =
    elim (cases_lt r (t * c)) [
      | inl p ↦ inl p
      | inr p ↦ elim (cases_lt r (t * c + c)) [
        | inl q ↦ absurd (n (subst (λ x. x / c ≡ t) (let e : t * c + (r - t * c) ≡ r = omega arith in e) (div-mul-add t c (r - t * c) (omega arith))))
        | inr q ↦ inr q
      ]
    ]

-- The quotient and the rest of the next number.
next_inside : (n R : ℕ) → suc (n % R) < R → (suc n / R ≡ n / R) × (suc n % R ≡ suc (n % R))
next_inside n R h =
    let e : n / R * R + suc (n % R) ≡ suc n = omega (arith, div-add-mod' n R) in
    (subst (λ x. x / R ≡ n / R) e (div-mul-add (n / R) R (suc (n % R)) h), subst (λ x. x % R ≡ suc (n % R)) e (mod-mul-add (n / R) R (suc (n % R)) h))

next_row : (n R : ℕ) → 0 < R → suc (n % R) ≡ R → (suc n / R ≡ suc (n / R)) × (suc n % R ≡ 0)
next_row n R p h =
    let e : suc (n / R) * R + 0 ≡ suc n = omega (arith, div-add-mod' n R) in
    (subst (λ x. x / R ≡ suc (n / R)) e (div-mul-add (suc (n / R)) R 0 p), subst (λ x. x % R ≡ 0) e (mod-mul-add (suc (n / R)) R 0 p))

-- One byte more, of the thread or of another.
gains : (n c t T : ℕ) → 0 < c → t < T → n / c % T ≡ t → closed (suc n) c t T ≡ suc (closed n c t T)
gains n c t T h k e =
    let R : ℕ = c * T in
    let fits : t * c + (c - 1) < R = row-below t (c - 1) c T k (omega arith) in
    let mine : (t * c ≤ n % R) × (n % R < t * c + c) = in_block (n % R) c t h (sym (place_in_row n c T h (omega arith)) ∙ e) in
    elim (cases_lt (suc (n % R)) R) [
      | inl p ↦ rw ((next_inside n R p).0, (next_inside n R p).1) (omega arith)
      | inr p ↦ let last : suc (n % R) ≡ R = omega arith in rw ((next_row n R (omega arith) last).0, (next_row n R (omega arith) last).1) (omega arith)
    ]

stays : (n c t T : ℕ) → 0 < c → t < T → n / c % T ≢ t → closed (suc n) c t T ≡ closed n c t T
stays n c t T h k ne =
    let R : ℕ = c * T in
    let fits : t * c + (c - 1) < R = row-below t (c - 1) c T k (omega arith) in
    let other : (n % R < t * c) ⊎ (t * c + c ≤ n % R) = out_of_block (n % R) c t h (λ d. ne (place_in_row n c T h (omega arith) ∙ d)) in
    elim (cases_lt (suc (n % R)) R) [
      | inl p ↦ rw ((next_inside n R p).0, (next_inside n R p).1) (elim other [ inl o ↦ omega arith | inr o ↦ omega arith ])
      | inr p ↦ let last : suc (n % R) ≡ R = omega arith in rw ((next_row n R (omega arith) last).0, (next_row n R (omega arith) last).1) (elim other [ inl o ↦ omega arith | inr o ↦ omega arith ])
    ]

-- The count is the closed formula.
pub count-closed : (n c t T : ℕ) → 0 < c → t < T → closed n c t T ≡ count_below (λ x. x / c % T == t) n
count-closed zero c t T h k = rw (zero-div (c * T), zero-mod (c * T)) (omega arith)
count-closed (suc n) c t T h k =
    elim (eqb_tells (n / c % T) t) [
      | inl y ↦ rw y.0 (gains n c t T h k y.1 ∙ ap suc (count-closed n c t T h k))
      | inr y ↦ rw y.0 (stays n c t T h k y.1 ∙ count-closed n c t T h k)
    ]
