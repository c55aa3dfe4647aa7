-- Beginnings of one list, and the members of one number in them.
use Rattle.std.proofs.Common.{◌≡◌, ℕ, zero, suc, ◌≤◌, ◌<◌, ◌≢◌, eqb, ne_eqb, eq-eqb, cond, List, [], ◌∷◌, ◌++◌, length, refl, ap, sym, subst, ◌∙◌, arith, append_assoc, length-append, append-nil, lt-ltb, le-ltb, true, false, ◌⊎◌, inl, inr, ⊎_elim}
use mathlib.Core.Logic.{dite}
use mathlib.Core.List.{IsPrefix}
use mathlib.Core.Option.{some, some-injective, some-ne-none}
use native.Mathlib.Decide.{dec_lt}
use lib.ListN.{get_elem?}
use Rattle.turn_cell.specs.layer.Members.{of, longer, Every}

pub inside : {A : Type 0} (l : List A) (i : ℕ) (a : A) → get_elem? l i ≡ some a → i < length l
inside [] i a e = absurd (some-ne-none a (sym e))
inside (x ∷ xs) zero a e = omega arith
inside (x ∷ xs) (suc i) a e = let h = inside xs i a e in omega arith

pub at_end : {A : Type 0} (l : List A) (a b : A) (j : ℕ) → get_elem? (l ++ a ∷ []) j ≡ some b → (get_elem? l j ≡ some b) ⊎ ((j ≡ length l) × (a ≡ b))
at_end [] a b zero e = inr (refl, some-injective a b e)
at_end [] a b (suc j) e = absurd (some-ne-none b (sym e))
at_end (x ∷ l) a b zero e = inl e
at_end (x ∷ l) a b (suc j) e = ⊎_elim (λ h. inl h) (λ h. inr (ap suc h.0, h.1)) (at_end l a b j e)

pub prefix_self : {A : Type 0} (xs : List A) → IsPrefix xs xs
prefix_self xs = ([], append-nil xs)

pub prefix_trans : {A : Type 0} (xs ys zs : List A) → IsPrefix xs ys → IsPrefix ys zs → IsPrefix xs zs
prefix_trans xs ys zs p q = (p.0 ++ q.0, sym (append_assoc xs p.0 q.0) ∙ (ap (λ w. w ++ q.0) p.1 ∙ q.1))

-- of two beginnings of one list the shorter begins the longer
pub prefix_shorter : {A : Type 0} (xs ys zs : List A) → IsPrefix xs zs → IsPrefix ys zs → length xs ≤ length ys → IsPrefix xs ys
prefix_shorter [] ys zs p q le = (ys, refl)
prefix_shorter (x ∷ xs) [] zs p q le = absurd (omega arith)
prefix_shorter (x ∷ xs) (y ∷ ys) [] p q le = absurd (cc (p.1))
prefix_shorter (x ∷ xs) (y ∷ ys) (z ∷ zs) p q le =
    let heads : x ≡ y = cc (p.1, q.1) in
    let rest = prefix_shorter xs ys zs (p.0, cc (p.1)) (q.0, cc (q.1)) (omega arith) in
    (rest.0, cc (heads, rest.1))

-- a beginning as long as the whole is the whole
pub prefix_whole : {A : Type 0} (xs ys : List A) → IsPrefix xs ys → length ys ≤ length xs → xs ≡ ys
prefix_whole [] [] p le = refl
prefix_whole [] (y ∷ ys) p le = absurd (omega arith)
prefix_whole (x ∷ xs) [] p le = absurd (cc (p.1))
prefix_whole (x ∷ xs) (y ∷ ys) p le =
    let rest = prefix_whole xs ys (p.0, cc (p.1)) (omega arith) in cc (p.1, rest)

pub prefix_length : {A : Type 0} (xs ys : List A) → IsPrefix xs ys → length xs ≤ length ys
prefix_length xs ys p = omega (arith, sym (ap length p.1) ∙ length-append xs p.0)

pub all_map : {A : Type 0} (P Q : A → Type 0) → ((x : A) → P x → Q x) → (xs : List A) → Every P xs → Every Q xs
all_map P Q f [] h = tt
all_map P Q f (x ∷ xs) h = (f x h.0, all_map P Q f xs h.1)

pub all_both : {A : Type 0} (P Q R : A → Type 0) → ((x : A) → P x → Q x → R x) → (xs : List A) → Every P xs → Every Q xs → Every R xs
all_both P Q R f [] h k = tt
all_both P Q R f (x ∷ xs) h k = (f x h.0 k.0, all_both P Q R f xs h.1 k.1)

pub all_append : {A : Type 0} (P : A → Type 0) (xs ys : List A) → Every P xs → Every P ys → Every P (xs ++ ys)
all_append P [] ys h k = k
all_append P (x ∷ xs) ys h k = (h.0, all_append P xs ys h.1 k)

module _ {M : Type 0} (number : M → ℕ) where
  pub of-append : (n : ℕ) (xs ys : List M) → of number n (xs ++ ys) ≡ of number n xs ++ of number n ys
  of-append n [] ys = refl
  of-append n (x ∷ xs) ys = elim (eqb (number x) n) as (λ b. cond b (x ∷ of number n (xs ++ ys)) (of number n (xs ++ ys)) ≡ cond b (x ∷ of number n xs) (of number n xs) ++ of number n ys)
      [ true ↦ ap (λ l. x ∷ l) (of-append n xs ys) | false ↦ of-append n xs ys ]

  pub of-none : (n k : ℕ) (xs : List M) → k ≢ n → Every (λ m. number m ≡ n) xs → of number k xs ≡ []
  of-none n k [] ne h = refl
  of-none n k (x ∷ xs) ne h = subst (λ b. cond b (x ∷ of number k xs) (of number k xs) ≡ []) (sym (ne_eqb (number x) k (λ e. ne (sym e ∙ h.0)))) (of-none n k xs ne h.1)

  pub of-all : (n : ℕ) (xs : List M) → Every (λ m. number m ≡ n) xs → of number n xs ≡ xs
  of-all n [] h = refl
  of-all n (x ∷ xs) h = ap (λ b. cond b (x ∷ of number n xs) (of number n xs)) (eq-eqb (number x) n h.0) ∙ ap (λ l. x ∷ l) (of-all n xs h.1)

  short : (a b c : List M) → (a ++ b) ++ c ≡ a → c ≡ []
  short a b [] e = refl
  short a b (x ∷ c) e = absurd (let k = length-append (a ++ b) (x ∷ c) in let l = length-append a b in let m = ap length e in omega arith)

  -- where nothing of n comes between xs and zs, nothing comes between xs and what lies between
  pub of-between : (n : ℕ) (xs ys zs : List M) → IsPrefix xs ys → IsPrefix ys zs → of number n xs ≡ of number n zs → of number n ys ≡ of number n zs
  of-between n xs ys zs p q e =
      let one : of number n xs ++ of number n p.0 ≡ of number n ys = sym (of-append n xs p.0) ∙ ap (of number n) p.1 in
      let two : of number n ys ++ of number n q.0 ≡ of number n zs = sym (of-append n ys q.0) ∙ ap (of number n) q.1 in
      let three : of number n q.0 ≡ [] = short (of number n xs) (of number n p.0) (of number n q.0) (ap (λ l. l ++ of number n q.0) one ∙ (two ∙ sym e)) in
      sym (append-nil (of number n ys)) ∙ (ap (λ l. of number n ys ++ l) (sym three) ∙ two)

  pub longer_of : (xs ys zs : List M) → IsPrefix xs zs → IsPrefix ys zs → IsPrefix (longer xs ys) zs × IsPrefix xs (longer xs ys) × IsPrefix ys (longer xs ys)
  longer_of xs ys zs p q = dite (dec_lt (length xs) (length ys))
      (λ lt. subst (λ b. IsPrefix (cond b ys xs) zs × IsPrefix xs (cond b ys xs) × IsPrefix ys (cond b ys xs)) (sym (lt-ltb (length xs) (length ys) lt)) (q, prefix_shorter xs ys zs p q (omega arith), prefix_self ys))
      (λ ge. subst (λ b. IsPrefix (cond b ys xs) zs × IsPrefix xs (cond b ys xs) × IsPrefix ys (cond b ys xs)) (sym (le-ltb (length xs) (length ys) (omega arith))) (p, prefix_self xs, prefix_shorter ys xs zs q p (omega arith)))
