-- What collective calls ask for, by their arguments, read one by one.
use Rattle.std.proofs.Common.{◌≡◌, ◌≢◌, ℕ, ◌<◌, ◌≤◌, ℤ, ◌==◌, ◌&&◌, ◌||◌, unsigned_abs, nat_lt, Bool, true, false, cond, List, [], ◌∷◌, length, get_or, Some, None, is_some, refl, sym, ap, ◌∙◌, arith}
use Rattle.block_layout.specs.declared.place.SharedPtr.{SharedPtr}
use Rattle.upc_values.specs.declared.scalar.Scalar.{Scalar}
use Rattle.upc_values.specs.declared.scalar.Scalar.TheVariants.{Int, Shared, Lock}
use Rattle.upc_values.specs.Calls as said
use Rattle.upc_values.specs.Calls.{call_of, is_size, is_int}
use Rattle.memory_history.specs.declared.calls.Asked.TheVariants as asks
use Rattle.memory_history.specs.code.Calls.{asked_of, shared_in, size_in, has_kind, are_numbers, reduced}

-- ---- seven arguments

either-asked : (x y : Bool) (d s : SharedPtr) (o : ℤ) (n b k : ℕ) (f : ℤ)
    → asked_of (cond x (said.Reduces d s o n b k f) (cond y (said.Reduces_prefixes d s o n b k f) said.Other)) ≡ cond (x || y) (asks.Uses d s) asks.Nothing
either-asked true y d s o n b k f = refl
either-asked false true d s o n b k f = refl
either-asked false false d s o n b k f = refl

seven-numbers : (c : ℕ) (d s : SharedPtr) (o : ℤ) (n b k : ℕ) (f : ℤ) (p q r t u v : Bool)
    → asked_of
    (cond (p && (q && (r && (t && (u && v)))))
    (cond (c == 11) (said.Reduces d s o n b k f) (cond (c == 12) (said.Reduces_prefixes d s o n b k f) said.Other)) said.Other)
    ≡ reduced c (Some d) (Some s) (p && (is_some (cond q (Some n) None) && (is_some (cond r (Some b) None) && ((t && u) && v))))
seven-numbers c d s o n b k f true true true true true true = either-asked (c == 11) (c == 12) d s o n b k f
seven-numbers c d s o n b k f true true true true true false = refl
seven-numbers c d s o n b k f true true true true false v = refl
seven-numbers c d s o n b k f true true true false u v = refl
seven-numbers c d s o n b k f true true false t u v = refl
seven-numbers c d s o n b k f true false r t u v = refl
seven-numbers c d s o n b k f false q r t u v = refl

-- where one of the numbers is none
not-all : (c : ℕ) (d s : SharedPtr) (b : Bool) → b ≡ false → asks.Nothing ≡ reduced c (Some d) (Some s) b
not-all c d s b h = sym (ap (λ z. cond (z && ((c == 11) || (c == 12))) (asks.Uses d s) asks.Nothing) h)

and-false : (a : Bool) → (a && false) ≡ false
and-false true = refl
and-false false = refl

pub seven_read : (c : ℕ) (a b o n x k f : Scalar)
    → asked_of (call_of c (a ∷ b ∷ o ∷ n ∷ x ∷ k ∷ f ∷ [])) ≡ reduced c (shared_in a) (shared_in b) (are_numbers o n x k f)
seven_read c (Shared d) (Shared s) (Int o) (Int n) (Int x) (Int k) (Int f) =
    seven-numbers c d s o (unsigned_abs n) (unsigned_abs x) (unsigned_abs k) f (is_int o) (is_size n) (is_size x) (is_size k) (nat_lt (unsigned_abs k) 8) (is_int f)
seven_read c (Shared d) (Shared s) (Int o) (Int n) (Int x) (Int k) f =
    not-all c d s (are_numbers (Int o) (Int n) (Int x) (Int k) f)
    (ap (λ z. is_int o && (is_some (size_in (Int n)) && (is_some (size_in (Int x)) && z))) (and-false (has_kind (Int k)))
    ∙ ap (λ z. is_int o && (is_some (size_in (Int n)) && z)) (and-false (is_some (size_in (Int x))))
    ∙ ap (λ z. is_int o && z) (and-false (is_some (size_in (Int n)))) ∙ and-false (is_int o))
seven_read c (Shared d) (Shared s) (Int o) (Int n) (Int x) k f =
    not-all c d s (are_numbers (Int o) (Int n) (Int x) k f)
    (ap (λ z. is_int o && (is_some (size_in (Int n)) && z)) (and-false (is_some (size_in (Int x))))
    ∙ ap (λ z. is_int o && z) (and-false (is_some (size_in (Int n)))) ∙ and-false (is_int o))
seven_read c (Shared d) (Shared s) (Int o) (Int n) x k f =
    not-all c d s (are_numbers (Int o) (Int n) x k f)
    (ap (λ z. is_int o && z) (and-false (is_some (size_in (Int n)))) ∙ and-false (is_int o))
seven_read c (Shared d) (Shared s) (Int o) n x k f = not-all c d s (are_numbers (Int o) n x k f) (and-false (is_int o))
seven_read c (Shared d) (Shared s) (Shared o) (Int n) (Int x) k f = refl
seven_read c (Shared d) (Shared s) (Shared o) (Int n) x k f = refl
seven_read c (Shared d) (Shared s) (Shared o) n x k f = refl
seven_read c (Shared d) (Shared s) (Lock o) n x k f = refl
seven_read c (Shared d) b o n x k f = refl
seven_read c (Int a) (Int b) (Int o) n x k f = refl
seven_read c (Int a) (Int b) o n x k f = refl
seven_read c (Int a) b o n x k f = refl
seven_read c (Lock a) b o n x k f = refl

-- so by place
pub seven-places : (c : ℕ) (args : List Scalar) (d : Scalar) → 7 ≤ length args → length args < 8
    → reduced c (shared_in (get_or args 0 d)) (shared_in (get_or args 1 d))
    (are_numbers (get_or args 2 d) (get_or args 3 d) (get_or args 4 d) (get_or args 5 d) (get_or args 6 d)) ≡ asked_of (call_of c args)
seven-places c [] d l h = absurd (omega arith)
seven-places c (a ∷ []) d l h = absurd (omega arith)
seven-places c (a ∷ b ∷ []) d l h = absurd (omega arith)
seven-places c (a ∷ b ∷ o ∷ []) d l h = absurd (omega arith)
seven-places c (a ∷ b ∷ o ∷ n ∷ []) d l h = absurd (omega arith)
seven-places c (a ∷ b ∷ o ∷ n ∷ x ∷ []) d l h = absurd (omega arith)
seven-places c (a ∷ b ∷ o ∷ n ∷ x ∷ k ∷ []) d l h = absurd (omega arith)
seven-places c (a ∷ b ∷ o ∷ n ∷ x ∷ k ∷ f ∷ []) d l h = sym (seven_read c a b o n x k f)
seven-places c (a ∷ b ∷ o ∷ n ∷ x ∷ k ∷ f ∷ y ∷ ys) d l h = absurd (omega arith)

-- ---- other numbers of arguments

pub others_read : (c : ℕ) (args : List Scalar) → length args ≢ 0 → length args ≢ 1 → length args ≢ 3 → length args ≢ 4 → length args ≢ 5 → length args ≢ 7
    → asks.Nothing ≡ asked_of (call_of c args)
others_read c [] z0 z1 z3 z4 z5 z7 = absurd (z0 refl)
others_read c (a ∷ []) z0 z1 z3 z4 z5 z7 = absurd (z1 refl)
others_read c (a ∷ b ∷ x ∷ []) z0 z1 z3 z4 z5 z7 = absurd (z3 refl)
others_read c (a ∷ b ∷ x ∷ y ∷ []) z0 z1 z3 z4 z5 z7 = absurd (z4 refl)
others_read c (a ∷ b ∷ x ∷ y ∷ z ∷ []) z0 z1 z3 z4 z5 z7 = absurd (z5 refl)
others_read c (a ∷ b ∷ x ∷ y ∷ z ∷ u ∷ v ∷ []) z0 z1 z3 z4 z5 z7 = absurd (z7 refl)
others_read c (Int n ∷ Int b ∷ Int s ∷ r ∷ rs) z0 z1 z3 z4 z5 z7 = refl
others_read c (Int n ∷ Int b ∷ rs) z0 z1 z3 z4 z5 z7 = refl
others_read c (Int n ∷ rs) z0 z1 z3 z4 z5 z7 = refl
others_read c (Shared d ∷ Shared s ∷ []) z0 z1 z3 z4 z5 z7 = refl
others_read c (Shared d ∷ b ∷ []) z0 z1 z3 z4 z5 z7 = refl
others_read c (Shared d ∷ Shared s ∷ Int n ∷ Int f ∷ Int k ∷ Int m ∷ []) z0 z1 z3 z4 z5 z7 = refl
others_read c (Shared d ∷ Shared s ∷ Int n ∷ Int f ∷ Int k ∷ q ∷ []) z0 z1 z3 z4 z5 z7 = refl
others_read c (Shared d ∷ Shared s ∷ Int n ∷ Int f ∷ p ∷ q ∷ []) z0 z1 z3 z4 z5 z7 = refl
others_read c (Shared d ∷ Shared s ∷ Int n ∷ w ∷ p ∷ q ∷ []) z0 z1 z3 z4 z5 z7 = refl
others_read c (Shared d ∷ Shared s ∷ Shared n ∷ Int f ∷ Int k ∷ q ∷ []) z0 z1 z3 z4 z5 z7 = refl
others_read c (Shared d ∷ Shared s ∷ Shared n ∷ Int f ∷ p ∷ q ∷ []) z0 z1 z3 z4 z5 z7 = refl
others_read c (Shared d ∷ Shared s ∷ Shared n ∷ w ∷ p ∷ q ∷ []) z0 z1 z3 z4 z5 z7 = refl
others_read c (Shared d ∷ Shared s ∷ z ∷ w ∷ p ∷ q ∷ []) z0 z1 z3 z4 z5 z7 = refl
others_read c (Shared d ∷ y ∷ z ∷ w ∷ p ∷ q ∷ []) z0 z1 z3 z4 z5 z7 = refl
others_read c (Shared d ∷ Shared s ∷ Int n ∷ Int f ∷ Int k ∷ Int m ∷ Int u ∷ v ∷ rs) z0 z1 z3 z4 z5 z7 = refl
others_read c (Shared d ∷ Shared s ∷ Int n ∷ Int f ∷ Int k ∷ Int m ∷ u ∷ v ∷ rs) z0 z1 z3 z4 z5 z7 = refl
others_read c (Shared d ∷ Shared s ∷ Int n ∷ Int f ∷ Int k ∷ q ∷ u ∷ v ∷ rs) z0 z1 z3 z4 z5 z7 = refl
others_read c (Shared d ∷ Shared s ∷ Int n ∷ Int f ∷ p ∷ q ∷ u ∷ v ∷ rs) z0 z1 z3 z4 z5 z7 = refl
others_read c (Shared d ∷ Shared s ∷ Int n ∷ w ∷ p ∷ q ∷ u ∷ v ∷ rs) z0 z1 z3 z4 z5 z7 = refl
others_read c (Shared d ∷ Shared s ∷ Shared n ∷ Int f ∷ Int k ∷ q ∷ u ∷ v ∷ rs) z0 z1 z3 z4 z5 z7 = refl
others_read c (Shared d ∷ Shared s ∷ Shared n ∷ Int f ∷ p ∷ q ∷ u ∷ v ∷ rs) z0 z1 z3 z4 z5 z7 = refl
others_read c (Shared d ∷ Shared s ∷ Shared n ∷ w ∷ p ∷ q ∷ u ∷ v ∷ rs) z0 z1 z3 z4 z5 z7 = refl
others_read c (Shared d ∷ Shared s ∷ z ∷ w ∷ p ∷ q ∷ u ∷ v ∷ rs) z0 z1 z3 z4 z5 z7 = refl
others_read c (Shared d ∷ y ∷ z ∷ w ∷ p ∷ q ∷ u ∷ v ∷ rs) z0 z1 z3 z4 z5 z7 = refl
others_read c (Lock l ∷ rs) z0 z1 z3 z4 z5 z7 = refl
