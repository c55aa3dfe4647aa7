-- Pieces and cells.
use Rattle.std.proofs.Common.{◌≡◌, ◌≢◌, inl, inr, ℕ, zero, suc, ◌+◌, ◌/◌, ◌%◌, ◌<◌, ◌≤◌, ◌==◌, Bool, false, List, [], ◌∷◌, ◌||◌, drop, take, subst, length, add-one, refl, sym, ap, ◌∙◌, arith}
use Rattle.std.proofs.Math.Seq.{drop-cons}
use Rattle.std.proofs.lemmas.List.{take_more}
use Rattle.std.proofs.lemmas.List.Elements.{All-append, All-cons, All-nil}
use Rattle.std.specs.Prelude.{slice_index_or, slice_get, IfSome}
use Rattle.std.specs.List.{All, list_any}
use Rattle.std.proofs.lemmas.Bool.Decides.{eqb_tells}
use Rattle.block_layout.specs.Pieces.{count_below}
use Rattle.block_layout.specs.declared.kind.Kind.{Kind}
use Rattle.upc_values.specs.Lists.{Each}
use Rattle.block_layout.specs.Cells.{same_cells}

-- a thread that there is not has no bytes
pub none-beyond : (n b t T : ℕ) → 0 < T → T ≤ t → count_below (λ x. x / b % T == t) n ≡ 0
none-beyond zero b t T h k = refl
none-beyond (suc n) b t T h k =
    elim (eqb_tells (n / b % T) t) [
      | inl y ↦ absurd (omega (arith, y.1))
      | inr y ↦ rw y.0 (none-beyond n b t T h k)
    ]

-- lists of different lengths are not the same cells
pub other-length : (cs ds : List (ℕ × Kind)) → length cs ≢ length ds → same_cells cs ds ≡ false
other-length [] [] n = absurd (n refl)
other-length [] (d ∷ ds) n = refl
other-length (c ∷ cs) [] n = refl
other-length (c ∷ cs) (d ∷ ds) n = grind (arith, other-length cs ds (λ e. n (ap suc e)))

-- what holds of each member so far and of the next
pub all-more : {X : Type 0} (P : X → Type 0) (xs : List X) (i : ℕ) (d : X) → i < length xs → All P (take i xs) → P (slice_index_or xs i d) → All P (take (i + 1) xs)
all-more P xs i d h a k =
    subst (All P) (sym (take_more xs i d h)) (All-append P (take i xs) (slice_index_or xs i d ∷ []) a (All-cons P (slice_index_or xs i d) [] k (All-nil P)))

-- a member that does not pass is passed over
pub any-next : {X : Type 0} (p : X → Bool) (xs : List X) (i : ℕ) (d : X) (b : Bool) → i < length xs → p (slice_index_or xs i d) ≡ false → list_any p (drop i xs) ≡ b → list_any p (drop (i + 1) xs) ≡ b
any-next p xs i d b h k e =
    rw add-one (sym (ap (λ z. z || list_any p (drop (suc i) xs)) k) ∙ (sym (ap (list_any p) (drop-cons xs i d h)) ∙ e))

-- Each shape of a list is one at its number.
pub each_get : {X : Type 0} (P : X → Type 0) (xs : List X) (i : ℕ) → Each P xs → IfSome (slice_get xs i) P
each_get P [] i h = tt
each_get P (x ∷ xs) zero h = h.0
each_get P (x ∷ xs) (suc i) h = each_get P xs i h.1
