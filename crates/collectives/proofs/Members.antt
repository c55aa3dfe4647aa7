-- Members of a list, one by one.
use Rattle.std.proofs.Common.{◌≡◌, ℕ, suc, ◌+◌, ◌<◌, Bool, false, List, [], ◌∷◌, ◌++◌, ◌||◌, map, drop, length, add-one, sym, ap, subst, ◌∙◌, arith}
use Rattle.std.proofs.Math.Seq.{drop-cons}
use Rattle.std.proofs.lemmas.List.{map-append}
use Rattle.std.proofs.lemmas.List.FromFn.{map-range_with_len_more}
use Rattle.std.specs.Prelude.{slice_index_or}
use Rattle.std.specs.List.{All, list_any, range_with_len}

-- a member that does not pass is passed over
pub any-passed : {X Y : Type 0} (p : Y → Bool) (g : X → Y) (xs : List X) (i : ℕ) (d : X) (b : Bool) → i < length xs → p (g (slice_index_or xs i d)) ≡ false → list_any p (map g (drop i xs)) ≡ b → list_any p (map g (drop (i + 1) xs)) ≡ b
any-passed p g xs i d b h k e =
    rw add-one (sym (ap (λ z. z || list_any p (map g (drop (suc i) xs))) k) ∙ (sym (ap (λ ys. list_any p (map g ys)) (drop-cons xs i d h)) ∙ e))

-- one member more, of a list that stands for what a function gives of the numbers from 0 on
pub mapped-more : {X Y : Type 0} (f : ℕ → Y) (g : X → Y) (xs ys : List X) (x : X) (i : ℕ) → ys ≡ xs ++ x ∷ [] → g x ≡ f i → map g xs ≡ map f (range_with_len 0 i) → map g ys ≡ map f (range_with_len 0 (i + 1))
mapped-more f g xs ys x i e h k =
    ap (map g) e ∙ map-append g xs (x ∷ []) ∙ ap (λ z. z ++ g x ∷ []) k ∙ ap (λ z. map f (range_with_len 0 i) ++ z ∷ []) h
    ∙ sym (map-range_with_len_more f 0 i i (omega arith))

-- a list from a member on
pub drop-at : {X : Type 0} (xs : List X) (i : ℕ) (x : X) → i < length xs → x ≡ slice_index_or xs i x → drop i xs ≡ x ∷ drop (i + 1) xs
drop-at xs i x h e = rw add-one (drop-cons xs i x h ∙ ap (λ z. z ∷ drop (suc i) xs) (sym e))

-- what holds of each member holds of one
pub all-at : {X : Type 0} (P : X → Type 0) (xs : List X) (i : ℕ) (x : X) → All P xs → i < length xs → x ≡ slice_index_or xs i x → P x
all-at P xs i x a h e = subst P (sym e) (a i x h)
