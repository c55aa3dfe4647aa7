-- Words on lists.
use Rattle.std.specs.Prelude.{ℕ, ◌≡◌, ◌<◌, ◌⊎◌, List, [], ◌∷◌, length, slice_index_or}

-- P holds of each member.
abbrev pub Each : {X : Type 0} → (X → Type 0) → List X → Type 0
Each P [] = Unit {0}
Each P (x ∷ xs) = P x × Each P xs

-- P holds of each member and its number, from 0.
abbrev pub Numbered : {X : Type 0} → (ℕ → X → Type 0) → List X → Type 0
Numbered {X} P xs = (i : ℕ) (d : X) → i < length xs → P i (slice_index_or xs i d)

-- The list has the member.
abbrev pub Has : {X : Type 0} → List X → X → Type 0
Has [] x = ⊥
Has (y ∷ ys) x = (y ≡ x) ⊎ Has ys x

-- The member a stands before the member b in the list.
abbrev pub Precedes : {X : Type 0} → List X → X → X → Type 0
Precedes [] a b = ⊥
Precedes (x ∷ xs) a b = ((x ≡ a) × Has xs b) ⊎ Precedes xs a b

-- Each member is so related to each one that stands after it.
abbrev pub Pairwise : {X : Type 0} → (X → X → Type 0) → List X → Type 0
Pairwise R [] = Unit {0}
Pairwise R (x ∷ xs) = Each (R x) xs × Pairwise R xs
