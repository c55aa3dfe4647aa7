-- Tags of a part of the source, and of what is around it.
use Rattle.std.proofs.Common.{◌≡◌, ℕ, ◌+◌, Bool, true, false, ◌&&◌, nat_eq, if◌then◌else◌, List, [], ◌∷◌, ◌++◌, Option, Some, None, refl}
use Rattle.typed_tree.specs.Scopes.{Tag, find_tag, tag_here}

found_one : (b : Bool) (n m : ℕ) (o p : Option ℕ) → (if b then Some n else o) ≡ Some m → (o ≡ Some m → p ≡ Some m) → (if b then Some n else p) ≡ Some m
found_one true n m o p h f = h
found_one false n m o p h f = f h

missed_one : (b : Bool) (n : ℕ) (o p q : Option ℕ) → ◌≡◌ {A = Option ℕ} (if b then Some n else o) None → (o ≡ None → p ≡ q) → (if b then Some n else p) ≡ q
missed_one true n o p q h f = absurd cc
missed_one false n o p q h f = f h

-- A tag that is found among some tags is found where more are around them.
pub found_own : (name : ℕ) (xs ys : List Tag) (number : ℕ) → find_tag name xs ≡ Some number → find_tag name (xs ++ ys) ≡ Some number
found_own name [] ys number h = absurd cc
found_own name (x ∷ xs) ys number h = found_one (nat_eq x.name name) x.number number (find_tag name xs) (find_tag name (xs ++ ys)) h (found_own name xs ys number)

-- A tag that is not among them is one of those around.
pub missed_own : (name : ℕ) (xs ys : List Tag) → find_tag name xs ≡ None → find_tag name (xs ++ ys) ≡ find_tag name ys
missed_own name [] ys h = refl
missed_own name (x ∷ xs) ys h = missed_one (nat_eq x.name name) x.number (find_tag name xs) (find_tag name (xs ++ ys)) (find_tag name ys) h (missed_own name xs ys)

-- A tag that is found among those of a scope itself is found where more are around them.
pub found_here : (name level : ℕ) (xs ys : List Tag) (number : ℕ) → tag_here name level xs ≡ Some number → tag_here name level (xs ++ ys) ≡ Some number
found_here name level [] ys number h = absurd cc
found_here name level (x ∷ xs) ys number h =
    found_one (nat_eq x.name name && nat_eq x.level level) x.number number (tag_here name level xs) (tag_here name level (xs ++ ys)) h (found_here name level xs ys number)

pub missed_here : (name level : ℕ) (xs ys : List Tag) → tag_here name level xs ≡ None → tag_here name level (xs ++ ys) ≡ tag_here name level ys
missed_here name level [] ys h = refl
missed_here name level (x ∷ xs) ys h =
    missed_one (nat_eq x.name name && nat_eq x.level level) x.number (tag_here name level xs) (tag_here name level (xs ++ ys)) (tag_here name level ys) h (missed_here name level xs ys)
