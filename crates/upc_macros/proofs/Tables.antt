-- The table of macros.
use Rattle.std.proofs.Common.{◌≡◌, ℕ, ◌+◌, ◌≤◌, zero, suc, List, [], ◌∷◌, length, map, set, Option, Some, None, refl, sym, ap, subst, ◌⊎◌, inl, inr, arith}
use Rattle.std.specs.Option.{option_map}
use Rattle.std.specs.List.{slice_get, slice_index_or}
use Rattle.upc_lexer.specs.declared.token.Token.{Token}
use Rattle.upc_lexer.specs.declared.token.TokenKind.{TokenKind}
use Rattle.upc_lexer.specs.declared.token.TokenKind.TheVariants.{Name, Word, Number, Character, Str, Punct, Pragma}
use Rattle.upc_macros.specs.declared.table.Body.{Body}
use Rattle.upc_macros.specs.Replacing.{body_of, without}
use Rattle.upc_macros.specs.code.Table.{body_tokens, seen, IsBody, AreBodies, macro_count, NamesNoMacro}

pub map-set : {A B : Type 0} (f : A → B) (xs : List A) (n : ℕ) (x : A) → map f (set xs n x) ≡ set (map f xs) n (f x)
map-set f [] n x = refl
map-set f (y ∷ xs) zero x = refl
map-set f (y ∷ xs) (suc n) x = ap (λ l. f y ∷ l) (map-set f xs n x)

pub set-back : {A : Type 0} (xs : List A) (n : ℕ) (x y : A) → slice_get xs n ≡ Some x → set (set xs n y) n x ≡ xs
set-back [] n x y e = refl
set-back (z ∷ xs) zero x y e = ap (λ w. w ∷ xs) (some_is e)
  where
    some_is : Some z ≡ Some x → x ≡ z
    some_is e = cc
set-back (z ∷ xs) (suc n) x y e = ap (λ l. z ∷ l) (set-back xs n x y e)

pub get-set : {A : Type 0} (xs : List A) (n m : ℕ) (x y : A) → slice_get (set xs n x) m ≡ Some y → (slice_get xs m ≡ Some y) ⊎ (y ≡ x)
get-set [] n m x y e = inl e
get-set (z ∷ xs) zero zero x y e = inr (some_is e)
  where
    some_is : Some x ≡ Some y → y ≡ x
    some_is e = cc
get-set (z ∷ xs) zero (suc m) x y e = inl e
get-set (z ∷ xs) (suc n) zero x y e = inl e
get-set (z ∷ xs) (suc n) (suc m) x y e = get-set xs n m x y e

-- the macro of a token, by the table
pub found_at : (tokens : List Token) (table : List (Option Body)) (n : ℕ) (b : Option Body) → slice_get table n ≡ Some b → slice_index_or (seen tokens table) n None ≡ option_map (body_tokens tokens) b
found_at tokens [] n b e = absurd cc
found_at tokens (c ∷ table) zero b e = ap (option_map (body_tokens tokens)) (some_is e)
  where
    some_is : Some c ≡ Some b → c ≡ b
    some_is e = cc
found_at tokens (c ∷ table) (suc n) b e = found_at tokens table n b e

pub names_none : (tokens : List Token) (table : List (Option Body)) (t : Token) (k : TokenKind) → t.kind ≡ k → NamesNoMacro table k → body_of (seen tokens table) t ≡ None
names_none tokens table t (Name n) e h = rw e (found_at tokens table n None h)
names_none tokens table t (Word w) e h = rw e refl
names_none tokens table t (Number v k) e h = rw e refl
names_none tokens table t (Character v) e h = rw e refl
names_none tokens table t (Str v) e h = rw e refl
names_none tokens table t (Punct m) e h = rw e refl
names_none tokens table t (Pragma b) e h = rw e refl

pub names_some : (tokens : List Token) (table : List (Option Body)) (t : Token) (n : ℕ) (b : Body) → t.kind ≡ Name n → slice_get table n ≡ Some (Some b) → body_of (seen tokens table) t ≡ Some (body_tokens tokens b)
names_some tokens table t n b e h = rw e (found_at tokens table n (Some b) h)

pub seen-taken : (tokens : List Token) (table : List (Option Body)) (n : ℕ) → seen tokens (set table n None) ≡ without (seen tokens table) (Name n)
seen-taken tokens table n = map-set (option_map (body_tokens tokens)) table n None

-- how many macros there are
pub taken_count : (table : List (Option Body)) (n : ℕ) (b : Body) → slice_get table n ≡ Some (Some b) → macro_count (set table n None) + 1 ≡ macro_count table
taken_count [] n b e = absurd cc
taken_count (None ∷ table) zero b e = absurd cc
taken_count (Some c ∷ table) zero b e = omega arith
taken_count (None ∷ table) (suc n) b e = omega (arith, taken_count table n b e)
taken_count (Some c ∷ table) (suc n) b e = omega (arith, taken_count table n b e)

pub back_count : (table : List (Option Body)) (n : ℕ) (b : Body) → macro_count (set table n (Some b)) ≤ macro_count table + 1
back_count [] n b = omega arith
back_count (None ∷ table) zero b = omega arith
back_count (Some c ∷ table) zero b = omega arith
back_count (None ∷ table) (suc n) b = omega (arith, back_count table n b)
back_count (Some c ∷ table) (suc n) b = omega (arith, back_count table n b)

pub back_bodies : (tokens : List Token) (table : List (Option Body)) (n : ℕ) (b : Body) → AreBodies tokens table → IsBody tokens b → AreBodies tokens (set table n (Some b))
back_bodies tokens table n b h g m c e = elim (get-set table n m (Some b) (Some c) e) [
  | inl f ↦ h m c f
  | inr f ↦ subst (IsBody tokens) (sym (some_is f)) g
]
  where
    some_is : Some c ≡ Some b → c ≡ b
    some_is e = cc

pub taken_bodies : (tokens : List Token) (table : List (Option Body)) (n : ℕ) → AreBodies tokens table → AreBodies tokens (set table n None)
taken_bodies tokens table n h m c e = elim (get-set table n m None (Some c) e) [
  | inl f ↦ h m c f
  | inr f ↦ absurd cc
]

pub count_within : (table : List (Option Body)) → macro_count table ≤ length table
count_within [] = omega arith
count_within (None ∷ table) = omega (arith, count_within table)
count_within (Some c ∷ table) = omega (arith, count_within table)
