-- Entries of a scope by their places.
use Rattle.std.proofs.Common.{◌≡◌, ℕ, ◌<◌, Bool, true, false, List, [], ◌∷◌, length, reverse, get_or, nat_eq, Option}
use Rattle.std.proofs.Common.{Some, None, refl, sym, ap, ◌∙◌, arith}
use Rattle.std.proofs.lemmas.List.{reverse-append, length-reverse, get_or_at, get_or_append_left}
use Rattle.typing_rules.specs.Meanings.{Meaning}
use Rattle.typed_tree.specs.Scopes.{Entry, find_in, found_or}
use Rattle.typed_tree.specs.code.ViewEntries.{latest, place_in}

absent_one : (b : Bool) (n : ℕ) (o : Option ℕ) (m rest other : Meaning) → latest b n o ≡ None →
    (o ≡ None → rest ≡ other) → found_or b m rest ≡ other
absent_one true n o m rest other h f = absurd cc
absent_one false n o m rest other h f = f h

-- A name without an entry.
pub absent : (name : ℕ) (es : List Entry) (other : Meaning) → place_in name es ≡ None → find_in name es other ≡ other
absent name [] other h = refl
absent name (x ∷ older) other h =
    absent_one (nat_eq x.name name) (length older) (place_in name older) x.means
    (find_in name older other) other h (absent name older other)

pub record IsPlaced (es : List Entry) (m : Meaning) (place : ℕ) : Type 0 where
  pub below : place < length es
  pub is : (d : Entry) → m ≡ (get_or (reverse es) place d).means

placed_one : (x : Entry) (older : List Entry) (b : Bool) (o : Option ℕ) (rest : Meaning) (k : ℕ) →
    latest b (length older) o ≡ Some k →
    ((j : ℕ) → o ≡ Some j → IsPlaced older rest j) → IsPlaced (x ∷ older) (found_or b x.means rest) k
placed_one x older true o rest k h f =
    let e : length older ≡ k = cc in
    record {
      below = omega arith;
      is =
          λ d. ap (λ (y : Entry). y.means)
          (sym (ap (λ xs. get_or xs k d) (reverse-append (x ∷ []) older)
          ∙ get_or_at (reverse older) x [] d k (length-reverse older ∙ e)));
    }
placed_one x older false o rest k h f =
    let g = f k h in
    record {
      below = omega (arith, g.below);
      is = λ d. g.is d ∙ ap (λ (y : Entry). y.means)
          (sym (ap (λ xs. get_or xs k d) (reverse-append (x ∷ []) older)
          ∙ get_or_append_left (reverse older) (x ∷ []) d k (omega (arith, g.below, length-reverse older))));
    }

-- The entry at the place of a name is its latest.
pub placed : (name : ℕ) (es : List Entry) (other : Meaning) (k : ℕ) → place_in name es ≡ Some k →
    IsPlaced es (find_in name es other) k
placed name [] other k h = absurd cc
placed name (x ∷ older) other k h =
    placed_one x older (nat_eq x.name name) (place_in name older) (find_in name older other) k h
    (λ j g. placed name older other j g)
