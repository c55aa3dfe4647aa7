-- Types that begin with the same stars.
use Rattle.std.proofs.Common.{◌≡◌, ℕ, zero, suc, ◌≤◌, Bool, Option, refl, sym, ◌∙◌, subst}
use Rattle.upc_types.specs.declared.ctype.Access.{Access}
use Rattle.upc_types.specs.declared.stars.Stars.{Stars}
use Rattle.upc_types.specs.Types.{Base, CType, Qualified, base_of}
use Rattle.upc_types.specs.Same.{same_base}
use Rattle.upc_types.specs.code.Depth.{depth, base_depth}
use Rattle.upc_types.specs.code.Falls.{spread_deep}
use Rattle.upc_types.specs.code.Stars.{IsStarTo, spread, BeginsSo}
use Rattle.upc_types.proofs.Numbers.{qualifiers_themselves}

-- Types that begin with the same stars are equal exactly where those after them are.
pub spread_same : (count : ℕ) (c : Bool) (s : Option ℕ) (x : Access) (a b : Base) → same_base (spread count c s x a) (spread count c s x b) ≡ same_base a b
spread_same zero c s x a b = refl
spread_same (suc count) c s x a b = rw (qualifiers_themselves c s x) (spread_same count c s x a b)

-- The same stars before a type make the same type.
pub spread_by : (n m : Stars) (b : Base) → n.count ≡ m.count → IsStarTo n m.constant m.shared m.access → spread m.count m.constant m.shared m.access b ≡ spread n.count n.constant n.shared n.access b
spread_by n m b e f = λ i. spread (sym e i) (sym f.0 i) (sym f.1.0 i) (sym f.1.1 i) b

-- Types that begin with the same stars are equal exactly where those after them are.
pub after_both : (n m : Stars) (s t a b : Base) → BeginsSo n s a → BeginsSo m t b → n.count ≡ m.count → IsStarTo n m.constant m.shared m.access → same_base a b ≡ same_base s t
after_both n m s t a b h g e f =
    let same : t ≡ spread n.count n.constant n.shared n.access b = g ∙ spread_by n m b e f in
    sym (spread_same n.count n.constant n.shared n.access a b) ∙ (λ i. same_base (sym h i) (sym same i))

-- What comes after the stars of a type is no deeper than it.
pub after_falls : (n : Stars) (s a : Base) → BeginsSo n s a → base_depth a ≤ base_depth s
after_falls n s a h = subst (λ b. base_depth a ≤ base_depth b) (sym h) (spread_deep n.count n.constant n.shared n.access a)

-- A type is as deep as it is without its qualifiers.
pub depth_is : (t : CType) → depth t ≡ base_depth (base_of t)
depth_is (Qualified b c s x) = refl
