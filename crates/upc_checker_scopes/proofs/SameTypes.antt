-- Types that are equal by their test, and signatures that are alike.
use Rattle.std.proofs.Common.{◌≡◌, ℕ, nat_eq, true, ◌&&◌, ◌||◌, not, List, [], ◌∷◌, map, refl, ap, ◌∙◌}
use Rattle.std.proofs.lemmas.Bool.{and_parts}
use Rattle.upc_types.specs.Types.{CType, Qualified}
use Rattle.upc_types.specs.Same.{same_type}
use Rattle.upc_types.proofs.Equal.{inner_is, base_is}
use Rattle.typing_rules.specs.Values.{value_type}
use Rattle.typing_rules.specs.Meanings.{Signature}
use Rattle.typed_tree.specs.Scopes.{KnownFunction, same_types, same_signature, differs}

type_is : (t u : CType) → same_type t u ≡ true → t ≡ u
type_is (Qualified a c s x) (Qualified b d t y) h = inner_is a b c d s t x y h (base_is a b)

types_are : (xs ys : List CType) → same_types xs ys ≡ true → map value_type xs ≡ map value_type ys
types_are [] [] h = refl
types_are [] (y ∷ ys) h = absurd cc
types_are (x ∷ xs) [] h = absurd cc
types_are (x ∷ xs) (y ∷ ys) h =
    let p = and_parts (same_type (value_type x) (value_type y)) (same_types xs ys) h in
    let e = type_is (value_type x) (value_type y) p.0 in
    let f = types_are xs ys p.1 in
    cc

-- The same types, but for qualifiers of their own.
abbrev pub Alike : Signature → Signature → Type 0
Alike s t = (value_type s.result ≡ value_type t.result) × (map value_type s.parameters ≡ map value_type t.parameters)

pub alike_from : (s t : Signature) → same_signature s t ≡ true → Alike s t
alike_from s t h =
    let p = and_parts (same_type s.result t.result) (same_types s.parameters t.parameters) h in
    (ap value_type (type_is s.result t.result p.0), types_are s.parameters t.parameters p.1)

-- What a signature is compared with may be one of the same types.
types_through : (xs ys zs : List CType) → map value_type ys ≡ map value_type zs → same_types xs ys ≡ same_types xs zs
types_through xs [] [] h = refl
types_through xs [] (z ∷ zs) h = absurd cc
types_through xs (y ∷ ys) [] h = absurd cc
types_through [] (y ∷ ys) (z ∷ zs) h = refl
types_through (x ∷ xs) (y ∷ ys) (z ∷ zs) h =
    let e : value_type y ≡ value_type z = cc in
    let f : map value_type ys ≡ map value_type zs = cc in
    ap (λ t. same_type (value_type x) t && same_types xs ys) e
    ∙ ap (λ b. same_type (value_type x) (value_type z) && b) (types_through xs ys zs f)

pub same_through : (u s t : Signature) → same_signature s t ≡ true → same_signature u s ≡ same_signature u t
same_through u s t h =
    let p = and_parts (same_type s.result t.result) (same_types s.parameters t.parameters) h in
    ap (λ r. same_type u.result r && same_types u.parameters s.parameters) (type_is s.result t.result p.0)
    ∙ ap (λ b. same_type u.result t.result && b)
    (types_through u.parameters s.parameters t.parameters (types_are s.parameters t.parameters p.1))

-- Functions differ from a signature exactly if they differ from one of the same types.
pub differs_through : (name : ℕ) (s t : Signature) (fs : List KnownFunction) → same_signature s t ≡ true →
    differs name s fs ≡ differs name t fs
differs_through name s t [] h = refl
differs_through name s t (x ∷ fs) h =
    ap (λ b. (nat_eq x.name name && not b) || differs name s fs) (same_through x.signature s t h)
    ∙ ap (λ b. (nat_eq x.name name && not (same_signature x.signature t)) || b) (differs_through name s t fs h)
