-- Types as lists of what they go through, by which proofs tell them apart.
use Rattle.std.specs.Prelude.{◌≡◌, ℕ, zero, suc, Bool, Option, Some, None, List, [], ◌∷◌, refl}
use Rattle.std.specs.Coded.{Coded, code_by, coded×, coded_ℕ, coded_bool, coded_list, coded_option}
use Rattle.block_layout.specs.declared.kind.Kind.{Kind}
use Rattle.block_layout.specs.declared.kind.Kind.TheVariants as kinds
use Rattle.block_layout.specs.contracts.kind.Kind as kind
use Rattle.upc_types.specs.declared.ctype.Access.{Access}
use Rattle.upc_types.specs.declared.ctype.Access.TheVariants.{Unsaid, Strict, Relaxed}
use Rattle.upc_types.specs.Types.{CType, Qualified, Base, Void, Integer, Struct, Array, Pointer, LockObject}
use Rattle.upc_types.specs.code.TypeCodes.{access_number}

-- Strict, relaxed or neither by its number.
abbrev pub access_by : ℕ → Access
access_by zero = Unsaid
access_by (suc zero) = Strict
access_by (suc (suc n)) = Relaxed

-- The qualifiers of a type: whether it is const, its block, and the number of strict, relaxed or neither.
abbrev pub Quals : Type 0
Quals = Bool × (Option ℕ × ℕ)

-- What a type goes through, a pointer or an array with its number of elements, with the qualifiers of what it leads to.
abbrev pub Layer : Type 0
Layer = Option ℕ × Quals

-- What all pointers and arrays of a type lead to: which of the four sorts it is, its kind and its number.
abbrev pub Leaf : Type 0
Leaf = ℕ × (Kind × ℕ)

-- A type without its own qualifiers: what it goes through, and what all that leads to.
abbrev pub Parts : Type 0
Parts = List Layer × Leaf

-- The parts of a type that has one layer more.
abbrev pub under : Layer → Parts → Parts
under layer (layers, leaf) = (layer ∷ layers, leaf)

-- The parts of a type without its own qualifiers.
abbrev pub parts_of : Base → Parts
parts_of Void = ([], (0, (kinds.Lock, 0)))
parts_of (Integer k) = ([], (1, (k, 0)))
parts_of (Struct n) = ([], (2, (kinds.Lock, n)))
parts_of LockObject = ([], (3, (kinds.Lock, 0)))
parts_of (Array (Qualified b c s x) n) = under (Some n, (c, (s, access_number x))) (parts_of b)
parts_of (Pointer (Qualified b c s x)) = under (None, (c, (s, access_number x))) (parts_of b)

-- The type that a leaf says.
abbrev pub leaf_type : Leaf → Base
leaf_type (zero, p) = Void
leaf_type (suc zero, (k, n)) = Integer k
leaf_type (suc (suc zero), (k, n)) = Struct n
leaf_type (suc (suc (suc m)), p) = LockObject

-- A type with its qualifiers.
abbrev pub qualified : Base → Quals → CType
qualified b (c, (s, x)) = Qualified b c s (access_by x)

-- A type with one layer more.
abbrev pub layered : Layer → Base → Base
layered (None, q) b = Pointer (qualified b q)
layered (Some n, q) b = Array (qualified b q) n

-- The type of these parts.
abbrev pub type_of : List Layer → Leaf → Base
type_of [] leaf = leaf_type leaf
type_of (layer ∷ layers) leaf = layered layer (type_of layers leaf)

-- The number of strict, relaxed or neither gives it back.
pub access_back : (x : Access) → access_by (access_number x) ≡ x
access_back Unsaid = refl
access_back Strict = refl
access_back Relaxed = refl

-- The parts of a type give it back.
pub type_back : (b : Base) → type_of (parts_of b).0 (parts_of b).1 ≡ b
type_back Void = refl
type_back (Integer k) = refl
type_back (Struct n) = refl
type_back LockObject = refl
type_back (Array (Qualified b c s x) n) = λ i. Array (Qualified (type_back b i) c s (access_back x i)) n
type_back (Pointer (Qualified b c s x)) = λ i. Pointer (Qualified (type_back b i) c s (access_back x i))

-- A type as its parts and its qualifiers.
abbrev pub type_parts : CType → Parts × Quals
type_parts (Qualified b c s x) = (parts_of b, (c, (s, access_number x)))

-- The type of these parts and qualifiers.
abbrev pub type_by : Parts × Quals → CType
type_by (p, q) = qualified (type_of p.0 p.1) q

-- The parts of a type and its qualifiers give it back.
pub type_whole : (t : CType) → type_by (type_parts t) ≡ t
type_whole (Qualified b c s x) = λ i. Qualified (type_back b i) c s (access_back x i)

-- The code of qualifiers.
abbrev pub quals_code : Coded Quals
quals_code = coded× coded_bool (coded× (coded_option coded_ℕ) coded_ℕ)

-- The code of the parts of a type.
abbrev pub parts_code : Coded Parts
parts_code = coded× (coded_list (coded× (coded_option coded_ℕ) quals_code))
    (coded× coded_ℕ (coded× kind.the_row.coded coded_ℕ))

-- The code of types.
abbrev pub type_code : Coded CType
type_code = code_by (Parts × Quals) (coded× parts_code quals_code) type_parts type_by type_whole
