-- What the objects of a file begin with (C99 6.7.8): the constants of their initialisers (C99 6.6). Where one is no
-- such constant it gives 0 or null.
use Rattle.std.specs.Prelude.{ℕ, zero, suc, ℤ, pos, ◌+◌, nat_lt, ◌==◌, Bool, ◌&&◌, ◌||◌, if◌then◌else◌, List, []}
use Rattle.std.specs.Prelude.{◌∷◌, ◌++◌, map, take, Option, Some, None, slice_get}
use Rattle.block_layout.specs.declared.kind.Kind.{Kind}
use Rattle.block_layout.specs.declared.kind.Kind.TheVariants as kinds
use Rattle.block_layout.specs.declared.place.Loc.{Loc}
use Rattle.block_layout.specs.declared.place.LocalPtr.{LocalPtr}
use Rattle.block_layout.specs.declared.place.ObjectRef.{ObjectRef}
use Rattle.block_layout.specs.declared.place.LocalPtr.TheVariants as local
use Rattle.block_layout.specs.declared.place.SharedPtr.{SharedPtr}
use Rattle.block_layout.specs.Places.{in_range}
use Rattle.block_layout.specs.Pointers.{null}
use Rattle.block_layout.specs.Shapes.{kind_size}
use Rattle.upc_values.specs.declared.scalar.Scalar.{Scalar}
use Rattle.upc_values.specs.declared.scalar.Scalar.TheVariants as scalar
use Rattle.upc_types.specs.Types.{CType, Qualified, Base, Integer, Array, Pointer, base_of, Structs}
use Rattle.upc_types.specs.Cells.{pointer_kind}
use Rattle.typing_rules.specs.declared.attribute.Static.TheVariants as static
use Rattle.typing_rules.specs.declared.attribute.Constant.{Constant}
use Rattle.typing_rules.specs.declared.attribute.Constant.TheVariants.{Known, Address}
use Rattle.typing_rules.specs.Constants.{cast_constant}
use Rattle.typing_rules.specs.Attributes.{constant_of}
use Rattle.typed_tree.specs.Tree.{DeclaredObject, Initial, InitialValue, InitialList, attr_of, attrs_of}
use Rattle.typed_tree.specs.declared.beginning.SharedDecl.{SharedDecl}
use Rattle.upc_values.specs.declared.scalar.Value.{Value}
use Rattle.upc_values.specs.declared.scalar.Value.TheVariants as value

-- What initialisers may refer to: the number of threads, how many private objects the file has, the structs, and the
-- shared objects of the file.
pub record Setting : Type 0 where
  pub threads : ℕ
  pub privates : ℕ
  pub structs : Structs
  pub shared : List SharedDecl

-- ---- values

-- The value of an integer constant expression, and 0 for every other constant (C99 6.6).
abbrev pub known_or_zero : Constant → ℤ
known_or_zero (Known v) = v
known_or_zero c = pos 0

-- Whether a pointer-to-shared with this block names a thread of the run, a phase of the block, and an offset in range.
abbrev pub fits : ℕ → ℕ → SharedPtr → Bool
fits threads block p = nat_lt p.thread threads && ((p.phase == 0 || nat_lt p.phase block) && in_range p.offset)

-- The shared object with this number, from 1 on; none where there is no such object.
abbrev pub numbered : List SharedDecl → ℕ → Option ObjectRef
numbered shared zero = None
numbered shared (suc n) = slice_get (map (λ x. x.object) shared) n

-- The pointer-to-shared with this block into an object, with this thread, phase and offset; null where there is no
-- object, or they are out of range.
abbrev pub pointer_into : ℕ → ℕ → Option ObjectRef → ℕ → ℕ → ℤ → SharedPtr
pointer_into threads block None thread phase offset = null
pointer_into threads block (Some object) thread phase offset =
    let p : SharedPtr = record { object = object; thread = thread; phase = phase; offset = offset } in
    if fits threads block p then p else null

-- The pointer-to-shared with this block that a constant gives: the address of a shared object of the file, else null
-- (C99 6.6).
abbrev pub shared_pointer_in : Setting → ℕ → Constant → SharedPtr
shared_pointer_in σ block (Address (static.Shared object thread phase offset) e) =
    pointer_into σ.threads block (numbered σ.shared object) thread phase offset
shared_pointer_in σ block c = null

-- The pointer to a private object that a constant gives: the address of one of the file, else null (C99 6.6).
abbrev pub local_pointer_in : Setting → Constant → LocalPtr
local_pointer_in σ (Address (static.Private object offset) e) =
    if nat_lt object σ.privates && in_range offset then local.Private object offset else local.Null
local_pointer_in σ c = local.Null

-- The value with which an object of this kind begins by a constant: a converted integer, or a pointer to an object of
-- the file; a lock pointer is null (C99 6.7.8).
abbrev pub initial_value : Setting → Kind → Constant → Value
initial_value σ (kinds.Shared n block) c = value.Scalar (scalar.Shared (shared_pointer_in σ block c))
initial_value σ (kinds.Private n) c = value.Local (local_pointer_in σ c)
initial_value σ kinds.Lock c = value.Scalar (scalar.Lock 0)
initial_value σ kind c = value.Scalar (scalar.Int (known_or_zero (cast_constant kind c)))

-- ---- initialisers

-- The kind of a scalar's cell; a type that is no scalar has none (C99 6.2.5).
abbrev pub scalar_kind : List CType → Base → Option Kind
scalar_kind targets (Integer kind) = Some kind
scalar_kind targets (Pointer target) = Some (pointer_kind targets target)
scalar_kind targets b = None

-- The value that an initialiser without braces gives an object with a cell of this kind; there is none where the
-- initialiser is another, or the object has no such cell (C99 6.7.8).
abbrev pub single : Setting → Option Kind → Initial → Option Value
single σ (Some kind) (InitialValue e) = Some (initial_value σ kind (constant_of (attr_of e)))
single σ kind other = None

-- The value with which the first cell of the shared object with this number begins, if there is one; a pointer to a
-- private object is none (UPC 6.5.1.1).
abbrev pub at_start : ℕ → Option Value → List (Loc × Scalar)
at_start number (Some (value.Scalar v)) = (record { object = number; thread = 0; offset = 0 }, v) ∷ []
at_start number v = []

-- The initial values that the initialisers of shared objects give, where the objects are numbered from this number on
-- (C99 6.7.8).
abbrev pub shared_from : Setting → ℕ → List DeclaredObject → List (Loc × Scalar)
shared_from σ number [] = []
shared_from σ number (x ∷ xs) =
    at_start number (single σ (scalar_kind σ.structs.targets (base_of x.ctype)) x.initial)
    ++ shared_from σ (number + 1) xs

-- The constants of the initialiser of an object: of the list of an array as many as it has elements, of another object
-- its one value (C99 6.7.8).
abbrev pub constants_in : Base → Initial → List Constant
constants_in (Array t count) (InitialList values) = take count (map constant_of (attrs_of values))
constants_in (Array t count) other = []
constants_in b (InitialValue e) = constant_of (attr_of e) ∷ []
constants_in b other = []

-- The type of each part of an object to which an initialiser gives a value: an element of an array, or the object
-- itself (C99 6.7.8).
abbrev pub part_of : Base → Base
part_of (Array (Qualified e c s x) count) = e
part_of b = b

-- The initial values that these constants give cells of one kind, one after the other in a private object from this
-- byte on.
abbrev pub cells_from : Setting → ℕ → Kind → ℕ → List Constant → List (LocalPtr × Value)
cells_from σ number kind offset [] = []
cells_from σ number kind offset (c ∷ cs) =
    (local.Private number (pos offset), initial_value σ kind c) ∷ cells_from σ number kind (offset + kind_size kind) cs

-- The initial values that these constants give cells of this kind, one after the other in a private object from its
-- beginning on; none where the parts of the object are no scalars.
abbrev pub cells_in : Setting → ℕ → Option Kind → List Constant → List (LocalPtr × Value)
cells_in σ number None cs = []
cells_in σ number (Some kind) cs = cells_from σ number kind 0 cs

-- The initial values that the initialisers of private objects give, where the objects are numbered from this number on
-- (C99 6.7.8).
abbrev pub private_from : Setting → ℕ → List DeclaredObject → List (LocalPtr × Value)
private_from σ number [] = []
private_from σ number (x ∷ xs) =
    cells_in σ number (scalar_kind σ.structs.targets (part_of (base_of x.ctype)))
    (constants_in (base_of x.ctype) x.initial) ++ private_from σ (number + 1) xs
