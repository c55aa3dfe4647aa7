-- What constants give cells fits them, and names what there is.
use Rattle.std.proofs.Common.{◌≡◌, ℕ, zero, suc, ◌-◌, ◌<◌, Bool, true, false, ◌==◌, ◌&&◌, ◌||◌, nat_lt, int_le}
use Rattle.std.proofs.Common.{int_lt, if◌then◌else◌, List, [], ◌∷◌, map, Option, Some, None, refl, sym, ap, ◌∙◌}
use Rattle.std.proofs.Common.{subst, arith}
use Rattle.std.proofs.Math.IntN.{ℤ, pos, ◌+ℤ◌, ◌-ℤ◌}
use Rattle.std.specs.List.{slice_get, list_any}
use Rattle.std.proofs.lemmas.Int.{ints}
use Rattle.std.proofs.lemmas.Nat.{pow_pos}
use Rattle.std.proofs.lemmas.Bool.{and_parts, and_from, or_left, or_right}
use Rattle.block_layout.specs.declared.kind.Kind.{Kind}
use Rattle.block_layout.specs.declared.kind.Kind.TheVariants.{Char, UChar, Short, UShort, Int, UInt, Long, ULong}
use Rattle.block_layout.specs.declared.kind.Kind.TheVariants.{Shared, Lock, Private}
use Rattle.block_layout.specs.declared.place.ObjectRef.{ObjectRef}
use Rattle.block_layout.specs.declared.place.SharedPtr.{SharedPtr}
use Rattle.block_layout.specs.Floor.{floor_mod}
use Rattle.block_layout.specs.Places.{in_range}
use Rattle.block_layout.specs.Pointers.{null, is_null, same_object}
use Rattle.block_layout.proofs.Numbers.{floor_mod-below}
use Rattle.block_layout.proofs.Pointers.{same_object-refl}
use Rattle.integers.specs.Integers.{width, least, values, in_kind, converted}
use Rattle.upc_values.specs.declared.scalar.Scalar.{Scalar}
use Rattle.upc_values.specs.declared.scalar.Scalar.TheVariants as scalar
use Rattle.block_layout.specs.Cells.{is_private}
use Rattle.upc_values.specs.Openings.{is_named}
use Rattle.upc_values.specs.Shapes.{fits_kind, value_fits}
use Rattle.typing_rules.specs.declared.attribute.Static.TheVariants as static
use Rattle.typing_rules.specs.declared.attribute.Constant.{Constant}
use Rattle.typing_rules.specs.declared.attribute.Constant.TheVariants.{Variable, Known, Undefined, Null, Address}
use Rattle.typed_tree.specs.declared.beginning.SharedDecl.{SharedDecl}
use Rattle.typed_tree.specs.layer.Parts.{integer_in, object_of}
use Rattle.upc_values.specs.declared.scalar.Value.{Value}
use Rattle.upc_values.specs.declared.scalar.Value.TheVariants as value
use Rattle.typed_tree.specs.Initials.{Setting, fits, numbered, pointer_into, shared_pointer_in}
use Rattle.typed_tree.specs.Initials.{local_pointer_in, initial_value}
use Rattle.block_layout.specs.declared.place.LocalPtr.{LocalPtr}
use Rattle.block_layout.specs.declared.place.LocalPtr.TheVariants as local
use Rattle.typed_tree.specs.layer.PrivateOpenings.{is_local}

-- ---- integers

ranged : (l : ℤ) (r n : ℕ) → r < n → (int_le l (l +ℤ pos r) && int_lt (l +ℤ pos r) (l +ℤ pos n)) ≡ true
ranged l r n h =
    let low : true ≡ int_le l (l +ℤ pos r) = omega (arith, ints) in
    let high : true ≡ int_lt (l +ℤ pos r) (l +ℤ pos n) = omega (arith, ints) in
    and_from (int_le l (l +ℤ pos r)) (int_lt (l +ℤ pos r) (l +ℤ pos n)) (sym low) (sym high)

converted_in : (kind : Kind) (v : ℤ) → in_kind kind (converted kind v) ≡ true
converted_in kind v =
    ranged (least kind) (floor_mod (v -ℤ least kind) (values kind)) (values kind)
    (floor_mod-below (v -ℤ least kind) (values kind) (pow_pos (width kind)))

zero_in : (kind : Kind) → in_kind kind (pos 0) ≡ true
zero_in Char = refl
zero_in UChar = refl
zero_in Short = refl
zero_in UShort = refl
zero_in Int = refl
zero_in UInt = refl
zero_in Long = refl
zero_in ULong = refl
zero_in (Shared n b) = refl
zero_in Lock = refl
zero_in (Private n) = refl

integer_fits : (kind : Kind) (c : Constant) → in_kind kind (integer_in kind c) ≡ true
integer_fits kind Variable = zero_in kind
integer_fits kind (Known v) = converted_in kind v
integer_fits kind Undefined = zero_in kind
integer_fits kind Null = zero_in kind
integer_fits kind (Address p e) = zero_in kind

-- ---- pointers-to-shared

-- A phase is 0 or in the block.
abbrev pub phase_fits : ℕ → SharedPtr → Bool
phase_fits block p = (p.phase == 0) || nat_lt p.phase block

fitting_phase : (b : Bool) (threads block : ℕ) (p : SharedPtr) → fits threads block p ≡ b →
    phase_fits block (if b then p else null) ≡ true
fitting_phase true threads block p e =
    (and_parts (phase_fits block p) (in_range p.offset)
    (and_parts (nat_lt p.thread threads) (phase_fits block p && in_range p.offset) e).1).0
fitting_phase false threads block p e = refl

into_phase : (threads block : ℕ) (o : Option ObjectRef) (thread phase : ℕ) (offset : ℤ) →
    phase_fits block (pointer_into threads block o thread phase offset) ≡ true
into_phase threads block None thread phase offset = refl
into_phase threads block (Some x) thread phase offset =
    let p : SharedPtr = record { object = x; thread = thread; phase = phase; offset = offset } in
    fitting_phase (fits threads block p) threads block p refl

pub pointer_phase : (σ : Setting) (block : ℕ) (c : Constant) → phase_fits block (shared_pointer_in σ block c) ≡ true
pointer_phase σ block (Address (static.Shared object thread phase offset) e) =
    into_phase σ.threads block (numbered σ.shared object) thread phase offset
pointer_phase σ block (Address (static.Private object offset) e) = refl
pointer_phase σ block Variable = refl
pointer_phase σ block (Known v) = refl
pointer_phase σ block Undefined = refl
pointer_phase σ block Null = refl

-- ---- what they name

any_at : (os : List ObjectRef) (n : ℕ) (x : ObjectRef) → slice_get os n ≡ Some x → list_any (same_object x) os ≡ true
any_at [] n x h = absurd cc
any_at (y ∷ os) zero x h =
    let e : y ≡ x = cc in
    or_left (same_object x y) (list_any (same_object x) os)
    (subst (λ (z : ObjectRef). same_object x z ≡ true) (sym e) (same_object-refl x))
any_at (y ∷ os) (suc n) x h = or_right (same_object x y) (list_any (same_object x) os) (any_at os n x h)

numbered_any : (xs : List SharedDecl) (n : ℕ) (x : ObjectRef) → numbered xs n ≡ Some x →
    list_any (same_object x) (map object_of xs) ≡ true
numbered_any xs zero x h = absurd cc
numbered_any xs (suc n) x h = any_at (map object_of xs) n x h

null_named : (threads : ℕ) (os : List ObjectRef) → is_named threads os null ≡ true
null_named threads os = refl

fitting_named : (b : Bool) (threads block : ℕ) (os : List ObjectRef) (p : SharedPtr) → fits threads block p
    ≡ b → list_any (same_object p.object) os ≡ true →
    is_named threads os (if b then p else null) ≡ true
fitting_named true threads block os p e h =
    let q = and_parts (nat_lt p.thread threads) (phase_fits block p && in_range p.offset) e in
    let r = and_parts (phase_fits block p) (in_range p.offset) q.1 in
    or_right (is_null p) (list_any (same_object p.object) os && (nat_lt p.thread threads && in_range p.offset))
    (and_from (list_any (same_object p.object) os) (nat_lt p.thread threads && in_range p.offset) h
    (and_from (nat_lt p.thread threads) (in_range p.offset) q.0 r.1))
fitting_named false threads block os p e h = null_named threads os

into_named : (threads block : ℕ) (xs : List SharedDecl) (n : ℕ) (o : Option ObjectRef) (thread phase : ℕ)
    (offset : ℤ) → numbered xs n ≡ o →
    is_named threads (map object_of xs) (pointer_into threads block o thread phase offset) ≡ true
into_named threads block xs n None thread phase offset e = null_named threads (map object_of xs)
into_named threads block xs n (Some x) thread phase offset e =
    let p : SharedPtr = record { object = x; thread = thread; phase = phase; offset = offset } in
    fitting_named (fits threads block p) threads block (map object_of xs) p refl (numbered_any xs n x e)

pub pointer_named : (σ : Setting) (block : ℕ) (c : Constant) →
    is_named σ.threads (map object_of σ.shared) (shared_pointer_in σ block c) ≡ true
pointer_named σ block (Address (static.Shared object thread phase offset) e) =
    into_named σ.threads block σ.shared object (numbered σ.shared object) thread phase offset refl
pointer_named σ block (Address (static.Private object offset) e) = null_named σ.threads (map object_of σ.shared)
pointer_named σ block Variable = null_named σ.threads (map object_of σ.shared)
pointer_named σ block (Known v) = null_named σ.threads (map object_of σ.shared)
pointer_named σ block Undefined = null_named σ.threads (map object_of σ.shared)
pointer_named σ block Null = null_named σ.threads (map object_of σ.shared)

-- ---- values of scalars

-- A scalar names nothing but objects of the file.
abbrev pub is_scalar : Setting → Scalar → Bool
is_scalar σ (scalar.Int v) = true
is_scalar σ (scalar.Shared p) = is_named σ.threads (map object_of σ.shared) p
is_scalar σ (scalar.Lock l) = l == 0

-- A scalar fits a kind of no pointer to a private object, and names nothing but objects of the file.
pub record IsWorth (σ : Setting) (kind : Kind) (v : Scalar) : Type 0 where
  pub sharable : is_private kind ≡ false
  pub fit : fits_kind v kind ≡ true
  pub known : is_scalar σ v ≡ true

abbrev scalar_of : Value → Scalar → Scalar
scalar_of (value.Scalar v) d = v
scalar_of (value.Local p) d = d

same_scalar : (v w : Scalar) → value.Scalar v ≡ value.Scalar w → v ≡ w
same_scalar v w e = ap (λ x. scalar_of x v) e

int_worth : (σ : Setting) (kind : Kind) (c : Constant) (v : Scalar) → is_private kind ≡ false →
    (fits_kind (scalar.Int (integer_in kind c)) kind ≡ in_kind kind (integer_in kind c)) →
    value.Scalar (scalar.Int (integer_in kind c)) ≡ value.Scalar v → IsWorth σ kind v
int_worth σ kind c v p f e =
    subst (IsWorth σ kind) (same_scalar (scalar.Int (integer_in kind c)) v e)
    (record { sharable = p; fit = f ∙ integer_fits kind c; known = refl })

pub value_worth : (σ : Setting) (kind : Kind) (c : Constant) (v : Scalar) → initial_value σ kind c ≡ value.Scalar v →
    IsWorth σ kind v
value_worth σ Char c v e = int_worth σ Char c v refl refl e
value_worth σ UChar c v e = int_worth σ UChar c v refl refl e
value_worth σ Short c v e = int_worth σ Short c v refl refl e
value_worth σ UShort c v e = int_worth σ UShort c v refl refl e
value_worth σ Int c v e = int_worth σ Int c v refl refl e
value_worth σ UInt c v e = int_worth σ UInt c v refl refl e
value_worth σ Long c v e = int_worth σ Long c v refl refl e
value_worth σ ULong c v e = int_worth σ ULong c v refl refl e
value_worth σ (Shared n b) c v e =
    subst (IsWorth σ (Shared n b)) (same_scalar (scalar.Shared (shared_pointer_in σ b c)) v e)
    (record { sharable = refl; fit = pointer_phase σ b c; known = pointer_named σ b c })
value_worth σ Lock c v e =
    subst (IsWorth σ Lock) (same_scalar (scalar.Lock 0) v e) (record { sharable = refl; fit = refl; known = refl })
value_worth σ (Private n) c v e = absurd cc

-- ---- values of pointers-to-local

-- A pointer-to-local fits a kind of a pointer to a private object, and names nothing but private objects of the file.
pub record IsLocal (σ : Setting) (kind : Kind) (p : LocalPtr) : Type 0 where
  pub fit : value_fits (value.Local p) kind ≡ true
  pub known : is_local σ.privates p ≡ true

if_local : (b : Bool) (privates object : ℕ) (offset : ℤ) → (nat_lt object privates && in_range offset) ≡ b →
    is_local privates (if b then local.Private object offset else local.Null) ≡ true
if_local true privates object offset e = e
if_local false privates object offset e = refl

pointer_local : (σ : Setting) (c : Constant) → is_local σ.privates (local_pointer_in σ c) ≡ true
pointer_local σ (Address (static.Private object offset) e) =
    if_local (nat_lt object σ.privates && in_range offset) σ.privates object offset refl
pointer_local σ (Address (static.Shared object thread phase offset) e) = refl
pointer_local σ Variable = refl
pointer_local σ (Known v) = refl
pointer_local σ Undefined = refl
pointer_local σ Null = refl

abbrev pointer_of : Value → LocalPtr → LocalPtr
pointer_of (value.Local p) d = p
pointer_of (value.Scalar v) d = d

pub value_local : (σ : Setting) (kind : Kind) (c : Constant) (p : LocalPtr) → initial_value σ kind c
    ≡ value.Local p → IsLocal σ kind p
value_local σ (Private n) c p e =
    subst (IsLocal σ (Private n)) (ap (λ x. pointer_of x p) e) (record { fit = refl; known = pointer_local σ c })
value_local σ kind c p e = absurd cc
