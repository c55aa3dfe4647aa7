-- What operators, reads of objects and conversions of expressions bring.
use Rattle.std.proofs.Common.{◌≡◌, ℕ, Bool, true, false, not, ◌&&◌, ◌||◌, Option, Some, None, refl, sym, subst, ◌∙◌}
use Rattle.std.proofs.Math.IntN.{ℤ, pos}
use Rattle.std.specs.Prelude.{Result}
use Rattle.std.proofs.lemmas.Bool.{false≢true}
use Rattle.upc_text.specs.declared.place.Place.{Place}
use Rattle.block_layout.specs.declared.kind.Kind.{Kind}
use Rattle.block_layout.specs.declared.kind.Kind.TheVariants as kind
use Rattle.integers.specs.Integers as integers
use Rattle.integers.specs.Integers.{converted, promoted}
use Rattle.integers.specs.Operators.{binary_of, unary_of}
use Rattle.integers.specs.declared.operator.BinOp.{BinOp}
use Rattle.integers.specs.declared.operator.BinOp.TheVariants as op
use Rattle.integers.specs.declared.operator.UnOp.{UnOp}
use Rattle.integers.specs.declared.operator.UnOp.TheVariants as un
use Rattle.upc_values.specs.declared.scalar.Scalar.TheVariants.{Int, Shared, Lock}
use Rattle.upc_values.specs.declared.scalar.Value.{Value}
use Rattle.upc_values.specs.declared.scalar.Value.TheVariants as value
use Rattle.upc_values.specs.Shapes.{value_fits}
use Rattle.upc_types.specs.Types as types
use Rattle.upc_types.specs.Types.{CType, Base, Qualified, Structs, base_of, block_of}
use Rattle.upc_types.specs.Cells.{pointer_kind}
use Rattle.upc_types.specs.Cells as cells
use Rattle.typing_rules.specs.declared.attribute.Constant.{Constant}
use Rattle.typing_rules.specs.Values.{base_target, base_kind, value_base, value_type, present}
use Rattle.typing_rules.specs.Constants.{working_kind, right_kind}
use Rattle.typing_rules.specs.Attributes.{Facts, base, target_block, arithmetic_attr, sum_attr, difference_attr}
use Rattle.typing_rules.specs.Attributes.{binary_attr}
use Rattle.typing_rules.specs.Nodes.{Attr}
use Rattle.typing_rules.specs.Rules.{adds, fits, moves, points, counts}
use Rattle.thread_steps.specs.States.{Doing, ◌>>=◌, give, skip, choose, fault, valued}
use Rattle.thread_steps.specs.Values.{number, number_of, truth_value, is_zero}
use Rattle.thread_steps.specs.Pointers as p
use Rattle.thread_steps.specs.layer.Parts as parts
use Rattle.thread_steps.specs.Operators as o
use Rattle.source_meaning.specs.Types.{target_of, integer_of, cell_kind, elements_of}
use Rattle.source_meaning.specs.Running.{Running}
use Rattle.source_meaning.specs.Expressions as e
use Rattle.source_meaning.specs.layer.Parts as own_parts
use Rattle.meaning_laws.specs.layer.Values.{FitsCell, IsNumber, IsOf, IsOfBase, IsPlaceOf, IsGiven, IsGivenBy}
use Rattle.meaning_laws.specs.layer.Values.{HasIntegerKind, IsFormedType, Brings}
use Rattle.meaning_laws.proofs.Steps.{Any, give_brings, skip_brings, over_brings, first_brings, weaker_brings}
use Rattle.meaning_laws.proofs.Steps.{choose_brings, valued_brings, any_result}
use Rattle.meaning_laws.specs.code.Laws.{ChangesFit}
use Rattle.meaning_laws.proofs.Conversions.{PhaseFits, phase_cast_fits, no_block, of_target}
use Rattle.meaning_laws.proofs.Operations.{Fits, kind_by, formed_kind, unlocked_kind, load_brings, save_brings}
use Rattle.meaning_laws.proofs.Operations.{advance_brings}

-- ---- values of types

-- A number has any phase.
pub number_phase : (block : Option ℕ) (v : Value) → IsNumber v → PhaseFits block v
number_phase None v h = no_block v
number_phase (Some b) (value.Scalar (Int n)) h = tt
number_phase (Some b) (value.Scalar (Shared q)) h = absurd h
number_phase (Some b) (value.Scalar (Lock l)) h = absurd h
number_phase (Some b) (value.Local q) h = absurd h

number_fits : (k : Kind) (v : Value) → integers.IsInteger k → value_fits v k ≡ true → IsNumber v
number_fits k (value.Scalar (Int n)) i h = tt
number_fits kind.Char (value.Scalar (Shared q)) i h = absurd (false≢true h)
number_fits kind.UChar (value.Scalar (Shared q)) i h = absurd (false≢true h)
number_fits kind.Short (value.Scalar (Shared q)) i h = absurd (false≢true h)
number_fits kind.UShort (value.Scalar (Shared q)) i h = absurd (false≢true h)
number_fits kind.Int (value.Scalar (Shared q)) i h = absurd (false≢true h)
number_fits kind.UInt (value.Scalar (Shared q)) i h = absurd (false≢true h)
number_fits kind.Long (value.Scalar (Shared q)) i h = absurd (false≢true h)
number_fits kind.ULong (value.Scalar (Shared q)) i h = absurd (false≢true h)
number_fits (kind.Shared n b) (value.Scalar (Shared q)) i h = absurd i
number_fits kind.Lock (value.Scalar (Shared q)) i h = absurd i
number_fits (kind.Private n) (value.Scalar (Shared q)) i h = absurd i
number_fits kind.Char (value.Scalar (Lock l)) i h = absurd (false≢true h)
number_fits kind.UChar (value.Scalar (Lock l)) i h = absurd (false≢true h)
number_fits kind.Short (value.Scalar (Lock l)) i h = absurd (false≢true h)
number_fits kind.UShort (value.Scalar (Lock l)) i h = absurd (false≢true h)
number_fits kind.Int (value.Scalar (Lock l)) i h = absurd (false≢true h)
number_fits kind.UInt (value.Scalar (Lock l)) i h = absurd (false≢true h)
number_fits kind.Long (value.Scalar (Lock l)) i h = absurd (false≢true h)
number_fits kind.ULong (value.Scalar (Lock l)) i h = absurd (false≢true h)
number_fits (kind.Shared n b) (value.Scalar (Lock l)) i h = absurd i
number_fits kind.Lock (value.Scalar (Lock l)) i h = absurd i
number_fits (kind.Private n) (value.Scalar (Lock l)) i h = absurd i
number_fits kind.Char (value.Local q) i h = absurd (false≢true h)
number_fits kind.UChar (value.Local q) i h = absurd (false≢true h)
number_fits kind.Short (value.Local q) i h = absurd (false≢true h)
number_fits kind.UShort (value.Local q) i h = absurd (false≢true h)
number_fits kind.Int (value.Local q) i h = absurd (false≢true h)
number_fits kind.UInt (value.Local q) i h = absurd (false≢true h)
number_fits kind.Long (value.Local q) i h = absurd (false≢true h)
number_fits kind.ULong (value.Local q) i h = absurd (false≢true h)
number_fits (kind.Shared n b) (value.Local q) i h = absurd i
number_fits kind.Lock (value.Local q) i h = absurd i
number_fits (kind.Private n) (value.Local q) i h = absurd i

-- What fits a pointer to a type with some block fits any pointer to one with this block.
other_number : (s : Option ℕ) (m n : ℕ) (v : Value) → Fits (kind_by s m) v → Fits (kind_by s n) v
other_number (Some b) m n (value.Scalar (Int w)) h = absurd (false≢true h)
other_number (Some b) m n (value.Scalar (Shared q)) h = h
other_number (Some b) m n (value.Scalar (Lock l)) h = absurd (false≢true h)
other_number (Some b) m n (value.Local q) h = absurd (false≢true h)
other_number None m n (value.Scalar (Int w)) h = absurd (false≢true h)
other_number None m n (value.Scalar (Shared q)) h = absurd (false≢true h)
other_number None m n (value.Scalar (Lock l)) h = absurd (false≢true h)
other_number None m n (value.Local q) h = refl

-- What is no array: its values are what its cells hold.
abbrev pub IsNoArray : Base → Type 0
IsNoArray (types.Array t count) = ⊥
IsNoArray b = Unit {0}

pub is_of : (structs : Structs) (t : CType) (v : Value) → IsNoArray (base_of t) → HasIntegerKind (base_of t)
    → FitsCell (cell_kind structs t) v → IsOf structs t v
is_of structs (Qualified (types.Integer k) c s x) v n i h = number_fits k v i h
is_of structs (Qualified (types.Pointer t) c s x) v n i h = h
is_of structs (Qualified (types.Array t count) c s x) v n i h = absurd n
is_of structs (Qualified types.Void c s x) v n i h = tt
is_of structs (Qualified (types.Struct m) c s x) v n i h = tt
is_of structs (Qualified types.LockObject c s x) v n i h = tt

pub integer_kind : (t : CType) → IsFormedType t → HasIntegerKind (base_of t)
integer_kind (Qualified (types.Integer k) c s x) f = f
integer_kind (Qualified (types.Pointer t) c s x) f = tt
integer_kind (Qualified (types.Array t count) c s x) f = tt
integer_kind (Qualified types.Void c s x) f = tt
integer_kind (Qualified (types.Struct m) c s x) f = tt
integer_kind (Qualified types.LockObject c s x) f = tt

-- A value of a type is one of its type as a value.
pub of_value_type : (structs : Structs) (t : CType) (v : Value) → IsOf structs t v → IsOf structs (value_type t) v
of_value_type structs (Qualified (types.Integer k) c s x) v h = h
of_value_type structs (Qualified (types.Pointer t) c s x) v h = h
of_value_type structs (Qualified (types.Array t count) c s x) v h = h
of_value_type structs (Qualified types.Void c s x) v h = tt
of_value_type structs (Qualified (types.Struct m) c s x) v h = tt
of_value_type structs (Qualified types.LockObject c s x) v h = tt

pub no_array_value : (t : CType) → IsNoArray (base_of (value_type t))
no_array_value (Qualified (types.Integer k) c s x) = tt
no_array_value (Qualified (types.Pointer t) c s x) = tt
no_array_value (Qualified (types.Array t count) c s x) = tt
no_array_value (Qualified types.Void c s x) = tt
no_array_value (Qualified (types.Struct m) c s x) = tt
no_array_value (Qualified types.LockObject c s x) = tt

-- A value of a type with this target is the place of an object of the target.
pub is_place : (structs : Structs) (b : Base) (t : CType) (v : Value) → base_target (value_base b) ≡ Some t
    → IsOfBase structs.targets b v → IsPlaceOf structs t v
is_place structs (types.Pointer u) t v e h =
    let same : u ≡ t = cc in subst (λ (w : CType). IsPlaceOf structs w v) same h
is_place structs (types.Array u count) t v e h =
    let same : u ≡ t = cc in subst (λ (w : CType). IsPlaceOf structs w v) same h
is_place structs (types.Integer k) t v e h = absurd cc
is_place structs types.Void t v e h = absurd cc
is_place structs (types.Struct m) t v e h = absurd cc
is_place structs types.LockObject t v e h = absurd cc

pub value_target : (b : Base) → base_target (value_base b) ≡ base_target b
value_target (types.Pointer u) = refl
value_target (types.Array u count) = refl
value_target (types.Integer k) = refl
value_target types.Void = refl
value_target (types.Struct m) = refl
value_target types.LockObject = refl

-- ---- integers

pub truth_brings : (b : Bool) → Brings Value IsNumber (give (truth_value b))
truth_brings b = give_brings IsNumber (truth_value b) tt

pub numbered : (at : Place) (r : Result ℤ ℕ) → Brings Value IsNumber (valued at r >>= (λ v. give (number v)))
numbered at r =
    first_brings Any IsNumber (valued at r) _ (valued_brings Any at r (any_result r)) (λ v u.
    give_brings IsNumber (number v) tt)

pub operate_brings : (oper : BinOp) (left right : Kind) (at : Place) (x y : Value)
    → Brings Value IsNumber (o.operate oper left right at x y)
unfolding o.operate
operate_brings oper left right at x y =
    numbered at (binary_of oper left (converted left (number_of x)) (converted right (number_of y)))

pub apply_brings : (oper : UnOp) (k : Kind) (at : Place) (x : Value) → Brings Value IsNumber (o.apply oper k at x)
unfolding o.apply
apply_brings oper k at x = numbered at (unary_of oper k (converted k (number_of x)))

pub unary_brings : (at : Place) (oper : UnOp) (k : Option Kind) (v : Value)
    → Brings Value IsNumber (e.unary at oper k v)
unary_brings at un.Not k v = truth_brings (is_zero v)
unary_brings at oper (Some k) v = apply_brings oper (promoted k) at v
unary_brings at oper None v = give_brings IsNumber e.no_value tt

integers_brings : (at : Place) (oper : BinOp) (j k : Option Kind) (x y : Value)
    → Brings Value IsNumber (own_parts.integers at oper j k x y)
integers_brings at oper (Some j) (Some k) x y = operate_brings oper (working_kind oper j k) (right_kind oper j k) at x y
integers_brings at oper (Some j) None x y = give_brings IsNumber e.no_value tt
integers_brings at oper None k x y = give_brings IsNumber e.no_value tt

module _ (ρ : Running) where
  pub behind_brings : (at : Place) (t : CType) (v : Value) (i : ℤ) → IsPlaceOf ρ.structs t v
      → Brings Value (IsPlaceOf ρ.structs t) (e.behind ρ at t v i)
  behind_brings at t v i h = advance_brings ρ.thread ρ.structs _ t at v h

  pub any_behind : (at : Place) (t : CType) (v : Value) (i : ℤ) → Brings Value Any (e.behind ρ at t v i)
  unfolding p.advance
  any_behind at t v i = valued_brings Any at _ (any_result _)

  difference_brings : (at : Place) (t : CType) (x y : Value)
      → Brings Value IsNumber (p.difference ρ.thread (elements_of ρ.structs t) at x y)
  unfolding p.difference
  difference_brings at t x y = numbered at (p.apart ρ.thread (elements_of ρ.structs t) x y)

  same_brings : (x y : Value) → Brings Value IsNumber (p.same ρ.thread x y)
  unfolding p.same
  same_brings x y = give_brings IsNumber _ tt

  order_brings : (oper : BinOp) (at : Place) (t : CType) (x y : Value)
      → Brings Value IsNumber (p.order ρ.thread oper (elements_of ρ.structs t) at x y)
  unfolding p.order
  order_brings oper at t x y =
      let r = p.apart ρ.thread (elements_of ρ.structs t) x y in
      first_brings Any IsNumber (valued at r) _ (valued_brings Any at r (any_result r)) (λ z u.
      numbered at (binary_of oper kind.Long z (pos 0)))

  on_pointers_brings : (at : Place) (oper : BinOp) (t : CType) (x y : Value)
      → Brings Value IsNumber (e.on_pointers ρ at oper t x y)
  on_pointers_brings at op.Subtract t x y = difference_brings at t x y
  on_pointers_brings at op.Equal t x y = same_brings x y
  on_pointers_brings at op.NotEqual t x y =
      first_brings IsNumber IsNumber (p.same ρ.thread x y) _ (same_brings x y) (λ v h. truth_brings (is_zero v))
  on_pointers_brings at oper t x y = order_brings oper at t x y

  on_pointer_number : (at : Place) (oper : BinOp) (t : CType) (x y : Value) → moves oper ≡ false
      → Brings Value IsNumber (own_parts.on_pointer ρ at t x y oper)
  on_pointer_number at op.Add t x y m = absurd (false≢true (sym m))
  on_pointer_number at op.Subtract t x y m = absurd (false≢true (sym m))
  on_pointer_number at oper t x y m = on_pointers_brings at oper t x y

  before_pointer_number : (at : Place) (oper : BinOp) (t : CType) (x y : Value) → moves oper ≡ false
      → Brings Value IsNumber (own_parts.before_pointer ρ at t x y oper)
  before_pointer_number at op.Add t x y m = absurd (false≢true (sym m))
  before_pointer_number at oper t x y m = on_pointers_brings at oper t x y

  operated_number : (at : Place) (oper : BinOp) (l r : Option CType) (j k : Option Kind) (x y : Value)
      → moves oper ≡ false → Brings Value IsNumber (e.operated ρ at oper l r j k x y)
  operated_number at oper (Some t) (Some u) j k x y m = on_pointers_brings at oper t x y
  operated_number at oper (Some t) None j k x y m = on_pointer_number at oper t x y m
  operated_number at oper None (Some u) j k x y m = before_pointer_number at oper u x y m
  operated_number at oper None None j k x y m = integers_brings at oper j k x y

  arithmetic_given : (oper : BinOp) (j k : Option Kind) (c d : Constant) (v : Value) → IsNumber v
      → IsGiven ρ.structs (arithmetic_attr oper j k c d) v
  arithmetic_given oper (Some j) (Some k) c d v h = h
  arithmetic_given oper (Some j) None c d v h = h
  arithmetic_given oper None k c d v h = h

  -- ---- sums and differences of pointers

  module _ (φ : Facts) (at : Place) (a b : Attr) (j k : Option Kind) (x y : Value)
      (of_a : IsOf ρ.structs a.ctype x) (of_b : IsOf ρ.structs b.ctype y) where
    abbrev Sum : Option CType → Option CType → Type 0
    Sum l r = Brings Value (IsGiven ρ.structs (sum_attr φ a b l r)) (e.operated ρ at op.Add l r j k x y)

    sum_by : (l r : Option CType) → base_target (base a) ≡ l → base_target (base b) ≡ r
        → (present l && present r) ≡ false → Sum l r
    sum_by (Some t) (Some u) ea eb m = absurd (false≢true (sym m))
    sum_by (Some t) None ea eb m = behind_brings at t x _ (is_place ρ.structs (base_of a.ctype) t x ea of_a)
    sum_by None (Some u) ea eb m = behind_brings at u y _ (is_place ρ.structs (base_of b.ctype) u y eb of_b)
    sum_by None None ea eb m =
        let given = sum_attr φ a b None None in
        weaker_brings IsNumber (IsGiven ρ.structs given) (own_parts.integers at op.Add j k x y)
        (integers_brings at op.Add j k x y)
        (λ v h. arithmetic_given op.Add (base_kind (base a)) (base_kind (base b)) a.constant b.constant v h)

    abbrev Difference : Option CType → Option CType → Type 0
    Difference l r =
        Brings Value (IsGiven ρ.structs (difference_attr φ a b l r)) (e.operated ρ at op.Subtract l r j k x y)

    difference_by : (l r : Option CType) → base_target (base a) ≡ l → Difference l r
    difference_by (Some t) (Some u) ea = difference_brings at t x y
    difference_by (Some t) None ea = behind_brings at t x _ (is_place ρ.structs (base_of a.ctype) t x ea of_a)
    difference_by None (Some u) ea =
        weaker_brings IsNumber _ (own_parts.before_pointer ρ at u x y op.Subtract) (difference_brings at u x y)
        (λ v h. arithmetic_given op.Subtract (base_kind (base a)) (base_kind (base b)) a.constant b.constant v h)
    difference_by None None ea =
        weaker_brings IsNumber _ (own_parts.integers at op.Subtract j k x y) (integers_brings at op.Subtract j k x y)
        (λ v h. arithmetic_given op.Subtract (base_kind (base a)) (base_kind (base b)) a.constant b.constant v h)

  third : (b c d : Bool) → (b && c && d) ≡ true → d ≡ true
  third true true d h = h
  third true false d h = absurd (false≢true h)
  third false c d h = absurd (false≢true h)

  fails : (b : Bool) → not b ≡ true → b ≡ false
  fails true h = absurd (false≢true h)
  fails false h = refl

  both_point : (a b : Attr) → adds a b ≡ true → (points a && points b) ≡ false
  both_point a b h =
      fails (points a && points b) (third (counts a || points a) (counts b || points b) (not (points a && points b)) h)

  module _ (φ : Facts) (at : Place) (a b : Attr) (x y : Value) (of_a : IsOf ρ.structs a.ctype x)
      (of_b : IsOf ρ.structs b.ctype y) where
    abbrev Given : BinOp → Type 0
    Given oper = Brings Value (IsGiven ρ.structs (binary_attr φ oper a b)) (e.binary ρ at oper a.ctype b.ctype x y)

    others : (oper : BinOp) → moves oper ≡ false
        → Brings Value
        (IsGiven ρ.structs (arithmetic_attr oper (base_kind (base a)) (base_kind (base b)) a.constant b.constant))
        (e.binary ρ at oper a.ctype b.ctype x y)
    others oper m =
        weaker_brings IsNumber
        (IsGiven ρ.structs (arithmetic_attr oper (base_kind (base a)) (base_kind (base b)) a.constant b.constant))
        (e.binary ρ at oper a.ctype b.ctype x y)
        (operated_number at oper (target_of a.ctype) (target_of b.ctype) (integer_of a.ctype)
        (integer_of b.ctype) x y m)
        (λ v h. arithmetic_given oper (base_kind (base a)) (base_kind (base b)) a.constant b.constant v h)

    -- What a binary operator gives is of the type of its node.
    pub binary_brings : (oper : BinOp) → fits oper a b ≡ true → Given oper
    binary_brings op.Add h =
        let j = integer_of a.ctype in
        let k = integer_of b.ctype in
        let ea = value_target (base_of a.ctype) in
        let eb = value_target (base_of b.ctype) in
        let m = both_point a b h in
        let apart : (present (target_of a.ctype) && present (target_of b.ctype)) ≡ false =
        subst (λ (r : Option CType). (present (target_of a.ctype) && present r) ≡ false) eb
        (subst (λ (l : Option CType). (present l && points b) ≡ false) ea m)
        in
        let sum = sum_by φ at a b j k x y of_a of_b (target_of a.ctype) (target_of b.ctype) ea eb apart in
        let doing = e.operated ρ at op.Add (target_of a.ctype) (target_of b.ctype) j k x y in
        subst (λ (r : Option CType). Brings Value (IsGiven ρ.structs (sum_attr φ a b (base_target (base a)) r)) doing)
        (sym eb)
        (subst (λ (l : Option CType). Brings Value (IsGiven ρ.structs (sum_attr φ a b l (target_of b.ctype))) doing)
        (sym ea) sum)
    binary_brings op.Subtract h =
        let j = integer_of a.ctype in
        let k = integer_of b.ctype in
        let ea = value_target (base_of a.ctype) in
        let eb = value_target (base_of b.ctype) in
        let difference = difference_by φ at a b j k x y of_a of_b (target_of a.ctype) (target_of b.ctype) ea in
        let doing = e.operated ρ at op.Subtract (target_of a.ctype) (target_of b.ctype) j k x y in
        subst
        (λ (r : Option CType). Brings Value (IsGiven ρ.structs (difference_attr φ a b (base_target (base a)) r)) doing)
        (sym eb)
        (subst
        (λ (l : Option CType). Brings Value (IsGiven ρ.structs (difference_attr φ a b l (target_of b.ctype))) doing)
        (sym ea) difference)
    binary_brings op.Multiply h = others op.Multiply refl
    binary_brings op.Divide h = others op.Divide refl
    binary_brings op.Remainder h = others op.Remainder refl
    binary_brings op.ShiftLeft h = others op.ShiftLeft refl
    binary_brings op.ShiftRight h = others op.ShiftRight refl
    binary_brings op.Less h = others op.Less refl
    binary_brings op.Greater h = others op.Greater refl
    binary_brings op.LessEqual h = others op.LessEqual refl
    binary_brings op.GreaterEqual h = others op.GreaterEqual refl
    binary_brings op.Equal h = others op.Equal refl
    binary_brings op.NotEqual h = others op.NotEqual refl
    binary_brings op.BitAnd h = others op.BitAnd refl
    binary_brings op.BitXor h = others op.BitXor refl
    binary_brings op.BitOr h = others op.BitOr refl

  -- ---- operators that change an object

  abbrev HasPhase : Option CType → Value → Type 0
  HasPhase t v = PhaseFits (target_block t) v

  to_phase : (t : Option CType) (m : Doing Value) → Brings Value IsNumber m → Brings Value (HasPhase t) m
  to_phase t m h = weaker_brings IsNumber (HasPhase t) m h (λ v n. number_phase (target_block t) v n)

  behind_phase : (at : Place) (t : CType) (x : Value) (i : ℤ) → IsPlaceOf ρ.structs t x
      → Brings Value (HasPhase (Some t)) (e.behind ρ at t x i)
  behind_phase at t x i h =
      weaker_brings (IsPlaceOf ρ.structs t) (HasPhase (Some t)) (e.behind ρ at t x i) (behind_brings at t x i h)
      (λ v g. of_target ρ.structs.targets t v g)

  any_phase : (m : Doing Value) → Brings Value Any m → Brings Value (HasPhase None) m
  any_phase m h = weaker_brings Any (HasPhase None) m h (λ v u. no_block v)

  pointer_phase : (at : Place) (oper : BinOp) (t : CType) (x y : Value) → IsPlaceOf ρ.structs t x
      → Brings Value (HasPhase (Some t)) (own_parts.on_pointer ρ at t x y oper)
  pointer_phase at op.Add t x y h = behind_phase at t x _ h
  pointer_phase at op.Subtract t x y h = behind_phase at t x _ h
  pointer_phase at oper t x y h = to_phase (Some t) _ (on_pointers_brings at oper t x y)

  before_phase : (at : Place) (oper : BinOp) (t : CType) (x y : Value)
      → Brings Value (HasPhase None) (own_parts.before_pointer ρ at t x y oper)
  before_phase at op.Add t x y = any_phase _ (any_behind at t y _)
  before_phase at oper t x y = to_phase None _ (on_pointers_brings at oper t x y)

  operated_phase : (at : Place) (oper : BinOp) (l r : Option CType) (j k : Option Kind) (x y : Value)
      → ((t : CType) → l ≡ Some t → IsPlaceOf ρ.structs t x)
      → Brings Value (HasPhase l) (e.operated ρ at oper l r j k x y)
  operated_phase at oper (Some t) (Some u) j k x y h = to_phase (Some t) _ (on_pointers_brings at oper t x y)
  operated_phase at oper (Some t) None j k x y h = pointer_phase at oper t x y (h t refl)
  operated_phase at oper None (Some u) j k x y h = before_phase at oper u x y
  operated_phase at oper None None j k x y h = to_phase None _ (integers_brings at oper j k x y)

  -- What a binary operator gives has the phase of a pointer of the type of its left operand.
  pub binary_phase : (at : Place) (oper : BinOp) (a b : CType) (x y : Value) → IsOf ρ.structs a x
      → Brings Value (PhaseFits (target_block (target_of a))) (e.binary ρ at oper a b x y)
  binary_phase at oper a b x y h =
      operated_phase at oper (target_of a) (target_of b) (integer_of a) (integer_of b) x y
      (λ t q. is_place ρ.structs (base_of a) t x (value_target (base_of a) ∙ q) h)

  -- ---- objects

  -- What is read of an object at a place is a value of its type.
  pub held_brings : (strict : Bool) (at : Place) (t : CType) (v : Value) → IsFormedType t → IsPlaceOf ρ.structs t v
      → Brings Value (IsOf ρ.structs t) (e.held ρ strict at t v)
  held_brings strict at (Qualified (types.Integer k) c s x) v f h =
      weaker_brings (Fits k) IsNumber _ (load_brings ρ.thread k _ at v) (λ w g. number_fits k w f g)
  held_brings strict at (Qualified (types.Pointer t) c s x) v f h =
      load_brings ρ.thread (pointer_kind ρ.structs.targets t) _ at v
  held_brings strict at (Qualified (types.Array (Qualified b d t y) count) c s x) v f h =
      let array = Qualified (types.Array (Qualified b d t y) count) c s x in
      let element = Qualified b d t y in
      let n = cells.number_of ρ.structs.targets array in
      let fits : Fits (kind_by s n) v = subst (λ (i : Kind). Fits i v) (formed_kind ρ.structs.targets array f) h in
      let same : Fits (kind_by t n) v = subst (λ (i : Option ℕ). Fits (kind_by i n) v) (sym f.0) fits in
      let other = other_number t n (cells.number_of ρ.structs.targets element) v same in
      give_brings (IsOf ρ.structs array) v
      (subst (λ (i : Kind). Fits i v) (sym (unlocked_kind ρ.structs.targets element f.1)) other)
  held_brings strict at (Qualified types.Void c s x) v f h = give_brings _ v tt
  held_brings strict at (Qualified (types.Struct m) c s x) v f h = give_brings _ v tt
  held_brings strict at (Qualified types.LockObject c s x) v f h = absurd f

  pub any_held : (strict : Bool) (at : Place) (t : CType) (v : Value) → IsFormedType t → IsNoArray (base_of t)
      → Brings Value (IsOf ρ.structs t) (e.held ρ strict at t v)
  any_held strict at (Qualified (types.Integer k) c s x) v f n =
      weaker_brings (Fits k) IsNumber _ (load_brings ρ.thread k _ at v) (λ w g. number_fits k w f g)
  any_held strict at (Qualified (types.Pointer t) c s x) v f n =
      load_brings ρ.thread (pointer_kind ρ.structs.targets t) _ at v
  any_held strict at (Qualified (types.Array t count) c s x) v f n = absurd n
  any_held strict at (Qualified types.Void c s x) v f n = give_brings _ v tt
  any_held strict at (Qualified (types.Struct m) c s x) v f n = give_brings _ v tt
  any_held strict at (Qualified types.LockObject c s x) v f n = absurd f

  saved_brings : (strict : Bool) (at : Place) (t : CType) (k : Option Kind) (q v : Value)
      → Brings (Unit {0}) Any (own_parts.saved ρ strict at t q v k)
  saved_brings strict at t (Some k) q v = save_brings ρ.thread k _ at q v
  saved_brings strict at t None q v = skip_brings

  pub put_brings : (strict : Bool) (at : Place) (t : CType) (q v : Value)
      → Brings (Unit {0}) Any (e.put ρ strict at t q v)
  put_brings strict at t q v = saved_brings strict at t (cell_kind ρ.structs t) q v

  pub value_in_brings : (strict lvalue : Bool) (at : Place) (t : CType) (v : Value) → IsFormedType t
      → IsGivenBy ρ.structs lvalue t v
      → Brings Value (IsOf ρ.structs t) (choose lvalue (e.held ρ strict at t v) (give v))
  value_in_brings strict true at t v f h = held_brings strict at t v f h
  value_in_brings strict false at t v f h = give_brings (IsOf ρ.structs t) v h

  pub within_row_brings : (at : Place) (count : Option ℕ) (q : Value) (i : ℤ)
      → Brings (Unit {0}) Any (own_parts.within_row at q i count)
  within_row_brings at None q i = skip_brings
  within_row_brings at (Some count) q i =
      choose_brings Any _ skip (fault (parts.outside q) at) skip_brings (over_brings Any _ (λ σ. tt))

pub changes_fit : ChangesFit
changes_fit = record {
  each = λ ρ at oper t u x y h i.
      first_brings (PhaseFits (target_block (target_of t))) (FitsCell (cell_kind ρ.structs t))
      (e.binary ρ at oper t u x y) _ (binary_phase ρ at oper t u x y h)
      (λ z g. phase_cast_fits ρ.thread ρ.structs t t at z g i);
}
