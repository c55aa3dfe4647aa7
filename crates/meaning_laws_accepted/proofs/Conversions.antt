-- What is converted in a program that meets the rules.
use Rattle.std.proofs.Common.{◌≡◌, Bool, true, false, not, ◌&&◌, ◌||◌, None, refl, sym, ap, ◌∙◌}
use Rattle.std.proofs.Common.{◌⊎◌, inl, inr, subst}
use Rattle.std.proofs.lemmas.Bool.{false≢true, and_parts}
use Rattle.upc_values.specs.declared.scalar.Value.{Value}
use Rattle.upc_types.specs.Types as types
use Rattle.upc_types.specs.Types.{CType, Qualified, Base, Structs, base_of, is_constant}
use Rattle.upc_types.specs.Conversions.{assignable, castable}
use Rattle.typing_rules.specs.Attributes.{Facts}
use Rattle.typing_rules.specs.Values.{value_base, value_type, plainly, base_is_array, is_array, is_struct, is_void}
use Rattle.typing_rules.specs.Nodes as n
use Rattle.typing_rules.specs.Nodes.{Attr, Formed, Around}
use Rattle.typing_rules.specs.Rules.{lowest, table, judge, rule_12, rule_13, rule_17, rule_26, converts, casts}
use Rattle.typing_rules.specs.Rules.{is_zero}
use Rattle.typing_rules.specs.Rules.{is_lvalue, is_modifiable, gives_void}
use Rattle.source_meaning.specs.Types.{conversion}
use Rattle.meaning_laws.specs.layer.Values.{IsOf}
use Rattle.meaning_laws.specs.layer.Uses.{IsTaken}
use Rattle.meaning_laws.proofs.Operations.{or_first}
use Rattle.meaning_laws.proofs.Rules.{unbroken, holds, fails, or_left, or_right}
use Rattle.meaning_laws.proofs.Taken.{conversions_are_taken}
use Rattle.meaning_laws_accepted.proofs.Attributes.{no_array}

-- ---- arrays, into which nothing is converted

array_taken : (from t : CType) (zero : Bool) (v : Value) → base_is_array (base_of t) ≡ true
    → IsTaken zero (conversion from t) v
array_taken from (Qualified (types.Array u count) c s x) zero v h = tt
array_taken from (Qualified types.Void c s x) zero v h = absurd (false≢true h)
array_taken from (Qualified (types.Integer k) c s x) zero v h = absurd (false≢true h)
array_taken from (Qualified (types.Struct number) c s x) zero v h = absurd (false≢true h)
array_taken from (Qualified (types.Pointer u) c s x) zero v h = absurd (false≢true h)
array_taken from (Qualified types.LockObject c s x) zero v h = absurd (false≢true h)

array_or_same : (b : Base) → (base_is_array b ≡ true) ⊎ (value_base b ≡ b)
array_or_same types.Void = inr refl
array_or_same (types.Integer k) = inr refl
array_or_same (types.Struct number) = inr refl
array_or_same (types.Array t count) = inl refl
array_or_same (types.Pointer t) = inr refl
array_or_same types.LockObject = inr refl

no_array_into : (u t : CType) (zero : Bool) → base_is_array (base_of t) ≡ true → castable (value_type u) t zero ≡ true
    → ⊥
no_array_into (Qualified b d q y) (Qualified (types.Array u count) c s x) zero h a =
    no_array c s x (value_base b) u count zero a
no_array_into u (Qualified types.Void c s x) zero h a = false≢true h
no_array_into u (Qualified (types.Integer k) c s x) zero h a = false≢true h
no_array_into u (Qualified (types.Struct number) c s x) zero h a = false≢true h
no_array_into u (Qualified (types.Pointer t) c s x) zero h a = false≢true h
no_array_into u (Qualified types.LockObject c s x) zero h a = false≢true h

-- ---- casts (C99 6.5.4)

module _ (structs : Structs) where
  -- A cast takes the value, where what it gives has no qualifiers of its own.
  cast_taken : (from t : CType) (zero : Bool) (v : Value) → castable (value_type from) t zero ≡ true
      → IsOf structs from v → IsTaken zero (conversion from (value_type t)) v
  cast_taken from (Qualified types.Void c s x) zero v a h = tt
  cast_taken from (Qualified (types.Integer k) c s x) zero v a h =
      conversions_are_taken.cast structs from (Qualified (types.Integer k) c s x) zero v a h
  cast_taken from (Qualified (types.Struct number) c s x) zero v a h = tt
  cast_taken from (Qualified (types.Array t count) c s x) zero v a h =
      absurd (no_array_into from (Qualified (types.Array t count) c s x) zero refl a)
  cast_taken from (Qualified (types.Pointer t) c s x) zero v a h =
      conversions_are_taken.cast structs from (Qualified (types.Pointer t) c s x) zero v a h
  cast_taken from (Qualified types.LockObject c s x) zero v a h = tt

  pub cast_takes : (φ : Facts) (t : Formed) (a : Attr) (v : Value) → lowest φ (n.Cast t a) ≡ None
      → IsOf structs a.ctype v → IsTaken (is_zero a) (conversion a.ctype (value_type t.ctype)) v
  cast_takes φ t a v none h =
      let x = n.Cast t a in
      let allowed = holds (casts a t.ctype) (unbroken (table φ x) 16 (judge 17 (rule_17 x)) refl none) in
      cast_taken a.ctype t.ctype (is_zero a) v allowed h

-- ---- conversions without a cast (C99 6.5.16.1)

-- The value converts into the type, or the type is an array, into which nothing is converted.
abbrev pub Converts : Attr → CType → Type 0
Converts a t = (converts a t ≡ true) ⊎ (is_array t ≡ true)

pub converts_taken : (structs : Structs) (a : Attr) (t : CType) (v : Value) → Converts a t → IsOf structs a.ctype v
    → IsTaken (is_zero a) (conversion a.ctype t) v
converts_taken structs a t v (inl c) h = conversions_are_taken.assigned structs a.ctype t (is_zero a) v c h
converts_taken structs a t v (inr array) h = array_taken a.ctype t (is_zero a) v array

pub assign_converts : (φ : Facts) (a b : Attr) → lowest φ (n.Assign a b) ≡ None → Converts b a.ctype
assign_converts φ a b none =
    let x = n.Assign a b in
    let changes = holds (is_modifiable a) (unbroken (table φ x) 12 (judge 13 (rule_13 x)) refl none) in
    let others = is_struct a.ctype || is_constant a.ctype in
    let either = is_array a.ctype || others in
    let plain = fails either (and_parts (is_lvalue a) (not either) changes).1 in
    let array = or_left (is_array a.ctype) others plain in
    let struct = or_left (is_struct a.ctype) (is_constant a.ctype) (or_right (is_array a.ctype) others plain) in
    let bad = not (is_array a.ctype || is_struct a.ctype) && not (converts b a.ctype) in
    let good = or_right (gives_void b) bad (unbroken (table φ x) 11 (judge 12 (rule_12 x)) refl none) in
    inl (by (is_array a.ctype) (is_struct a.ctype) (converts b a.ctype) array struct good)
  where
    by : (i j k : Bool) → i ≡ false → j ≡ false → (not (i || j) && not k) ≡ false → k ≡ true
    by i j true e f h = refl
    by true j false e f h = absurd (false≢true (sym e))
    by false true false e f h = absurd (false≢true (sym f))
    by false false false e f h = absurd (false≢true (sym h))

pub return_converts : (φ : Facts) (c : Around) (a : Attr) → lowest φ (n.Returns c a) ≡ None → Converts a c.result
return_converts φ c a none =
    let x = n.Returns c a in
    let void = unbroken (table φ x) 25 (judge 26 (rule_26 x)) refl none in
    let good = unbroken (table φ x) 11 (judge 12 (rule_12 x)) refl none in
    inl (by (is_void c.result) (converts a c.result) void good)
  where
    by : (i k : Bool) → i ≡ false → (not i && not k) ≡ false → k ≡ true
    by i true e h = refl
    by true false e h = absurd (false≢true (sym e))
    by false false e h = absurd (false≢true (sym h))

pub initial_converts : (φ : Facts) (file : Bool) (t : CType) (a : Attr)
    → lowest φ (n.InitialValue file true t a) ≡ None → Converts a t
initial_converts φ file t a none =
    let x = n.InitialValue file true t a in
    inl (holds (converts a t) (unbroken (table φ x) 11 (judge 12 (rule_12 x)) refl none))

-- What converts into the type of a parameter of a prototype converts into that of the definition, which is the same but
-- for its qualifiers.
pub parameter_converts : (a : Attr) (s t : CType) → value_type s ≡ value_type t → converts a s ≡ true → Converts a t
parameter_converts a (Qualified b c i x) (Qualified d e j y) same h = by (array_or_same b) (array_or_same d)
  where
    bases : value_base b ≡ value_base d
    bases = ap base_of same

    by : (base_is_array b ≡ true) ⊎ (value_base b ≡ b) → (base_is_array d ≡ true) ⊎ (value_base d ≡ d)
        → Converts a (Qualified d e j y)
    by p (inr k) = second p k
      where
        second : (base_is_array b ≡ true) ⊎ (value_base b ≡ b) → value_base d ≡ d → Converts a (Qualified d e j y)
        second (inl array) k =
            absurd (no_array_into a.ctype (Qualified b c i x) (is_zero a) array (or_first _ _ h))
        second (inr l) k =
            let eq : b ≡ d = sym l ∙ bases ∙ k in
            inl (subst (λ (u : Base). assignable (value_type a.ctype) (plainly u) (is_zero a) ≡ true) eq h)
    by p (inl array) = inr array
