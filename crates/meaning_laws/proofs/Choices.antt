-- The two last operands of `? :` are such as convert into the type of the whole.
use Rattle.std.proofs.Common.{◌≡◌, ◌⊎◌, inl, inr, ℕ, Bool, true, false, ◌&&◌, ◌||◌, ◌==◌, List, Option, Some, None}
use Rattle.std.proofs.Common.{refl, sym, ap, ◌∙◌, subst}
use Rattle.std.specs.Prelude.{if◌then◌else◌, is_some}
use Rattle.std.proofs.lemmas.Bool.{false≢true, and_parts, or_cases}
use Rattle.block_layout.specs.declared.kind.Kind.{Kind}
use Rattle.upc_values.specs.declared.scalar.Value.{Value}
use Rattle.upc_types.specs.Types as types
use Rattle.upc_types.specs.Types.{CType, Base, Qualified, Structs, base_of, block_of}
use Rattle.upc_types.specs.Same as same
use Rattle.upc_types.specs.Same.{same_block, same_type}
use Rattle.upc_types.specs.Conversions.{is_integer}
use Rattle.upc_types.specs.Cells.{pointer_kind}
use Rattle.upc_types.proofs.Equal.{inner_is, base_is}
use Rattle.typing_rules.specs.declared.attribute.Constant.{Constant}
use Rattle.typing_rules.specs.Values.{value_base, value_type, base_kind, base_target, is_void}
use Rattle.typing_rules.specs.Attributes.{base, choice_attr, target_block}
use Rattle.typing_rules.specs.Nodes as n
use Rattle.typing_rules.specs.Nodes.{Attr, Use}
use Rattle.typing_rules.specs.Rules.{table, judge, rule_14, counts, points, target, gives_void, is_zero, is_scalar}
use Rattle.typing_rules.specs.Rules.{same_pointers, chooses}
use Rattle.typed_tree.specs.Tree.{Expr, Conditional, attr_of}
use Rattle.typed_tree.specs.Programs.{Checked}
use Rattle.typed_tree.specs.layer.Judged.{facts_at}
use Rattle.typed_tree.specs.layer.TypedNodes.{MeetsKind}
use Rattle.thread_steps.specs.declared.cast.CastTo.{CastTo}
use Rattle.thread_steps.specs.declared.cast.CastTo.TheVariants as to
use Rattle.source_meaning.specs.Types.{pointer_conversion, conversion, base_conversion}
use Rattle.meaning_laws.specs.layer.Values.{IsNumber, IsOf}
use Rattle.meaning_laws.specs.layer.Uses.{IsTaken}
use Rattle.meaning_laws.specs.code.Laws.{ChoicesAreTaken}
use Rattle.meaning_laws.proofs.Operations.{Fits, kind_by}
use Rattle.meaning_laws.proofs.Operators.{value_target, is_place}
use Rattle.meaning_laws.proofs.Rules.{unbroken, holds, has_target}
use Rattle.meaning_laws.proofs.Taken.{zero_taken, lock_taken, either_taken, local_taken}
use Rattle.meaning_laws.proofs.ZeroConstants.{IsNumbered, expr_numbered}

-- ---- a pointer, into its own type

pointer_base : (b : Base) (t : CType) → base_target (value_base b) ≡ Some t → value_base b ≡ types.Pointer t
pointer_base (types.Pointer u) t e = let same : u ≡ t = cc in ap types.Pointer same
pointer_base (types.Array u i) t e = let same : u ≡ t = cc in ap types.Pointer same
pointer_base types.Void t e = absurd cc
pointer_base (types.Integer k) t e = absurd cc
pointer_base (types.Struct m) t e = absurd cc
pointer_base types.LockObject t e = absurd cc

module _ (zero : Bool) where
  plain_own : (s : Option ℕ) (i : ℕ) (v : Value) → Fits (kind_by s i) v
      → IsTaken zero (if is_some s then (if same_block s s then to.Shared else to.OtherBlock) else to.Local) v
  plain_own (Some b) i v h = either_taken zero (b == b) i b v h
  plain_own None i v h = local_taken zero None i v h

  own_taken : (targets : List CType) (t : CType) (v : Value) → Fits (pointer_kind targets t) v
      → IsTaken zero (pointer_conversion (block_of t) t) v
  own_taken targets (Qualified types.LockObject c s x) v h = lock_taken zero v h
  own_taken targets (Qualified types.Void c (Some b) x) v h = plain_own (Some b) _ v h
  own_taken targets (Qualified types.Void c None x) v h = plain_own None _ v h
  own_taken targets (Qualified (types.Integer k) c (Some b) x) v h = plain_own (Some b) _ v h
  own_taken targets (Qualified (types.Integer k) c None x) v h = plain_own None _ v h
  own_taken targets (Qualified (types.Struct m) c (Some b) x) v h = plain_own (Some b) _ v h
  own_taken targets (Qualified (types.Struct m) c None x) v h = plain_own None _ v h
  own_taken targets (Qualified (types.Array u i) c (Some b) x) v h = plain_own (Some b) _ v h
  own_taken targets (Qualified (types.Array u i) c None x) v h = plain_own None _ v h
  own_taken targets (Qualified (types.Pointer u) c (Some b) x) v h = plain_own (Some b) _ v h
  own_taken targets (Qualified (types.Pointer u) c None x) v h = plain_own None _ v h

  -- Into the type of a value of a type with this target.
  target_taken : (structs : Structs) (u w t : CType) (v : Value) → base_target (value_base (base_of u)) ≡ Some t
      → base_target (value_base (base_of w)) ≡ Some t → IsOf structs u v → IsTaken zero (conversion u (value_type w)) v
  target_taken structs u (Qualified b d p y) t v e f h =
      subst (λ (o : Option CType). IsTaken zero (base_conversion (target_block o) (value_base b)) v)
      (sym (sym (value_target (base_of u)) ∙ e))
      (subst (λ (z : Base). IsTaken zero (base_conversion (target_block (Some t)) z) v) (sym (pointer_base b t f))
      (own_taken structs.targets t v (is_place structs (base_of u) t v e h)))

  -- ---- other values

  void_taken : (from t : CType) (v : Value) → is_void t ≡ true → IsTaken zero (conversion from (value_type t)) v
  void_taken from (Qualified types.Void c s x) v h = tt
  void_taken from (Qualified (types.Integer k) c s x) v h = absurd (false≢true h)
  void_taken from (Qualified (types.Struct m) c s x) v h = absurd (false≢true h)
  void_taken from (Qualified (types.Array u i) c s x) v h = absurd (false≢true h)
  void_taken from (Qualified (types.Pointer u) c s x) v h = absurd (false≢true h)
  void_taken from (Qualified types.LockObject c s x) v h = absurd (false≢true h)

  number_taken : (from t : CType) (v : Value) → is_integer (base_of t) ≡ true → IsNumber v
      → IsTaken zero (conversion from t) v
  number_taken from (Qualified (types.Integer k) c s x) v e h = h
  number_taken from (Qualified types.Void c s x) v e h = absurd (false≢true e)
  number_taken from (Qualified (types.Struct m) c s x) v e h = absurd (false≢true e)
  number_taken from (Qualified (types.Array u i) c s x) v e h = absurd (false≢true e)
  number_taken from (Qualified (types.Pointer u) c s x) v e h = absurd (false≢true e)
  number_taken from (Qualified types.LockObject c s x) v e h = absurd (false≢true e)

zero_converts : (zero : Bool) (into : CastTo) (v : Value) → zero ≡ true → IsNumber v → IsTaken zero into v
zero_converts true into v e h = zero_taken into v h
zero_converts false into v e h = absurd (false≢true e)

counted : (structs : Structs) (t : CType) (v : Value) → is_integer (value_base (base_of t)) ≡ true → IsOf structs t v
    → IsNumber v
counted structs (Qualified (types.Integer k) c s x) v e h = h
counted structs (Qualified types.Void c s x) v e h = absurd (false≢true e)
counted structs (Qualified (types.Struct m) c s x) v e h = absurd (false≢true e)
counted structs (Qualified (types.Array u i) c s x) v e h = absurd (false≢true e)
counted structs (Qualified (types.Pointer u) c s x) v e h = absurd (false≢true e)
counted structs (Qualified types.LockObject c s x) v e h = absurd (false≢true e)

-- ---- the type of the whole

value_is : (t : CType) → base_of (value_type t) ≡ value_base (base_of t)
value_is (Qualified b c s x) = refl

no_kind : (b : Base) (t : CType) → base_target b ≡ Some t → base_kind b ≡ None
no_kind (types.Pointer u) t e = refl
no_kind (types.Array u i) t e = refl
no_kind types.Void t e = refl
no_kind (types.Struct m) t e = refl
no_kind types.LockObject t e = refl
no_kind (types.Integer k) t e = absurd cc

void_kind : (b : Base) → same.is_void b ≡ true → base_kind (value_base b) ≡ None
void_kind types.Void e = refl
void_kind (types.Integer k) e = absurd (false≢true e)
void_kind (types.Struct m) e = absurd (false≢true e)
void_kind (types.Array u i) e = absurd (false≢true e)
void_kind (types.Pointer u) e = absurd (false≢true e)
void_kind types.LockObject e = absurd (false≢true e)

void_target : (b : Base) → same.is_void b ≡ true → base_target (value_base b) ≡ None
void_target types.Void e = refl
void_target (types.Integer k) e = absurd (false≢true e)
void_target (types.Struct m) e = absurd (false≢true e)
void_target (types.Array u i) e = absurd (false≢true e)
void_target (types.Pointer u) e = absurd (false≢true e)
void_target types.LockObject e = absurd (false≢true e)

integer_target : (b : Base) → is_integer b ≡ true → base_target b ≡ None
integer_target (types.Integer k) e = refl
integer_target types.Void e = absurd (false≢true e)
integer_target (types.Struct m) e = absurd (false≢true e)
integer_target (types.Array u i) e = absurd (false≢true e)
integer_target (types.Pointer u) e = absurd (false≢true e)
integer_target types.LockObject e = absurd (false≢true e)

type_is : (t u : CType) → same_type t u ≡ true → t ≡ u
type_is (Qualified a c s x) (Qualified b d r y) h = inner_is a b c d s r x y h (base_is a b)

module _ (structs : Structs) (x : Constant) (a b : Attr) (na : IsNumbered a) (nb : IsNumbered b) where
  abbrev kind_a : Option Kind
  kind_a = base_kind (base a)

  abbrev kind_b : Option Kind
  kind_b = base_kind (base b)

  abbrev Whole : CType
  Whole = (choice_attr x a b kind_a kind_b (target a)).ctype

  -- Both operands convert into this type.
  record BothInto (t : CType) : Type 0 where
    first : (v : Value) → IsOf structs a.ctype v → IsTaken (is_zero a) (conversion a.ctype t) v
    second : (v : Value) → IsOf structs b.ctype v → IsTaken (is_zero b) (conversion b.ctype t) v

  -- The whole is of the type of the first operand, which is a pointer.
  pointer_first : (j k : Option Kind) (o : Option CType) (t : CType) → j ≡ None → o ≡ Some t
      → (choice_attr x a b j k o).ctype ≡ value_type a.ctype
  pointer_first None k (Some w) t e f = refl
  pointer_first None k None t e f = absurd cc
  pointer_first (Some j) k o t e f = absurd cc

  -- The whole is of the type of the second operand, where the first is no pointer, and one of them no integer.
  otherwise : (j k : Option Kind) (o : Option CType) → (j ≡ None) ⊎ (k ≡ None) → o ≡ None
      → (choice_attr x a b j k o).ctype ≡ value_type b.ctype
  otherwise None k None e f = refl
  otherwise (Some j) None None e f = refl
  otherwise (Some j) (Some k) o (inl e) f = absurd cc
  otherwise (Some j) (Some k) o (inr e) f = absurd cc
  otherwise j k (Some t) e f = absurd cc

  -- The whole is an integer.
  integer_whole : (j k : Option Kind) (o : Option CType) → o ≡ None → counts b ≡ true
      → is_integer (base_of (choice_attr x a b j k o).ctype) ≡ true
  integer_whole (Some j) (Some k) o e h = refl
  integer_whole (Some j) None None e h = subst (λ (z : Base). is_integer z ≡ true) (sym (value_is b.ctype)) h
  integer_whole None k None e h = subst (λ (z : Base). is_integer z ≡ true) (sym (value_is b.ctype)) h
  integer_whole (Some j) None (Some t) e h = absurd cc
  integer_whole None k (Some t) e h = absurd cc

  into : (t : CType) → Whole ≡ t → BothInto t → BothInto Whole
  into t e h = subst BothInto (sym e) h

  number_a : counts a ≡ true → (v : Value) → IsOf structs a.ctype v → IsNumber v
  number_a e v h = counted structs a.ctype v e h

  number_b : counts b ≡ true → (v : Value) → IsOf structs b.ctype v → IsNumber v
  number_b e v h = counted structs b.ctype v e h

  two_numbers : counts a ≡ true → counts b ≡ true → BothInto Whole
  two_numbers p q =
      let whole = integer_whole kind_a kind_b (target a) (integer_target (base a) p) q in
      record {
        first = λ v h. number_taken (is_zero a) a.ctype Whole v whole (number_a p v h);
        second = λ v h. number_taken (is_zero b) b.ctype Whole v whole (number_b q v h);
      }

  two_voids : gives_void a ≡ true → gives_void b ≡ true → BothInto Whole
  two_voids p q =
      into (value_type b.ctype)
      (otherwise kind_a kind_b (target a) (inl (void_kind (base_of a.ctype) p)) (void_target (base_of a.ctype) p))
      (record {
        first = λ v h. void_taken (is_zero a) a.ctype b.ctype v q;
        second = λ v h. void_taken (is_zero b) b.ctype b.ctype v q;
      })

  two_pointers : (t : CType) → target a ≡ Some t → target b ≡ Some t → BothInto Whole
  two_pointers t p q =
      into (value_type a.ctype) (pointer_first kind_a kind_b (target a) t (no_kind (base a) t p) p)
      (record {
        first = λ v h. target_taken (is_zero a) structs a.ctype a.ctype t v p p h;
        second = λ v h. target_taken (is_zero b) structs b.ctype a.ctype t v q p h;
      })

  zero_second : (t : CType) → target a ≡ Some t → is_zero b ≡ true → BothInto Whole
  zero_second t p q =
      into (value_type a.ctype) (pointer_first kind_a kind_b (target a) t (no_kind (base a) t p) p)
      (record {
        first = λ v h. target_taken (is_zero a) structs a.ctype a.ctype t v p p h;
        second = λ v h. zero_converts (is_zero b) _ v q (number_b (nb.value q) v h);
      })

  zero_first : (t : CType) → is_zero a ≡ true → target b ≡ Some t → BothInto Whole
  zero_first t p q =
      into (value_type b.ctype)
      (otherwise kind_a kind_b (target a) (inr (no_kind (base b) t q)) (integer_target (base a) (na.value p)))
      (record {
        first = λ v h. zero_converts (is_zero a) _ v p (number_a (na.value p) v h);
        second = λ v h. target_taken (is_zero b) structs b.ctype b.ctype t v q q h;
      })

  alike : (o r : Option CType) → target a ≡ o → target b ≡ r → same_pointers o r ≡ true → BothInto Whole
  alike (Some t) (Some u) p q h =
      let same = type_is t u h in
      two_pointers t p (q ∙ ap Some (sym same))
  alike (Some t) None p q h = absurd (false≢true h)
  alike None r p q h = absurd (false≢true h)

  chosen : chooses a b ≡ true → BothInto Whole
  chosen h = first (or_cases _ _ h)
    where
      last : ((points a && is_zero b) ≡ true) ⊎ ((is_zero a && points b) ≡ true) → BothInto Whole
      last (inl i) =
          let p = and_parts (points a) (is_zero b) i in
          let leads = has_target (target a) p.0 in
          zero_second leads.0 leads.1 p.1
      last (inr i) =
          let p = and_parts (is_zero a) (points b) i in
          let leads = has_target (target b) p.1 in
          zero_first leads.0 p.0 leads.1

      third : (same_pointers (target a) (target b) ≡ true)
          ⊎ ((points a && is_zero b || is_zero a && points b) ≡ true) → BothInto Whole
      third (inl i) = alike (target a) (target b) refl refl i
      third (inr i) = last (or_cases (points a && is_zero b) (is_zero a && points b) i)

      second : ((gives_void a && gives_void b) ≡ true)
          ⊎ ((same_pointers (target a) (target b) || (points a && is_zero b || is_zero a && points b)) ≡ true)
          → BothInto Whole
      second (inl i) = let p = and_parts (gives_void a) (gives_void b) i in two_voids p.0 p.1
      second (inr i) = third (or_cases (same_pointers (target a) (target b)) _ i)

      first : ((counts a && counts b) ≡ true)
          ⊎ ((gives_void a && gives_void b
          || (same_pointers (target a) (target b) || (points a && is_zero b || is_zero a && points b))) ≡ true)
          → BothInto Whole
      first (inl i) = let p = and_parts (counts a) (counts b) i in two_numbers p.0 p.1
      first (inr i) = second (or_cases (gives_void a && gives_void b) _ i)

-- The operands convert into the type of the whole.
choice_taken : (program : Checked) (locals : List CType) (how : Use) (attr : Attr) (test a b : Expr) (structs : Structs)
    (h : MeetsKind program locals how attr (Conditional test a b))
    → BothInto structs (attr_of test).constant (attr_of a) (attr_of b) (expr_numbered program locals n.Plain a h.2)
    (expr_numbered program locals n.Plain b h.3) attr.ctype
choice_taken program locals how attr test a b structs h =
    let x = n.Conditional (attr_of test) (attr_of a) (attr_of b) in
    let rule = unbroken (table (facts_at program h.0.0) x) 13 (judge 14 (rule_14 x)) refl h.0.1.rules in
    let both = holds (is_scalar (attr_of test) && chooses (attr_of a) (attr_of b)) rule in
    let c = (attr_of test).constant in
    let na = expr_numbered program locals n.Plain a h.2 in
    let nb = expr_numbered program locals n.Plain b h.3 in
    subst (BothInto structs c (attr_of a) (attr_of b) na nb) (sym (ap (λ (y : Attr). y.ctype) h.0.1.is))
    (chosen structs c (attr_of a) (attr_of b) na nb
    (and_parts (is_scalar (attr_of test)) (chooses (attr_of a) (attr_of b)) both).1)

pub choices_are_taken : ChoicesAreTaken
choices_are_taken = record {
  second = λ program locals how attr test a b structs v h o.
      (choice_taken program locals how attr test a b structs h).first v o;
  third = λ program locals how attr test a b structs v h o.
      (choice_taken program locals how attr test a b structs h).second v o;
}
