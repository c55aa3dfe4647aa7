-- What operators take in a program that meets the rules.
use Rattle.std.proofs.Common.{◌≡◌, ℕ, Bool, true, false, not, ◌&&◌, ◌||◌, List, Option, Some, None, refl, sym, ◌∙◌}
use Rattle.std.proofs.Common.{subst, ap}
use Rattle.std.proofs.Math.IntN.{pos}
use Rattle.std.proofs.lemmas.Bool.{false≢true, and_parts}
use Rattle.block_layout.specs.declared.kind.Kind.{Kind}
use Rattle.block_layout.specs.declared.kind.Kind.TheVariants as kind
use Rattle.integers.specs.Integers as integers
use Rattle.integers.specs.declared.operator.BinOp.{BinOp}
use Rattle.integers.specs.declared.operator.BinOp.TheVariants as op
use Rattle.integers.specs.declared.operator.UnOp.{UnOp}
use Rattle.integers.specs.declared.operator.UnOp.TheVariants as un
use Rattle.upc_values.specs.declared.scalar.Scalar.TheVariants.{Int, Shared, Lock}
use Rattle.upc_values.specs.declared.scalar.Value.{Value}
use Rattle.upc_values.specs.declared.scalar.Value.TheVariants as value
use Rattle.upc_types.specs.Types as types
use Rattle.upc_types.specs.Types.{CType, Base, Qualified, Structs, base_of, block_of}
use Rattle.upc_types.specs.Same.{is_lock_object, same_base, same_block}
use Rattle.upc_types.specs.Conversions.{is_integer}
use Rattle.upc_types.specs.Cells.{number_of, kind_to, pointer_kind}
use Rattle.typing_rules.specs.Values.{base_target, base_kind, value_base, present, equal_targets}
use Rattle.typing_rules.specs.declared.attribute.Constant.{Constant}
use Rattle.typing_rules.specs.Library.{int}
use Rattle.typing_rules.specs.Attributes as at_
use Rattle.typing_rules.specs.Attributes.{base}
use Rattle.typing_rules.specs.Nodes as n
use Rattle.typing_rules.specs.Nodes.{Attr, Use}
use Rattle.typing_rules.specs.Rules.{judge, table, fits, fits_unary, counts, points, target, is_loose}
use Rattle.typing_rules.specs.Rules.{is_loose_target}
use Rattle.typing_rules.specs.Rules.{moves_loosely, mismatches, targets_differ, target_is_lock, rule_14, rule_15}
use Rattle.typing_rules.specs.Rules.{rule_16, rule_18, rule_19, target_names, has_size, moves}
use Rattle.typing_rules.specs.Rules.{names_member, is_zero, is_scalar, fits_compound, rule_23, rule_25}
use Rattle.typing_rules.specs.Rules.{rule_27, target_is_shared, leads_to_shared}
use Rattle.typed_tree.specs.declared.tree.StepOperator.{StepOperator}
use Rattle.typed_tree.specs.declared.tree.StepOperator.TheVariants as step
use Rattle.typed_tree.specs.Tree.{Expr, Subscript, MemberBehind, Unary, Step, attr_of}
use Rattle.typed_tree.specs.Programs.{Checked}
use Rattle.typed_tree.specs.layer.Judged.{facts_at, Meets}
use Rattle.typed_tree.specs.layer.TypedNodes.{MeetsKind}
use Rattle.source_meaning.specs.Types.{target_of, integer_of}
use Rattle.thread_steps.specs.Values.{number}
use Rattle.source_meaning.specs.Running.{Running}
use Rattle.source_meaning.specs.Expressions.{type_of, step_operator}
use Rattle.meaning_laws.specs.layer.Values.{IsNumber, IsOf, IsPlaceOf, IsFormedType}
use Rattle.meaning_laws.specs.layer.Uses.{Points, PointAlike, IsSteppedBy}
use Rattle.meaning_laws.specs.layer.Uses.{Leads, LeadAlike, Counts, IsOperand, ArePointers, IsStepped}
use Rattle.meaning_laws.specs.layer.Uses.{AreOperands, HasAffinity}
use Rattle.meaning_laws.specs.code.Laws.{OperandsAreTaken}
use Rattle.meaning_laws.proofs.Operations.{Fits, kind_by, formed_kind, unlocked_kind}
use Rattle.meaning_laws.proofs.Operators.{value_target, is_place}
use Rattle.meaning_laws.proofs.ZeroConstants.{expr_numbered}
use Rattle.meaning_laws.proofs.Rules.{unbroken, holds, fails, or_left, or_right, has_target}

-- ---- pointers

led : (s : Option ℕ) (i : ℕ) (v : Value) → Fits (kind_by s i) v → Leads v
led (Some b) i (value.Scalar (Shared q)) h = tt
led (Some b) i (value.Scalar (Int w)) h = absurd (false≢true h)
led (Some b) i (value.Scalar (Lock w)) h = absurd (false≢true h)
led (Some b) i (value.Local q) h = absurd (false≢true h)
led None i (value.Local q) h = tt
led None i (value.Scalar (Shared q)) h = absurd (false≢true h)
led None i (value.Scalar (Int w)) h = absurd (false≢true h)
led None i (value.Scalar (Lock w)) h = absurd (false≢true h)

led_alike : (s r : Option ℕ) (i j : ℕ) (v w : Value) → same_block s r ≡ true → Fits (kind_by s i) v
    → Fits (kind_by r j) w → LeadAlike v w
led_alike (Some b) (Some c) i j (value.Scalar (Shared q)) (value.Scalar (Shared p)) e h g = tt
led_alike (Some b) (Some c) i j (value.Scalar (Shared q)) (value.Scalar (Int y)) e h g = absurd (false≢true g)
led_alike (Some b) (Some c) i j (value.Scalar (Shared q)) (value.Scalar (Lock y)) e h g = absurd (false≢true g)
led_alike (Some b) (Some c) i j (value.Scalar (Shared q)) (value.Local y) e h g = absurd (false≢true g)
led_alike (Some b) (Some c) i j (value.Scalar (Int x)) w e h g = absurd (false≢true h)
led_alike (Some b) (Some c) i j (value.Scalar (Lock x)) w e h g = absurd (false≢true h)
led_alike (Some b) (Some c) i j (value.Local x) w e h g = absurd (false≢true h)
led_alike None None i j (value.Local q) (value.Local p) e h g = tt
led_alike None None i j (value.Local q) (value.Scalar (Shared y)) e h g = absurd (false≢true g)
led_alike None None i j (value.Local q) (value.Scalar (Int y)) e h g = absurd (false≢true g)
led_alike None None i j (value.Local q) (value.Scalar (Lock y)) e h g = absurd (false≢true g)
led_alike None None i j (value.Scalar (Shared x)) w e h g = absurd (false≢true h)
led_alike None None i j (value.Scalar (Int x)) w e h g = absurd (false≢true h)
led_alike None None i j (value.Scalar (Lock x)) w e h g = absurd (false≢true h)
led_alike (Some b) None i j v w e h g = absurd (false≢true e)
led_alike None (Some c) i j v w e h g = absurd (false≢true e)

lead_points : (v w : Value) → LeadAlike v w → PointAlike v w
lead_points (value.Scalar (Shared p)) (value.Scalar (Shared q)) h = tt
lead_points (value.Local p) (value.Local q) h = tt
lead_points (value.Scalar (Lock l)) (value.Scalar (Lock m)) h = tt
lead_points v w h = absurd h

locks_alike : (v w : Value) → Fits kind.Lock v → Fits kind.Lock w → PointAlike v w
locks_alike (value.Scalar (Lock l)) (value.Scalar (Lock m)) h g = tt
locks_alike (value.Scalar (Lock l)) (value.Scalar (Int i)) h g = absurd (false≢true g)
locks_alike (value.Scalar (Lock l)) (value.Scalar (Shared q)) h g = absurd (false≢true g)
locks_alike (value.Scalar (Lock l)) (value.Local q) h g = absurd (false≢true g)
locks_alike (value.Scalar (Int i)) w h g = absurd (false≢true h)
locks_alike (value.Scalar (Shared p)) w h g = absurd (false≢true h)
locks_alike (value.Local p) w h g = absurd (false≢true h)

-- A value of a kind of pointers is a pointer.
point_kind : (b : Base) (s : Option ℕ) (i : ℕ) (v : Value) → Fits (kind_to b s i) v → Points v
point_kind b s i (value.Scalar (Shared p)) h = tt
point_kind b s i (value.Scalar (Lock l)) h = tt
point_kind b s i (value.Local p) h = tt
point_kind types.LockObject s i (value.Scalar (Int w)) h = absurd (false≢true h)
point_kind types.Void (Some d) i (value.Scalar (Int w)) h = absurd (false≢true h)
point_kind types.Void None i (value.Scalar (Int w)) h = absurd (false≢true h)
point_kind (types.Integer k) (Some d) i (value.Scalar (Int w)) h = absurd (false≢true h)
point_kind (types.Integer k) None i (value.Scalar (Int w)) h = absurd (false≢true h)
point_kind (types.Struct m) (Some d) i (value.Scalar (Int w)) h = absurd (false≢true h)
point_kind (types.Struct m) None i (value.Scalar (Int w)) h = absurd (false≢true h)
point_kind (types.Array u j) (Some d) i (value.Scalar (Int w)) h = absurd (false≢true h)
point_kind (types.Array u j) None i (value.Scalar (Int w)) h = absurd (false≢true h)
point_kind (types.Pointer u) (Some d) i (value.Scalar (Int w)) h = absurd (false≢true h)
point_kind (types.Pointer u) None i (value.Scalar (Int w)) h = absurd (false≢true h)

locked_kind : (targets : List CType) (t : CType) → is_lock_object (base_of t) ≡ true
    → pointer_kind targets t ≡ kind.Lock
locked_kind targets (Qualified types.LockObject c s x) h = refl
locked_kind targets (Qualified types.Void c s x) h = absurd (false≢true h)
locked_kind targets (Qualified (types.Integer k) c s x) h = absurd (false≢true h)
locked_kind targets (Qualified (types.Struct m) c s x) h = absurd (false≢true h)
locked_kind targets (Qualified (types.Array u i) c s x) h = absurd (false≢true h)
locked_kind targets (Qualified (types.Pointer u) c s x) h = absurd (false≢true h)

-- What has a size is no lock.
sized_unlocked : (σ : Structs) (t : CType) → has_size σ t ≡ true → is_lock_object (base_of t) ≡ false
sized_unlocked σ (Qualified types.LockObject c s x) h = absurd (false≢true h)
sized_unlocked σ (Qualified types.Void c s x) h = refl
sized_unlocked σ (Qualified (types.Integer k) c s x) h = refl
sized_unlocked σ (Qualified (types.Struct m) c s x) h = refl
sized_unlocked σ (Qualified (types.Array e count) c s x) h = refl
sized_unlocked σ (Qualified (types.Pointer e) c s x) h = refl

pub same_lock : (b c : Base) → same_base b c ≡ true → is_lock_object b ≡ true → is_lock_object c ≡ true
same_lock types.LockObject types.LockObject e h = refl
same_lock types.LockObject types.Void e h = absurd (false≢true e)
same_lock types.LockObject (types.Integer k) e h = absurd (false≢true e)
same_lock types.LockObject (types.Struct m) e h = absurd (false≢true e)
same_lock types.LockObject (types.Array u count) e h = absurd (false≢true e)
same_lock types.LockObject (types.Pointer u) e h = absurd (false≢true e)
same_lock types.Void c e h = absurd (false≢true h)
same_lock (types.Integer k) c e h = absurd (false≢true h)
same_lock (types.Struct m) c e h = absurd (false≢true h)
same_lock (types.Array u count) c e h = absurd (false≢true h)
same_lock (types.Pointer u) c e h = absurd (false≢true h)

pub back_lock : (b c : Base) → same_base b c ≡ true → is_lock_object c ≡ true → is_lock_object b ≡ true
back_lock types.LockObject c e h = refl
back_lock types.Void types.LockObject e h = absurd (false≢true e)
back_lock (types.Integer k) types.LockObject e h = absurd (false≢true e)
back_lock (types.Struct m) types.LockObject e h = absurd (false≢true e)
back_lock (types.Array (Qualified u d t y) count) types.LockObject e h = absurd (false≢true e)
back_lock (types.Pointer (Qualified u d t y)) types.LockObject e h = absurd (false≢true e)
back_lock b types.Void e h = absurd (false≢true h)
back_lock b (types.Integer k) e h = absurd (false≢true h)
back_lock b (types.Struct m) e h = absurd (false≢true h)
back_lock b (types.Array u count) e h = absurd (false≢true h)
back_lock b (types.Pointer u) e h = absurd (false≢true h)

both_or : (b c : Bool) → (b && c) ≡ false → (b ≡ true → c ≡ true) → b ≡ false
both_or true c e f = sym (f refl) ∙ e
both_or false c e f = refl

-- Two targets that are equal and not both locks are none of them locks.
neither_lock : (t u : CType) → equal_targets t u ≡ true
    → (is_lock_object (base_of t) && is_lock_object (base_of u)) ≡ false
    → (is_lock_object (base_of t) ≡ false) × (is_lock_object (base_of u) ≡ false)
neither_lock t u e h =
    let same = (and_parts (same_block (block_of t) (block_of u)) (same_base (base_of t) (base_of u)) e).1 in
    let left = both_or (is_lock_object (base_of t)) (is_lock_object (base_of u)) h
    (same_lock (base_of t) (base_of u) same) in
    let right : is_lock_object (base_of u) ≡ false = by (is_lock_object (base_of u)) refl left in
    (left, right)
  where
    by : (b : Bool) → is_lock_object (base_of u) ≡ b → is_lock_object (base_of t) ≡ false → b ≡ false
    by true q l =
        let same = (and_parts (same_block (block_of t) (block_of u)) (same_base (base_of t) (base_of u)) e).1 in
        absurd (false≢true (sym l ∙ back_lock (base_of t) (base_of u) same q))
    by false q l = refl

module _ (structs : Structs) where
  -- A value of a type that leads to no lock.
  pointer_fits : (t u : CType) (v : Value) → target_of t ≡ Some u → is_lock_object (base_of u) ≡ false
      → IsOf structs t v → Fits (kind_by (block_of u) (number_of structs.targets u)) v
  pointer_fits t u v e f h =
      subst (λ (k : Kind). Fits k v) (unlocked_kind structs.targets u f)
      (is_place structs (base_of t) u v (value_target (base_of t) ∙ e) h)

  pointer_leads : (t u : CType) (v : Value) → target_of t ≡ Some u → is_lock_object (base_of u) ≡ false
      → IsOf structs t v → Leads v
  pointer_leads t u v e f h = led (block_of u) (number_of structs.targets u) v (pointer_fits t u v e f h)

  place_leads : (t : CType) (v : Value) → IsFormedType t → IsPlaceOf structs t v → Leads v
  place_leads t v f h =
      led (block_of t) (number_of structs.targets t) v
      (subst (λ (k : Kind). Fits k v) (formed_kind structs.targets t f) h)

  -- ---- integers

  kind_counts : (k : Kind) (v : Value) → integers.IsInteger k → IsNumber v → Counts (base_kind (types.Integer k)) v
  kind_counts kind.Char v i h = h
  kind_counts kind.UChar v i h = h
  kind_counts kind.Short v i h = h
  kind_counts kind.UShort v i h = h
  kind_counts kind.Int v i h = h
  kind_counts kind.UInt v i h = h
  kind_counts kind.Long v i h = h
  kind_counts kind.ULong v i h = h
  kind_counts (kind.Shared m b) v i h = absurd i
  kind_counts kind.Lock v i h = absurd i
  kind_counts (kind.Private m) v i h = absurd i

  counted : (t : CType) (v : Value) → IsFormedType t → is_integer (value_base (base_of t)) ≡ true → IsOf structs t v
      → Counts (integer_of t) v
  counted (Qualified (types.Integer k) c s x) v f e h = kind_counts k v f h
  counted (Qualified types.Void c s x) v f e h = absurd (false≢true e)
  counted (Qualified (types.Struct m) c s x) v f e h = absurd (false≢true e)
  counted (Qualified (types.Array u count) c s x) v f e h = absurd (false≢true e)
  counted (Qualified (types.Pointer u) c s x) v f e h = absurd (false≢true e)
  counted (Qualified types.LockObject c s x) v f e h = absurd (false≢true e)

-- An integer is no pointer.
no_target : (b : Base) → is_integer (value_base b) ≡ true → base_target b ≡ None
no_target (types.Integer k) e = refl
no_target types.Void e = absurd (false≢true e)
no_target (types.Struct m) e = absurd (false≢true e)
no_target (types.Array u count) e = absurd (false≢true e)
no_target (types.Pointer u) e = absurd (false≢true e)
no_target types.LockObject e = absurd (false≢true e)

number_of_counts : (o : Option Kind) (v : Value) → Counts o v → IsNumber v
number_of_counts (Some k) v h = h
number_of_counts None v h = absurd h

-- ---- nodes

unary_taken : (program : Checked) (locals : List CType) (how : Use) (attr : Attr) (o : UnOp) (a : Expr)
    (structs : Structs) (v : Value) → MeetsKind program locals how attr (Unary o a) → IsFormedType (type_of a)
    → IsOf structs (type_of a) v → IsOperand o (integer_of (type_of a)) v
unary_taken program locals how attr o a structs v h f g =
    let x = n.Unary o (attr_of a) in
    let rule = unbroken (table (facts_at program h.0.0) x) 13 (judge 14 (rule_14 x)) refl h.0.1.rules in
    by o (holds (fits_unary o (attr_of a)) rule)
  where
    by : (o : UnOp) → fits_unary o (attr_of a) ≡ true → IsOperand o (integer_of (type_of a)) v
    by un.Not e = tt
    by un.Plus e = counted structs (type_of a) v f e g
    by un.Minus e = counted structs (type_of a) v f e g
    by un.Complement e = counted structs (type_of a) v f e g

sized : (σ : Structs) (o : Option CType) (u : CType) → o ≡ Some u → is_loose_target σ o ≡ false
    → is_lock_object (base_of u) ≡ false
sized σ (Some w) u e h =
    let same : w ≡ u = cc in
    subst (λ (z : CType). is_lock_object (base_of z) ≡ false) same (sized_unlocked σ w (holds (has_size σ w) h))
sized σ None u e h = absurd cc

subscript_taken : (program : Checked) (locals : List CType) (how : Use) (attr : Attr) (a i : Expr) (structs : Structs)
    (p q : Value) → MeetsKind program locals how attr (Subscript a i) → IsFormedType (type_of i)
    → IsOf structs (type_of a) p → IsOf structs (type_of i) q → Leads p × Counts (integer_of (type_of i)) q
subscript_taken program locals how attr a i structs p q h f g k =
    let x = n.Subscript how (attr_of a) (attr_of i) in
    let φ = facts_at program h.0.0 in
    let r14 = unbroken (table φ x) 13 (judge 14 (rule_14 x)) refl h.0.1.rules in
    let r15 = unbroken (table φ x) 14 (judge 15 (rule_15 φ x)) refl h.0.1.rules in
    let r18 = unbroken (table φ x) 17 (judge 18 (rule_18 x)) refl h.0.1.rules in
    let there = holds (points (attr_of a)) (or_left (not (points (attr_of a))) _ r18) in
    let leads = has_target (base_target (base (attr_of a))) there in
    let at_target : target_of (type_of a) ≡ Some leads.0 = sym (value_target (base_of (type_of a))) ∙ leads.1 in
    let many = counting (points (attr_of a)) (counts (attr_of i)) there (or_right _ _ r14) in (
      pointer_leads structs (type_of a) leads.0 p at_target
          (sized h.0.0 (base_target (base (attr_of a))) leads.0 leads.1 r15) g,
      counted structs (type_of i) q f many k,
    )
  where
    counting : (b c : Bool) → b ≡ true → (b && not c) ≡ false → c ≡ true
    counting true c e r = holds c r
    counting false c e r = absurd (false≢true e)

behind_taken : (program : Checked) (locals : List CType) (how : Use) (attr : Attr) (a : Expr) (index : ℕ)
    (structs : Structs) (p : Value) → MeetsKind program locals how attr (MemberBehind a index)
    → IsOf structs (type_of a) p → Leads p
behind_taken program locals how attr a index structs p h g =
    let x = n.MemberBehind (attr_of a) h.1 in
    let φ = facts_at program h.0 in
    let rule = unbroken (table φ x) 18 (judge 19 (rule_19 φ x)) refl h.2.rules in
    by (target_of (type_of a)) refl
    (subst (λ (o : Option CType). target_names h.0 o h.1 ≡ true) (value_target (base_of (type_of a)))
    (holds (target_names h.0 (target (attr_of a)) h.1) rule))
  where
    struct_unlocked : (σ : Structs) (u : CType) (name : List ℕ) → names_member σ u name ≡ true
        → is_lock_object (base_of u) ≡ false
    struct_unlocked σ (Qualified types.LockObject c s x) name e = absurd (false≢true e)
    struct_unlocked σ (Qualified types.Void c s x) name e = refl
    struct_unlocked σ (Qualified (types.Integer k) c s x) name e = refl
    struct_unlocked σ (Qualified (types.Struct m) c s x) name e = refl
    struct_unlocked σ (Qualified (types.Array u count) c s x) name e = refl
    struct_unlocked σ (Qualified (types.Pointer u) c s x) name e = refl

    by : (o : Option CType) → target_of (type_of a) ≡ o → target_names h.0 o h.1 ≡ true → Leads p
    by None e t = absurd (false≢true t)
    by (Some u) e t = pointer_leads structs (type_of a) u p e (struct_unlocked h.0 u h.1 t) g

-- ---- binary operators

only : (b : Bool) → (b || false) ≡ true → b ≡ true
only true h = refl
only false h = absurd (false≢true h)

drop_true : (b : Bool) → (b && true) ≡ false → b ≡ false
drop_true true h = h
drop_true false h = refl

loose_one : (loose lock : Bool) → ((loose || false) && not (lock && false)) ≡ false → loose ≡ false
loose_one true true h = h
loose_one true false h = h
loose_one false lock h = refl

last_one : (b c : Bool) → ((b && c) || (c || false)) ≡ true → c ≡ true
last_one b true h = refl
last_one true false h = absurd (false≢true h)
last_one false false h = absurd (false≢true h)

neither : (b zero : Bool) → ((b || false) || (zero && false)) ≡ true → b ≡ true
neither true zero h = refl
neither false true h = absurd (false≢true h)
neither false false h = absurd (false≢true h)

module _ (σ structs : Structs) (a b : Attr) (x y : Value) (fa : IsFormedType a.ctype) (fb : IsFormedType b.ctype)
    (of_a : IsOf structs a.ctype x) (of_b : IsOf structs b.ctype y) where
  abbrev Taken : BinOp → (l r : Option CType) → Type 0
  Taken o l r = AreOperands o l r (integer_of a.ctype) (integer_of b.ctype) x y

  -- Both are integers.
  both_count : (o : BinOp) → (counts a && counts b) ≡ true → Taken o (target_of a.ctype) (target_of b.ctype)
  both_count o h =
      let both = and_parts (counts a) (counts b) h in
      let none_a = no_target (base_of a.ctype) both.0 in
      let none_b = no_target (base_of b.ctype) both.1 in
      subst (λ (l : Option CType). Taken o l (target_of b.ctype)) (sym none_a)
      (subst (λ (r : Option CType). Taken o None r) (sym none_b)
      (counted structs a.ctype x fa both.0 of_a, counted structs b.ctype y fb both.1 of_b))

  -- Two pointers with equal targets, which are not both locks.
  alike : (t u : CType) → target_of a.ctype ≡ Some t → target_of b.ctype ≡ Some u → equal_targets t u ≡ true
      → (is_lock_object (base_of t) && is_lock_object (base_of u)) ≡ false → LeadAlike x y
  alike t u ea eb e k =
      let free = neither_lock t u e k in
      let block = (and_parts (same_block (block_of t) (block_of u)) (same_base (base_of t) (base_of u)) e).0 in
      led_alike (block_of t) (block_of u) (number_of structs.targets t) (number_of structs.targets u) x y block
      (pointer_fits structs a.ctype t x ea free.0 of_a) (pointer_fits structs b.ctype u y eb free.1 of_b)

  place_a : (t : CType) → target_of a.ctype ≡ Some t → IsPlaceOf structs t x
  place_a t e = is_place structs (base_of a.ctype) t x (value_target (base_of a.ctype) ∙ e) of_a

  place_b : (u : CType) → target_of b.ctype ≡ Some u → IsPlaceOf structs u y
  place_b u e = is_place structs (base_of b.ctype) u y (value_target (base_of b.ctype) ∙ e) of_b

  point_fits : (t : CType) (v : Value) → IsPlaceOf structs t v → Points v
  point_fits (Qualified c i s q) v h = point_kind c s (number_of structs.targets (Qualified c i s q)) v h

  at_a : (l : Option CType) → target a ≡ l → target_of a.ctype ≡ l
  at_a l e = sym (value_target (base_of a.ctype)) ∙ e

  at_b : (r : Option CType) → target b ≡ r → target_of b.ctype ≡ r
  at_b r e = sym (value_target (base_of b.ctype)) ∙ e

  -- What counts is no pointer.
  no_pointer : (c : Attr) (u : CType) → target c ≡ Some u → counts c ≡ true → ⊥
  no_pointer c u e h =
      let none = value_target (base_of c.ctype) ∙ no_target (base_of c.ctype) h in
      let q : Some u ≡ None = sym e ∙ none in
      absurd cc

  number_a : counts a ≡ true → IsNumber x
  number_a h = number_of_counts (integer_of a.ctype) x (counted structs a.ctype x fa h of_a)

  number_b : counts b ≡ true → IsNumber y
  number_b h = number_of_counts (integer_of b.ctype) y (counted structs b.ctype y fb h of_b)

  leads_a : (t : CType) → target a ≡ Some t → is_loose_target σ (Some t) ≡ false → Leads x
  leads_a t e h = pointer_leads structs a.ctype t x (at_a (Some t) e) (sized_unlocked σ t (holds (has_size σ t) h)) of_a

  leads_b : (u : CType) → target b ≡ Some u → is_loose_target σ (Some u) ≡ false → Leads y
  leads_b u e h = pointer_leads structs b.ctype u y (at_b (Some u) e) (sized_unlocked σ u (holds (has_size σ u) h)) of_b

  both_numbers : (o : BinOp) → (counts a && counts b) ≡ true → Taken o None None
  both_numbers o h =
      let both = and_parts (counts a) (counts b) h in
      (counted structs a.ctype x fa both.0 of_a, counted structs b.ctype y fb both.1 of_b)

  add_by : (l r : Option CType) → target a ≡ l → target b ≡ r
      → ((counts a || present l) && (counts b || present r) && not (present l && present r)) ≡ true
      → ((is_loose_target σ l || is_loose_target σ r) && true) ≡ false → Taken op.Add l r
  add_by None None ea eb h g =
      let both = and_parts (counts a || false) (counts b || false)
      (and_parts ((counts a || false) && (counts b || false)) true h).0 in (
        counted structs a.ctype x fa (only (counts a) both.0) of_a,
        counted structs b.ctype y fb (only (counts b) both.1) of_b,
      )
  add_by (Some t) None ea eb h g =
      let both = and_parts (counts a || true) (counts b || false)
      (and_parts ((counts a || true) && (counts b || false)) true h).0 in
      let loose = drop_true (is_loose_target σ (Some t) || false) g in
      (leads_a t ea (or_left (is_loose_target σ (Some t)) false loose), number_b (only (counts b) both.1))
  add_by None (Some u) ea eb h g =
      let both = and_parts (counts a || false) (counts b || true)
      (and_parts ((counts a || false) && (counts b || true)) true h).0 in
      (leads_b u eb (drop_true (is_loose_target σ (Some u)) g), number_a (only (counts a) both.0))
  add_by (Some t) (Some u) ea eb h g =
      absurd (false≢true (and_parts ((counts a || true) && (counts b || true)) false h).1)

  subtract_by : (l r : Option CType) → target a ≡ l → target b ≡ r
      → ((counts a && counts b) || (present l && (counts b || present r))) ≡ true
      → ((is_loose_target σ l || is_loose_target σ r) && not (target_is_lock l && target_is_lock r)) ≡ false
      → (targets_differ l r || (target_is_lock l && target_is_lock r)) ≡ false → Taken op.Subtract l r
  subtract_by None None ea eb h g m = both_numbers op.Subtract (only (counts a && counts b) h)
  subtract_by (Some t) None ea eb h g m = (
    leads_a t ea (loose_one (is_loose_target σ (Some t)) (target_is_lock (Some t)) g),
    number_b (last_one (counts a) (counts b) h),
  )
  subtract_by None (Some u) ea eb h g m =
      absurd (no_pointer b u eb (and_parts (counts a) (counts b) (only (counts a && counts b) h)).1)
  subtract_by (Some t) (Some u) ea eb h g m =
      let locks = is_lock_object (base_of t) && is_lock_object (base_of u) in
      alike t u (at_a (Some t) ea) (at_b (Some u) eb)
      (holds (equal_targets t u) (or_left (not (equal_targets t u)) locks m))
      (or_right (not (equal_targets t u)) locks m)

  order_by : (o : BinOp) → ((v w : Value) → LeadAlike v w → ArePointers o v w) → (l r : Option CType) → target a ≡ l
      → target b ≡ r → ((counts a && counts b) || (present l && present r)) ≡ true
      → (targets_differ l r || (target_is_lock l && target_is_lock r)) ≡ false → Taken o l r
  order_by o takes None None ea eb h m = both_numbers o (only (counts a && counts b) h)
  order_by o takes (Some t) None ea eb h m =
      absurd (no_pointer a t ea (and_parts (counts a) (counts b) (only (counts a && counts b) h)).0)
  order_by o takes None (Some u) ea eb h m =
      absurd (no_pointer b u eb (and_parts (counts a) (counts b) (only (counts a && counts b) h)).1)
  order_by o takes (Some t) (Some u) ea eb h m =
      let locks = is_lock_object (base_of t) && is_lock_object (base_of u) in
      takes x y
      (alike t u (at_a (Some t) ea) (at_b (Some u) eb)
      (holds (equal_targets t u) (or_left (not (equal_targets t u)) locks m))
      (or_right (not (equal_targets t u)) locks m))

  -- Two pointers with equal targets.
  point_alike : (t u : CType) → target_of a.ctype ≡ Some t → target_of b.ctype ≡ Some u → equal_targets t u ≡ true
      → PointAlike x y
  point_alike t u ea eb e = by (is_lock_object (base_of t)) refl
    where
      same : same_base (base_of t) (base_of u) ≡ true
      same = (and_parts (same_block (block_of t) (block_of u)) (same_base (base_of t) (base_of u)) e).1

      by : (l : Bool) → is_lock_object (base_of t) ≡ l → PointAlike x y
      by true q =
          locks_alike x y
          (subst (λ (k : Kind). Fits k x) (locked_kind structs.targets t q) (place_a t ea))
          (subst (λ (k : Kind). Fits k y)
          (locked_kind structs.targets u (same_lock (base_of t) (base_of u) same q)) (place_b u eb))
      by false q =
          lead_points x y (alike t u ea eb e (ap (λ (l : Bool). l && is_lock_object (base_of u)) q))

  one_zero : (p zero_b zero_a : Bool) → p ≡ false → ((p || false) || (zero_b || (zero_a && false))) ≡ true
      → zero_b ≡ true
  one_zero true zero_b zero_a e h = absurd (false≢true (sym e))
  one_zero false true zero_a e h = refl
  one_zero false false true e h = absurd (false≢true h)
  one_zero false false false e h = absurd (false≢true h)

  other_zero : (p zero_a : Bool) → p ≡ false → ((p || false) || (false || (zero_a && true))) ≡ true → zero_a ≡ true
  other_zero true zero_a e h = absurd (false≢true (sym e))
  other_zero false true e h = refl
  other_zero false false e h = absurd (false≢true h)

  not_both : (p q : Bool) → (p ≡ true → ⊥) → (p && q) ≡ false
  not_both true q f = absurd (f refl)
  not_both false q f = refl

  not_last : (p q : Bool) → (q ≡ true → ⊥) → (p && q) ≡ false
  not_last true true f = absurd (f refl)
  not_last true false f = refl
  not_last false q f = refl

  -- An equality, by what the operator takes of two pointers, and of a pointer and an integer.
  equal_by : (o : BinOp) → ((v w : Value) → PointAlike v w → ArePointers o v w)
      → ((v w : Value) → Points v × IsNumber w → IsStepped o v w)
      → ((v w : Value) → Points w × IsNumber v → IsSteppedBy o v w) → (is_zero a ≡ true → counts a ≡ true)
      → (is_zero b ≡ true → counts b ≡ true) → (l r : Option CType) → target a ≡ l → target b ≡ r
      → (((counts a && counts b) || (present l && present r))
      || ((present l && is_zero b) || (is_zero a && present r))) ≡ true
      → (targets_differ l r || false) ≡ false → Taken o l r
  equal_by o two one other na nb None None ea eb h m = both_numbers o (neither (counts a && counts b) (is_zero a) h)
  equal_by o two one other na nb (Some t) None ea eb h m =
      let counted_a = not_both (counts a) (counts b) (no_pointer a t ea) in
      let zero = one_zero (counts a && counts b) (is_zero b) (is_zero a) counted_a h in
      one x y (point_fits t x (place_a t (at_a (Some t) ea)), number_b (nb zero))
  equal_by o two one other na nb None (Some u) ea eb h m =
      let counted_b = not_last (counts a) (counts b) (no_pointer b u eb) in
      let zero = other_zero (counts a && counts b) (is_zero a) counted_b h in
      other x y (point_fits u y (place_b u (at_b (Some u) eb)), number_a (na zero))
  equal_by o two one other na nb (Some t) (Some u) ea eb h m =
      two x y
      (point_alike t u (at_a (Some t) ea) (at_b (Some u) eb)
      (holds (equal_targets t u) (or_left (not (equal_targets t u)) false m)))

  -- By what the operands point to, which is what their types do.
  as_types : (o : BinOp) → Taken o (target a) (target b) → Taken o (target_of a.ctype) (target_of b.ctype)
  as_types o h =
      subst (λ (l : Option CType). Taken o l (target_of b.ctype)) (value_target (base_of a.ctype))
      (subst (λ (r : Option CType). Taken o (target a) r) (value_target (base_of b.ctype)) h)

  operands : (is_zero a ≡ true → counts a ≡ true) → (is_zero b ≡ true → counts b ≡ true) → (o : BinOp)
      → fits o a b ≡ true → moves_loosely σ o a b ≡ false → mismatches o a b ≡ false
      → Taken o (target_of a.ctype) (target_of b.ctype)
  operands na nb op.Add h g m = as_types op.Add (add_by (target a) (target b) refl refl h g)
  operands na nb op.Subtract h g m = as_types op.Subtract (subtract_by (target a) (target b) refl refl h g m)
  operands na nb op.Less h g m =
      as_types op.Less (order_by op.Less (λ v w k. k) (target a) (target b) refl refl h m)
  operands na nb op.Greater h g m =
      as_types op.Greater (order_by op.Greater (λ v w k. k) (target a) (target b) refl refl h m)
  operands na nb op.LessEqual h g m =
      as_types op.LessEqual (order_by op.LessEqual (λ v w k. k) (target a) (target b) refl refl h m)
  operands na nb op.GreaterEqual h g m =
      as_types op.GreaterEqual (order_by op.GreaterEqual (λ v w k. k) (target a) (target b) refl refl h m)
  operands na nb op.Equal h g m =
      as_types op.Equal
      (equal_by op.Equal (λ v w k. k) (λ v w k. k) (λ v w k. k) na nb (target a) (target b) refl refl h m)
  operands na nb op.NotEqual h g m =
      as_types op.NotEqual
      (equal_by op.NotEqual (λ v w k. k) (λ v w k. k) (λ v w k. k) na nb (target a) (target b) refl refl h m)
  operands na nb op.Multiply h g m = both_count op.Multiply h
  operands na nb op.Divide h g m = both_count op.Divide h
  operands na nb op.Remainder h g m = both_count op.Remainder h
  operands na nb op.ShiftLeft h g m = both_count op.ShiftLeft h
  operands na nb op.ShiftRight h g m = both_count op.ShiftRight h
  operands na nb op.BitAnd h g m = both_count op.BitAnd h
  operands na nb op.BitXor h g m = both_count op.BitXor h
  operands na nb op.BitOr h g m = both_count op.BitOr h

  -- ---- operators that change an object

  stepped_by : (o : BinOp) → (Leads x → IsNumber y → IsStepped o x y) → (l : Option CType) → target a ≡ l
      → ((counts a || present l) && counts b) ≡ true → is_loose_target σ l ≡ false → Taken o l None
  stepped_by o takes None ea h g =
      let both = and_parts (counts a || false) (counts b) h in (
        counted structs a.ctype x fa (only (counts a) both.0) of_a,
        counted structs b.ctype y fb both.1 of_b,
      )
  stepped_by o takes (Some t) ea h g = takes (leads_a t ea g) (number_b (and_parts (counts a || true) (counts b) h).1)

  stepped : (o : BinOp) → (Leads x → IsNumber y → IsStepped o x y) → (is_scalar a && counts b) ≡ true
      → is_loose σ a ≡ false → Taken o (target_of a.ctype) (target_of b.ctype)
  stepped o takes h g =
      let none_b = no_target (base_of b.ctype) (and_parts (is_scalar a) (counts b) h).1 in
      subst (λ (l : Option CType). Taken o l (target_of b.ctype)) (value_target (base_of a.ctype))
      (subst (λ (r : Option CType). Taken o (target a) r) (sym none_b) (stepped_by o takes (target a) refl h g))

  compounds : (o : BinOp) → fits_compound o a b ≡ true → (moves o && is_loose σ a) ≡ false
      → Taken o (target_of a.ctype) (target_of b.ctype)
  compounds op.Add h g = stepped op.Add (λ v w. (v, w)) h g
  compounds op.Subtract h g = stepped op.Subtract (λ v w. (v, w)) h g
  compounds op.Multiply h g = both_count op.Multiply h
  compounds op.Divide h g = both_count op.Divide h
  compounds op.Remainder h g = both_count op.Remainder h
  compounds op.ShiftLeft h g = both_count op.ShiftLeft h
  compounds op.ShiftRight h g = both_count op.ShiftRight h
  compounds op.Less h g = both_count op.Less h
  compounds op.Greater h g = both_count op.Greater h
  compounds op.LessEqual h g = both_count op.LessEqual h
  compounds op.GreaterEqual h g = both_count op.GreaterEqual h
  compounds op.Equal h g = both_count op.Equal h
  compounds op.NotEqual h g = both_count op.NotEqual h
  compounds op.BitAnd h g = both_count op.BitAnd h
  compounds op.BitXor h g = both_count op.BitXor h
  compounds op.BitOr h g = both_count op.BitOr h

and_true : (b : Bool) → b ≡ true → (b && true) ≡ true
and_true true h = refl
and_true false h = h

-- What `++` and `--` take.
step_taken : (program : Checked) (locals : List CType) (how : Use) (attr : Attr) (ρ : Running) (o : StepOperator)
    (a : Expr) (structs : Structs) (x : Value) → MeetsKind program locals how attr (Step o a) → IsFormedType (type_of a)
    → IsOf structs (type_of a) x
    → AreOperands (step_operator ρ o) (target_of (type_of a)) (target_of int) (integer_of (type_of a)) (integer_of int)
    x (number (pos 1))
step_taken program locals how attr ρ o a structs x h f g =
    let z = n.Step (attr_of a) in
    let φ = facts_at program h.0.0 in
    let r14 = unbroken (table φ z) 13 (judge 14 (rule_14 z)) refl h.0.1.rules in
    let r15 = unbroken (table φ z) 14 (judge 15 (rule_15 φ z)) refl h.0.1.rules in
    by o (and_true (is_scalar (attr_of a)) (holds (is_scalar (attr_of a)) r14)) r15
  where
    by : (o : StepOperator) → (is_scalar (attr_of a) && true) ≡ true → is_loose h.0.0 (attr_of a) ≡ false
        → AreOperands (step_operator ρ o) (target_of (type_of a)) (target_of int) (integer_of (type_of a))
        (integer_of int) x (number (pos 1))
    by step.IncrementFirst q r =
        stepped h.0.0 structs (attr_of a) (at_.value int) x (number (pos 1)) f tt g tt op.Add (λ v w. (v, w)) q r
    by step.IncrementAfter q r =
        stepped h.0.0 structs (attr_of a) (at_.value int) x (number (pos 1)) f tt g tt op.Add (λ v w. (v, w)) q r
    by step.DecrementFirst q r =
        stepped h.0.0 structs (attr_of a) (at_.value int) x (number (pos 1)) f tt g tt op.Subtract (λ v w. (v, w)) q r
    by step.DecrementAfter q r =
        stepped h.0.0 structs (attr_of a) (at_.value int) x (number (pos 1)) f tt g tt op.Subtract (λ v w. (v, w)) q r

-- ---- statements

switch_taken : (program : Checked) (a : Expr) (labels : List Constant) (defaults : ℕ) (structs : Structs) (v : Value)
    → Meets program (n.Switch (attr_of a) labels defaults) → IsFormedType (type_of a) → IsOf structs (type_of a) v
    → Counts (integer_of (type_of a)) v
switch_taken program a labels defaults structs v h f g =
    let x = n.Switch (attr_of a) labels defaults in
    let rule = unbroken (table (facts_at program h.structs) x) 24 (judge 25 (rule_25 x)) refl h.rules in
    counted structs (type_of a) v f (holds (counts (attr_of a)) (or_left (not (counts (attr_of a))) _ rule)) g

barrier_taken : (program : Checked) (a : Expr) (structs : Structs) (v : Value) → Meets program (n.Barrier (attr_of a))
    → IsFormedType (type_of a) → IsOf structs (type_of a) v → Counts (integer_of (type_of a)) v
barrier_taken program a structs v h f g =
    let x = n.Barrier (attr_of a) in
    let rule = unbroken (table (facts_at program h.structs) x) 26 (judge 27 (rule_27 x)) refl h.rules in
    counted structs (type_of a) v f (holds (counts (attr_of a)) rule) g

affinity_taken : (program : Checked) (a : Expr) (structs : Structs) (v : Value)
    → Meets program (n.Affinity (attr_of a)) → IsFormedType (type_of a) → IsOf structs (type_of a) v → HasAffinity v
affinity_taken program a structs v h f g =
    let x = n.Affinity (attr_of a) in
    let rule = unbroken (table (facts_at program h.structs) x) 22 (judge 23 (rule_23 x)) refl h.rules in
    by (counts (attr_of a)) refl (holds (counts (attr_of a) || leads_to_shared (attr_of a)) rule)
  where
    number_has : (v : Value) → IsNumber v → HasAffinity v
    number_has (value.Scalar (Int w)) i = tt
    number_has (value.Scalar (Shared w)) i = absurd i
    number_has (value.Scalar (Lock w)) i = absurd i
    number_has (value.Local w) i = absurd i

    shared_has : (s : Option ℕ) (i : ℕ) (v : Value) → present s ≡ true → Fits (kind_by s i) v → HasAffinity v
    shared_has (Some b) i (value.Scalar (Shared q)) e k = tt
    shared_has (Some b) i (value.Scalar (Int w)) e k = absurd (false≢true k)
    shared_has (Some b) i (value.Scalar (Lock w)) e k = absurd (false≢true k)
    shared_has (Some b) i (value.Local q) e k = absurd (false≢true k)
    shared_has None i v e k = absurd (false≢true e)

    leads_by : (o : Option CType) → target_of (type_of a) ≡ o → target_is_shared o ≡ true → HasAffinity v
    leads_by None e k = absurd (false≢true k)
    leads_by (Some u) e k =
        let both = and_parts (present (block_of u)) (not (is_lock_object (base_of u))) k in
        let free = fails (is_lock_object (base_of u)) both.1 in
        shared_has (block_of u) (number_of structs.targets u) v both.0
        (pointer_fits structs (type_of a) u v e free g)

    by : (b : Bool) → counts (attr_of a) ≡ b → (b || leads_to_shared (attr_of a)) ≡ true → HasAffinity v
    by true e k =
        number_has v (number_of_counts (integer_of (type_of a)) v (counted structs (type_of a) v f e g))
    by false e k =
        leads_by (target_of (type_of a)) refl
        (subst (λ (o : Option CType). target_is_shared o ≡ true) (value_target (base_of (type_of a))) k)

pub operands_are_taken : OperandsAreTaken
operands_are_taken = record {
  place = λ structs t v f h. place_leads structs t v f h;
  subscript = λ program locals how attr a i structs p q h f g k.
      subscript_taken program locals how attr a i structs p q h f g k;
  behind = λ program locals how attr a index structs p h g.
      behind_taken program locals how attr a index structs p h g;
  unary = λ program locals how attr o a structs v h f g. unary_taken program locals how attr o a structs v h f g;
  binary = λ program locals how attr o a b structs x y h fa fb of_a of_b.
      let z = n.Binary o (attr_of a) (attr_of b) in
      let φ = facts_at program h.0.0 in
      let r14 = unbroken (table φ z) 13 (judge 14 (rule_14 z)) refl h.0.1.rules in
      let r15 = unbroken (table φ z) 14 (judge 15 (rule_15 φ z)) refl h.0.1.rules in
      let r16 = unbroken (table φ z) 15 (judge 16 (rule_16 z)) refl h.0.1.rules in
      operands h.0.0 structs (attr_of a) (attr_of b) x y fa fb of_a of_b
      (expr_numbered program locals n.Plain a h.1).value (expr_numbered program locals n.Plain b h.2).value o
      (holds (fits o (attr_of a) (attr_of b)) r14) r15 r16;
  compound = λ program locals how attr o a b structs x y h fa fb of_a of_b.
      let z = n.Compound o (attr_of a) (attr_of b) in
      let φ = facts_at program h.0.0 in
      let r14 = unbroken (table φ z) 13 (judge 14 (rule_14 z)) refl h.0.1.rules in
      let r15 = unbroken (table φ z) 14 (judge 15 (rule_15 φ z)) refl h.0.1.rules in
      compounds h.0.0 structs (attr_of a) (attr_of b) x y fa fb of_a of_b o
      (holds (fits_compound o (attr_of a) (attr_of b)) r14) r15;
  step = λ program locals how attr ρ o a structs x h f g.
      step_taken program locals how attr ρ o a structs x h f g;
  switch = λ program a labels defaults structs v h f g. switch_taken program a labels defaults structs v h f g;
  barrier = λ program a structs v h f g. barrier_taken program a structs v h f g;
  affinity = λ program a structs v h f g. affinity_taken program a structs v h f g;
}
