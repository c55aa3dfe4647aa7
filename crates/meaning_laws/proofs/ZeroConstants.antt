-- An expression that is the constant 0 is an integer, in a program that meets the rules.
use Rattle.std.proofs.Common.{◌≡◌, ℕ, Bool, true, false, List, Option, Some, None, refl, sym, subst, ◌∙◌}
use Rattle.std.proofs.Math.IntN.{ℤ, pos}
use Rattle.std.specs.Prelude.{if◌then◌else◌}
use Rattle.std.specs.Ordering.{int_eq}
use Rattle.std.proofs.lemmas.Bool.{false≢true}
use Rattle.block_layout.specs.declared.kind.Kind.{Kind}
use Rattle.block_layout.specs.Places.{in_range}
use Rattle.integers.specs.declared.operator.BinOp.{BinOp}
use Rattle.integers.specs.declared.operator.BinOp.TheVariants as op
use Rattle.integers.specs.declared.operator.UnOp.{UnOp}
use Rattle.upc_types.specs.Types as types
use Rattle.upc_types.specs.Types.{CType, Base, Qualified, base_of, block_of}
use Rattle.upc_types.specs.Conversions.{is_integer}
use Rattle.typing_rules.specs.declared.setting.Home.{Home}
use Rattle.typing_rules.specs.declared.setting.Home.TheVariants as home
use Rattle.typing_rules.specs.declared.attribute.Static.{Static}
use Rattle.typing_rules.specs.declared.attribute.Static.TheVariants as static
use Rattle.typing_rules.specs.declared.attribute.Element.{Element}
use Rattle.typing_rules.specs.declared.attribute.Constant.{Constant}
use Rattle.typing_rules.specs.declared.attribute.Constant.TheVariants.{Variable, Known, Undefined, Null, Address}
use Rattle.typing_rules.specs.declared.attribute.Form.TheVariants as form
use Rattle.typing_rules.specs.Library.{int}
use Rattle.typing_rules.specs.Values.{value_base, value_type, base_kind, base_target}
use Rattle.typing_rules.specs.Constants as c
use Rattle.typing_rules.specs.Constants.{first_element, lost_behind, ranged, ranged_at, address_plus, cast_place}
use Rattle.typing_rules.specs.Constants.{cast_address, member_place}
use Rattle.typing_rules.specs.Attributes as at_
use Rattle.typing_rules.specs.Attributes.{Facts, Found, attr, base, address_in, constant_of, value_constant}
use Rattle.typing_rules.specs.Attributes.{home_address, object_at, indexed, element_address, member_address}
use Rattle.typing_rules.specs.Attributes.{member_at, member_behind, member_named, unary_attr, cast_pointer, cast_attr}
use Rattle.typing_rules.specs.Attributes.{pointer_attr, arithmetic_attr, sum_attr, difference_attr, binary_attr}
use Rattle.typing_rules.specs.Attributes.{choice_attr, negated}
use Rattle.typing_rules.specs.Meanings as m
use Rattle.typing_rules.specs.Nodes as n
use Rattle.typing_rules.specs.Nodes.{Attr, Use, Node}
use Rattle.typing_rules.specs.Rules.{is_zero, counts}
use Rattle.typed_tree.specs.declared.tree.Target.TheVariants as target
use Rattle.typed_tree.specs.Tree as tree
use Rattle.typed_tree.specs.Tree.{Expr, Is, ExprKind, attr_of}
use Rattle.typed_tree.specs.Programs.{Checked}
use Rattle.typed_tree.specs.layer.Judged.{IsConstant, facts_at}
use Rattle.typed_tree.specs.layer.TypedNodes.{MeetsExpr, MeetsKind}

-- The constant is not the number 0.
abbrev IsOther : Constant → Type 0
IsOther x = c.is_zero x ≡ false

-- Where the expression is the constant 0, it is an integer; and the address of what it names is not that number.
pub record IsNumbered (a : Attr) : Type 0 where
  pub value : is_zero a ≡ true → counts a ≡ true
  pub named : IsOther (address_in a.form)

-- ---- constants

other_if : (b : Bool) (x y : Constant) → IsOther x → IsOther y → IsOther (if b then x else y)
other_if true x y h g = h
other_if false x y h g = g

other_lost : (x : Constant) → IsOther (lost_behind x)
other_lost (Address p e) = refl
other_lost Null = refl
other_lost Undefined = refl
other_lost Variable = refl
other_lost (Known v) = refl

other_ranged : (e : Element) (p : Static) → IsOther (ranged e p)
other_ranged e p = other_if (in_range (c.static_offset p)) (Address p e) Undefined refl refl

other_placed : (o : Option Element) (p : Static) → IsOther (ranged_at o p)
other_placed None p = refl
other_placed (Some e) p = other_ranged e p

other_plus : (threads : ℕ) (block : Option ℕ) (size leaves : ℕ) (x : Constant) (i : ℤ)
    → IsOther (address_plus threads block size leaves x i)
other_plus threads block size leaves (Address p e) i = other_placed (c.element_behind e i) _
other_plus threads block size leaves Null i = refl
other_plus threads block size leaves Undefined i = refl
other_plus threads block size leaves Variable i = refl
other_plus threads block size leaves (Known v) i = refl

other_indexed : (φ : Facts) (t : CType) (address x : Constant) → IsOther (indexed φ t address x)
other_indexed φ t address (Known i) = other_plus φ.threads (block_of t) _ _ address i
other_indexed φ t address Undefined = other_lost address
other_indexed φ t address Variable = refl
other_indexed φ t address Null = refl
other_indexed φ t address (Address p e) = refl

other_element : (φ : Facts) (a i : Attr) (o : Option CType) → IsOther (element_address φ a i o)
other_element φ a i None = refl
other_element φ a i (Some t) = other_indexed φ t (constant_of a) i.constant

other_member : (x : Constant) (offset : ℕ) → IsOther (member_address x offset)
other_member (Address p e) offset = other_ranged c.alone (member_place offset p)
other_member Null offset = refl
other_member Undefined offset = refl
other_member Variable offset = refl
other_member (Known v) offset = refl

other_cast_place : (from into : Option ℕ) (e : Element) (p : Static) → IsOther (cast_place from into e p)
other_cast_place from into e (static.Private object offset) = refl
other_cast_place None into e (static.Shared object thread phase offset) = refl
other_cast_place (Some b) None e (static.Shared object thread phase offset) = refl
other_cast_place (Some b) (Some d) e (static.Shared object thread phase offset) = refl

other_cast : (from into : Option ℕ) (x : Constant) → IsOther (cast_address from into x)
other_cast from into (Address p e) = other_cast_place from into e p
other_cast from into (Known v) = other_if (int_eq v (pos 0)) Null Variable refl refl
other_cast from into Null = refl
other_cast from into Undefined = refl
other_cast from into Variable = refl

other_cast_pointer : (o : Option CType) (a : Attr) → IsOther (cast_pointer o a)
other_cast_pointer None a = refl
other_cast_pointer (Some t) a = other_cast (at_.target_block (base_target (base a))) (block_of t) (constant_of a)

other_home : (x : Home) → IsOther (home_address x)
other_home (home.Private object) = refl
other_home (home.Shared object) = refl
other_home (home.Local object) = refl

other_first : (count : ℕ) (x : Constant) → IsOther x → IsOther (first_element count x)
other_first count (Address p e) h = refl
other_first count Null h = h
other_first count Undefined h = h
other_first count Variable h = h
other_first count (Known v) h = h

not_so : (b : Bool) → (b ≡ true → false ≡ true) → b ≡ false
not_so true h = absurd (false≢true (h refl))
not_so false h = refl

-- What leads to something is not the number 0.
other_pointer : (a : Attr) (t : CType) → IsNumbered a → base_target (base a) ≡ Some t → IsOther (constant_of a)
other_pointer a t h e = by (base_of a.ctype) e h.value
  where
    by : (b : Base) → base_target (value_base b) ≡ Some t → (is_zero a ≡ true → is_integer (value_base b) ≡ true)
        → IsOther (value_constant b a)
    by (types.Array u count) q f = other_first count (address_in a.form) h.named
    by (types.Pointer u) q f = not_so (is_zero a) f
    by types.Void q f = absurd cc
    by (types.Integer k) q f = absurd cc
    by (types.Struct i) q f = absurd cc
    by types.LockObject q f = absurd cc

-- ---- attributes

number_numbered : (k : Kind) (x : Constant) → IsNumbered (at_.constant k x)
number_numbered k x = record { value = λ h. refl; named = refl }

value_numbered : (t : CType) → IsNumbered (at_.value t)
value_numbered t = record { value = λ h. absurd (false≢true h); named = refl }

place_numbered : (t : CType) (x : Constant) → IsOther x
    → IsNumbered (record { ctype = t; form = form.Lvalue x; constant = Variable })
place_numbered t x h = record { value = λ g. absurd (false≢true g); named = h }

pointer_numbered : (t : CType) (x : Constant) → IsOther x
    → IsNumbered (record { ctype = t; form = form.Value; constant = x })
pointer_numbered t x h = record { value = λ g. absurd (false≢true (sym h ∙ g)); named = refl }

object_numbered : (o : Option CType) (x : Constant) → ((t : CType) → o ≡ Some t → IsOther x)
    → IsNumbered (object_at o x)
object_numbered None x h = value_numbered int
object_numbered (Some t) x h = place_numbered t x (h t refl)

member_numbered : (t : CType) (x : Constant) (o : Option Found) → IsNumbered (member_at t x o)
member_numbered t x None = value_numbered int
member_numbered t x (Some f) = place_numbered _ (member_address x f.offset) (other_member x f.offset)

behind_numbered : (φ : Facts) (o : Option CType) (x : Constant) (name : List ℕ)
    → IsNumbered (member_behind φ.structs o x name)
behind_numbered φ None x name = value_numbered int
behind_numbered φ (Some t) x name = member_numbered t x (member_named φ.structs t name)

unary_numbered : (o : UnOp) (k : Option Kind) (x : Constant) → IsNumbered (unary_attr o k x)
unary_numbered o None x = value_numbered int
unary_numbered o (Some k) x = number_numbered _ _

cast_numbered : (t : CType) (a : Attr) → IsNumbered (cast_attr (value_type t) a)
cast_numbered (Qualified (types.Integer k) i s x) a = record { value = λ h. refl; named = refl }
cast_numbered (Qualified types.Void i s x) a = pointer_numbered _ _ refl
cast_numbered (Qualified (types.Struct j) i s x) a = pointer_numbered _ _ refl
cast_numbered (Qualified types.LockObject i s x) a = pointer_numbered _ _ refl
cast_numbered (Qualified (types.Pointer t) i s x) a = pointer_numbered _ _ (other_cast_pointer (Some t) a)
cast_numbered (Qualified (types.Array t count) i s x) a = pointer_numbered _ _ (other_cast_pointer (Some t) a)

arithmetic_numbered : (o : BinOp) (j k : Option Kind) (x y : Constant) → IsNumbered (arithmetic_attr o j k x y)
arithmetic_numbered o (Some j) (Some k) x y = number_numbered _ _
arithmetic_numbered o (Some j) None x y = value_numbered int
arithmetic_numbered o None k x y = value_numbered int

stepped_numbered : (φ : Facts) (t : CType) (x y : Constant) → IsNumbered (pointer_attr φ t x y)
stepped_numbered φ t x y = pointer_numbered _ _ (other_indexed φ t x y)

sum_numbered : (φ : Facts) (a b : Attr) (t u : Option CType) → IsNumbered (sum_attr φ a b t u)
sum_numbered φ a b (Some t) u = stepped_numbered φ t (constant_of a) b.constant
sum_numbered φ a b None (Some u) = stepped_numbered φ u (constant_of b) a.constant
sum_numbered φ a b None None = arithmetic_numbered op.Add _ _ _ _

difference_numbered : (φ : Facts) (a b : Attr) (t u : Option CType) → IsNumbered (difference_attr φ a b t u)
difference_numbered φ a b (Some t) (Some u) = value_numbered _
difference_numbered φ a b (Some t) None = stepped_numbered φ t (constant_of a) (negated b.constant)
difference_numbered φ a b None u = arithmetic_numbered op.Subtract _ _ _ _

binary_numbered : (φ : Facts) (o : BinOp) (a b : Attr) → IsNumbered (binary_attr φ o a b)
binary_numbered φ op.Add a b = sum_numbered φ a b _ _
binary_numbered φ op.Subtract a b = difference_numbered φ a b _ _
binary_numbered φ o a b = arithmetic_numbered o _ _ _ _

choice_numbered : (x : Constant) (a b : Attr) (j k : Option Kind) (o : Option CType)
    → IsNumbered (choice_attr x a b j k o)
choice_numbered x a b (Some j) (Some k) o = number_numbered _ _
choice_numbered x a b (Some j) None (Some t) = value_numbered _
choice_numbered x a b (Some j) None None = value_numbered _
choice_numbered x a b None k (Some t) = value_numbered _
choice_numbered x a b None k None = value_numbered _

constant_numbered : (p : Checked) (φ : Facts) (x : Node) → IsConstant p x → IsNumbered (attr φ x)
constant_numbered p φ (n.Name how (m.Named constant)) h = number_numbered _ _
constant_numbered p φ (n.Number k w) h = number_numbered _ _
constant_numbered p φ (n.Character w) h = number_numbered _ _
constant_numbered p φ (n.Threads threads) h = number_numbered _ _
constant_numbered p φ n.MaxBlockSize h = number_numbered _ _
constant_numbered p φ x h = absurd h

-- ---- expressions

module _ (program : Checked) (locals : List CType) where
  as_judged : (a b : Attr) → a ≡ b → IsNumbered b → IsNumbered a
  as_judged a b e h = subst IsNumbered (sym e) h

  mutual
    pub expr_numbered : (how : Use) (e : Expr) → MeetsExpr program locals how e → IsNumbered (attr_of e)
    expr_numbered how (Is at attr kind) h = kind_numbered how attr kind h

    kind_numbered : (how : Use) (attr : Attr) (kind : ExprKind) → MeetsKind program locals how attr kind
        → IsNumbered attr
    kind_numbered how a tree.Literal h =
        as_judged a _ h.2.1.is (constant_numbered program (facts_at program h.2.0) h.0 h.1)
    kind_numbered how a tree.Mythread h = as_judged a _ h.1.is (value_numbered int)
    kind_numbered how a (tree.Object home) h =
        as_judged a _ h.2.1.is (place_numbered h.0 (home_address home) (other_home home))
    kind_numbered how a (tree.Callee target) h = absurd h
    kind_numbered how a (tree.Format bytes) h =
        as_judged a _ h.1.is (record { value = λ g. absurd (false≢true g); named = refl })
    kind_numbered how a (tree.Paren e) h = as_judged a _ h.0 (expr_numbered how e h.1)
    kind_numbered how a (tree.Subscript x i) h =
        as_judged a _ h.0.1.is (object_numbered (base_target (base (attr_of x))) _
        (λ t q. other_element (facts_at program h.0.0) (attr_of x) (attr_of i) (base_target (base (attr_of x)))))
    kind_numbered how a (tree.Call (target.Function number) args) h = as_judged a _ h.2.1.is (value_numbered _)
    kind_numbered how a (tree.Call (target.Library call) args) h = as_judged a _ h.0.1.is (value_numbered _)
    kind_numbered how a (tree.Member x index) h =
        as_judged a _ h.2.is (member_numbered (attr_of x).ctype (address_in (attr_of x).form)
        (member_named h.0 (attr_of x).ctype h.1))
    kind_numbered how a (tree.MemberBehind x index) h =
        as_judged a _ h.2.is (behind_numbered (facts_at program h.0) (base_target (base (attr_of x)))
        (constant_of (attr_of x)) h.1)
    kind_numbered how a (tree.Step o x) h = as_judged a _ h.0.1.is (value_numbered _)
    kind_numbered how a (tree.Address x) h =
        as_judged a _ h.0.1.is (pointer_numbered _ _ (expr_numbered n.Plain x h.1).named)
    kind_numbered how a (tree.Dereference x) h =
        as_judged a _ h.0.1.is (object_numbered (base_target (base (attr_of x))) (constant_of (attr_of x))
        (λ t q. other_pointer (attr_of x) t (expr_numbered n.Plain x h.1) q))
    kind_numbered how a (tree.Unary o x) h = as_judged a _ h.0.1.is (unary_numbered o (base_kind (base (attr_of x))) _)
    kind_numbered how a (tree.SizeOf o x) h = as_judged a _ h.0.1.is (number_numbered _ _)
    kind_numbered how a (tree.SizeOfType o t) h = as_judged a _ h.2.1.is (number_numbered _ _)
    kind_numbered how a (tree.Cast x) h = as_judged a _ h.1.1.is (cast_numbered h.0.ctype (attr_of x))
    kind_numbered how a (tree.Binary o x y) h =
        as_judged a _ h.0.1.is (binary_numbered (facts_at program h.0.0) o (attr_of x) (attr_of y))
    kind_numbered how a (tree.And x y) h = as_judged a _ h.0.1.is (number_numbered _ _)
    kind_numbered how a (tree.Or x y) h = as_judged a _ h.0.1.is (number_numbered _ _)
    kind_numbered how a (tree.Assign x y) h = as_judged a _ h.0.1.is (value_numbered _)
    kind_numbered how a (tree.Compound o x y) h = as_judged a _ h.0.1.is (value_numbered _)
    kind_numbered how a (tree.Conditional test x y) h =
        as_judged a _ h.0.1.is (choice_numbered (attr_of test).constant (attr_of x) (attr_of y)
        (base_kind (base (attr_of x))) (base_kind (base (attr_of y))) (base_target (base (attr_of x))))
    kind_numbered how a (tree.Comma tree.NoExprs) h = absurd h
    kind_numbered how a (tree.Comma (tree.AndExpr x more)) h = as_judged a _ h.0.1.is (value_numbered _)
