-- What the nodes of a program say of its expressions, where only the tree is known.
use Rattle.std.specs.Prelude.{◌≡◌, ℕ, ◌<◌, ◌≤◌, pos, true, List, length, Some, slice_get, IsTrue, ◌⊎◌}
use Rattle.upc_text.specs.declared.place.Place.{Place}
use Rattle.block_layout.specs.declared.kind.Kind.{Kind}
use Rattle.integers.specs.Integers.{InKind}
use Rattle.integers.specs.declared.operator.BinOp.{BinOp}
use Rattle.upc_types.specs.Types.{CType, Completed, base_of, members_of, members_in}
use Rattle.upc_types.specs.Layout.{known_in, complete_in}
use Rattle.typing_rules.specs.declared.setting.Home.{Home}
use Rattle.typing_rules.specs.declared.attribute.Form.TheVariants.{Lvalue}
use Rattle.typing_rules.specs.Values.{base_struct}
use Rattle.typing_rules.specs.Attributes.{home_address, known}
use Rattle.typing_rules.specs.Nodes as rule_node
use Rattle.typing_rules.specs.Nodes.{Attr, Use}
use Rattle.typing_rules.specs.Rules.{fits, target, is_modifiable}
use Rattle.typed_tree.specs.declared.tree.Target.TheVariants as called
use Rattle.typed_tree.specs.Tree as typed
use Rattle.typed_tree.specs.Tree.{Expr, Exprs, attr_of, attrs_of, Function}
use Rattle.typed_tree.specs.Programs.{Checked}
use Rattle.typed_tree.specs.layer.Judged.{Earlier, Judged, Stands}
use Rattle.typed_tree.specs.layer.TypedNodes.{MeetsExpr}

-- The operands of an operator are of kinds that it takes (C99 6.5.5 to 6.5.12).
abbrev pub OperandsFit : Type 0
OperandsFit = (p : Checked) (locals : List CType) (how : Use) (at : Place) (attr : Attr) (op : BinOp) (a b : Expr) →
    MeetsExpr p locals how (typed.Is at attr (typed.Binary op a b)) → IsTrue (fits op (attr_of a) (attr_of b))

-- The left side of an assignment names an object that can be assigned to (C99 6.5.16).
abbrev pub AssignedIsModifiable : Type 0
AssignedIsModifiable = (p : Checked) (locals : List CType) (how : Use) (at : Place) (attr : Attr) (a b : Expr) →
    MeetsExpr p locals how (typed.Is at attr (typed.Assign a b)) → IsTrue (is_modifiable (attr_of a))

-- An object is an lvalue at its home, and of the type that its declaration has (C99 6.5.1).
abbrev pub ObjectIsLvalue : Type 0
ObjectIsLvalue = (p : Checked) (locals : List CType) (how : Use) (at : Place) (attr : Attr) (home : Home) →
    MeetsExpr p locals how (typed.Is at attr (typed.Object home)) →
    (attr.form ≡ Lvalue (home_address home)) × Stands p locals home attr.ctype

-- A function that is called is one of the program, with as many arguments as it has parameters, and the call is of the
-- type of its result (C99 6.5.2.2).
abbrev pub CallFits : Type 0
CallFits = (p : Checked) (locals : List CType) (how : Use) (at : Place) (attr : Attr) (number : ℕ) (args : Exprs) →
    MeetsExpr p locals how (typed.Is at attr (typed.Call (called.Function number) args)) →
    (f : Function) × (slice_get p.functions number ≡ Some f) × (length (attrs_of args) ≡ length f.parameters)
    × (attr.ctype ≡ f.result)

-- A member is one of the struct that the expression before it is (C99 6.5.2.3).
abbrev pub MemberInRange : Type 0
MemberInRange = (p : Checked) (locals : List CType) (how : Use) (at : Place) (attr : Attr) (a : Expr) (index : ℕ) →
    MeetsExpr p locals how (typed.Is at attr (typed.Member a index)) →
    (number : ℕ) × (base_struct (base_of (attr_of a).ctype) ≡ Some number)
    × (index < length (members_of p.structs number))

-- A member after `->` is one of the struct that the expression before it leads to (C99 6.5.2.3).
abbrev pub MemberBehindInRange : Type 0
MemberBehindInRange = (p : Checked) (locals : List CType) (how : Use) (at : Place) (attr : Attr) (a : Expr)
    (index : ℕ) → MeetsExpr p locals how (typed.Is at attr (typed.MemberBehind a index)) →
    (t : CType) × (target (attr_of a) ≡ Some t) × (number : ℕ) × (base_struct (base_of t) ≡ Some number)
    × (index < length (members_of p.structs number))

-- A literal has a known value, which is in the range of its kind where it is no character; THREADS is, as there are at
-- most 32 threads (C99 6.4.4, UPC 6.3).
abbrev pub LiteralInRange : Type 0
LiteralInRange = (p : Checked) (locals : List CType) (how : Use) (at : Place) (attr : Attr) → p.threads ≤ 32 →
    MeetsExpr p locals how (typed.Is at attr typed.Literal) →
    (kind : Kind) × (v : ℕ) × (attr ≡ known kind (pos v)) × (InKind (pos v) kind
    ⊎ Judged p (rule_node.Character v) attr)

-- A struct that is complete where a node stands has the same members and the same layout at the end, so that the size
-- of what has one there does not change (C99 6.7.2.3).
abbrev pub LayoutsStay : Type 0
LayoutsStay = (all older : List Completed) (number : ℕ) → Earlier all older → complete_in older number ≡ true →
    (known_in all number ≡ known_in older number) × (members_in all number ≡ members_in older number)
