-- A node of the tree, and what its children are.
use Rattle.std.specs.Prelude.{ℕ, Bool, List, Option}
use Rattle.block_layout.specs.declared.kind.Kind.{Kind}
use Rattle.integers.specs.declared.operator.BinOp.{BinOp}
use Rattle.integers.specs.declared.operator.UnOp.{UnOp}
use Rattle.upc_types.specs.Types.{CType}
use Rattle.upc_types.specs.View as types
use Rattle.typing_rules.specs.declared.setting.SizeOperator.{SizeOperator}
use Rattle.typing_rules.specs.declared.setting.Enclosing.{Enclosing}
use Rattle.typing_rules.specs.declared.attribute.Constant.{Constant}
use Rattle.typing_rules.specs.declared.attribute.Form.{Form}
use Rattle.typing_rules.specs.declared.attribute.Attr as attr
use Rattle.typing_rules.specs.Meanings.{Meaning, Signature}

-- What an expression is to the node above it: its type, its form, and its value where it is constant.
pub record Attr : Type 0 where
  pub ctype : CType
  pub form : Form
  pub constant : Constant

-- What an expression is to the node above it, seen without where its type lies in memory.
abbrev pub view_attr : attr.Attr → Attr
view_attr a = record { ctype = types.view a.ctype; form = a.form; constant = a.constant }

-- What the node above does with an expression, seen through parentheses: it calls it, takes an element of it, takes its
-- size, prints by it as a format, converts it into a type, or, where it is plain, does anything else with it.
pub data Use : Type 0 where
  Plain : Use
  Called : Use
  Indexed : Use
  Measured : Use
  Prints : Use
  Into : (t : CType) → Use

-- A type name, or what a declarator declares: whether its specifiers and qualifiers form a type, the type, and its
-- array sizes, outermost first (C99 6.7.5, 6.7.6).
pub record Formed : Type 0 where
  pub forms : Bool
  pub ctype : CType
  pub sizes : List Constant

-- What a jump or a return stands in: the result of its function, what a `break` would leave, whether a loop is around
-- it, and whether it is in the body of a upc_forall (C99 6.8.6, UPC 6.6.2).
pub record Around : Type 0 where
  pub result : CType
  pub breaks : Enclosing
  pub loops : Bool
  pub forall : Bool

-- A node of the tree: a line of the grammar, with what the rules look at of its parts and of what is around it (C99 6.5
-- to 6.9; UPC 6.4 to 6.6).
pub data Node : Type 0 where
  -- expressions (C99 6.5)
  Name : (how : Use) (means : Meaning) → Node
  Number : (kind : Kind) (value : ℕ) → Node
  Character : (value : ℕ) → Node
  Strings : (how : Use) → Node
  Mythread : Node
  Threads : (threads : ℕ) → Node
  MaxBlockSize : Node
  Subscript : (how : Use) (a i : Attr) → Node
  Call : (how : Use) (means : Meaning) (runs : Bool) (format : Option (List ℕ)) (args : List Attr) → Node
  MemberOf : (a : Attr) (name : List ℕ) → Node
  MemberBehind : (a : Attr) (name : List ℕ) → Node
  Step : (a : Attr) → Node
  Address : (a : Attr) → Node
  Dereference : (a : Attr) → Node
  Unary : (op : UnOp) (a : Attr) → Node
  SizeOf : (op : SizeOperator) (a : Attr) → Node
  SizeOfType : (op : SizeOperator) (t : Formed) → Node
  Cast : (t : Formed) (a : Attr) → Node
  Binary : (op : BinOp) (a b : Attr) → Node
  And : (a b : Attr) → Node
  Or : (a b : Attr) → Node
  Assign : (a b : Attr) → Node
  Compound : (op : BinOp) (a b : Attr) → Node
  Conditional : (test a b : Attr) → Node
  Comma : (last : Attr) → Node
  -- a constant expression where one is asked for (C99 6.6), and the brackets of a layout (UPC 6.5.1.1)
  Constantly : (a : Attr) → Node
  Block : (a : Attr) → Node
  StarBlock : (declares : Bool) → Node
  -- declarations (C99 6.7, 6.9)
  Specifies : (forms : Bool) → Node
  Struct : (again : Bool) (members bytes : ℕ) → Node
  Member : (again : Bool) (t : Formed) → Node
  MemberFunction : (forms : Bool) (result : CType) → Node
  DeclaresObject : (again file : Bool) (t : Formed) → Node
  DeclaresFunction : (again forms : Bool) (signature : Signature) → Node
  Parameter : (again : Bool) (t : Formed) → Node
  InitialValue : (file object : Bool) (t : CType) (a : Attr) → Node
  InitialList : (file object : Bool) (t : CType) (values : List Attr) → Node
  Defines : (again differs forms : Bool) (signature : Signature) → Node
  File : (main : Bool) → Node
  -- statements (C99 6.8, UPC 6.6)
  Tests : (tests : List Attr) → Node
  Switch : (a : Attr) (labels : List Constant) (defaults : ℕ) → Node
  Affinity : (a : Attr) → Node
  Break : (around : Around) → Node
  Continue : (around : Around) → Node
  Returns : (around : Around) (a : Attr) → Node
  ReturnsNothing : (around : Around) → Node
  Barrier : (a : Attr) → Node
