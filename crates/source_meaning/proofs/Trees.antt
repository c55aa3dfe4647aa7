-- Typed trees by hand: what each expression is to the node above it is computed as the typing rules say.
use Rattle.std.specs.Prelude.{ℕ, ℤ, pos, true, false, List, [], ◌∷◌, codes, Some, None}
use Rattle.upc_text.specs.declared.place.Place.{Place}
use Rattle.block_layout.specs.declared.kind.Kind.TheVariants as kind
use Rattle.integers.specs.declared.operator.BinOp.{BinOp}
use Rattle.integers.specs.declared.operator.UnOp.TheVariants as un
use Rattle.upc_types.specs.declared.ctype.Access.TheVariants.{Unsaid, Strict}
use Rattle.upc_types.specs.Types.{CType, Qualified, Integer, Array, Pointer, Structs}
use Rattle.upc_values.specs.declared.library.LibraryCall.{LibraryCall}
use Rattle.typing_rules.specs.declared.setting.Home.{Home}
use Rattle.typing_rules.specs.declared.setting.Home.TheVariants as home
use Rattle.typing_rules.specs.Library.{int}
use Rattle.typing_rules.specs.Attributes.{Facts, attr, known, named, value}
use Rattle.typing_rules.specs.Meanings as m
use Rattle.typing_rules.specs.Nodes as n
use Rattle.typing_rules.specs.Nodes.{Attr}
use Rattle.typed_tree.specs.declared.tree.StepOperator.TheVariants.{IncrementAfter}
use Rattle.typed_tree.specs.declared.tree.Synchronises.TheVariants.{Notify, Barrier}
use Rattle.typed_tree.specs.declared.tree.Target.TheVariants as target
use Rattle.typed_tree.specs.Tree as t
use Rattle.typed_tree.specs.Tree.{Expr, Is, Exprs, NoExprs, AndExpr, attr_of, attrs_of, place_of, Initial, NoInitial}
use Rattle.typed_tree.specs.Tree.{InitialValue, InitialList, DeclaredObject, Head, Affinity, AtValue, Statement}
use Rattle.typed_tree.specs.Tree.{Stands, StatementKind, SwitchItems, Items, NoItems, AndObjects, AndStatement}
use Rattle.typed_tree.specs.Tree.{Function}
use Rattle.typed_tree.specs.Programs.{Checked}

-- No structs.
abbrev pub structs : Structs
structs = record { declared = 0; completed = []; targets = [] }

abbrev pub facts : Facts
facts = record { structs = structs; threads = 4 }

-- A place in line 1, and one for which nothing asks.
abbrev pub column : ℕ → Place
column n = record { line = 1; column = n }

abbrev pub here : Place
here = column 1

-- ---- types

abbrev pub shared_int : CType
shared_int = Qualified (Integer kind.Int) false (Some 1) Unsaid

abbrev pub strict_int : CType
strict_int = Qualified (Integer kind.Int) false (Some 1) Strict

abbrev pub ints : ℕ → CType
ints count = Qualified (Array shared_int count) false (Some 1) Unsaid

-- So many shared ints in blocks of so many.
abbrev pub blocked_ints : (block count : ℕ) → CType
blocked_ints block count =
    Qualified (Array (Qualified (Integer kind.Int) false (Some block) Unsaid) count) false (Some block) Unsaid

-- A pointer to shared ints in blocks of so many.
abbrev pub pointer_to_shared : (block : ℕ) → CType
pointer_to_shared block = Qualified (Pointer (Qualified (Integer kind.Int) false (Some block) Unsaid)) false None Unsaid

-- ---- expressions

abbrev pub num : ℤ → Expr
num v = Is here (known kind.Int v) t.Literal

abbrev pub mythread : Expr
mythread = Is here (attr facts n.Mythread) t.Mythread

abbrev pub object_at : Place → CType → Home → Expr
object_at at type home = Is at (named (m.Object type home)) (t.Object home)

abbrev pub home_of : ℕ → Home
home_of n = home.Local n

-- The n-th local int of a function.
abbrev pub local : ℕ → Expr
local n = object_at here int (home.Local n)

-- The n-th shared object of the file, from 1.
abbrev pub shared : CType → ℕ → Expr
shared type n = object_at here type (home.Shared n)

abbrev pub set : Expr → Expr → Expr
set a b = Is (place_of a) (attr facts (n.Assign (attr_of a) (attr_of b))) (t.Assign a b)

abbrev pub grown : Expr → Expr
grown a = Is (place_of a) (attr facts (n.Step (attr_of a))) (t.Step IncrementAfter a)

abbrev pub operation_at : Place → BinOp → Expr → Expr → Expr
operation_at at op a b = Is at (attr facts (n.Binary op (attr_of a) (attr_of b))) (t.Binary op a b)

abbrev pub operation : BinOp → Expr → Expr → Expr
operation op a b = operation_at here op a b

abbrev pub minus : Expr → Expr
minus a = Is here (attr facts (n.Unary un.Minus (attr_of a))) (t.Unary un.Minus a)

abbrev pub behind_pointer : Expr → Expr
behind_pointer a = Is here (attr facts (n.Dereference (attr_of a))) (t.Dereference a)

abbrev pub address_of : Expr → Expr
address_of a = Is here (attr facts (n.Address (attr_of a))) (t.Address a)

abbrev pub both : Expr → Expr → Expr
both a b = Is here (attr facts (n.And (attr_of a) (attr_of b))) (t.And a b)

abbrev pub element : Expr → Expr → Expr
element a i = Is (place_of a) (attr facts (n.Subscript n.Plain (attr_of a) (attr_of i))) (t.Subscript a i)

abbrev pub cast_into : CType → Expr → Expr
cast_into type a = Is here (attr facts (n.Cast (record { forms = true; ctype = type; sizes = [] }) (attr_of a)))
    (t.Cast a)

abbrev pub call_at : Place → ℕ → CType → Exprs → Expr
call_at at number result args = Is at (value result) (t.Call (target.Function number) args)

abbrev pub call_library : LibraryCall → CType → Exprs → Expr
call_library call result args = Is here (value result) (t.Call (target.Library call) args)

abbrev pub text : List ℕ → Expr
text bytes = Is here (attr facts (n.Strings n.Prints)) (t.Format bytes)

abbrev pub exprs : List Expr → Exprs
exprs [] = NoExprs
exprs (e ∷ es) = AndExpr e (exprs es)

abbrev pub compound : BinOp → Expr → Expr → Expr
compound op a b = Is (place_of a) (attr facts (n.Compound op (attr_of a) (attr_of b))) (t.Compound op a b)

abbrev pub choice : Expr → Expr → Expr → Expr
choice test a b =
    Is here (attr facts (n.Conditional (attr_of test) (attr_of a) (attr_of b))) (t.Conditional test a b)

abbrev pub comma : Expr → Expr → Expr
comma a b = Is (place_of a) (attr facts (n.Comma (attr_of b))) (t.Comma (exprs (a ∷ b ∷ [])))

-- ---- objects and statements

abbrev pub with_initial : Initial → ℕ → DeclaredObject
with_initial initial n = record { at = here; name = codes "x"; home = home.Local n; ctype = int; initial = initial }

-- The n-th local object of a type, with an initial value.
abbrev pub object_with : CType → ℕ → Expr → DeclaredObject
object_with type n value = record {
  at = here;
  name = codes "p";
  home = home.Local n;
  ctype = type;
  initial =
      InitialValue value;
}

-- The n-th local int, without an initialiser.
abbrev pub int_object : ℕ → DeclaredObject
int_object n = with_initial NoInitial n

abbrev pub shared_object : CType → ℕ → DeclaredObject
shared_object type n = record { at = here; name = codes "x"; home = home.Shared n; ctype = type; initial = NoInitial }

abbrev pub stands : StatementKind → Statement
stands kind = Stands here kind

abbrev pub does : Expr → Statement
does e = stands (t.Value (Some e))

abbrev pub gives : Expr → Statement
gives e = stands (t.Return (Some e))

abbrev pub items : List Statement → Items
items [] = NoItems
items (s ∷ ss) = AndStatement s (items ss)

abbrev pub block : List DeclaredObject → List Statement → Statement
block objects ss = stands (t.Block false (AndObjects objects (items ss)))

abbrev pub while_true : Statement → Statement
while_true body = stands (t.While (num (pos 1)) body)

abbrev pub switch_on : Expr → SwitchItems → Statement
switch_on e items = stands (t.Switch e items)

abbrev pub leaves : Statement
leaves = stands t.Break

abbrev pub do_while : Statement → Expr → Statement
do_while body test = stands (t.DoWhile body test)

abbrev pub for_loop : Head → Statement → Statement
for_loop head body = stands (t.For head body)

abbrev pub goes_on : Statement
goes_on = stands t.Continue

abbrev pub nothing : Statement
nothing = stands (t.Value None)

abbrev pub barrier_at : Place → Statement
barrier_at at = Stands at (t.Synchronise Barrier None)

abbrev pub if_so : Expr → Statement → Statement
if_so test body = stands (t.If (t.AndArm test body t.NoArms) t.NoStatement)

abbrev pub notify_at : Place → Statement
notify_at at = Stands at (t.Synchronise Notify None)

-- An array of so many ints of a function, with a list of initial values.
abbrev pub listed : (n count : ℕ) → List Expr → DeclaredObject
listed n count values = record {
  at = here;
  name = codes "a";
  home = home.Local n;
  ctype = Qualified (Array int count) false None Unsaid;
  initial = InitialList (exprs values);
}

abbrev pub local_array : (n count : ℕ) → Expr
local_array n count = object_at here (Qualified (Array int count) false None Unsaid) (home.Local n)

-- `for (first; test; step)`, without objects of its own.
abbrev pub head_of : Expr → Expr → Expr → Head
head_of first test step = record { objects = []; first = Some first; test = Some test; step = Some step }

abbrev pub for_all : Head → Expr → Statement → Statement
for_all head whose body = stands (t.Forall head (AtValue whose) body)

abbrev pub function : List ℕ → CType → Statement → Function
function name result body = record { at = here; name = name; result = result; parameters = []; body = body }

abbrev pub main : Statement → Function
main body = function (codes "main") int body

-- A program of so many threads with these shared objects and functions.
abbrev pub program : ℕ → List DeclaredObject → List Function → Checked
program threads objects functions = record {
  threads = threads;
  structs = structs;
  objects = objects;
  functions =
      functions;
}

-- The program with these structs.
abbrev pub with_structs : Structs → Checked → Checked
with_structs s x = record x { structs = s }
