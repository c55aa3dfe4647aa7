-- Words of what a typed tree says of itself: how parts of expressions are used, what stands around statements, and
-- which function is main.
use Rattle.std.specs.Prelude.{ℕ, nat_eq, ℤ, pos, Bool, true, false, ◌&&◌, List, [], ◌∷◌, map, Option, Some, None}
use Rattle.std.specs.Cmp.Lexicographic.{pointwise}
use Rattle.block_layout.specs.declared.kind.Kind.{Kind}
use Rattle.block_layout.specs.declared.kind.Kind.TheVariants as kind
use Rattle.upc_values.specs.declared.library.LibraryCall.TheVariants.{Printf}
use Rattle.upc_types.specs.Types.{CType, Base, Integer, base_of}
use Rattle.typing_rules.specs.declared.setting.Enclosing.TheVariants as enclosing
use Rattle.typing_rules.specs.declared.attribute.Constant.{Constant}
use Rattle.typing_rules.specs.declared.attribute.Constant.TheVariants.{Known}
use Rattle.typing_rules.specs.Meanings as meanings
use Rattle.typing_rules.specs.Meanings.{Meaning}
use Rattle.typing_rules.specs.Nodes as nodes
use Rattle.typing_rules.specs.Nodes.{Attr, Use, Around}
use Rattle.typing_rules.specs.Rules.{label_kind}
use Rattle.typed_tree.specs.Tree as typed_nodes
use Rattle.typed_tree.specs.Tree.{ExprKind, Exprs, Function, attr_of}

-- ---- uses of expressions

-- How the arguments of a call are used, where more than their values is taken: those of a function of the source are
-- converted into the types of its parameters, and the first of a printf is its format (C99 6.5.2.2, 7.19.6.3).
abbrev pub uses_by : Meaning → List Use
uses_by (meanings.Function signature) = map nodes.Into signature.parameters
uses_by (meanings.Library Printf) = nodes.Prints ∷ []
uses_by meaning = []

-- How the first of some expressions is used; where nothing is said of it, its value is taken.
abbrev pub first_use : List Use → Use
first_use [] = nodes.Plain
first_use (u ∷ us) = u

-- How the expressions after the first are used.
abbrev pub later_uses : List Use → List Use
later_uses [] = []
later_uses (u ∷ us) = us

-- How a value of an initialiser list is used: it is converted into the type of an element, if there is one (C99 6.7.8).
abbrev pub element_use : Option CType → Use
element_use None = nodes.Plain
element_use (Some t) = nodes.Into t

-- ---- parts of expressions

-- The text of an expression that is a string, seen through parentheses.
abbrev mutual
  -- The text of an expression where it is a string, in parentheses or not; another expression has none (C99 6.4.5,
  -- 6.5.1).
  pub text_in : typed_nodes.Expr → Option (List ℕ)
  text_in (typed_nodes.Is place attr kind) = text_of kind

  -- The text of what an expression consists of where that is a string, in parentheses or not; else there is none
  -- (C99 6.4.5, 6.5.1).
  pub text_of : ExprKind → Option (List ℕ)
  text_of (typed_nodes.Format bytes) = Some bytes
  text_of (typed_nodes.Paren a) = text_in a
  text_of x = None

-- The format among the arguments of a call: the text of the first, where that is a string (C99 7.19.6.3).
abbrev pub format_in : Exprs → Option (List ℕ)
format_in typed_nodes.NoExprs = None
format_in (typed_nodes.AndExpr a more) = text_in a

-- What the last of these expressions is to the node above it, of which there is at least one (C99 6.5.17).
abbrev pub last_of : typed_nodes.Expr → Exprs → Attr
last_of x typed_nodes.NoExprs = attr_of x
last_of x (typed_nodes.AndExpr y more) = last_of y more

-- ---- what stands around a statement

-- What stands around the body of a loop, which a `break` or a `continue` there may leave (C99 6.8.6.2, 6.8.6.3).
abbrev pub in_loop : Around → Around
in_loop c = record { result = c.result; breaks = enclosing.Loop; loops = true; forall = c.forall }

-- What stands around the body of a `switch`, which a `break` there may leave (C99 6.8.6.3).
abbrev pub in_switch : Around → Around
in_switch c = record { result = c.result; breaks = enclosing.Switch; loops = c.loops; forall = c.forall }

-- What stands around the body of a upc_forall, which a `continue` there may leave, and neither a `break` nor a `return`
-- (UPC 6.6.2).
abbrev pub in_forall : Around → Around
in_forall c = record { result = c.result; breaks = enclosing.Forall; loops = true; forall = true }

-- What a condition is to its statement, where there is one.
abbrev pub tests_of : Option typed_nodes.Expr → List Attr
tests_of None = []
tests_of (Some a) = attr_of a ∷ []

-- The value with which a `case` compares: that of its constant in the promoted kind of the `switch`, and 0 where it is
-- no integer constant (C99 6.8.4.2).
abbrev pub label_value : Option Kind → Constant → ℤ
label_value kind (Known v) = label_kind kind v
label_value kind other = pos 0

-- ---- main

-- The bytes of the name `main` (C99 5.1.2.2.1).
abbrev pub main_text : List ℕ
main_text = 109 ∷ 97 ∷ 105 ∷ 110 ∷ []

-- Whether a type is int.
abbrev pub is_int_base : Base → Bool
is_int_base (Integer kind.Int) = true
is_int_base b = false

-- Whether a list has no member.
abbrev pub is_empty : {A : Type 0} → List A → Bool
is_empty [] = true
is_empty (x ∷ xs) = false

-- Whether a function is main: it has this name and no parameters, and gives an int (C99 5.1.2.2.1).
abbrev pub is_main_function : Function → Bool
is_main_function f = pointwise nat_eq f.name main_text && (is_int_base (base_of f.result) && is_empty f.parameters)
