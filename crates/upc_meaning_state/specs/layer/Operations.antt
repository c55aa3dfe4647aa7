-- Operators of expressions whose operands have their values (C99 6.5).
use Rattle.std.specs.Prelude.{ℕ, ℤ, pos, Bool, Option}
use Rattle.upc_text.specs.declared.place.Place.{Place}
use Rattle.integers.specs.declared.operator.BinOp.{BinOp}
use Rattle.upc_values.specs.declared.scalar.Value.{Value}
use Rattle.upc_types.specs.Types.{CType}
use Rattle.typing_rules.specs.Library.{int}
use Rattle.typing_rules.specs.Nodes.{Attr}
use Rattle.typed_tree.specs.declared.tree.StepOperator.{StepOperator}
use Rattle.typed_tree.specs.Tree as tree
use Rattle.typed_tree.specs.Tree.{Expr, Is, ExprKind, place_of}
use Rattle.thread_steps.specs.declared.cast.CastTo.{CastTo}
use Rattle.thread_steps.specs.States.{Doing, ◌>>=◌, ◌>>◌, give}
use Rattle.thread_steps.specs.Values.{number, number_of}
use Rattle.thread_steps.specs.Pointers.{member}
use Rattle.thread_steps.specs.Operators.{cast}
use Rattle.source_meaning.specs.Types.{target_of, integer_of, conversion, member_offset}
use Rattle.source_meaning.specs.Running.{Running}
use Rattle.source_meaning.specs.Expressions.{behind, unary, binary, held, put, step_operator}
use Rattle.source_meaning.specs.layer.Parts.{step_value, within_row, target_offset}
use Rattle.source_meaning.specs.Expressions.{type_of, dimension}

module _ (ρ : Running) where
  -- The place that a subscript names, whose index may have to lie in a dimension (C99 6.5.2.1).
  abbrev pub subscript : Place → CType → Option ℕ → Value → ℤ → Doing Value
  subscript at t count p i = do
    q ← behind ρ at t p i
    within_row at p i count
    give q

  -- A value, converted, becomes that of the object at a place, and is given (C99 6.5.16.1).
  abbrev pub put_cast : Bool → Place → CastTo → Place → CType → (p v : Value) → Doing Value
  put_cast strict at into there t p v = do
    w ← cast ρ.thread into there v
    put ρ strict at t p w
    give w

  -- A compound assignment to the object at a place, with the value of its right operand (C99 6.5.16.2).
  abbrev pub compound : Bool → Place → BinOp → (left right : CType) → (p y : Value) → Doing Value
  compound strict at o t u p y = do
    x ← held ρ strict at t p
    z ← binary ρ at o t u x y
    put_cast strict at (conversion t t) at t p z

  -- A `++` or `--` of the object at a place (C99 6.5.2.4, 6.5.3.1).
  abbrev pub step : Bool → Place → StepOperator → CType → Value → Doing Value
  step strict at o t p = do
    v ← held ρ strict at t p
    w ← binary ρ at (step_operator ρ o) t int v (number (pos 1))
    u ← put_cast strict at (conversion t t) at t p w
    give (step_value v u o)

  -- What the operator of an expression of this kind gives, where its operands have these values; one operand is the
  -- second (C99 6.5).
  abbrev pub operated_by : Bool → Place → Attr → ExprKind → (x y : Value) → Doing Value
  operated_by strict at attr (tree.Subscript a i) p n =
      subscript at attr.ctype (dimension a) p (number_of n)
  operated_by strict at attr (tree.Member a index) x p =
      member ρ.thread (member_offset ρ.structs (type_of a) index) at p
  operated_by strict at attr (tree.MemberBehind a index) x p =
      member ρ.thread (target_offset ρ.structs index (target_of (type_of a))) at p
  operated_by strict at attr (tree.Step o a) x p = step strict at o (type_of a) p
  operated_by strict at attr (tree.Unary o a) x v = unary at o (integer_of (type_of a)) v
  operated_by strict at attr (tree.Cast a) x v = cast ρ.thread (conversion (type_of a) attr.ctype) at v
  operated_by strict at attr (tree.Binary o a b) x y = binary ρ at o (type_of a) (type_of b) x y
  operated_by strict at attr (tree.Assign a b) p x =
      put_cast strict at (conversion (type_of b) (type_of a)) (place_of b) (type_of a) p x
  operated_by strict at attr (tree.Compound o a b) p y = compound strict at o (type_of a) (type_of b) p y
  operated_by strict at attr kind x y = give y

  -- What the operator of an expression gives, where its operands have these values; one operand is the second
  -- (C99 6.5).
  abbrev pub operated : Bool → Expr → (x y : Value) → Doing Value
  operated strict (Is at attr kind) x y = operated_by strict at attr kind x y
