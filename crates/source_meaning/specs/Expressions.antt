-- What an expression does and gives (C99 6.5, UPC 6.4).
use Rattle.std.specs.Prelude.{ℕ, ℤ, pos, neg_ℤ, ◌*ℤ◌, Bool, true, false, not, if◌then◌else◌}
use Rattle.std.specs.Prelude.{List, [], ◌∷◌, ◌++◌, map, Option, Some, None}
use Rattle.upc_text.specs.declared.place.Place.{Place}
use Rattle.block_layout.specs.declared.kind.Kind.{Kind}
use Rattle.block_layout.specs.declared.place.LocalPtr.TheVariants as local
use Rattle.integers.specs.declared.operator.BinOp.{BinOp}
use Rattle.integers.specs.declared.operator.BinOp.TheVariants as op
use Rattle.integers.specs.declared.operator.UnOp.{UnOp}
use Rattle.integers.specs.declared.operator.UnOp.TheVariants as un
use Rattle.upc_values.specs.declared.scalar.Value.{Value}
use Rattle.upc_values.specs.declared.scalar.Value.TheVariants.{Local}
use Rattle.upc_values.specs.declared.library.LibraryCall.{LibraryCall}
use Rattle.upc_values.specs.declared.library.LibraryCall.TheVariants.{Printf}
use Rattle.upc_types.specs.Types.{CType, Array, base_of}
use Rattle.upc_types.specs.Cells.{leaves}
use Rattle.integers.specs.Integers.{promoted}
use Rattle.typing_rules.specs.declared.setting.Home.{Home}
use Rattle.typing_rules.specs.declared.setting.Home.TheVariants as home
use Rattle.typing_rules.specs.declared.attribute.Form.TheVariants.{Lvalue}
use Rattle.typing_rules.specs.Library.{int, call_parameters, is_allocation}
use Rattle.typing_rules.specs.Constants.{working_kind, right_kind}
use Rattle.typing_rules.specs.Nodes.{Attr}
use Rattle.typed_tree.specs.declared.tree.StepOperator.{StepOperator}
use Rattle.typed_tree.specs.declared.tree.StepOperator.TheVariants as step
use Rattle.typed_tree.specs.declared.tree.Target.TheVariants as target
use Rattle.typed_tree.specs.Initials.{known_or_zero}
use Rattle.typed_tree.specs.Elements.{element_shape, number_among}
use Rattle.typed_tree.specs.Tree.{Expr, Is, ExprKind, Literal, Mythread, Object, Callee, Format, Paren, Subscript}
use Rattle.typed_tree.specs.Tree.{Call, Member, MemberBehind, Step, Address, Dereference, Unary, SizeOf, SizeOfType}
use Rattle.typed_tree.specs.Tree.{Cast, Binary, And, Or, Assign, Compound, Conditional, Comma, Exprs, NoExprs}
use Rattle.typed_tree.specs.Tree.{AndExpr, attr_of, place_of, attrs_of}
use Rattle.thread_steps.specs.declared.cast.CastTo.{CastTo}
use Rattle.thread_steps.specs.States.{Doing, ◌>>=◌, ◌>>◌, give, skip, choose}
use Rattle.thread_steps.specs.Values.{number, number_of, truth_value, is_zero}
use Rattle.thread_steps.specs.Accesses.{load, save}
use Rattle.thread_steps.specs.Library.{library, print}
use Rattle.thread_steps.specs.Pointers.{advance, in_row, member, difference, order, same}
use Rattle.thread_steps.specs.Operators.{operate, apply, cast}
use Rattle.thread_steps.specs.Blocks.{local_object}
use Rattle.source_meaning.specs.Types.{target_of, integer_of, is_strict, conversion, conversions}
use Rattle.source_meaning.specs.Types.{parameter_conversion, promotion, cell_kind, elements_of, member_offset}
use Rattle.source_meaning.specs.Running.{Running, shared_object, parameters_of}

-- What a call of a function does, by its number, with its arguments, at a place.
abbrev pub Calls : Type 0
Calls = ℕ → List Value → Place → Doing Value

-- The value 0, which stands for that of an expression that has none, as a call of a void function or the name of a
-- function; nothing uses it (C99 6.3.2.2).
abbrev pub no_value : Value
no_value = number (pos 0)

-- The type of an expression (C99 6.5).
abbrev pub type_of : Expr → CType
type_of e = (attr_of e).ctype

-- The types of some expressions, in order.
abbrev pub types_of : Exprs → List CType
types_of es = map (λ a. a.ctype) (attrs_of es)

-- Where an expression begins inside its parentheses, which is the place of a read of what it names (C99 6.5.1).
abbrev pub inner_place : Expr → Place
inner_place (Is at attr (Paren a)) = inner_place a
inner_place (Is at attr kind) = at

-- How many elements the array has that a subscript of an array of arrays names: a further subscript has to lie in this
-- dimension. No other expression has one (C99 6.2.5, 6.5.2.1).
abbrev pub dimension : Expr → Option ℕ
dimension (Is at attr (Paren a)) = dimension a
dimension (Is at attr (Subscript a i)) = elim (base_of attr.ctype) [ Array element count ↦ Some count | _ ↦ None ]
dimension e = None

-- The bytes of the format that an expression is, as the first argument of a printf, inside its parentheses; any other
-- expression has none (C99 7.19.6.1, 7.19.6.3).
abbrev pub format_of : Expr → List ℕ
format_of (Is at attr (Format bytes)) = bytes
format_of (Is at attr (Paren a)) = format_of a
format_of e = []

-- ---- steps that several constructs take

-- The value of a unary operator: of `!` by whether its operand is zero, of any other on an integer after promotion
-- (C99 6.5.3.3).
abbrev pub unary : Place → UnOp → Option Kind → Value → Doing Value
unary at un.Not kind v = give (truth_value (is_zero v))
unary at o (Some kind) v = apply o (promoted kind) at v
unary at o None v = give no_value

module _ (ρ : Running) where
  -- The place i objects of a type after another (C99 6.5.6, UPC 6.4.2).
  abbrev pub behind : Place → CType → Value → ℤ → Doing Value
  behind at t p i = advance ρ.thread (elements_of ρ.structs t) at p (i *ℤ pos (leaves (base_of t)))

  -- The value of a binary operator on two pointers to a type; the constant 0 may stand for one in an equality
  -- (C99 6.5.6, 6.5.8, 6.5.9).
  abbrev pub on_pointers : Place → BinOp → CType → Value → Value → Doing Value
  on_pointers at op.Subtract t x y = difference ρ.thread (elements_of ρ.structs t) at x y
  on_pointers at op.Equal t x y = same ρ.thread x y
  on_pointers at op.NotEqual t x y = do
    v ← same ρ.thread x y
    give (truth_value (is_zero v))
  on_pointers at o t x y = order ρ.thread o (elements_of ρ.structs t) at x y

  -- The value of a binary operator on two values, by the target of each that is a pointer and the kind of each that is
  -- an integer: of a pointer and an integer the sum, the difference, or an equality with the constant 0; of two
  -- integers after the usual arithmetic conversions (C99 6.3.1.8, 6.5.5 to 6.5.12).
  abbrev pub operated : Place → BinOp → (left right : Option CType) → (j k : Option Kind) → Value → Value → Doing Value
  operated at o (Some t) (Some u) j k x y = on_pointers at o t x y
  operated at o (Some t) None j k x y =
      let n = number_of y in
      elim o [ op.Add ↦ behind at t x n | op.Subtract ↦ behind at t x (neg_ℤ n) | other ↦ on_pointers at other t x y ]
  operated at o None (Some u) j k x y =
      elim o [ op.Add ↦ behind at u y (number_of x) | other ↦ on_pointers at other u x y ]
  operated at o None None (Some j) (Some k) x y = operate o (working_kind o j k) (right_kind o j k) at x y
  operated at o None None j k x y = give no_value

  -- The value of a binary operator on values of two types (C99 6.5.5 to 6.5.12).
  abbrev pub binary : Place → BinOp → (left right : CType) → Value → Value → Doing Value
  binary at o a b x y = operated at o (target_of a) (target_of b) (integer_of a) (integer_of b) x y

  -- The value of the object of a type at a place; what has no cell of its own, an array or a struct, has the place as
  -- its value (C99 6.3.2.1).
  abbrev pub held : Bool → Place → CType → Value → Doing Value
  held strict at t p =
      elim (cell_kind ρ.structs t) [ Some k ↦ load ρ.thread k (is_strict strict t) at p | None ↦ give p ]

  -- The object of a type at a place gets a new value; to what has no cell of its own, an array or a struct, nothing is
  -- written (C99 6.5.16).
  abbrev pub put : Bool → Place → CType → Value → Value → Doing (Unit {0})
  put strict at t p v =
      elim (cell_kind ρ.structs t) [ Some k ↦ save ρ.thread k (is_strict strict t) at p v | None ↦ skip ]

  -- Where a named object lies (C99 6.2.4, UPC 6.5.1).
  abbrev pub object : Home → Doing Value
  object (home.Private n) = give (Local (local.Private n (pos 0)))
  object (home.Shared n) = give (shared_object ρ n)
  object (home.Local n) = local_object n

  -- The operator by which `++` and `--` change their operand by 1 (C99 6.5.2.4, 6.5.3.1).
  abbrev pub step_operator : StepOperator → BinOp
  step_operator step.DecrementFirst = op.Subtract
  step_operator step.DecrementAfter = op.Subtract
  step_operator o = op.Add

  -- The value of an expression, converted into a type (C99 6.5.16.1).
  abbrev pub converted_to : CType → Expr → Doing Value → Doing Value
  converted_to t a v = do
    x ← v
    cast ρ.thread (conversion (type_of a) t) (place_of a) x

  -- 1 for a value that is not 0, else 0 (C99 6.5.13, 6.5.14).
  abbrev pub truth_after : Doing Value → Doing Value
  truth_after v = do
    x ← v
    give (truth_value (not (is_zero x)))

  -- ---- calls of the library (C99 7.19.6.3, UPC 7.2, 7.3)

  -- The number of the shape of the elements that an allocation makes, which are the leaf elements of what its pointer
  -- leads to; any other call has 0 (UPC 6.5.1.1, 7.2.2).
  abbrev pub allocated_shape : LibraryCall → CType → ℕ
  allocated_shape c t =
      if is_allocation c
      then elim (target_of t) [ Some u ↦ number_among ρ.thread.shapes (element_shape ρ.structs u) | None ↦ 0 ]
      else 0

  -- ---- expressions. In a block whose accesses are strict or not; `call` says what calls of functions do.
  module _ (call : Calls) (strict : Bool) where
    -- What expressions do and give, each by its parts (C99 6.5, UPC 6.4).
    abbrev mutual
      -- The value of an expression by what it gives: of an lvalue the value of the object at that place, of any other
      -- what it gives (C99 6.3.2.1, 6.5).
      pub value : Expr → Doing Value
      value (Is at attr kind) = do
        v ← given at attr kind
        choose (elim attr.form [ Lvalue constant ↦ true | _ ↦ false ])
            (held strict (inner_place (Is at attr kind)) attr.ctype v) (give v)

      -- Where the object lies that an expression names (C99 6.3.2.1).
      pub address : Expr → Doing Value
      address (Is at attr kind) = given at attr kind

      -- What an expression gives: the place of an object where it names one (C99 6.3.2.1), else its value.
      pub given : Place → Attr → ExprKind → Doing Value
      -- constants, and the number of the thread (C99 6.5.1, 6.5.3.4; UPC 6.4.1)
      given at attr Literal = give (number (known_or_zero attr.constant))
      given at attr Mythread = give (number (pos ρ.thread.number))
      given at attr (SizeOf o a) = give (number (known_or_zero attr.constant))
      given at attr (SizeOfType o t) = give (number (known_or_zero attr.constant))
      -- names and parentheses (C99 6.5.1)
      given at attr (Object home) = object home
      given at attr (Callee target) = give no_value
      given at attr (Format bytes) = give no_value
      given at attr (Paren a) = address a
      -- subscripts: a further one of an array of arrays lies in its dimension, or is a run error (C99 6.5.2.1, 6.5.6)
      given at attr (Subscript a i) = do
        p ← value a
        n ← value i
        q ← behind at attr.ctype p (number_of n)
        elim (dimension a) [ Some count ↦ in_row count at p (number_of n) | None ↦ skip ]
        give q
      -- calls (C99 6.5.2.2)
      given at attr (Call (target.Function n) args) = do
        vs ← arguments (conversions (types_of args) (parameters_of ρ n)) args []
        call n vs at
      given at attr (Call (target.Library c) args) =
          choose (elim c [ Printf ↦ true | _ ↦ false ]) (printed args) (do
            vs ← arguments (map parameter_conversion (call_parameters c)) args []
            library ρ.thread c (allocated_shape c attr.ctype) at vs)
      -- members (C99 6.5.2.3, UPC 6.4.4)
      given at attr (Member a index) = do
        p ← address a
        member ρ.thread (member_offset ρ.structs (type_of a) index) at p
      given at attr (MemberBehind a index) = do
        p ← value a
        member ρ.thread (elim (target_of (type_of a)) [ Some t ↦ member_offset ρ.structs t index | None ↦ 0 ]) at p
      -- ++ and --: before their operand they give its new value, after it the old one (C99 6.5.2.4, 6.5.3.1)
      given at attr (Step o a) = do
        p ← address a
        v ← held strict at (type_of a) p
        w ← binary at (step_operator o) (type_of a) int v (number (pos 1))
        u ← cast ρ.thread (conversion (type_of a) (type_of a)) at w
        put strict at (type_of a) p u
        give (elim o [ step.IncrementFirst ↦ u | step.DecrementFirst ↦ u | _ ↦ v ])
      -- & and * (C99 6.5.3.2)
      given at attr (Address a) = address a
      given at attr (Dereference a) = value a
      -- + - ~ ! (C99 6.5.3.3)
      given at attr (Unary o a) = do
        v ← value a
        unary at o (integer_of (type_of a)) v
      -- casts (C99 6.5.4, UPC 6.4.3)
      given at attr (Cast a) = do
        v ← value a
        cast ρ.thread (conversion (type_of a) attr.ctype) at v
      -- * / % + - << >> < > <= >= == != & ^ | (C99 6.5.5 to 6.5.12)
      given at attr (Binary o a b) = do
        x ← value a
        y ← value b
        binary at o (type_of a) (type_of b) x y
      -- && and || (C99 6.5.13, 6.5.14)
      given at attr (And a b) = do
        x ← value a
        choose (is_zero x) (give (truth_value false)) (truth_after (value b))
      given at attr (Or a b) = do
        x ← value a
        choose (is_zero x) (truth_after (value b)) (give (truth_value true))
      -- ? : (C99 6.5.15)
      given at attr (Conditional test a b) = do
        t ← value test
        choose (is_zero t) (converted_to attr.ctype b (value b)) (converted_to attr.ctype a (value a))
      -- = (C99 6.5.16.1)
      given at attr (Assign a b) = do
        p ← address a
        w ← converted_to (type_of a) b (value b)
        put strict at (type_of a) p w
        give w
      -- *= /= %= += -= <<= >>= &= ^= |= (C99 6.5.16.2)
      given at attr (Compound o a b) = do
        p ← address a
        y ← value b
        x ← held strict at (type_of a) p
        z ← binary at o (type_of a) (type_of b) x y
        w ← cast ρ.thread (conversion (type_of a) (type_of a)) at z
        put strict at (type_of a) p w
        give w
      -- , (C99 6.5.17)
      given at attr (Comma parts) = last no_value parts

      -- A call of printf: the arguments after its format are promoted, and their text is printed (C99 6.5.2.2,
      -- 7.19.6.3).
      pub printed : Exprs → Doing Value
      printed NoExprs = give no_value
      printed (AndExpr format more) = do
        vs ← arguments (map promotion (types_of more)) more []
        print ρ.thread (format_of format) vs

      -- The values of arguments, from left to right and each with its conversion, after those that are there already
      -- (C99 6.5.2.2).
      pub arguments : List CastTo → Exprs → List Value → Doing (List Value)
      arguments (c ∷ cs) (AndExpr a more) before = do
        v ← value a
        w ← cast ρ.thread c (place_of a) v
        arguments cs more (before ++ (w ∷ []))
      arguments cs args before = give before

      -- The value of the last of some expressions, which are evaluated in order (C99 6.5.17).
      pub last : Value → Exprs → Doing Value
      last v NoExprs = give v
      last v (AndExpr a more) = do
        w ← value a
        last w more
