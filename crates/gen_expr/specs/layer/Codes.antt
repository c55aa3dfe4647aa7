-- The code of expressions: which instructions do what an expression does (C99 6.5, UPC 6.4). Each construct's code
-- leaves one operand, its value; of what names an object it is the place, where `address_code` says so.
use Rattle.std.specs.Prelude.{ℕ, suc, ◌+◌, pos, Bool, true, false, if◌then◌else◌, List, [], ◌∷◌, ◌++◌, length, map}
use Rattle.std.specs.Prelude.{Option, Some, None}
use Rattle.upc_text.specs.declared.place.Place.{Place}
use Rattle.block_layout.specs.declared.kind.Kind.{Kind}
use Rattle.block_layout.specs.declared.place.LocalPtr.TheVariants as local
use Rattle.integers.specs.declared.operator.BinOp.{BinOp}
use Rattle.integers.specs.declared.operator.BinOp.TheVariants as op
use Rattle.integers.specs.declared.operator.UnOp.{UnOp}
use Rattle.integers.specs.declared.operator.UnOp.TheVariants as un
use Rattle.upc_values.specs.declared.scalar.Value.{Value}
use Rattle.upc_values.specs.declared.scalar.Value.TheVariants as value
use Rattle.upc_types.specs.Types.{CType, base_of}
use Rattle.upc_types.specs.Cells.{leaves}
use Rattle.integers.specs.Integers.{promoted}
use Rattle.typing_rules.specs.declared.setting.Home.{Home}
use Rattle.typing_rules.specs.declared.setting.Home.TheVariants as home
use Rattle.typing_rules.specs.Library.{int, call_parameters}
use Rattle.typing_rules.specs.Constants.{working_kind, right_kind}
use Rattle.typing_rules.specs.Nodes.{Attr}
use Rattle.typed_tree.specs.declared.tree.StepOperator.{StepOperator}
use Rattle.typed_tree.specs.declared.tree.StepOperator.TheVariants as step
use Rattle.typed_tree.specs.declared.tree.Target.TheVariants as target
use Rattle.typed_tree.specs.Initials.{known_or_zero}
use Rattle.typed_tree.specs.Tree.{Expr, Is, ExprKind, Literal, Mythread, Object, Callee, Format, Paren, Subscript}
use Rattle.typed_tree.specs.Tree.{Call, Member, MemberBehind, Step, Address, Dereference, Unary, SizeOf, SizeOfType}
use Rattle.typed_tree.specs.Tree.{Cast, Binary, And, Or, Assign, Compound, Conditional, Comma, Exprs, NoExprs}
use Rattle.typed_tree.specs.Tree.{AndExpr, place_of}
use Rattle.thread_steps.specs.declared.cast.CastTo.{CastTo}
use Rattle.thread_steps.specs.declared.cast.CastTo.TheVariants as to
use Rattle.thread_steps.specs.Values.{number, truth_value}
use Rattle.source_meaning.specs.Types.{target_of, integer_of, is_strict, conversion, conversions}
use Rattle.source_meaning.specs.Types.{parameter_conversion, promotion, cell_kind, elements_of, member_offset}
use Rattle.source_meaning.specs.Running.{shared_object, parameters_of}
use Rattle.source_meaning.specs.Expressions.{no_value, type_of, types_of, inner_place, dimension}
use Rattle.source_meaning.specs.layer.Parts.{is_lvalue, is_printf, target_offset}
use Rattle.source_meaning.specs.Expressions.{format_of, allocated_shape}
use Rattle.stack_code.specs.declared.instruction.StackWork.{StackWork}
use Rattle.stack_code.specs.declared.instruction.StackWork.TheVariants as stack
use Rattle.stack_code.specs.declared.instruction.ValueWork.{ValueWork}
use Rattle.stack_code.specs.declared.instruction.ValueWork.TheVariants as make
use Rattle.stack_code.specs.declared.instruction.ObjectWork.TheVariants as cell
use Rattle.stack_code.specs.declared.instruction.Jump.{Jump}
use Rattle.stack_code.specs.declared.instruction.Jump.TheVariants as jump
use Rattle.stack_code.specs.declared.instruction.CallWork.TheVariants as call
use Rattle.stack_code.specs.declared.instruction.ThreadWork.TheVariants as thread
use Rattle.stack_code.specs.declared.instruction.Operation.{Operation}
use Rattle.stack_code.specs.declared.instruction.Operation.TheVariants as work
use Rattle.stack_code.specs.declared.instruction.Instr.{Instr}
use Rattle.gen_expr.specs.layer.Sources.{Source, running_of}

-- ---- instructions at a place of the source

-- An instruction that does this work at a place of the source.
abbrev pub instruction : Place → Operation → Instr
instruction at w = record { place = at; does = w }

-- An instruction at a place of the source that works on the stack alone.
abbrev pub stacks : Place → StackWork → Instr
stacks at w = record { place = at; does = work.Stack w }

-- An instruction at a place of the source that makes a value of values.
abbrev pub makes : Place → ValueWork → Instr
makes at w = record { place = at; does = work.Value w }

-- An instruction at a place of the source that jumps within its function.
abbrev pub jumps : Place → Jump → Instr
jumps at w = record { place = at; does = work.Way w }

-- An instruction that pushes a value.
abbrev pub pushes : Place → Value → Instr
pushes at v = stacks at (stack.Push v)

-- An instruction that converts the value on top (C99 6.3, 6.5.4; UPC 6.4.3).
abbrev pub casts : Place → CastTo → Instr
casts at into = makes at (make.Cast into)

-- An instruction that reads the cell of this kind at the place on top, strict or relaxed (C99 6.3.2.1, UPC 6.5.1.1).
abbrev pub loads : Place → Kind → Bool → Instr
loads at kind strict = record { place = at; does = work.Object (cell.Load (record { kind = kind; strict = strict })) }

-- An instruction that writes the value on top to the cell of this kind at the place below it, strict or relaxed
-- (C99 6.5.16, UPC 6.5.1.1).
abbrev pub saves : Place → Kind → Bool → Instr
saves at kind strict = record { place = at; does = work.Object (cell.Save (record { kind = kind; strict = strict })) }

-- The code of a test and two parts, of which the first is done where the test is not 0, else the second (C99 6.5.13 to
-- 6.5.15).
abbrev pub either_code : Place → (test first second : List Instr) → List Instr
either_code at test first second =
    test
    ++ (jumps at (jump.SkipIfZero (length first + 1))
    ∷ (first ++ (jumps at (jump.GoOn (length second)) ∷ second)))

-- The code that puts 0 in the place of the two values on top, where an operator has none for their types.
abbrev pub no_value_code : Place → List Instr
no_value_code at = stacks at stack.Pop ∷ (stacks at stack.Pop ∷ (pushes at no_value ∷ []))

-- The code that removes the operand below the top.
abbrev pub under_code : Place → List Instr
under_code at = stacks at stack.Swap ∷ (stacks at stack.Pop ∷ [])

-- The code of whether the two pointers on top are not equal (C99 6.5.9).
abbrev pub different_code : Place → List Instr
different_code at = makes at make.Same ∷ (stacks at stack.Not ∷ [])

-- The code of a unary operator on the value on top (C99 6.5.3.3).
abbrev pub unary_code : Place → UnOp → Option Kind → List Instr
unary_code at un.Not kind = stacks at stack.Not ∷ []
unary_code at o (Some kind) = makes at (make.Apply o (promoted kind)) ∷ []
unary_code at o None = stacks at stack.Pop ∷ (pushes at no_value ∷ [])

-- The code of a binary operator on the two integers on top, after the usual arithmetic conversions (C99 6.3.1.8, 6.5.5
-- to 6.5.12).
abbrev pub integers_code : Place → BinOp → (left right : Option Kind) → List Instr
integers_code at o (Some j) (Some k) = makes at (make.Operate o (working_kind o j k) (right_kind o j k)) ∷ []
integers_code at o j k = no_value_code at

-- How many arguments have a conversion, which are those that are evaluated.
abbrev pub arguments_count : List CastTo → Exprs → ℕ
arguments_count (c ∷ cs) (AndExpr a more) = 1 + arguments_count cs more
arguments_count cs args = 0

-- The code of what a part does, from the code of its value: that value is removed.
abbrev pub popped_code : Place → (value : List Instr) → List Instr
popped_code at value = value ++ (stacks at stack.Pop ∷ [])

-- The code of a conversion for what it does alone, from that of its operand and of its value: into void it does only
-- what its operand does, and any other conversion may be a run error (C99 6.3.2.2, 6.5.4).
abbrev pub cast_effect_code : Place → CastTo → (operand value : List Instr) → List Instr
cast_effect_code at to.Nothing operand value = operand
cast_effect_code at into operand value = popped_code at value

module _ (ς : Source) where
  -- The code of a pointer plus the integer on top of it: the place so many objects of a type after it (C99 6.5.6,
  -- UPC 6.4.2).
  abbrev pub advance_code : Place → CType → List Instr
  advance_code at t = makes at (make.Advance (elements_of ς.structs t) (leaves (base_of t))) ∷ []

  -- The code of a pointer minus the integer on top of it: the place so many objects of a type before it (C99 6.5.6,
  -- UPC 6.4.2).
  abbrev pub retreat_code : Place → CType → List Instr
  retreat_code at t = makes at (make.Retreat (elements_of ς.structs t) (leaves (base_of t))) ∷ []

  -- The code of a binary operator on two pointers to a type (C99 6.5.6, 6.5.8, 6.5.9).
  abbrev pub on_pointers_code : Place → BinOp → CType → List Instr
  on_pointers_code at op.Subtract t = makes at (make.Difference (elements_of ς.structs t)) ∷ []
  on_pointers_code at op.Equal t = makes at make.Same ∷ []
  on_pointers_code at op.NotEqual t = different_code at
  on_pointers_code at o t = makes at (make.Order o (elements_of ς.structs t)) ∷ []

  -- The code of a binary operator on a pointer to a type and an integer: the sum or the difference, or an equality with
  -- the constant 0 (C99 6.5.6, 6.5.9).
  abbrev pub on_pointer_code : Place → BinOp → CType → List Instr
  on_pointer_code at op.Add t = advance_code at t
  on_pointer_code at op.Subtract t = retreat_code at t
  on_pointer_code at o t = on_pointers_code at o t

  -- The code of a binary operator on an integer and a pointer to a type: the sum, or an equality with the constant 0
  -- (C99 6.5.6, 6.5.9).
  abbrev pub before_pointer_code : Place → BinOp → CType → List Instr
  before_pointer_code at op.Add t = stacks at stack.Swap ∷ advance_code at t
  before_pointer_code at o t = on_pointers_code at o t

  -- The code of a binary operator on the two values on top, by the target of each that is a pointer and the kind of
  -- each that is an integer (C99 6.5.5 to 6.5.12).
  abbrev pub operated_code : Place → BinOp → (left right : Option CType) → (j k : Option Kind) → List Instr
  operated_code at o (Some t) (Some u) j k = on_pointers_code at o t
  operated_code at o (Some t) None j k = on_pointer_code at o t
  operated_code at o None (Some u) j k = before_pointer_code at o u
  operated_code at o None None j k = integers_code at o j k

  -- The code of a binary operator on the two values on top, by their types (C99 6.5.5 to 6.5.12).
  abbrev pub binary_code : Place → BinOp → (left right : CType) → List Instr
  binary_code at o a b = operated_code at o (target_of a) (target_of b) (integer_of a) (integer_of b)

  -- The code of the value of the cell of this kind at the place on top; what has no cell of its own, an array or a
  -- struct, has the place as its value (C99 6.3.2.1, UPC 6.5.1.1).
  abbrev pub loaded_code : Bool → Place → CType → Option Kind → List Instr
  loaded_code strict at t (Some kind) = loads at kind (is_strict strict t) ∷ []
  loaded_code strict at t None = []

  -- The code of the value of the object of a type at the place on top (C99 6.3.2.1).
  abbrev pub held_code : Bool → Place → CType → List Instr
  held_code strict at t = loaded_code strict at t (cell_kind ς.structs t)

  -- The code that writes the value on top to the cell of this kind at the place below it; for what has no cell of its
  -- own that place is removed. The value stays (C99 6.5.16, UPC 6.5.1.1).
  abbrev pub saved_code : Bool → Place → CType → Option Kind → List Instr
  saved_code strict at t (Some kind) = saves at kind (is_strict strict t) ∷ []
  saved_code strict at t None = under_code at

  -- The code by which the object of a type at the place below the top gets the value on top, which stays (C99 6.5.16).
  abbrev pub put_code : Bool → Place → CType → List Instr
  put_code strict at t = saved_code strict at t (cell_kind ς.structs t)

  -- The code that follows an expression whose value is wanted: an lvalue is read (C99 6.3.2.1).
  abbrev pub value_in_code : Bool → Place → Attr → List Instr
  value_in_code strict at attr = if is_lvalue attr.form then held_code strict at attr.ctype else []

  -- The code of where a named object lies (C99 6.2.4, UPC 6.5.1).
  abbrev pub object_code : Place → Home → List Instr
  object_code at (home.Private n) = pushes at (value.Local (local.Private n (pos 0))) ∷ []
  object_code at (home.Shared n) = pushes at (shared_object (running_of ς) n) ∷ []
  object_code at (home.Local n) = record { place = at; does = work.Object (cell.Local n) } ∷ []

  -- The code of the place that a subscript names, from the pointer and the index on top; where the pointer is a row of
  -- an array of arrays the index must lie in it (C99 6.5.2.1).
  abbrev pub subscript_code : Place → CType → Option ℕ → List Instr
  subscript_code at t None = advance_code at t
  subscript_code at t (Some count) =
      stacks at stack.Over
      ∷ (stacks at stack.Over ∷ (advance_code at t ++ (makes at (make.InRow count) ∷ [])))

  -- The code by which the object of a type at the place below the top gets the value on top, converted into that type
  -- first (C99 6.5.16.2).
  abbrev pub again_code : Bool → Place → CType → List Instr
  again_code strict at t = casts at (conversion t t) ∷ put_code strict at t

  -- The code of `++` or `--` before its operand, from the place on top: the new value stays (C99 6.5.3.1).
  abbrev pub first_step_code : Bool → Place → BinOp → CType → List Instr
  first_step_code strict at o t =
      stacks at stack.Copy
      ∷ (held_code strict at t
      ++ (pushes at (number (pos 1))
      ∷ (binary_code at o t int ++ again_code strict at t)))

  -- The code of `++` or `--` after its operand, from the place on top: the old value stays (C99 6.5.2.4).
  abbrev pub after_step_code : Bool → Place → BinOp → CType → List Instr
  after_step_code strict at o t =
      stacks at stack.Copy
      ∷ (held_code strict at t
      ++ (stacks at stack.Swap
      ∷ (stacks at stack.Over
      ∷ (pushes at (number (pos 1))
      ∷ (binary_code at o t int ++ (again_code strict at t ++ (stacks at stack.Pop ∷ [])))))))

  -- The code of `++` or `--`, from the place on top, by whether it stands before its operand or after it (C99 6.5.2.4,
  -- 6.5.3.1).
  abbrev pub step_code : Bool → Place → StepOperator → CType → List Instr
  step_code strict at step.IncrementFirst t = first_step_code strict at op.Add t
  step_code strict at step.DecrementFirst t = first_step_code strict at op.Subtract t
  step_code strict at step.IncrementAfter t = after_step_code strict at op.Add t
  step_code strict at step.DecrementAfter t = after_step_code strict at op.Subtract t

  -- The code of `++` or `--` for what it does alone, from the place on top: neither value stays (C99 6.5.2.4, 6.5.3.1).
  abbrev pub plain_step_code : Bool → Place → BinOp → CType → List Instr
  plain_step_code strict at o t =
      stacks at stack.Copy
      ∷ (held_code strict at t
      ++ (pushes at (number (pos 1))
      ∷ (binary_code at o t int ++ (again_code strict at t ++ (stacks at stack.Pop ∷ [])))))

  -- The same, by its operator.
  abbrev pub step_effect_code : Bool → Place → StepOperator → CType → List Instr
  step_effect_code strict at step.IncrementFirst t = plain_step_code strict at op.Add t
  step_effect_code strict at step.DecrementFirst t = plain_step_code strict at op.Subtract t
  step_effect_code strict at step.IncrementAfter t = plain_step_code strict at op.Add t
  step_effect_code strict at step.DecrementAfter t = plain_step_code strict at op.Subtract t

  -- The code of a compound assignment, from the place of its left operand and the value of the right one on top
  -- (C99 6.5.16.2).
  abbrev pub compound_code : Bool → Place → BinOp → (left right : CType) → List Instr
  compound_code strict at o t u =
      stacks at stack.Over
      ∷ (held_code strict at t
      ++ (stacks at stack.Swap ∷ (binary_code at o t u ++ again_code strict at t)))

  -- In a block whose accesses are strict or not.
  module _ (strict : Bool) where
    -- The code of expressions and of their parts, in a block whose accesses are strict or not (C99 6.5, UPC 6.4).
    abbrev mutual
      -- The code of the value of an expression (C99 6.5).
      pub value_code : Expr → List Instr
      value_code (Is at attr kind) = given_code at attr kind ++ value_in_code strict
          (inner_place (Is at attr kind)) attr

      -- The code of the place of the object that an expression names (C99 6.3.2.1).
      pub address_code : Expr → List Instr
      address_code (Is at attr kind) = given_code at attr kind

      -- The code of what an expression gives: a place where it names an object, else its value (C99 6.3.2.1, 6.5).
      pub given_code : Place → Attr → ExprKind → List Instr
      -- constants, and the number of the thread (C99 6.5.1, 6.5.3.4; UPC 6.4.1)
      given_code at attr Literal = pushes at (number (known_or_zero attr.constant)) ∷ []
      given_code at attr Mythread = stacks at stack.Me ∷ []
      given_code at attr (SizeOf o a) = pushes at (number (known_or_zero attr.constant)) ∷ []
      given_code at attr (SizeOfType o t) = pushes at (number (known_or_zero attr.constant)) ∷ []
      -- names and parentheses (C99 6.5.1)
      given_code at attr (Object home) = object_code at home
      given_code at attr (Callee target) = pushes at no_value ∷ []
      given_code at attr (Format bytes) = pushes at no_value ∷ []
      given_code at attr (Paren a) = address_code a
      -- subscripts (C99 6.5.2.1)
      given_code at attr (Subscript a i) =
          value_code a ++ (value_code i ++ subscript_code at attr.ctype (dimension a))
      -- calls (C99 6.5.2.2, 7.19.6.3; UPC 7.2, 7.3). The code of function n is function n + 1 of the code.
      given_code at attr (Call (target.Function n) args) =
          let cs = conversions (types_of args) (parameters_of (running_of ς) n) in
          arguments_code cs args
          ++ (record { place = at; does = work.Call (call.CallTo (suc n) (arguments_count cs args)) } ∷ [])
      given_code at attr (Call (target.Library c) args) =
          if is_printf c then printed_code at args else (
          let cs = map parameter_conversion (call_parameters c) in
          arguments_code cs args
          ++ (record {
            place = at;
            does = work.Thread
                (thread.Library c (allocated_shape (running_of ς) c attr.ctype) (arguments_count cs args));
          } ∷ []))
      -- members (C99 6.5.2.3, UPC 6.4.4)
      given_code at attr (Member a index) =
          address_code a ++ (makes at (make.Member (member_offset ς.structs (type_of a) index)) ∷ [])
      given_code at attr (MemberBehind a index) =
          value_code a ++ (makes at (make.Member (target_offset ς.structs index (target_of (type_of a)))) ∷ [])
      -- ++ and -- (C99 6.5.2.4, 6.5.3.1)
      given_code at attr (Step o a) = address_code a ++ step_code strict at o (type_of a)
      -- & and * (C99 6.5.3.2)
      given_code at attr (Address a) = address_code a
      given_code at attr (Dereference a) = value_code a
      -- + - ~ ! (C99 6.5.3.3)
      given_code at attr (Unary o a) = value_code a ++ unary_code at o (integer_of (type_of a))
      -- casts (C99 6.5.4, UPC 6.4.3)
      given_code at attr (Cast a) = value_code a ++ (casts at (conversion (type_of a) attr.ctype) ∷ [])
      -- * / % + - << >> < > <= >= == != & ^ | (C99 6.5.5 to 6.5.12)
      given_code at attr (Binary o a b) =
          value_code a ++ (value_code b ++ binary_code at o (type_of a) (type_of b))
      -- && and || (C99 6.5.13, 6.5.14)
      given_code at attr (And a b) =
          either_code at (value_code a) (value_code b ++ (stacks at stack.Truth ∷ []))
          (pushes at (truth_value false) ∷ [])
      given_code at attr (Or a b) =
          either_code at (value_code a) (pushes at (truth_value true) ∷ [])
          (value_code b ++ (stacks at stack.Truth ∷ []))
      -- ? : (C99 6.5.15)
      given_code at attr (Conditional test a b) =
          either_code at (value_code test)
          (value_code a ++ (casts (place_of a) (conversion (type_of a) attr.ctype) ∷ []))
          (value_code b ++ (casts (place_of b) (conversion (type_of b) attr.ctype) ∷ []))
      -- = (C99 6.5.16.1)
      given_code at attr (Assign a b) =
          address_code a
          ++ (value_code b
          ++ (casts (place_of b) (conversion (type_of b) (type_of a)) ∷ put_code strict at (type_of a)))
      -- *= /= %= += -= <<= >>= &= ^= |= (C99 6.5.16.2)
      given_code at attr (Compound o a b) =
          address_code a ++ (value_code b ++ compound_code strict at o (type_of a) (type_of b))
      -- , (C99 6.5.17)
      given_code at attr (Comma parts) = last_code at parts

      -- The code of a call of printf: the arguments after its format are promoted, and their text is printed
      -- (C99 6.5.2.2, 7.19.6.3).
      pub printed_code : Place → Exprs → List Instr
      printed_code at NoExprs = pushes at no_value ∷ []
      printed_code at (AndExpr format more) =
          let cs = map promotion (types_of more) in
          arguments_code cs more
          ++ (record {
            place = at;
            does = work.Thread (thread.Print (format_of format) (arguments_count cs more));
          } ∷ [])

      -- The code of arguments, from left to right and each with its conversion (C99 6.5.2.2).
      pub arguments_code : List CastTo → Exprs → List Instr
      arguments_code (c ∷ cs) (AndExpr a more) = value_code a ++ (casts (place_of a) c ∷ arguments_code cs more)
      arguments_code cs args = []

      -- The code of the value of the last of some expressions, before which the others are done in order (C99 6.5.17).
      pub last_code : Place → Exprs → List Instr
      last_code at NoExprs = pushes at no_value ∷ []
      last_code at (AndExpr a more) = further_code (value_code a) (dropped_code a (address_code a)) more

      -- The code of the value of the last of some expressions, where the code of the first one is this for its value,
      -- and this for what it does alone (C99 6.5.17).
      pub further_code : (value effect : List Instr) → Exprs → List Instr
      further_code value effect NoExprs = value
      further_code value effect (AndExpr a more) =
          effect ++ further_code (value_code a) (dropped_code a (address_code a)) more

      -- The code of an expression for what it does alone, from the code of what it gives: an lvalue is read, as where
      -- its value is wanted, and no operand is left (C99 6.3.2.1, 6.8.3).
      pub dropped_code : Expr → (given : List Instr) → List Instr
      dropped_code (Is at attr kind) given =
          if is_lvalue attr.form
          then given ++ popped_code at (held_code strict (inner_place (Is at attr kind)) attr.ctype)
          else dropped_kind_code at attr kind given

      -- The code of an expression for what it does alone, from the code of what it gives; nothing is read.
      pub dropped_address_code : Expr → (given : List Instr) → List Instr
      dropped_address_code (Is at attr kind) given = dropped_kind_code at attr kind given

      -- The code of an expression of each kind for what it does alone, from the code of what it gives: `++` and `--`,
      -- casts into void and comma expressions leave nothing to be removed, and of any other but parentheses what it
      -- gives is removed (C99 6.5).
      pub dropped_kind_code : Place → Attr → ExprKind → (given : List Instr) → List Instr
      dropped_kind_code at attr (Paren a) given = dropped_address_code a given
      dropped_kind_code at attr (Step o a) given = address_code a ++ step_effect_code strict at o (type_of a)
      dropped_kind_code at attr (Cast a) given =
          cast_effect_code at (conversion (type_of a) attr.ctype) (dropped_code a (address_code a)) given
      dropped_kind_code at attr (Comma parts) given = effects_code parts
      dropped_kind_code at attr kind given = popped_code at given

      -- The code of some expressions, in order and each for what it does alone (C99 6.5.17).
      pub effects_code : Exprs → List Instr
      effects_code NoExprs = []
      effects_code (AndExpr a more) = dropped_code a (address_code a) ++ effects_code more

    -- The code of an expression for what it does alone: it leaves no operand (C99 6.8.3).
    abbrev pub effect_code : Expr → List Instr
    effect_code e = dropped_code e (address_code e)
