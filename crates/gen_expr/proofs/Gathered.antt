-- What holds of each form of instruction holds of each instruction of the code of an expression.
use Rattle.std.proofs.Common.{ℕ, suc, List, [], ◌∷◌, ◌++◌, map, Option, Some, None, Bool, true, false, ℤ, pos}
use Rattle.std.specs.Prelude.{if◌then◌else◌}
use Rattle.upc_text.specs.declared.place.Place.{Place}
use Rattle.block_layout.specs.declared.kind.Kind.{Kind}
use Rattle.integers.specs.declared.operator.BinOp.{BinOp}
use Rattle.integers.specs.declared.operator.BinOp.TheVariants as op
use Rattle.integers.specs.declared.operator.UnOp.{UnOp}
use Rattle.integers.specs.declared.operator.UnOp.TheVariants as un
use Rattle.upc_values.specs.Lists.{Each}
use Rattle.upc_values.proofs.Membership.{each-append}
use Rattle.upc_types.specs.Types.{CType}
use Rattle.typing_rules.specs.declared.setting.Home.{Home}
use Rattle.typing_rules.specs.declared.setting.Home.TheVariants as home
use Rattle.typing_rules.specs.Library.{int, call_parameters}
use Rattle.typing_rules.specs.Nodes.{Attr}
use Rattle.typed_tree.specs.declared.tree.StepOperator.{StepOperator}
use Rattle.typed_tree.specs.declared.tree.StepOperator.TheVariants as step
use Rattle.typed_tree.specs.declared.tree.Target.TheVariants as target
use Rattle.typed_tree.specs.Initials.{known_or_zero}
use Rattle.typed_tree.specs.Tree.{Expr, Is, ExprKind, Literal, Mythread, Object, Callee, Format, Paren, Subscript}
use Rattle.typed_tree.specs.Tree.{Call, Member, MemberBehind, Step, Address, Dereference, Unary, SizeOf, SizeOfType}
use Rattle.typed_tree.specs.Tree.{Cast, Binary, And, Or, Assign, Compound, Conditional, Comma, Exprs, NoExprs}
use Rattle.typed_tree.specs.Tree.{AndExpr, place_of}
use Rattle.thread_steps.specs.declared.cast.CastTo.{CastTo}
use Rattle.thread_steps.specs.declared.cast.CastTo.TheVariants as to
use Rattle.thread_steps.specs.Values.{number}
use Rattle.source_meaning.specs.Types as type
use Rattle.source_meaning.specs.Running.{parameters_of}
use Rattle.source_meaning.specs.Expressions as mean
use Rattle.source_meaning.specs.layer.Parts as parts
use Rattle.source_meaning.specs.Expressions.{type_of, types_of}
use Rattle.stack_code.specs.declared.instruction.StackWork.TheVariants as stack
use Rattle.stack_code.specs.declared.instruction.ValueWork.TheVariants as make
use Rattle.stack_code.specs.declared.instruction.Instr.{Instr}
use Rattle.gen_expr.specs.layer.Sources.{Source, running_of}
use Rattle.gen_expr.specs.layer.Codes as code
use Rattle.gen_expr.specs.layer.Codes.{pushes, casts, makes, stacks, arguments_count}
use Rattle.gen_expr.specs.layer.Gathered.{HoldsOfForms}

module _ (ς : Source) (Q : Instr → Type 0) (h : HoldsOfForms ς Q) where
  joined : (xs ys : List Instr) → Each Q xs → Each Q ys → Each Q (xs ++ ys)
  joined xs ys p q = each-append Q xs ys p q

  chosen : (b : Bool) (x y : List Instr) → Each Q x → Each Q y → Each Q (if b then x else y)
  chosen true x y p q = p
  chosen false x y p q = q

  constant : (at : Place) (v : ℤ) → Each Q (pushes at (number v) ∷ [])
  constant at v = (h.numbers at v, tt)

  -- What stands where there is no value.
  nothing : (at : Place) → Each Q (pushes at mean.no_value ∷ [])
  nothing at = constant at (pos 0)

  unary : (at : Place) (o : UnOp) (kind : Option Kind) → Each Q (code.unary_code at o kind)
  unary at un.Not kind = (h.stack_work at stack.Not tt, tt)
  unary at o (Some kind) = (h.value_work at _, tt)
  unary at o None = (h.stack_work at stack.Pop tt, nothing at)

  no_value : (at : Place) → Each Q (code.no_value_code at)
  no_value at = (h.stack_work at stack.Pop tt, (h.stack_work at stack.Pop tt, nothing at))

  integers : (at : Place) (o : BinOp) (j k : Option Kind) → Each Q (code.integers_code at o j k)
  integers at o (Some j) (Some k) = (h.value_work at _, tt)
  integers at o (Some j) None = no_value at
  integers at o None k = no_value at

  advance : (at : Place) (t : CType) → Each Q (code.advance_code ς at t)
  advance at t = (h.value_work at _, tt)

  on_pointers : (at : Place) (o : BinOp) (t : CType) → Each Q (code.on_pointers_code ς at o t)
  on_pointers at op.Subtract t = (h.value_work at _, tt)
  on_pointers at op.Equal t = (h.value_work at _, tt)
  on_pointers at op.NotEqual t = (h.value_work at _, (h.stack_work at stack.Not tt, tt))
  on_pointers at o t = (h.value_work at _, tt)

  on_pointer : (at : Place) (o : BinOp) (t : CType) → Each Q (code.on_pointer_code ς at o t)
  on_pointer at op.Add t = advance at t
  on_pointer at op.Subtract t = (h.value_work at _, tt)
  on_pointer at o t = on_pointers at o t

  before_pointer : (at : Place) (o : BinOp) (t : CType) → Each Q (code.before_pointer_code ς at o t)
  before_pointer at op.Add t = (h.stack_work at stack.Swap tt, advance at t)
  before_pointer at o t = on_pointers at o t

  operated : (at : Place) (o : BinOp) (left right : Option CType) (j k : Option Kind)
      → Each Q (code.operated_code ς at o left right j k)
  operated at o (Some t) (Some u) j k = on_pointers at o t
  operated at o (Some t) None j k = on_pointer at o t
  operated at o None (Some u) j k = before_pointer at o u
  operated at o None None j k = integers at o j k

  binary : (at : Place) (o : BinOp) (t u : CType) → Each Q (code.binary_code ς at o t u)
  binary at o t u = operated at o (type.target_of t) (type.target_of u) (type.integer_of t) (type.integer_of u)

  loaded : (strict : Bool) (at : Place) (t : CType) (kind : Option Kind) → Each Q (code.loaded_code ς strict at t kind)
  loaded strict at t (Some kind) = (h.reads at kind (type.is_strict strict t), tt)
  loaded strict at t None = tt

  held : (strict : Bool) (at : Place) (t : CType) → Each Q (code.held_code ς strict at t)
  held strict at t = loaded strict at t (type.cell_kind ς.structs t)

  saved : (strict : Bool) (at : Place) (t : CType) (kind : Option Kind) → Each Q (code.saved_code ς strict at t kind)
  saved strict at t (Some kind) = (h.writes at kind (type.is_strict strict t), tt)
  saved strict at t None = (h.stack_work at stack.Swap tt, (h.stack_work at stack.Pop tt, tt))

  put : (strict : Bool) (at : Place) (t : CType) → Each Q (code.put_code ς strict at t)
  put strict at t = saved strict at t (type.cell_kind ς.structs t)

  again : (strict : Bool) (at : Place) (t : CType) → Each Q (code.again_code ς strict at t)
  again strict at t = (h.value_work at _, put strict at t)

  object : (at : Place) (x : Home) → Each Q (code.object_code ς at x)
  object at (home.Private n) = (h.private_objects at n, tt)
  object at (home.Shared n) = (h.shared_objects at n, tt)
  object at (home.Local n) = (h.local_objects at n, tt)

  subscript : (at : Place) (t : CType) (n : Option ℕ) → Each Q (code.subscript_code ς at t n)
  subscript at t None = advance at t
  subscript at t (Some count) = (
    h.stack_work at stack.Over tt,
    (
      h.stack_work at stack.Over tt,
      joined (code.advance_code ς at t) (makes at (make.InRow count) ∷ []) (advance at t)
          (h.value_work at (make.InRow count), tt),
    ),
  )

  first_step : (strict : Bool) (at : Place) (o : BinOp) (t : CType) → Each Q (code.first_step_code ς strict at o t)
  first_step strict at o t = (
    h.stack_work at stack.Copy tt,
    joined (code.held_code ς strict at t) _ (held strict at t)
        (h.numbers at (pos 1), joined (code.binary_code ς at o t int) _ (binary at o t int) (again strict at t)),
  )

  after_step : (strict : Bool) (at : Place) (o : BinOp) (t : CType) → Each Q (code.after_step_code ς strict at o t)
  after_step strict at o t = (
    h.stack_work at stack.Copy tt,
    joined (code.held_code ς strict at t) _ (held strict at t) (
      h.stack_work at stack.Swap tt,
      (
        h.stack_work at stack.Over tt,
        (
          h.numbers at (pos 1),
          joined (code.binary_code ς at o t int) _ (binary at o t int)
              (joined (code.again_code ς strict at t) _ (again strict at t) (h.stack_work at stack.Pop tt, tt)),
        ),
      ),
    ),
  )

  stepped : (strict : Bool) (at : Place) (o : StepOperator) (t : CType) → Each Q (code.step_code ς strict at o t)
  stepped strict at step.IncrementFirst t = first_step strict at op.Add t
  stepped strict at step.DecrementFirst t = first_step strict at op.Subtract t
  stepped strict at step.IncrementAfter t = after_step strict at op.Add t
  stepped strict at step.DecrementAfter t = after_step strict at op.Subtract t

  plain_step : (strict : Bool) (at : Place) (o : BinOp) (t : CType) → Each Q (code.plain_step_code ς strict at o t)
  plain_step strict at o t = (
    h.stack_work at stack.Copy tt,
    joined (code.held_code ς strict at t) _ (held strict at t) (
      h.numbers at (pos 1),
      joined (code.binary_code ς at o t int) _ (binary at o t int)
          (joined (code.again_code ς strict at t) _ (again strict at t) (h.stack_work at stack.Pop tt, tt)),
    ),
  )

  step_effect : (strict : Bool) (at : Place) (o : StepOperator) (t : CType)
      → Each Q (code.step_effect_code ς strict at o t)
  step_effect strict at step.IncrementFirst t = plain_step strict at op.Add t
  step_effect strict at step.DecrementFirst t = plain_step strict at op.Subtract t
  step_effect strict at step.IncrementAfter t = plain_step strict at op.Add t
  step_effect strict at step.DecrementAfter t = plain_step strict at op.Subtract t

  popped : (at : Place) (c : List Instr) → Each Q c → Each Q (code.popped_code at c)
  popped at c p = joined c _ p (h.stack_work at stack.Pop tt, tt)

  cast_effect : (at : Place) (into : CastTo) (operand value : List Instr) → Each Q operand → Each Q value
      → Each Q (code.cast_effect_code at into operand value)
  cast_effect at to.Nothing operand value p q = p
  cast_effect at into operand value p q = popped at value q

  compound : (strict : Bool) (at : Place) (o : BinOp) (t u : CType) → Each Q (code.compound_code ς strict at o t u)
  compound strict at o t u = (
    h.stack_work at stack.Over tt,
    joined (code.held_code ς strict at t) _ (held strict at t) (
      h.stack_work at stack.Swap tt,
      joined (code.binary_code ς at o t u) _ (binary at o t u) (again strict at t),
    ),
  )

  either : (at : Place) (test first second : List Instr) → Each Q test → Each Q first → Each Q second
      → Each Q (code.either_code at test first second)
  either at test first second t p q =
      joined test _ t (h.ways at _, joined first _ p (h.ways at _, q))

  truth : (at : Place) (c : List Instr) → Each Q c → Each Q (c ++ (stacks at stack.Truth ∷ []))
  truth at c p = joined c _ p (h.stack_work at stack.Truth tt, tt)

  converted : (at : Place) (into : CastTo) (c : List Instr) → Each Q c → Each Q (c ++ (casts at into ∷ []))
  converted at into c p = joined c _ p (h.value_work at _, tt)

  module _ (strict : Bool) where
    mutual
      -- Each instruction of the code of the value of an expression.
      pub value_gathers : (e : Expr) → Each Q (code.value_code ς strict e)
      value_gathers (Is at attr kind) =
          joined (code.given_code ς strict at attr kind) _ (given at attr kind)
          (chosen (parts.is_lvalue attr.form) _ _ (held strict (mean.inner_place (Is at attr kind)) attr.ctype) tt)

      -- Each instruction of the code of its place.
      pub address_gathers : (e : Expr) → Each Q (code.address_code ς strict e)
      address_gathers (Is at attr kind) = given at attr kind

      given : (at : Place) (attr : Attr) (kind : ExprKind) → Each Q (code.given_code ς strict at attr kind)
      given at attr Literal = constant at (known_or_zero attr.constant)
      given at attr Mythread = (h.stack_work at stack.Me tt, tt)
      given at attr (SizeOf o a) = constant at (known_or_zero attr.constant)
      given at attr (SizeOfType o t) = constant at (known_or_zero attr.constant)
      given at attr (Object x) = object at x
      given at attr (Callee callee) = nothing at
      given at attr (Format bytes) = nothing at
      given at attr (Paren a) = address_gathers a
      given at attr (Subscript a i) =
          joined (code.value_code ς strict a) _ (value_gathers a)
          (joined (code.value_code ς strict i) _ (value_gathers i) (subscript at attr.ctype (mean.dimension a)))
      given at attr (Call (target.Function f) args) =
          let cs = type.conversions (types_of args) (parameters_of (running_of ς) f) in
          joined (code.arguments_code ς strict cs args) _ (arguments cs args)
          (h.calls at (suc f) (arguments_count cs args), tt)
      given at attr (Call (target.Library c) args) =
          let cs = map type.parameter_conversion (call_parameters c) in
          chosen (parts.is_printf c) _ _ (printed at args)
          (joined (code.arguments_code ς strict cs args) _ (arguments cs args)
          (h.library_calls at c (mean.allocated_shape (running_of ς) c attr.ctype) (arguments_count cs args), tt))
      given at attr (Member a index) =
          joined (code.address_code ς strict a) _ (address_gathers a) (h.value_work at _, tt)
      given at attr (MemberBehind a index) =
          joined (code.value_code ς strict a) _ (value_gathers a) (h.value_work at _, tt)
      given at attr (Step o a) =
          joined (code.address_code ς strict a) _ (address_gathers a) (stepped strict at o (type_of a))
      given at attr (Address a) = address_gathers a
      given at attr (Dereference a) = value_gathers a
      given at attr (Unary o a) =
          joined (code.value_code ς strict a) _ (value_gathers a) (unary at o (type.integer_of (type_of a)))
      given at attr (Cast a) = converted at _ (code.value_code ς strict a) (value_gathers a)
      given at attr (Binary o a b) =
          joined (code.value_code ς strict a) _ (value_gathers a)
          (joined (code.value_code ς strict b) _ (value_gathers b) (binary at o (type_of a) (type_of b)))
      given at attr (And a b) =
          either at (code.value_code ς strict a) _ (pushes at (number (pos 0)) ∷ []) (value_gathers a)
          (truth at (code.value_code ς strict b) (value_gathers b)) (constant at (pos 0))
      given at attr (Or a b) =
          either at (code.value_code ς strict a) (pushes at (number (pos 1)) ∷ []) _ (value_gathers a)
          (constant at (pos 1)) (truth at (code.value_code ς strict b) (value_gathers b))
      given at attr (Conditional test a b) =
          either at (code.value_code ς strict test) _ _ (value_gathers test)
          (converted (place_of a) _ (code.value_code ς strict a) (value_gathers a))
          (converted (place_of b) _ (code.value_code ς strict b) (value_gathers b))
      given at attr (Assign a b) =
          joined (code.address_code ς strict a) _ (address_gathers a)
          (joined (code.value_code ς strict b) _ (value_gathers b)
          (h.value_work (place_of b) _, put strict at (type_of a)))
      given at attr (Compound o a b) =
          joined (code.address_code ς strict a) _ (address_gathers a)
          (joined (code.value_code ς strict b) _ (value_gathers b) (compound strict at o (type_of a) (type_of b)))
      given at attr (Comma parts) = last at parts

      printed : (at : Place) (args : Exprs) → Each Q (code.printed_code ς strict at args)
      printed at NoExprs = nothing at
      printed at (AndExpr format more) =
          let cs = map type.promotion (types_of more) in
          joined (code.arguments_code ς strict cs more) _ (arguments cs more)
          (h.prints at (mean.format_of format) (arguments_count cs more), tt)

      arguments : (cs : List CastTo) (args : Exprs) → Each Q (code.arguments_code ς strict cs args)
      arguments (c ∷ cs) (AndExpr a more) =
          joined (code.value_code ς strict a) _ (value_gathers a) (h.value_work (place_of a) _, arguments cs more)
      arguments (c ∷ cs) NoExprs = tt
      arguments [] args = tt

      last : (at : Place) (parts : Exprs) → Each Q (code.last_code ς strict at parts)
      last at NoExprs = nothing at
      last at (AndExpr a more) =
          further more (code.value_code ς strict a) _ (value_gathers a) (dropped a _ (address_gathers a))

      further : (parts : Exprs) (value effect : List Instr) → Each Q value → Each Q effect
          → Each Q (code.further_code ς strict value effect parts)
      further NoExprs value effect p q = p
      further (AndExpr a more) value effect p q =
          joined effect _ q
          (further more (code.value_code ς strict a) _ (value_gathers a) (dropped a _ (address_gathers a)))

      dropped : (e : Expr) (front : List Instr) → Each Q front → Each Q (code.dropped_code ς strict e front)
      dropped (Is at attr kind) front p =
          chosen (parts.is_lvalue attr.form) _ _
          (joined front _ p (popped at _ (held strict (mean.inner_place (Is at attr kind)) attr.ctype)))
          (dropped_kind at attr kind front p)

      dropped_address : (e : Expr) (front : List Instr) → Each Q front
          → Each Q (code.dropped_address_code ς strict e front)
      dropped_address (Is at attr kind) front p = dropped_kind at attr kind front p

      dropped_kind : (at : Place) (attr : Attr) (kind : ExprKind) (front : List Instr) → Each Q front
          → Each Q (code.dropped_kind_code ς strict at attr kind front)
      dropped_kind at attr (Paren a) front p = dropped_address a front p
      dropped_kind at attr (Step o a) front p =
          joined (code.address_code ς strict a) _ (address_gathers a) (step_effect strict at o (type_of a))
      dropped_kind at attr (Cast a) front p =
          cast_effect at (type.conversion (type_of a) attr.ctype) _ front (dropped a _ (address_gathers a)) p
      dropped_kind at attr (Comma parts) front p = effects parts
      dropped_kind at attr kind front p = popped at front p

      effects : (parts : Exprs) → Each Q (code.effects_code ς strict parts)
      effects NoExprs = tt
      effects (AndExpr a more) =
          joined (code.dropped_code ς strict a (code.address_code ς strict a)) _ (dropped a _ (address_gathers a))
          (effects more)

    -- Each instruction of the code of an expression for what it does alone.
    pub effect_gathers : (e : Expr) → Each Q (code.effect_code ς strict e)
    effect_gathers e = dropped e _ (address_gathers e)
