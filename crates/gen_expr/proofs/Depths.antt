-- Wherever the code of an expression stands, the depths agree, and it leaves one operand more.
use Rattle.std.proofs.Common.{ℕ, suc, List, [], ◌∷◌, ◌++◌, map, Option, Some, None}
use Rattle.std.proofs.Common.{Bool, true, false, refl, sym, subst, pos}
use Rattle.std.specs.Prelude.{if◌then◌else◌}
use Rattle.upc_text.specs.declared.place.Place.{Place}
use Rattle.block_layout.specs.declared.kind.Kind.{Kind}
use Rattle.integers.specs.declared.operator.BinOp.{BinOp}
use Rattle.integers.specs.declared.operator.BinOp.TheVariants as op
use Rattle.integers.specs.declared.operator.UnOp.{UnOp}
use Rattle.integers.specs.declared.operator.UnOp.TheVariants as un
use Rattle.upc_values.specs.declared.scalar.Value.{Value}
use Rattle.upc_types.specs.Types.{CType}
use Rattle.typing_rules.specs.declared.setting.Home.{Home}
use Rattle.typing_rules.specs.declared.setting.Home.TheVariants as home
use Rattle.typing_rules.specs.Library.{int, call_parameters}
use Rattle.typing_rules.specs.Nodes.{Attr}
use Rattle.typed_tree.specs.declared.tree.StepOperator.{StepOperator}
use Rattle.typed_tree.specs.declared.tree.StepOperator.TheVariants as step
use Rattle.typed_tree.specs.declared.tree.Target.TheVariants as target
use Rattle.typed_tree.specs.Tree.{Expr, Is, ExprKind, Literal, Mythread, Object, Callee, Format, Paren, Subscript}
use Rattle.typed_tree.specs.Tree.{Call, Member, MemberBehind, Step, Address, Dereference, Unary, SizeOf, SizeOfType}
use Rattle.typed_tree.specs.Tree.{Cast, Binary, And, Or, Assign, Compound, Conditional, Comma, Exprs, NoExprs}
use Rattle.typed_tree.specs.Tree.{AndExpr, place_of}
use Rattle.thread_steps.specs.declared.cast.CastTo.{CastTo}
use Rattle.thread_steps.specs.declared.cast.CastTo.TheVariants as to
use Rattle.thread_steps.specs.Values.{number}
use Rattle.source_meaning.specs.Types as type
use Rattle.source_meaning.specs.Running.{parameters_of}
use Rattle.source_meaning.specs.Expressions as mean
use Rattle.source_meaning.specs.layer.Parts as parts
use Rattle.source_meaning.specs.Expressions.{type_of, types_of}
use Rattle.stack_code.specs.declared.instruction.StackWork.TheVariants as stack
use Rattle.stack_code.specs.declared.instruction.ValueWork.TheVariants as make
use Rattle.stack_code.specs.declared.instruction.CallWork.TheVariants.{GiveBack}
use Rattle.stack_code.specs.declared.instruction.Operation.TheVariants as work
use Rattle.stack_code.specs.declared.instruction.Instr.{Instr}
use Rattle.stack_code.specs.layer.Depths.{raised}
use Rattle.gen_expr.specs.layer.Sources.{Source, running_of}
use Rattle.gen_expr.specs.layer.Codes as code
use Rattle.gen_expr.specs.layer.Codes.{pushes, casts, makes, stacks, arguments_count}
use Rattle.gen_expr.specs.code.Depths.{ExpressionsAreDeep, EffectsAreDeep}
use Rattle.stack_code.proofs.Deepenings.{Deepens, Then, follows, single, begins_with, ends_with, under, no_code}
use Rattle.stack_code.proofs.Deepenings.{raised_more, whole}
use Rattle.gen_expr.proofs.Deepening.{either_deepens}

pub pushed_deepens : (at : Place) (v : Value) (d : ℕ) → Deepens (pushes at v ∷ []) d (Then (suc d))
pushed_deepens at v d = single (pushes at v) d d _ refl (λ f more l. l)

pub cast_deepens : (at : Place) (into : CastTo) (d : ℕ) → Deepens (casts at into ∷ []) (suc d) (Then (suc d))
cast_deepens at into d = single (casts at into) d (suc d) _ refl (λ f more l. l)

-- What a part leaves is removed.
popped_deepens : (at : Place) (c : List Instr) (e d : ℕ) → Deepens c e (Then (suc d))
    → Deepens (code.popped_code at c) e (Then d)
popped_deepens at c e d x = ends_with c (stacks at stack.Pop) e d (suc d) _ x refl (λ f more l. l)

cast_effect_deepens : (at : Place) (into : CastTo) (operand value : List Instr) (d : ℕ) → Deepens operand d (Then d)
    → Deepens value d (Then (suc d)) → Deepens (code.cast_effect_code at into operand value) d (Then d)
cast_effect_deepens at to.Nothing operand value d x y = x
cast_effect_deepens at into operand value d x y = popped_deepens at value d d y

unary_deepens : (at : Place) (o : UnOp) (kind : Option Kind) (d : ℕ)
    → Deepens (code.unary_code at o kind) (suc d) (Then (suc d))
unary_deepens at un.Not kind d = single _ d (suc d) _ refl (λ f more l. l)
unary_deepens at o (Some kind) d = single _ d (suc d) _ refl (λ f more l. l)
unary_deepens at o None d = begins_with _ _ d (suc d) d _ refl (λ f more l. l) (pushed_deepens at _ d)

no_value_deepens : (at : Place) (d : ℕ) → Deepens (code.no_value_code at) (suc (suc d)) (Then (suc d))
no_value_deepens at d =
    begins_with _ _ (suc d) (suc (suc d)) (suc d) _ refl (λ f more l. l)
    (begins_with _ _ d (suc d) d _ refl (λ f more l. l) (pushed_deepens at _ d))

integers_deepen : (at : Place) (o : BinOp) (j k : Option Kind) (d : ℕ)
    → Deepens (code.integers_code at o j k) (suc (suc d)) (Then (suc d))
integers_deepen at o (Some j) (Some k) d = single _ d (suc (suc d)) _ refl (λ f more l. l)
integers_deepen at o (Some j) None d = no_value_deepens at d
integers_deepen at o None k d = no_value_deepens at d

module _ (ς : Source) where
  pub advance_deepens : (at : Place) (t : CType) (d : ℕ)
      → Deepens (code.advance_code ς at t) (suc (suc d)) (Then (suc d))
  advance_deepens at t d = single _ d (suc (suc d)) _ refl (λ f more l. l)

  on_pointers_deepen : (at : Place) (o : BinOp) (t : CType) (d : ℕ)
      → Deepens (code.on_pointers_code ς at o t) (suc (suc d)) (Then (suc d))
  on_pointers_deepen at op.Subtract t d = single _ d (suc (suc d)) _ refl (λ f more l. l)
  on_pointers_deepen at op.Equal t d = single _ d (suc (suc d)) _ refl (λ f more l. l)
  on_pointers_deepen at op.NotEqual t d =
      begins_with (makes at make.Same) (stacks at stack.Not ∷ []) d (suc (suc d)) (suc d) _ refl (λ f more l. l)
      (single (stacks at stack.Not) d (suc d) _ refl (λ f more l. l))
  on_pointers_deepen at o t d = single _ d (suc (suc d)) _ refl (λ f more l. l)

  on_pointer_deepens : (at : Place) (o : BinOp) (t : CType) (d : ℕ)
      → Deepens (code.on_pointer_code ς at o t) (suc (suc d)) (Then (suc d))
  on_pointer_deepens at op.Add t d = advance_deepens at t d
  on_pointer_deepens at op.Subtract t d = single _ d (suc (suc d)) _ refl (λ f more l. l)
  on_pointer_deepens at o t d = on_pointers_deepen at o t d

  before_pointer_deepens : (at : Place) (o : BinOp) (t : CType) (d : ℕ)
      → Deepens (code.before_pointer_code ς at o t) (suc (suc d)) (Then (suc d))
  before_pointer_deepens at op.Add t d =
      begins_with (stacks at stack.Swap) _ d (suc (suc d)) (suc (suc d)) _ refl (λ f more l. l) (advance_deepens at t d)
  before_pointer_deepens at o t d = on_pointers_deepen at o t d

  operated_deepens : (at : Place) (o : BinOp) (left right : Option CType) (j k : Option Kind) (d : ℕ)
      → Deepens (code.operated_code ς at o left right j k) (suc (suc d)) (Then (suc d))
  operated_deepens at o (Some t) (Some u) j k d = on_pointers_deepen at o t d
  operated_deepens at o (Some t) None j k d = on_pointer_deepens at o t d
  operated_deepens at o None (Some u) j k d = before_pointer_deepens at o u d
  operated_deepens at o None None j k d = integers_deepen at o j k d

  pub binary_deepens : (at : Place) (o : BinOp) (t u : CType) (d : ℕ)
      → Deepens (code.binary_code ς at o t u) (suc (suc d)) (Then (suc d))
  binary_deepens at o t u d =
      operated_deepens at o (type.target_of t) (type.target_of u) (type.integer_of t) (type.integer_of u) d

  loaded_deepens : (strict : Bool) (at : Place) (t : CType) (kind : Option Kind) (d : ℕ)
      → Deepens (code.loaded_code ς strict at t kind) (suc d) (Then (suc d))
  loaded_deepens strict at t (Some kind) d = single _ d (suc d) _ refl (λ f more l. l)
  loaded_deepens strict at t None d = no_code (suc d)

  pub held_deepens : (strict : Bool) (at : Place) (t : CType) (d : ℕ)
      → Deepens (code.held_code ς strict at t) (suc d) (Then (suc d))
  held_deepens strict at t d = loaded_deepens strict at t (type.cell_kind ς.structs t) d

  saved_deepens : (strict : Bool) (at : Place) (t : CType) (kind : Option Kind) (d : ℕ)
      → Deepens (code.saved_code ς strict at t kind) (suc (suc d)) (Then (suc d))
  saved_deepens strict at t (Some kind) d = single _ d (suc (suc d)) _ refl (λ f more l. l)
  saved_deepens strict at t None d =
      begins_with (stacks at stack.Swap) (stacks at stack.Pop ∷ []) d (suc (suc d)) (suc (suc d)) _ refl (λ f more l. l)
      (single (stacks at stack.Pop) (suc d) (suc (suc d)) _ refl (λ f more l. l))

  pub put_deepens : (strict : Bool) (at : Place) (t : CType) (d : ℕ)
      → Deepens (code.put_code ς strict at t) (suc (suc d)) (Then (suc d))
  put_deepens strict at t d = saved_deepens strict at t (type.cell_kind ς.structs t) d

  pub cast_put_deepens : (strict : Bool) (here at : Place) (into : CastTo) (t : CType) (d : ℕ)
      → Deepens (casts here into ∷ code.put_code ς strict at t) (suc (suc d)) (Then (suc d))
  cast_put_deepens strict here at into t d =
      begins_with (casts here into) _ (suc d) (suc (suc d)) (suc (suc d)) _ refl (λ f more l. l)
      (put_deepens strict at t d)

  -- Either of two parts, by a test of the source alone.
  chosen_deepens : (b : Bool) (x y : List Instr) (d e : ℕ) → Deepens x d (Then e) → Deepens y d (Then e)
      → Deepens (if b then x else y) d (Then e)
  chosen_deepens true x y d e p q = p
  chosen_deepens false x y d e p q = q

  pub object_deepens : (at : Place) (h : Home) (d : ℕ) → Deepens (code.object_code ς at h) d (Then (suc d))
  object_deepens at (home.Private n) d = pushed_deepens at _ d
  object_deepens at (home.Shared n) d = pushed_deepens at _ d
  object_deepens at (home.Local n) d = single _ d d _ refl (λ f more l. l)

  subscript_deepens : (at : Place) (t : CType) (n : Option ℕ) (d : ℕ)
      → Deepens (code.subscript_code ς at t n) (suc (suc d)) (Then (suc d))
  subscript_deepens at t None d = advance_deepens at t d
  subscript_deepens at t (Some count) d =
      begins_with (stacks at stack.Over) _ d (suc (suc d)) (suc (suc (suc d))) _ refl (λ f more l. l)
      (begins_with (stacks at stack.Over) _ (suc d) (suc (suc (suc d))) (suc (suc (suc (suc d)))) _ refl
      (λ f more l. l)
      (follows (code.advance_code ς at t) _ (suc (suc (suc (suc d)))) (suc (suc (suc d))) _
      (advance_deepens at t (suc (suc d)))
      (single (makes at (make.InRow count)) d (suc (suc (suc d))) _ refl (λ f more l. l))))

  first_step_deepens : (strict : Bool) (at : Place) (o : BinOp) (t : CType) (d : ℕ)
      → Deepens (code.first_step_code ς strict at o t) (suc d) (Then (suc d))
  first_step_deepens strict at o t d =
      begins_with (stacks at stack.Copy) _ d (suc d) (suc (suc d)) _ refl (λ f more l. l)
      (follows (code.held_code ς strict at t) _ (suc (suc d)) (suc (suc d)) _ (held_deepens strict at t (suc d))
      (begins_with (pushes at (number (pos 1))) _ (suc (suc d)) (suc (suc d)) (suc (suc (suc d))) _ refl (λ f more l. l)
      (follows (code.binary_code ς at o t int) _ (suc (suc (suc d))) (suc (suc d)) _ (binary_deepens at o t int (suc d))
      (cast_put_deepens strict at at (type.conversion t t) t d))))

  after_step_deepens : (strict : Bool) (at : Place) (o : BinOp) (t : CType) (d : ℕ)
      → Deepens (code.after_step_code ς strict at o t) (suc d) (Then (suc d))
  after_step_deepens strict at o t d =
      let two = suc (suc d) in
      let three = suc (suc (suc d)) in
      let four = suc (suc (suc (suc d))) in
      begins_with (stacks at stack.Copy) _ d (suc d) two _ refl (λ f more l. l)
      (follows (code.held_code ς strict at t) _ two two _ (held_deepens strict at t (suc d))
      (begins_with (stacks at stack.Swap) _ d two two _ refl (λ f more l. l)
      (begins_with (stacks at stack.Over) _ d two three _ refl (λ f more l. l)
      (begins_with (pushes at (number (pos 1))) _ three three four _ refl (λ f more l. l)
      (follows (code.binary_code ς at o t int) _ four three _ (binary_deepens at o t int two)
      (begins_with (casts at (type.conversion t t)) _ two three three _ refl (λ f more l. l)
      (ends_with (code.put_code ς strict at t) (stacks at stack.Pop) three (suc d) two _
      (put_deepens strict at t (suc d)) refl (λ f more l. l))))))))

  step_deepens : (strict : Bool) (at : Place) (o : StepOperator) (t : CType) (d : ℕ)
      → Deepens (code.step_code ς strict at o t) (suc d) (Then (suc d))
  step_deepens strict at step.IncrementFirst t d = first_step_deepens strict at op.Add t d
  step_deepens strict at step.DecrementFirst t d = first_step_deepens strict at op.Subtract t d
  step_deepens strict at step.IncrementAfter t d = after_step_deepens strict at op.Add t d
  step_deepens strict at step.DecrementAfter t d = after_step_deepens strict at op.Subtract t d

  plain_step_deepens : (strict : Bool) (at : Place) (o : BinOp) (t : CType) (d : ℕ)
      → Deepens (code.plain_step_code ς strict at o t) (suc d) (Then d)
  plain_step_deepens strict at o t d =
      let two = suc (suc d) in
      let three = suc (suc (suc d)) in
      begins_with (stacks at stack.Copy) _ d (suc d) two _ refl (λ f more l. l)
      (follows (code.held_code ς strict at t) _ two two _ (held_deepens strict at t (suc d))
      (begins_with (pushes at (number (pos 1))) _ two two three _ refl (λ f more l. l)
      (follows (code.binary_code ς at o t int) _ three two _ (binary_deepens at o t int (suc d))
      (begins_with (casts at (type.conversion t t)) _ (suc d) two two _ refl (λ f more l. l)
      (ends_with (code.put_code ς strict at t) (stacks at stack.Pop) two d (suc d) _
      (put_deepens strict at t d) refl (λ f more l. l))))))

  step_effect_deepens : (strict : Bool) (at : Place) (o : StepOperator) (t : CType) (d : ℕ)
      → Deepens (code.step_effect_code ς strict at o t) (suc d) (Then d)
  step_effect_deepens strict at step.IncrementFirst t d = plain_step_deepens strict at op.Add t d
  step_effect_deepens strict at step.DecrementFirst t d = plain_step_deepens strict at op.Subtract t d
  step_effect_deepens strict at step.IncrementAfter t d = plain_step_deepens strict at op.Add t d
  step_effect_deepens strict at step.DecrementAfter t d = plain_step_deepens strict at op.Subtract t d

  compound_deepens : (strict : Bool) (at : Place) (o : BinOp) (t u : CType) (d : ℕ)
      → Deepens (code.compound_code ς strict at o t u) (suc (suc d)) (Then (suc d))
  compound_deepens strict at o t u d =
      begins_with (stacks at stack.Over) _ d (suc (suc d)) (suc (suc (suc d))) _ refl (λ f more l. l)
      (follows (code.held_code ς strict at t) _ (suc (suc (suc d))) (suc (suc (suc d))) _
      (held_deepens strict at t (suc (suc d)))
      (begins_with (stacks at stack.Swap) _ (suc d) (suc (suc (suc d))) (suc (suc (suc d))) _ refl (λ f more l. l)
      (follows (code.binary_code ς at o t u) _ (suc (suc (suc d))) (suc (suc d)) _ (binary_deepens at o t u (suc d))
      (cast_put_deepens strict at at (type.conversion t t) t d))))

  truth_deepens : (at : Place) (c : List Instr) (d : ℕ) → Deepens c d (Then (suc d))
      → Deepens (c ++ (stacks at stack.Truth ∷ [])) d (Then (suc d))
  truth_deepens at c d x = ends_with c (stacks at stack.Truth) d d (suc d) _ x refl (λ f more l. l)

  pub converted_deepens : (at : Place) (into : CastTo) (c : List Instr) (d : ℕ) → Deepens c d (Then (suc d))
      → Deepens (c ++ (casts at into ∷ [])) d (Then (suc d))
  converted_deepens at into c d x = ends_with c (casts at into) d d (suc d) _ x refl (λ f more l. l)

  -- A test and two parts, each of which leaves one operand.
  both_deepen : (at : Place) (test first second : List Instr) (d : ℕ) → Deepens test d (Then (suc d))
      → Deepens first d (Then (suc d)) → Deepens second d (Then (suc d))
      → Deepens (code.either_code at test first second) d (Then (suc d))
  both_deepen at test first second d t x y =
      either_deepens at test first second _ _ d (suc d) _ _ t x refl y refl (λ more l. l) (λ more l. refl)

  module _ (strict : Bool) where
    mutual
      pub value_deepens : (e : Expr) (d : ℕ) → Deepens (code.value_code ς strict e) d (Then (suc d))
      value_deepens (Is at attr kind) d =
          follows (code.given_code ς strict at attr kind) _ d (suc d) _ (given_deepens at attr kind d)
          (chosen_deepens (parts.is_lvalue attr.form) _ _ (suc d) (suc d)
          (held_deepens strict (mean.inner_place (Is at attr kind)) attr.ctype d) (no_code (suc d)))

      pub address_deepens : (e : Expr) (d : ℕ) → Deepens (code.address_code ς strict e) d (Then (suc d))
      address_deepens (Is at attr kind) d = given_deepens at attr kind d

      given_deepens : (at : Place) (attr : Attr) (kind : ExprKind) (d : ℕ)
          → Deepens (code.given_code ς strict at attr kind) d (Then (suc d))
      given_deepens at attr Literal d = pushed_deepens at _ d
      given_deepens at attr Mythread d = single _ d d _ refl (λ f more l. l)
      given_deepens at attr (SizeOf o a) d = pushed_deepens at _ d
      given_deepens at attr (SizeOfType o t) d = pushed_deepens at _ d
      given_deepens at attr (Object h) d = object_deepens at h d
      given_deepens at attr (Callee callee) d = pushed_deepens at _ d
      given_deepens at attr (Format bytes) d = pushed_deepens at _ d
      given_deepens at attr (Paren a) d = address_deepens a d
      given_deepens at attr (Subscript a i) d =
          follows (code.value_code ς strict a) _ d (suc d) _ (value_deepens a d)
          (follows (code.value_code ς strict i) _ (suc d) (suc (suc d)) _ (value_deepens i (suc d))
          (subscript_deepens at attr.ctype (mean.dimension a) d))
      given_deepens at attr (Call (target.Function f) args) d =
          let cs = type.conversions (types_of args) (parameters_of (running_of ς) f) in
          ends_with (code.arguments_code ς strict cs args) _ d d (raised (arguments_count cs args) d) _
          (arguments_deepen cs args d) refl (λ f more l. l)
      given_deepens at attr (Call (target.Library c) args) d =
          let cs = map type.parameter_conversion (call_parameters c) in
          chosen_deepens (parts.is_printf c) _ _ d (suc d) (printed_deepens at args d)
          (ends_with (code.arguments_code ς strict cs args) _ d d (raised (arguments_count cs args) d) _
          (arguments_deepen cs args d) refl (λ f more l. l))
      given_deepens at attr (Member a index) d =
          ends_with (code.address_code ς strict a) _ d d (suc d) _ (address_deepens a d) refl (λ f more l. l)
      given_deepens at attr (MemberBehind a index) d =
          ends_with (code.value_code ς strict a) _ d d (suc d) _ (value_deepens a d) refl (λ f more l. l)
      given_deepens at attr (Step o a) d =
          follows (code.address_code ς strict a) _ d (suc d) _ (address_deepens a d)
          (step_deepens strict at o (type_of a) d)
      given_deepens at attr (Address a) d = address_deepens a d
      given_deepens at attr (Dereference a) d = value_deepens a d
      given_deepens at attr (Unary o a) d =
          follows (code.value_code ς strict a) _ d (suc d) _ (value_deepens a d)
          (unary_deepens at o (type.integer_of (type_of a)) d)
      given_deepens at attr (Cast a) d = converted_deepens at _ (code.value_code ς strict a) d (value_deepens a d)
      given_deepens at attr (Binary o a b) d =
          follows (code.value_code ς strict a) _ d (suc d) _ (value_deepens a d)
          (follows (code.value_code ς strict b) _ (suc d) (suc (suc d)) _ (value_deepens b (suc d))
          (binary_deepens at o (type_of a) (type_of b) d))
      given_deepens at attr (And a b) d =
          both_deepen at (code.value_code ς strict a) _ _ d (value_deepens a d)
          (truth_deepens at (code.value_code ς strict b) d (value_deepens b d)) (pushed_deepens at _ d)
      given_deepens at attr (Or a b) d =
          both_deepen at (code.value_code ς strict a) _ _ d (value_deepens a d) (pushed_deepens at _ d)
          (truth_deepens at (code.value_code ς strict b) d (value_deepens b d))
      given_deepens at attr (Conditional test a b) d =
          both_deepen at (code.value_code ς strict test) _ _ d (value_deepens test d)
          (converted_deepens (place_of a) _ (code.value_code ς strict a) d (value_deepens a d))
          (converted_deepens (place_of b) _ (code.value_code ς strict b) d (value_deepens b d))
      given_deepens at attr (Assign a b) d =
          follows (code.address_code ς strict a) _ d (suc d) _ (address_deepens a d)
          (follows (code.value_code ς strict b) _ (suc d) (suc (suc d)) _ (value_deepens b (suc d))
          (cast_put_deepens strict (place_of b) at _ (type_of a) d))
      given_deepens at attr (Compound o a b) d =
          follows (code.address_code ς strict a) _ d (suc d) _ (address_deepens a d)
          (follows (code.value_code ς strict b) _ (suc d) (suc (suc d)) _ (value_deepens b (suc d))
          (compound_deepens strict at o (type_of a) (type_of b) d))
      given_deepens at attr (Comma parts) d = last_deepens at parts d

      printed_deepens : (at : Place) (args : Exprs) (d : ℕ)
          → Deepens (code.printed_code ς strict at args) d (Then (suc d))
      printed_deepens at NoExprs d = pushed_deepens at _ d
      printed_deepens at (AndExpr format more) d =
          let cs = map type.promotion (types_of more) in
          ends_with (code.arguments_code ς strict cs more) _ d d (raised (arguments_count cs more) d) _
          (arguments_deepen cs more d) refl (λ f more l. l)

      -- Arguments leave as many operands as are counted.
      arguments_deepen : (cs : List CastTo) (args : Exprs) (d : ℕ)
          → Deepens (code.arguments_code ς strict cs args) d (Then (raised (arguments_count cs args) d))
      arguments_deepen (c ∷ cs) (AndExpr a more) d =
          follows (code.value_code ς strict a) _ d (suc d) _ (value_deepens a d)
          (begins_with (casts (place_of a) c) _ d (suc d) (suc d) _ refl (λ f more l. l)
          (under (code.arguments_code ς strict cs more) (suc d) _ _ (arguments_deepen cs more (suc d))
          (λ after l. subst (λ k. Then k after) (sym (raised_more (arguments_count cs more) d)) l)))
      arguments_deepen (c ∷ cs) NoExprs d = no_code d
      arguments_deepen [] args d = no_code d

      last_deepens : (at : Place) (parts : Exprs) (d : ℕ)
          → Deepens (code.last_code ς strict at parts) d (Then (suc d))
      last_deepens at NoExprs d = pushed_deepens at _ d
      last_deepens at (AndExpr a more) d =
          further_deepens more (code.value_code ς strict a) _ d (value_deepens a d)
          (dropped_deepens a _ d (address_deepens a d))

      further_deepens : (parts : Exprs) (value effect : List Instr) (d : ℕ) → Deepens value d (Then (suc d))
          → Deepens effect d (Then d) → Deepens (code.further_code ς strict value effect parts) d (Then (suc d))
      further_deepens NoExprs value effect d x y = x
      further_deepens (AndExpr a more) value effect d x y =
          follows effect _ d d _ y
          (further_deepens more (code.value_code ς strict a) _ d (value_deepens a d)
          (dropped_deepens a _ d (address_deepens a d)))

      -- An expression for what it does alone leaves no operand.
      pub dropped_deepens : (e : Expr) (given : List Instr) (d : ℕ) → Deepens given d (Then (suc d))
          → Deepens (code.dropped_code ς strict e given) d (Then d)
      dropped_deepens (Is at attr kind) given d x =
          chosen_deepens (parts.is_lvalue attr.form) _ _ d d
          (follows given _ d (suc d) _ x
          (popped_deepens at _ (suc d) d (held_deepens strict (mean.inner_place (Is at attr kind)) attr.ctype d)))
          (dropped_kind_deepens at attr kind given d x)

      dropped_address_deepens : (e : Expr) (given : List Instr) (d : ℕ) → Deepens given d (Then (suc d))
          → Deepens (code.dropped_address_code ς strict e given) d (Then d)
      dropped_address_deepens (Is at attr kind) given d x = dropped_kind_deepens at attr kind given d x

      dropped_kind_deepens : (at : Place) (attr : Attr) (kind : ExprKind) (given : List Instr) (d : ℕ)
          → Deepens given d (Then (suc d)) → Deepens (code.dropped_kind_code ς strict at attr kind given) d (Then d)
      dropped_kind_deepens at attr (Paren a) given d x = dropped_address_deepens a given d x
      dropped_kind_deepens at attr (Step o a) given d x =
          follows (code.address_code ς strict a) _ d (suc d) _ (address_deepens a d)
          (step_effect_deepens strict at o (type_of a) d)
      dropped_kind_deepens at attr (Cast a) given d x =
          cast_effect_deepens at (type.conversion (type_of a) attr.ctype) _ given d
          (dropped_deepens a _ d (address_deepens a d)) x
      dropped_kind_deepens at attr (Comma parts) given d x = effects_deepen parts d
      dropped_kind_deepens at attr kind given d x = popped_deepens at given d d x

      effects_deepen : (parts : Exprs) (d : ℕ) → Deepens (code.effects_code ς strict parts) d (Then d)
      effects_deepen NoExprs d = no_code d
      effects_deepen (AndExpr a more) d =
          follows (code.dropped_code ς strict a (code.address_code ς strict a)) _ d d _
          (dropped_deepens a _ d (address_deepens a d)) (effects_deepen more d)

    pub effect_deepens : (e : Expr) (d : ℕ) → Deepens (code.effect_code ς strict e) d (Then d)
    effect_deepens e d = dropped_deepens e _ d (address_deepens e d)

pub expressions_are_deep : ExpressionsAreDeep
expressions_are_deep ς strict e at =
    let gives : Instr = record { place = at; does = work.Call (GiveBack 0) } in
    whole _ (ends_with (code.value_code ς strict e) gives 0 0 1 (λ more. Unit {0}) (value_deepens ς strict e 0) refl
    (λ f more l. tt))

pub effects_are_deep : EffectsAreDeep
effects_are_deep ς strict e at =
    let gives : Instr = record { place = at; does = work.Call (GiveBack 0) } in
    whole _ (follows (code.effect_code ς strict e) _ 0 0 (λ more. Unit {0}) (effect_deepens ς strict e 0)
    (begins_with (pushes at mean.no_value) (gives ∷ []) 0 0 1 (λ more. Unit {0}) refl (λ f more l. l)
    (single gives 0 1 (λ more. Unit {0}) refl (λ f more l. tt))))
