-- The code of expressions does what they do.
use Rattle.std.proofs.Common.{◌≡◌, ℕ, suc, ◌+◌, List, [], ◌∷◌, ◌++◌, length, map, Option, Some, None}
use Rattle.std.proofs.Common.{Bool, true, false, refl, sym, ap, ◌∙◌, subst, arith, ℤ, pos}
use Rattle.std.specs.Prelude.{drop, if◌then◌else◌}
use Rattle.upc_text.specs.declared.place.Place.{Place}
use Rattle.block_layout.specs.declared.kind.Kind.{Kind}
use Rattle.integers.specs.declared.operator.BinOp.{BinOp}
use Rattle.integers.specs.declared.operator.BinOp.TheVariants as op
use Rattle.integers.specs.declared.operator.UnOp.{UnOp}
use Rattle.integers.specs.declared.operator.UnOp.TheVariants as un
use Rattle.upc_values.specs.declared.scalar.Value.{Value}
use Rattle.upc_values.specs.declared.scalar.Value.TheVariants as value
use Rattle.upc_values.specs.declared.library.LibraryCall.{LibraryCall}
use Rattle.upc_types.specs.Types.{CType}
use Rattle.typing_rules.specs.declared.setting.Home.{Home}
use Rattle.typing_rules.specs.declared.setting.Home.TheVariants as home
use Rattle.typing_rules.specs.Library.{int, call_parameters}
use Rattle.typing_rules.specs.Nodes.{Attr}
use Rattle.typed_tree.specs.declared.tree.StepOperator.{StepOperator}
use Rattle.typed_tree.specs.declared.tree.StepOperator.TheVariants as step
use Rattle.typed_tree.specs.declared.tree.Target.TheVariants as target
use Rattle.typed_tree.specs.Tree.{Expr, Is, ExprKind, Literal, Mythread, Object, Callee, Format, Paren, Subscript}
use Rattle.typed_tree.specs.Tree.{Call, Member, MemberBehind, Step, Address, Dereference, Unary, SizeOf, SizeOfType}
use Rattle.typed_tree.specs.Tree.{Cast, Binary, And, Or, Assign, Compound, Conditional, Comma, Exprs, NoExprs}
use Rattle.typed_tree.specs.Tree.{AndExpr, place_of}
use Rattle.thread_steps.specs.declared.cast.CastTo.{CastTo}
use Rattle.thread_steps.specs.declared.cast.CastTo.TheVariants as to
use Rattle.thread_steps.specs.States.{Thread, State, Res, Val, Over, Unfinished, bind, Doing, ◌>>=◌, ◌>>◌, give, choose}
use Rattle.thread_steps.specs.Values.{number, number_of, truth_value, is_zero}
use Rattle.thread_steps.specs.Pointers.{in_row, same}
use Rattle.thread_steps.specs.Operators.{cast}
use Rattle.thread_steps.specs.Library.{library, print}
use Rattle.source_meaning.specs.Types as type
use Rattle.source_meaning.specs.Running.{Running, parameters_of}
use Rattle.source_meaning.specs.Expressions as mean
use Rattle.source_meaning.specs.layer.Parts as parts
use Rattle.source_meaning.specs.Expressions.{Calls, type_of, types_of, no_value}
use Rattle.stack_code.specs.declared.instruction.StackWork.TheVariants as stack
use Rattle.stack_code.specs.declared.instruction.ValueWork.TheVariants as make
use Rattle.stack_code.specs.declared.instruction.CallWork.TheVariants.{CallTo}
use Rattle.stack_code.specs.declared.instruction.ThreadWork.TheVariants as thread
use Rattle.stack_code.specs.declared.instruction.Operation.TheVariants as work
use Rattle.stack_code.specs.declared.instruction.Instr.{Instr}
use Rattle.stack_code.specs.layer.Steps.{Spot, conf_of, act, further}
use Rattle.stack_code.specs.layer.Meets.{piled, there}
use Rattle.stack_code.proofs.Meetings.{piled_more, youngest_piled, below_piled}
use Rattle.gen_expr.specs.layer.Sources.{source_of}
use Rattle.gen_expr.specs.layer.Codes as code
use Rattle.gen_expr.specs.layer.Codes.{pushes, casts, makes, stacks, arguments_count}
use Rattle.gen_expr.specs.layer.Meanings.{CallsMeet, ExpressionsAreMeant, EffectsAreMeant}
use Rattle.gen_expr.proofs.Parts as part
use Rattle.gen_expr.proofs.Parts.{Runs, Gives, then_gives}

-- A value over other operands.
abbrev pub onto : List Value → Value → List Value
onto operands v = v ∷ operands

-- No value over other operands.
abbrev pub none_onto : List Value → Value → List Value
none_onto operands v = operands

-- A value that is given as it came.
bind_give : {A : Type 0} (r : Res A) → r ≡ bind r give
bind_give (Val a σ) = refl
bind_give (Over told σ) = refl
bind_give Unfinished = refl

-- A cast into void has no run error.
cast_nothing : (τ : Thread) (at : Place) (r : Res Value)
    → bind r (λ v. give (number (pos 0))) ≡ bind r (λ v. cast τ to.Nothing at v)
unfolding cast
cast_nothing τ at (Val v σ) = refl
cast_nothing τ at (Over told σ) = refl
cast_nothing τ at Unfinished = refl

-- The test of a row, as the instruction has it.
row_same : (at : Place) (count : ℕ) (p : Value) (i : ℤ) (σ : State)
    → in_row count at p i σ ≡ parts.within_row at p i (Some count) σ
row_same at count (value.Scalar v) i σ = refl
row_same at count (value.Local p) i σ = refl

module _ (ρ : Running) (functions : List (List Instr)) where
  -- The code leaves the value of m over the operands.
  abbrev pub Leaves : List Instr → List Value → Doing Value → Type 0
  Leaves c operands m = Runs ρ.thread functions Value c operands (onto operands) m

  -- One instruction that leaves the value of a step in the place of operands.
  makes_one : (i : Instr) (given operands : List Value) (m : Doing Value)
      → ((at : Spot) (calls : List Spot) (σ : State)
      → act ρ.thread (Some i) at [] given calls σ ≡ conf_of (m σ) (λ v. there (further 1 at) (v ∷ operands) calls))
      → Runs ρ.thread functions Value (i ∷ []) given (onto operands) m
  makes_one i given operands m e = part.one_runs ρ.thread functions Value i given (onto operands) m e

  -- The code does m and leaves no operand.
  abbrev pub Drops : List Instr → List Value → Doing Value → Type 0
  Drops c operands m = Runs ρ.thread functions Value c operands (none_onto operands) m

  -- What m gives is removed.
  popped_runs : (at : Place) (c : List Instr) (given operands : List Value) (m : Doing Value)
      → Runs ρ.thread functions Value c given (onto operands) m
      → Runs ρ.thread functions Value (code.popped_code at c) given (none_onto operands) m
  popped_runs at c given operands m x =
      part.told_runs ρ.thread functions Value _ given (none_onto operands) (m >>= give) m
      (λ σ. sym (bind_give (m σ)))
      (part.then_runs ρ.thread functions Value Value c (stacks at stack.Pop ∷ []) given (onto operands)
      (none_onto operands) m give x
      (λ v. part.stack_runs ρ.thread functions Value at stack.Pop [] (v ∷ operands) (none_onto operands) _
      (part.none_runs ρ.thread functions Value v (none_onto operands))))

  -- A conversion, from what its operand does and from its value.
  cast_effect_runs : (at : Place) (into : CastTo) (operand value : List Instr) (operands : List Value)
      (m : Doing Value) → Drops operand operands m → Leaves value operands (m >>= (λ v. cast ρ.thread into at v))
      → Drops (code.cast_effect_code at into operand value) operands (m >>= (λ v. cast ρ.thread into at v))
  cast_effect_runs at to.Nothing operand value operands m x y =
      part.told_runs ρ.thread functions Value operand operands (none_onto operands)
      (m >>= (λ v. give (number (pos 0)))) _ (λ σ. cast_nothing ρ.thread at (m σ))
      (part.ends_runs ρ.thread functions Value Value operand operands (none_onto operands) (none_onto operands) m
      (λ v. number (pos 0)) (λ v. refl) x)
  cast_effect_runs at into operand value operands m x y = popped_runs at value operands operands _ y

  -- A value that is known.
  pub pushed : (at : Place) (v : Value) (operands : List Value) → Leaves (pushes at v ∷ []) operands (give v)
  pushed at v operands =
      part.stack_runs ρ.thread functions Value at (stack.Push v) [] operands (onto operands) (give v)
      (part.none_runs ρ.thread functions Value v (onto operands))

  pub cast_runs : (at : Place) (into : CastTo) (v : Value) (operands : List Value)
      → Runs ρ.thread functions Value (casts at into ∷ []) (v ∷ operands) (onto operands) (cast ρ.thread into at v)
  cast_runs at into v operands = makes_one _ (v ∷ operands) operands _ (λ here calls σ. refl)

  unary_runs : (at : Place) (o : UnOp) (kind : Option Kind) (v : Value) (operands : List Value)
      → Runs ρ.thread functions Value (code.unary_code at o kind) (v ∷ operands) (onto operands)
      (mean.unary at o kind v)
  unary_runs at un.Not kind v operands =
      part.stack_runs ρ.thread functions Value at stack.Not [] (v ∷ operands) (onto operands) _
      (part.none_runs ρ.thread functions Value (truth_value (is_zero v)) (onto operands))
  unary_runs at o (Some kind) v operands = makes_one _ (v ∷ operands) operands _ (λ here calls σ. refl)
  unary_runs at o None v operands =
      part.stack_runs ρ.thread functions Value at stack.Pop _ (v ∷ operands) (onto operands) _
      (pushed at no_value operands)

  no_value_runs : (at : Place) (x y : Value) (operands : List Value)
      → Runs ρ.thread functions Value (code.no_value_code at) (y ∷ (x ∷ operands)) (onto operands) (give no_value)
  no_value_runs at x y operands =
      part.stack_runs ρ.thread functions Value at stack.Pop _ (y ∷ (x ∷ operands)) (onto operands) _
      (part.stack_runs ρ.thread functions Value at stack.Pop _ (x ∷ operands) (onto operands) _
      (pushed at no_value operands))

  integers_run : (at : Place) (o : BinOp) (j k : Option Kind) (x y : Value) (operands : List Value)
      → Runs ρ.thread functions Value (code.integers_code at o j k) (y ∷ (x ∷ operands)) (onto operands)
      (parts.integers at o j k x y)
  integers_run at o (Some j) (Some k) x y operands =
      makes_one _ (y ∷ (x ∷ operands)) operands _ (λ here calls σ. refl)
  integers_run at o (Some j) None x y operands = no_value_runs at x y operands
  integers_run at o None k x y operands = no_value_runs at x y operands

  pub advance_runs : (at : Place) (t : CType) (p i : Value) (operands : List Value)
      → Runs ρ.thread functions Value (code.advance_code (source_of ρ) at t) (i ∷ (p ∷ operands)) (onto operands)
      (mean.behind ρ at t p (number_of i))
  advance_runs at t p i operands = makes_one _ (i ∷ (p ∷ operands)) operands _ (λ here calls σ. refl)

  on_pointers_run : (at : Place) (o : BinOp) (t : CType) (x y : Value) (operands : List Value)
      → Runs ρ.thread functions Value (code.on_pointers_code (source_of ρ) at o t) (y ∷ (x ∷ operands))
      (onto operands) (mean.on_pointers ρ at o t x y)
  on_pointers_run at op.Subtract t x y operands =
      makes_one _ (y ∷ (x ∷ operands)) operands _ (λ here calls σ. refl)
  on_pointers_run at op.Equal t x y operands = makes_one _ (y ∷ (x ∷ operands)) operands _ (λ here calls σ. refl)
  on_pointers_run at op.NotEqual t x y operands =
      part.then_runs ρ.thread functions Value Value (makes at make.Same ∷ []) _ (y ∷ (x ∷ operands)) (onto operands)
      (onto operands) (same ρ.thread x y) _
      (makes_one _ (y ∷ (x ∷ operands)) operands _ (λ here calls σ. refl))
      (λ v. part.stack_runs ρ.thread functions Value at stack.Not [] (v ∷ operands) (onto operands) _
      (part.none_runs ρ.thread functions Value (truth_value (is_zero v)) (onto operands)))
  on_pointers_run at o t x y operands = makes_one _ (y ∷ (x ∷ operands)) operands _ (λ here calls σ. refl)

  on_pointer_runs : (at : Place) (o : BinOp) (t : CType) (x y : Value) (operands : List Value)
      → Runs ρ.thread functions Value (code.on_pointer_code (source_of ρ) at o t) (y ∷ (x ∷ operands)) (onto operands)
      (parts.on_pointer ρ at t x y o)
  on_pointer_runs at op.Add t x y operands = advance_runs at t x y operands
  on_pointer_runs at op.Subtract t x y operands =
      makes_one _ (y ∷ (x ∷ operands)) operands _ (λ here calls σ. refl)
  on_pointer_runs at o t x y operands = on_pointers_run at o t x y operands

  before_pointer_runs : (at : Place) (o : BinOp) (t : CType) (x y : Value) (operands : List Value)
      → Runs ρ.thread functions Value (code.before_pointer_code (source_of ρ) at o t) (y ∷ (x ∷ operands))
      (onto operands) (parts.before_pointer ρ at t x y o)
  before_pointer_runs at op.Add t x y operands =
      part.stack_runs ρ.thread functions Value at stack.Swap _ (y ∷ (x ∷ operands)) (onto operands) _
      (advance_runs at t y x operands)
  before_pointer_runs at o t x y operands = on_pointers_run at o t x y operands

  operated_runs : (at : Place) (o : BinOp) (left right : Option CType) (j k : Option Kind) (x y : Value)
      (operands : List Value)
      → Runs ρ.thread functions Value (code.operated_code (source_of ρ) at o left right j k) (y ∷ (x ∷ operands))
      (onto operands) (mean.operated ρ at o left right j k x y)
  operated_runs at o (Some t) (Some u) j k x y operands = on_pointers_run at o t x y operands
  operated_runs at o (Some t) None j k x y operands = on_pointer_runs at o t x y operands
  operated_runs at o None (Some u) j k x y operands = before_pointer_runs at o u x y operands
  operated_runs at o None None j k x y operands = integers_run at o j k x y operands

  pub binary_runs : (at : Place) (o : BinOp) (left right : CType) (x y : Value) (operands : List Value)
      → Runs ρ.thread functions Value (code.binary_code (source_of ρ) at o left right) (y ∷ (x ∷ operands))
      (onto operands) (mean.binary ρ at o left right x y)
  binary_runs at o left right x y operands =
      operated_runs at o (type.target_of left) (type.target_of right) (type.integer_of left) (type.integer_of right) x y
      operands

  loaded_runs : (strict : Bool) (at : Place) (t : CType) (kind : Option Kind) (p : Value) (operands : List Value)
      → Runs ρ.thread functions Value (code.loaded_code (source_of ρ) strict at t kind) (p ∷ operands) (onto operands)
      (parts.loaded ρ strict at t p kind)
  loaded_runs strict at t (Some kind) p operands = makes_one _ (p ∷ operands) operands _ (λ here calls σ. refl)
  loaded_runs strict at t None p operands = part.none_runs ρ.thread functions Value p (onto operands)

  -- The value of the object at the place on top.
  pub held_runs : (strict : Bool) (at : Place) (t : CType) (p : Value) (operands : List Value)
      → Runs ρ.thread functions Value (code.held_code (source_of ρ) strict at t) (p ∷ operands) (onto operands)
      (mean.held ρ strict at t p)
  held_runs strict at t p operands = loaded_runs strict at t (type.cell_kind ρ.structs t) p operands

  saved_runs : (strict : Bool) (at : Place) (t : CType) (kind : Option Kind) (p v : Value) (operands : List Value)
      → Runs ρ.thread functions (Unit {0}) (code.saved_code (source_of ρ) strict at t kind) (v ∷ (p ∷ operands))
      (λ _. v ∷ operands) (parts.saved ρ strict at t p v kind)
  saved_runs strict at t (Some kind) p v operands =
      part.one_runs ρ.thread functions (Unit {0}) _ (v ∷ (p ∷ operands)) (λ _. v ∷ operands) _ (λ here calls σ. refl)
  saved_runs strict at t None p v operands =
      part.stack_runs ρ.thread functions (Unit {0}) at stack.Swap _ (v ∷ (p ∷ operands)) (λ _. v ∷ operands) _
      (part.stack_runs ρ.thread functions (Unit {0}) at stack.Pop [] (p ∷ (v ∷ operands)) (λ _. v ∷ operands) _
      (part.none_runs ρ.thread functions (Unit {0}) tt (λ _. v ∷ operands)))

  -- The value on top is kept at the place below it, and stays.
  pub put_runs : (strict : Bool) (at : Place) (t : CType) (p v : Value) (operands : List Value)
      → Runs ρ.thread functions (Unit {0}) (code.put_code (source_of ρ) strict at t) (v ∷ (p ∷ operands))
      (λ _. v ∷ operands) (mean.put ρ strict at t p v)
  put_runs strict at t p v operands = saved_runs strict at t (type.cell_kind ρ.structs t) p v operands

  -- The same, and the value is given.
  put_gives : (strict : Bool) (at : Place) (t : CType) (p v : Value) (operands : List Value)
      → Runs ρ.thread functions Value (code.put_code (source_of ρ) strict at t) (v ∷ (p ∷ operands)) (onto operands)
      (mean.put ρ strict at t p v >> give v)
  put_gives strict at t p v operands =
      part.ends_runs ρ.thread functions (Unit {0}) Value _ (v ∷ (p ∷ operands)) (λ _. v ∷ operands) (onto operands)
      (mean.put ρ strict at t p v) (λ _. v) (λ _. refl) (put_runs strict at t p v operands)

  -- A conversion of the value on top, which is then kept at the place below it and given.
  pub cast_put : (strict : Bool) (here at : Place) (into : CastTo) (t : CType) (p w : Value) (operands : List Value)
      → Runs ρ.thread functions Value (casts here into ∷ code.put_code (source_of ρ) strict at t) (w ∷ (p ∷ operands))
      (onto operands) (cast ρ.thread into here w >>= (λ u. mean.put ρ strict at t p u >> give u))
  cast_put strict here at into t p w operands =
      part.then_runs ρ.thread functions Value Value (casts here into ∷ []) _ (w ∷ (p ∷ operands)) (onto (p ∷ operands))
      (onto operands) (cast ρ.thread into here w) _ (cast_runs here into w (p ∷ operands))
      (λ u. put_gives strict at t p u operands)

  value_in_runs : (strict : Bool) (at : Place) (t : CType) (b : Bool) (v : Value) (operands : List Value)
      → Runs ρ.thread functions Value (if b then code.held_code (source_of ρ) strict at t else []) (v ∷ operands)
      (onto operands) (choose b (mean.held ρ strict at t v) (give v))
  value_in_runs strict at t true v operands = held_runs strict at t v operands
  value_in_runs strict at t false v operands = part.none_runs ρ.thread functions Value v (onto operands)

  pub object_runs : (at : Place) (h : Home) (operands : List Value)
      → Leaves (code.object_code (source_of ρ) at h) operands (mean.object ρ h)
  object_runs at (home.Private n) operands = pushed at _ operands
  object_runs at (home.Shared n) operands = pushed at _ operands
  object_runs at (home.Local n) operands = makes_one _ operands operands _ (λ here calls σ. refl)

  -- The place that a subscript names.
  subscript_runs : (at : Place) (t : CType) (d : Option ℕ) (p i : Value) (operands : List Value)
      → Runs ρ.thread functions Value (code.subscript_code (source_of ρ) at t d) (i ∷ (p ∷ operands)) (onto operands)
      (mean.behind ρ at t p (number_of i) >>= (λ q. parts.within_row at p (number_of i) d >> give q))
  subscript_runs at t None p i operands =
      part.ends_runs ρ.thread functions Value Value _ (i ∷ (p ∷ operands)) (onto operands) (onto operands)
      (mean.behind ρ at t p (number_of i)) (λ q. q) (λ q. refl) (advance_runs at t p i operands)
  subscript_runs at t (Some count) p i operands =
      part.stack_runs ρ.thread functions Value at stack.Over _ (i ∷ (p ∷ operands)) (onto operands) _
      (part.stack_runs ρ.thread functions Value at stack.Over _ (p ∷ (i ∷ (p ∷ operands))) (onto operands) _
      (part.then_runs ρ.thread functions Value Value (code.advance_code (source_of ρ) at t) _
      (i ∷ (p ∷ (i ∷ (p ∷ operands)))) (onto (i ∷ (p ∷ operands))) (onto operands)
      (mean.behind ρ at t p (number_of i)) _ (advance_runs at t p i (i ∷ (p ∷ operands)))
      (λ q. part.ends_runs ρ.thread functions (Unit {0}) Value _ (q ∷ (i ∷ (p ∷ operands))) (λ _. q ∷ operands)
      (onto operands) (parts.within_row at p (number_of i) (Some count)) (λ _. q) (λ _. refl)
      (part.told_runs ρ.thread functions (Unit {0}) _ (q ∷ (i ∷ (p ∷ operands))) (λ _. q ∷ operands)
      (in_row count at p (number_of i)) _ (λ σ. row_same at count p (number_of i) σ)
      (part.one_runs ρ.thread functions (Unit {0}) _ (q ∷ (i ∷ (p ∷ operands))) (λ _. q ∷ operands)
      (in_row count at p (number_of i)) (λ here calls σ. refl))))))

  -- ---- ++ and --, and compound assignments

  -- What a step does with the place on top, up to its new value.
  abbrev Stepped : Bool → Place → BinOp → CType → Value → (Value → Value → Value) → Doing Value
  Stepped strict at o t p choice = do
    v ← mean.held ρ strict at t p
    w ← mean.binary ρ at o t int v (number (pos 1))
    u ← cast ρ.thread (type.conversion t t) at w
    mean.put ρ strict at t p u
    give (choice v u)

  first_step_runs : (strict : Bool) (at : Place) (o : BinOp) (t : CType) (p : Value) (operands : List Value)
      → Runs ρ.thread functions Value (code.first_step_code (source_of ρ) strict at o t) (p ∷ operands)
      (onto operands) (Stepped strict at o t p (λ v u. u))
  first_step_runs strict at o t p operands =
      part.stack_runs ρ.thread functions Value at stack.Copy _ (p ∷ operands) (onto operands) _
      (part.then_runs ρ.thread functions Value Value (code.held_code (source_of ρ) strict at t) _ (p ∷ (p ∷ operands))
      (onto (p ∷ operands)) (onto operands) (mean.held ρ strict at t p) _ (held_runs strict at t p (p ∷ operands))
      (λ v. part.stack_runs ρ.thread functions Value at (stack.Push (number (pos 1))) _ (v ∷ (p ∷ operands))
      (onto operands) _
      (part.then_runs ρ.thread functions Value Value (code.binary_code (source_of ρ) at o t int) _
      (number (pos 1) ∷ (v ∷ (p ∷ operands))) (onto (p ∷ operands)) (onto operands)
      (mean.binary ρ at o t int v (number (pos 1))) _ (binary_runs at o t int v (number (pos 1)) (p ∷ operands))
      (λ w. cast_put strict at at (type.conversion t t) t p w operands))))

  after_step_runs : (strict : Bool) (at : Place) (o : BinOp) (t : CType) (p : Value) (operands : List Value)
      → Runs ρ.thread functions Value (code.after_step_code (source_of ρ) strict at o t) (p ∷ operands)
      (onto operands) (Stepped strict at o t p (λ v u. v))
  after_step_runs strict at o t p operands =
      let one = number (pos 1) in
      part.stack_runs ρ.thread functions Value at stack.Copy _ (p ∷ operands) (onto operands) _
      (part.then_runs ρ.thread functions Value Value (code.held_code (source_of ρ) strict at t) _ (p ∷ (p ∷ operands))
      (onto (p ∷ operands)) (onto operands) (mean.held ρ strict at t p) _ (held_runs strict at t p (p ∷ operands))
      (λ v. part.stack_runs ρ.thread functions Value at stack.Swap _ (v ∷ (p ∷ operands)) (onto operands) _
      (part.stack_runs ρ.thread functions Value at stack.Over _ (p ∷ (v ∷ operands)) (onto operands) _
      (part.stack_runs ρ.thread functions Value at (stack.Push one) _ (v ∷ (p ∷ (v ∷ operands))) (onto operands) _
      (part.then_runs ρ.thread functions Value Value (code.binary_code (source_of ρ) at o t int) _
      (one ∷ (v ∷ (p ∷ (v ∷ operands)))) (onto (p ∷ (v ∷ operands))) (onto operands)
      (mean.binary ρ at o t int v one) _ (binary_runs at o t int v one (p ∷ (v ∷ operands)))
      (λ w. part.then_runs ρ.thread functions Value Value (casts at (type.conversion t t) ∷ []) _
      (w ∷ (p ∷ (v ∷ operands))) (onto (p ∷ (v ∷ operands))) (onto operands)
      (cast ρ.thread (type.conversion t t) at w) _ (cast_runs at (type.conversion t t) w (p ∷ (v ∷ operands)))
      (λ u. part.then_runs ρ.thread functions (Unit {0}) Value (code.put_code (source_of ρ) strict at t) _
      (u ∷ (p ∷ (v ∷ operands))) (λ _. u ∷ (v ∷ operands)) (onto operands) (mean.put ρ strict at t p u) _
      (put_runs strict at t p u (v ∷ operands))
      (λ _. part.stack_runs ρ.thread functions Value at stack.Pop [] (u ∷ (v ∷ operands)) (onto operands) _
      (part.none_runs ρ.thread functions Value v (onto operands))))))))))

  step_runs : (strict : Bool) (at : Place) (o : StepOperator) (t : CType) (p : Value) (operands : List Value)
      → Runs ρ.thread functions Value (code.step_code (source_of ρ) strict at o t) (p ∷ operands) (onto operands)
      (Stepped strict at (mean.step_operator ρ o) t p (λ old new. parts.step_value old new o))
  step_runs strict at step.IncrementFirst t p operands = first_step_runs strict at op.Add t p operands
  step_runs strict at step.DecrementFirst t p operands = first_step_runs strict at op.Subtract t p operands
  step_runs strict at step.IncrementAfter t p operands = after_step_runs strict at op.Add t p operands
  step_runs strict at step.DecrementAfter t p operands = after_step_runs strict at op.Subtract t p operands

  plain_step_runs : (strict : Bool) (at : Place) (o : BinOp) (t : CType) (p : Value) (choice : Value → Value → Value)
      (operands : List Value)
      → Runs ρ.thread functions Value (code.plain_step_code (source_of ρ) strict at o t) (p ∷ operands)
      (none_onto operands) (Stepped strict at o t p choice)
  plain_step_runs strict at o t p choice operands =
      let one = number (pos 1) in
      part.stack_runs ρ.thread functions Value at stack.Copy _ (p ∷ operands) (none_onto operands) _
      (part.then_runs ρ.thread functions Value Value (code.held_code (source_of ρ) strict at t) _ (p ∷ (p ∷ operands))
      (onto (p ∷ operands)) (none_onto operands) (mean.held ρ strict at t p) _ (held_runs strict at t p (p ∷ operands))
      (λ v. part.stack_runs ρ.thread functions Value at (stack.Push one) _ (v ∷ (p ∷ operands)) (none_onto operands) _
      (part.then_runs ρ.thread functions Value Value (code.binary_code (source_of ρ) at o t int) _
      (one ∷ (v ∷ (p ∷ operands))) (onto (p ∷ operands)) (none_onto operands)
      (mean.binary ρ at o t int v one) _ (binary_runs at o t int v one (p ∷ operands))
      (λ w. part.then_runs ρ.thread functions Value Value (casts at (type.conversion t t) ∷ []) _ (w ∷ (p ∷ operands))
      (onto (p ∷ operands)) (none_onto operands) (cast ρ.thread (type.conversion t t) at w) _
      (cast_runs at (type.conversion t t) w (p ∷ operands))
      (λ u. part.then_runs ρ.thread functions (Unit {0}) Value (code.put_code (source_of ρ) strict at t) _
      (u ∷ (p ∷ operands)) (λ _. u ∷ operands) (none_onto operands) (mean.put ρ strict at t p u) _
      (put_runs strict at t p u operands)
      (λ _. part.stack_runs ρ.thread functions Value at stack.Pop [] (u ∷ operands) (none_onto operands) _
      (part.none_runs ρ.thread functions Value (choice v u) (none_onto operands))))))))

  step_effect_runs : (strict : Bool) (at : Place) (o : StepOperator) (t : CType) (p : Value) (operands : List Value)
      → Runs ρ.thread functions Value (code.step_effect_code (source_of ρ) strict at o t) (p ∷ operands)
      (none_onto operands) (Stepped strict at (mean.step_operator ρ o) t p (λ old new. parts.step_value old new o))
  step_effect_runs strict at step.IncrementFirst t p operands =
      plain_step_runs strict at op.Add t p (λ v u. u) operands
  step_effect_runs strict at step.DecrementFirst t p operands =
      plain_step_runs strict at op.Subtract t p (λ v u. u) operands
  step_effect_runs strict at step.IncrementAfter t p operands =
      plain_step_runs strict at op.Add t p (λ v u. v) operands
  step_effect_runs strict at step.DecrementAfter t p operands =
      plain_step_runs strict at op.Subtract t p (λ v u. v) operands

  compound_runs : (strict : Bool) (at : Place) (o : BinOp) (t u : CType) (p y : Value) (operands : List Value)
      → Runs ρ.thread functions Value (code.compound_code (source_of ρ) strict at o t u) (y ∷ (p ∷ operands))
      (onto operands)
      (mean.held ρ strict at t p >>= (λ x. mean.binary ρ at o t u x y >>= (λ z.
      cast ρ.thread (type.conversion t t) at z >>= (λ w. mean.put ρ strict at t p w >> give w))))
  compound_runs strict at o t u p y operands =
      part.stack_runs ρ.thread functions Value at stack.Over _ (y ∷ (p ∷ operands)) (onto operands) _
      (part.then_runs ρ.thread functions Value Value (code.held_code (source_of ρ) strict at t) _
      (p ∷ (y ∷ (p ∷ operands))) (onto (y ∷ (p ∷ operands))) (onto operands) (mean.held ρ strict at t p) _
      (held_runs strict at t p (y ∷ (p ∷ operands)))
      (λ x. part.stack_runs ρ.thread functions Value at stack.Swap _ (x ∷ (y ∷ (p ∷ operands))) (onto operands) _
      (part.then_runs ρ.thread functions Value Value (code.binary_code (source_of ρ) at o t u) _
      (y ∷ (x ∷ (p ∷ operands))) (onto (p ∷ operands)) (onto operands) (mean.binary ρ at o t u x y) _
      (binary_runs at o t u x y (p ∷ operands))
      (λ z. cast_put strict at at (type.conversion t t) t p z operands))))

  -- ---- parts of expressions

  -- Truth after a value.
  truth_runs : (at : Place) (c : List Instr) (operands : List Value) (m : Doing Value) → Leaves c operands m
      → Leaves (c ++ (stacks at stack.Truth ∷ [])) operands (mean.truth_after ρ m)
  truth_runs at c operands m x =
      part.then_runs ρ.thread functions Value Value c _ operands (onto operands) (onto operands) m _ x
      (λ v. part.stack_runs ρ.thread functions Value at stack.Truth [] (v ∷ operands) (onto operands) _
      (part.none_runs ρ.thread functions Value _ (onto operands)))

  -- A conversion after a value.
  pub converted_runs : (t : CType) (a : Expr) (c : List Instr) (operands : List Value) (m : Doing Value)
      → Leaves c operands m
      → Leaves (c ++ (casts (place_of a) (type.conversion (type_of a) t) ∷ [])) operands (mean.converted_to ρ t a m)
  converted_runs t a c operands m x =
      part.then_runs ρ.thread functions Value Value c _ operands (onto operands) (onto operands) m _ x
      (λ v. cast_runs (place_of a) (type.conversion (type_of a) t) v operands)

  -- Either of two parts, by a test of the source alone.
  chosen_runs : (b : Bool) (c d : List Instr) (operands : List Value) (m n : Doing Value) → Leaves c operands m
      → Leaves d operands n → Leaves (if b then c else d) operands (choose b m n)
  chosen_runs true c d operands m n x y = x
  chosen_runs false c d operands m n x y = y

  -- An expression for what it does, where an lvalue is read.
  dropped_in_runs : (strict : Bool) (at inner : Place) (t : CType) (b : Bool) (given effect : List Instr)
      (operands : List Value) (m : Doing Value) → Leaves given operands m → Drops effect operands m
      → Drops (if b then given ++ code.popped_code at (code.held_code (source_of ρ) strict inner t) else effect)
      operands
      (m >>= (λ v. choose b (mean.held ρ strict inner t v) (give v)))
  dropped_in_runs strict at inner t true given effect operands m x y =
      part.then_runs ρ.thread functions Value Value given _ operands (onto operands) (none_onto operands) m _ x
      (λ v. popped_runs at _ (v ∷ operands) operands _ (held_runs strict inner t v operands))
  dropped_in_runs strict at inner t false given effect operands m x y =
      part.told_runs ρ.thread functions Value effect operands (none_onto operands) m (m >>= give)
      (λ σ. bind_give (m σ)) y

  -- A call of the library, or of printf, with its arguments on top.
  library_runs : (at : Place) (c : LibraryCall) (shape n : ℕ) (vs operands : List Value) → length vs ≡ n
      → Runs ρ.thread functions Value
      (record { place = at; does = work.Thread (thread.Library c shape n) } ∷ []) (piled vs operands) (onto operands)
      (library ρ.thread c shape at vs)
  library_runs at c shape n vs operands e =
      makes_one _ (piled vs operands) operands (library ρ.thread c shape at vs) (λ here calls σ.
      ap (λ (ws : List Value). conf_of (library ρ.thread c shape at ws σ)
      (λ v. there (further 1 here) (v ∷ drop n (piled vs operands)) calls)) (youngest_piled vs operands n e)
      ∙ ap (λ (l : List Value). conf_of (library ρ.thread c shape at vs σ) (λ v. there (further 1 here) (v ∷ l) calls))
      (below_piled vs operands n e))

  print_runs : (at : Place) (format : List ℕ) (n : ℕ) (vs operands : List Value) → length vs ≡ n
      → Runs ρ.thread functions Value
      (record { place = at; does = work.Thread (thread.Print format n) } ∷ []) (piled vs operands) (onto operands)
      (print ρ.thread format vs)
  print_runs at format n vs operands e =
      makes_one _ (piled vs operands) operands (print ρ.thread format vs) (λ here calls σ.
      ap (λ (ws : List Value). conf_of (print ρ.thread format ws σ)
      (λ v. there (further 1 here) (v ∷ drop n (piled vs operands)) calls)) (youngest_piled vs operands n e)
      ∙ ap (λ (l : List Value). conf_of (print ρ.thread format vs σ) (λ v. there (further 1 here) (v ∷ l) calls))
      (below_piled vs operands n e))

  -- ---- expressions, where calls of functions are met
  module _ (call : Calls) (calls : CallsMeet ρ functions call) (strict : Bool) where
    call_runs : (at : Place) (f n : ℕ) (vs operands : List Value) → length vs ≡ n
        → Runs ρ.thread functions Value (record { place = at; does = work.Call (CallTo (suc f) n) } ∷ [])
        (piled vs operands) (onto operands) (call f vs at)
    call_runs at f n vs operands e =
        subst (λ (k : ℕ). Runs ρ.thread functions Value
        (record { place = at; does = work.Call (CallTo (suc f) k) } ∷ []) (piled vs operands) (onto operands)
        (call f vs at)) e
        (record { by = λ here active σ has. calls f vs at here operands active σ has.0 })

    -- As many values come as are counted.
    counted : (cs : List CastTo) (args : Exprs) (before : List Value) (n : ℕ) → length before ≡ n
        → Gives (List Value) (λ vs. length vs ≡ n + arguments_count cs args)
        (mean.arguments ρ call strict cs args before)
    counted (c ∷ cs) (AndExpr a more) before n e =
        then_gives Value (List Value) _ (mean.value ρ call strict a) _ (λ v.
        then_gives Value (List Value) _ (cast ρ.thread c (place_of a) v) _ (λ w.
        let long : length (before ++ (w ∷ [])) ≡ n + 1 = omega (arith, part.length_after before w) in
        let same : n + 1 + arguments_count cs more ≡ n + (1 + arguments_count cs more) = omega arith in
        subst (λ (k : ℕ). Gives (List Value) (λ vs. length vs ≡ k)
        (mean.arguments ρ call strict cs more (before ++ (w ∷ [])))) same
        (counted cs more (before ++ (w ∷ [])) (n + 1) long)))
    counted (c ∷ cs) NoExprs before n e = record { by = λ σ. let k : length before ≡ n + 0 = omega arith in k }
    counted [] args before n e = record { by = λ σ. let k : length before ≡ n + 0 = omega arith in k }

    -- The same from none.
    all_counted : (cs : List CastTo) (args : Exprs)
        → Gives (List Value) (λ vs. length vs ≡ arguments_count cs args) (mean.arguments ρ call strict cs args [])
    all_counted cs args =
        let same : 0 + arguments_count cs args ≡ arguments_count cs args = omega arith in
        subst (λ (k : ℕ). Gives (List Value) (λ vs. length vs ≡ k) (mean.arguments ρ call strict cs args [])) same
        (counted cs args [] 0 refl)

    mutual
      pub value_runs : (e : Expr) (operands : List Value)
          → Leaves (code.value_code (source_of ρ) strict e) operands (mean.value ρ call strict e)
      value_runs (Is at attr kind) operands =
          part.then_runs ρ.thread functions Value Value (code.given_code (source_of ρ) strict at attr kind) _ operands
          (onto operands) (onto operands) (mean.given ρ call strict at attr kind) _ (given_runs at attr kind operands)
          (λ v. value_in_runs strict (mean.inner_place (Is at attr kind)) attr.ctype
          (parts.is_lvalue attr.form) v operands)

      pub address_runs : (e : Expr) (operands : List Value)
          → Leaves (code.address_code (source_of ρ) strict e) operands (mean.address ρ call strict e)
      address_runs (Is at attr kind) operands = given_runs at attr kind operands

      given_runs : (at : Place) (attr : Attr) (kind : ExprKind) (operands : List Value)
          → Leaves (code.given_code (source_of ρ) strict at attr kind) operands (mean.given ρ call strict at attr kind)
      given_runs at attr Literal operands = pushed at _ operands
      given_runs at attr Mythread operands =
          part.stack_runs ρ.thread functions Value at stack.Me [] operands (onto operands) _
          (part.none_runs ρ.thread functions Value _ (onto operands))
      given_runs at attr (SizeOf o a) operands = pushed at _ operands
      given_runs at attr (SizeOfType o t) operands = pushed at _ operands
      given_runs at attr (Object h) operands = object_runs at h operands
      given_runs at attr (Callee callee) operands = pushed at _ operands
      given_runs at attr (Format bytes) operands = pushed at _ operands
      given_runs at attr (Paren a) operands = address_runs a operands
      given_runs at attr (Subscript a i) operands =
          part.then_runs ρ.thread functions Value Value (code.value_code (source_of ρ) strict a) _ operands
          (onto operands) (onto operands) (mean.value ρ call strict a) _ (value_runs a operands)
          (λ p. part.then_runs ρ.thread functions Value Value (code.value_code (source_of ρ) strict i) _ (p ∷ operands)
          (onto (p ∷ operands)) (onto operands) (mean.value ρ call strict i) _ (value_runs i (p ∷ operands))
          (λ n. subscript_runs at attr.ctype (mean.dimension a) p n operands))
      given_runs at attr (Call (target.Function f) args) operands =
          let cs = type.conversions (types_of args) (parameters_of ρ f) in
          part.then_runs_with ρ.thread functions (List Value) Value (λ vs. length vs ≡ arguments_count cs args)
          (code.arguments_code (source_of ρ) strict cs args) _ operands (λ vs. piled vs operands) (onto operands)
          (mean.arguments ρ call strict cs args []) _ (all_counted cs args) (arguments_run cs args [] operands)
          (λ vs e. call_runs at f (arguments_count cs args) vs operands e)
      given_runs at attr (Call (target.Library c) args) operands =
          let cs = map type.parameter_conversion (call_parameters c) in
          chosen_runs (parts.is_printf c) _ _ operands (mean.printed ρ call strict args) _
          (printed_runs at args operands)
          (part.then_runs_with ρ.thread functions (List Value) Value (λ vs. length vs ≡ arguments_count cs args)
          (code.arguments_code (source_of ρ) strict cs args) _ operands (λ vs. piled vs operands) (onto operands)
          (mean.arguments ρ call strict cs args []) _ (all_counted cs args) (arguments_run cs args [] operands)
          (λ vs e. library_runs at c (mean.allocated_shape ρ c attr.ctype) (arguments_count cs args) vs operands e))
      given_runs at attr (Member a index) operands =
          part.then_runs ρ.thread functions Value Value (code.address_code (source_of ρ) strict a) _ operands
          (onto operands) (onto operands) (mean.address ρ call strict a) _ (address_runs a operands)
          (λ p. makes_one _ (p ∷ operands) operands _ (λ here active σ. refl))
      given_runs at attr (MemberBehind a index) operands =
          part.then_runs ρ.thread functions Value Value (code.value_code (source_of ρ) strict a) _ operands
          (onto operands) (onto operands) (mean.value ρ call strict a) _ (value_runs a operands)
          (λ p. makes_one _ (p ∷ operands) operands _ (λ here active σ. refl))
      given_runs at attr (Step o a) operands =
          part.then_runs ρ.thread functions Value Value (code.address_code (source_of ρ) strict a) _ operands
          (onto operands) (onto operands) (mean.address ρ call strict a) _ (address_runs a operands)
          (λ p. step_runs strict at o (type_of a) p operands)
      given_runs at attr (Address a) operands = address_runs a operands
      given_runs at attr (Dereference a) operands = value_runs a operands
      given_runs at attr (Unary o a) operands =
          part.then_runs ρ.thread functions Value Value (code.value_code (source_of ρ) strict a) _ operands
          (onto operands) (onto operands) (mean.value ρ call strict a) _ (value_runs a operands)
          (λ v. unary_runs at o (type.integer_of (type_of a)) v operands)
      given_runs at attr (Cast a) operands =
          part.then_runs ρ.thread functions Value Value (code.value_code (source_of ρ) strict a) _ operands
          (onto operands) (onto operands) (mean.value ρ call strict a) _ (value_runs a operands)
          (λ v. cast_runs at (type.conversion (type_of a) attr.ctype) v operands)
      given_runs at attr (Binary o a b) operands =
          part.then_runs ρ.thread functions Value Value (code.value_code (source_of ρ) strict a) _ operands
          (onto operands) (onto operands) (mean.value ρ call strict a) _ (value_runs a operands)
          (λ x. part.then_runs ρ.thread functions Value Value (code.value_code (source_of ρ) strict b) _ (x ∷ operands)
          (onto (x ∷ operands)) (onto operands) (mean.value ρ call strict b) _ (value_runs b (x ∷ operands))
          (λ y. binary_runs at o (type_of a) (type_of b) x y operands))
      given_runs at attr (And a b) operands =
          part.either_runs ρ.thread functions Value at (code.value_code (source_of ρ) strict a) _ _ operands
          (onto operands) (mean.value ρ call strict a) (mean.truth_after ρ (mean.value ρ call strict b))
          (give (truth_value false)) (value_runs a operands)
          (truth_runs at _ operands (mean.value ρ call strict b) (value_runs b operands)) (pushed at _ operands)
      given_runs at attr (Or a b) operands =
          part.either_runs ρ.thread functions Value at (code.value_code (source_of ρ) strict a) _ _ operands
          (onto operands) (mean.value ρ call strict a) (give (truth_value true))
          (mean.truth_after ρ (mean.value ρ call strict b)) (value_runs a operands) (pushed at _ operands)
          (truth_runs at _ operands (mean.value ρ call strict b) (value_runs b operands))
      given_runs at attr (Conditional test a b) operands =
          part.either_runs ρ.thread functions Value at (code.value_code (source_of ρ) strict test) _ _ operands
          (onto operands) (mean.value ρ call strict test)
          (mean.converted_to ρ attr.ctype a (mean.value ρ call strict a))
          (mean.converted_to ρ attr.ctype b (mean.value ρ call strict b)) (value_runs test operands)
          (converted_runs attr.ctype a _ operands (mean.value ρ call strict a) (value_runs a operands))
          (converted_runs attr.ctype b _ operands (mean.value ρ call strict b) (value_runs b operands))
      given_runs at attr (Assign a b) operands =
          part.then_runs ρ.thread functions Value Value (code.address_code (source_of ρ) strict a) _ operands
          (onto operands) (onto operands) (mean.address ρ call strict a) _ (address_runs a operands)
          (λ p. part.assoc_runs ρ.thread functions Value Value Value _ (p ∷ operands) (onto operands)
          (mean.value ρ call strict b) (λ x. cast ρ.thread (type.conversion (type_of b) (type_of a)) (place_of b) x)
          (λ w. mean.put ρ strict at (type_of a) p w >> give w)
          (part.then_runs ρ.thread functions Value Value (code.value_code (source_of ρ) strict b) _ (p ∷ operands)
          (onto (p ∷ operands)) (onto operands) (mean.value ρ call strict b) _ (value_runs b (p ∷ operands))
          (λ x. cast_put strict (place_of b) at (type.conversion (type_of b) (type_of a)) (type_of a) p x operands)))
      given_runs at attr (Compound o a b) operands =
          part.then_runs ρ.thread functions Value Value (code.address_code (source_of ρ) strict a) _ operands
          (onto operands) (onto operands) (mean.address ρ call strict a) _ (address_runs a operands)
          (λ p. part.then_runs ρ.thread functions Value Value (code.value_code (source_of ρ) strict b) _ (p ∷ operands)
          (onto (p ∷ operands)) (onto operands) (mean.value ρ call strict b) _ (value_runs b (p ∷ operands))
          (λ y. compound_runs strict at o (type_of a) (type_of b) p y operands))
      given_runs at attr (Comma parts) operands = last_runs at parts operands

      printed_runs : (at : Place) (args : Exprs) (operands : List Value)
          → Leaves (code.printed_code (source_of ρ) strict at args) operands (mean.printed ρ call strict args)
      printed_runs at NoExprs operands = pushed at _ operands
      printed_runs at (AndExpr format more) operands =
          let cs = map type.promotion (types_of more) in
          part.then_runs_with ρ.thread functions (List Value) Value (λ vs. length vs ≡ arguments_count cs more)
          (code.arguments_code (source_of ρ) strict cs more) _ operands (λ vs. piled vs operands) (onto operands)
          (mean.arguments ρ call strict cs more []) _ (all_counted cs more) (arguments_run cs more [] operands)
          (λ vs e. print_runs at (mean.format_of format) (arguments_count cs more) vs operands e)

      -- The values of arguments, over those that are there.
      arguments_run : (cs : List CastTo) (args : Exprs) (before operands : List Value)
          → Runs ρ.thread functions (List Value) (code.arguments_code (source_of ρ) strict cs args)
          (piled before operands) (λ vs. piled vs operands) (mean.arguments ρ call strict cs args before)
      arguments_run (c ∷ cs) (AndExpr a more) before operands =
          part.then_runs ρ.thread functions Value (List Value) (code.value_code (source_of ρ) strict a) _
          (piled before operands) (onto (piled before operands)) (λ vs. piled vs operands)
          (mean.value ρ call strict a) _ (value_runs a (piled before operands))
          (λ v. part.then_runs ρ.thread functions Value (List Value) (casts (place_of a) c ∷ []) _
          (v ∷ piled before operands) (onto (piled before operands)) (λ vs. piled vs operands)
          (cast ρ.thread c (place_of a) v) _ (cast_runs (place_of a) c v (piled before operands))
          (λ w. part.over_runs ρ.thread functions (List Value) _ (piled (before ++ (w ∷ [])) operands)
          (w ∷ piled before operands) (λ vs. piled vs operands) _ (piled_more before w operands)
          (arguments_run cs more (before ++ (w ∷ [])) operands)))
      arguments_run (c ∷ cs) NoExprs before operands =
          part.none_runs ρ.thread functions (List Value) before (λ vs. piled vs operands)
      arguments_run [] args before operands =
          part.none_runs ρ.thread functions (List Value) before (λ vs. piled vs operands)

      last_runs : (at : Place) (parts : Exprs) (operands : List Value)
          → Leaves (code.last_code (source_of ρ) strict at parts) operands (mean.last ρ call strict no_value parts)
      last_runs at NoExprs operands = pushed at _ operands
      last_runs at (AndExpr a more) operands =
          further_run more (code.value_code (source_of ρ) strict a) _ operands (mean.value ρ call strict a)
          (value_runs a operands) (dropped_runs a _ operands (address_runs a operands))

      further_run : (parts : Exprs) (value effect : List Instr) (operands : List Value) (m : Doing Value)
          → Leaves value operands m → Drops effect operands m
          → Leaves (code.further_code (source_of ρ) strict value effect parts) operands
          (m >>= (λ w. mean.last ρ call strict w parts))
      further_run NoExprs value effect operands m x y =
          part.told_runs ρ.thread functions Value value operands (onto operands) m (m >>= give)
          (λ σ. bind_give (m σ)) x
      further_run (AndExpr a more) value effect operands m x y =
          part.then_runs ρ.thread functions Value Value effect _ operands (none_onto operands) (onto operands) m _ y
          (λ v. further_run more (code.value_code (source_of ρ) strict a) _ operands (mean.value ρ call strict a)
          (value_runs a operands) (dropped_runs a _ operands (address_runs a operands)))

      -- An expression for what it does alone.
      pub dropped_runs : (e : Expr) (given : List Instr) (operands : List Value)
          → Leaves given operands (mean.address ρ call strict e)
          → Drops (code.dropped_code (source_of ρ) strict e given) operands (mean.value ρ call strict e)
      dropped_runs (Is at attr kind) given operands x =
          dropped_in_runs strict at (mean.inner_place (Is at attr kind)) attr.ctype
          (parts.is_lvalue attr.form) given _ operands
          (mean.given ρ call strict at attr kind) x (dropped_kind_runs at attr kind given operands x)

      dropped_address_runs : (e : Expr) (given : List Instr) (operands : List Value)
          → Leaves given operands (mean.address ρ call strict e)
          → Drops (code.dropped_address_code (source_of ρ) strict e given) operands (mean.address ρ call strict e)
      dropped_address_runs (Is at attr kind) given operands x = dropped_kind_runs at attr kind given operands x

      dropped_kind_runs : (at : Place) (attr : Attr) (kind : ExprKind) (given : List Instr) (operands : List Value)
          → Leaves given operands (mean.given ρ call strict at attr kind)
          → Drops (code.dropped_kind_code (source_of ρ) strict at attr kind given) operands
          (mean.given ρ call strict at attr kind)
      dropped_kind_runs at attr (Paren a) given operands x = dropped_address_runs a given operands x
      dropped_kind_runs at attr (Step o a) given operands x =
          part.then_runs ρ.thread functions Value Value (code.address_code (source_of ρ) strict a) _ operands
          (onto operands) (none_onto operands) (mean.address ρ call strict a) _ (address_runs a operands)
          (λ p. step_effect_runs strict at o (type_of a) p operands)
      dropped_kind_runs at attr (Cast a) given operands x =
          cast_effect_runs at (type.conversion (type_of a) attr.ctype) _ given operands (mean.value ρ call strict a)
          (dropped_runs a _ operands (address_runs a operands)) x
      dropped_kind_runs at attr (Comma parts) given operands x = effects_run no_value parts operands
      dropped_kind_runs at attr kind given operands x = popped_runs at given operands operands _ x

      -- Some expressions, each for what it does alone.
      effects_run : (w : Value) (parts : Exprs) (operands : List Value)
          → Drops (code.effects_code (source_of ρ) strict parts) operands (mean.last ρ call strict w parts)
      effects_run w NoExprs operands = part.none_runs ρ.thread functions Value w (none_onto operands)
      effects_run w (AndExpr a more) operands =
          part.then_runs ρ.thread functions Value Value _ _ operands (none_onto operands) (none_onto operands)
          (mean.value ρ call strict a) _ (dropped_runs a _ operands (address_runs a operands))
          (λ v. effects_run v more operands)

pub expressions_are_meant : ExpressionsAreMeant
expressions_are_meant ρ functions call strict e calls here operands active σ has =
    (value_runs ρ functions call calls strict e operands).by here active σ has

pub effects_are_meant : EffectsAreMeant
effects_are_meant ρ functions call strict e calls here operands active σ has =
    (dropped_runs ρ functions call calls strict e _ operands
    (address_runs ρ functions call calls strict e operands)).by here active σ has
