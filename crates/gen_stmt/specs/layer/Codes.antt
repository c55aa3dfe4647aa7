-- The code of statements (C99 6.8, UPC 6.6).
use Rattle.std.specs.Prelude.{ℕ, ◌+◌, pos, Bool, List, [], ◌∷◌, ◌++◌, length, Option, Some, None}
use Rattle.upc_text.specs.declared.place.Place.{Place}
use Rattle.block_layout.specs.declared.kind.Kind.{Kind}
use Rattle.block_layout.specs.declared.kind.Shape.{Shape}
use Rattle.upc_values.specs.declared.scalar.Mark.TheVariants.{Absent}
use Rattle.upc_types.specs.Types.{CType, base_of}
use Rattle.integers.specs.Integers.{promoted}
use Rattle.typed_tree.specs.declared.tree.Synchronises.{Synchronises}
use Rattle.typed_tree.specs.declared.tree.Synchronises.TheVariants.{Notify, Wait, Barrier}
use Rattle.typed_tree.specs.Tree.{Expr, Exprs, NoExprs, AndExpr, place_of, Initial, NoInitial, InitialValue}
use Rattle.typed_tree.specs.Tree.{InitialList, DeclaredObject, Affinity, Everyone, AtValue, Head, Statement, Stands}
use Rattle.typed_tree.specs.Tree.{StatementKind, Block, If, Switch, While, DoWhile, For, Forall, Break, Continue}
use Rattle.typed_tree.specs.Tree.{Return, Synchronise, Fence, StatementOption, NoStatement, TheStatement, Arms}
use Rattle.typed_tree.specs.Tree.{NoArms, AndArm, Items, NoItems, AndObjects, AndStatement, SwitchItems}
use Rattle.typed_tree.specs.Tree.{NoSwitchItems, AndCase, AndDefault, AndSwitchStatement}
use Rattle.typed_tree.specs.Tree as tree
use Rattle.thread_steps.specs.declared.cast.CastTo.TheVariants as to
use Rattle.thread_steps.specs.Values.{number}
use Rattle.source_meaning.specs.Types.{integer_of, conversion}
use Rattle.source_meaning.specs.layer.Parts.{with_strict}
use Rattle.source_meaning.specs.Expressions.{no_value, type_of}
use Rattle.source_meaning.specs.Statements.{Standing, with_objects, objects_in, element_type, shapes_of}
use Rattle.stack_code.specs.declared.instruction.StackWork.TheVariants as stack
use Rattle.stack_code.specs.declared.instruction.ObjectWork.TheVariants as cell
use Rattle.stack_code.specs.declared.instruction.Jump.TheVariants as jump
use Rattle.stack_code.specs.declared.instruction.CallWork.TheVariants as call
use Rattle.stack_code.specs.declared.instruction.ThreadWork.{ThreadWork}
use Rattle.stack_code.specs.declared.instruction.ThreadWork.TheVariants as thread
use Rattle.stack_code.specs.declared.instruction.Operation.TheVariants as work
use Rattle.stack_code.specs.declared.instruction.Instr.{Instr}
use Rattle.gen_expr.specs.layer.Sources.{Source, running_of}
use Rattle.gen_expr.specs.layer.Codes.{stacks, jumps, pushes, casts, value_code, effect_code, object_code, put_code}
use Rattle.gen_expr.specs.layer.Codes.{advance_code}
use Rattle.gen_stmt.specs.layer.Ways.{Way, Ways, all_past, all_inner, in_loop, in_switch, in_forall}

-- ---- instructions and forms that several statements take

-- The instruction that begins a block with objects of these shapes, where so many objects of its function are in scope
-- before it (C99 6.8.2).
abbrev pub enters : Place → ℕ → List Shape → Instr
enters at from shapes = record { place = at; does = work.Object (cell.Enter from shapes) }

-- The instruction that ends the youngest block, and its objects with it (C99 6.2.4, 6.8.2).
abbrev pub leaves : Place → Instr
leaves at = record { place = at; does = work.Object cell.Leave }

-- An instruction at a place of the source that a thread does among the others (C99 7.19.6.3; UPC 6.6, 7).
abbrev pub acts : Place → ThreadWork → Instr
acts at w = record { place = at; does = work.Thread w }

-- The instruction by which so many blocks end and then the call, which gives the value on top (C99 6.8.6.4).
abbrev pub gives_back : Place → ℕ → Instr
gives_back at blocks = record { place = at; does = work.Call (call.GiveBack blocks) }

-- The code of a block with this body: its objects are made before the body, and end after it (C99 6.2.4, 6.8.2).
abbrev pub block_code : Place → ℕ → List Shape → List Instr → List Instr
block_code at from shapes body = enters at from shapes ∷ (body ++ (leaves at ∷ []))

-- The code of every loop: a tick, the test, the body of so many instructions, the last part, and the jump back to the
-- test, which ticks (C99 6.8.5).
abbrev pub loop_code : Place → (test body last : List Instr) → ℕ → List Instr
loop_code at test body last m =
    jumps at jump.Tick
    ∷ (test
    ++ (jumps at (jump.SkipIfZero (m + length last + 1))
    ∷ (body ++ (last ++ (jumps at (jump.GoBack (length test + 1 + m + length last)) ∷ [])))))

-- How many instructions a loop has, by those of its test, its body and its last part.
abbrev pub loop_size : (test body last : ℕ) → ℕ
loop_size test body last = 1 + test + 1 + body + last + 1

-- The code of the body of a upc_forall that controls: within it no further affinity is evaluated (UPC 6.6.2).
abbrev pub control_code : Place → List Instr → List Instr
control_code at body = acts at thread.Control ∷ (body ++ (acts at thread.Release ∷ []))

-- The code of a `break` or `continue` that leaves its statement this way (C99 6.8.6.2, 6.8.6.3).
abbrev pub exit_code : Place → Way → List Instr
exit_code at w = jumps at (jump.Exit w.blocks w.distance) ∷ []

-- The code that promotes the value of a switch, where that is an integer (C99 6.8.4.2).
abbrev pub label_code : Place → Option Kind → List Instr
label_code at None = []
label_code at (Some k) = casts at (to.Integer (promoted k)) ∷ []

-- The code of a barrier statement without a value (UPC 6.6.1).
abbrev pub synchronise_code : Place → Synchronises → List Instr
synchronise_code at Notify = acts at (thread.Notify Absent) ∷ []
synchronise_code at Wait = acts at (thread.Wait Absent) ∷ []
synchronise_code at Barrier = acts at (thread.Notify Absent) ∷ (acts at (thread.Wait Absent) ∷ [])

-- The code of a barrier statement with the value on top (UPC 6.6.1).
abbrev pub synchronise_value_code : Place → Synchronises → List Instr
synchronise_value_code at Notify = acts at thread.NotifyValue ∷ []
synchronise_value_code at Wait = acts at thread.WaitValue ∷ []
synchronise_value_code at Barrier =
    stacks at stack.Copy ∷ (acts at thread.NotifyValue ∷ (acts at thread.WaitValue ∷ []))

-- How many labels with values a switch has (C99 6.8.4.2).
abbrev pub cases : SwitchItems → ℕ
cases NoSwitchItems = 0
cases (AndCase w more) = 1 + cases more
cases (AndDefault more) = cases more
cases (AndSwitchStatement s more) = cases more

module _ (ς : Source) where
  -- The code of the value of an expression in a statement, converted into a type (C99 6.5.16.1).
  abbrev pub converted_code : Bool → CType → Expr → List Instr
  converted_code strict t e = value_code ς strict e ++ (casts (place_of e) (conversion (type_of e) t) ∷ [])

  -- The code of an expression that is evaluated for what it does alone (C99 6.8.3).
  abbrev pub aside_code : Bool → Option Expr → List Instr
  aside_code strict None = []
  aside_code strict (Some e) = effect_code ς strict e

  -- The code of the test of a loop; an absent one is as 1 (C99 6.8.5.3).
  abbrev pub test_code : Place → Bool → Option Expr → List Instr
  test_code at strict None = pushes at (number (pos 1)) ∷ []
  test_code at strict (Some e) = value_code ς strict e

  -- ---- initialisers (C99 6.7.8)

  -- The code that gives the elements of an array their initial values, from element i on (C99 6.7.8).
  abbrev pub listed_code : Bool → DeclaredObject → ℕ → Exprs → List Instr
  listed_code strict x i NoExprs = []
  listed_code strict x i (AndExpr e more) =
      let t = element_type (base_of x.ctype) x.ctype in
      object_code ς x.at x.home
      ++ (pushes x.at (number (pos i))
      ∷ (advance_code ς x.at t
      ++ (converted_code strict t e
      ++ (put_code ς strict x.at t ++ (stacks x.at stack.Pop ∷ listed_code strict x (i + 1) more)))))

  -- The code that gives an object its initial value, if it has an initialiser (C99 6.7.8).
  abbrev pub initial_code : Bool → DeclaredObject → Initial → List Instr
  initial_code strict x NoInitial = []
  initial_code strict x (InitialValue e) =
      object_code ς x.at x.home
      ++ (converted_code strict x.ctype e ++ (put_code ς strict x.at x.ctype ++ (stacks x.at stack.Pop ∷ [])))
  initial_code strict x (InitialList es) = listed_code strict x 0 es

  -- The code that gives some objects their initial values, in order (C99 6.7.8).
  abbrev pub declared_code : Bool → List DeclaredObject → List Instr
  declared_code strict [] = []
  declared_code strict (x ∷ xs) = initial_code strict x x.initial ++ declared_code strict xs

  -- The code of what the head of a loop does first: its objects get their initial values, or its first expression is
  -- evaluated (C99 6.8.5.3).
  abbrev pub first_code : Bool → Head → List Instr
  first_code strict head = declared_code strict head.objects ++ aside_code strict head.first

  -- ---- upc_forall (UPC 6.6.2)

  -- The code of the body of a upc_forall, of so many instructions, which is done where the turn is this thread's; where
  -- a upc_forall around it controls, it is always done, and the affinity is not evaluated (UPC 6.6.2).
  abbrev pub guard_code : Place → Bool → Affinity → List Instr → ℕ → List Instr
  guard_code at strict Everyone body m = body
  guard_code at strict (AtValue e) body m =
      jumps at (jump.SkipIfControlled (length (value_code ς strict e) + 2))
      ∷ (value_code ς strict e
      ++ (acts (place_of e) thread.Mine ∷ (jumps at (jump.SkipIfZero (1 + m + 1)) ∷ control_code at body)))

  -- How many instructions the body of a upc_forall has with its affinity, by those of the body alone.
  abbrev pub guard_size : Bool → Affinity → ℕ → ℕ
  guard_size strict Everyone m = m
  guard_size strict (AtValue e) m = 1 + length (value_code ς strict e) + 1 + 1 + 1 + m + 1

  -- ---- how many instructions statements have

  -- How many instructions the code of statements and of their parts has, by what they stand in (C99 6.8, UPC 6.6).
  abbrev mutual
    -- How many instructions the code of a statement has.
    pub size : Standing → Statement → ℕ
    size κ (Stands at kind) = kind_size κ at kind

    -- How many instructions the code of a statement of each kind has.
    pub kind_size : Standing → Place → StatementKind → ℕ
    kind_size κ at (Block strict items) = 1 + items_size (with_strict strict κ) items + 1
    kind_size κ at (tree.Value e) = length (aside_code κ.strict e)
    kind_size κ at (If arms last) = arms_size κ arms (last_size κ last)
    kind_size κ at (Switch e items) =
        length (value_code ς κ.strict e) + length (label_code at (integer_of (type_of e))) + cases items + 1 + 1
        + switch_size κ items
    kind_size κ at (While test body) = loop_size (length (value_code ς κ.strict test)) (size κ body) 0
    kind_size κ at (DoWhile body test) = 1 + loop_size (length (value_code ς κ.strict test)) (size κ body) 0
    kind_size κ at (For head body) =
        let η = with_objects head.objects κ in
        1 + length (first_code κ.strict head)
        + loop_size (length (test_code at κ.strict head.test)) (size η body) (length (aside_code κ.strict head.step))
        + 1
    kind_size κ at (Forall head whose body) =
        let η = with_objects head.objects κ in
        1 + length (first_code κ.strict head)
        + loop_size (length (test_code at κ.strict head.test)) (guard_size κ.strict whose (size η body))
        (length (aside_code κ.strict head.step))
        + 1
    kind_size κ at Break = 1
    kind_size κ at Continue = 1
    kind_size κ at (Return None) = 2
    kind_size κ at (Return (Some e)) = length (converted_code κ.strict κ.result e) + 1
    kind_size κ at (Synchronise how None) = length (synchronise_code at how)
    kind_size κ at (Synchronise how (Some e)) =
        length (value_code ς κ.strict e) + length (synchronise_value_code at how)
    kind_size κ at Fence = 1

    -- How many instructions the part after the last `else` has, if there is one.
    pub last_size : Standing → StatementOption → ℕ
    last_size κ NoStatement = 0
    last_size κ (TheStatement s) = size κ s

    -- How many instructions the arms of an `if` have, where what comes last has so many.
    pub arms_size : Standing → Arms → ℕ → ℕ
    arms_size κ NoArms last = last
    arms_size κ (AndArm test body more) last =
        length (value_code ς κ.strict test) + 1 + size κ body + 1 + arms_size κ more last

    -- How many instructions the parts of a block have.
    pub items_size : Standing → Items → ℕ
    items_size κ NoItems = 0
    items_size κ (AndObjects objects more) =
        length (declared_code κ.strict objects) + items_size (with_objects objects κ) more
    items_size κ (AndStatement s more) = size κ s + items_size κ more

    -- How many instructions the statements of a switch have; its labels stand before them all, and are not counted.
    pub switch_size : Standing → SwitchItems → ℕ
    switch_size κ NoSwitchItems = 0
    switch_size κ (AndCase w more) = switch_size κ more
    switch_size κ (AndDefault more) = switch_size κ more
    switch_size κ (AndSwitchStatement s more) = size κ s + switch_size κ more

  -- The code of the comparisons of a switch, where so many instructions of its body stand before these parts: each
  -- finds the value on top, and leaves it there unless it is equal (C99 6.8.4.2).
  abbrev pub cases_code : Place → Standing → SwitchItems → ℕ → List Instr
  cases_code at κ NoSwitchItems before = []
  cases_code at κ (AndCase w more) before =
      jumps at (jump.Case w (cases more + 2 + before)) ∷ cases_code at κ more before
  cases_code at κ (AndDefault more) before = cases_code at κ more before
  cases_code at κ (AndSwitchStatement s more) before = cases_code at κ more (before + size κ s)

  -- How many instructions of a switch's body stand before `default`, or all where there is none (C99 6.8.4.2).
  abbrev pub before_default : Standing → SwitchItems → ℕ
  before_default κ NoSwitchItems = 0
  before_default κ (AndCase w more) = before_default κ more
  before_default κ (AndDefault more) = 0
  before_default κ (AndSwitchStatement s more) = size κ s + before_default κ more

  -- ---- statements, by what they stand in and their ways out

  -- The code of statements and of their parts, by what they stand in and by their ways out (C99 6.8, UPC 6.6).
  abbrev mutual
    -- The code of a statement.
    pub statement_code : Standing → Ways → Statement → List Instr
    statement_code κ ω (Stands at kind) = kind_code κ ω at kind

    -- The code of a statement of each kind.
    pub kind_code : Standing → Ways → Place → StatementKind → List Instr
    -- a block (C99 6.8.2, UPC 6.7)
    kind_code κ ω at (Block strict items) =
        block_code at κ.count (shapes_of (running_of ς) (objects_in items))
        (items_code (with_strict strict κ) (all_inner ω) items)
    -- an expression, or none (C99 6.8.3)
    kind_code κ ω at (tree.Value e) = aside_code κ.strict e
    -- if (C99 6.8.4.1)
    kind_code κ ω at (If arms last) = arms_code κ ω at arms (last_code κ ω last) (last_size κ last)
    -- switch (C99 6.8.4.2)
    kind_code κ ω at (Switch e items) =
        value_code ς κ.strict e
        ++ (label_code at (integer_of (type_of e))
        ++ (cases_code at κ items 0
        ++ (stacks at stack.Pop
        ∷ (jumps at (jump.GoOn (before_default κ items)) ∷ switch_code κ (in_switch ω) items))))
    -- while and do (C99 6.8.5.1, 6.8.5.2)
    kind_code κ ω at (While test body) =
        loop_code at (value_code ς κ.strict test) (statement_code κ (in_loop 0 ω) body) [] (size κ body)
    kind_code κ ω at (DoWhile body test) =
        jumps at (jump.GoOn (1 + length (value_code ς κ.strict test) + 1))
        ∷ loop_code at (value_code ς κ.strict test) (statement_code κ (in_loop 0 ω) body) [] (size κ body)
    -- for (C99 6.8.5.3)
    kind_code κ ω at (For head body) =
        let η = with_objects head.objects κ in
        let step = aside_code κ.strict head.step in
        block_code at κ.count (shapes_of (running_of ς) head.objects)
        (first_code κ.strict head
        ++ loop_code at (test_code at κ.strict head.test)
        (statement_code η (in_loop (length step) (all_inner ω)) body) step (size η body))
    -- upc_forall (UPC 6.6.2)
    kind_code κ ω at (Forall head whose body) =
        let η = with_objects head.objects κ in
        let step = aside_code κ.strict head.step in
        block_code at κ.count (shapes_of (running_of ς) head.objects)
        (first_code κ.strict head
        ++ loop_code at (test_code at κ.strict head.test)
        (guard_code at κ.strict whose (statement_code η (in_forall (all_inner ω)) body) (size η body)) step
        (guard_size κ.strict whose (size η body)))
    -- break, continue and return (C99 6.8.6)
    kind_code κ ω at Break = exit_code at ω.broken
    kind_code κ ω at Continue = exit_code at ω.again
    kind_code κ ω at (Return None) = pushes at no_value ∷ (gives_back at ω.blocks ∷ [])
    kind_code κ ω at (Return (Some e)) =
        converted_code κ.strict κ.result e ++ (gives_back at ω.blocks ∷ [])
    -- upc_notify, upc_wait, upc_barrier and upc_fence (UPC 6.6.1)
    kind_code κ ω at (Synchronise how None) = synchronise_code at how
    kind_code κ ω at (Synchronise how (Some e)) = value_code ς κ.strict e ++ synchronise_value_code at how
    kind_code κ ω at Fence = acts at thread.Fence ∷ []

    -- The code of the part after the last `else`, if there is one (C99 6.8.4.1).
    pub last_code : Standing → Ways → StatementOption → List Instr
    last_code κ ω NoStatement = []
    last_code κ ω (TheStatement s) = statement_code κ ω s

    -- The code of the arms of an `if`, where what comes last is this code of so many instructions (C99 6.8.4.1).
    pub arms_code : Standing → Ways → Place → Arms → List Instr → ℕ → List Instr
    arms_code κ ω at NoArms last n = last
    arms_code κ ω at (AndArm test body more) last n =
        let behind = arms_size κ more n in
        value_code ς κ.strict test
        ++ (jumps at (jump.SkipIfZero (size κ body + 1))
        ∷ (statement_code κ (all_past (1 + behind) ω) body
        ++ (jumps at (jump.GoOn behind) ∷ arms_code κ ω at more last n)))

    -- The code of the parts of a block, in order (C99 6.8.2).
    pub items_code : Standing → Ways → Items → List Instr
    items_code κ ω NoItems = []
    items_code κ ω (AndObjects objects more) =
        declared_code κ.strict objects ++ items_code (with_objects objects κ) ω more
    items_code κ ω (AndStatement s more) =
        statement_code κ (all_past (items_size κ more) ω) s ++ items_code κ ω more

    -- The code of the statements of a switch, in order; its labels are instructions of their own before them
    -- (C99 6.8.4.2).
    pub switch_code : Standing → Ways → SwitchItems → List Instr
    switch_code κ ω NoSwitchItems = []
    switch_code κ ω (AndCase w more) = switch_code κ ω more
    switch_code κ ω (AndDefault more) = switch_code κ ω more
    switch_code κ ω (AndSwitchStatement s more) =
        statement_code κ (all_past (switch_size κ more) ω) s ++ switch_code κ ω more
