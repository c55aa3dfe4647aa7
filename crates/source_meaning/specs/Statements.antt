-- What a statement does, and how it is left (C99 6.8, UPC 6.6).
use Rattle.std.specs.Prelude.{ℕ, zero, suc, ◌+◌, ℤ, pos, Bool, List, [], ◌∷◌, ◌++◌}
use Rattle.std.specs.Prelude.{length, map, Option, Some, None}
use Rattle.std.specs.Ordering.{int_eq}
use Rattle.upc_text.specs.declared.place.Place.{Place}
use Rattle.block_layout.specs.declared.kind.Kind.TheVariants as kind
use Rattle.block_layout.specs.declared.kind.Shape.{Shape}
use Rattle.integers.specs.Integers.{converted}
use Rattle.upc_values.specs.declared.scalar.Value.{Value}
use Rattle.upc_values.specs.declared.scalar.Mark.{Mark}
use Rattle.upc_values.specs.declared.scalar.Mark.TheVariants.{Absent, Given}
use Rattle.upc_types.specs.Types.{CType, Base, Array, base_of}
use Rattle.typing_rules.specs.Rules.{label_kind}
use Rattle.typed_tree.specs.declared.tree.Synchronises.{Synchronises}
use Rattle.typed_tree.specs.declared.tree.Synchronises.TheVariants.{Notify, Wait, Barrier}
use Rattle.typed_tree.specs.Tree.{Expr, Exprs, NoExprs, AndExpr, place_of, Initial, NoInitial, InitialValue}
use Rattle.typed_tree.specs.Tree.{InitialList, DeclaredObject, Affinity, Everyone, AtValue, Head, Statement, Stands}
use Rattle.typed_tree.specs.Tree.{StatementKind, Block, If, Switch, While, DoWhile, For, Forall, Break, Continue}
use Rattle.typed_tree.specs.Tree.{Return, Synchronise, Fence, StatementOption, NoStatement, TheStatement, Arms}
use Rattle.typed_tree.specs.Tree.{NoArms, AndArm, Items, NoItems, AndObjects, AndStatement, SwitchItems}
use Rattle.typed_tree.specs.Tree.{NoSwitchItems, AndCase, AndDefault, AndSwitchStatement}
use Rattle.typed_tree.specs.Tree as tree
use Rattle.thread_steps.specs.States.{Doing, Unfinished, ◌>>=◌, ◌>>◌, give, skip, know, choose}
use Rattle.thread_steps.specs.Values.{number, number_of, is_zero}
use Rattle.thread_steps.specs.Actions.{tick, notify, wait, fence, is_controlled}
use Rattle.thread_steps.specs.Blocks.{open_block, close_block, control, release, mine}
use Rattle.source_meaning.specs.Types.{integer_of, shape_of}
use Rattle.source_meaning.specs.Running.{Running}
use Rattle.source_meaning.specs.Expressions.{Calls, no_value, type_of, value, object, behind, converted_to, put}

-- How a statement is left: at its end, by `break`, by `continue`, or by `return` with a value (C99 6.8.6). What a
-- statement does is a step with such a value.
pub data Flow : Type 0 where
  Next : Flow
  Broke : Flow
  Again : Flow
  Gave : (given : Value) → Flow

-- What a statement stands in: whether accesses that do not say so are strict (UPC 6.7), how many objects of its
-- function are in scope, and the type of its function's result.
pub record Standing : Type 0 where
  pub strict : Bool
  pub count : ℕ
  pub result : CType

-- The standing after the declaration of some objects, which are then in scope (C99 6.2.1).
abbrev pub with_objects : List DeclaredObject → Standing → Standing
with_objects objects κ = record κ { count = κ.count + length objects }

-- How a turn of a upc_forall is left, by how its body is: at its end, or by `return`; in a typed program neither
-- `break` nor `return` leaves the body (UPC 6.6.2).
abbrev pub finished : Flow → Flow
finished (Gave v) = Gave v
finished f = Next

-- The objects that a block itself declares, in order.
abbrev pub objects_in : Items → List DeclaredObject
objects_in NoItems = []
objects_in (AndObjects objects more) = objects ++ objects_in more
objects_in (AndStatement s more) = objects_in more

-- The type of an array's elements; any other type stands for itself (C99 6.2.5).
abbrev pub element_type : Base → CType → CType
element_type (Array e count) t = e
element_type b t = t

module _ (ρ : Running) where
  -- The sizes and the cells of some objects, in order.
  abbrev pub shapes_of : List DeclaredObject → List Shape
  shapes_of objects = map (λ x. shape_of ρ.structs x.ctype) objects

  -- A block around a body: its objects, before which so many are in scope, are made anew and end with it (C99 6.2.4,
  -- 6.8.2).
  abbrev pub blocked : (from : ℕ) → List DeclaredObject → Place → Doing Flow → Doing Flow
  blocked from objects at body = do
    open_block from (shapes_of objects) at
    f ← body
    close_block
    give f

  -- ---- loops (C99 6.8.5)

  -- One turn of a loop and what follows: the body, the last part, and then all again, unless the body has left the
  -- loop; `break` leaves the loop, and `continue` the body alone (C99 6.8.5, 6.8.6.2, 6.8.6.3).
  abbrev pub around : (body last again : Doing Flow) → Doing Flow
  around body last again = do
    f ← body
    elim f [ Broke ↦ give Next | Gave v ↦ give (Gave v) | _ ↦ (do last; again) ]

  -- A loop of at most so many turns: a tick, the test, and where it is not 0 the body, the last part, and again
  -- (C99 6.8.5).
  abbrev pub turns : ℕ → (test : Doing Value) → (body last : Doing Flow) → Doing Flow
  turns zero test body last = λ _. Unfinished
  turns (suc n) test body last = do
    tick ρ.thread
    v ← test
    choose (is_zero v) (give Next) (around body last (turns n test body last))

  -- A loop with this test, this body and this last part; no thread takes more turns than its budget of ticks
  -- (C99 6.8.5).
  abbrev pub loop : (test : Doing Value) → (body last : Doing Flow) → Doing Flow
  loop test body last = turns ρ.thread.budget test body last

  -- A body in which no further affinity is evaluated, and a barrier is a run error (UPC 6.6.2).
  abbrev pub controlling : Doing Flow → Doing Flow
  controlling body = do
    control
    f ← body
    release
    give (finished f)

  -- ---- barriers (UPC 6.6.1)

  -- What upc_notify, upc_wait and upc_barrier do with this mark: a barrier is a notify, and then a wait (UPC 6.6.1).
  abbrev pub synchronised : Synchronises → Place → Mark → Doing (Unit {0})
  synchronised Notify at mark = notify ρ.thread at mark
  synchronised Wait at mark = wait ρ.thread at mark
  synchronised Barrier at mark = do
    notify ρ.thread at mark
    wait ρ.thread at mark

  module _ (call : Calls) where
    -- An expression that is evaluated for what it does, and whose value is discarded; without one nothing is done
    -- (C99 6.8.3).
    abbrev pub aside : Standing → Option Expr → Doing Flow
    aside κ None = give Next
    aside κ (Some e) = do
      value ρ call κ.strict e
      give Next

    -- The value of a loop's test, where an absent one counts as 1 (C99 6.8.5.3).
    abbrev pub tested : Standing → Option Expr → Doing Value
    tested κ None = give (number (pos 1))
    tested κ (Some e) = value ρ call κ.strict e

    -- The mark of a barrier statement: its value, converted into an int, or none (UPC 6.6.1).
    abbrev pub marked : Standing → Option Expr → Doing Mark
    marked κ None = give Absent
    marked κ (Some e) = do
      v ← value ρ call κ.strict e
      give (Given (converted kind.Int (number_of v)))

    -- The body of a upc_forall in one turn: without an affinity, or with `continue`, each thread does it; with one it
    -- is done where the turn is this thread's; inside a body that controls already no affinity is evaluated
    -- (UPC 6.6.2).
    abbrev pub guarded : Standing → Affinity → Doing Flow → Doing Flow
    guarded κ Everyone body = do
      f ← body
      give (finished f)
    guarded κ (AtValue e) body = do
      c ← know is_controlled
      choose c (controlling body) (do
        v ← value ρ call κ.strict e
        w ← mine ρ.thread (place_of e) v
        choose (is_zero w) (give Next) (controlling body))

    -- ---- initialisers (C99 6.7.8)

    -- The elements of an array from element i on get the values of a list, in order (C99 6.7.8).
    abbrev pub listed : Standing → DeclaredObject → ℕ → Exprs → Doing (Unit {0})
    listed κ x i NoExprs = skip
    listed κ x i (AndExpr e more) = do
      p ← object ρ x.home
      q ← behind ρ x.at (element_type (base_of x.ctype) x.ctype) p (pos i)
      v ← converted_to ρ (element_type (base_of x.ctype) x.ctype) e (value ρ call κ.strict e)
      put ρ κ.strict x.at (element_type (base_of x.ctype) x.ctype) q v
      listed κ x (i + 1) more

    -- An object gets its initial value, converted into its type, and an array the values of its list; an object without
    -- an initialiser is left as it is (C99 6.7.8).
    abbrev pub initialised : Standing → DeclaredObject → Initial → Doing (Unit {0})
    initialised κ x NoInitial = skip
    initialised κ x (InitialValue e) = do
      p ← object ρ x.home
      v ← converted_to ρ x.ctype e (value ρ call κ.strict e)
      put ρ κ.strict x.at x.ctype p v
    initialised κ x (InitialList es) = listed κ x 0 es

    -- Some objects get their initial values, in order (C99 6.7.8).
    abbrev pub declared : Standing → List DeclaredObject → Doing (Unit {0})
    declared κ [] = skip
    declared κ (x ∷ xs) = do
      initialised κ x x.initial
      declared κ xs

    -- The head of a `for` or a upc_forall is a block: its objects get their initial values, its first expression is
    -- evaluated, and then comes the loop (C99 6.8.5, 6.8.5.3).
    abbrev pub headed : Standing → Place → Head → Doing Flow → Doing Flow
    headed κ at head body = blocked κ.count head.objects at (do
      declared κ head.objects
      aside κ head.first
      body)

    -- ---- statements
    abbrev mutual
      -- What a statement does (C99 6.8, UPC 6.6).
      pub run : Standing → Statement → Doing Flow
      run κ (Stands at kind) = run_kind κ at kind

      -- What a statement of this kind at this place does (C99 6.8, UPC 6.6).
      pub run_kind : Standing → Place → StatementKind → Doing Flow
      -- a block (C99 6.8.2, UPC 6.7)
      run_kind κ at (Block strict items) = blocked κ.count (objects_in items) at
          (run_items (record κ { strict = strict }) items)
      -- an expression, or none (C99 6.8.3)
      run_kind κ at (tree.Value e) = aside κ e
      -- if (C99 6.8.4.1)
      run_kind κ at (If arms last) = run_arms κ arms (run_last κ last)
      -- switch, which `break` leaves alone (C99 6.8.4.2, 6.8.6.3)
      run_kind κ at (Switch e items) = do
        v ← value ρ call κ.strict e
        f ← from_case κ (label_kind (integer_of (type_of e)) (number_of v)) items (from_default κ items)
        give (elim f [ Broke ↦ Next | g ↦ g ])
      -- while and do (C99 6.8.5.1, 6.8.5.2)
      run_kind κ at (While test body) = loop (value ρ call κ.strict test) (run κ body) (give Next)
      run_kind κ at (DoWhile body test) = around (run κ body) (give Next)
          (loop (value ρ call κ.strict test) (run κ body) (give Next))
      -- for (C99 6.8.5.3)
      run_kind κ at (For head body) =
          let η = with_objects head.objects κ in
          headed κ at head (loop (tested η head.test) (run η body) (aside η head.step))
      -- upc_forall (UPC 6.6.2)
      run_kind κ at (Forall head whose body) =
          let η = with_objects head.objects κ in
          headed κ at head (loop (tested η head.test) (guarded η whose (run η body)) (aside η head.step))
      -- break, continue and return (C99 6.8.6)
      run_kind κ at Break = give Broke
      run_kind κ at Continue = give Again
      run_kind κ at (Return None) = give (Gave no_value)
      run_kind κ at (Return (Some e)) = do
        v ← converted_to ρ κ.result e (value ρ call κ.strict e)
        give (Gave v)
      -- upc_notify, upc_wait, upc_barrier and upc_fence (UPC 6.6.1)
      run_kind κ at (Synchronise how e) = do
        mark ← marked κ e
        synchronised how at mark
        give Next
      run_kind κ at Fence = do
        fence ρ.thread
        give Next

      -- What stands last in an `if`: the statement of its `else`, if it has one (C99 6.8.4.1).
      pub run_last : Standing → StatementOption → Doing Flow
      run_last κ NoStatement = give Next
      run_last κ (TheStatement s) = run κ s

      -- An `if` by its arms: the body of the first arm whose test is not 0, else what stands last (C99 6.8.4.1).
      pub run_arms : Standing → Arms → Doing Flow → Doing Flow
      run_arms κ NoArms last = last
      run_arms κ (AndArm test body more) last = do
        v ← value ρ call κ.strict test
        choose (is_zero v) (run_arms κ more last) (run κ body)

      -- The parts of a block, in order; `break`, `continue` and `return` leave them (C99 6.8.2, 6.8.6).
      pub run_items : Standing → Items → Doing Flow
      run_items κ NoItems = give Next
      run_items κ (AndObjects objects more) = do
        declared κ objects
        run_items (with_objects objects κ) more
      run_items κ (AndStatement s more) = do
        f ← run κ s
        elim f [ Next ↦ run_items κ more | g ↦ give g ]

      -- The parts of a switch from the first of these on, as in a block: it falls through later labels (C99 6.8.4.2).
      pub run_switch : Standing → SwitchItems → Doing Flow
      run_switch κ NoSwitchItems = give Next
      run_switch κ (AndCase w more) = run_switch κ more
      run_switch κ (AndDefault more) = run_switch κ more
      run_switch κ (AndSwitchStatement s more) = do
        f ← run κ s
        elim f [ Next ↦ run_switch κ more | g ↦ give g ]

      -- The parts of a switch from the first `case` with this value on; where there is none, the other (C99 6.8.4.2).
      pub from_case : Standing → ℤ → SwitchItems → Doing Flow → Doing Flow
      from_case κ v NoSwitchItems other = other
      from_case κ v (AndCase w more) other = choose (int_eq v w) (run_switch κ more) (from_case κ v more other)
      from_case κ v (AndDefault more) other = from_case κ v more other
      from_case κ v (AndSwitchStatement s more) other = from_case κ v more other

      -- The parts of a switch from its `default` on; without one nothing is done (C99 6.8.4.2).
      pub from_default : Standing → SwitchItems → Doing Flow
      from_default κ NoSwitchItems = give Next
      from_default κ (AndCase w more) = from_default κ more
      from_default κ (AndDefault more) = run_switch κ more
      from_default κ (AndSwitchStatement s more) = from_default κ more
