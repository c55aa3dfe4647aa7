-- What a thread of a program does, from its first barrier to its last, and its outcome (C99 5.1.2.2.3, 6.9.1;
-- UPC 6.6.1).
use Rattle.std.specs.Prelude.{ℕ, zero, suc, ◌+◌, ℤ, nat_eq, Bool, false, List, [], ◌∷◌, ◌++◌, length, map}
use Rattle.std.specs.Prelude.{codes, Option, Some, None, slice_get}
use Rattle.std.specs.List.{find}
use Rattle.std.specs.Cmp.Lexicographic.{pointwise}
use Rattle.upc_text.specs.declared.place.Place.{Place}
use Rattle.block_layout.specs.declared.kind.Kind.{Kind}
use Rattle.block_layout.specs.declared.kind.Kind.TheVariants as kind
use Rattle.integers.specs.Integers.{converted}
use Rattle.upc_values.specs.declared.scalar.Value.{Value}
use Rattle.upc_values.specs.declared.scalar.Mark.TheVariants.{Start, Finish}
use Rattle.upc_values.specs.declared.action.Reply.{Reply}
use Rattle.upc_values.specs.declared.record.ToldEnd.TheVariants.{Ended, OutOfTicks}
use Rattle.upc_values.specs.Shapes.{blank_value}
use Rattle.upc_values.specs.Outcomes.{Outcome}
use Rattle.upc_types.specs.Types.{CType}
use Rattle.typed_tree.specs.Tree.{Statement, Stands, Block, Function}
use Rattle.typed_tree.specs.Programs.{Checked, start_of}
use Rattle.private_store.specs.declared.store.TheConstants.{MOST_CALLS}
use Rattle.private_store.specs.Beginnings.{begun}
use Rattle.thread_steps.specs.States.{State, Res, Val, Over, Unfinished, Doing, ◌>>=◌, ◌>>◌, give, skip}
use Rattle.thread_steps.specs.Values.{number_of}
use Rattle.thread_steps.specs.Actions.{tick, notify, wait}
use Rattle.thread_steps.specs.Blocks.{open_block, close_block, local_object, begin_call, end_call}
use Rattle.source_meaning.specs.Types.{cell_kind, shape_of}
use Rattle.source_meaning.specs.Running.{Running, running}
use Rattle.source_meaning.specs.Expressions.{Calls, no_value, put}
use Rattle.source_meaning.specs.Statements.{Flow, Gave, Standing, objects_in, shapes_of, run}
use Rattle.source_meaning.specs.Statements.{run_items}

-- What a function gives that ends without `return`: 0 or null (C99 6.9.1).
abbrev pub blank_of : Option Kind → Value
blank_of (Some k) = blank_value k
blank_of None = no_value

-- The function that is named main, if there is one (C99 5.1.2.2.1).
abbrev pub main_of : List Function → Option Function
main_of functions = find (λ f. pointwise nat_eq f.name (codes "main")) functions

module _ (ρ : Running) where
  -- What the body of a function stands in, with the function's parameters in scope (C99 6.2.1, 6.9.1).
  abbrev pub in_body : Function → Bool → Standing
  in_body f strict = record { strict = strict; count = length f.parameters; result = f.result }

  -- The parameters from the i-th on get the values of the arguments (C99 6.5.2.2).
  abbrev pub received : Place → ℕ → List CType → List Value → Doing (Unit {0})
  received at i (t ∷ ts) (v ∷ vs) = do
    p ← local_object i
    put ρ false at t p v
    received at (i + 1) ts vs
  received at i ts vs = skip

  -- What the body of a function, which is a block, does with these arguments; the function's parameters belong to its
  -- block (C99 6.2.1, 6.9.1).
  abbrev pub body : Calls → Function → List Value → Statement → Doing Flow
  body call f args (Stands at (Block strict items)) = do
    open_block 0 (map (shape_of ρ.structs) f.parameters ++ shapes_of ρ (objects_in items)) at
    received at 0 f.parameters args
    flow ← run_items ρ call (in_body f strict) items
    close_block
    give flow
  body call f args s = run ρ call (in_body f false) s

  -- A function from its first statement to its end, with these arguments: it gives the value of its `return`, else 0 or
  -- null (C99 6.8.6.4, 6.9.1); one that is missing does nothing.
  abbrev pub function : Calls → Option Function → List Value → Doing Value
  function call None args = give no_value
  function call (Some f) args = do
    flow ← body call f args f.body
    give (elim flow [ Gave v ↦ v | _ ↦ blank_of (cell_kind ρ.structs f.result) ])

  -- A call of a function where so many more may become active (C99 6.5.2.2). `begin_call` ends the thread where no
  -- more may.
  abbrev pub called : ℕ → Calls
  called zero number args at = λ _. Unfinished
  called (suc n) number args at = do
    tick ρ.thread
    begin_call at
    v ← function (called n) (slice_get ρ.functions number) args
    end_call
    give v

  -- The most calls that may be active at once, main's among them; one more is run error 19.
  unfoldable pub most_calls : ℕ
  most_calls = MOST_CALLS

  -- Where the definition of main begins, which is the place of the barriers around main; 1:1 without a main.
  abbrev pub main_place : Option Function → Place
  main_place (Some f) = f.at
  main_place None = record { line = 1; column = 1 }

  -- The call of main, which is no tick (C99 5.1.2.2.1).
  abbrev pub main_called : Option Function → Doing Value
  main_called main = do
    begin_call (main_place main)
    v ← function (called most_calls) main []
    end_call
    give v

  -- The whole course of a thread that runs the program: the barrier before main, main, and the barrier after it
  -- (UPC 6.6.1); its value is what main gives, as an int (C99 5.1.2.2.1, 5.1.2.2.3).
  abbrev pub course : Doing ℤ
  course = do
    let main = main_of ρ.functions
    notify ρ.thread (main_place main) Start
    wait ρ.thread (main_place main) Start
    v ← main_called main
    notify ρ.thread (main_place main) Finish
    wait ρ.thread (main_place main) Finish
    give (converted kind.Int (number_of v))

-- The outcome of a thread by the result of its course, with what it did and the ticks that it counted: Ended with
-- main's value, or the end that it has reached before (C99 5.1.2.2.3).
abbrev pub outcome_of : Res ℤ → Outcome
outcome_of (Val v σ) = record { actions = σ.actions; ticks = σ.ticks; «end» = Ended v }
outcome_of (Over e σ) = record { actions = σ.actions; ticks = σ.ticks; «end» = e }
outcome_of Unfinished = record { actions = []; ticks = 0; «end» = OutOfTicks }

-- What a thread begins with: the private objects of the file with their initial values (C99 6.7.8), and the replies
-- that it will be given.
abbrev pub initial_state : Checked → List Reply → State
initial_state program replies = record {
  store = begun (start_of program).private_shapes (start_of program).private_initials;
  ticks = 0;
  notified = false;
  actions = [];
  replies = replies;
}

-- The outcome of a thread of a program, with a budget of ticks and on these replies (C99 5.1.2.3).
unfoldable pub thread_outcome : Checked → (thread budget : ℕ) → List Reply → Outcome
thread_outcome program thread budget replies =
    outcome_of (course (running program thread budget) (initial_state program replies))
