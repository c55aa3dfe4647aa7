-- Parts of definitions that code and proofs speak of by a name of their own.
use Rattle.std.specs.Prelude.{ℕ, ℤ, neg_ℤ, Bool, true, false, List, [], ◌++◌, map, Option, Some, None}
use Rattle.std.specs.Prelude.{codes, nat_eq}
use Rattle.std.specs.Cmp.Lexicographic.{pointwise}
use Rattle.upc_text.specs.declared.place.Place.{Place}
use Rattle.block_layout.specs.declared.kind.Kind.{Kind}
use Rattle.block_layout.specs.declared.kind.Kind.TheVariants as kind
use Rattle.block_layout.specs.declared.kind.Shape.{Shape}
use Rattle.integers.specs.Integers.{converted, promoted}
use Rattle.integers.specs.declared.operator.BinOp.{BinOp}
use Rattle.integers.specs.declared.operator.BinOp.TheVariants as op
use Rattle.upc_values.specs.declared.scalar.Value.{Value}
use Rattle.upc_values.specs.declared.scalar.Mark.TheVariants.{Start, Finish}
use Rattle.upc_values.specs.declared.record.ToldEnd.{ToldEnd}
use Rattle.upc_values.specs.declared.library.LibraryCall.{LibraryCall}
use Rattle.upc_values.specs.declared.library.LibraryCall.TheVariants.{Printf}
use Rattle.upc_values.specs.Outcomes.{Outcome}
use Rattle.upc_types.specs.declared.layout.Layout.{Layout}
use Rattle.upc_types.specs.Types.{CType, Base, Array, Structs}
use Rattle.upc_types.specs.Layout.{base_within}
use Rattle.typing_rules.specs.declared.attribute.Form.{Form}
use Rattle.typing_rules.specs.declared.attribute.Form.TheVariants.{Lvalue}
use Rattle.typing_rules.specs.Constants.{working_kind, right_kind}
use Rattle.typing_rules.specs.Nodes.{Attr}
use Rattle.typed_tree.specs.declared.tree.StepOperator.{StepOperator}
use Rattle.typed_tree.specs.declared.tree.StepOperator.TheVariants as step
use Rattle.typed_tree.specs.Elements.{element_shape, number_among}
use Rattle.typed_tree.specs.Tree.{Expr, Function, Items}
use Rattle.thread_steps.specs.declared.cast.CastTo.{CastTo}
use Rattle.thread_steps.specs.declared.cast.CastTo.TheVariants as to
use Rattle.thread_steps.specs.States.{State, Doing, ◌>>=◌, ◌>>◌, give, skip, choose}
use Rattle.thread_steps.specs.Values.{number_of}
use Rattle.thread_steps.specs.Actions.{notify, wait}
use Rattle.thread_steps.specs.Accesses.{load, save}
use Rattle.thread_steps.specs.Pointers.{in_row}
use Rattle.thread_steps.specs.Operators.{operate}
use Rattle.thread_steps.specs.Blocks.{open_block, close_block}
use Rattle.source_meaning.specs.Types.{is_strict, member_offset, shape_of}
use Rattle.source_meaning.specs.Running.{Running}
use Rattle.source_meaning.specs.Expressions.{Calls, no_value, behind, on_pointers, held, value}
use Rattle.source_meaning.specs.Statements.{Flow, Next, Broke, Gave, Standing, objects_in, shapes_of, run_items}
use Rattle.source_meaning.specs.Threads.{in_body, received, main_place, main_called}

-- ---- types and conversions

-- The integer promotion of a value of this kind; a value of no integer kind is discarded (C99 6.3.1.1).
abbrev pub promotion_of : Option Kind → CastTo
promotion_of (Some k) = to.Integer (promoted k)
promotion_of None = to.Nothing

-- The types of the parameters of a function; a function that is missing has none (C99 6.9.1).
abbrev pub parameters_in : Option Function → List CType
parameters_in (Some f) = f.parameters
parameters_in None = []

-- The standing in a block whose accesses that do not say so are strict or relaxed (UPC 6.7).
abbrev pub with_strict : Bool → Standing → Standing
with_strict strict κ = record κ { strict = strict }

-- What a function gives by how its body is left: the value of its `return`, else 0 or null (C99 6.8.6.4, 6.9.1).
abbrev pub given_by : Value → Flow → Value
given_by blank (Gave v) = v
given_by blank flow = blank

-- The outcome of a thread that ends so in this state.
abbrev pub told : ToldEnd → State → Outcome
told e σ = record { actions = σ.actions; ticks = σ.ticks; «end» = e }

-- The function is named main (C99 5.1.2.2.1).
abbrev pub is_main : Function → Bool
is_main f = pointwise nat_eq f.name (codes "main")

-- ---- expressions

-- How many elements an array type has; no other type has elements (C99 6.2.5).
abbrev pub count_in : Base → Option ℕ
count_in (Array element count) = Some count
count_in b = None

-- The call is printf (C99 7.19.6.3).
abbrev pub is_printf : LibraryCall → Bool
is_printf Printf = true
is_printf call = false

-- The expression has the form of an lvalue: it names an object (C99 6.3.2.1).
abbrev pub is_lvalue : Form → Bool
is_lvalue (Lvalue address) = true
is_lvalue form = false

-- A further subscript i of an array of arrays lies in its dimension, or is a run error; any other subscript is not
-- tested (C99 6.5.2.1, 6.5.6).
abbrev pub within_row : Place → Value → ℤ → Option ℕ → Doing (Unit {0})
within_row at p i None = skip
within_row at p i (Some count) = in_row count at p i

-- The value of a binary operator on two integers, after the usual arithmetic conversions (C99 6.3.1.8, 6.5.5 to
-- 6.5.12).
abbrev pub integers : Place → BinOp → (left right : Option Kind) → Value → Value → Doing Value
integers at o (Some j) (Some k) x y = operate o (working_kind o j k) (right_kind o j k) at x y
integers at o j k x y = give no_value

-- Which of the old and the new value `++` and `--` give (C99 6.5.2.4, 6.5.3.1).
abbrev pub step_value : (old new : Value) → StepOperator → Value
step_value old new step.IncrementFirst = new
step_value old new step.DecrementFirst = new
step_value old new o = old

-- ---- statements

-- What a statement does: a step whose value says how the statement is left (C99 6.8).
abbrev pub Does : Type 0
Does = Doing Flow

-- What follows a statement in a list, by how it is left (C99 6.8.2, 6.8.6).
abbrev pub go_on : (rest : Does) → Flow → Does
go_on rest Next = rest
go_on rest f = give f

-- What follows the body in a loop, by how it is left (C99 6.8.6.2, 6.8.6.3).
abbrev pub turn_on : (rest : Does) → Flow → Does
turn_on rest Broke = give Next
turn_on rest (Gave v) = give (Gave v)
turn_on rest f = rest

-- How a switch is left, by how its parts are (C99 6.8.6.3).
abbrev pub caught : Flow → Flow
caught Broke = Next
caught f = f

module _ (structs : Structs) where
  -- The size in bytes that a layout gives; a type without layout counts as one byte (C99 6.5.3.4).
  abbrev pub bytes_or_one : Option Layout → ℕ
  bytes_or_one (Some l) = l.size
  bytes_or_one None = 1

  -- The size in bytes of an object; a type without layout counts as one byte (C99 6.5.3.4).
  abbrev pub bytes_of : Base → ℕ
  bytes_of b = bytes_or_one (base_within structs.completed b)

  -- The bytes before member n of the struct to which a pointer leads, 0 where it leads to none (C99 6.5.2.3, 6.7.2.1).
  abbrev pub target_offset : ℕ → Option CType → ℕ
  target_offset n (Some t) = member_offset structs t n
  target_offset n None = 0

module _ (ρ : Running) where
  -- The number of the shape of this type's leaf elements among the program's shapes, 0 without a type (UPC 6.5.1.1).
  abbrev pub shape_number : Option CType → ℕ
  shape_number (Some t) = number_among ρ.thread.shapes (element_shape ρ.structs t)
  shape_number None = 0

  -- The value of a binary operator on a pointer to a type and an integer: the sum or the difference, or an equality
  -- with the constant 0 (C99 6.5.6, 6.5.9).
  abbrev pub on_pointer : Place → CType → Value → Value → BinOp → Doing Value
  on_pointer at t x y op.Add = behind ρ at t x (number_of y)
  on_pointer at t x y op.Subtract = behind ρ at t x (neg_ℤ (number_of y))
  on_pointer at t x y o = on_pointers ρ at o t x y

  -- The value of a binary operator on an integer and a pointer to a type: the sum, or an equality with the constant 0
  -- (C99 6.5.6, 6.5.9).
  abbrev pub before_pointer : Place → CType → Value → Value → BinOp → Doing Value
  before_pointer at t x y op.Add = behind ρ at t y (number_of x)
  before_pointer at t x y o = on_pointers ρ at o t x y

  -- The value of the cell of this kind at a place; what has no cell of its own has the place as its value
  -- (C99 6.3.2.1).
  abbrev pub loaded : Bool → Place → CType → Value → Option Kind → Doing Value
  loaded strict at t p (Some kind) = load ρ.thread kind (is_strict strict t) at p
  loaded strict at t p None = give p

  -- The cell of this kind at a place gets a new value; to what has no cell of its own nothing is written (C99 6.5.16).
  abbrev pub saved : Bool → Place → CType → Value → Value → Option Kind → Doing (Unit {0})
  saved strict at t p v (Some kind) = save ρ.thread kind (is_strict strict t) at p v
  saved strict at t p v None = skip

  -- The value of an expression by what it gives (C99 6.3.2.1).
  abbrev pub value_in : Bool → Place → Attr → Value → Doing Value
  value_in strict at attr v = choose (is_lvalue attr.form) (held ρ strict at attr.ctype v) (give v)

  -- The value of an expression that stands in a statement.
  abbrev pub evaluated : Calls → Standing → Expr → Doing Value
  evaluated call κ e = value ρ call κ.strict e

  -- The cells of a function's parameters, and of the objects that its body itself declares.
  abbrev pub shapes_in : Function → Items → List Shape
  shapes_in f items = map (shape_of ρ.structs) f.parameters ++ shapes_of ρ (objects_in items)

  -- A function's block, to which its parameters belong (C99 6.2.1, 6.9.1).
  abbrev pub opened : Calls → Function → List Value → Place → Bool → Items → Does
  opened call f args at strict items = do
    open_block 0 (shapes_in f items) at
    received ρ at 0 f.parameters args
    flow ← run_items ρ call (in_body ρ f strict) items
    close_block
    give flow

  -- What main does, and the barrier after it (UPC 6.6.1); its value is what main gives, as an int (C99 5.1.2.2.3).
  abbrev pub main_on : Option Function → Doing ℤ
  main_on main = do
    v ← main_called ρ main
    notify ρ.thread (main_place ρ main) Finish
    wait ρ.thread (main_place ρ main) Finish
    give (converted kind.Int (number_of v))

  -- The whole course of a thread, by its main: the barrier before main, main, and the barrier after it (UPC 6.6.1).
  abbrev pub course_from : Option Function → Doing ℤ
  course_from main = do
    notify ρ.thread (main_place ρ main) Start
    wait ρ.thread (main_place ρ main) Start
    main_on main
