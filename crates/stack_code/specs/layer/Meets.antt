-- How a part of code is said to do what a meaning says.
use Rattle.std.specs.Prelude.{ℕ, ◌≡◌, ◌+◌, List, [], ◌∷◌, Some, slice_get}
use Rattle.upc_values.specs.declared.scalar.Value.{Value}
use Rattle.thread_steps.specs.States.{Thread, State, Res, Val, Over, Unfinished}
use Rattle.stack_code.specs.declared.instruction.Instr.{Instr}
use Rattle.stack_code.specs.layer.Codes.{function_at}
use Rattle.stack_code.specs.layer.Steps.{Spot, Conf, At, Halt, steps}

-- These instructions stand in a list from this place on.
abbrev pub HasAt : List Instr → ℕ → List Instr → Type 0
HasAt code place [] = Unit {0}
HasAt code place (i ∷ more) = (slice_get code place ≡ Some i) × HasAt code (place + 1) more

-- These instructions stand in a function of the code, from a spot on.
abbrev pub HasFrom : List (List Instr) → Spot → List Instr → Type 0
HasFrom functions at part = HasAt (function_at functions at.function) at.place part

-- The arguments of a call, or the values of some expressions, over other operands; the last one is the youngest.
abbrev pub piled : List Value → List Value → List Value
piled [] operands = operands
piled (v ∷ vs) operands = piled vs (v ∷ operands)

-- A spot with these operands, where the arguments of the youngest call are received.
abbrev pub there : Spot → List Value → List Spot → State → Conf
there at operands calls = At at [] operands calls

-- A spot with a value on top of these operands.
abbrev pub value_at : Spot → List Value → List Spot → Value → State → Conf
value_at at operands calls v = there at (v ∷ operands) calls

module _ (τ : Thread) (functions : List (List Instr)) where
  -- Some instructions lead from c to d.
  pub record Leads (c d : Conf) : Type 0 where
    pub count : ℕ
    pub is : steps τ functions count c ≡ d

  -- From c the code leads to where `go` says for the value of a result, or to the end of the thread in which the result
  -- ends.
  abbrev pub Comes : {A : Type 0} → Conf → (A → State → Conf) → Res A → Type 0
  Comes c go (Val a σ) = Leads c (go a σ)
  Comes c go (Over told σ) = Leads c (Halt told σ)
  Comes c go Unfinished = Unit {0}

  -- From c the code leads to where `go` says that the result is, or to the end of the thread where it is one.
  pub record Meets (A : Type 0) (c : Conf) (go : A → State → Conf) (r : Res A) : Type 0 where
    pub by : Comes c go r
