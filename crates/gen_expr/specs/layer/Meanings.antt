-- What it is for code to do what an expression does.
use Rattle.std.specs.Prelude.{ℕ, ◌≡◌, suc, Bool, List, length, Some, slice_get}
use Rattle.upc_text.specs.declared.place.Place.{Place}
use Rattle.upc_values.specs.declared.scalar.Value.{Value}
use Rattle.thread_steps.specs.States.{State}
use Rattle.typed_tree.specs.Tree.{Expr}
use Rattle.source_meaning.specs.Running.{Running}
use Rattle.source_meaning.specs.Expressions.{Calls, value}
use Rattle.stack_code.specs.declared.instruction.CallWork.TheVariants.{CallTo}
use Rattle.stack_code.specs.declared.instruction.Operation.TheVariants as work
use Rattle.stack_code.specs.declared.instruction.Instr.{Instr}
use Rattle.stack_code.specs.layer.Codes.{function_at}
use Rattle.stack_code.specs.layer.Steps.{Spot, further}
use Rattle.stack_code.specs.layer.Meets.{HasFrom, Meets, piled, there, value_at}
use Rattle.stack_code.specs.layer.Making.{Making, with_instructions}
use Rattle.gen_expr.specs.layer.Sources.{Source, source_of}
use Rattle.gen_expr.specs.layer.Codes.{value_code, effect_code}

-- In these functions an instruction that calls function n + 1 does what a call of function n does.
abbrev pub CallsMeet : Running → List (List Instr) → Calls → Type 0
CallsMeet ρ functions call =
    (n : ℕ) (vs : List Value) (at : Place) (here : Spot) (operands : List Value) (calls : List Spot) (σ : State)
    → slice_get (function_at functions here.function) here.place
    ≡ Some (record { place = at; does = work.Call (CallTo (suc n) (length vs)) })
    → Meets ρ.thread functions Value (there here (piled vs operands) calls σ)
    (value_at (further 1 here) operands calls) (call n vs at σ)

-- Wherever functions have this code, it does what the expression does, and leaves its value.
abbrev pub GivesValue : Running → List (List Instr) → Calls → Bool → Expr → List Instr → Type 0
GivesValue ρ functions call strict e code =
    (here : Spot) (operands : List Value) (calls : List Spot) (σ : State)
    → HasFrom functions here code
    → Meets ρ.thread functions Value (there here operands calls σ)
    (value_at (further (length code) here) operands calls) (value ρ call strict e σ)

-- Wherever functions have the code of an expression, it does what the expression does, and leaves its value.
abbrev pub MeansValue : Running → List (List Instr) → Calls → Bool → Expr → Type 0
MeansValue ρ functions call strict e = GivesValue ρ functions call strict e (value_code (source_of ρ) strict e)

-- Wherever functions have this code, it does what the expression does, and leaves no operand.
abbrev pub LeavesNothing : Running → List (List Instr) → Calls → Bool → Expr → List Instr → Type 0
LeavesNothing ρ functions call strict e code =
    (here : Spot) (operands : List Value) (calls : List Spot) (σ : State)
    → HasFrom functions here code
    → Meets ρ.thread functions Value (there here operands calls σ)
    (λ v. there (further (length code) here) operands calls) (value ρ call strict e σ)

-- Wherever functions have the code of an expression for what it does alone, it does what the expression does, and
-- leaves no operand.
abbrev pub MeansEffect : Running → List (List Instr) → Calls → Bool → Expr → Type 0
MeansEffect ρ functions call strict e =
    LeavesNothing ρ functions call strict e (effect_code (source_of ρ) strict e)

-- The code of every expression for what it does alone does what the expression does, in every program, whatever the
-- calls do that its own calls meet: all that its value's code and the removal of that value do.
abbrev pub EffectsAreMeant : Type 0
EffectsAreMeant =
    (ρ : Running) (functions : List (List Instr)) (call : Calls) (strict : Bool) (e : Expr)
    → CallsMeet ρ functions call → MeansEffect ρ functions call strict e

-- The code of every expression does what the expression does, in every program, whatever the calls do that its own
-- calls meet.
abbrev pub ExpressionsAreMeant : Type 0
ExpressionsAreMeant =
    (ρ : Running) (functions : List (List Instr)) (call : Calls) (strict : Bool) (e : Expr)
    → CallsMeet ρ functions call → MeansValue ρ functions call strict e

-- Code means an expression of a program: in each thread that runs the program it does what the expression does,
-- whatever the calls do that its own calls meet.
abbrev pub MeansExpression : Source → Bool → Expr → List Instr → Type 0
MeansExpression ς strict e code =
    (ρ : Running) (functions : List (List Instr)) (call : Calls)
    → source_of ρ ≡ ς → CallsMeet ρ functions call → GivesValue ρ functions call strict e code

-- Code that means an expression has been appended to the function that is being made, and nothing else has changed.
pub record AppendsMeaning (ς : Source) (strict : Bool) (e : Expr) (old new : Making) : Type 0 where
  pub code : List Instr
  pub appended : new ≡ with_instructions code old
  pub means : MeansExpression ς strict e code
