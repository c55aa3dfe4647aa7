-- What holds of every source that is accepted.
use Rattle.std.specs.Prelude.{◌≡◌, ℕ, ◌≤◌, ◌^◌, List, length, Some}
use Rattle.upc_lexer.specs.Numbers.{NumbersFit}
use Rattle.upc_tree.specs.Unit.{External, tokens_of}
use Rattle.upc_values.specs.declared.scalar.Value.{Value}
use Rattle.upc_values.specs.Lists.{Each}
use Rattle.typed_tree.specs.Tree.{Function}
use Rattle.typed_tree.specs.Programs.{Checked, start_of}
use Rattle.source_meaning.specs.Running.{Running, running}
use Rattle.source_meaning.specs.Threads.{called, main_of, main_called}
use Rattle.upc_checker.specs.Outcomes.{Accepted, outcome}
use Rattle.meaning_laws.specs.layer.Values.{IsOf, Brings}
use Rattle.meaning_laws.specs.layer.Formed.{CallsFit}
use Rattle.meaning_laws_accepted.specs.code.FormedPrograms.{IsFormedProgram}
use Rattle.meaning_laws_accepted.specs.code.LaidPrograms.{IsLaidProgram}
use Rattle.meaning_laws_accepted.specs.code.Defaults.{TakesFunction}

-- The types in the program of each source that is accepted are formed, and each call in it that allocates makes
-- elements of a size.
pub record AcceptedAreFormed : Type 0 where
  pub each :
      (names : List (List ℕ)) (threads : ℕ) (unit : List External) (x : Checked)
      → outcome names threads unit ≡ Accepted x → IsFormedProgram x

-- In the program of each source that is accepted each object and each parameter has a layout, so that none counts as
-- one byte, and each block is at most 16,777,216 elements, so that none counts as fewer than it has.
pub record AcceptedAreLaid : Type 0 where
  pub each :
      (names : List (List ℕ)) (threads : ℕ) (unit : List External) (x : Checked)
      → outcome names threads unit ≡ Accepted x → IsLaidProgram x

-- As a thread runs a program, each expression gives a value of its type, each operator, conversion and call of the
-- library takes all values of its operands' types, and what is written fits its cell; and functions give values of
-- their results' types.
pub record TakesNoDefault (x : Checked) (ρ : Running) : Type 0 where
  pub functions : Each (TakesFunction ρ) x.functions
  pub calls : (calls : ℕ) → CallsFit ρ (called ρ calls)
  pub main : (f : Function) → main_of x.functions ≡ Some f
      → Brings Value (IsOf ρ.structs f.result) (main_called ρ (Some f))

-- The program of each source that is accepted, whose numbers are in range, takes no default where it has at most 2^64
-- shapes, whichever thread runs it and with whatever budget.
pub record AcceptedTakeNoDefault : Type 0 where
  pub each :
      (names : List (List ℕ)) (threads : ℕ) (unit : List External) (x : Checked) (thread budget : ℕ)
      → NumbersFit (tokens_of unit) → outcome names threads unit ≡ Accepted x
      → length (start_of x).shapes ≤ 2 ^ 64 → TakesNoDefault x (running x thread budget)
