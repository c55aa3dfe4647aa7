-- How many objects of a function are in scope where its blocks begin.
use Rattle.std.specs.Prelude.{ℕ, ◌≤◌}
use Rattle.upc_values.specs.Lists.{Each}
use Rattle.typed_tree.specs.Programs.{Checked, count_of}
use Rattle.stack_code.specs.declared.instruction.ObjectWork.{ObjectWork}
use Rattle.stack_code.specs.declared.instruction.ObjectWork.TheVariants.{Enter}
use Rattle.stack_code.specs.declared.instruction.Operation.{Operation}
use Rattle.stack_code.specs.declared.instruction.Operation.TheVariants as work
use Rattle.gen_stmt.specs.layer.Programs.{program_code}

-- A block that work on objects begins, if it begins one, begins after no more than so many objects of its function in
-- scope (C99 6.2.1, 6.8.2).
abbrev pub EntersWithin : (most : ℕ) → ObjectWork → Type 0
EntersWithin most (Enter from shapes) = from ≤ most
EntersWithin most w = Unit {0}

-- P holds of an operation's work on objects, if it is such work.
abbrev pub OnObject : (ObjectWork → Type 0) → Operation → Type 0
OnObject P (work.Object w) = P w
OnObject P w = Unit {0}

-- In the code of a program no block begins after more objects in scope than the program declares in all, together with
-- its structs, parameters and functions. In a typed program these are at most 65,535 (docs/LANGUAGE.md, "Limits").
abbrev pub EntersFew : Checked → Type 0
EntersFew program =
    Each (Each (λ i. OnObject (EntersWithin (count_of program)) i.does)) (program_code program).functions
