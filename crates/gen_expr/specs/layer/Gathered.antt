-- The forms of instruction that the code of expressions has.
use Rattle.std.specs.Prelude.{ℕ, ℤ, pos, Bool, List}
use Rattle.upc_text.specs.declared.place.Place.{Place}
use Rattle.block_layout.specs.declared.kind.Kind.{Kind}
use Rattle.block_layout.specs.declared.place.LocalPtr.TheVariants as local
use Rattle.upc_values.specs.declared.scalar.Value.TheVariants as value
use Rattle.upc_values.specs.declared.library.LibraryCall.{LibraryCall}
use Rattle.thread_steps.specs.Values.{number}
use Rattle.source_meaning.specs.Running.{shared_object}
use Rattle.stack_code.specs.declared.instruction.StackWork.{StackWork}
use Rattle.stack_code.specs.declared.instruction.StackWork.TheVariants.{Push}
use Rattle.stack_code.specs.declared.instruction.ValueWork.{ValueWork}
use Rattle.stack_code.specs.declared.instruction.ObjectWork.TheVariants as cell
use Rattle.stack_code.specs.declared.instruction.Jump.{Jump}
use Rattle.stack_code.specs.declared.instruction.CallWork.TheVariants as call
use Rattle.stack_code.specs.declared.instruction.ThreadWork.TheVariants as thread
use Rattle.stack_code.specs.declared.instruction.Operation.TheVariants as work
use Rattle.stack_code.specs.declared.instruction.Instr.{Instr}
use Rattle.gen_expr.specs.layer.Sources.{Source, running_of}
use Rattle.gen_expr.specs.layer.Codes.{instruction, stacks, makes, jumps, pushes, loads, saves}

-- The work on the stack is no push of a value.
abbrev pub PushesNone : StackWork → Type 0
PushesNone (Push v) = ⊥
PushesNone w = Unit {0}

-- Something holds of each form of instruction that the code of an expression of a program has. The only pointers that
-- it names are the places of objects of the file.
pub record HoldsOfForms (ς : Source) (Q : Instr → Type 0) : Type 0 where
  pub numbers : (at : Place) (v : ℤ) → Q (pushes at (number v))
  pub private_objects : (at : Place) (n : ℕ) → Q (pushes at (value.Local (local.Private n (pos 0))))
  pub shared_objects : (at : Place) (n : ℕ) → Q (pushes at (shared_object (running_of ς) n))
  pub stack_work : (at : Place) (w : StackWork) → PushesNone w → Q (stacks at w)
  pub value_work : (at : Place) (w : ValueWork) → Q (makes at w)
  pub local_objects : (at : Place) (n : ℕ) → Q (instruction at (work.Object (cell.Local n)))
  pub reads : (at : Place) (kind : Kind) (strict : Bool) → Q (loads at kind strict)
  pub writes : (at : Place) (kind : Kind) (strict : Bool) → Q (saves at kind strict)
  pub ways : (at : Place) (w : Jump) → Q (jumps at w)
  pub calls : (at : Place) (f n : ℕ) → Q (instruction at (work.Call (call.CallTo f n)))
  pub library_calls : (at : Place) (c : LibraryCall) (shape n : ℕ)
      → Q (instruction at (work.Thread (thread.Library c shape n)))
  pub prints : (at : Place) (format : List ℕ) (n : ℕ) → Q (instruction at (work.Thread (thread.Print format n)))
