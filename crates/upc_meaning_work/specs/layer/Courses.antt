-- A whole thread (C99 5.1.2.2.3; UPC 6.6.1).
use Rattle.std.specs.Prelude.{ℕ, suc, ℤ, false, List, [], ◌∷◌, Option, Some, None}
use Rattle.std.specs.Borrow.{Bor}
use Rattle.upc_values.specs.declared.action.Reply.{Reply}
use Rattle.typed_tree.specs.declared.tree.Function as function_type
use Rattle.typed_tree.specs.Tree.{Function}
use Rattle.typed_tree.specs.Beginnings.{Beginning}
use Rattle.typed_tree.specs.Programs.{Checked}
use Rattle.typed_tree.specs.ViewStatements.{view_function}
use Rattle.private_store.specs.declared.store.TheConstants.{MOST_CALLS}
use Rattle.private_store.specs.Beginnings.{begun}
use Rattle.thread_steps.specs.States.{State, Res, ◌>>=◌, ◌>>◌, give}
use Rattle.thread_steps.specs.Blocks.{end_call}
use Rattle.source_meaning.specs.Running.{Running}
use Rattle.source_meaning.specs.Statements as pure
use Rattle.source_meaning.specs.Threads.{called, function}
use Rattle.source_meaning.specs.layer.Parts.{course_from, main_on}
use Rattle.upc_meaning_work.specs.layer.Seen.{Seen}
use Rattle.upc_meaning_work.specs.layer.Left.{left}

-- The function main, if there is one, seen without where it lies in memory.
abbrev pub view_main : Option (Bor function_type.Function) → Option Function
view_main None = None
view_main (Some main) = Some (view_function main.now)

-- Nothing is left to do in this state, and main may be called.
abbrev pub fresh : State → Seen
fresh σ = record { works = []; values = []; flow = pure.Next; free = suc MOST_CALLS; state = σ }

-- What a whole thread with this main does from a state on: the barrier before main, main, and the barrier after it
-- (UPC 6.6.1).
unfoldable pub comes_to : Running → Option Function → State → Res ℤ
comes_to ρ main σ = course_from ρ main σ

-- What a thread with this main does after its first barrier, from a state on: main, and the barrier after it
-- (UPC 6.6.1).
unfoldable pub main_comes_to : Running → Option Function → State → Res ℤ
main_comes_to ρ main σ = main_on ρ main σ

-- What a call of main that has begun does, and then all that is left, where so many more calls may become active.
unfoldable pub main_entered : Running → Option Function → (free : ℕ) → Seen → Res ℤ
main_entered ρ main free s =
    (function ρ (called ρ free) main [] >>= (λ v. end_call >> give v)
    >>= (λ v. left ρ s.works (suc free) s.flow (v ∷ s.values))) s.state

-- A program as a thread runs it, where the program has this beginning.
abbrev pub running_with : Checked → Beginning → (thread budget : ℕ) → Running
running_with program b thread budget = record {
  functions = program.functions;
  structs = b.structs;
  shared = b.shared_objects;
  thread = record { number = thread; threads = program.threads; budget = budget; shapes = b.shapes };
}

-- The state in which a thread begins: the private objects of the file with their initial values, and the replies that
-- it will be given (C99 6.7.8).
abbrev pub state_with : Beginning → List Reply → State
state_with b replies = record {
  store = begun b.private_shapes b.private_initials;
  ticks = 0;
  notified = false;
  actions = [];
  replies = replies;
}
