-- The code of a program: its functions, and before them what a thread begins with (C99 5.1.2.2.3, 6.9.1; UPC 6.6.1).
use Rattle.std.specs.Prelude.{ℕ, suc, Bool, true, false, List, [], ◌∷◌, ◌++◌, map, Option, Some, None}
use Rattle.upc_text.specs.declared.place.Place.{Place}
use Rattle.block_layout.specs.declared.kind.Kind.{Kind}
use Rattle.upc_values.specs.declared.scalar.Mark.TheVariants.{Start, Finish}
use Rattle.upc_types.specs.Types.{CType}
use Rattle.typed_tree.specs.Tree.{Statement, Stands, Block, Items, Function}
use Rattle.typed_tree.specs.Programs.{Checked, start_of}
use Rattle.source_meaning.specs.Types.{cell_kind, is_strict}
use Rattle.source_meaning.specs.layer.Parts.{is_main, shapes_in}
use Rattle.source_meaning.specs.Running.{running}
use Rattle.source_meaning.specs.Threads.{main_of, main_place, in_body, blank_of}
use Rattle.stack_code.specs.declared.instruction.CellAccess.{CellAccess}
use Rattle.stack_code.specs.declared.instruction.CallWork.TheVariants as call
use Rattle.stack_code.specs.declared.instruction.ThreadWork.TheVariants as thread
use Rattle.stack_code.specs.declared.instruction.Operation.TheVariants as work
use Rattle.stack_code.specs.declared.instruction.Instr.{Instr}
use Rattle.stack_code.specs.layer.Codes.{Codes}
use Rattle.gen_expr.specs.layer.Sources.{Source, source_of, running_of}
use Rattle.gen_expr.specs.layer.Codes.{pushes}
use Rattle.gen_stmt.specs.layer.Ways.{in_function}
use Rattle.gen_stmt.specs.layer.Codes.{acts, gives_back, leaves, enters, statement_code, items_code}

-- The access that keeps an argument in a parameter of this type, where the parameter is a cell of this kind; without a
-- cell there is none (C99 6.5.2.2).
abbrev pub access_of : CType → Option Kind → Option CellAccess
access_of t (Some kind) = Some (record { kind = kind; strict = is_strict false t })
access_of t None = None

-- The instruction by which the parameters get the values of the arguments (C99 6.5.2.2).
abbrev pub receives : Place → List (Option CellAccess) → Instr
receives at cells = record { place = at; does = work.Call (call.Receive cells) }

module _ (ς : Source) where
  -- The access that keeps an argument in a parameter of this type, if that has a cell of its own (C99 6.5.2.2).
  abbrev pub parameter_access : CType → Option CellAccess
  parameter_access t = access_of t (cell_kind ς.structs t)

  -- The code of the body of a function, whose block has the parameters too (C99 6.2.1, 6.9.1).
  abbrev pub opened_code : Function → Place → Bool → Items → List Instr
  opened_code f at strict items =
      enters at 0 (shapes_in (running_of ς) f items)
      ∷ (receives at (map parameter_access f.parameters)
      ∷ (items_code ς (in_body (running_of ς) f strict) (in_function 1) items ++ (leaves at ∷ [])))

  -- The code of the body of a function; one that is no block receives nothing (C99 6.9.1).
  abbrev pub body_code : Function → Statement → List Instr
  body_code f (Stands at (Block strict items)) = opened_code f at strict items
  body_code f s =
      receives f.at [] ∷ statement_code ς (in_body (running_of ς) f false) (in_function 0) s

  -- The code of a function from its first statement to its end, where it gives 0 or null unless it has returned
  -- (C99 6.9.1).
  abbrev pub function_code : Function → List Instr
  function_code f =
      body_code f f.body
      ++ (pushes f.at (blank_of (cell_kind ς.structs f.result)) ∷ (gives_back f.at 0 ∷ []))

-- How many of some functions stand before main, by whether the first one is main and by how many of the others stand
-- before it.
abbrev pub counted : Bool → ℕ → ℕ
counted true n = 0
counted false n = suc n

-- How many functions stand before main, or all where there is none (C99 5.1.2.2.1).
abbrev pub main_number : List Function → ℕ
main_number [] = 0
main_number (f ∷ fs) = counted (is_main f) (main_number fs)

-- The code with which a thread begins: the barrier before main, the call of main, and the barrier after it
-- (C99 5.1.2.2.1, UPC 6.6.1).
abbrev pub entry_code : Source → List Instr
entry_code ς =
    let at = main_place (running_of ς) (main_of ς.functions) in
    acts at (thread.Notify Start)
    ∷ (acts at (thread.Wait Start)
    ∷ (record { place = at; does = work.Call (call.Begin (suc (main_number ς.functions))) }
    ∷ (acts at (thread.Notify Finish)
    ∷ (acts at (thread.Wait Finish) ∷ (record { place = at; does = work.Call call.Quit } ∷ [])))))

-- The functions of the code: the entry is function 0, and function n + 1 is function n of the program (C99 6.9.1).
abbrev pub functions_code : Source → List (List Instr)
functions_code ς = entry_code ς ∷ map (function_code ς) ς.functions

-- What the code of a checked program is made from.
abbrev pub source : Checked → Source
source program = source_of (running program 0 0)

-- The code of a program: its threads and shapes, its functions, and the private objects of the file with their initial
-- values (C99 6.9, UPC 6.3).
abbrev pub program_code : Checked → Codes
program_code program = record {
  threads = program.threads;
  shapes = (start_of program).shapes;
  functions = functions_code (source program);
  private_shapes = (start_of program).private_shapes;
  private_initials = (start_of program).private_initials;
}
