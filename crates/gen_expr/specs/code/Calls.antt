-- The code of calls, apart.
use Rattle.std.specs.Prelude.{ℕ, suc, Bool, List, [], ◌∷◌, ◌++◌, map}
use Rattle.upc_text.specs.declared.place.Place.{Place}
use Rattle.upc_values.specs.declared.library.LibraryCall.{LibraryCall}
use Rattle.upc_types.specs.Types.{CType}
use Rattle.typing_rules.specs.Library.{call_parameters}
use Rattle.typed_tree.specs.Tree.{Exprs}
use Rattle.source_meaning.specs.Types.{conversions, parameter_conversion}
use Rattle.source_meaning.specs.Running.{parameters_of}
use Rattle.source_meaning.specs.Expressions.{types_of, allocated_shape}
use Rattle.stack_code.specs.declared.instruction.CallWork.TheVariants.{CallTo}
use Rattle.stack_code.specs.declared.instruction.ThreadWork.TheVariants.{Library}
use Rattle.stack_code.specs.declared.instruction.Operation.TheVariants as work
use Rattle.stack_code.specs.declared.instruction.Instr.{Instr}
use Rattle.gen_expr.specs.layer.Sources.{Source, running_of}
use Rattle.gen_expr.specs.layer.Codes.{instruction, arguments_count, arguments_code}

-- The code of a call of a function of the source (C99 6.5.2.2).
abbrev pub function_call_code : Source → Bool → Place → ℕ → Exprs → List Instr
function_call_code ς strict at n args =
    let cs = conversions (types_of args) (parameters_of (running_of ς) n) in
    arguments_code ς strict cs args
    ++ (instruction at (work.Call (CallTo (suc n) (arguments_count cs args))) ∷ [])

-- The code of a call of the library other than printf (UPC 7.2, 7.3).
abbrev pub library_call_code : Source → Bool → Place → CType → LibraryCall → Exprs → List Instr
library_call_code ς strict at t c args =
    let cs = map parameter_conversion (call_parameters c) in
    arguments_code ς strict cs args
    ++ (instruction at
    (work.Thread (Library c (allocated_shape (running_of ς) c t) (arguments_count cs args))) ∷ [])
