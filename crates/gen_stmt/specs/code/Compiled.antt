-- Functions and private objects that are added to code that is being made.
use Rattle.std.specs.Prelude.{ℕ, false, List, [], ◌++◌}
use Rattle.block_layout.specs.declared.kind.Shape.{Shape}
use Rattle.block_layout.specs.declared.place.LocalPtr.{LocalPtr}
use Rattle.upc_values.specs.declared.scalar.Value.{Value}
use Rattle.typed_tree.specs.Tree.{Function}
use Rattle.typed_tree.specs.Beginnings.{Beginning}
use Rattle.stack_code.specs.declared.instruction.Instr.{Instr}
use Rattle.stack_code.specs.layer.Codes.{codes_of}
use Rattle.stack_code.specs.layer.Making.{Making}
use Rattle.gen_expr.specs.layer.ViewSource.{source_with}
use Rattle.gen_stmt.specs.layer.Programs.{functions_code}

-- Code that is being made, with these functions after those that are ended.
abbrev pub with_functions : List (List Instr) → Making → Making
with_functions functions m = record m { codes = record m.codes { functions = m.codes.functions ++ functions } }

-- Code that is being made, with these private objects of the file after the others.
abbrev pub with_objects : List Shape → Making → Making
with_objects shapes m = record m { codes = record m.codes { private_shapes = m.codes.private_shapes ++ shapes } }

-- Code that is being made, with these initial values of private objects after the others.
abbrev pub with_initials : List (LocalPtr × Value) → Making → Making
with_initials initials m =
    record m { codes = record m.codes { private_initials = m.codes.private_initials ++ initials } }

-- All of the code, for so many threads, of a program with these functions and this beginning: no function is being
-- made, and nothing has failed.
abbrev pub made : ℕ → List Function → Beginning → Making
made threads functions b = record {
  codes = codes_of threads b.shapes (functions_code (source_with functions b)) b.private_shapes b.private_initials;
  current = [];
  failed = false;
}
