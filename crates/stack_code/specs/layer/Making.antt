-- Code that is being made.
use Rattle.std.specs.Prelude.{ℕ, Bool, true, false, List, [], ◌∷◌, ◌++◌}
use Rattle.block_layout.specs.declared.kind.Shape.{Shape}
use Rattle.block_layout.specs.declared.place.LocalPtr.{LocalPtr}
use Rattle.block_layout.specs.Shapes.{IsShape}
use Rattle.shared_pointers.specs.layer.Ranges.{IsThreads}
use Rattle.upc_values.specs.Lists.{Each}
use Rattle.upc_values.specs.declared.scalar.Value.{Value}
use Rattle.stack_code.specs.declared.instruction.Instr.{Instr}
use Rattle.stack_code.specs.layer.Codes.{Codes, codes_of}
use Rattle.stack_code.specs.layer.Kept.{IsFitting, IsKnown}

-- The code so far, the instructions of the function that is not ended yet, and whether memory was wanting.
pub record Making : Type 0 where
  pub codes : Codes
  pub current : List Instr
  pub failed : Bool

-- The code of so many threads and these shapes that has no function and no private object yet.
abbrev pub empty : ℕ → List Shape → Making
empty threads shapes = record {
  codes = codes_of threads shapes [] [] [];
  current = [];
  failed = false;
}

-- The code with one more instruction in the function.
abbrev pub with_instruction : Instr → Making → Making
with_instruction i m = record m { current = m.current ++ i ∷ [] }

-- The code with these instructions more in the function.
abbrev pub with_instructions : List Instr → Making → Making
with_instructions is m = record m { current = m.current ++ is }

-- The code for which memory was wanting.
abbrev pub with_failure : Making → Making
with_failure m = record m { failed = true }

-- The code with the function ended, after which the next one begins.
abbrev pub with_function : Making → Making
with_function m = record m {
  codes = record m.codes { functions = m.codes.functions ++ m.current ∷ [] };
  current = [];
}

-- The code with one more private object of the file.
abbrev pub with_object : Shape → Making → Making
with_object shape m = record m {
  codes = record m.codes { private_shapes = m.codes.private_shapes ++ shape ∷ [] };
}

-- The code with one more initial value of a cell of a private object.
abbrev pub with_initial : LocalPtr → Value → Making → Making
with_initial at v m = record m {
  codes = record m.codes { private_initials = m.codes.private_initials ++ (at, v) ∷ [] };
}

-- What is kept while code is made: the threads, the shapes, and that nothing that is named is out of range.
pub record IsMaking (m : Making) : Type 0 where
  pub threads : IsThreads m.codes.threads
  pub shapes : Each IsShape m.codes.shapes
  pub fitting : Each (Each (IsFitting m.codes.threads m.codes.shapes)) m.codes.functions
  pub current : Each (IsFitting m.codes.threads m.codes.shapes) m.current
  pub known : Each (λ x. IsKnown m.codes.threads m.codes.shapes x.1) m.codes.private_initials
