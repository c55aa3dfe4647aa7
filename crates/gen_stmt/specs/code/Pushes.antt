-- What code pushes.
use Rattle.std.specs.Prelude.{ℕ, ◌≡◌, ℤ, pos}
use Rattle.block_layout.specs.declared.kind.Kind.{Kind}
use Rattle.block_layout.specs.declared.place.LocalPtr.TheVariants as local
use Rattle.upc_values.specs.declared.scalar.Value.{Value}
use Rattle.upc_values.specs.declared.scalar.Value.TheVariants as value
use Rattle.upc_values.specs.Lists.{Each}
use Rattle.upc_values.specs.Shapes.{blank_value}
use Rattle.typed_tree.specs.Programs.{Checked}
use Rattle.thread_steps.specs.Values.{number}
use Rattle.source_meaning.specs.Running.{shared_object}
use Rattle.stack_code.specs.layer.Names.{Pushes}
use Rattle.gen_expr.specs.layer.Sources.{Source, running_of}
use Rattle.gen_stmt.specs.layer.Programs.{source, program_code}

-- What the code of a program may push: an integer, where a private object of the file or a declared shared object
-- begins, and 0 or null.
pub data IsPushed (ς : Source) (v : Value) : Type 0 where
  integer : (i : ℤ) → v ≡ number i → IsPushed ς v
  private : (n : ℕ) → v ≡ value.Local (local.Private n (pos 0)) → IsPushed ς v
  shared : (n : ℕ) → v ≡ shared_object (running_of ς) n → IsPushed ς v
  blank : (kind : Kind) → v ≡ blank_value kind → IsPushed ς v

-- Each value that an instruction of the program's code pushes is an integer, the place where an object of the file
-- begins, or 0 or null.
abbrev pub PushesOnly : Checked → Type 0
PushesOnly program =
    Each (Each (λ i. Pushes (IsPushed (source program)) i.does)) (program_code program).functions
