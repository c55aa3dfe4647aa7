-- What code is made from: all that a program says to its code, which is the same for each thread.
use Rattle.std.specs.Prelude.{List}
use Rattle.block_layout.specs.declared.kind.Shape.{Shape}
use Rattle.upc_types.specs.Types.{Structs}
use Rattle.typed_tree.specs.Tree.{Function}
use Rattle.typed_tree.specs.declared.beginning.SharedDecl.{SharedDecl}
use Rattle.source_meaning.specs.Running.{Running}

-- A program without a thread: its functions by number, its structs with the numbers of pointer types, its declared
-- shared objects in order, and the shapes of the elements of shared objects.
pub record Source : Type 0 where
  pub functions : List Function
  pub structs : Structs
  pub shared : List SharedDecl
  pub shapes : List Shape

-- The program that a thread runs, without the thread, which is what its code is made from.
abbrev pub source_of : Running → Source
source_of ρ = record {
  functions = ρ.functions;
  structs = ρ.structs;
  shared = ρ.shared;
  shapes = ρ.thread.shapes;
}

-- The program as any thread runs it: what is asked of it here depends on no thread.
abbrev pub running_of : Source → Running
running_of ς = record {
  functions = ς.functions;
  structs = ς.structs;
  shared = ς.shared;
  thread = record { number = 0; threads = 0; budget = 0; shapes = ς.shapes };
}
