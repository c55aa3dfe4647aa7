-- What a run of a program begins with.
use Rattle.upc_values.specs.Openings.{Opening}
use Rattle.typed_tree.specs.declared.program.Program.{Program}
use Rattle.typed_tree.specs.Beginnings.{opening_in, view_beginning}

-- What a run of a program begins with: its shared objects with their initial values, and the shapes.
abbrev pub opening_of : Program → Opening
opening_of program = opening_in program.threads (view_beginning program.beginning)
