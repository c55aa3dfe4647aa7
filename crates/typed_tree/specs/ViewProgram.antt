-- What contracts see of a program.
use Rattle.typed_tree.specs.declared.program.Program as programs
use Rattle.typed_tree.specs.Programs.{Checked, view_parts}

-- The record of a program of the code, seen without where it lies in memory.
abbrev pub view_program : programs.Program → Checked
view_program x = view_parts x.threads x.objects x.functions x.beginning
