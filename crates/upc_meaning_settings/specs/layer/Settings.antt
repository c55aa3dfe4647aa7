-- A program as a thread runs it, seen without where it lies in memory.
use Rattle.std.specs.Prelude.{map}
use Rattle.upc_types.specs.ViewStructs.{view_structs}
use Rattle.typed_tree.specs.ViewStatements.{view_function}
use Rattle.source_meaning.specs.Running.{Running}
use Rattle.upc_meaning_settings.specs.declared.setting.Setting.{Setting}
use Rattle.upc_meaning_settings.specs.layer.Runners.{thread_seen}

-- The program as a thread runs it, seen without where it lies in memory.
abbrev pub running_seen : Setting → Running
running_seen s = record {
  functions = map view_function s.functions.now;
  structs = view_structs s.structs.now;
  shared = s.shared.now;
  thread = thread_seen s.runner;
}
