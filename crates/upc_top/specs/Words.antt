-- What the modes of the command line do with a program.
use Rattle.std.specs.Prelude.{Bool, true, false}
use Rattle.upc_top_words.specs.declared.call.Mode.{Mode}
use Rattle.upc_top_words.specs.declared.call.Mode.TheVariants.{Run, Record, Check, Layout, Sample, Verify, Races}
use Rattle.upc_top_words.specs.declared.call.Mode.TheVariants.{Replica}

-- The modes `run` and `sample` run a program, and write what it prints.
abbrev pub prints : Mode → Bool
prints Run = true
prints Sample = true
prints Record = false
prints Check = false
prints Layout = false
prints Verify = false
prints Races = false
prints Replica = false

-- The modes `run`, `sample`, `record` and `races` run a program on one shared memory.
abbrev pub runs : Mode → Bool
runs Run = true
runs Sample = true
runs Record = true
runs Check = false
runs Layout = false
runs Verify = false
runs Races = true
runs Replica = false
