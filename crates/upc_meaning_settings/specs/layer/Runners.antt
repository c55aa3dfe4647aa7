-- The thread that runs, seen without where its shapes lie in memory.
use Rattle.block_layout.specs.Shapes.{IsShape}
use Rattle.shared_pointers.specs.layer.Ranges.{IsThreads}
use Rattle.upc_values.specs.Lists.{Each}
use Rattle.upc_values.specs.declared.scalar.Value.{Value}
use Rattle.thread_steps.specs.layer.Ranges.{IsHeld}
use Rattle.thread_steps.specs.States.{Thread}
use Rattle.upc_meaning_settings.specs.declared.runner.Runner.{Runner}

-- The thread that runs, seen without where its shapes lie in memory.
abbrev pub thread_seen : Runner → Thread
thread_seen s = record { number = s.number; threads = s.threads; budget = s.budget; shapes = s.shapes.now }

-- A run may have so many threads, and each shape of shared elements is one.
pub record Fits (s : Runner) : Type 0 where
  pub threads : IsThreads s.threads
  pub shapes : Each IsShape s.shapes.now

-- The value is in range for the threads and the shapes of the run.
abbrev pub IsHeldThere : Runner → Value → Type 0
IsHeldThere s v = IsHeld s.threads s.shapes.now v
