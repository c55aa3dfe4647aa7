-- What is left of a collective call, stage by stage (UPC 7.3).
use Rattle.std.specs.Prelude.{ℕ, ◌/◌, ◌==◌, false, cond, List, Option, Some, None}
use Rattle.block_layout.specs.declared.kind.Shape.{Shape}
use Rattle.upc_values.specs.declared.scalar.Scalar.TheVariants.{Int}
use Rattle.upc_values.specs.declared.scalar.Mark.TheVariants.{Absent}
use Rattle.upc_values.specs.declared.action.Action.TheVariants as act
use Rattle.upc_values.specs.Calls as calls
use Rattle.upc_values.specs.Expansion.{Expansion, nothing, bind, does, barrier}
use Rattle.upc_values.specs.Expansions as said
use Rattle.collectives.specs.layer.Left.{copies_rest, copies_put, numbers_rest, total_rest, prefixes_rest}
use Rattle.collectives.specs.layer.Left.{prefixes_put}
use Rattle.collectives.specs.declared.work.Work.{Work}
use Rattle.collectives.specs.declared.work.Work.TheVariants as work
use Rattle.collectives.specs.declared.stage.Stage.{Stage}
use Rattle.collectives.specs.declared.stage.Stage.TheVariants as stage
use Rattle.collectives.specs.declared.collective.Collective.{Collective}

-- The barrier at the exit of a call, unless the bits of its flags say NOSYNC.
abbrev pub exit_by : ℕ → Expansion (Unit {0})
exit_by bits = cond (bits / 8 == 1) nothing barrier

-- Thread `me` of so many, with the program's shapes.
module _ (threads : ℕ) (shapes : List Shape) (me : ℕ) where
  -- What is left of the work of a call.
  abbrev pub work_rest : Work → Expansion (Unit {0})
  work_rest (work.Copies l) = copies_rest shapes l
  work_rest (work.CellRead l v) = copies_put shapes l v
  work_rest (work.Numbers l) = numbers_rest threads shapes me l
  work_rest (work.Total l) = total_rest l
  work_rest (work.Put loc v) = does (act.Write false loc (Int v))
  work_rest (work.Prefixes l) = prefixes_rest l
  work_rest (work.ElementRead l b) = prefixes_put l b

  -- What is left of the work of a call, of which there may be none.
  abbrev pub work_left : Option Work → Expansion (Unit {0})
  work_left (Some w) = work_rest w
  work_left None = nothing

  -- The work of a call and the barrier at its exit.
  abbrev pub from_work : calls.Call → Expansion (Unit {0})
  from_work c = bind (said.work threads shapes me c) (λ w. said.exit (said.flags_of threads shapes me c))

  -- What follows the Meet of a call.
  abbrev pub from_entry : calls.Call → Expansion (Unit {0})
  from_entry c = bind (said.entry (said.flags_of threads shapes me c)) (λ v. from_work c)

  -- What is left of a call from a stage on.
  abbrev pub stage_rest : Stage → Expansion (Unit {0})
  stage_rest (stage.Meets n args c) = bind (does (act.Meet n args)) (λ u. from_entry c)
  stage_rest (stage.Notifies c) = bind barrier (λ v. from_work c)
  stage_rest (stage.Waits c) = bind (does (act.Wait Absent)) (λ v. from_work c)
  stage_rest (stage.Works bits w) = bind (work_rest w) (λ u. exit_by bits)
  stage_rest stage.Leaves = barrier
  stage_rest stage.Left = does (act.Wait Absent)
  stage_rest stage.Over = nothing

-- What is left of a collective call, in a program with these shapes.
abbrev pub rest : List Shape → Collective → Expansion (Unit {0})
rest shapes c = stage_rest c.seat.threads shapes c.seat.number c.stage
