use Rattle.std.proofs.Common.{◌<◌, arith}
use Rattle.typed_tree.specs.ViewProgram.{view_program}
use Rattle.upc_top_judging.proofs.Reading.{sound-found}
use Rattle.upc_top_judging.proofs.judging.judge_run.Goals as goal

pub returns : goal.returns
returns c =
    let some : 0 < (view_program c.args.program.now).threads = omega (arith, c.requires) in (
      c.in_ok-verdict.ensures,
      λ sound. sound-found c.sound_is_a_sound_run.ensures _ c.in_ok-verdict.verdict some c.in_ok-verdict.ensures sound,
    )
