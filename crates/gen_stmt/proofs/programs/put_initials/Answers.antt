use Rattle.std.proofs.Common.{◌∙◌}
use Rattle.std.proofs.lemmas.List.{get_or_default}
use Rattle.gen_stmt.proofs.Compiling.{initial_step, initials_end}
use Rattle.gen_stmt.proofs.KnownInitials.{next_known}
use Rattle.gen_stmt.proofs.programs.put_initials.Goals as goal

pub append_initial-requires : goal.append_initial-requires
append_initial-requires c = record {
  known = next_known c.args.builder.now c.loop-given.builder c.args.initials.now c.loop-given.given-index _
      c.loop-given.invariant c.requires c.loop-given-test.true;
}

pub loop-given-preserved : goal.loop-given-preserved
loop-given-preserved c =
    let xs = c.args.initials.now in
    let i = c.loop-given.given-index in
    initial_step xs i _ c.loop-given.builder c.append_initial.new.self c.loop-given-test.true
    (get_or_default xs i _ _ c.loop-given-test.true) c.in_ok-append_initial.ensures.done
    ∙ c.loop-given.invariant

pub returns : goal.returns
returns c =
    initials_end c.args.initials.now c.loop-given.given-index c.loop-given.builder c.args.builder.now
    c.loop-given-test.false c.loop-given.invariant
