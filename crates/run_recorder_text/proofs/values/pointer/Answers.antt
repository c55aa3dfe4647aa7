use Rattle.std.proofs.Common.{decimal}
use Rattle.std.specs.Fmt.{signed_decimal}
use Rattle.std.proofs.lemmas.Result.{on_ok_weaker}
use Rattle.run_recorder_text.proofs.Joins.{pointer_joined}
use Rattle.run_recorder_text.proofs.values.pointer.Goals as goal

pub returns : goal.returns
returns c =
    let p = c.args.p.now in
    on_ok_weaker c.pointer_end.result (λ e.
    pointer_joined c.args.out.now.items _ _ _ _ _ _ _ _ _ _ _ _ _
    (decimal p.thread) (decimal p.phase) (signed_decimal p.offset)
    c.in_ok-colon.ensures c.in_ok-colon-2.ensures c.in_ok-colon-3.ensures
    c.in_ok-colon-4.ensures c.in_ok-colon-5.ensures c.in_ok-colon-6.ensures e) c.pointer_end.ensures
