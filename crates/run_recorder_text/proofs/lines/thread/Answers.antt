use Rattle.std.proofs.Common.{◌∙◌, ap, decimal, ◌++◌}
use Rattle.std.proofs.lemmas.Result.{on_ok_weaker}
use Rattle.run_recorder_text.specs.Words.{end_words}
use Rattle.run_recorder_text.proofs.Joins.{thread_joined}
use Rattle.run_recorder_text.proofs.SomeWords.{end_some}
use Rattle.run_recorder_text.proofs.lines.thread.Goals as goal

pub returns : goal.returns
returns c =
    let end = c.args.strand.now.end in
    on_ok_weaker c.end.result (λ e.
    thread_joined c.args.out.now.items _ _ _ _ _ _ _ _ _ _ _ (end_words end) (end_some end)
    c.in_ok-put.ensures c.in_ok-number.ensures c.in_ok-put-2.ensures
    (c.in_ok-number-2.ensures ∙ ap (λ n. c.put-2.new.out.items ++ decimal n) c.len.ensures)
    c.in_ok-put-3.ensures c.in_ok-number-3.ensures c.in_ok-put-4.ensures e) c.end.ensures
