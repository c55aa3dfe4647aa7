use Rattle.std.proofs.Common.{◌≡◌, ◌∙◌, [], sym, subst}
use Rattle.upc_values.specs.Drain.{entries_of}
use Rattle.upc_task.proofs.Workers.{kept-new}
use Rattle.upc_task.proofs.worker.Recorder+WriteBuffer.make.Goals as goal

pub returns-clause-kept : goal.returns-clause-kept
returns-clause-kept c = λ o f seen has none.
    let e = c.in_ok-worker.ensures in
    kept-new o c.args.code.now f seen c.in_ok-worker.worker e.fresh.0 (e.begins.0 ∙ c.in_ok-buffer.ensures) e.begins.1 e.new.2
    (subst (λ t. entries_of t seen ≡ []) (sym e.new.0) none) (e.recorded o f has)
