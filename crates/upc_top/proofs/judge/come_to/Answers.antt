use Rattle.std.proofs.Common.{refl}
use Rattle.upc_top_words.specs.Values.{view_call}
use Rattle.upc_top.proofs.judge.come_to.Goals as goal

pub returns-in-Err-clause-comes : goal.returns-in-Err-clause-comes
returns-in-Err-clause-comes g c = c.stopped.ensures _ (view_call c.args.call.now) c.args.bytes.now c.in-Err.ensures.refused

pub returns-in-Err-read_source-clause-comes : goal.returns-in-Err-read_source-clause-comes
returns-in-Err-read_source-clause-comes g c =
    c.stopped-in-Err-read_source.ensures _ (view_call c.args.call.now) c.args.bytes.now c.in-Err-read_source.ensures.refused

pub returns-in-Err-read_source-2-clause-comes : goal.returns-in-Err-read_source-2-clause-comes
returns-in-Err-read_source-2-clause-comes g c =
    c.stopped-in-Err-read_source-2.ensures _ (view_call c.args.call.now) c.args.bytes.now
    c.in-Err-read_source-2.ensures.refused

pub returns-in-Replica-clause-comes : goal.returns-in-Replica-clause-comes
returns-in-Replica-clause-comes g c = c.run_replicated.ensures _

pub returns-in-Ok-read_source-2 : goal.returns-in-Ok-read_source-2
returns-in-Ok-read_source-2 g c = record { comes = c.run_accepted.ensures _; sample = λ m. refl }
