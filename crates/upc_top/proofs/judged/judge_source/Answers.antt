use Rattle.upc_top_words.specs.Values.{view_call}
use Rattle.upc_top.proofs.judged.judge_source.Goals as goal

pub returns-in-Err : goal.returns-in-Err
returns-in-Err g c = c.stopped.ensures _ (view_call c.args.call.now) c.args.bytes.now c.in-Err.ensures.refused
