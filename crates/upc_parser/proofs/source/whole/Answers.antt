use Rattle.std.proofs.Common.{rules, ◌≡◌, Err}
use Rattle.upc_parser.proofs.Answered.{answer_whole, answer_more, answer_fault}
use Rattle.upc_parser_sources.specs.layer.Parse.{externals_at}
use Rattle.upc_parser.proofs.source.whole.Goals as goal

pub returns-then-is_empty : goal.returns-then-is_empty
returns-then-is_empty c = answer_whole c.args.tokens.now _ _ (search rules) c.in-Ok.ensures

pub returns-else-is_empty : goal.returns-else-is_empty
returns-else-is_empty c = (_, answer_more c.args.tokens.now _ _ (search rules) c.in-Ok.ensures, c.refusal.ensures)

pub returns-in-Err-Fault : goal.returns-in-Err-Fault
returns-in-Err-Fault c =
    let e : externals_at 255 c.args.tokens.now ≡ Err c.in-Err-Fault.fault = search rules in
    (_, answer_fault c.args.tokens.now c.in-Err-Fault.fault e, c.refusal-in-Err-Fault.ensures)
