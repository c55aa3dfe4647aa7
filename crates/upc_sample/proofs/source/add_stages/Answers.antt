use Rattle.std.proofs.Common.{◌≡◌, ◌∙◌, ◌++◌, ◌+◌, ◌<◌, ap, rules}
use Rattle.std.specs.List.{flat_map, range_with_len}
use Rattle.upc_sample.specs.Sample as source
use Rattle.upc_sample.proofs.Parts.{onward, parts_from}
use Rattle.upc_sample.proofs.source.add_stages.Goals as goal

pub loop-number-preserved : goal.loop-number-preserved
loop-number-preserved c =
    let i = c.loop-number.number in
    let lt : i < c.args.stages = search rules in
    let text : c.add.new.text.items ≡ c.loop-number.text.items ++ source.stage i = search rules in
    ap (λ l. l ++ parts_from source.stage c.args.stages (i + 1)) text
    ∙ onward source.stage c.args.stages c.loop-number.text.items
    (c.args.text.now.items ++ flat_map source.stage (range_with_len 0 c.args.stages)) i lt c.loop-number.invariant
