use Rattle.std.proofs.Common.{◌≡◌, ◌∙◌, ◌++◌, ◌+◌, ◌<◌, ap, rules, codes}
use Rattle.block_layout.specs.Pieces.{piece_of}
use Rattle.upc_top_output.specs.Layout.{field, pieces_text}
use Rattle.upc_top_output.proofs.Lines.{onward, pieces_from}
use Rattle.upc_top_output.proofs.layout.pieces.Goals as goal

pub loop-thread-preserved : goal.loop-thread-preserved
loop-thread-preserved c =
    let object = c.args.object.now in
    let t = c.loop-thread.thread in
    let lt : t < c.args.threads = search rules in
    let text : c.add_field.new.text.items ≡ c.loop-thread.text.items ++ field (codes " ") (piece_of object t c.args.threads) = search rules in
    ap (λ l. l ++ pieces_from c.args.threads object (t + 1)) text ∙ onward c.args.threads object c.loop-thread.text.items (pieces_text c.args.threads object) t lt c.loop-thread.invariant
