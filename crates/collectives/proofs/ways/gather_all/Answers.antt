use Rattle.std.proofs.Common.{ℕ, ◌+◌, ◌*◌}
use Rattle.upc_values.specs.Calls.{Gather_all}
use Rattle.upc_values.specs.Expansions as said
use Rattle.collectives.specs.code.Parts.{part_of}
use Rattle.collectives.proofs.Members.{mapped-more}
use Rattle.collectives.proofs.ways.gather_all.Goals as goal

pub loop-i-preserved : goal.loop-i-preserved
loop-i-preserved c =
    let t = c.args.thread.now in
    let ends = c.args.ends.now in
    let n = ends.bytes in
    let goes : ℕ → said.Part = λ i. said.goes t.threads t.shapes.now t.number Gather_all ends.dst.now ends.src.now n (i * n) (t.number * (n * t.threads) + i * n) in
    mapped-more goes part_of c.loop-i.parts.items c.push.new.self.items c.gathered_by_all.result c.loop-i.i c.in_ok-push.ensures.items c.gathered_by_all.ensures c.loop-i.invariant
