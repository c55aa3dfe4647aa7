use Rattle.std.proofs.Common.{ℕ, length, length-append, ap, arith}
use Rattle.block_layout.specs.declared.place.SharedPtr.{SharedPtr}
use Rattle.upc_values.specs.Views.{element}
use Rattle.upc_library.specs.layer.Spots.{pointer_of}
use Rattle.collectives.proofs.Members.{mapped-more}
use Rattle.collectives.proofs.reduce.operands.Goals as goal

pub loop-i-preserved : goal.loop-i-preserved
loop-i-preserved c =
    let f : ℕ → SharedPtr = λ i. element c.with_block-start.result c.args.of.now.block c.size-size.result c.args.thread.now.threads i in
    record {
      elements = mapped-more f pointer_of c.loop-i.elements.items c.push.new.self.items c.element.result c.loop-i.i c.in_ok-push.ensures.items c.element.ensures c.loop-i.invariant.elements;
      many = omega (arith, simp length-append at (ap length c.in_ok-push.ensures.items), c.loop-i.invariant.many);
    }
