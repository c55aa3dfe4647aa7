use Rattle.std.proofs.Common.{arith}
use Rattle.replica_space_copies.proofs.Holding.{each-done, each-left}
use Rattle.replica_space_copies.proofs.held.Held.put_in_each.Goals as goal

pub loop-holder-preserved : goal.loop-holder-preserved
loop-holder-preserved c =
    let inv = c.loop-holder.invariant in
    record {
      done = each-done c.put.new.self c.loop-holder.self c.args.self.now c.loop-holder.holder c.args.message c.put.ensures.put inv.done inv.left;
      left = each-left c.put.new.self c.loop-holder.self c.args.self.now c.loop-holder.holder c.args.message c.put.ensures.put inv.left;
      room = omega (arith, c.put.ensures.room, inv.room);
    }
