use Rattle.std.proofs.Common.{◌-◌, length, drop, arith}
use Rattle.std.proofs.lemmas.List.{length-take, length-drop}
use Rattle.upc_text.proofs.Pieces.{taken_with-next}
use Rattle.upc_text.proofs.whole.put_all.Goals as goal

pub loop-done-preserved : goal.loop-done-preserved
loop-done-preserved g c =
    let put = c.in_ok-done.ensures in
    let bytes = c.args.bytes.now in
    let done = c.loop-done.done in
    record {
      within =
          omega (arith, put.bound, length-take (length bytes - done) (drop done bytes), length-drop done bytes, c.loop-done.invariant.within);
      took = taken_with-next _ _ _ bytes done _ c.loop-done.invariant.took put.took;
      counts = omega (arith, c.loop-done.invariant.counts, put.counts);
    }
