use Rattle.std.proofs.Common.{◌≡◌, length}
use Rattle.post_box.specs.layer.Rows.{AreFor, AreIdle, AreFree}
use Rattle.post_box.proofs.row.make_row.Given as goal

abbrev pub invariant-loop : goal.invariant-loop
invariant-loop g l = record {
  many : length l.boxes.items ≡ l.counter;
  owned : length l.owners.items ≡ length l.boxes.items;
  done : length l.doers.items ≡ length l.boxes.items;
  work : AreFor l.work l.boxes.items;
  idle : AreIdle l.boxes.items l.owners.items;
  free : AreFree l.boxes.items l.doers.items;
}
