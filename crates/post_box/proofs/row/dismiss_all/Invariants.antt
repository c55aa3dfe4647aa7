use Rattle.std.proofs.Common.{ℕ, ◌<◌, ◌≤◌, length, get_or}
use Rattle.post_box.specs.declared.post.PostBox.{PostBox}
use Rattle.post_box.specs.declared.post.Owner.{Owner}
use Rattle.post_box.specs.layer.Boxes.{IsIdle}
use Rattle.post_box.proofs.row.dismiss_all.Given as goal

abbrev pub invariant-loop-owner : goal.invariant-loop-owner
invariant-loop-owner g l = record {
  few : length l.owners.items ≤ length l.boxes;
  idle : (i : ℕ) (b : PostBox g.row.W.Denot g.row.W-Item.Denot) (o : Owner g.row.W.Denot g.row.W-Item.Denot) → i < length l.owners.items → IsIdle (get_or l.boxes i b) (get_or l.owners.items i o);
}

abbrev pub decreases-loop-owner : goal.decreases-loop-owner
decreases-loop-owner g l = goal.left-loop-owner g l
