use Rattle.std.proofs.Common.{◌≡◌, ℕ, suc, ◌<◌, ◌≤◌, length, get_or, take, vec_capacity}
use Rattle.post_box.specs.declared.post.PostBox.{PostBox}
use Rattle.post_box.specs.declared.post.Owner.{Owner}
use Rattle.post_box.specs.layer.Boxes.{IsIdle, WaitsFor}
use Rattle.post_box.proofs.row.post_all.Given as goal

abbrev pub invariant-loop-at : goal.invariant-loop-at
invariant-loop-at g l = record {
  few : l.at ≤ length l.boxes;
  many : length l.owners ≡ length l.boxes;
  left : l.items.items ≡ take (suc l.at) l.fn.items.items;
  room : vec_capacity l.items ≡ vec_capacity l.fn.items;
  idle : (i : ℕ) (b : PostBox g.row.W.Denot g.row.W-Item.Denot) (o : Owner g.row.W.Denot g.row.W-Item.Denot) → i < l.at → IsIdle (get_or l.boxes i b) (get_or l.owners i o);
  out : (i : ℕ) (b : PostBox g.row.W.Denot g.row.W-Item.Denot) (o : Owner g.row.W.Denot g.row.W-Item.Denot) (x : g.row.W-Item.Denot) → l.at ≤ i → i < length l.boxes
      → WaitsFor (get_or l.boxes i b) (get_or l.owners i o) (get_or l.fn.items.items (suc i) x);
}

abbrev pub decreases-loop-at : goal.decreases-loop-at
decreases-loop-at g l = l.at
