use Rattle.std.proofs.Common.{◌≡◌}
use Rattle.post_box.proofs.post.PostBox.take.Given as goal

abbrev pub invariant-loop : goal.invariant-loop
invariant-loop g l = (l.doer.place.table_id ≡ l.initial.doer.place.table_id) × (l.doer.place.me ≡ l.initial.doer.place.me)
