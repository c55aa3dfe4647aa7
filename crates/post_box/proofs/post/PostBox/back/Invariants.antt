use Rattle.std.proofs.Common.{◌≡◌}
use Rattle.post_box.proofs.post.PostBox.back.Given as goal

abbrev pub invariant-loop : goal.invariant-loop
invariant-loop g l = (l.owner.place.table_id ≡ l.initial.owner.place.table_id) × (l.owner.place.me ≡ l.initial.owner.place.me)
