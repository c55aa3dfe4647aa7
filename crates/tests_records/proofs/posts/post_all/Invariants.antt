use Rattle.post_box.specs.layer.Boxes.{IsIdle}
use Rattle.tests_records.proofs.posts.post_all.Given as goal

abbrev pub invariant-loop-value : goal.invariant-loop-value
invariant-loop-value g l = IsIdle l.post l.owner
