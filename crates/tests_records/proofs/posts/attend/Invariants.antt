use Rattle.post_box.specs.layer.Boxes.{IsFree}
use Rattle.tests_records.proofs.posts.attend.Given as goal

abbrev pub invariant-loop : goal.invariant-loop
invariant-loop g l = IsFree l.post l.doer
