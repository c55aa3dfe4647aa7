use Rattle.std.proofs.Common.{rules}
use Rattle.post_box.proofs.Keeps.{opens, begins, deals}
use Rattle.post_box.proofs.post.PostBox.make.Goals as goal

pub new-requires : goal.new-requires
new-requires g c = opens g.W.Work.takes g.W.Work.did c.args.work.now _ (search rules)

pub load-requires : goal.load-requires
load-requires g c = (search rules, search rules, begins g.W.Work.takes g.W.Work.did _ _ _ _ (search rules))

pub split_seat-place-requires : goal.split_seat-place-requires
split_seat-place-requires g c = (search rules, search rules, deals g.W.Work.takes g.W.Work.did _ _ _ (search rules))
