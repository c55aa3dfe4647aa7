use Rattle.std.proofs.Common.{rules}
use Rattle.post_box.proofs.Keeps.{gives_it}
use Rattle.post_box.proofs.post.PostBox.give.Goals as goal

pub store-requires : goal.store-requires
store-requires g c = let h = c.requires in
    (search rules, search rules, gives_it g.W.Work.takes g.W.Work.did _ _ _ _ h.0 c.args.item 0 h.2 (search rules))
