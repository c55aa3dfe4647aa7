use Rattle.std.proofs.Common.{rules}
use Rattle.post_box.proofs.Keeps.{posts}
use Rattle.post_box.proofs.post.PostBox.post.Goals as goal

pub store-requires : goal.store-requires
store-requires g c =
    (search rules, search rules, posts g.W.Work.takes g.W.Work.did _ _ _ _ c.args.item c.args.number c.requires.item (search rules))
