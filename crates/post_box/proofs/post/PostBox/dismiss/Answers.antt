use Rattle.std.proofs.Common.{rules}
use Rattle.post_box.proofs.Keeps.{dismisses}
use Rattle.post_box.proofs.post.PostBox.dismiss.Goals as goal

pub store-requires : goal.store-requires
store-requires g c = (search rules, search rules, dismisses g.W.Work.takes g.W.Work.did _ _ _ _ c.requires.1)
