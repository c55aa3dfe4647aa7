use Rattle.shared_pointers.proofs.Elements.{stands-somewhere}
use Rattle.shared_pointers.proofs.element.stands_for_some_element.Goals as goal

pub returns : goal.returns
returns c = stands-somewhere c.args.p.now c.args.block c.args.size c.args.threads c.requires.pointer.thread c.requires.pointer.phase
