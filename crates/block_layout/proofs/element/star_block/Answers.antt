use Rattle.block_layout.proofs.Star.{short_row-repeats, quotient-above}
use Rattle.block_layout.proofs.element.star_block.Goals as goal

pub returns-clause-least : goal.returns-clause-least
returns-clause-least c block some less = short_row-repeats c.args.n block c.args.threads some c.requires.some_thread (quotient-above c.args.n block c.args.threads c.requires.some_thread less)
