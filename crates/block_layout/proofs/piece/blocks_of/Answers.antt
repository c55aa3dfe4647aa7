use Rattle.std.proofs.Common.{ℕ, ◌≡◌, ◌==◌, ◌/◌, ◌%◌, refl}
use Rattle.block_layout.specs.Pieces.{count_below}
use Rattle.block_layout.proofs.Counting.{count-closed, closed}
use Rattle.block_layout.proofs.piece.blocks_of.Goals as goal

pub returns-clause-value : goal.returns-clause-value
returns-clause-value c =
    let count : closed c.args.total c.args.block c.args.thread c.args.threads ≡ count_below (λ (x : ℕ). x / c.args.block % c.args.threads == c.args.thread) c.args.total = count-closed c.args.total c.args.block c.args.thread c.args.threads c.requires.some_block c.requires.a_thread in
    rw (← count, c.min-mine.ensures, c.saturating_sub.ensures, c.from-block.ensures, c.from.ensures, c.from-2.ensures, c.from-3.ensures, c.from-4.ensures) refl
