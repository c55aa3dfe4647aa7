use Rattle.std.proofs.Common.{ℕ, ◌≡◌, ◌==◌, ◌/◌, ◌%◌, refl, sym, arith}
use Rattle.block_layout.specs.Pieces.{count_below}
use Rattle.block_layout.proofs.Counting.{count-closed, closed}
use Rattle.collectives.proofs.Ranges.{none-beyond}
use Rattle.collectives.proofs.piece.bytes_of.Goals as goal

pub returns-then-thread-threads-clause-value : goal.returns-then-thread-threads-clause-value
returns-then-thread-threads-clause-value c =
    sym (none-beyond c.args.total c.args.block c.args.thread c.args.threads c.requires.some_thread (omega arith))

pub returns-clause-value : goal.returns-clause-value
returns-clause-value c =
    let count : closed c.args.total c.args.block c.args.thread c.args.threads ≡ count_below (λ (x : ℕ). x / c.args.block % c.args.threads == c.args.thread) c.args.total = count-closed c.args.total c.args.block c.args.thread c.args.threads c.requires.some_block (omega arith) in
    rw (← count, c.min-mine.ensures, c.saturating_sub.ensures, c.from-block.ensures, c.from.ensures, c.from-2.ensures, c.from-3.ensures, c.from-4.ensures) refl
