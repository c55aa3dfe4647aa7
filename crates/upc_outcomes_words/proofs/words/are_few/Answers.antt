use Rattle.std.proofs.Common.{◌≡◌, ◌+◌, ◌*◌, ap, arith}
use Rattle.std.proofs.lemmas.Bool.{false≢true}
use Rattle.upc_outcomes_words.specs.Values.{lists_count}
use Rattle.upc_outcomes_words.proofs.Counting.{more-lists, next-count}
use Rattle.upc_outcomes_words.proofs.words.are_few.Goals as goal

pub returns-then-count-gt100000 : goal.returns-then-count-gt100000
returns-then-count-gt100000 c =
    let threads = c.args.threads in
    let done = c.loop.counter in
    let next = next-count threads done in
    let grown = more-lists threads (done + 1) c.args.most c.requires.one (omega arith) in
    let same : threads * c.loop.count ≡ threads * lists_count threads done = ap (λ n. threads * n) c.loop.invariant.counted in
    (λ h. absurd (false≢true h), λ few. absurd (omega arith))
