use Rattle.std.proofs.Common.{◌≡◌, ◌∙◌, ◌++◌, ◌+◌, ◌≤◌, [], ◌∷◌, sym, ap, arith}
use Rattle.std.proofs.lemmas.List.{append-nil}
use Rattle.outcomes.specs.code.Prefixed.{begun}
use Rattle.outcomes.proofs.Prefixes.{picks_in, begun_from, lists-next, onward, none-left}
use Rattle.outcomes.proofs.schedules.+every_list.Goals as goal

pub loop-first-preserved : goal.loop-first-preserved
loop-first-preserved t c =
    let threads = c.args.threads in
    let first = c.loop-first.first in
    let shorter = picks_in c.in_ok-shorter.shorter.items in
    let before = picks_in c.loop-first.all.items in
    let now : picks_in c.add_begun.new.all.items ≡ before ++ begun first shorter =
    c.in_ok-add_begun.ensures ∙ ap (λ l. before ++ begun first (picks_in l)) c.as_slice.ensures.value in
    ap (λ l. l ++ begun_from threads shorter (first + 1)) now
    ∙ onward threads shorter before ([] ∷ begun_from threads shorter 0) first c.loop-first-test.true c.loop-first.invariant

pub returns : goal.returns
returns t c =
    let threads = c.args.threads in
    let most = c.args.most in
    let shorter = picks_in c.in_ok-shorter.shorter.items in
    let all = picks_in c.loop-first.all.items in
    let some : 1 ≤ most = omega arith in
    sym (append-nil all)
    ∙ ap (λ l. all ++ l) (sym (none-left threads shorter c.loop-first.first c.loop-first-test.false))
    ∙ c.loop-first.invariant
    ∙ ap (λ l. [] ∷ begun_from threads l 0) c.in_ok-shorter.ensures
    ∙ sym (lists-next threads most some)
