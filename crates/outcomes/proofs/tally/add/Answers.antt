use Rattle.std.proofs.Common.{◌≡◌, ◌∙◌, None, Some, sym, refl, ap, map}
use Rattle.std.specs.List.{position}
use Rattle.std.proofs.lemmas.List.{get_or_default}
use Rattle.outcomes.specs.Tally.{listed}
use Rattle.outcomes.specs.code.Added.{merged}
use Rattle.outcomes.proofs.Adding.{added-found, added-last, found-below, fits}
use Rattle.outcomes.proofs.tally.add.Goals as goal

pub returns-in-Some : goal.returns-in-Some
returns-in-Some c =
    let new = listed c.args.new in
    let rows = c.args.rows.now.items in
    let at = c.in-Some.at in
    let found : position (fits new) rows ≡ Some at =
    ap (position (fits new)) (sym c.as_slice.ensures.value) ∙ sym c.find.ensures ∙ c.in-Some.is in
    let row = c.index_mut.result.now in
    added-found new rows at c.merge.new.row found (λ d.
    c.merge.ensures
    ∙ ap (λ w. merged new (listed w))
    (c.index_mut.ensures.value ∙ get_or_default rows at row d (found-below new rows at row found)))

pub returns-in_ok-push-in-None : goal.returns-in_ok-push-in-None
returns-in_ok-push-in-None c =
    let new = listed c.args.new in
    let rows = c.args.rows.now.items in
    let found : position (fits new) rows ≡ None =
    ap (position (fits new)) (sym c.as_slice.ensures.value) ∙ sym c.find.ensures ∙ c.in-None.is in
    ap (map listed) c.in_ok-push-in-None.ensures.items ∙ added-last new rows c.args.new refl found
