use Rattle.std.proofs.Common.{◌≡◌, ◌≤◌, slice_get, Some, sym, ap, subst, ◌∙◌}
use Rattle.std.specs.Option.{option_copied}
use Rattle.std.proofs.lemmas.Option.{slice_get_within, get_or_from_slice_get}
use Rattle.run_recorder.proofs.Tables.{done, step}
use Rattle.run_recorder.proofs.entries.places.Goals as goal

pub loop-at-preserved : goal.loop-at-preserved
loop-at-preserved c =
    let items = c.args.items.now in
    let at = c.loop-at.at in
    let x = c.in-Some.item.now in
    let found : slice_get items at ≡ Some x = sym c.get.ensures ∙ ap option_copied c.in-Some.is in
    rw c.in_ok-note.ensures
    (step items at x c.loop-at.places.items (slice_get_within items at x found)
    (sym (get_or_from_slice_get items at x x found)) c.loop-at.invariant)

pub returns : goal.returns
returns c =
    done c.args.items.now c.loop-at.at c.loop-at.places.items (subst (λ n. n ≤ c.loop-at.at) c.len-at-end.ensures c.loop-at-test.false)
    c.loop-at.invariant
