use Rattle.std.proofs.Common.{◌-◌, ◌<◌, get_or, sym, ◌∙◌, arith}
use Rattle.std.proofs.lemmas.List.{get_or_default}
use Rattle.upc_values.specs.declared.record.Item.{Item}
use Rattle.upc_values.specs.declared.record.Item.TheVariants.{Stall}
use Rattle.upc_values.proofs.Places.{back-did, back-stall, place-some}
use Rattle.upc_values.proofs.agree.back.Goals as goal

pub loop-place-preserved-then-is_action_at : goal.loop-place-preserved-then-is_action_at
loop-place-preserved-then-is_action_at c =
    let p = c.loop-place.place in
    let items = c.args.items.now in
    let some : 0 < p.number = omega arith in
    let inside = place-some items p.at p.number c.loop-place.invariant some in
    let within = c.loop-place.invariant.within in
    let x : Item = get_or items (p.at - 1) Stall in
    back-did items p.at p.number x c.loop-place.invariant some
    (get_or_default items (p.at - 1) Stall x (omega arith))
    (sym (c.is_action_at.ensures Stall) ∙ c.if-is_action_at.true)

pub loop-place-preserved : goal.loop-place-preserved
loop-place-preserved c =
    let p = c.loop-place.place in
    let items = c.args.items.now in
    let some : 0 < p.number = omega arith in
    let inside = place-some items p.at p.number c.loop-place.invariant some in
    let within = c.loop-place.invariant.within in
    let x : Item = get_or items (p.at - 1) Stall in
    back-stall items p.at p.number x c.loop-place.invariant some
    (get_or_default items (p.at - 1) Stall x (omega arith))
    (sym (c.is_action_at.ensures Stall) ∙ c.if-is_action_at.false)
