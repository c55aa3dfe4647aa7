use Rattle.std.proofs.Common.{◌+◌, ◌≤◌, get_or, sym, subst, ◌∙◌, arith}
use Rattle.std.proofs.lemmas.List.{get_or_default}
use Rattle.upc_values.specs.declared.record.Item.{Item}
use Rattle.upc_values.specs.declared.record.Item.TheVariants.{Stall}
use Rattle.upc_values.specs.Agrees.{IsPlace}
use Rattle.upc_values.proofs.Places.{place-did, place-stall}
use Rattle.upc_values.proofs.agree.forward.Goals as goal
use Rattle.upc_values.proofs.agree.forward.Goals.{then-is_action_at+else-place-number, else-is_action_at}

pub loop-place-preserved : goal.loop-place-preserved
loop-place-preserved c =
    let items = c.args.items.now in
    let p = c.loop-place.place in
    let lt = c.loop-place-test.true in
    let x : Item = get_or items p.at Stall in
    let at = get_or_default items p.at Stall x (omega arith) in
    let did = sym (c.is_action_at.ensures Stall) in
    elim c.if-is_action_at.branch [
      | then-is_action_at+else-place-number w ↦
          subst (λ q. IsPlace items (q.at + 1) q.number × (q.number ≤ c.args.number)) (sym w.place-is) (
            place-did items p.at p.number x c.loop-place.invariant.0 (omega arith) at (did ∙ w.if-is_action_at.true),
            let most = c.loop-place.invariant.1 in let other = w.if-place-number.false in omega arith,
          )
      | else-is_action_at w ↦
          subst (λ q. IsPlace items (q.at + 1) q.number × (q.number ≤ c.args.number)) (sym w.place-is) (
            place-stall items p.at p.number x c.loop-place.invariant.0 (omega arith) at (did ∙ w.if-is_action_at.false),
            c.loop-place.invariant.1,
          )
    ]
