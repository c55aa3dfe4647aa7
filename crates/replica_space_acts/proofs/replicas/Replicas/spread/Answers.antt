use Rattle.std.proofs.Common.{◌≡◌, ◌+◌, ◌++◌, ◌∷◌, [], List, length, true, refl, sym, ap, ◌∙◌, subst, arith}
use Rattle.upc_values.specs.declared.action.Action.TheVariants.{Write}
use Rattle.upc_values.specs.declared.action.Reply.TheVariants.{Done}
use Rattle.upc_values.specs.Drain.{entry_of}
use Rattle.upc_values.specs.Openings.{Opening}
use Rattle.replica_space.specs.declared.event.Event.{Event}
use Rattle.replica_space.specs.Events.{did, history_in}
use Rattle.replica_space_quiet.proofs.Kept.{loud-after-access}
use Rattle.replica_space_mail.specs.layer.Deliveries.{Follows, IsReady}
use Rattle.replica_space_mail.proofs.Following.{same-follows}
use Rattle.replica_space_acts.specs.code.Asks.{MayAct}
use Rattle.replica_space_acts.proofs.Acting.{ready-now, kept-act, spread-space}
use Rattle.replica_space_acts.proofs.replicas.Replicas.spread.Goals as goal

pub invariant_of-self-2 : goal.invariant_of-self-2
invariant_of-self-2 c =
    let i = c.self.inside in
    let k = c.self.invariant in
    let o : Opening = i.world.0 in
    let t = c.args.thread in
    let a = Write true c.args.loc c.args.value in
    let es = i.events.items in
    let d = c.prepare.new.copies in
    let ready = c.prepare.new.events.items in
    let new = c.push.new.self.items in
    let items = c.in_ok-count.ensures.items in
    let may : MayAct o t c.args.index a es =
    subst (λ (s : Opening × List Event). MayAct s.0 t c.args.index a s.1) (sym c.self.view_is) c.requires in
    let roomy : Follows o c.reserve.new.self es =
    same-follows o i.copies c.reserve.new.self es k.follows c.reserve.ensures.many c.reserve.ensures.same in
    let y : IsReady o true t es d ready =
    ready-now o c.reserve.new.self d true t es c.make_room.new.events.items ready items roomy c.prepare.ensures.ready in
    let is : new ≡ ready ++ did t c.args.index a Done ∷ [] =
    c.push.ensures.items ∙ ap (λ (e : Event). ready ++ e ∷ []) c.event_of.ensures in
    let next : c.in_ok-count.count ≡ i.count + i.copies.waiting + 1 = c.in_ok-count.ensures.count in
    let more : length ready ≡ length c.make_room.new.events.items + c.reserve.new.self.waiting = c.prepare.ensures.many in
    let counted : c.in_ok-count.count ≡ length ready + 1 =
    omega (arith, next, more, c.reserve.ensures.waiting, k.counted, ap length items) in
    kept-act i.world i.world i.copies d c.spread.new.self es ready new i.count c.in_ok-count.count t c.args.index a Done k
    y may refl refl
    (k.world ∙ sym (loud-after-access (history_in es) (entry_of t c.args.index a Done) refl)) c.spread.ensures.many
    (spread-space o t c.args.index c.args.loc c.args.value es d c.spread.new.self ready y may.below c.spread.ensures.spread)
    is counted c.in_ok-count.ensures.few
