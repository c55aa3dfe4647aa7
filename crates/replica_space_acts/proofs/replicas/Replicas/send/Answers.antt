use Rattle.std.proofs.Common.{◌≡◌, ◌+◌, ◌++◌, ◌∷◌, [], List, length, false, refl, sym, ap, ◌∙◌, subst, arith}
use Rattle.upc_values.specs.declared.action.Action.TheVariants.{Write}
use Rattle.upc_values.specs.declared.action.Reply.TheVariants.{Done}
use Rattle.upc_values.specs.Drain.{entry_of}
use Rattle.upc_values.specs.Openings.{Opening}
use Rattle.replica_space.specs.declared.event.Event.{Event}
use Rattle.replica_space.specs.Events.{did, history_in}
use Rattle.replica_space_quiet.proofs.Kept.{loud-after-access}
use Rattle.replica_space_mail.proofs.Following.{ready-itself}
use Rattle.replica_space_acts.specs.code.Asks.{MayAct}
use Rattle.replica_space_acts.proofs.Acting.{kept-act, sent-space}
use Rattle.replica_space_acts.proofs.replicas.Replicas.send.Goals as goal

pub invariant_of-self-2 : goal.invariant_of-self-2
invariant_of-self-2 c =
    let i = c.self.inside in
    let k = c.self.invariant in
    let o : Opening = i.world.0 in
    let t = c.args.thread in
    let a = Write false c.args.loc c.args.value in
    let es = i.events.items in
    let d = c.send.new.self in
    let new = c.push.new.self.items in
    let items = c.in_ok-count.ensures.items in
    let may : MayAct o t c.args.index a es =
    subst (λ (s : Opening × List Event). MayAct s.0 t c.args.index a s.1) (sym c.self.view_is) c.requires in
    let is : new ≡ es ++ did t c.args.index a Done ∷ [] =
    c.push.ensures.items ∙ ap (λ (e : Event). c.make_room.new.events.items ++ e ∷ []) c.event_of.ensures
    ∙ ap (λ (l : List Event). l ++ did t c.args.index a Done ∷ []) items in
    let next : c.in_ok-count.count ≡ i.count + 0 + 1 = c.in_ok-count.ensures.count in
    let counted : c.in_ok-count.count ≡ length es + 1 = omega (arith, next, k.counted) in
    kept-act i.world i.world i.copies i.copies d es es new i.count c.in_ok-count.count t c.args.index a Done k
    (ready-itself o i.copies es t k.follows) may refl refl
    (k.world ∙ sym (loud-after-access (history_in es) (entry_of t c.args.index a Done) refl)) c.send.ensures.many
    (sent-space o t c.args.index c.args.loc c.args.value es i.copies d k.follows may.below c.in_ok-send.ensures.sent)
    is counted c.in_ok-count.ensures.few
