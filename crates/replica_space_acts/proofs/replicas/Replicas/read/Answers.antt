use Rattle.std.proofs.Common.{◌≡◌, ◌+◌, ◌++◌, ◌∷◌, [], List, length, Some, false, sym, ap, ◌∙◌, subst, arith}
use Rattle.upc_values.specs.declared.action.Action.TheVariants.{Read}
use Rattle.upc_values.specs.declared.action.Reply.TheVariants.{Value}
use Rattle.upc_values.specs.Openings.{Opening}
use Rattle.upc_values.specs.History.{held}
use Rattle.replica_space.specs.declared.event.Event.{Event}
use Rattle.replica_space.specs.Events.{did, history_in}
use Rattle.replica_space_mail.specs.layer.Deliveries.{IsReady}
use Rattle.replica_space_acts.specs.code.Asks.{MayAct, HasActed}
use Rattle.replica_space_acts.proofs.Acting.{ready-now, asks-world}
use Rattle.replica_space_acts.proofs.Seeing.{SeenBy, read-done}
use Rattle.replica_space_acts.proofs.replicas.Replicas.read.Goals.{in-Some, in-None}
use Rattle.replica_space_acts.proofs.replicas.Replicas.read.Goals as goal

pub value_at-value-requires : goal.value_at-value-requires
value_at-value-requires c =
    let i = c.self.inside in
    let a = Read c.args.loc c.args.strict in
    let may : MayAct i.world.0 c.args.thread c.args.index a i.events.items =
    subst (λ (s : Opening × List Event). MayAct s.0 c.args.thread c.args.index a s.1) (sym c.self.view_is) c.requires in
    asks-world i.world i.events.items (Read c.args.loc false) c.self.invariant.world may.asked

pub invariant_of-self-2 : goal.invariant_of-self-2
invariant_of-self-2 c =
    let i = c.self.inside in
    let k = c.self.invariant in
    let t = c.args.thread in
    let l = c.args.loc in
    let a = Read l c.args.strict in
    let v = c.match-get.value in
    let es = i.events.items in
    let ready = c.prepare.new.events.items in
    let d = c.prepare.new.copies in
    let items = c.in_ok-count.ensures.items in
    let may : MayAct i.world.0 t c.args.index a es =
    subst (λ (s : Opening × List Event). MayAct s.0 t c.args.index a s.1) (sym c.self.view_is) c.requires in
    let y : IsReady i.world.0 c.args.strict t es d ready =
    ready-now i.world.0 i.copies d c.args.strict t es c.make_room.new.events.items ready items k.follows c.prepare.ensures.ready in
    let seen : SeenBy i.world.0 (history_in es) l c.get.result v =
    elim c.match-get.branch [
      | in-Some w ↦ subst (λ m. SeenBy i.world.0 (history_in es) l m v) (sym w.in-Some.is) w.value-is
      | in-None w ↦ subst (λ m. SeenBy i.world.0 (history_in es) l m v) (sym w.in-None.is)
          (ap Some w.value-is ∙ w.value_at-value.ensures ∙ ap (λ h. held i.world.0 h l) k.world)
    ] in
    let is : c.push.new.self.items ≡ ready ++ did t c.args.index a (Value v) ∷ [] =
    c.push.ensures.items ∙ ap (λ (e : Event). ready ++ e ∷ []) c.event_of.ensures in
    let counted : c.in_ok-count.count ≡ length ready + 1 =
    omega (arith, c.in_ok-count.ensures.count, c.prepare.ensures.many, k.counted, ap length items) in
    (read-done i.world i.copies d es ready c.push.new.self.items i.count c.in_ok-count.count t c.args.index l c.args.strict c.get.result v
    k c.keeps.ensures.legal c.keeps.ensures.formed y may c.get.ensures seen is counted c.in_ok-count.ensures.few).0

pub returns-clause-ok : goal.returns-clause-ok
returns-clause-ok c =
    let i = c.self.inside in
    let k = c.self.invariant in
    let t = c.args.thread in
    let l = c.args.loc in
    let a = Read l c.args.strict in
    let v = c.match-get.value in
    let es = i.events.items in
    let ready = c.prepare.new.events.items in
    let d = c.prepare.new.copies in
    let items = c.in_ok-count.ensures.items in
    let may : MayAct i.world.0 t c.args.index a es =
    subst (λ (s : Opening × List Event). MayAct s.0 t c.args.index a s.1) (sym c.self.view_is) c.requires in
    let y : IsReady i.world.0 c.args.strict t es d ready =
    ready-now i.world.0 i.copies d c.args.strict t es c.make_room.new.events.items ready items k.follows c.prepare.ensures.ready in
    let seen : SeenBy i.world.0 (history_in es) l c.get.result v =
    elim c.match-get.branch [
      | in-Some w ↦ subst (λ m. SeenBy i.world.0 (history_in es) l m v) (sym w.in-Some.is) w.value-is
      | in-None w ↦ subst (λ m. SeenBy i.world.0 (history_in es) l m v) (sym w.in-None.is)
          (ap Some w.value-is ∙ w.value_at-value.ensures ∙ ap (λ h. held i.world.0 h l) k.world)
    ] in
    let is : c.push.new.self.items ≡ ready ++ did t c.args.index a (Value v) ∷ [] =
    c.push.ensures.items ∙ ap (λ (e : Event). ready ++ e ∷ []) c.event_of.ensures in
    let counted : c.in_ok-count.count ≡ length ready + 1 =
    omega (arith, c.in_ok-count.ensures.count, c.prepare.ensures.many, k.counted, ap length items) in
    subst (λ (s : Opening × List Event). HasActed s.0 t c.args.index a s.1 (Some (Value v)) c.push.new.self.items) c.self.view_is
    (read-done i.world i.copies d es ready c.push.new.self.items i.count c.in_ok-count.count t c.args.index l c.args.strict c.get.result v
    k c.keeps.ensures.legal c.keeps.ensures.formed y may c.get.ensures seen is counted c.in_ok-count.ensures.few).1
