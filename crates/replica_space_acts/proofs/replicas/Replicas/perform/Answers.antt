use Rattle.std.proofs.Common.{◌≡◌, ◌+◌, ◌++◌, ◌∷◌, [], List, length, Some, None, true, sym, ap, ◌∙◌, subst, arith}
use Rattle.std.specs.Prelude.{IfSome}
use Rattle.upc_values.specs.declared.journal.Entry.{Entry}
use Rattle.upc_values.specs.Drain.{entry_of}
use Rattle.upc_values.specs.Openings.{Opening}
use Rattle.upc_values.specs.History.{reply}
use Rattle.upc_values.specs.Formed.{fits_after}
use Rattle.upc_values.specs.layer.Known.{gives_known}
use Rattle.memory_history.specs.declared.step.Step.{Step}
use Rattle.memory_history.specs.declared.step.Step.TheVariants.{Done}
use Rattle.memory_history.specs.layer.World.{answer_of, performed}
use Rattle.replica_space.specs.declared.event.Event.{Event}
use Rattle.replica_space.specs.Events.{did}
use Rattle.replica_space.specs.Spaces.{is_synchronising}
use Rattle.replica_space_mail.specs.layer.Deliveries.{IsReady}
use Rattle.replica_space_acts.specs.code.Asks.{MayAct, HasActed}
use Rattle.replica_space_acts.proofs.Acting.{ready-now, asks-world, turns-world, perform-done, nothing-done}
use Rattle.replica_space_acts.proofs.replicas.Replicas.perform.Goals as goal

pub is_legal-requires-clause-formed : goal.is_legal-requires-clause-formed
is_legal-requires-clause-formed c =
    let i = c.self.inside in
    let k = c.self.invariant in
    let t = c.args.thread in
    let a = c.args.action.now in
    let es = i.events.items in
    let may : MayAct i.world.0 t c.args.index a es =
    subst (λ (s : Opening × List Event). MayAct s.0 t c.args.index a s.1) (sym c.self.view_is) c.requires.may in
    asks-world i.world es a k.world may.asked

pub returns-then-not-is_legal-clause-ok : goal.returns-then-not-is_legal-clause-ok
returns-then-not-is_legal-clause-ok c =
    let i = c.self.inside in
    let k = c.self.invariant in
    let t = c.args.thread in
    let a = c.args.action.now in
    let es = i.events.items in
    let may : MayAct i.world.0 t c.args.index a es =
    subst (λ (s : Opening × List Event). MayAct s.0 t c.args.index a s.1) (sym c.self.view_is) c.requires.may in
    let illegal = sym c.if-not-is_legal.true ∙ c.is_legal.ensures in
    subst (λ (s : Opening × List Event). HasActed s.0 t c.args.index a s.1 None s.1) c.self.view_is
    (nothing-done i.world i.copies es i.count t c.args.index a k may c.requires.loud illegal)

pub perform-requires-clause-formed : goal.perform-requires-clause-formed
perform-requires-clause-formed c =
    let i = c.self.inside in
    let k = c.self.invariant in
    let t = c.args.thread in
    let a = c.args.action.now in
    let es = i.events.items in
    let may : MayAct i.world.0 t c.args.index a es =
    subst (λ (s : Opening × List Event). MayAct s.0 t c.args.index a s.1) (sym c.self.view_is) c.requires.may in
    asks-world i.world es a k.world may.asked

pub perform-requires-clause-turns : goal.perform-requires-clause-turns
perform-requires-clause-turns c =
    let i = c.self.inside in
    let k = c.self.invariant in
    let t = c.args.thread in
    let a = c.args.action.now in
    let es = i.events.items in
    let may : MayAct i.world.0 t c.args.index a es =
    subst (λ (s : Opening × List Event). MayAct s.0 t c.args.index a s.1) (sym c.self.view_is) c.requires.may in
    turns-world i.world es t a k.world may.turns

pub invariant_of-self-2 : goal.invariant_of-self-2
invariant_of-self-2 c =
    let i = c.self.inside in
    let k = c.self.invariant in
    let t = c.args.thread in
    let a = c.args.action.now in
    let es = i.events.items in
    let may : MayAct i.world.0 t c.args.index a es =
    subst (λ (s : Opening × List Event). MayAct s.0 t c.args.index a s.1) (sym c.self.view_is) c.requires.may in
    let o : Opening = i.world.0 in
    let r = c.in-Done.reply in
    let d = c.prepare.new.copies in
    let ready = c.prepare.new.events.items in
    let new = c.push.new.self.items in
    let v : Opening × List Entry = c.perform.new.self in
    let items = c.in_ok-count.ensures.items in
    let y : IsReady o (is_synchronising a) t es d ready =
    subst (λ b. IsReady o b t es d ready) c.is_synchronising-meets.ensures
    (ready-now o i.copies d c.is_synchronising-meets.result t es c.make_room.new.events.items ready items k.follows c.prepare.ensures.ready) in
    let step : c.in_ok-reply.field-0 ≡ Done r = c.in-Done.is in
    let replied : reply o i.world.1 t a ≡ Some r = sym c.in_ok-reply.ensures.reply ∙ ap answer_of step in
    let fits : fits_after o i.world.1 a r ≡ true =
    subst (λ (s : Step). IfSome (answer_of s) (λ q. fits_after o i.world.1 a q ≡ true)) step c.in_ok-reply.ensures.fits in
    let known : gives_known v.0 v.1 r ≡ true =
    subst (λ (s : Step). IfSome (answer_of s) (λ q. gives_known v.0 v.1 q ≡ true)) step c.in_ok-reply.ensures.known in
    let entries : v.1 ≡ i.world.1 ++ entry_of t c.args.index a r ∷ [] =
    c.in_ok-reply.ensures.entries ∙ ap (λ (s : Step). performed i.world.1 t c.args.index a (answer_of s)) step in
    let is : new ≡ ready ++ did t c.args.index a r ∷ [] =
    c.push.ensures.items ∙ ap (λ (e : Event). ready ++ e ∷ []) c.event_of.ensures
    ∙ ap (λ b. ready ++ did t c.args.index b r ∷ []) c.in_ok-copy.ensures in
    let counted : c.in_ok-count.count ≡ length ready + 1 =
    omega (arith, c.in_ok-count.ensures.count, c.prepare.ensures.many, k.counted, ap length items) in
    (perform-done i.world v i.copies d es ready new i.count c.in_ok-count.count t c.args.index a r k y may c.requires.loud
    replied fits known c.perform.ensures.opening entries is counted c.in_ok-count.ensures.few).0

pub returns-clause-ok : goal.returns-clause-ok
returns-clause-ok c =
    let i = c.self.inside in
    let k = c.self.invariant in
    let t = c.args.thread in
    let a = c.args.action.now in
    let es = i.events.items in
    let may : MayAct i.world.0 t c.args.index a es =
    subst (λ (s : Opening × List Event). MayAct s.0 t c.args.index a s.1) (sym c.self.view_is) c.requires.may in
    let o : Opening = i.world.0 in
    let r = c.in-Done.reply in
    let d = c.prepare.new.copies in
    let ready = c.prepare.new.events.items in
    let new = c.push.new.self.items in
    let v : Opening × List Entry = c.perform.new.self in
    let items = c.in_ok-count.ensures.items in
    let y : IsReady o (is_synchronising a) t es d ready =
    subst (λ b. IsReady o b t es d ready) c.is_synchronising-meets.ensures
    (ready-now o i.copies d c.is_synchronising-meets.result t es c.make_room.new.events.items ready items k.follows c.prepare.ensures.ready) in
    let step : c.in_ok-reply.field-0 ≡ Done r = c.in-Done.is in
    let replied : reply o i.world.1 t a ≡ Some r = sym c.in_ok-reply.ensures.reply ∙ ap answer_of step in
    let fits : fits_after o i.world.1 a r ≡ true =
    subst (λ (s : Step). IfSome (answer_of s) (λ q. fits_after o i.world.1 a q ≡ true)) step c.in_ok-reply.ensures.fits in
    let known : gives_known v.0 v.1 r ≡ true =
    subst (λ (s : Step). IfSome (answer_of s) (λ q. gives_known v.0 v.1 q ≡ true)) step c.in_ok-reply.ensures.known in
    let entries : v.1 ≡ i.world.1 ++ entry_of t c.args.index a r ∷ [] =
    c.in_ok-reply.ensures.entries ∙ ap (λ (s : Step). performed i.world.1 t c.args.index a (answer_of s)) step in
    let is : new ≡ ready ++ did t c.args.index a r ∷ [] =
    c.push.ensures.items ∙ ap (λ (e : Event). ready ++ e ∷ []) c.event_of.ensures
    ∙ ap (λ b. ready ++ did t c.args.index b r ∷ []) c.in_ok-copy.ensures in
    let counted : c.in_ok-count.count ≡ length ready + 1 =
    omega (arith, c.in_ok-count.ensures.count, c.prepare.ensures.many, k.counted, ap length items) in
    subst (λ (s : Opening × List Event). HasActed s.0 t c.args.index a s.1 (Some r) new) c.self.view_is
    (perform-done i.world v i.copies d es ready new i.count c.in_ok-count.count t c.args.index a r k y may c.requires.loud
    replied fits known c.perform.ensures.opening entries is counted c.in_ok-count.ensures.few).1
