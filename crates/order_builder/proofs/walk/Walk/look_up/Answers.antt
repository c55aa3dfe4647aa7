use Rattle.std.proofs.Common.{refl, sym, subst, ◌∙◌}
use Rattle.std.proofs.lemmas.Result.{on_ok_weaker}
use Rattle.order_builder.specs.code.Views.{IsShown, entry_in}
use Rattle.upc_values.specs.Drain as drain
use Rattle.order_builder.specs.declared.walk.Walk.{Walk}
use Rattle.order_builder.proofs.Showing.{is-changed, look_up-shown, none-kept}
use Rattle.order_builder.proofs.walk.Walk.look_up.Goals as goal

pub returns-in_ok-join-in-Some : goal.returns-in_ok-join-in-Some
returns-in_ok-join-in-Some c =
    let s = c.args.self.now in
    let r : Walk = record { next = s.next; emitted = s.emitted; pending = c.join.new.pending; agrees = s.agrees } in
    on_ok_weaker c.count.result
    (λ e.
    look_up-shown c.args.loc c.args.latest s c.count.new.self c.in-Some.at c.in-Some.value c.as_slice.result.now r.pending.items
    c.in-Some.ensures.last (c.as_slice.ensures ∙ c.in_ok-names-in-Some.ensures) c.in_ok-join-in-Some.ensures
    (is-changed s r c.note.new.self c.count.new.self c.is_value.result (drain.is_value c.in-Some.value c.args.latest.reply.now) refl refl refl
    c.note.ensures e c.is_value.ensures))
    c.count.ensures

pub returns-in-None : goal.returns-in-None
returns-in-None c =
    on_ok_weaker c.pass.result
    (λ e w s.
    subst (λ o. IsShown (drain.looked_up c.args.loc (entry_in c.args.latest) o w) c.pass.new.self)
    (sym (none-kept c.args.loc c.args.self.now.pending.items w.pending (c.in-None.ensures.none refl) s.pending)) (e w s))
    c.pass.ensures
