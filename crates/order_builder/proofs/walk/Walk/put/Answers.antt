use Rattle.std.proofs.Common.{refl, sym, subst, ◌∙◌}
use Rattle.std.proofs.lemmas.Result.{on_ok_weaker}
use Rattle.order_builder.specs.code.Views.{IsShown, entry_in}
use Rattle.upc_values.specs.Drain as drain
use Rattle.order_builder.specs.declared.walk.Walk.{Walk}
use Rattle.order_builder.proofs.Showing.{is-changed, put-shown, none-kept}
use Rattle.order_builder.proofs.walk.Walk.put.Goals as goal

pub returns-in_ok-combine-in-Some : goal.returns-in_ok-combine-in-Some
returns-in_ok-combine-in-Some c =
    let s = c.args.self.now in
    let r : Walk = record { next = s.next; emitted = s.emitted; pending = c.combine.new.pending; agrees = s.agrees } in
    on_ok_weaker c.count.result
    (λ e.
    put-shown c.args.loc c.args.latest s c.count.new.self c.in-Some.at c.in-Some.field-0-1 c.as_slice.result.now r.pending.items
    c.in-Some.ensures.last (c.as_slice.ensures ∙ c.in_ok-names-in-Some.ensures) c.in_ok-combine-in-Some.ensures
    (is-changed s r c.note.new.self c.count.new.self c.is_done.result (drain.is_done c.args.latest.reply.now) refl refl refl
    c.note.ensures e c.is_done.ensures))
    c.count.ensures

pub returns-in_ok-make_room-in-None : goal.returns-in_ok-make_room-in-None
returns-in_ok-make_room-in-None c =
    on_ok_weaker c.store.result
    (λ e w s.
    subst (λ o. IsShown (drain.put_pending c.args.loc (entry_in c.args.latest) o w) c.store.new.self)
    (sym (none-kept c.args.loc c.args.self.now.pending.items w.pending (c.in-None.ensures.none refl) s.pending))
    (e (drain.with_room w) (c.in_ok-make_room-in-None.ensures w s)))
    c.store.ensures
