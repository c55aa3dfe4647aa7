use Rattle.std.proofs.Common.{◌≡◌, ℕ, Result, List, [], ◌∷◌, ◌++◌, length, map, OnErr, Ok, Err, refl, ap, ◌∙◌, arith}
use Rattle.std.proofs.lemmas.List.{length-map}
use Rattle.block_layout.specs.declared.kind.Kind.{Kind}
use Rattle.upc_values.specs.Shapes.{blank_value}
use Rattle.private_store.specs.declared.object.Object.{Object}
use Rattle.private_store.specs.Live.{blank_thing}
use Rattle.private_store.specs.code.Held.{held_value, held_values}
use Rattle.private_store.specs.code.Laid.{things_of}
use Rattle.private_store.proofs.Laid.{Values, front_held, laid_grown, laid_more, things_grown, things_more}
use Rattle.private_store.proofs.object_list.ObjectList.push.Goals as goal

on_err : {X E : Type 0} (r : Result X E) (P : Type 0) → P → OnErr r P
on_err (Ok x) P p = tt
on_err (Err e) P p = p

pub invariant_of-self-in_err-count : goal.invariant_of-self-in_err-count
invariant_of-self-in_err-count c =
    let o = c.self.inside in
    let a = held_values o.held.items in
    let b = held_values c.fill.new.held.items in
    let known = c.form_of.new.known.items in
    laid_grown o.list.items a b o.known.items known c.self.invariant (front_held o.held.items b c.in_err-count.ensures.kept) c.in_ok-form.ensures.kept c.in_ok-form.ensures.rows

pub returns-in_err-count-clause-err : goal.returns-in_err-count-clause-err
returns-in_err-count-clause-err c =
    let o = c.self.inside in
    let a = held_values o.held.items in
    let b = held_values c.fill.new.held.items in
    let known = c.form_of.new.known.items in
    on_err c.from_residual-in_err-count.result _
    (things_grown o.list.items a b o.known.items known c.self.invariant (front_held o.held.items b c.in_err-count.ensures.kept) ∙ c.self.view_is)

pub invariant_of-self-in_err-push : goal.invariant_of-self-in_err-push
invariant_of-self-in_err-push c =
    let o = c.self.inside in
    let a = held_values o.held.items in
    let b = held_values c.fill.new.held.items in
    let known = c.form_of.new.known.items in
    rw c.in_err-push.ensures.items
    (laid_grown o.list.items a b o.known.items known c.self.invariant (front_held o.held.items b c.in_ok-count.ensures.kept) c.in_ok-form.ensures.kept c.in_ok-form.ensures.rows)

pub returns-in_err-push-clause-err : goal.returns-in_err-push-clause-err
returns-in_err-push-clause-err c =
    let o = c.self.inside in
    let a = held_values o.held.items in
    let b = held_values c.fill.new.held.items in
    let known = c.form_of.new.known.items in
    on_err c.from_residual-in_err-push.result _
    (ap (λ (os : List Object). things_of b os) c.in_err-push.ensures.items
    ∙ things_grown o.list.items a b o.known.items known c.self.invariant (front_held o.held.items b c.in_ok-count.ensures.kept) ∙ c.self.view_is)

pub invariant_of-self-2 : goal.invariant_of-self-2
invariant_of-self-2 c =
    let o = c.self.inside in
    let a = held_values o.held.items in
    let s = c.args.shape.now in
    let blanks = map (λ (c : ℕ × Kind). blank_value c.1) s.cells in
    let known = c.form_of.new.known.items in
    let x : Object = record { number = c.args.number; first = c.len-first.result; count = c.in_ok-count.count; size = s.size; form = c.in_ok-form.form } in
    let first : c.len-first.result ≡ length a = omega (arith, o.held.ok, length-map o.held.items held_value) in
    rw (c.in_ok-push.ensures.items, c.in_ok-count.ensures.all)
    (laid_more o.list.items a blanks o.known.items known x s c.self.invariant c.requires c.in_ok-form.ensures.form first c.in_ok-count.ensures.count refl refl
    c.in_ok-form.ensures.kept c.in_ok-form.ensures.rows c.in_ok-form.ensures.lent)

pub returns-clause-ok : goal.returns-clause-ok
returns-clause-ok c =
    let o = c.self.inside in
    let a = held_values o.held.items in
    let s = c.args.shape.now in
    let blanks = map (λ (c : ℕ × Kind). blank_value c.1) s.cells in
    let known = c.form_of.new.known.items in
    let x : Object = record { number = c.args.number; first = c.len-first.result; count = c.in_ok-count.count; size = s.size; form = c.in_ok-form.form } in
    let first : c.len-first.result ≡ length a = omega (arith, o.held.ok, length-map o.held.items held_value) in
    ap (λ (os : List Object). things_of (held_values c.fill.new.held.items) os) c.in_ok-push.ensures.items
    ∙ ap (λ (us : Values). things_of us (o.list.items ++ x ∷ [])) c.in_ok-count.ensures.all
    ∙ things_more o.list.items a blanks o.known.items known x s c.self.invariant c.requires c.in_ok-form.ensures.form first c.in_ok-count.ensures.count refl refl
    ∙ ap (λ l. l ++ blank_thing c.args.number s ∷ []) c.self.view_is
