use Rattle.std.proofs.Common.{◌<◌, List, length, take, ap, ◌∙◌, arith}
use Rattle.private_store.specs.declared.held.Held.{Held}
use Rattle.private_store.specs.declared.object.Object.{Object}
use Rattle.private_store.specs.code.Held.{held_values}
use Rattle.private_store.specs.code.Laid.{things_of}
use Rattle.private_store.proofs.Laid.{Values, held_taken, laid_taken, things_taken}
use Rattle.private_store.proofs.object_list.ObjectList.truncate.Goals as goal

pub invariant_of-self : goal.invariant_of-self
invariant_of-self c =
    let o = c.self.inside in
    let x = c.index.result.now in
    let lt : c.args.kept < length o.list.items = omega (arith, o.list.ok) in
    rw (c.truncate.ensures.items, c.truncate-then-kept-len.ensures.items, held_taken x.first o.held.items)
    (laid_taken o.list.items (held_values o.held.items) o.known.items c.self.invariant c.args.kept x lt c.index.ensures)

pub returns-then-kept-len : goal.returns-then-kept-len
returns-then-kept-len c =
    let o = c.self.inside in
    let x = c.index.result.now in
    let lt : c.args.kept < length o.list.items = omega (arith, o.list.ok) in
    let some = take c.args.kept o.list.items in
    ap (λ (os : List Object). things_of (held_values c.truncate-then-kept-len.new.self.items) os) c.truncate.ensures.items
    ∙ ap (λ (hs : List Held). things_of (held_values hs) some) c.truncate-then-kept-len.ensures.items
    ∙ ap (λ (us : Values). things_of us some) (held_taken x.first o.held.items)
    ∙ things_taken o.list.items (held_values o.held.items) o.known.items c.self.invariant c.args.kept x lt c.index.ensures
    ∙ ap (take c.args.kept) c.self.view_is
