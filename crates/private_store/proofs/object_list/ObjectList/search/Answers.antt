use Rattle.std.proofs.Common.{rules, ◌∙◌}
use Rattle.std.proofs.lemmas.List.Sorted.{answers_always}
use Rattle.private_store.specs.code.Held.{held_values}
use Rattle.private_store.proofs.Searches.{searched}
use Rattle.private_store.proofs.Laid.{numbers_rise, position_things}
use Rattle.private_store.proofs.object_list.ObjectList.search.Goals as goal

pub returns : goal.returns
returns c =
    let o = c.self.inside in
    let vs = held_values o.held.items in
    let facts = rw c.deref.ensures.value at c.binary_search_by_key.ensures in
    let by_key = facts.position (λ x. x.number) (answers_always _ _ _ (λ f a r g called. search rules)) in
    rw (← c.self.view_is) (c.ok.ensures.value ∙ searched (λ x. x.number) c.args.number o.list.items
    (numbers_rise vs o.list.items (rw (← c.self.view_is) at c.requires)) _ facts.bound by_key ∙ position_things vs o.list.items c.args.number)
