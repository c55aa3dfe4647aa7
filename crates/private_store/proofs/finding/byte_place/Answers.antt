use Rattle.std.proofs.Common.{rules, ◌∙◌}
use Rattle.std.proofs.lemmas.List.Sorted.{answers_always}
use Rattle.private_store.proofs.Places.{byte_here}
use Rattle.private_store.proofs.Searches.{searched}
use Rattle.private_store.proofs.finding.byte_place.Goals as goal

pub returns : goal.returns
returns c =
    let facts = c.binary_search_by_key.ensures in
    let by_key = facts.position (λ x. x.0) (answers_always _ _ _ (λ f a r g called. search rules)) in
    c.ok.ensures.value ∙ searched (λ x. x.0) c.args.byte c.args.cells.now c.requires _ facts.bound by_key

pub returns-then-cells-guess : goal.returns-then-cells-guess
returns-then-cells-guess c =
    byte_here c.args.cells.now c.args.byte c.requires _ _ c.if-guess-cells.true c.if-cells-guess.true
