use Rattle.std.proofs.Common.{List, [], ◌∷◌, ◌++◌, Option, map, take, option_copied, ap, sym, ◌∙◌}
use Rattle.std.proofs.lemmas.List.{map_more, map-append}
use Rattle.upc_values.specs.declared.action.Action.{Action}
use Rattle.upc_values.specs.Outcomes as outcomes
use Rattle.upc_verify_judge.specs.declared.meant.Meant.{Meant}
use Rattle.upc_verify_judge.proofs.meant.wants_of.Goals as goal

abbrev wants : Meant → Option Action
wants m = outcomes.wanted m.«end»

pub loop-one-preserved : goal.loop-one-preserved
loop-one-preserved c =
    let meant = c.args.meant.now in
    let i = c.loop-one.one-index in
    ap (map option_copied) c.in_ok-push.ensures.items
    ∙ map-append option_copied c.loop-one.wants.items (c.wanted.result ∷ [])
    ∙ ap (λ (xs : List (Option Action)). xs ++ (option_copied c.wanted.result ∷ [])) c.loop-one.invariant
    ∙ ap (λ (z : Option Action). map wants (take i meant) ++ (z ∷ [])) (c.wanted.ensures ∙ ap wants c.one-item.is)
    ∙ sym (map_more wants meant i c.one-item.result c.loop-one-test.true)
