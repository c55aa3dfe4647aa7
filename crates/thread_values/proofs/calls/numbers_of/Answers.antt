use Rattle.std.proofs.Common.{rules, List, [], ◌∷◌, ◌++◌, map, take, FitsSigned, ap, sym, ◌∙◌, arith}
use Rattle.std.specs.Int.{w128}
use Rattle.std.proofs.Math.IntN.{ℤ}
use Rattle.std.proofs.lemmas.Int.{to_z-of_z}
use Rattle.std.proofs.lemmas.List.{map_more}
use Rattle.thread_steps.specs.Values.{number_of}
use Rattle.thread_values.proofs.calls.numbers_of.Goals as goal

pub loop-v-preserved : goal.loop-v-preserved
loop-v-preserved c =
    let fits : FitsSigned w128 c.number_of.result = search rules in
    (simp to_z-of_z at c.in_ok-push.ensures.items)
    ∙ ap (λ (xs : List ℤ). xs ++ (c.number_of.result ∷ [])) c.loop-v.invariant
    ∙ ap (λ (z : ℤ). map number_of (take c.loop-v.v-index c.args.values.now) ++ (z ∷ [])) c.number_of.ensures.value
    ∙ sym (map_more number_of c.args.values.now c.loop-v.v-index _ (omega arith))
