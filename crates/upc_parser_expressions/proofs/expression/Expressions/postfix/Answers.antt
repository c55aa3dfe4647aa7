use Rattle.std.proofs.Common.{rules, arith}
use Rattle.std.proofs.lemmas.Grind.{common_steps}
use Rattle.upc_tree.specs.layer.View.{view}
use Rattle.upc_parser_types.specs.layer.Expression.{postfix, at_height}
use Rattle.upc_parser_ground.proofs.Turns.{one_more, no_more}
use Rattle.upc_parser_expressions.proofs.expression.Expressions.postfix.Goals as goal

pub returns : goal.returns
unfolding postfix
returns g c = no_more (λ k. postfix c.args.n (at_height c.args.n) k (view c.loop-turn.base.value) c.loop-turn.tokens.rest.now) _ c.loop-turn._turn c.loop-turn-test.false c.loop-turn.invariant

pub loop-turn-preserved : goal.loop-turn-preserved
unfolding postfix
loop-turn-preserved g c =
    let e = one_more (λ k. postfix c.args.n (at_height c.args.n) k (view c.loop-turn.base.value) c.loop-turn.tokens.rest.now) _ c.loop-turn._turn c.loop-turn-test.true c.loop-turn.invariant in
    first_of (search rules, grind (arith, common_steps))

pub returns-in_default : goal.returns-in_default
unfolding postfix
returns-in_default g c =
    let e = one_more (λ k. postfix c.args.n (at_height c.args.n) k (view c.loop-turn.base.value) c.loop-turn.tokens.rest.now) _ c.loop-turn._turn c.loop-turn-test.true c.loop-turn.invariant in
    first_of (search rules, grind (arith, common_steps))

pub returns-in_default-suffix_of : goal.returns-in_default-suffix_of
unfolding postfix
returns-in_default-suffix_of g c =
    let e = one_more (λ k. postfix c.args.n (at_height c.args.n) k (view c.loop-turn.base.value) c.loop-turn.tokens.rest.now) _ c.loop-turn._turn c.loop-turn-test.true c.loop-turn.invariant in
    first_of (search rules, grind (arith, common_steps))

pub returns-in_err-base : goal.returns-in_err-base
unfolding postfix
returns-in_err-base g c =
    let e = one_more (λ k. postfix c.args.n (at_height c.args.n) k (view c.loop-turn.base.value) c.loop-turn.tokens.rest.now) _ c.loop-turn._turn c.loop-turn-test.true c.loop-turn.invariant in
    first_of (search rules, grind (arith, common_steps))
