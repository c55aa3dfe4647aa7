use Rattle.std.proofs.Common.{rules, arith}
use Rattle.std.proofs.lemmas.Grind.{common_steps}
use Rattle.upc_tree.specs.layer.View.{view}
use Rattle.upc_parser_types.specs.layer.Expression.{climb, at_height}
use Rattle.upc_parser_ground.proofs.Turns.{one_more, no_more}
use Rattle.upc_parser_expressions.proofs.expression.Expressions.climb.Goals as goal

pub returns : goal.returns
unfolding climb
returns g c = no_more (λ k. climb c.args.n (at_height c.args.n) k c.args.least (view c.loop-turn.left.value) c.loop-turn.tokens.rest.now) _ c.loop-turn._turn c.loop-turn-test.false c.loop-turn.invariant

pub loop-turn-preserved : goal.loop-turn-preserved
unfolding climb
loop-turn-preserved g c =
    let e = one_more (λ k. climb c.args.n (at_height c.args.n) k c.args.least (view c.loop-turn.left.value) c.loop-turn.tokens.rest.now) _ c.loop-turn._turn c.loop-turn-test.true c.loop-turn.invariant in
    first_of (search rules, grind (arith, common_steps))

pub returns-in_default : goal.returns-in_default
unfolding climb
returns-in_default g c =
    let e = one_more (λ k. climb c.args.n (at_height c.args.n) k c.args.least (view c.loop-turn.left.value) c.loop-turn.tokens.rest.now) _ c.loop-turn._turn c.loop-turn-test.true c.loop-turn.invariant in
    first_of (search rules, grind (arith, common_steps))

pub returns-in_default-joint_of : goal.returns-in_default-joint_of
unfolding climb
returns-in_default-joint_of g c =
    let e = one_more (λ k. climb c.args.n (at_height c.args.n) k c.args.least (view c.loop-turn.left.value) c.loop-turn.tokens.rest.now) _ c.loop-turn._turn c.loop-turn-test.true c.loop-turn.invariant in
    first_of (search rules, grind (arith, common_steps))

pub returns-then-not-goes_on : goal.returns-then-not-goes_on
unfolding climb
returns-then-not-goes_on g c =
    let e = one_more (λ k. climb c.args.n (at_height c.args.n) k c.args.least (view c.loop-turn.left.value) c.loop-turn.tokens.rest.now) _ c.loop-turn._turn c.loop-turn-test.true c.loop-turn.invariant in
    first_of (search rules, grind (arith, common_steps))

pub returns-in_err-left : goal.returns-in_err-left
unfolding climb
returns-in_err-left g c =
    let e = one_more (λ k. climb c.args.n (at_height c.args.n) k c.args.least (view c.loop-turn.left.value) c.loop-turn.tokens.rest.now) _ c.loop-turn._turn c.loop-turn-test.true c.loop-turn.invariant in
    first_of (search rules, grind (arith, common_steps))
