use Rattle.std.proofs.Common.{◌≡◌, ◌-◌, length}
use Rattle.upc_tree.specs.layer.View.{view}
use Rattle.upc_parser_types.specs.layer.Expression.{climb, at_height}
use Rattle.upc_parser_expressions.proofs.expression.Expressions.climb.Given as goal

abbrev pub invariant-loop-turn : goal.invariant-loop-turn
invariant-loop-turn g l = climb l.n (at_height l.n) (length l.fn.tokens.rest.now) l.least (view l.fn.left.value) l.fn.tokens.rest.now ≡ climb l.n (at_height l.n) (l._turn-end - l._turn) l.least (view l.left.value) l.tokens.rest.now
