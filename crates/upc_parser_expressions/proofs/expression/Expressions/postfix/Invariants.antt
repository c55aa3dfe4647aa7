use Rattle.std.proofs.Common.{◌≡◌, ◌-◌, length}
use Rattle.upc_tree.specs.layer.View.{view}
use Rattle.upc_parser_types.specs.layer.Expression.{postfix, at_height}
use Rattle.upc_parser_expressions.proofs.expression.Expressions.postfix.Given as goal

abbrev pub invariant-loop-turn : goal.invariant-loop-turn
invariant-loop-turn g l = postfix l.n (at_height l.n) (length l.fn.tokens.rest.now) (view l.fn.base.value) l.fn.tokens.rest.now ≡ postfix l.n (at_height l.n) (l._turn-end - l._turn) (view l.base.value) l.tokens.rest.now
