use Rattle.upc_lexer.proofs.GapLemmas.{not_closed, ends_at}
use Rattle.upc_lexer.proofs.gaps.comment_length.Goals as goal

pub returns-then-bytes-i-eq47-clause-found : goal.returns-then-bytes-i-eq47-clause-found
returns-then-bytes-i-eq47-clause-found c = ends_at c.loop-i.i c.args.bytes.now c.loop-i.auto.i c.loop-i-test.true c.loop-i.invariant c.if-bytes-i-eq42.true c.if-bytes-i-eq47.true

pub returns-clause-none : goal.returns-clause-none
returns-clause-none c = not_closed c.args.bytes.now c.loop-i.i c.loop-i-test.false c.loop-i.invariant
