use Rattle.std.proofs.Common.{arith}
use Rattle.stack_machine.proofs.calls.Task.turns.Goals as goal

pub returns-in-Err-clause-halts : goal.returns-in-Err-clause-halts
returns-in-Err-clause-halts c = λ given s.
    c.in-Err.ensures.goes given (c.go.ensures.along given (c.loop-halt.invariant.along given s))

pub loop-halt-preserved : goal.loop-halt-preserved
loop-halt-preserved c = record {
  along = λ given s. c.in-Ok.ensures.goes given (c.go.ensures.along given (c.loop-halt.invariant.along given s));
  held = c.in-Ok.ensures.advances.held;
  in_time = c.in-Ok.ensures.advances.in_time;
  closed = c.in-Ok.ensures.closed;
}

pub loop-halt-smaller : goal.loop-halt-smaller
loop-halt-smaller c = omega (arith, c.go.ensures.falls, c.in-Ok.ensures.advances.lighter)
