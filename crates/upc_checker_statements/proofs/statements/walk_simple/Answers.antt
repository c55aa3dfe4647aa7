use Rattle.std.proofs.Common.{refl, sym}
use Rattle.upc_checker_scopes.specs.layer.Views.{view_setting, state_of}
use Rattle.upc_checker_statements.proofs.statements.walk_simple.Goals as goal

pub returns-in-Expression : goal.returns-in-Expression
returns-in-Expression c = rw c.in-Expression.is c.walk_expression.ensures

pub returns-in-Break : goal.returns-in-Break
returns-in-Break c = rw c.in-Break.is (c.finish_break.ensures (view_setting c.args.here.setting) (state_of c.args.tags.now c.args.known.now))

pub returns-in-Continue : goal.returns-in-Continue
returns-in-Continue c = rw c.in-Continue.is (c.finish_continue.ensures (view_setting c.args.here.setting) (state_of c.args.tags.now c.args.known.now))

pub returns-in-Return : goal.returns-in-Return
returns-in-Return c = rw c.in-Return.is (c.walk_return.ensures c.in-Return.semicolon)

pub returns-in-Barrier : goal.returns-in-Barrier
returns-in-Barrier c = rw c.in-Barrier.is (c.walk_barrier.ensures c.in-Barrier.semicolon)

pub returns-in_ok-fence-in-Fence : goal.returns-in_ok-fence-in-Fence
returns-in_ok-fence-in-Fence c = rw c.in-Fence.is (record { fine = refl; state = refl; value = sym c.in_ok-fence-in-Fence.ensures })
