use Rattle.upc_tree.specs.layer.ViewStatement.{view_unit}
use Rattle.upc_checker.specs.code.ViewUnits.{view_checked}
use Rattle.upc_checker.proofs.Causes.{is_accepted}
use Rattle.upc_checker.proofs.accept.check.Goals as goal

pub program_of-requires-clause-accepted : goal.program_of-requires-clause-accepted
program_of-requires-clause-accepted c =
    is_accepted c.args.names.now c.args.threads (view_unit c.args.unit.now) (view_checked c.in_ok-source.source) c.requires.numbers c.in_ok-source.ensures
