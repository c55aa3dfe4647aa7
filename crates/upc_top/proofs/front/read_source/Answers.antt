use Rattle.std.proofs.lemmas.Result.{err_from_is_err_and}
use Rattle.typed_tree.specs.ViewProgram.{view_program}
use Rattle.upc_top.proofs.Stages.{stops_checking}
use Rattle.upc_top.proofs.front.read_source.Goals as goal

pub returns-in_err-tree-clause-refused : goal.returns-in_err-tree-clause-refused
returns-in_err-tree-clause-refused c =
    let p = err_from_is_err_and c.from_residual.result c.from_residual.ensures.1 in
    rw (p.1, p.2) (c.in_err-tree.ensures.refused c.args.threads)

pub returns-in_err-program-clause-refused : goal.returns-in_err-program-clause-refused
returns-in_err-program-clause-refused c =
    let p = err_from_is_err_and c.from_residual-in_err-program.result c.from_residual-in_err-program.ensures.1 in
    rw (p.1, p.2) (stops_checking c.args.threads c.args.source.now _ _ view_program c.in_err-program.field-0.0 c.in_ok-tree.ensures.read c.in_err-program.ensures)

pub returns-clause-accepted : goal.returns-clause-accepted
returns-clause-accepted c = record {
  names = _;
  tree = _;
  typed = record { read = c.in_ok-tree.ensures.read; typed = c.in_ok-program.ensures };
}
