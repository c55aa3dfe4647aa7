use Rattle.std.proofs.lemmas.Result.{err_from_is_err_and}
use Rattle.upc_top.proofs.Stages.{stops_deciding}
use Rattle.upc_top.proofs.front.pass_source.Goals as goal

pub returns-in_err-tree-clause-refused : goal.returns-in_err-tree-clause-refused
returns-in_err-tree-clause-refused c =
    let p = err_from_is_err_and c.from_residual.result c.from_residual.ensures.1 in
    rw (p.1, p.2) (c.in_err-tree.ensures.refused c.args.threads)

pub returns-in_err-accepts-clause-refused : goal.returns-in_err-accepts-clause-refused
returns-in_err-accepts-clause-refused c =
    let p = err_from_is_err_and c.from_residual-in_err-accepts.result c.from_residual-in_err-accepts.ensures.1 in
    rw (p.1, p.2) (stops_deciding c.args.threads c.args.source.now _ _ c.in_err-accepts.field-0.0 c.in_ok-tree.ensures.read c.in_err-accepts.ensures)

pub returns-clause-accepted : goal.returns-clause-accepted
returns-clause-accepted c =
    let accepted = c.in_ok-accepts.ensures in
    record {
      checked = accepted.checked;
      accepted = record { names = _; tree = _; typed = record { read = c.in_ok-tree.ensures.read; typed = accepted.is } };
    }
