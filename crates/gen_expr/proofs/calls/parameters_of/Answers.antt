use Rattle.std.proofs.Common.{ap, ◌∙◌, map}
use Rattle.upc_types.specs.View.{view}
use Rattle.gen_expr.proofs.Parameters.{parameters_at, no_parameters}
use Rattle.gen_expr.proofs.calls.parameters_of.Goals as goal

pub returns-in-Some : goal.returns-in-Some
returns-in-Some c =
    let found = c.in-Some.ensures.lookup in
    let at = parameters_at c.args.source.functions.now c.args.number c.in-Some.function.now found.3.0 found.1 in
    ap (map view) c.as_slice.ensures.value ∙ at

pub returns-in-None : goal.returns-in-None
returns-in-None c =
    let past = c.in-None.ensures.lookup in
    no_parameters c.args.source.functions.now c.args.number past.3
