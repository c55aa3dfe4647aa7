use Rattle.std.proofs.Common.{ap, get_or, pos, ◌∙◌}
use Rattle.upc_values.specs.declared.scalar.Scalar.TheVariants.{Int}
use Rattle.memory_history.specs.code.Calls.{shared_in, reduced}
use Rattle.memory_history.proofs.Reading.{seven-places}
use Rattle.memory_history.proofs.calls.read_call.Goals as goal

pub returns-in-len7 : goal.returns-in-len7
returns-in-len7 c =
    let args = c.args.args.now in
    c.or_nothing-in-len7.ensures ∙ c.seven.ensures
    ∙ ap (reduced c.args.call (shared_in (get_or args 0 (Int (pos 0)))) (shared_in (get_or args 1 (Int (pos 0)))))
    c.are_numbers-numbers.ensures
    ∙ seven-places c.args.call args (Int (pos 0)) c.in-len7.len_at_least c.in-len7.len_below
