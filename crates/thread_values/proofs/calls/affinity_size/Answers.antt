use Rattle.std.proofs.Common.{ap, ◌∙◌, List}
use Rattle.upc_values.specs.declared.library.LibraryCall.TheVariants.{AffinitySize}
use Rattle.upc_values.specs.declared.scalar.Value.{Value}
use Rattle.upc_values.specs.LibraryCalls.{library_call}
use Rattle.thread_values.specs.layer.Results.{given_at_once}
use Rattle.thread_values.proofs.Sizes.{three-members}
use Rattle.thread_values.proofs.calls.affinity_size.Goals as goal

pub returns-in-len3-clause-value : goal.returns-in-len3-clause-value
returns-in-len3-clause-value c shapes me private shape =
    c.affinity_of.ensures.value shapes me private shape
    ∙ ap (λ (xs : List Value). given_at_once (library_call c.args.threads shapes me private AffinitySize shape xs))
    (three-members c.args.args.now _ c.in-len3.len_at_least c.in-len3.len_below)
