use Rattle.std.proofs.Common.{rules, ◌≡◌, ◌∙◌, [], ◌∷◌, ◌++◌, pos, true}
use Rattle.std.specs.Prelude.{is_some, slice_get}
use Rattle.upc_values.specs.LibraryCalls.{scalars}
use Rattle.upc_values.specs.declared.scalar.Scalar.TheVariants.{Int}
use Rattle.thread_values.proofs.Sized.{some-allocation}
use Rattle.thread_values.proofs.meetings.is_allocation.Goals as goal

pub returns : goal.returns
returns c =
    let has : is_some (slice_get c.args.shapes.now c.args.shape) ≡ true = search rules in
    let met : c.as_slice.result.now ≡ scalars c.args.args.now ++ Int (pos c.args.shape) ∷ [] = search rules in
    c.is_met.ensures ∙ some-allocation c.args.shapes.now c.args.shape c.args.args.now c.as_slice.result.now has met
