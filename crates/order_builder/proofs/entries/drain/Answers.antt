use Rattle.std.proofs.Common.{map, ap, ◌∙◌}
use Rattle.order_builder.specs.code.Views.{entry_in}
use Rattle.order_builder.proofs.entries.drain.Goals as goal

pub returns-then-walk-clause-entries : goal.returns-then-walk-clause-entries
returns-then-walk-clause-entries c =
    c.in_ok-entries_of.ensures ∙ ap (map entry_in) c.as_slice.ensures.value ∙ c.in_ok-walk.ensures.emitted.entries
