use Rattle.std.proofs.Common.{Option, option_map, sym, ap}
use Rattle.block_layout.specs.declared.kind.Shape.{Shape}
use Rattle.private_store.specs.Live.{Thing}
use Rattle.private_store.proofs.Things.{no_thing, shape_found}
use Rattle.private_store.proofs.store.Store.shape.Goals as goal

abbrev shape_in : Option Thing → Option Shape
shape_in o = option_map (λ x. x.shape) o

pub returns-in-None-clause-value : goal.returns-in-None-clause-value
returns-in-None-clause-value c =
    rw (← c.self.view_is) (ap shape_in (sym (no_thing c.args.object c.self.inside.objects c.in-None.ensures)))

pub returns-in-Some-clause-value : goal.returns-in-Some-clause-value
returns-in-Some-clause-value c =
    rw (← c.self.view_is) (shape_found c.args.object c.self.inside.objects c.in-Some.at c.shape.result.now c.in-Some.ensures c.shape.ensures.value)
