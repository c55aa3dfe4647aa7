use Rattle.order_builder.proofs.Satisfying.{legal-consistent, sound-consistent}
use Rattle.order_builder.proofs.consistent.answered_orders_are_consistent.Goals as goal

pub returns : goal.returns
returns c = record { legal = legal-consistent; sound = sound-consistent }
