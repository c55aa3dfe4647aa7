use Rattle.std.proofs.Common.{◌≡◌, take}
use Rattle.order_builder.specs.code.Parts.{order_of}
use Rattle.order_builder.proofs.part.order_of.Given as goal

abbrev pub invariant-loop-named : goal.invariant-loop-named
invariant-loop-named l = l.order.items ≡ order_of l.part (take l.named-index l.names)
