use Rattle.std.proofs.Common.{sym, ◌∙◌, arith}
use Rattle.std.proofs.lemmas.Bool.{false≢true}
use Rattle.upc_values.specs.Orders.{no_strand}
use Rattle.upc_verify_parts.proofs.ends.another_stops.Goals as goal

pub returns : goal.returns
returns c = (
  λ h. absurd (false≢true h),
  λ a. sym (c.loop-number.invariant a.other no_strand (omega arith) a.differs) ∙ a.stopped no_strand,
)
