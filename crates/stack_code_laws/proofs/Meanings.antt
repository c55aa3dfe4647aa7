-- What a thread of code does keeps what every meaning keeps.
use Rattle.std.proofs.Common.{ℕ, List}
use Rattle.upc_values.specs.declared.action.Reply.{Reply}
use Rattle.upc_values.specs.Openings.{Opening}
use Rattle.upc_values.specs.Outcomes.{Outcome, IsMeaning}
use Rattle.stack_code.specs.layer.Codes.{Codes}
use Rattle.stack_code_laws.specs.layer.Asking.{IsThreadOf}
use Rattle.stack_code_laws.proofs.Asking.{asks_well, begins_empty}
use Rattle.stack_code_laws.proofs.Beats.{beats_in_time}

pub is_meaning : (o : Opening) (codes : Codes) (thread budget : ℕ) (f : List Reply → Outcome)
    → IsThreadOf o codes thread budget f → IsMeaning o f
is_meaning o codes thread budget f h =
    let asks = asks_well o codes thread budget f h in
    record {
      begins = begins_empty o codes thread budget f h;
      goes = asks.goes;
      ticks = λ rs w. beats_in_time codes thread budget rs (f rs) (h.means rs) w;
      formed = asks.formed;
    }
