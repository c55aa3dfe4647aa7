-- A sound journal follows its buffers.
use Rattle.std.proofs.Common.{ℕ, List, sym, ◌∙◌, subst}
use Rattle.upc_values.specs.declared.action.Reply.{Reply}
use Rattle.upc_values.specs.declared.journal.Journal.{Journal}
use Rattle.upc_values.specs.Outcomes.{Outcome}
use Rattle.upc_values.specs.Openings.{Opening}
use Rattle.upc_values.specs.History.{EachBelow}
use Rattle.upc_values.specs.Sound.{IsSound}
use Rattle.upc_values.specs.Consistent.{FollowsBuffers}

pub sound-follows : (o : Opening) (outcome : ℕ → ℕ → List Reply → Outcome) (j : Journal) → IsSound o outcome j
    → FollowsBuffers j
sound-follows o outcome j s =
    record {
      many = s.many ∙ sym s.threads;
      below = subst (λ n. EachBelow n j.history) (sym s.threads) s.below;
      agrees = λ t d h. (s.strands t d h).agrees;
      drains = λ t d h. (s.strands t d h).drains;
    }
