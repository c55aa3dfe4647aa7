-- What collective calls leave in a sound journal, where the threads go through them as they are defined (UPC 7.3).
use Rattle.std.specs.Prelude.{ℕ, List}
use Rattle.upc_values.specs.declared.action.Reply.{Reply}
use Rattle.upc_values.specs.declared.journal.Journal.{Journal}
use Rattle.upc_values.specs.Lists.{Numbered}
use Rattle.upc_values.specs.Records.{actions_of}
use Rattle.upc_values.specs.Outcomes.{Outcome}
use Rattle.upc_values.specs.Openings.{Opening, IsOpening}
use Rattle.upc_values.specs.Sound.{IsSound}
use Rattle.upc_values.specs.Together.{CollectivesHold}
use Rattle.collective_laws_words.specs.layer.Steps.{GoesTogether, steps_in}
use Rattle.collective_laws_words.specs.layer.Interface.{ValuesHold, WorkStays}
use Rattle.thread_steps.specs.layer.Fronts.{IsInTurn}

-- Each strand goes through collective calls as these are defined.
abbrev pub StrandsGoTogether : Opening → Journal → Type 0
StrandsGoTogether o j = Numbered (λ t s. GoesTogether o.threads o.shapes t (steps_in s.items)) j.strands

-- In each strand notifies and waits alternate (UPC 6.6.1).
abbrev pub AllTakeTurns : Journal → Type 0
AllTakeTurns j = Numbered (λ t s. IsInTurn (actions_of s.items)) j.strands

-- The history of a sound journal holds the value of each collective call, where the strands go through collective
-- calls as these are defined and take turns, and what the threads do in one call has the call's value.
pub record JournalsHold : Type 0 where
  pub holds :
      ValuesHold → WorkStays → (o : Opening) (outcome : (budget thread : ℕ) → List Reply → Outcome) (j : Journal)
      → IsOpening o → IsSound o outcome j → StrandsGoTogether o j → AllTakeTurns j → CollectivesHold o j.history
