-- The strands of a sound journal go through collective calls, and take turns, as the meaning of their sources does.
use Rattle.std.proofs.Common.{◌≡◌, ◌<◌, List, [], ◌∷◌, refl, ap, ◌∙◌, subst}
use Rattle.std.specs.Prelude.{slice_index_or}
use Rattle.upc_values.specs.declared.record.Item.{Item}
use Rattle.upc_values.specs.declared.record.Item.TheVariants.{Did, Stall}
use Rattle.upc_values.specs.declared.journal.Journal.{Journal}
use Rattle.upc_values.specs.Records.{actions_of, replies_of}
use Rattle.upc_values.specs.Sound.{IsSound}
use Rattle.typed_tree.specs.Programs.{Checked}
use Rattle.thread_steps.specs.layer.Fronts.{IsInTurn}
use Rattle.source_meaning.specs.Threads.{thread_outcome}
use Rattle.source_meaning.specs.Laws.{opening_of}
use Rattle.collective_laws_words.specs.layer.Steps.{steps_in, steps_by, GoesTogether}
use Rattle.source_meaning.proofs.InTurn.{all_keep_turns}
use Rattle.collective_laws_source.proofs.Together.{all_go_together}
use Rattle.collective_laws_histories.specs.layer.Laws.{StrandsGoTogether, AllTakeTurns}
use Rattle.collective_laws_histories.proofs.Laws.{journals_hold}
use Rattle.collective_laws_steps.proofs.Values.{values_hold}
use Rattle.collective_laws_steps.proofs.Stays.{work_stays}
use Rattle.collective_laws.proofs.InTurn.{outcome-in_turn}
use Rattle.collective_laws.specs.code.Laws.{CollectivesHoldIn}

-- The steps of items are their actions with their replies.
steps_are : (items : List Item) → steps_by (actions_of items) (replies_of items) ≡ steps_in items
steps_are [] = refl
steps_are (Did a r ∷ items) = ap (λ l. record { action = a; reply = r } ∷ l) (steps_are items)
steps_are (Stall ∷ items) = steps_are items

module _ (program : Checked) (j : Journal)
    (sound : IsSound (opening_of program) (λ budget t. thread_outcome program t budget) j) (some : 0 < j.budget) where
  together : StrandsGoTogether (opening_of program) j
  together t d within =
      let s = slice_index_or j.strands t d in
      let replies = replies_of s.items in
      let conforms = (sound.strands t d within).conforms in
      subst (GoesTogether program.threads (opening_of program).shapes t)
      (ap (λ actions. steps_by actions replies) conforms.actions ∙ steps_are s.items)
      ((all_go_together program).each t j.budget replies some)

  turns : AllTakeTurns j
  turns t d within =
      let s = slice_index_or j.strands t d in
      let replies = replies_of s.items in
      let conforms = (sound.strands t d within).conforms in
      subst IsInTurn conforms.actions
      (outcome-in_turn (thread_outcome program t j.budget replies) ((all_keep_turns program).each t j.budget replies some))

pub collectives_hold : (program : Checked) → CollectivesHoldIn program
collectives_hold program = record {
  holds = λ j opening sound some.
      journals_hold.holds values_hold work_stays (opening_of program) (λ budget t. thread_outcome program t budget) j
      opening sound (together program j sound some) (turns program j sound some);
}
