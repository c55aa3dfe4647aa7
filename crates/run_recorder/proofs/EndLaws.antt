-- Ends, each with its laws.
use Rattle.std.proofs.Common.{◌≡◌, ◌∙◌, List, [], ◌∷◌, ◌++◌, Some, refl, arith, decimal, codes}
use Rattle.upc_values.specs.declared.record.End.{End}
use Rattle.upc_values.specs.declared.record.End.TheVariants as end
use Rattle.upc_text.specs.declared.place.Place.{Place}
use Rattle.run_recorder_text.specs.Words.{Text, place_text, end_words}
use Rattle.run_recorder.specs.Ranges.{FitsPlace, FitsEnd}
use Rattle.run_recorder_parts.specs.layer.Readers.{Reader, give, field}
use Rattle.run_recorder_parts.specs.layer.Values.{place_parts_of, place_of, valued_of, fault_of}
use Rattle.run_recorder_parts.specs.layer.Values.{deadlocked_of, end_table}
use Rattle.run_recorder_parts.specs.layer.Values.{end_of}
use Rattle.run_recorder_parts.proofs.Bytes.{in_word, in_part, EachPasses, part_word, part_no_colon}
use Rattle.run_recorder.proofs.Forms.{IsRule, rule_field, then_takes, give_takes, then_again, Handles, tagged_takes}
use Rattle.run_recorder.proofs.Forms.{field_whole}
use Rattle.run_recorder.proofs.PartLaws.{part32, small}
use Rattle.run_recorder.proofs.ActionLaws.{◌&◌, n8, z32, rule_action}

abbrev place_words : Place → List Text
place_words p = decimal p.line ∷ decimal p.column ∷ []

abbrev IsPlace : List Text → Place → List Text → List Text → Type 0
IsPlace before p ws rest = (before ++ ws ≡ place_words p ++ rest) × FitsPlace p

place_rule : IsRule in_part place_parts_of place_words FitsPlace
place_rule = record {
  takes = then_takes part32 _ (IsPlace [])
      (λ l hl. then_takes part32 _ (IsPlace (decimal l ∷ []))
      (λ c hc. give_takes _ _ (λ rest. (refl, (hl, hc)))));
  again = λ p rest h. then_again part32 _ p.line _ h.0 ∙ then_again part32 _ p.column rest h.1;
  plain = λ p h. (small h.0, (small h.1, tt));
}

place : IsRule in_word (field place_of) (λ p. place_text p ∷ []) FitsPlace
place = rule_field in_word place_of place_text FitsPlace
    (field_whole 58 place_rule (λ p. omega arith) refl refl part_no_colon part_word)

abbrev IsEnd : List Text → End → List Text → List Text → Type 0
IsEnd before e ws rest = (before ++ ws ≡ end_words e ++ rest) × FitsEnd e

-- What the reader reads after this name is written so.
abbrev Handled : Text → Reader End → Type 0
Handled name r = (ws : List Text) (e : End) (rest : List Text) → r ws ≡ Some (e, rest) → IsEnd (name ∷ []) e ws rest

ended_ends : Handled (codes "ended") (valued_of end.Ended)
ended_ends = then_takes z32 _ (IsEnd (codes "ended" ∷ [])) (λ v hv. give_takes _ _ (λ rest. (refl, hv)))

faults : Handled (codes "fault") fault_of
faults = then_takes n8 _ (IsEnd (codes "fault" ∷ []))
    (λ c hc. then_takes place _ (IsEnd (codes "fault" ∷ decimal c ∷ []))
    (λ p hp. give_takes _ _ (λ rest. (refl, (hc, hp)))))

budgets : Handled (codes "budget") (give end.Budget)
budgets = give_takes _ (IsEnd (codes "budget" ∷ [])) (λ rest. (refl, tt))

full_records : Handled (codes "full") (give end.ActionsFull)
full_records = give_takes _ (IsEnd (codes "full" ∷ [])) (λ rest. (refl, tt))

exits : Handled (codes "exit") (valued_of end.Exit)
exits = then_takes z32 _ (IsEnd (codes "exit" ∷ [])) (λ v hv. give_takes _ _ (λ rest. (refl, hv)))

halts : Handled (codes "halted") (give end.Halted)
halts = give_takes _ (IsEnd (codes "halted" ∷ [])) (λ rest. (refl, tt))

deadlocks : Handled (codes "deadlocked") deadlocked_of
deadlocks = then_takes rule_action _ (IsEnd (codes "deadlocked" ∷ []))
    (λ a ha. give_takes _ _ (λ rest. (refl, ha)))

handles : Handles (IsEnd []) end_table
handles = ended_ends & faults & budgets & full_records & exits & halts & deadlocks & tt

end_again : (e : End) (rest : List Text) → FitsEnd e → end_of (end_words e ++ rest) ≡ Some (e, rest)
end_again (end.Ended v) rest h = then_again z32 _ v rest h
end_again (end.Fault c p) rest h = then_again n8 _ c _ h.0 ∙ then_again place _ p rest h.1
end_again end.Budget rest h = refl
end_again end.ActionsFull rest h = refl
end_again (end.Exit v) rest h = then_again z32 _ v rest h
end_again end.Halted rest h = refl
end_again (end.Deadlocked a) rest h = then_again rule_action _ a rest h

end_plain : (e : End) → FitsEnd e → EachPasses in_word (end_words e)
end_plain (end.Ended v) h = (refl, z32.plain v h)
end_plain (end.Fault c p) h = (refl, ((n8.plain c h.0).0, place.plain p h.1))
end_plain end.Budget h = (refl, tt)
end_plain end.ActionsFull h = (refl, tt)
end_plain (end.Exit v) h = (refl, z32.plain v h)
end_plain end.Halted h = (refl, tt)
end_plain (end.Deadlocked a) h = (refl, rule_action.plain a h)

pub rule_end : IsRule in_word end_of end_words FitsEnd
rule_end = record { takes = tagged_takes (IsEnd []) end_table handles; again = end_again; plain = end_plain }
