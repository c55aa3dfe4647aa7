-- What threads' sources come to, one thread more, and what the meaning of every program keeps of them.
use Rattle.std.proofs.Common.{◌≡◌, ℕ, ◌+◌, ◌<◌, ◌≤◌, List, [], ◌∷◌, ◌++◌, length, get_or, sym, ap, subst, ◌∙◌, inl, inr, arith}
use Rattle.std.proofs.lemmas.Bool.{cases_eq}
use Rattle.std.proofs.lemmas.List.{get_or_push, get_or_append_left}
use Rattle.upc_values.specs.declared.journal.Journal.{Journal}
use Rattle.upc_values.specs.Outcomes.{Outcome}
use Rattle.upc_values.specs.Records.{replies_of}
use Rattle.upc_values.specs.Orders.{record_of}
use Rattle.typed_tree.specs.Programs.{Checked}
use Rattle.thread_steps.specs.layer.Fronts.{IsInTurn}
use Rattle.source_meaning.proofs.InTurn.{all_keep_turns}
use Rattle.collective_laws.proofs.InTurn.{outcome-in_turn}
use Rattle.upc_verify_judge.specs.declared.meant.Meant.{Meant}
use Rattle.upc_verify_judge.specs.layer.Meanings.{none_meant, outcome_of, outcome_in}
use Rattle.upc_verify.specs.Verdicts.{meaning}
use Rattle.upc_verify.specs.code.Meanings.{AreMeant}

pub meant-more : (before after : List Meant) (one : Meant) (n : ℕ) (said : ℕ → Outcome) → after ≡ before ++ one ∷ []
    → length before ≡ n → ((t : ℕ) → t < n → outcome_in before t ≡ said t) → outcome_of one ≡ said n
    → (t : ℕ) → t < n + 1 → outcome_in after t ≡ said t
meant-more before after one n said is many each here t lt =
    elim (cases_eq t n) [
      | inl q ↦
          ap outcome_of (ap (λ l. get_or l t none_meant) is ∙ get_or_push before one none_meant t (many ∙ sym q)) ∙ here
          ∙ ap said (sym q)
      | inr other ↦
          ap outcome_of (ap (λ l. get_or l t none_meant) is ∙ get_or_append_left before (one ∷ []) none_meant t (omega arith))
          ∙ each t (omega arith)
    ]

-- each thread notifies and waits in turn
pub meant-in_turn : (program : Checked) (j : Journal) (list : List Meant) → 1 ≤ j.budget → AreMeant program j list
    → (t : ℕ) → t < program.threads → IsInTurn (outcome_in list t).actions
meant-in_turn program j list some h t lt =
    let replies = replies_of (record_of j t) in
    subst (λ (o : Outcome). IsInTurn o.actions) (sym (h.each t lt))
    (outcome-in_turn (meaning program j.budget t replies) ((all_keep_turns program).each t j.budget replies some))
