-- Runs within what was asked for.
use Rattle.std.proofs.Common.{◌≡◌, ◌∙◌, ◌≤◌, ◌*◌, ℕ, List, sym, ap, subst}
use Rattle.typed_tree.specs.Programs.{Checked}
use Rattle.upc_values.specs.declared.journal.Journal.{Journal}
use Rattle.upc_task.specs.declared.limits.Limits.{Limits}
use Rattle.program_runs.specs.Picked.{IsRunByPicks}
use Rattle.outcomes.specs.Tally.{Listed}
use Rattle.outcomes.specs.Found.{IsFound}
use Rattle.upc_outcomes_words.specs.Values.{Asked, IsAllowed}
use Rattle.upc_outcomes.specs.Causes.{limits_of}

pub ticks : (a : Asked) (l : Limits) → l ≡ limits_of a → IsAllowed a → (1 ≤ l.budget) × (l.budget ≤ 1000000000000)
ticks a l e h =
    subst (λ (x : Limits). (1 ≤ x.budget) × (x.budget ≤ 1000000000000)) (sym e) (h.one_tick, h.ticks)

pub items : (a : Asked) (l : Limits) → l ≡ limits_of a → IsAllowed a
    → (1 ≤ l.actions) × (l.threads * l.actions ≤ 8388608)
items a l e h =
    subst (λ (x : Limits). (1 ≤ x.actions) × (x.threads * x.actions ≤ 8388608)) (sym e) (h.one_item, h.all_items)

pub same-threads : (a : Asked) (l : Limits) (n : ℕ) → l ≡ limits_of a → n ≡ a.threads → n ≡ l.threads
same-threads a l n e h = h ∙ sym (ap (λ (x : Limits). x.threads) e)

pub run-within : (a : Asked) (l : Limits) (c : Checked) (picks : List ℕ) (j : Journal) → l ≡ limits_of a
    → IsRunByPicks c l picks j → IsRunByPicks c (limits_of a) picks j
run-within a l c picks j e h = subst (λ (x : Limits). IsRunByPicks c x picks j) e h

pub found-within : (a : Asked) (l : Limits) (c : Checked) (schedules : List (List ℕ)) (list : List Listed)
    → l ≡ limits_of a → IsFound c l schedules list → IsFound c (limits_of a) schedules list
found-within a l c schedules list e h = subst (λ (x : Limits). IsFound c x schedules list) e h
