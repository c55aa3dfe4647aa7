-- What the threads want, as the program has it.
use Rattle.std.proofs.Common.{◌≡◌, ℕ, MatchOption, List, Option, None, Bor, length, map, get_or, sym, ap, subst, ◌∙◌}
use lib.ListN.{get_or-map}
use Rattle.std.proofs.lemmas.List.{length-map}
use Rattle.std.specs.Option.{option_copied}
use Rattle.upc_values.specs.declared.action.Action.{Action}
use Rattle.upc_values.specs.declared.journal.Journal.{Journal}
use Rattle.upc_values.specs.Openings.{Opening}
use Rattle.upc_values.specs.Orders.{record_of}
use Rattle.upc_values.specs.Outcomes.{wanted}
use Rattle.upc_values.specs.Strands.{StallsStand}
use Rattle.upc_verify_parts.specs.Parts.{StallsHold, FailsFirst, HoldsOfEach}
use Rattle.upc_verify_stalls.specs.layer.Wants.{want_of}
use Rattle.upc_verify_judge.specs.declared.meant.Meant.{Meant}
use Rattle.upc_verify_judge.specs.layer.Meanings.{none_meant, outcome_in}

abbrev want : Meant → Option Action
want m = wanted m.«end»

-- as many as the sources
pub wants-many : (wants : List (Option (Bor Action))) (meant : List Meant) → map option_copied wants ≡ map want meant
    → length wants ≡ length meant
wants-many wants meant e = sym (length-map wants option_copied) ∙ ap length e ∙ length-map meant want

-- each is that of its thread's source
wants-are : (wants : List (Option (Bor Action))) (meant : List Meant) → map option_copied wants ≡ map want meant
    → want_of wants ≡ (λ t. wanted (outcome_in meant t).«end»)
wants-are wants meant e = λ i t. want-at t i
  where
    want-at : (t : ℕ) → want_of wants t ≡ wanted (outcome_in meant t).«end»
    want-at t = sym (get_or-map option_copied wants t None) ∙ ap (λ l. get_or l t None) e ∙ get_or-map want meant t none_meant

pub wants-stand : (j : Journal) (meant : List Meant) (wants : List (Option (Bor Action))) → map option_copied wants ≡ map want meant
    → HoldsOfEach j.threads (λ t. StallsStand (wanted (outcome_in meant t).«end») (record_of j t))
    → HoldsOfEach j.threads (λ t. StallsStand (want_of wants t) (record_of j t))
wants-stand j meant wants e h =
    subst (λ (f : ℕ → Option Action). HoldsOfEach j.threads (λ t. StallsStand (f t) (record_of j t)))
    (sym (wants-are wants meant e)) h

-- What is found of the Stalls.
abbrev StallsFound : Opening → Journal → (ℕ → Option Action) → ℕ → Option ℕ → Type 0
StallsFound o j f n r =
    MatchOption r (HoldsOfEach n (λ t. StallsHold o j (f t) t)) (FailsFirst n (λ t. StallsHold o j (f t) t))

pub wants-found : (p o : Opening) (j : Journal) (meant : List Meant) (wants : List (Option (Bor Action)))
    → map option_copied wants ≡ map want meant → p ≡ o → j.threads ≡ o.threads → (r : Option ℕ)
    → StallsFound p j (want_of wants) j.threads r
    → StallsFound o j (λ t. wanted (outcome_in meant t).«end») o.threads r
wants-found p o j meant wants e same threads r h =
    subst (λ n. StallsFound o j (λ t. wanted (outcome_in meant t).«end») n r) threads
    (subst (λ (f : ℕ → Option Action). StallsFound o j f j.threads r) (wants-are wants meant e)
    (subst (λ (q : Opening). StallsFound q j (want_of wants) j.threads r) same h))
