-- What an outcome says of a source.
use Rattle.std.proofs.Common.{◌≡◌, ℕ, List, Option, Some, None, refl, sym, ap, subst}
use Rattle.upc_text.specs.declared.place.Refusal.{Refusal}
use Rattle.upc_text.specs.declared.place.Code.TheVariants.{Typing, Limit}
use Rattle.upc_lexer.specs.Numbers.{NumbersFit}
use Rattle.upc_tree.specs.Unit.{External, tokens_of}
use Rattle.typed_tree.specs.Scopes.{begin}
use Rattle.typing_rules.specs.Faults.{Fault, first_fault}
use Rattle.typing_rules.proofs.FirstFault.{all_meet, is_first}
use Rattle.upc_checker.specs.Units.{setting, walk_unit, unit_nodes}
use Rattle.upc_checker.specs.Limits.{Passed, unit_passed}
use Rattle.upc_checker.specs.Outcomes.{Accepted, Refused, outcome_by, outcome}
use Rattle.typed_tree.specs.Programs.{Checked, without_targets}
use Rattle.upc_checker.specs.code.Accepted.{IsAccepted}
use Rattle.upc_checker.specs.code.Causes.{IsWellTyped, HasCause, breaks_a_rule, passes_a_limit}

pub accepted_by : (o : Option Fault) (l : Option Passed) (c x : Checked) → outcome_by o l c ≡ Accepted x → (o ≡ None) × (l ≡ None) × (c ≡ x)
accepted_by (Some f) l c x h = absurd cc
accepted_by None (Some l) c x h = absurd cc
accepted_by None None c x h = (refl, refl, cc)

pub accepted : (names : List (List ℕ)) (threads : ℕ) (unit : List External) (x : Checked) → outcome names threads unit ≡ Accepted x → IsWellTyped names threads unit x
accepted names threads unit x h =
    let w = walk_unit (setting names threads unit) unit begin in
    let c : Checked = record { threads = threads; structs = without_targets w.state.structs; objects = w.value.objects; functions = w.value.functions } in
    let p = accepted_by (first_fault (unit_nodes names threads unit)) (unit_passed names threads unit) c x h in
    record {
      rules = all_meet (unit_nodes names threads unit) p.0;
      limits = p.1;
      threads = ap (λ (y : Checked). y.threads) (sym p.2);
      structs = ap (λ (y : Checked). y.structs) (sym p.2);
      objects = ap (λ (y : Checked). y.objects) (sym p.2);
      functions = ap (λ (y : Checked). y.functions) (sym p.2);
    }

-- What is accepted of a source whose numbers are in range.
pub is_accepted : (names : List (List ℕ)) (threads : ℕ) (unit : List External) (x : Checked) → NumbersFit (tokens_of unit) → outcome names threads unit ≡ Accepted x → IsAccepted x
is_accepted names threads unit x numbers h = record {
  names = names;
  unit = unit;
  numbers = numbers;
  accepted = subst (λ (asked : ℕ). outcome names asked unit ≡ Accepted x) (sym (accepted names threads unit x h).threads) h;
}

module _ (names : List (List ℕ)) (threads : ℕ) (unit : List External) (r : Refusal) where
  refused_by : (o : Option Fault) (l : Option Passed) (c : Checked) → first_fault (unit_nodes names threads unit) ≡ o → unit_passed names threads unit ≡ l → outcome_by o l c ≡ Refused r → HasCause names threads unit r
  refused_by (Some f) l c e g h = let i : r ≡ record { place = f.at; code = Typing f.rule } = cc in breaks_a_rule f (is_first (unit_nodes names threads unit) f e) i
  refused_by None (Some l) c e g h = let i : r ≡ record { place = l.at; code = Limit l.limit } = cc in passes_a_limit l (all_meet (unit_nodes names threads unit) e) g i
  refused_by None None c e g h = absurd cc

  pub refused : outcome names threads unit ≡ Refused r → HasCause names threads unit r
  refused h =
      let w = walk_unit (setting names threads unit) unit begin in
      let c : Checked = record { threads = threads; structs = without_targets w.state.structs; objects = w.value.objects; functions = w.value.functions } in
      refused_by (first_fault (unit_nodes names threads unit)) (unit_passed names threads unit) c refl refl h
