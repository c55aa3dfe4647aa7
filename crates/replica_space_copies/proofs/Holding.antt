-- What stands in a copy after a message comes to it.
use Rattle.std.proofs.Common.{◌≡◌, ℕ, ◌+◌, ◌<◌, ◌≤◌, ◌==◌, arith, ◌&&◌, true, false, not, cond, List, Some, sym, ap, ◌∙◌, inl, inr, eq-eqb}
use Rattle.std.proofs.lemmas.Bool.{cases_eq, cases_Bool, ne_eqb, cond-true, cond-false, and_left, and_from, and_right}
use Rattle.std.specs.Map.{lookup}
use Rattle.block_layout.specs.declared.place.Loc.{Loc}
use Rattle.upc_values.specs.Scalars.{same_loc}
use Rattle.upc_values.proofs.Sameness.{same_loc-true}
use Rattle.replica_space.specs.declared.message.Message.{Message}
use Rattle.replica_space.specs.Spaces.{is_behind, with_mail, with_message}
use Rattle.replica_space_copies.specs.declared.held.Key.{Key}
use Rattle.replica_space_copies.specs.layer.Copies.{same_key, key_of, HeldState, held_at}

turned : (a b : ℕ) → (a == b) ≡ (b == a)
turned a b =
    elim (cases_eq a b) [
      | inl e ↦ eq-eqb a b e ∙ sym (eq-eqb b a (sym e))
      | inr e ↦ ne_eqb a b e ∙ sym (ne_eqb b a (λ k. e (sym k)))
    ]

pub put-at : (new old : List (Key × Message)) (k : Key) (h t : ℕ) (m : Message) (l : Loc) → k ≡ key_of h m.loc
    → ((q : Key) → lookup (same_key q) new ≡ cond (same_key k q) (Some m) (lookup (same_key q) old))
    → lookup (same_key (key_of t l)) new ≡ cond ((t == h) && same_loc m.loc l) (Some m) (lookup (same_key (key_of t l)) old)
put-at new old k h t m l e u =
    let was = lookup (same_key (key_of t l)) old in
    u (key_of t l) ∙ ap (λ q. cond (same_key q (key_of t l)) (Some m) was) e
    ∙ ap (λ b. cond (b && same_loc m.loc l) (Some m) was) (turned h t)

-- a message that no later one keeps out
pub come_at : (h t : ℕ) (m : Message) (l : Loc) (o : HeldState) → is_behind m (held_at o h m.loc) ≡ false
    → cond ((t == h) && same_loc m.loc l) (Some m) (held_at o t l) ≡ cond (t == h) (with_mail m l (held_at o t l)) (held_at o t l)
come_at h t m l o e =
    elim (cases_eq t h) [
      | inr q ↦
          cond-false ((t == h) && same_loc m.loc l) (Some m) (held_at o t l) (and_left (t == h) (same_loc m.loc l) (ne_eqb t h q))
          ∙ sym (cond-false (t == h) (with_mail m l (held_at o t l)) (held_at o t l) (ne_eqb t h q))
      | inl q ↦
          ap (λ b. cond (b && same_loc m.loc l) (Some m) (held_at o t l)) (eq-eqb t h q)
          ∙ elim (cases_Bool (same_loc m.loc l)) [
            | inl s ↦
                let free : not (is_behind m (held_at o t l)) ≡ true =
                ap not (ap (λ u. is_behind m (held_at o u l)) q ∙ ap (λ x. is_behind m (held_at o h x)) (sym (same_loc-true m.loc l s)) ∙ e) in
                cond-true (same_loc m.loc l) (Some m) (held_at o t l) s
                ∙ sym (cond-true (same_loc m.loc l && not (is_behind m (held_at o t l))) (Some m) (held_at o t l)
                (and_from (same_loc m.loc l) (not (is_behind m (held_at o t l))) s free))
            | inr s ↦
                cond-false (same_loc m.loc l) (Some m) (held_at o t l) s
                ∙ sym (cond-false (same_loc m.loc l && not (is_behind m (held_at o t l))) (Some m) (held_at o t l)
                (and_left (same_loc m.loc l) (not (is_behind m (held_at o t l))) s))
          ]
          ∙ sym (cond-true (t == h) (with_mail m l (held_at o t l)) (held_at o t l) (eq-eqb t h q))
    ]

-- a message that a later one keeps out
pub stay_at : (h t : ℕ) (m : Message) (l : Loc) (o : HeldState) → is_behind m (held_at o h m.loc) ≡ true
    → held_at o t l ≡ cond (t == h) (with_mail m l (held_at o t l)) (held_at o t l)
stay_at h t m l o e =
    elim (cases_eq t h) [
      | inr q ↦ sym (cond-false (t == h) (with_mail m l (held_at o t l)) (held_at o t l) (ne_eqb t h q))
      | inl q ↦
          elim (cases_Bool (same_loc m.loc l)) [
            | inl s ↦
                let free : not (is_behind m (held_at o t l)) ≡ false =
                ap not (ap (λ u. is_behind m (held_at o u l)) q ∙ ap (λ x. is_behind m (held_at o h x)) (sym (same_loc-true m.loc l s)) ∙ e) in
                sym (cond-false (same_loc m.loc l && not (is_behind m (held_at o t l))) (Some m) (held_at o t l)
                (and_right (same_loc m.loc l) (not (is_behind m (held_at o t l))) free))
            | inr s ↦
                sym (cond-false (same_loc m.loc l && not (is_behind m (held_at o t l))) (Some m) (held_at o t l)
                (and_left (same_loc m.loc l) (not (is_behind m (held_at o t l))) s))
          ]
          ∙ sym (cond-true (t == h) (with_mail m l (held_at o t l)) (held_at o t l) (eq-eqb t h q))
    ]

-- a message is put into one more copy
pub each-done : (new now old : HeldState) (h : ℕ) (m : Message)
    → ((t : ℕ) (l : Loc) → held_at new t l ≡ cond ((t == h) && same_loc m.loc l) (Some m) (held_at now t l))
    → ((t : ℕ) (l : Loc) → t < h → held_at now t l ≡ with_message m l (held_at old t l))
    → ((t : ℕ) (l : Loc) → h ≤ t → held_at now t l ≡ held_at old t l)
    → (t : ℕ) (l : Loc) → t < h + 1 → held_at new t l ≡ with_message m l (held_at old t l)
each-done new now old h m put done left t l lt =
    put t l
    ∙ elim (cases_eq t h) [
      | inl e ↦
          ap (λ b. cond (b && same_loc m.loc l) (Some m) (held_at now t l)) (eq-eqb t h e)
          ∙ ap (with_message m l) (left t l (omega arith))
      | inr e ↦
          cond-false ((t == h) && same_loc m.loc l) (Some m) (held_at now t l) (and_left (t == h) (same_loc m.loc l) (ne_eqb t h e))
          ∙ done t l (omega (arith, λ (r : t ≡ h). e r))
    ]

pub each-left : (new now old : HeldState) (h : ℕ) (m : Message)
    → ((t : ℕ) (l : Loc) → held_at new t l ≡ cond ((t == h) && same_loc m.loc l) (Some m) (held_at now t l))
    → ((t : ℕ) (l : Loc) → h ≤ t → held_at now t l ≡ held_at old t l)
    → (t : ℕ) (l : Loc) → h + 1 ≤ t → held_at new t l ≡ held_at old t l
each-left new now old h m put left t l le =
    put t l
    ∙ cond-false ((t == h) && same_loc m.loc l) (Some m) (held_at now t l) (and_left (t == h) (same_loc m.loc l) (ne_eqb t h (λ r. absurd (omega arith))))
    ∙ left t l (omega arith)
