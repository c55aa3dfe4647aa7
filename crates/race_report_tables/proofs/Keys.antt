-- Channels by keys, and their places.
use Rattle.std.proofs.Common.{◌≡◌, ℕ, ◌+◌, ◌<◌, ◌==◌, ◌&&◌, Bool, true, false, cond, List, [], ◌∷◌, ◌++◌, length, set, Option, Some, None, refl, sym, ap, ◌∙◌, inl, inr, arith}
use Rattle.std.proofs.lemmas.Bool.{cases_Bool, cond-true, cond-false, false≢true}
use Rattle.std.proofs.lemmas.List.{get_or-set_same, get_or-set_other, get_or_append_left, get_or_at}
use Rattle.race_report_clocks.specs.declared.channel.Channel.{Channel}
use Rattle.race_report_clocks.specs.declared.channel.Channel.TheVariants as over
use Rattle.race_report_clocks.specs.layer.Channels.{same_channel}
use Rattle.race_report_clocks.proofs.Holding.{channel-is, channel-itself}
use Rattle.race_report_tables.specs.declared.places.Places.{Places}
use Rattle.race_report_tables.specs.layer.Places.{key_of, same_key, place_of, member_at, ArePlaced}

and-last : (b : Bool) → (b && (true && true)) ≡ b
and-last true = refl
and-last false = refl

-- keys are the same just where channels are
pub same-key : (k h : Channel) → same_key (key_of k) (key_of h) ≡ same_channel k h
same-key (over.Phase n) (over.Phase m) = and-last (n == m)
same-key (over.Lock n) (over.Lock m) = and-last (n == m)
same-key (over.Cell l) (over.Cell k) = refl
same-key (over.Phase n) (over.Lock m) = refl
same-key (over.Phase n) (over.Cell m) = refl
same-key (over.Lock n) (over.Phase m) = refl
same-key (over.Lock n) (over.Cell m) = refl
same-key (over.Cell n) (over.Phase m) = refl
same-key (over.Cell n) (over.Lock m) = refl

no-some : (i : ℕ) → ◌≡◌ {A = Option ℕ} None (Some i) → ⊥
no-some i e = absurd cc

some-is : (i n : ℕ) → Some i ≡ Some n → i ≡ n
some-is i n e = cc

-- no channel has a place
pub placed-none : (p : Places) (n : ℕ) → ((k : Channel) → place_of p k ≡ None) → ArePlaced p n
placed-none p n h =
    record {
      within = λ k i e. absurd (no-some i (sym (h k) ∙ e));
      apart = λ k g i e f. absurd (no-some i (sym (h k) ∙ e));
    }

module _ (p q : Places) (c : Channel) (n : ℕ) (are : ArePlaced p n)
    (new : (k : Channel) → place_of q k ≡ cond (same_channel c k) (Some n) (place_of p k)) where
  -- what has a place is the new one at the end, or had it before
  here : (k : Channel) (i : ℕ) → place_of q k ≡ Some i → same_channel c k ≡ true → (c ≡ k) × (i ≡ n)
  here k i e t = (channel-is c k t, some-is i n (sym e ∙ new k ∙ cond-true (same_channel c k) (Some n) (place_of p k) t))

  there : (k : Channel) (i : ℕ) → place_of q k ≡ Some i → same_channel c k ≡ false → place_of p k ≡ Some i
  there k i e t = sym (cond-false (same_channel c k) (Some n) (place_of p k) t) ∙ sym (new k) ∙ e

  below : (k : Channel) (i : ℕ) → place_of q k ≡ Some i → i < n + 1
  below k i e =
      elim (cases_Bool (same_channel c k)) [
        | inl t ↦ let h : i ≡ n = (here k i e t).1 in omega arith
        | inr t ↦ let h : i < n = are.within k i (there k i e t) in omega arith
      ]

  alone : (k h : Channel) (i : ℕ) → place_of q k ≡ Some i → place_of q h ≡ Some i → k ≡ h
  alone k h i e f =
      elim (cases_Bool (same_channel c k)) [
        | inl t ↦ elim (cases_Bool (same_channel c h)) [
          | inl s ↦ sym (here k i e t).0 ∙ (here h i f s).0
          | inr s ↦
              let a : i ≡ n = (here k i e t).1 in
              let b : i < n = are.within h i (there h i f s) in
              absurd (omega arith)
        ]
        | inr t ↦ elim (cases_Bool (same_channel c h)) [
          | inl s ↦
              let a : i ≡ n = (here h i f s).1 in
              let b : i < n = are.within k i (there k i e t) in
              absurd (omega arith)
          | inr s ↦ are.apart k h i (there k i e t) (there h i f s)
        ]
      ]

  -- one more channel has a place, at the end
  pub placed-more : ArePlaced q (n + 1)
  placed-more = record { within = below; apart = alone }

  kept : {X : Type 0} (d : X) (xs : List X) → length xs ≡ n → (k : Channel) (o : Option ℕ) → place_of p k ≡ o
      → member_at d (xs ++ d ∷ []) o ≡ member_at d xs o
  kept d xs many k None e = refl
  kept d xs many k (Some i) e =
      get_or_append_left xs (d ∷ []) d i (let h : i < n = are.within k i e in omega arith)

  -- where the member there is one that stands for a missing one, no channel has another member than before
  pub member-opened : {X : Type 0} (d : X) (xs : List X) → length xs ≡ n → place_of p c ≡ None → (k : Channel)
      → member_at d (xs ++ d ∷ []) (place_of q k) ≡ member_at d xs (place_of p k)
  member-opened d xs many none k =
      elim (cases_Bool (same_channel c k)) [
        | inl t ↦
            ap (member_at d (xs ++ d ∷ [])) (new k ∙ cond-true (same_channel c k) (Some n) (place_of p k) t)
            ∙ get_or_at xs d [] d n many
            ∙ sym (ap (member_at d xs) (ap (place_of p) (sym (channel-is c k t)) ∙ none))
        | inr t ↦
            ap (member_at d (xs ++ d ∷ [])) (new k ∙ cond-false (same_channel c k) (Some n) (place_of p k) t)
            ∙ kept d xs many k (place_of p k) refl
      ]

-- the member of one channel is another one
module _ {X : Type 0} (d : X) (p : Places) (xs : List X) (c : Channel) (i : ℕ) (y : X) (are : ArePlaced p (length xs))
    (at : place_of p c ≡ Some i) where
  other : (k : Channel) → same_channel c k ≡ false → (o : Option ℕ) → place_of p k ≡ o → member_at d (set xs i y) o ≡ member_at d xs o
  other k t None e = refl
  other k t (Some n) e =
      get_or-set_other xs i n y d
      (λ q. false≢true
      (sym t ∙ ap (λ z. same_channel c z) (sym (are.apart c k i at (e ∙ ap (λ z. Some z) q))) ∙ channel-itself c))

  pub member-set : (k : Channel) → member_at d (set xs i y) (place_of p k) ≡ cond (same_channel c k) y (member_at d xs (place_of p k))
  member-set k =
      elim (cases_Bool (same_channel c k)) [
        | inl t ↦
            ap (member_at d (set xs i y)) (ap (place_of p) (sym (channel-is c k t)) ∙ at)
            ∙ get_or-set_same xs i y d (are.within c i at)
            ∙ sym (cond-true (same_channel c k) y (member_at d xs (place_of p k)) t)
        | inr t ↦
            other k t (place_of p k) refl ∙ sym (cond-false (same_channel c k) y (member_at d xs (place_of p k)) t)
      ]
