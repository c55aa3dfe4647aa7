-- Marks at numbers.
use Rattle.std.proofs.Common.{◌≡◌, ◌≢◌, ℕ, ◌+◌, ◌<◌, Bool, true, false, List, [], ◌∷◌, ◌++◌, length, get_or, set, take, sym, ap, ◌∙◌, subst, inl, inr, arith}
use Rattle.std.proofs.lemmas.Bool.{cases_eq, false≢true}
use Rattle.std.proofs.lemmas.List.{take_more, length-set, get_or-set_same, get_or-set_other}
use Rattle.upc_values.specs.Lists.{Each, Has}
use Rattle.upc_values.proofs.Membership.{each-has, each-from, has-left, has-right, has-cases, pairs-insert}
use Rattle.upc_verify_orders.specs.code.Found.{AreApart, IsMarked}
use Rattle.upc_verify_orders.proofs.Taken.{has-get}

pub marked-none : (many : ℕ) (marks : List Bool) → length marks ≡ many → ((n : ℕ) → get_or marks n false ≡ false) → IsMarked many [] marks
marked-none many marks e h =
    record {
      length_is = e;
      apart = tt;
      only = λ n t. absurd (false≢true (sym (h n) ∙ t));
      has = λ n m. absurd m;
    }

-- a number that is marked already
pub apart-twice : (at : List ℕ) (i d : ℕ) → i < length at → AreApart at → Has (take i at) (get_or at i d) → ⊥
apart-twice [] i d lt h m = absurd (omega arith)
apart-twice (x ∷ at) ℕ.zero d lt h m = absurd m
apart-twice (x ∷ at) (ℕ.suc i) d lt h (inl e) = each-has (λ y. x ≢ y) at h.0 (get_or at i d) (has-get at i d (omega arith)) e
apart-twice (x ∷ at) (ℕ.suc i) d lt h (inr m) = apart-twice at i d (omega arith) h.1 m

module _ (many : ℕ) (at : List ℕ) (i d : ℕ) (marks : List Bool) (lt : i < length at) (old : IsMarked many (take i at) marks) where
  abbrev here : ℕ
  here = get_or at i d

  pub marked-twice : get_or marks here false ≡ true → AreApart at → ⊥
  marked-twice t h = apart-twice at i d lt h (old.only here t)

  pub marked-more : (new : List Bool) → here < many → get_or marks here false ≡ false → new ≡ set marks here true → IsMarked many (take (i + 1) at) new
  marked-more new within f is =
      let cut : take (i + 1) at ≡ take i at ++ here ∷ [] = take_more at i d lt in
      let inside : here < length marks = subst (λ n. here < n) (sym old.length_is) within in
      let apart : AreApart (take i at ++ here ∷ []) =
      pairs-insert (λ a b. a ≢ b) [] (take i at) (here ∷ []) (tt, tt) old.apart tt
      (each-from (λ a. Each (λ b. a ≢ b) (here ∷ [])) (take i at)
      (λ a m. ((λ e. false≢true (sym f ∙ ap (λ n. get_or marks n false) (sym e) ∙ old.has a m)), tt))) in
      record {
        length_is = ap length is ∙ length-set marks here true ∙ old.length_is;
        apart = subst AreApart (sym cut) apart;
        only = λ n t.
            subst (λ (l : List ℕ). Has l n) (sym cut)
            (elim (cases_eq n here) [
              | inl e ↦ has-right (take i at) (here ∷ []) n (inl (sym e))
              | inr x ↦
                  has-left (take i at) (here ∷ []) n
                  (old.only n (sym (ap (λ l. get_or l n false) is ∙ get_or-set_other marks here n true false x) ∙ t))
            ]);
        has = λ n m.
            ap (λ l. get_or l n false) is
            ∙ elim (cases_eq n here) [
              | inl e ↦ ap (λ k. get_or (set marks here true) k false) e ∙ get_or-set_same marks here true false inside
              | inr x ↦
                  get_or-set_other marks here n true false x
                  ∙ elim (has-cases (take i at) (here ∷ []) n (subst (λ (l : List ℕ). Has l n) cut m)) [
                    | inl k ↦ old.has n k
                    | inr k ↦ elim k [ inl e ↦ absurd (x (sym e)) | inr z ↦ absurd z ]
                  ]
            ];
      }
