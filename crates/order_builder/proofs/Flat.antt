-- Commits in flat lists.
use Rattle.std.proofs.Common.{◌≡◌, ℕ, suc, ◌+◌, ◌-◌, ◌<◌, ◌==◌, List, [], ◌∷◌, ◌++◌, map, length, get_or, take, drop, refl, sym, ap, ◌∙◌, append-nil, eqb-true, inl, inr, arith}
use Rattle.std.proofs.lemmas.List.{map-append, length-map, length-append, take_more, drop_more, take-append-drop, take-append-le, get_or_append_left}
use Rattle.std.proofs.lemmas.List.Folds.{length-flat_map-take}
use Rattle.std.proofs.lemmas.Bool.{cond_both, cases_eq}
use Rattle.std.proofs.lemmas.Grind.{flat_map-append}
use Rattle.std.proofs.Math.Seq.{take-append_seam, drop-append_seam, take-length, get_or-append_seam}
use Rattle.upc_values.specs.Drain.{Commit}
use Rattle.order_builder.specs.declared.names.Named.{Named}
use Rattle.order_builder.specs.declared.commits.Commits.{Commits}
use Rattle.order_builder.specs.layer.Commits.{named, operations_in, AreFlat, Holds, begin_of, names_at, HasCommit}

-- a part of a list, between two others
middle : {X : Type 0} (xs ys zs : List X) (from to : ℕ) → from ≡ length xs → to ≡ length xs + length ys → take (to - from) (drop from (xs ++ (ys ++ zs))) ≡ ys
middle xs ys zs from to f t =
    let size : to - from ≡ length ys = omega arith in
    ap (λ n. take (to - from) (drop n (xs ++ (ys ++ zs)))) f
    ∙ ap (λ l. take (to - from) l) (drop-append_seam xs (ys ++ zs))
    ∙ ap (λ n. take n (ys ++ zs)) size
    ∙ take-append_seam ys zs

operations-append : (cs : List Commit) (c : Commit) → operations_in (cs ++ c ∷ []) ≡ operations_in cs ++ c.operations
operations-append cs c =
    flat_map-append (λ (z : Commit). z.operations) cs (c ∷ []) ∙ ap (λ z. operations_in cs ++ z) (append-nil c.operations)

-- none yet
pub flat-none : AreFlat [] [] []
flat-none = record { names_are = refl; many = refl; ends_are = λ k lt. absurd (omega arith) }

-- one more commit
pub flat-more : (names more : List Named) (ends : List ℕ) (cs : List Commit) (c : Commit) → more ≡ map named c.operations → AreFlat names ends cs → AreFlat (names ++ more) (ends ++ length (names ++ more) ∷ []) (cs ++ c ∷ [])
flat-more names more ends cs c is f =
    let all : names ++ more ≡ map named (operations_in (cs ++ c ∷ [])) =
    ap (λ z. z ++ more) f.names_are ∙ ap (λ z. map named (operations_in cs) ++ z) is
    ∙ sym (map-append named (operations_in cs) c.operations) ∙ ap (map named) (sym (operations-append cs c)) in
    let size = length (names ++ more) in
    record {
      names_are = all;
      many =
          length-append ends (size ∷ []) ∙ ap (λ n. n + 1) f.many ∙ sym (length-append cs (c ∷ []));
      ends_are = λ k lt.
          let whole : length (cs ++ c ∷ []) ≡ length cs + 1 = length-append cs (c ∷ []) in
          let same = f.many in
          elim (cases_eq k (length cs)) [
            | inl q ↦
                let here : get_or (ends ++ size ∷ []) k 0 ≡ size =
                ap (λ n. get_or (ends ++ size ∷ []) n 0) (q ∙ sym f.many) ∙ get_or-append_seam ends size [] 0 in
                let full : take (k + 1) (cs ++ c ∷ []) ≡ cs ++ c ∷ [] =
                ap (λ n. take n (cs ++ c ∷ [])) (let n : k + 1 ≡ length (cs ++ c ∷ []) = omega arith in n) ∙ take-length (cs ++ c ∷ []) in
                here ∙ ap length all ∙ length-map (operations_in (cs ++ c ∷ [])) named
                ∙ ap (λ l. length (operations_in l)) (sym full)
            | inr q ↦
                let below : k < length cs = omega arith in
                get_or_append_left ends (size ∷ []) 0 k (omega arith) ∙ f.ends_are k below
                ∙ ap (λ l. length (operations_in l)) (sym (take-append-le (k + 1) cs (c ∷ []) (omega arith)))
          ];
    }

module _ (kept : Commits) (cs : List Commit) (h : Holds kept cs) where
  -- where a commit begins
  begin-is : (k : ℕ) → k < length cs → begin_of kept k ≡ length (operations_in (take k cs))
  begin-is ℕ.zero lt = refl
  begin-is (ℕ.suc k) lt =
      let back : get_or kept.ends (suc k - 1) 0 ≡ length (operations_in (take (suc k) cs)) =
      ap (λ n. get_or kept.ends n 0) (let n : suc k - 1 ≡ k = omega arith in n) ∙ h.ends_are k (omega arith)
      ∙ ap (λ n. length (operations_in (take n cs))) (let n : k + 1 ≡ suc k = omega arith in n) in
      cond_both (suc k == 0) 0 (get_or kept.ends (suc k - 1) 0) (λ z. z ≡ length (operations_in (take (suc k) cs)))
      (λ t. let none : suc k ≡ 0 = eqb-true (suc k) 0 t in absurd (omega arith)) (λ t. back)

  -- where it ends
  end-is : (k : ℕ) (d : Commit) → k < length cs → get_or kept.ends k 0 ≡ length (operations_in (take k cs)) + length (get_or cs k d).operations
  end-is k d lt =
      h.ends_are k lt
      ∙ ap length (ap operations_in (take_more cs k d lt) ∙ operations-append (take k cs) (get_or cs k d))
      ∙ length-append (operations_in (take k cs)) (get_or cs k d).operations

  -- the program has this commit
  pub has-commit : (k : ℕ) (d : Commit) → k < length cs → HasCommit kept k
  has-commit k d lt =
      let begin = begin-is k lt in
      let end_ = end-is k d lt in
      let within = length-flat_map-take (λ (c : Commit). c.operations) cs k d lt in
      let many : length kept.names ≡ length (operations_in cs) =
      ap length h.names_are ∙ length-map (operations_in cs) named in
      record {
        within = let m = h.many in omega arith;
        ordered = omega arith;
        fits = omega arith;
      }

  -- and its operations
  pub names-at : (k : ℕ) (d : Commit) → k < length cs → names_at kept k ≡ map named (get_or cs k d).operations
  names-at k d lt =
      let front = operations_in (take k cs) in
      let here = (get_or cs k d).operations in
      let rest = operations_in (drop (k + 1) cs) in
      let parts : operations_in cs ≡ front ++ (here ++ rest) =
      ap operations_in (sym (take-append-drop k cs))
      ∙ flat_map-append (λ (z : Commit). z.operations) (take k cs) (drop k cs)
      ∙ ap (λ l. front ++ operations_in l) (drop_more cs k d lt) in
      let list : kept.names ≡ map named front ++ (map named here ++ map named rest) =
      h.names_are ∙ ap (map named) parts ∙ map-append named front (here ++ rest)
      ∙ ap (λ l. map named front ++ l) (map-append named here rest) in
      let from = begin_of kept k in
      let to = get_or kept.ends k 0 in
      ap (λ l. take (to - from) (drop from l)) list
      ∙ middle (map named front) (map named here) (map named rest) from to
      (begin-is k lt ∙ sym (length-map front named))
      (end-is k d lt ∙ ap (λ n. n + length here) (sym (length-map front named)) ∙ ap (λ n. length (map named front) + n) (sym (length-map here named)))
