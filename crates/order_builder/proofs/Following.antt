-- Each entry of the history takes the place of the next commit of its thread.
use Rattle.std.proofs.Common.{◌≡◌, ℕ, ◌+◌, ◌<◌, ◌≤◌, ◌==◌, cond, List, [], ◌∷◌, ◌++◌, map, flat_map, length, get_or, set, slice_get, Some, refl, sym, ap, ◌∙◌, subst, append_assoc, append-nil, eq-eqb, eqb-true, inl, inr, arith}
use Rattle.std.proofs.lemmas.Bool.{cond_both, cond-true, cases_eq}
use Rattle.std.proofs.lemmas.List.{map-append, length-append, get_or-set_same, get_or-set_other, length-set, get_or_default}
use Rattle.std.proofs.lemmas.Grind.{flat_map-append}
use Rattle.upc_values.specs.declared.journal.Entry.{Entry}
use Rattle.upc_values.specs.declared.journal.Journal.{Journal}
use Rattle.upc_values.specs.Drain.{Commit, commit_of, entries_in, commits, entries_of}
use Rattle.upc_values.specs.Orders.{record_of, operations_at, placed}
use Rattle.upc_values.specs.Consistent.{FollowsBuffers}
use Rattle.upc_values.specs.Lists.{Each}
use Rattle.upc_values.proofs.Membership.{each-back}
use Rattle.upc_values.proofs.Walks.{entries_of-append, entries-own}
use Rattle.upc_values.proofs.Drained.{entry-at}
use Rattle.upc_values.proofs.Numbering.{counted, numbered-drained}
use Rattle.upc_values.proofs.Placement.{agrees-of, drains-of}
use Rattle.order_builder.specs.declared.names.Named.{Named}
use Rattle.order_builder.specs.declared.commits.Commits.{Commits}
use Rattle.order_builder.specs.layer.Commits.{named, no_commits, AreCommits, HasCommit, names_at, AreCursors}
use Rattle.order_builder.specs.code.Views.{ArePlaced}
use Rattle.order_builder.proofs.Flat.{has-commit, names-at}

-- a commit of the list is counted
counted-there : (e : Entry) (cs : List Commit) (k : ℕ) → slice_get (entries_in cs) k ≡ Some e → 1 ≤ counted e.index cs
counted-there e [] k h = cc
counted-there e (c ∷ cs) ℕ.zero h =
    let q : c.entry ≡ e = cc in
    let t : cond {A = ℕ} (c.entry.index == e.index) 1 0 ≡ 1 =
    cond-true (c.entry.index == e.index) 1 0 (eq-eqb c.entry.index e.index (ap (λ z. z.index) q)) in
    omega arith
counted-there e (c ∷ cs) (ℕ.suc k) h = let n = counted-there e cs k h in omega arith

-- the k-th commit is found by its number, where no other has it
pub record IsAt (e : Entry) (cs : List Commit) (k : ℕ) : Type 0 where
  pub within : k < length cs
  pub operations : (d : Commit) → (get_or cs k d).operations ≡ operations_at e.index cs

is-at : (e : Entry) (cs : List Commit) (k : ℕ) → slice_get (entries_in cs) k ≡ Some e → counted e.index cs ≤ 1 → IsAt e cs k
is-at e [] k h n = cc
is-at e (c ∷ cs) ℕ.zero h n =
    let q : c.entry ≡ e = cc in
    record {
      within = omega arith;
      operations = λ d.
          sym (cond-true (c.entry.index == e.index) c.operations (operations_at e.index cs) (eq-eqb c.entry.index e.index (ap (λ z. z.index) q)));
    }
is-at e (c ∷ cs) (ℕ.suc k) h n =
    let some = counted-there e cs k h in
    let rest = is-at e cs k h (omega arith) in
    record {
      within = let w = rest.within in omega arith;
      operations = λ d.
          cond_both (c.entry.index == e.index) c.operations (operations_at e.index cs)
          (λ z. (get_or cs k d).operations ≡ z)
          (λ t.
          let one : cond {A = ℕ} (c.entry.index == e.index) 1 0 ≡ 1 = cond-true (c.entry.index == e.index) 1 0 t in
          absurd (omega arith))
          (λ t. rest.operations d);
    }

module _ (j : Journal) (f : FollowsBuffers j) (all : List Commits) (are : AreCommits j all) where
  -- what the first entry that is left finds at the cursor of its thread
  pub record IsNext (e : Entry) (cursor : ℕ) : Type 0 where
    pub below : e.thread < j.threads
    pub has : HasCommit (get_or all e.thread no_commits) cursor
    pub names : names_at (get_or all e.thread no_commits) cursor ≡ map named (placed j e)

  is-next : (before left : List Entry) (e : Entry) → before ++ e ∷ left ≡ j.history → IsNext e (length (entries_of e.thread before))
  is-next before left e parts =
      let t = e.thread in
      let cs = commits t (record_of j t) in
      let n = length (entries_of t before) in
      let each : Each (λ z. z.thread < j.threads) (before ++ e ∷ left) =
      subst (Each (λ z. z.thread < j.threads)) (sym parts) f.below in
      let below : t < j.threads = (each-back (λ z. z.thread < j.threads) before (e ∷ left) each).0 in
      let entries : entries_of t (before ++ e ∷ left) ≡ entries_in cs = ap (entries_of t) parts ∙ drains-of j t f below in
      let once = (numbered-drained t (record_of j t) (agrees-of j t f below)).once e.index in
      let at = is-at e cs n (entry-at t before left e cs refl entries) (omega arith) in
      let held = are.each t below in
      record {
        below = below;
        has = has-commit (get_or all t no_commits) cs held n (commit_of e) at.within;
        names =
            names-at (get_or all t no_commits) cs held n (commit_of e) at.within
            ∙ ap (map named) (at.operations (commit_of e));
      }

  -- what the program reads there
  pub record Finds (cursors : List ℕ) (e : Entry) (cursor : ℕ) (of : Commits) : Type 0 where
    pub below : e.thread < j.threads
    pub is : cursor ≡ get_or cursors e.thread 0
    pub has : HasCommit of cursor
    pub names : names_at of cursor ≡ map named (placed j e)

  pub finds : (cursors : List ℕ) (before left : List Entry) (e : Entry) (cursor : ℕ) (of : Commits) → before ++ e ∷ left ≡ j.history → AreCursors j before cursors → cursor ≡ get_or cursors e.thread cursor → of ≡ get_or all e.thread of → Finds cursors e cursor of
  finds cursors before left e cursor of parts are_cursors at found =
      let m = is-next before left e parts in
      let n : IsNext e (get_or cursors e.thread 0) = subst (IsNext e) (sym (are_cursors.at e.thread m.below)) m in
      let below : e.thread < j.threads = n.below in
      let there : e.thread < length cursors = let m = are_cursors.many in omega arith in
      let here : e.thread < length all = let m = are.many in omega arith in
      let q : cursor ≡ get_or cursors e.thread 0 = at ∙ get_or_default cursors e.thread cursor 0 there in
      let r : of ≡ get_or all e.thread no_commits = found ∙ get_or_default all e.thread of no_commits here in
      record {
        below = below;
        is = q;
        has = subst (λ z. HasCommit z cursor) (sym r) (subst (HasCommit (get_or all e.thread no_commits)) (sym q) n.has);
        names = ap (λ z. names_at z cursor) r ∙ ap (λ k. names_at (get_or all e.thread no_commits) k) q ∙ n.names;
      }

  pub finds-placed : (names : List Named) (cursors : List ℕ) (now left : List Entry) (e : Entry) (cursor : ℕ) (of : Commits) → ArePlaced j now names cursors → now ≡ e ∷ left → cursor ≡ get_or cursors e.thread cursor → of ≡ get_or all e.thread of → Finds cursors e cursor of
  finds-placed names cursors now left e cursor of p steps at found =
      finds cursors p.before left e cursor of (ap (λ z. p.before ++ z) (sym steps) ∙ p.parts) p.cursors_are at found

-- at the beginning
pub cursors-none : (j : Journal) (cursors : List ℕ) → length cursors ≡ j.threads → ((t : ℕ) → get_or cursors t 0 ≡ 0) → AreCursors j [] cursors
cursors-none j cursors e h = record { many = e; at = λ t lt. h t }

-- one more entry
pub cursors-more : (j : Journal) (cursors : List ℕ) (before : List Entry) (e : Entry) → e.thread < j.threads → AreCursors j before cursors → AreCursors j (before ++ e ∷ []) (set cursors e.thread (get_or cursors e.thread 0 + 1))
cursors-more j cursors before e below c =
    let t = e.thread in
    let v = get_or cursors t 0 + 1 in
    record {
      many = length-set cursors t v ∙ c.many;
      at = λ u h.
          let more : length (entries_of u (before ++ e ∷ [])) ≡ length (entries_of u before) + length (entries_of u (e ∷ [])) =
          ap length (entries_of-append u before (e ∷ [])) ∙ length-append (entries_of u before) (entries_of u (e ∷ [])) in
          let old = c.at u h in
          elim (cases_eq u t) [
            | inl q ↦
                let one : length (entries_of u (e ∷ [])) ≡ 1 = ap length (entries-own u e (sym q)) in
                let there : get_or (set cursors t v) u 0 ≡ v =
                ap (λ k. get_or (set cursors t v) k 0) q ∙ get_or-set_same cursors t v 0 (let m = c.many in omega arith) in
                let same : get_or cursors t 0 ≡ get_or cursors u 0 = ap (λ k. get_or cursors k 0) (sym q) in
                omega arith
            | inr q ↦
                let none : length (entries_of u (e ∷ [])) ≡ 0 =
                cond_both (t == u) (e ∷ []) [] (λ z. length z ≡ 0) (λ h. absurd (q (sym (eqb-true t u h)))) (λ h. refl) in
                let there : get_or (set cursors t v) u 0 ≡ get_or cursors u 0 = get_or-set_other cursors t u v 0 q in
                omega arith
          ];
    }

-- the names so far, and those of one more entry
pub placed-more : (j : Journal) (names more : List Named) (cursors : List ℕ) (now left : List Entry) (e : Entry) (n : ℕ) → now ≡ e ∷ left → e.thread < j.threads → n ≡ get_or cursors e.thread 0 → more ≡ map named (placed j e) → ArePlaced j now names cursors → ArePlaced j left (names ++ more) (set cursors e.thread (n + 1))
placed-more j names more cursors now left e n steps below is k p =
    record {
      before = p.before ++ e ∷ [];
      parts = append_assoc p.before (e ∷ []) left ∙ ap (λ z. p.before ++ z) (sym steps) ∙ p.parts;
      names_are =
          ap (λ z. z ++ more) p.names_are ∙ ap (λ z. map named (flat_map (placed j) p.before) ++ z) k
          ∙ sym
          (ap (map named)
          (flat_map-append (placed j) p.before (e ∷ []) ∙ ap (λ z. flat_map (placed j) p.before ++ z) (append-nil (placed j e)))
          ∙ map-append named (flat_map (placed j) p.before) (placed j e));
      cursors_are =
          subst (λ m. AreCursors j (p.before ++ e ∷ []) (set cursors e.thread (m + 1))) (sym is)
          (cursors-more j cursors p.before e below p.cursors_are);
    }
