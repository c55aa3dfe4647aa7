-- Items that empty the buffer before them: meets, notifies and waits.
use Rattle.std.proofs.Common.{◌≡◌, ℕ, ◌+◌, Bool, true, false, cond, List, [], ◌∷◌, ◌++◌, refl, sym, ap, ◌∙◌, subst}
use Rattle.std.proofs.Common.{append-nil, arith}
use Rattle.std.specs.List.{count_by}
use Rattle.std.proofs.lemmas.Bool.{false≢true}
use Rattle.upc_values.specs.declared.action.Action.{Action}
use Rattle.upc_values.specs.declared.action.Action.TheVariants as act
use Rattle.upc_values.specs.declared.action.Reply.{Reply}
use Rattle.upc_values.specs.declared.record.Item.{Item}
use Rattle.upc_values.specs.declared.record.Item.TheVariants.{Did, Stall}
use Rattle.upc_values.specs.declared.journal.Entry.{Entry}
use Rattle.upc_values.specs.Lists.{Each}
use Rattle.upc_values.specs.Records.{actions_of}
use Rattle.upc_values.specs.Drain.{commit_of, entries_in, Walk, emptied, passed, stepped, walked_from, entry_of}
use Rattle.collective_laws_words.specs.layer.Steps.{Step, steps_in}
use Rattle.collective_laws_histories.proofs.Lists.{head_or, tail_of, count-append, count-cons, count-yes, count-none}
use Rattle.collective_laws_histories.proofs.Writing.{entries-append}
use Rattle.collective_laws_histories.proofs.Walking.{waiting, out, Goes, goes-stepped}

-- The action is a meet, a notify or a wait.
abbrev pub is_sync : Action → Bool
is_sync (act.Meet c args) = true
is_sync (act.Notify m) = true
is_sync (act.Wait m) = true
is_sync a = false

pub sync-stepped : (t : ℕ) (w : Walk) (a : Action) (r : Reply) → is_sync a ≡ true
    → stepped t w (Did a r) ≡ passed (entry_of t w.next a r) (emptied w)
sync-stepped t w (act.Meet c args) r h = refl
sync-stepped t w (act.Notify m) r h = refl
sync-stepped t w (act.Wait m) r h = refl
sync-stepped t w a r h = absurd (false≢true h)

pub walked-append : (t : ℕ) (w : Walk) (xs ys : List Item)
    → walked_from t w (xs ++ ys) ≡ walked_from t (walked_from t w xs) ys
walked-append t w [] ys = refl
walked-append t w (x ∷ xs) ys = walked-append t (stepped t w x) xs ys

pub steps-append : (xs ys : List Item) → steps_in (xs ++ ys) ≡ steps_in xs ++ steps_in ys
steps-append [] ys = refl
steps-append (Did a r ∷ xs) ys = ap (λ l. record { action = a; reply = r } ∷ l) (steps-append xs ys)
steps-append (Stall ∷ xs) ys = steps-append xs ys

pub actions-append : (xs ys : List Item) → actions_of (xs ++ ys) ≡ actions_of xs ++ actions_of ys
actions-append [] ys = refl
actions-append (Did a r ∷ xs) ys = ap (λ l. a ∷ l) (actions-append xs ys)
actions-append (Stall ∷ xs) ys = actions-append xs ys

-- Two walks that have emitted the same, with nothing that waits in the second.
pub record Settled (es : List Entry) (v : Walk) : Type 0 where
  pub is : out v ≡ es
  pub none : v.pending ≡ []

settled-emptied : (w : Walk) (es : List Entry) → Settled es w → Settled es (emptied w)
settled-emptied w es h = record {
  is = entries-append w.emitted w.pending
      ∙ ap (λ z. out w ++ entries_in z) h.none ∙ append-nil (out w) ∙ h.is;
  none = refl;
}

idle : (t : ℕ) (w : Walk) (xs : List Item) (es : List Entry) → Settled es w → steps_in xs ≡ []
    → Settled es (walked_from t w xs)
idle t w [] es h e = h
idle t w (Stall ∷ xs) es h e = idle t (emptied w) xs es (settled-emptied w es h) e
idle t w (Did a r ∷ xs) es h e = absurd (not_nil (record { action = a; reply = r }) (steps_in xs) e)
  where
    not_nil : (s : Step) (l : List Step) → s ∷ l ≡ [] → ⊥
    not_nil s l q = cc

pub sync-settled : (t : ℕ) (w : Walk) (a : Action) (r : Reply) → is_sync a ≡ true
    → Settled ((out w ++ waiting w) ++ entry_of t w.next a r ∷ []) (stepped t w (Did a r))
sync-settled t w a r h =
    let e = entry_of t w.next a r in
    subst (Settled ((out w ++ waiting w) ++ e ∷ [])) (sym (sync-stepped t w a r h))
    (record {
      is = entries-append (emptied w).emitted (commit_of e ∷ [])
          ∙ ap (λ z. z ++ e ∷ []) (entries-append w.emitted w.pending);
      none = refl;
    })

-- The entry of a step.
pub record IsOf (s : Step) (e : Entry) : Type 0 where
  pub action : e.action ≡ s.action
  pub reply : e.reply ≡ s.reply

-- Items of one such step.
pub sync-walked : (t : ℕ) (w : Walk) (items : List Item) (s : Step) → is_sync s.action ≡ true → steps_in items ≡ s ∷ []
    → (e : Entry) × IsOf s e × Settled ((out w ++ waiting w) ++ e ∷ []) (walked_from t w items)
sync-walked t w [] s h q = absurd (not_nil q)
  where
    not_nil : [] ≡ s ∷ [] → ⊥
    not_nil z = cc
sync-walked t w (Stall ∷ items) s h q =
    let r = sync-walked t (emptied w) items s h q in
    let same : out (emptied w) ++ [] ≡ out w ++ waiting w =
    append-nil (out (emptied w)) ∙ entries-append w.emitted w.pending in
    (r.0, r.1, subst (λ z. Settled (z ++ r.0 ∷ []) (walked_from t (emptied w) items)) same r.2)
sync-walked t w (Did a r ∷ items) s h q =
    let x : Step = record { action = a; reply = r } in
    let is : x ≡ s = ap (head_or x) q in
    let e = entry_of t w.next a r in
    let k : is_sync a ≡ true = ap (λ z. is_sync z.action) is ∙ h in (
      e,
      record { action = ap (λ z. z.action) is; reply = ap (λ z. z.reply) is },
      idle t (stepped t w (Did a r)) items ((out w ++ waiting w) ++ e ∷ []) (sync-settled t w a r k) (ap tail_of q),
    )

-- ---- items and steps

-- Items by their steps.
pub items-split : (items : List Item) (xs ys : List Step) → steps_in items ≡ xs ++ ys
    → (front back : List Item) × (items ≡ front ++ back) × (steps_in front ≡ xs) × (steps_in back ≡ ys)
items-split items [] ys e = ([], items, refl, refl, e)
items-split [] (x ∷ xs) ys e = absurd (not_nil (xs ++ ys) e)
  where
    not_nil : (l : List Step) → [] ≡ x ∷ l → ⊥
    not_nil l q = cc
items-split (Stall ∷ items) (x ∷ xs) ys e =
    let r = items-split items (x ∷ xs) ys e in
    (Stall ∷ r.0, r.1, ap (λ l. Stall ∷ l) r.2, r.3, r.4)
items-split (Did a b ∷ items) (x ∷ xs) ys e =
    let y : Step = record { action = a; reply = b } in
    let is : y ≡ x = ap (head_or y) e in
    let r = items-split items xs ys (ap tail_of e) in (
      Did a b ∷ r.0,
      r.1,
      ap (λ l. Did a b ∷ l) r.2,
      ap (λ l. y ∷ l) r.3 ∙ ap (λ z. z ∷ xs) is,
      r.4,
    )

pub count-steps : (g : Action → Bool) (items : List Item)
    → count_by g (actions_of items) ≡ count_by (λ s. g s.action) (steps_in items)
count-steps g [] = refl
count-steps g (Stall ∷ items) = count-steps g items
count-steps g (Did a r ∷ items) =
    count-cons g a (actions_of items) ∙ ap (λ n. cond (g a) 1 0 + n) (count-steps g items)
    ∙ sym (count-cons (λ s. g s.action) (record { action = a; reply = r }) (steps_in items))

-- ---- counts on the way

-- The entries of such actions among some.
abbrev pub many : (Action → Bool) → List Entry → ℕ
many g es = count_by (λ e. g e.action) es

module _ (g : Action → Bool) (syncs : (a : Action) → g a ≡ true → is_sync a ≡ true) where
  -- The entry is none of those that are counted.
  abbrev pub Other : Entry → Type 0
  Other e = g e.action ≡ false

  -- After more items: so many are counted, and none waits.
  pub record Counts (w : Walk) (n : ℕ) (v : Walk) : Type 0 where
    pub is : many g (out v) ≡ many g (out w) + n
    pub waiting : Each Other (waiting v)

  counts-on : (u w v : Walk) (a b : ℕ) → Counts u a w → Counts w b v → Counts u (a + b) v
  counts-on u w v a b x y = record { is = let p = x.is in let q = y.is in omega arith; waiting = y.waiting }

  counts-other : (w v : Walk) (more : List Entry) → Goes Other w more v → Counts w 0 v
  counts-other w v more h =
      let none = count-none (λ e. g e.action) more h.each in
      let all = ap (many g) h.is ∙ count-append (λ e. g e.action) (out w) more in
      record { is = omega arith; waiting = h.pending }

  counts-yes : (t : ℕ) (w : Walk) (a : Action) (r : Reply) → g a ≡ true → Each Other (waiting w)
      → Counts w 1 (stepped t w (Did a r))
  counts-yes t w a r y h =
      let e = entry_of t w.next a r in
      let s = sync-settled t w a r (syncs a y) in
      let none = count-none (λ x. g x.action) (waiting w) h in
      let all = ap (many g) s.is ∙ count-append (λ x. g x.action) (out w ++ waiting w) (e ∷ []) in
      let two = count-append (λ x. g x.action) (out w) (waiting w) in
      let one = count-yes (λ x. g x.action) e [] y in
      record { is = omega arith; waiting = subst (λ z. Each Other (entries_in z)) (sym s.none) tt }

  counts-did : (t : ℕ) (w : Walk) (a : Action) (r : Reply) (b : Bool) → g a ≡ b → Each Other (waiting w)
      → Counts w (cond b 1 0) (stepped t w (Did a r))
  counts-did t w a r true y h = counts-yes t w a r y h
  counts-did t w a r false y h =
      let s = goes-stepped Other t w (Did a r) h y in
      counts-other w (stepped t w (Did a r)) s.0 s.1

  counts-one : (t : ℕ) (w : Walk) (x : Item) → Each Other (waiting w)
      → Counts w (count_by (λ s. g s.action) (steps_in (x ∷ []))) (stepped t w x)
  counts-one t w Stall h =
      let s = goes-stepped Other t w Stall h tt in
      counts-other w (stepped t w Stall) s.0 s.1
  counts-one t w (Did a r) h =
      let c = counts-did t w a r (g a) refl h in
      let n : cond {A = ℕ} (g a) 1 0 ≡ 0 + cond (g a) 1 0 = omega arith in
      subst (λ k. Counts w k (stepped t w (Did a r))) n c

  pub counts-walked : (t : ℕ) (w : Walk) (items : List Item) → Each Other (waiting w)
      → Counts w (count_by (λ s. g s.action) (steps_in items)) (walked_from t w items)
  counts-walked t w [] h = record { is = omega arith; waiting = h }
  counts-walked t w (x ∷ items) h =
      let a = counts-one t w x h in
      let w1 = stepped t w x in
      let b = counts-walked t w1 items a.waiting in
      let all : count_by (λ s. g s.action) (steps_in (x ∷ [] ++ items))
      ≡ count_by (λ s. g s.action) (steps_in (x ∷ [])) + count_by (λ s. g s.action) (steps_in items) =
      ap (count_by (λ s. g s.action)) (steps-append (x ∷ []) items)
      ∙ count-append (λ s. g s.action) (steps_in (x ∷ [])) (steps_in items) in
      subst (λ k. Counts w k (walked_from t w1 items)) (sym all)
      (counts-on w w1 (walked_from t w1 items) (count_by (λ s. g s.action) (steps_in (x ∷ [])))
      (count_by (λ s. g s.action) (steps_in items)) a b)
