-- Where an entry that a thread emits comes from among its items.
use Rattle.std.proofs.Common.{◌≡◌, ℕ, ◌+◌, ◌≤◌, Bool, true, false, List, [], ◌∷◌, ◌++◌, length, refl, sym, ap, ◌∙◌}
use Rattle.std.proofs.Common.{subst, inl, inr, append_assoc, arith}
use Rattle.std.proofs.lemmas.Bool.{false≢true, cases_lt}
use Rattle.std.proofs.lemmas.List.{length-append}
use Rattle.upc_values.specs.declared.action.Action.{Action}
use Rattle.upc_values.specs.declared.action.Reply.{Reply}
use Rattle.upc_values.specs.declared.record.Item.{Item}
use Rattle.upc_values.specs.declared.record.Item.TheVariants.{Did, Stall}
use Rattle.upc_values.specs.declared.journal.Entry.{Entry}
use Rattle.upc_values.specs.Lists.{Each, Has}
use Rattle.upc_values.specs.Drain.{entries_in, Walk, stepped, walked_from, entry_of}
use Rattle.upc_values.proofs.Membership.{each-has}
use Rattle.collective_laws_histories.proofs.Lists.{longer, parts_at, at_end, middle-has}
use Rattle.collective_laws_histories.proofs.Walking.{waiting, out, Goes, OfItem, OfItems, goes-stepped, goes-walked}
use Rattle.collective_laws_histories.proofs.Syncing.{is_sync, sync-settled}

-- Every entry.
abbrev pub Always : Entry → Type 0
Always e = Unit {0}

always-each : (es : List Entry) → Each Always es
always-each [] = tt
always-each (e ∷ es) = (tt, always-each es)

always-item : (t n : ℕ) (x : Item) → OfItem Always t n x
always-item t n Stall = tt
always-item t n (Did a r) = tt

always-items : (t : ℕ) (xs : List Item) → OfItems Always t xs
always-items t [] = tt
always-items t (x ∷ xs) = (λ n. always-item t n x, always-items t xs)

-- What a walk has emitted stays, as it goes on.
pub more-out : (t : ℕ) (w : Walk) (xs : List Item)
    → (more : List Entry) × (out (walked_from t w xs) ≡ out w ++ more)
more-out t w xs =
    let g = goes-walked Always t w xs (always-each (waiting w)) (always-items t xs) in
    (g.0, g.1.is)

-- The items before and after the one that an entry comes from, with what is emitted before and after the entry.
pub record Located (t : ℕ) (w : Walk) (items : List Item) (before after : List Entry) (e : Entry) : Type 0 where
  pub front : List Item
  pub back : List Item
  pub is : items ≡ front ++ Did e.action e.reply ∷ back
  pub emitted : out (walked_from t w front) ++ waiting (walked_from t w front) ≡ before
  pub entry : e ≡ entry_of t (walked_from t w front).next e.action e.reply
  pub more : List Entry
  pub goes : out (walked_from t w items) ≡ out (stepped t (walked_from t w front) (Did e.action e.reply)) ++ more
  pub rest : after ≡ more ++ waiting (walked_from t w items)

-- One item more in front.
located-more : (t : ℕ) (w : Walk) (x : Item) (xs : List Item) (a b : List Entry) (e : Entry)
    → Located t (stepped t w x) xs a b e → Located t w (x ∷ xs) a b e
located-more t w x xs a b e r = record {
  front = x ∷ r.front;
  back = r.back;
  is = ap (λ l. x ∷ l) r.is;
  emitted = r.emitted;
  entry = r.entry;
  more = r.more;
  goes = r.goes;
  rest = r.rest;
}

module _ (g : Action → Bool) (syncs : (a : Action) → g a ≡ true → is_sync a ≡ true) where
  abbrev Plain : Entry → Type 0
  Plain e = g e.action ≡ false

  not_plain : (e : Entry) → g e.action ≡ true → Plain e → ⊥
  not_plain e y n = false≢true (sym n ∙ y)

  -- The same, on from a walk.
  abbrev Rest : ℕ → Walk → List Item → List Entry → List Entry → Entry → Type 0
  Rest t w xs a b e =
      Each Plain (waiting w) → out (walked_from t w xs) ++ waiting (walked_from t w xs) ≡ a ++ e ∷ b
      → length (out w) ≤ length a → Located t w xs a b e

  -- What is emitted after some entries, in one list.
  spread : (u o1 more w : List Entry) → ((u ++ o1) ++ more) ++ w ≡ u ++ (o1 ++ (more ++ w))
  spread u o1 more w = append_assoc (u ++ o1) more w ∙ append_assoc u o1 (more ++ w)

  plain_step : (t : ℕ) (w : Walk) (x : Item) (xs : List Item) (a b : List Entry) (e : Entry) (o1 : List Entry)
      → Goes Plain w o1 (stepped t w x) → g e.action ≡ true
      → out (walked_from t w (x ∷ xs)) ++ waiting (walked_from t w (x ∷ xs)) ≡ a ++ e ∷ b
      → length (out w) ≤ length a → Rest t (stepped t w x) xs a b e → Located t w (x ∷ xs) a b e
  plain_step t w x xs a b e o1 goes y q le rec =
      let w1 = stepped t w x in
      let v = walked_from t w1 xs in
      let m = more-out t w1 xs in
      let len : length (out w1) ≡ length (out w) + length o1 = ap length goes.is ∙ length-append (out w) o1 in
      elim (cases_lt (length a) (length (out w1))) [
        | inl lt ↦
            let all : out w ++ (o1 ++ (m.0 ++ waiting v)) ≡ a ++ e ∷ b =
            sym (spread (out w) o1 m.0 (waiting v))
            ∙ sym (ap (λ z. z ++ waiting v) (m.1 ∙ ap (λ z. z ++ m.0) goes.is)) ∙ q in
            let p = parts_at (out w) o1 (m.0 ++ waiting v) a b e all le (omega arith) in
            absurd (not_plain e y (each-has Plain o1 goes.each e
            (subst (λ z. Has z e) (sym p.3) (middle-has p.0 p.1 e))))
        | inr ge ↦ located-more t w x xs a b e (rec goes.pending q ge)
      ]

  found_step : (t : ℕ) (w : Walk) (c : Action) (r : Reply) (xs : List Item) (a b : List Entry) (e : Entry)
      → g c ≡ true → g e.action ≡ true → Each Plain (waiting w)
      → out (walked_from t w (Did c r ∷ xs)) ++ waiting (walked_from t w (Did c r ∷ xs)) ≡ a ++ e ∷ b
      → length (out w) ≤ length a → Rest t (stepped t w (Did c r)) xs a b e → Located t w (Did c r ∷ xs) a b e
  found_step t w c r xs a b e y z h q le rec =
      let w1 = stepped t w (Did c r) in
      let v = walked_from t w1 xs in
      let m = more-out t w1 xs in
      let f = entry_of t w.next c r in
      let s = sync-settled t w c r (syncs c y) in
      let o1 = waiting w ++ f ∷ [] in
      let is : out w1 ≡ out w ++ o1 = s.is ∙ append_assoc (out w) (waiting w) (f ∷ []) in
      let len : length (out w1) ≡ length (out w) + length o1 = ap length is ∙ length-append (out w) o1 in
      elim (cases_lt (length a) (length (out w1))) [
        | inl lt ↦
            let all : out w ++ (o1 ++ (m.0 ++ waiting v)) ≡ a ++ e ∷ b =
            sym (spread (out w) o1 m.0 (waiting v))
            ∙ sym (ap (λ l. l ++ waiting v) (m.1 ∙ ap (λ l. l ++ m.0) is)) ∙ q in
            let p = parts_at (out w) o1 (m.0 ++ waiting v) a b e all le (omega arith) in
            let last = at_end p.0 p.1 (waiting w) e f Plain h (not_plain e z) p.3 in
            let same : f ≡ e = last.1 in
            record {
              front = [];
              back = xs;
              is = ap (λ k. Did k.action k.reply ∷ xs) same;
              emitted = ap (λ l. out w ++ l) (sym last.0) ∙ sym p.2;
              entry = sym same ∙ ap (λ k. entry_of t w.next k.action k.reply) same;
              more = m.0;
              goes = subst (λ k. out v ≡ out (stepped t w (Did k.action k.reply)) ++ m.0) same m.1;
              rest = p.4 ∙ ap (λ l. l ++ (m.0 ++ waiting v)) last.2;
            }
        | inr ge ↦
            located-more t w (Did c r) xs a b e
            (rec (subst (λ k. Each Plain (entries_in k)) (sym s.none) tt) q ge)
      ]

  any_step : (t : ℕ) (w : Walk) (x : Item) (xs : List Item) (a b : List Entry) (e : Entry)
      → g e.action ≡ true → Each Plain (waiting w)
      → out (walked_from t w (x ∷ xs)) ++ waiting (walked_from t w (x ∷ xs)) ≡ a ++ e ∷ b
      → length (out w) ≤ length a → Rest t (stepped t w x) xs a b e → Located t w (x ∷ xs) a b e
  any_step t w Stall xs a b e y h q le rec =
      let s = goes-stepped Plain t w Stall h tt in
      plain_step t w Stall xs a b e s.0 s.1 y q le rec
  any_step t w (Did c r) xs a b e y h q le rec = by_kind (g c) refl
    where
      by_kind : (k : Bool) → g c ≡ k → Located t w (Did c r ∷ xs) a b e
      by_kind true z = found_step t w c r xs a b e z y h q le rec
      by_kind false z =
          let s = goes-stepped Plain t w (Did c r) h z in
          plain_step t w (Did c r) xs a b e s.0 s.1 y q le rec

  -- An entry that empties the buffer comes from an item.
  pub locate : (t : ℕ) (w : Walk) (xs : List Item) (a b : List Entry) (e : Entry) → g e.action ≡ true
      → Rest t w xs a b e
  locate t w [] a b e y h q le =
      let r = longer (out w) (waiting w) a (e ∷ b) q le in
      absurd (not_plain e y (each-has Plain (waiting w) h e
      (subst (λ z. Has z e) (sym r.2) (middle-has r.0 b e))))
  locate t w (x ∷ xs) a b e y h q le =
      any_step t w x xs a b e y h q le (λ h1 q1 le1. locate t (stepped t w x) xs a b e y h1 q1 le1)
