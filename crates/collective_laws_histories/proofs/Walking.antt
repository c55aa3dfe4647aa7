-- What a thread's walk emits on its way.
use Rattle.std.proofs.Common.{◌≡◌, ℕ, nat_lt, Bool, true, false, List, [], ◌∷◌, ◌++◌, length, is_some, Option, Some}
use Rattle.std.proofs.Common.{None, refl, sym, ap, ◌∙◌, subst, inl, inr, append_assoc, append-nil}
use Rattle.std.proofs.lemmas.Bool.{cond_both, false≢true}
use Rattle.block_layout.specs.declared.place.Loc.{Loc}
use Rattle.upc_values.specs.declared.scalar.Scalar.{Scalar}
use Rattle.upc_values.specs.declared.action.Action.{Action}
use Rattle.upc_values.specs.declared.action.Action.TheVariants as act
use Rattle.upc_values.specs.declared.action.Reply.{Reply}
use Rattle.upc_values.specs.declared.action.Reply.TheVariants.{Value}
use Rattle.upc_values.specs.declared.record.Item.{Item}
use Rattle.upc_values.specs.declared.record.Item.TheVariants.{Did, Stall}
use Rattle.upc_values.specs.declared.journal.Entry.{Entry}
use Rattle.upc_values.specs.Lists.{Each, Has}
use Rattle.upc_values.specs.Drain.{Commit, commit_of, entries_in, Walk, emptied, oldest_out, with_room, passed, stored}
use Rattle.upc_values.specs.Drain.{pending_value, changed, combined, put_pending, looked_up, stepped, walked_from, entry_of}
use Rattle.upc_values.specs.Drain.{written}
use Rattle.upc_values.proofs.Membership.{each-append, has-left, has-right}
use Rattle.upc_values.proofs.Growth.{each-changed}
use Rattle.upc_values.proofs.Drained.{read-entries}
use Rattle.collective_laws_words.specs.layer.Steps.{Step, steps_in}
use Rattle.collective_laws_words.specs.layer.Interface.{Wrote, ReadSo}
use Rattle.collective_laws_histories.proofs.Lists.{Holds_of, of-left, of-right, of-cases}
use Rattle.collective_laws_histories.proofs.Writing.{Writes, entries-append, last-any, of-changed, written-there}

-- The action is a relaxed read or write.
abbrev pub is_relaxed : Action → Bool
is_relaxed (act.Write false l v) = true
is_relaxed (act.Read l false) = true
is_relaxed a = false

-- The entries in a walk's buffer.
abbrev pub waiting : Walk → List Entry
waiting w = entries_in w.pending

-- The entries that a walk has emitted.
abbrev pub out : Walk → List Entry
out w = entries_in w.emitted

-- A commit whose entry passes.
abbrev Passes : (Entry → Type 0) → Commit → Type 0
Passes P c = P c.entry

module _ (P : Entry → Type 0) where
  to_commits : (cs : List Commit) → Each P (entries_in cs) → Each (Passes P) cs
  to_commits [] h = tt
  to_commits (c ∷ cs) h = (h.0, to_commits cs h.1)

  from_commits : (cs : List Commit) → Each (Passes P) cs → Each P (entries_in cs)
  from_commits [] h = tt
  from_commits (c ∷ cs) h = (h.0, from_commits cs h.1)

  -- From one walk to another these entries are emitted. They pass, and so does what waits after; and a location that
  -- was to be written is so still.
  pub record Goes (w : Walk) (more : List Entry) (v : Walk) : Type 0 where
    pub is : out v ≡ out w ++ more
    pub each : Each P more
    pub pending : Each P (waiting v)
    pub keeps : (l : Loc) → Holds_of (Writes l) (waiting w) → Holds_of (Writes l) (more ++ waiting v)

  pub still : (w : Walk) → Each P (waiting w) → Goes w [] w
  still w h = record { is = sym (append-nil (out w)); each = tt; pending = h; keeps = λ l m. m }

  carried : (l : Loc) (w v : Walk) (a b : List Entry) → Goes w b v → Holds_of (Writes l) (a ++ waiting w)
      → Holds_of (Writes l) ((a ++ b) ++ waiting v)
  carried l w v a b h m =
      subst (Holds_of (Writes l)) (sym (append_assoc a b (waiting v)))
      (elim (of-cases (Writes l) a (waiting w) m) [
        | inl x ↦ of-left (Writes l) a (b ++ waiting v) x
        | inr y ↦ of-right (Writes l) a (b ++ waiting v) (h.keeps l y)
      ])

  pub goes_on : (u w v : Walk) (a b : List Entry) → Goes u a w → Goes w b v → Goes u (a ++ b) v
  goes_on u w v a b g h = record {
    is = h.is ∙ ap (λ z. z ++ b) g.is ∙ append_assoc (out u) a b;
    each = each-append P a b g.each h.each;
    pending = h.pending;
    keeps = λ l m. carried l w v a b h (g.keeps l m);
  }

  pub goes-emptied : (w : Walk) → Each P (waiting w) → Goes w (waiting w) (emptied w)
  goes-emptied w h = record {
    is = entries-append w.emitted w.pending;
    each = h;
    pending = tt;
    keeps = λ l m. subst (Holds_of (Writes l)) (sym (append-nil (waiting w))) m;
  }

  goes-passed : (w : Walk) (e : Entry) → P e → Each P (waiting w) → Goes w (e ∷ []) (passed e w)
  goes-passed w e p h = record {
    is = entries-append w.emitted (commit_of e ∷ []);
    each = (p, tt);
    pending = h;
    keeps = λ l m. inr m;
  }

  goes-oldest : (w : Walk) (cs : List Commit) → cs ≡ w.pending → Each P (entries_in cs)
      → (more : List Entry) × Goes w more (oldest_out cs w)
  goes-oldest w [] q h = ([], still w (subst (λ z. Each P (entries_in z)) q tt))
  goes-oldest w (c ∷ cs) q h = (
    c.entry ∷ [],
    record {
      is = entries-append w.emitted (c ∷ []);
      each = (h.0, tt);
      pending = h.1;
      keeps = λ l m. subst (λ z. Holds_of (Writes l) (entries_in z)) (sym q) m;
    },
  )

  goes-with_room : (w : Walk) → Each P (waiting w) → (more : List Entry) × Goes w more (with_room w)
  goes-with_room w h =
      cond_both (nat_lt (length w.pending) 64) w (oldest_out w.pending w) (λ z. (more : List Entry) × Goes w more z)
      (λ e. ([], still w h)) (λ e. goes-oldest w w.pending refl h)

  goes-stored : (w : Walk) (e : Entry) → P e → Each P (waiting w) → Goes w [] (stored e w)
  goes-stored w e p h =
      let q = sym (entries-append w.pending (commit_of e ∷ [])) in
      record {
        is = sym (append-nil (out w));
        each = tt;
        pending = subst (Each P) q (each-append P (waiting w) (e ∷ []) h (p, tt));
        keeps = λ l m. subst (Holds_of (Writes l)) q (of-left (Writes l) (waiting w) (e ∷ []) m);
      }

  goes-put : (w : Walk) (e : Entry) (l : Loc) (x : Scalar) → e.action ≡ act.Write false l x → P e → Each P (waiting w)
      → (o : Option Scalar) → pending_value l w.pending ≡ o
      → (more : List Entry) × Goes w more (put_pending l e o w) × Holds_of (Writes l) (more ++ waiting (put_pending l e o w))
  goes-put w e l x is p h None q =
      let room = goes-with_room w h in
      let w1 = with_room w in
      let here : Writes l e = ap (λ a. is_some (written l a)) is ∙ ap is_some (written-there false l x) in (
        room.0 ++ [],
        goes_on w w1 (stored e w1) room.0 [] room.1 (goes-stored w1 e p room.1.pending),
        of-right (Writes l) (room.0 ++ []) (waiting (stored e w1))
            (subst (Holds_of (Writes l)) (sym (entries-append w1.pending (commit_of e ∷ [])))
            (of-right (Writes l) (waiting w1) (e ∷ []) (inl here))),
      )
  goes-put w e l x is p h (Some u) q =
      let new = changed l (combined e) w.pending in (
        [],
        record {
          is = sym (append-nil (out w));
          each = tt;
          pending = from_commits new
              (each-changed l (combined e) (Passes P) (Passes P) (λ c y. y) (λ c v r y. p) w.pending u q
              (to_commits w.pending h));
          keeps = λ k m. of-changed l k e x is w.pending u q m;
        },
        of-changed l l e x is w.pending u q (last-any l (waiting w) u q),
      )

  goes-looked_up : (w : Walk) (e : Entry) (l : Loc) → P e → Each P (waiting w)
      → (o : Option Scalar) → pending_value l w.pending ≡ o
      → (more : List Entry) × Goes w more (looked_up l e o w) × (o ≡ None → Has more e)
  goes-looked_up w e l p h None q = (e ∷ [], goes-passed w e p h, λ z. inl refl)
  goes-looked_up w e l p h (Some u) q =
      let same = sym (read-entries l e w.pending) in (
        [],
        record {
          is = sym (append-nil (out w));
          each = tt;
          pending = subst (Each P) same h;
          keeps = λ k m. subst (Holds_of (Writes k)) same m;
        },
        λ z. absurd cc,
      )

  -- What an item emits passes.
  abbrev pub OfItem : ℕ → ℕ → Item → Type 0
  OfItem t n Stall = Unit {0}
  OfItem t n (Did a r) = P (entry_of t n a r)

  goes-sync : (t : ℕ) (w : Walk) (a : Action) (r : Reply) → Each P (waiting w) → P (entry_of t w.next a r)
      → (more : List Entry) × Goes w more (passed (entry_of t w.next a r) (emptied w))
  goes-sync t w a r h p =
      let e = entry_of t w.next a r in (
        waiting w ++ e ∷ [],
        goes_on w (emptied w) (passed e (emptied w)) (waiting w) (e ∷ []) (goes-emptied w h)
            (goes-passed (emptied w) e p tt),
      )

  pub goes-stepped : (t : ℕ) (w : Walk) (x : Item) → Each P (waiting w) → OfItem t w.next x
      → (more : List Entry) × Goes w more (stepped t w x)
  goes-stepped t w Stall h p = (waiting w, goes-emptied w h)
  goes-stepped t w (Did (act.Write false l v) r) h p =
      let g = goes-put w (entry_of t w.next (act.Write false l v) r) l v refl p h (pending_value l w.pending) refl in
      (g.0, g.1)
  goes-stepped t w (Did (act.Read l false) r) h p =
      let g = goes-looked_up w (entry_of t w.next (act.Read l false) r) l p h (pending_value l w.pending) refl in
      (g.0, g.1)
  goes-stepped t w (Did (act.Print x) r) h p =
      let e = entry_of t w.next (act.Print x) r in
      (e ∷ [], goes-passed w e p h)
  goes-stepped t w (Did a r) h p = goes-sync t w a r h p

  -- All items' entries pass, whatever their numbers.
  abbrev pub OfItems : ℕ → List Item → Type 0
  OfItems t items = Each (λ x. (n : ℕ) → OfItem t n x) items

  pub goes-walked : (t : ℕ) (w : Walk) (items : List Item) → Each P (waiting w) → OfItems t items
      → (more : List Entry) × Goes w more (walked_from t w items)
  goes-walked t w [] h p = ([], still w h)
  goes-walked t w (x ∷ items) h p =
      let a = goes-stepped t w x h (p.0 w.next) in
      let w1 = stepped t w x in
      let b = goes-walked t w1 items a.1.pending p.1 in
      (a.0 ++ b.0, goes_on w w1 (walked_from t w1 items) a.0 b.0 a.1 b.1)

  -- ---- while a thread only reads and writes relaxed

  -- Nothing that passes writes the location.
  abbrev pub Free : Loc → Type 0
  Free l = (e : Entry) → P e → Writes l e → ⊥

  free-none : (l : Loc) (es : List Entry) → Free l → Each P es → Holds_of (Writes l) es → ⊥
  free-none l [] f h m = m
  free-none l (e ∷ es) f h (inl w) = f e h.0 w
  free-none l (e ∷ es) f h (inr m) = free-none l es f h.1 m

  not-pending : (l : Loc) (cs : List Commit) → Free l → Each P (entries_in cs) → pending_value l cs ≡ None
  not-pending l cs f h = by_value (pending_value l cs) refl
    where
      by_value : (o : Option Scalar) → pending_value l cs ≡ o → o ≡ None
      by_value None q = refl
      by_value (Some v) q = absurd (free-none l (entries_in cs) f h (last-any l (entries_in cs) v q))

  -- What a walk emits by steps that are relaxed reads and writes: a location that is written is written there too, and
  -- a read of one that nobody writes is there.
  pub record Covers (w : Walk) (did : List Step) (more : List Entry) (v : Walk) : Type 0 where
    pub goes : Goes w more v
    pub wrote : (l : Loc) (u : Scalar) → Wrote l u did → Holds_of (Writes l) (more ++ waiting v)
    pub read : (l : Loc) (u : Scalar) → ReadSo l u did → Free l
        → (e : Entry) × Has more e × (e.action ≡ act.Read l false) × (e.reply ≡ Value u)

  covers-none : (w : Walk) → Each P (waiting w) → Covers w [] [] w
  covers-none w h = record { goes = still w h; wrote = λ l u m. absurd m; read = λ l u m f. absurd m }

  covers-stall : (w v : Walk) (did : List Step) (b : List Entry) → Each P (waiting w) → Covers (emptied w) did b v
      → Covers w did (waiting w ++ b) v
  covers-stall w v did b h c = record {
    goes = goes_on w (emptied w) v (waiting w) b (goes-emptied w h) c.goes;
    wrote = λ l u m.
        subst (Holds_of (Writes l)) (sym (append_assoc (waiting w) b (waiting v)))
        (of-right (Writes l) (waiting w) (b ++ waiting v) (c.wrote l u m));
    read = λ l u m f. let r = c.read l u m f in (r.0, has-right (waiting w) b r.0 r.1, r.2, r.3);
  }

  covers-cons : (w w1 v : Walk) (s : Step) (did : List Step) (a b : List Entry) → Covers w (s ∷ []) a w1
      → Covers w1 did b v → Covers w (s ∷ did) (a ++ b) v
  covers-cons w w1 v s did a b x y = record {
    goes = goes_on w w1 v a b x.goes y.goes;
    wrote = λ l u m. elim m [
      | inl q ↦ carried l w1 v a b y.goes (x.wrote l u (inl q))
      | inr n ↦
          subst (Holds_of (Writes l)) (sym (append_assoc a b (waiting v)))
          (of-right (Writes l) a (b ++ waiting v) (y.wrote l u n))
    ];
    read = λ l u m f. elim m [
      | inl q ↦ let r = x.read l u (inl q) f in (r.0, has-left a b r.0 r.1, r.2, r.3)
      | inr n ↦ let r = y.read l u n f in (r.0, has-right a b r.0 r.1, r.2, r.3)
    ];
  }

  covers-write : (t : ℕ) (w : Walk) (l : Loc) (v : Scalar) (r : Reply) → P (entry_of t w.next (act.Write false l v) r)
      → Each P (waiting w)
      → (more : List Entry)
      × Covers w (record { action = act.Write false l v; reply = r } ∷ []) more
      (stepped t w (Did (act.Write false l v) r))
  covers-write t w l v r p h =
      let e = entry_of t w.next (act.Write false l v) r in
      let g = goes-put w e l v refl p h (pending_value l w.pending) refl in (
        g.0,
        record {
          goes = g.1;
          wrote = λ k u m. elim m [
            | inl q ↦
                let same : l ≡ k = place l k v u q in
                subst (λ z. Holds_of (Writes z) (g.0 ++ waiting (stepped t w (Did (act.Write false l v) r)))) same g.2
            | inr n ↦ absurd n
          ];
          read = λ k u m f. elim m [ inl q ↦ absurd (other l v k q.0) | inr n ↦ absurd n ];
        },
      )
    where
      place : (l k : Loc) (v u : Scalar) → act.Write false l v ≡ act.Write false k u → l ≡ k
      place l k v u q = cc

      other : (l : Loc) (v : Scalar) (k : Loc) → act.Write false l v ≡ act.Read k false → ⊥
      other l v k q = cc

  covers-read : (t : ℕ) (w : Walk) (l : Loc) (r : Reply) → P (entry_of t w.next (act.Read l false) r)
      → Each P (waiting w)
      → (more : List Entry)
      × Covers w (record { action = act.Read l false; reply = r } ∷ []) more (stepped t w (Did (act.Read l false) r))
  covers-read t w l r p h =
      let e = entry_of t w.next (act.Read l false) r in
      let g = goes-looked_up w e l p h (pending_value l w.pending) refl in (
        g.0,
        record {
          goes = g.1;
          wrote = λ k u m. elim m [ inl q ↦ absurd (other l k u q) | inr n ↦ absurd n ];
          read = λ k u m f. elim m [
            | inl q ↦
                let same : l ≡ k = place l k q.0 in
                (e, g.2 (not-pending l w.pending (subst Free (sym same) f) h), q.0, q.1)
            | inr n ↦ absurd n
          ];
        },
      )
    where
      place : (l k : Loc) → act.Read l false ≡ act.Read k false → l ≡ k
      place l k q = cc

      other : (l k : Loc) (u : Scalar) → act.Read l false ≡ act.Write false k u → ⊥
      other l k u q = cc

  -- The step is a relaxed read or write, and its entry passes.
  abbrev pub Fits : ℕ → Step → Type 0
  Fits t s = (is_relaxed s.action ≡ true) × ((n : ℕ) → P (entry_of t n s.action s.reply))

  covers-one : (t : ℕ) (w : Walk) (a : Action) (r : Reply) → is_relaxed a ≡ true → P (entry_of t w.next a r)
      → Each P (waiting w)
      → (more : List Entry) × Covers w (record { action = a; reply = r } ∷ []) more (stepped t w (Did a r))
  covers-one t w (act.Write false l v) r k p h = covers-write t w l v r p h
  covers-one t w (act.Read l false) r k p h = covers-read t w l r p h
  covers-one t w a r k p h = absurd (false≢true k)

  pub covers-walked : (t : ℕ) (w : Walk) (items : List Item) → Each P (waiting w) → Each (Fits t) (steps_in items)
      → (more : List Entry) × Covers w (steps_in items) more (walked_from t w items)
  covers-walked t w [] h f = ([], covers-none w h)
  covers-walked t w (Stall ∷ items) h f =
      let c = covers-walked t (emptied w) items tt f in
      (waiting w ++ c.0, covers-stall w (walked_from t (emptied w) items) (steps_in items) c.0 h c.1)
  covers-walked t w (Did a r ∷ items) h f =
      let x = covers-one t w a r f.0.0 (f.0.1 w.next) h in
      let w1 = stepped t w (Did a r) in
      let y = covers-walked t w1 items x.1.goes.pending f.1 in (
        x.0 ++ y.0,
        covers-cons w w1 (walked_from t w1 items) (record { action = a; reply = r }) (steps_in items) x.0 y.0 x.1 y.1,
      )
