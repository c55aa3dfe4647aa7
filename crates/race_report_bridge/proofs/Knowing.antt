-- What is known comes before, and what comes before is known.
use Rattle.std.proofs.Common.{◌≡◌, ◌≢◌, ℕ, ◌+◌, ◌*◌, ◌<◌, ◌≤◌, ◌||◌, ◌&&◌, Bool, true, false, cond, List, [], ◌∷◌, ◌++◌, Some, is_some, ◌⊎◌, refl, sym, ap, ◌∙◌, subst, inl, inr, arith}
use Rattle.std.proofs.lemmas.Bool.{cond_both, cases_order, false≢true, or_left, or_right}
use Rattle.block_layout.specs.declared.place.Loc.{Loc}
use Rattle.upc_values.specs.declared.record.Item.{Item}
use Rattle.upc_values.specs.declared.record.Item.TheVariants.{Did, Stall}
use Rattle.upc_values.specs.declared.journal.Entry.{Entry}
use Rattle.upc_values.specs.declared.journal.Journal.{Journal}
use Rattle.upc_values.specs.Lists.{Each, Has, Precedes}
use Rattle.upc_values.specs.Waits.{WaitsFollow}
use Rattle.upc_values.specs.Operations.{Operation, Place, Cell, Sync, Access, Nothing, Reads, Writes, Writes_sync, Reads_sync, Writes_and_reads_sync, access, operations_by, accesses_of, accesses}
use Rattle.upc_values.specs.Orders.{IsOf, rank, record_of, operations_from, operations_at, placed, global_order}
use Rattle.upc_values.specs.Drain.{commits}
use Rattle.upc_values.specs.Consistent.{FollowsBuffers, same_place}
use Rattle.upc_values.proofs.Membership.{has-cases, each-has, each-append, each-weaker, precedes-strict, precedes-trans}
use Rattle.upc_values.proofs.Own.{IsNew, new-item}
use Rattle.race_report.specs.Reach.{ComesBefore, As_written, Across, Through}
use Rattle.race_report.proofs.Lists.{has-flat, flat-precedes}
use Rattle.upc_values.proofs.Consistency.{global-only, global-distinct, global-placed}
use Rattle.race_report.proofs.Covering.{placed-own}
use Rattle.race_report.proofs.Bridging.{Written}
use Rattle.race_report_clocks.specs.declared.channel.Channel.{Channel}
use Rattle.race_report_clocks.specs.layer.Channels.{telling, hearing, is_linked}
use Rattle.race_report_clocks.specs.layer.Knowing.{Knows, Itself, By_own, By_other}
use Rattle.race_report_clocks.proofs.Splits.{At, places, at-has, at-inner, at-precedes}
use Rattle.race_report_bridge.proofs.Alone.{IsPut, placed-alone, placed-thread}
use Rattle.race_report_bridge.proofs.Linking.{Link, linked-link, link-has, link-only, relaxed-unlinked, Joined, joined-releases, releases-joined}

-- of thread t, from action n on
abbrev IsLater : ℕ → ℕ → Operation → Type 0
IsLater t n o = (o.thread ≡ t) × (n ≤ o.index)

later-from : (t n : ℕ) (items : List Item) → Each (IsLater t n) (operations_from t n items)
later-from t n [] = tt
later-from t n (Stall ∷ items) = later-from t n items
later-from t n (Did a r ∷ items) =
    each-append (IsLater t n) (accesses_of t n a r) (operations_from t (n + 1) items)
    (each-weaker (IsNew t n) (IsLater t n) (λ o q. (q.0, let e : o.index ≡ n = q.1 in omega arith)) (accesses_of t n a r) (new-item t n (Did a r)))
    (each-weaker (IsLater t (n + 1)) (IsLater t n) (λ o q. (q.0, let e : n + 1 ≤ o.index = q.1 in omega arith)) (operations_from t (n + 1) items)
    (later-from t (n + 1) items))

no-cell : (l : Loc) → Sync ≡ Cell l → ⊥
no-cell l e = absurd cc

-- the operations of one action on a cell are one
one-cell : (t i : ℕ) (c : Access) (l : Loc) (x m : Operation) → Has (operations_by t i c) x → Has (operations_by t i c) m → x.place ≡ Cell l → x ≡ m
one-cell t i Nothing l x m h k p = absurd h
one-cell t i (Reads d s v) l x m (inl e) (inl q) p = sym e ∙ q
one-cell t i (Reads d s v) l x m (inl e) (inr q) p = absurd q
one-cell t i (Reads d s v) l x m (inr e) k p = absurd e
one-cell t i (Writes d s v) l x m (inl e) (inl q) p = sym e ∙ q
one-cell t i (Writes d s v) l x m (inl e) (inr q) p = absurd q
one-cell t i (Writes d s v) l x m (inr e) k p = absurd e
one-cell t i Writes_sync l x m (inl e) k p = absurd (no-cell l (ap (λ z. z.place) e ∙ p))
one-cell t i Writes_sync l x m (inr e) k p = absurd e
one-cell t i Reads_sync l x m (inl e) k p = absurd (no-cell l (ap (λ z. z.place) e ∙ p))
one-cell t i Reads_sync l x m (inr e) k p = absurd e
one-cell t i Writes_and_reads_sync l x m (inl e) k p = absurd (no-cell l (ap (λ z. z.place) e ∙ p))
one-cell t i Writes_and_reads_sync l x m (inr (inl e)) k p = absurd (no-cell l (ap (λ z. z.place) e ∙ p))
one-cell t i Writes_and_reads_sync l x m (inr (inr e)) k p = absurd e

-- of a thread, the operations with one number are one where they are on a cell
pub one-action : (t n : ℕ) (items : List Item) (l : Loc) (x m : Operation) → Has (operations_from t n items) x → Has (operations_from t n items) m
    → x.index ≡ m.index → x.place ≡ Cell l → x ≡ m
one-action t n [] l x m h k e p = absurd h
one-action t n (Stall ∷ items) l x m h k e p = one-action t n items l x m h k e p
one-action t n (Did a r ∷ items) l x m h k e p =
    let os = accesses_of t n a r in
    let more = operations_from t (n + 1) items in
    let new : (o : Operation) → Has os o → IsNew t n o = λ o q. each-has (IsNew t n) os (new-item t n (Did a r)) o q in
    let later : (o : Operation) → Has more o → IsLater t (n + 1) o =
    λ o q. each-has (IsLater t (n + 1)) more (later-from t (n + 1) items) o q in
    elim (has-cases os more x h) [
      | inl hx ↦ elim (has-cases os more m k) [
        | inl hm ↦ one-cell t n (access a r) l x m hx hm p
        | inr hm ↦
            let y : x.index ≡ n = (new x hx).1 in let z : n + 1 ≤ m.index = (later m hm).1 in absurd (omega arith)
      ]
      | inr hx ↦ elim (has-cases os more m k) [
        | inl hm ↦
            let y : n + 1 ≤ x.index = (later x hx).1 in let z : m.index ≡ n = (new m hm).1 in absurd (omega arith)
        | inr hm ↦ one-action t (n + 1) items l x m hx hm e p
      ]
    ]

rank-low : (o : Operation) → cond {A = ℕ} o.write 0 1 ≤ 1
rank-low o = cond_both {A = ℕ} o.write 0 1 (λ z. z ≤ 1) (λ e. omega arith) (λ e. omega arith)

rank-below : (a b : Operation) → a.index < b.index → rank a < rank b
rank-below a b h = let k = rank-low a in omega arith

index-low : (a b : Operation) → rank a < rank b → a.index ≤ b.index
index-low a b h = let k = rank-low b in omega arith

-- what is known of a later action is known of an earlier one
lower : (u i k : ℕ) → i ≤ k → (before : List Entry) (e : Entry) → Knows u k before e → Knows u i before e
lower u i k l _ _ (Itself before e c q t m) = Itself before e c q t (omega arith)
lower u i k l _ _ (By_own before front rest d e is t linked n) = By_own before front rest d e is t linked (lower u i k l front d n)
lower u i k l _ _ (By_other before front rest d e c is x y n) = By_other before front rest d e c is x y (lower u i k l front d n)

-- where all that lets go on of thread v from action k on knows, what knows of that action knows too
carry : (h : List Entry) (u i v k : ℕ)
    → ((front : List Entry) (r : Entry) (c : Channel) → At h front r → telling front r ≡ Some c → r.thread ≡ v → k ≤ r.index → Knows u i front r)
    → (before : List Entry) (e : Entry) → Knows v k before e → At h before e → Knows u i before e
carry h u i v k q _ _ (Itself before e c x t m) at = q before e c at x t m
carry h u i v k q _ _ (By_own before front rest d e is t linked n) at =
    By_own before front rest d e is t linked
    (carry h u i v k q front d n (at-inner h before e front d at (record { rest = rest; is = is })))
carry h u i v k q _ _ (By_other before front rest d e c is x y n) at =
    By_other before front rest d e c is x y
    (carry h u i v k q front d n (at-inner h before e front d at (record { rest = rest; is = is })))

telling-linked : (before : List Entry) (e : Entry) (k : Channel) → telling before e ≡ Some k → is_linked before e ≡ true
telling-linked before e k q = or_left (is_some (telling before e)) (is_some (hearing before e)) (ap is_some q)

hearing-linked : (before : List Entry) (e : Entry) (k : Channel) → hearing before e ≡ Some k → is_linked before e ≡ true
hearing-linked before e k q = or_right (is_some (telling before e)) (is_some (hearing before e)) (ap is_some q)

-- on one place, one of them a write
abbrev meet : Operation → Operation → Bool
meet a b = same_place a.place b.place && (a.write || b.write)

abbrev AtOrBefore : Operation → Operation → Type 0
AtOrBefore a b = (a ≡ b) ⊎ Written a b

on : (a b s : Operation) → AtOrBefore a b → Written b s → AtOrBefore a s
on a b s (inl e) w = inr (subst (λ z. Written z s) (sym e) w)
on a b s (inr v) w =
    let x : rank a < rank b = v.1 in
    let y : rank b < rank s = w.1 in
    inr (v.0 ∙ w.0, omega arith)

module _ (j : Journal) (f : FollowsBuffers j) (follow : WaitsFollow j.threads j.history) where
  below-at : (front : List Entry) (e : Entry) → At j.history front e → e.thread < j.threads
  below-at front e at = each-has (λ x. x.thread < j.threads) j.history f.below e (at-has j.history front e at)

  own-placed : (front : List Entry) (e : Entry) → At j.history front e → (o : Operation) → Has (accesses e) o → Has (placed j e) o
  own-placed front e at o m = placed-own j f e (below-at front e at) (at-has j.history front e at) o m

  placed-is : (front : List Entry) (e : Entry) → At j.history front e → (o : Operation) → Has (placed j e) o → IsOf j o
  placed-is front e at o m = global-only j f o (has-flat (placed j) j.history e o (at-has j.history front e at) m)

  own-is : (front : List Entry) (e : Entry) → At j.history front e → (o : Operation) → Has (accesses e) o → IsOf j o
  own-is front e at o m = placed-is front e at o (own-placed front e at o m)

  own-thread : (front : List Entry) (e : Entry) → At j.history front e → (o : Operation) → Has (accesses e) o → o.thread ≡ e.thread
  own-thread front e at o m = placed-thread j f e o (own-placed front e at o m)

  -- in a linked entry's place stand its own operations
  linked-own : (front : List Entry) (e : Entry) → At j.history front e → is_linked front e ≡ true → (o : Operation) → Has (placed j e) o → Has (accesses e) o
  linked-own front e at li o m =
      elim (placed-alone j f e (below-at front e at) (at-has j.history front e at)) [
        | inl q ↦ subst (λ l. Has l o) q m
        | inr p ↦ absurd (relaxed-unlinked front e p.loc p.value p.is li)
      ]

  -- what stands in earlier places stands before
  in-order : (before front : List Entry) (d e : Entry) → At j.history before e → At before front d
      → (a b : Operation) → Has (placed j d) a → Has (placed j e) b → Precedes (global_order j) a b
  in-order before front d e at in_front a b ha hb =
      flat-precedes (placed j) j.history d e a b (at-precedes j.history front d before e at in_front) ha hb

  -- a strict one in an earlier place is before in program order
  ranked : (a b : Operation) → IsOf j a → a.strict ≡ true → a.thread ≡ b.thread → Precedes (global_order j) a b → Written a b
  ranked a b of s t p =
      (t, (global-placed j f a.thread a b of.0 refl (sym t) p).1 (or_left (a.strict || b.strict) (meet a b) (or_left a.strict b.strict s)))

  ranked-back : (a b : Operation) → IsOf j a → b.strict ≡ true → a.thread ≡ b.thread → Precedes (global_order j) a b → rank a < rank b
  ranked-back a b of s t p =
      (global-placed j f a.thread a b of.0 refl (sym t) p).1 (or_left (a.strict || b.strict) (meet a b) (or_right a.strict b.strict s))

  no-turn : (a b : Operation) → Precedes (global_order j) a b → Precedes (global_order j) b a → ⊥
  no-turn a b p q =
      precedes-strict (global_order j) (global-distinct j f) a
      (precedes-trans (global_order j) (global-distinct j f) a b a p q)

  -- a linked entry's operation comes before what stands in later places of its thread
  strict-on : (before front : List Entry) (d e : Entry) → At j.history before e → At before front d → is_linked front d ≡ true
      → (a : Operation) → Has (accesses d) a → d.thread ≡ e.thread → (b : Operation) → Has (placed j e) b → Written a b
  strict-on before front d e at inside linked a ha t b hb =
      let ad = at-inner j.history before e front d at inside in
      let s = linked-link front d linked in
      let same : a ≡ s.op = link-only d.thread d.index (accesses d) s a ha in
      let strict : a.strict ≡ true = ap (λ z. z.strict) same ∙ s.strict in
      ranked a b (own-is front d ad a ha) strict
      (own-thread front d ad a ha ∙ t ∙ sym (placed-thread j f e b hb))
      (in-order before front d e at inside a b (own-placed front d ad a ha) hb)

  -- what is known comes before
  module _ (x : Operation) (of : IsOf j x) (l : Loc) (cell : x.place ≡ Cell l) where
    record Reach (e : Entry) : Type 0 where
      op : Operation
      has : Has (accesses e) op
      comes : (x ≡ op) ⊎ ComesBefore j x op

    further : (a b : Operation) → (x ≡ a) ⊎ ComesBefore j x a → ComesBefore j a b → ComesBefore j x b
    further a b (inl e) c = subst (λ z. ComesBefore j z b) (sym e) c
    further a b (inr d) c = Through x a b d c

    at-or-before : (m : Operation) → IsOf j m → m.thread ≡ x.thread → x.index ≤ m.index → (x ≡ m) ⊎ ComesBefore j x m
    at-or-before m ofm t le =
        elim (cases_order x.index m.index) [
          | inl e ↦
              inl
              (one-action x.thread 0 (record_of j x.thread) l x m of.1
              (subst (λ z. Has (operations_from z 0 (record_of j z)) m) t ofm.1) e cell)
          | inr q ↦ elim q [
            | inl lt ↦ inr (As_written x m of ofm (sym t) (rank-below x m lt))
            | inr gt ↦ absurd (omega arith)
          ]
        ]

    reached : (before : List Entry) (e : Entry) → Knows x.thread x.index before e → At j.history before e → is_linked before e ≡ true → Reach e
    reached _ _ (Itself before e k q t le) at li =
        let s = linked-link before e li in
        let h = link-has e.thread e.index (accesses e) s in
        let n : e.index ≡ s.op.index = sym s.index in
        record {
          op = s.op;
          has = h;
          comes =
              at-or-before s.op (own-is before e at s.op h) (own-thread before e at s.op h ∙ t)
              (subst (λ z. x.index ≤ z) n le);
        }
    reached _ _ (By_own before front rest d e is t linked k) at li =
        let inside : At before front d = record { rest = rest; is = is } in
        let ad = at-inner j.history before e front d at inside in
        let r = reached front d k ad linked in
        let s = linked-link before e li in
        let h = link-has e.thread e.index (accesses e) s in
        let w = strict-on before front d e at inside linked r.op r.has t s.op (own-placed before e at s.op h) in
        record {
          op = s.op;
          has = h;
          comes =
              inr
              (further r.op s.op r.comes
              (As_written r.op s.op (own-is front d ad r.op r.has) (own-is before e at s.op h) w.0 w.1));
        }
    reached _ _ (By_other before front rest d e k is tells hears n) at li =
        let inside : At before front d = record { rest = rest; is = is } in
        let ad = at-inner j.history before e front d at inside in
        let r = reached front d n ad (telling-linked front d k tells) in
        let s = linked-link before e li in
        let h = link-has e.thread e.index (accesses e) s in
        let joined : Joined j.history d e =
        record { before = before; front = front; channel = k; second = at; first = inside; tells = tells; hears = hears } in
        record {
          op = s.op;
          has = h;
          comes =
              inr (further r.op s.op r.comes (Across d e r.op s.op (joined-releases j.history d e joined) r.has h));
        }

    pub knows-comes : (before : List Entry) (e : Entry) → Knows x.thread x.index before e → At j.history before e
        → (y : Operation) → Has (placed j e) y → (x.thread ≢ y.thread) → ComesBefore j x y
    knows-comes _ _ (Itself before e k q t le) at y hy n = absurd (n (sym t ∙ sym (placed-thread j f e y hy)))
    knows-comes _ _ (By_own before front rest d e is t linked k) at y hy n =
        let inside : At before front d = record { rest = rest; is = is } in
        let ad = at-inner j.history before e front d at inside in
        let r = reached front d k ad linked in
        let w = strict-on before front d e at inside linked r.op r.has t y hy in
        further r.op y r.comes (As_written r.op y (own-is front d ad r.op r.has) (placed-is before e at y hy) w.0 w.1)
    knows-comes _ _ (By_other before front rest d e k is tells hears m) at y hy n =
        let li = hearing-linked before e k hears in
        let r = reached before e (By_other before front rest d e k is tells hears m) at li in
        let s = linked-link before e li in
        let own = linked-own before e at li y hy in
        let same : r.op ≡ y =
        link-only e.thread e.index (accesses e) s r.op r.has ∙ sym (link-only e.thread e.index (accesses e) s y own) in
        elim r.comes [
          | inl q ↦ absurd (n (ap (λ z. z.thread) (q ∙ same)))
          | inr c ↦ subst (ComesBefore j x) same c
        ]

  -- a linked entry at or before the second, which knows of the first
  record Come (a b : Operation) : Type 0 where
    front : List Entry
    entry : Entry
    at : At j.history front entry
    linked : is_linked front entry ≡ true
    op : Operation
    has : Has (accesses entry) op
    last : AtOrBefore op b
    knows : Knows a.thread a.index front entry

  last-thread : (a b : Operation) → AtOrBefore a b → a.thread ≡ b.thread
  last-thread a b (inl e) = ap (λ z. z.thread) e
  last-thread a b (inr w) = w.0

  last-index : (a b : Operation) → AtOrBefore a b → a.index ≤ b.index
  last-index a b (inl e) = let k : a.index ≡ b.index = ap (λ z. z.index) e in omega arith
  last-index a b (inr w) = index-low a b w.1

  op-strict : (front : List Entry) (e : Entry) → is_linked front e ≡ true → (o : Operation) → Has (accesses e) o → (o.strict ≡ true) × (o.index ≡ e.index)
  op-strict front e li o m =
      let s = linked-link front e li in
      let same : o ≡ s.op = link-only e.thread e.index (accesses e) s o m in
      (ap (λ z. z.strict) same ∙ s.strict, ap (λ z. z.index) same ∙ s.index)

  -- one place for one action
  same-place : (d e : Entry) → d.thread ≡ e.thread → d.index ≡ e.index → (o : Operation) → Has (placed j d) o → Has (placed j e) o
  same-place d e t i o m =
      let at : ℕ → ℕ → List Operation = λ u n. operations_at n (commits u (record_of j u)) in
      subst (λ l. Has l o) (ap (λ n. at d.thread n) i ∙ ap (λ u. at u e.index) t) m

  -- what is at or after a strict one of its thread does not stand before it
  turned : (y m : Operation) → IsOf j y → m.strict ≡ true → AtOrBefore m y → Precedes (global_order j) y m → ⊥
  turned y m of s (inl e) p =
      precedes-strict (global_order j) (global-distinct j f) y (subst (λ z. Precedes (global_order j) y z) e p)
  turned y m of s (inr w) p =
      let a : rank y < rank m = ranked-back y m of s (sym w.0) p in
      let b : rank m < rank y = w.1 in absurd (omega arith)

  -- what lets go on at or after the second of two, in its thread, knows of the first
  later-knows : (a b : Operation) → Come a b → (front : List Entry) (r : Entry) (k : Channel) → At j.history front r
      → telling front r ≡ Some k → r.thread ≡ b.thread → b.index ≤ r.index → Knows a.thread a.index front r
  later-knows a b c front r k at tells t le =
      let li = telling-linked front r k tells in
      let s = linked-link front r li in
      let h = link-has r.thread r.index (accesses r) s in
      let mine : s.op.thread ≡ r.thread = own-thread front r at s.op h in
      let theirs : c.op.thread ≡ c.entry.thread = own-thread c.front c.entry c.at c.op c.has in
      let one : c.entry.thread ≡ r.thread = sym theirs ∙ last-thread c.op b c.last ∙ sym t in
      let st = op-strict c.front c.entry c.linked c.op c.has in
      elim (places j.history c.front c.entry front r c.at at) [
        | inl q ↦ subst (λ z. Knows a.thread a.index z r) q.0 (subst (λ z. Knows a.thread a.index c.front z) q.1 c.knows)
        | inr q ↦ elim q [
          | inl inside ↦ By_own front c.front inside.rest c.entry r inside.is one c.linked c.knows
          | inr inside ↦
              let p = in-order c.front front r c.entry c.at inside s.op c.op (own-placed front r at s.op h) (own-placed c.front c.entry c.at c.op c.has) in
              let w : rank s.op < rank c.op =
              ranked-back s.op c.op (own-is front r at s.op h) st.0 (mine ∙ sym one ∙ sym theirs) p in
              let x : s.op.index ≤ c.op.index = index-low s.op c.op w in
              let y : c.op.index ≤ b.index = last-index c.op b c.last in
              let z : s.op.index ≡ r.index = s.index in
              let v : c.op.index ≡ c.entry.index = st.1 in
              let same : c.entry.index ≡ r.index = omega arith in
              let again : Has (placed j r) c.op = same-place c.entry r one same c.op (own-placed c.front c.entry c.at c.op c.has) in
              absurd
              (precedes-strict (global_order j) (global-distinct j f) c.op
              (in-order c.front front r c.entry c.at inside c.op c.op again (own-placed c.front c.entry c.at c.op c.has)))
        ]
      ]

  go-on : (a b c : Operation) → Come a b → Come b c → Come a c
  go-on a b c p q =
      record {
        front = q.front;
        entry = q.entry;
        at = q.at;
        linked = q.linked;
        op = q.op;
        has = q.has;
        last = q.last;
        knows = carry j.history a.thread a.index b.thread b.index (later-knows a b p) q.front q.entry q.knows q.at;
      }

  started : (a b c : Operation) → Written a b → Come b c → Come a c
  started a b c w q =
      record {
        front = q.front;
        entry = q.entry;
        at = q.at;
        linked = q.linked;
        op = q.op;
        has = q.has;
        last = q.last;
        knows =
            lower a.thread a.index b.index (index-low a b w.1) q.front q.entry
            (subst (λ z. Knows z b.index q.front q.entry) (sym w.0) q.knows);
      }

  ended : (a b c : Operation) → Come a b → Written b c → Come a c
  ended a b c p w =
      record {
        front = p.front;
        entry = p.entry;
        at = p.at;
        linked = p.linked;
        op = p.op;
        has = p.has;
        last = on p.op b c p.last w;
        knows = p.knows;
      }

  chained : (a b c : Operation) → Written a b ⊎ Come a b → Written b c ⊎ Come b c → Written a c ⊎ Come a c
  chained a b c (inl v) (inl w) =
      let x : rank a < rank b = v.1 in
      let y : rank b < rank c = w.1 in
      inl (v.0 ∙ w.0, omega arith)
  chained a b c (inl v) (inr q) = inr (started a b c v q)
  chained a b c (inr p) (inl w) = inr (ended a b c p w)
  chained a b c (inr p) (inr q) = inr (go-on a b c p q)

  crossed : (d e : Entry) (a b : Operation) → Joined j.history d e → Has (accesses d) a → Has (accesses e) b → Come a b
  crossed d e a b s ha hb =
      let ad = at-inner j.history s.before e s.front d s.second s.first in
      let st = op-strict s.front d (telling-linked s.front d s.channel s.tells) a ha in
      let t : d.thread ≡ a.thread = sym (own-thread s.front d ad a ha) in
      let n : a.index ≡ d.index = st.1 in
      let le : a.index ≤ d.index = omega arith in
      record {
        front = s.before;
        entry = e;
        at = s.second;
        linked = hearing-linked s.before e s.channel s.hears;
        op = b;
        has = hb;
        last = inl refl;
        knows =
            By_other s.before s.front s.first.rest d e s.channel s.first.is s.tells s.hears
            (Itself s.front d s.channel s.tells t le);
      }

  come : (a b : Operation) → ComesBefore j a b → Written a b ⊎ Come a b
  come _ _ (As_written a b x y e r) = inl (e, r)
  come _ _ (Across d e a b l ha hb) = inr (crossed d e a b (releases-joined j f follow d e a b l ha hb) ha hb)
  come _ _ (Through a b c p q) = chained a b c (come a b p) (come b c q)

  arrived : (x y : Operation) → Come x y → (before : List Entry) (e : Entry) → At j.history before e → Has (placed j e) y → Knows x.thread x.index before e
  arrived x y c before e at hy =
      let theirs : c.op.thread ≡ c.entry.thread = own-thread c.front c.entry c.at c.op c.has in
      let mine : y.thread ≡ e.thread = placed-thread j f e y hy in
      let one : c.entry.thread ≡ e.thread = sym theirs ∙ last-thread c.op y c.last ∙ mine in
      let st = op-strict c.front c.entry c.linked c.op c.has in
      elim (places j.history c.front c.entry before e c.at at) [
        | inl q ↦ subst (λ z. Knows x.thread x.index z e) q.0 (subst (λ z. Knows x.thread x.index c.front z) q.1 c.knows)
        | inr q ↦ elim q [
          | inl inside ↦ By_own before c.front inside.rest c.entry e inside.is one c.linked c.knows
          | inr inside ↦
              let p = in-order c.front before e c.entry c.at inside y c.op hy (own-placed c.front c.entry c.at c.op c.has) in
              absurd (turned y c.op (placed-is before e at y hy) st.0 c.last p)
        ]
      ]

  pub comes-knows : (x y : Operation) → ComesBefore j x y → (before : List Entry) (e : Entry) → At j.history before e
      → Has (placed j e) y → (x.thread ≢ y.thread) → Knows x.thread x.index before e
  comes-knows x y c before e at hy n =
      elim (come x y c) [ inl w ↦ absurd (n w.0) | inr k ↦ arrived x y k before e at hy ]
