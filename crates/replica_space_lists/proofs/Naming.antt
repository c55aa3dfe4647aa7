-- The operations in a list and in the mail: each once, in program order.
use Rattle.std.proofs.Common.{◌≡◌, ◌≢◌, ℕ, ◌+◌, ◌*◌, ◌<◌, ◌≤◌, ◌==◌, Bool, true, false, cond, List, [], ◌∷◌, ◌++◌, refl, sym, ap, ◌∙◌, subst, inl, inr, ◌⊎◌, arith}
use Rattle.std.proofs.lemmas.Bool.{false≢true, or_right, cases_eq}
use Rattle.block_layout.specs.declared.place.Loc.{Loc}
use Rattle.upc_values.specs.declared.scalar.Scalar.{Scalar}
use Rattle.upc_values.specs.declared.order.Op.{Op}
use Rattle.upc_values.specs.Lists.{Has, Each, Pairwise}
use Rattle.upc_values.specs.Operations.{Operation}
use Rattle.upc_values.specs.Orders.{is_shown, rank, name_of}
use Rattle.upc_values.specs.Consistent.{ReadsLast, ReadsLastFrom}
use Rattle.upc_values.proofs.Membership.{has-left, has-right, has-cases, each-has, pairs-weaker}
use Rattle.upc_values.proofs.Values.{reads-append}
use Rattle.replica_space.specs.declared.message.Message.{Message}
use Rattle.replica_space.specs.ReplicaOrders.{Placed, write_of, operations}
use Rattle.replica_space_lists.specs.layer.Keeping.{StandsBefore, Waits, sent_by}
use Rattle.replica_space_lists.proofs.Putting.{has-operations, operations-has, pairs-join, Puts, has-was, has-new, has-put, pairs-put, before-was, reads-put}
use Rattle.replica_space_lists.proofs.Splitting.{operations-append, IsRelaxed}

pub record Stands (t : ℕ) (ops : List Operation) (next : ℕ → ℕ) (x : Placed) : Type 0 where
  pub of : Has ops x.operation
  pub shown : is_shown t x.operation ≡ true
  pub index : x.operation.index < next x.operation.thread

pub record Mailed (t u base : ℕ) (ops : List Operation) (next : ℕ → ℕ) (list : List Placed) (m : Message) : Type 0 where
  pub by : m.stamp.thread ≡ u
  pub other : u ≢ t
  pub above : base < m.stamp.clock
  pub of : Has ops (sent_by m)
  pub index : m.index < next u
  pub newer : (x : Placed) → Has list x → x.operation.thread ≡ u → x.operation.index < m.index

pub record Names (n t base : ℕ) (initial : Loc → Scalar) (ops : List Operation) (next : ℕ → ℕ) (mail : ℕ → List Message) (list : List Placed) : Type 0 where
  pub stands : (x : Placed) → Has list x → Stands t ops next x
  pub order : Pairwise (StandsBefore t) list
  pub mailed : (u : ℕ) (m : Message) → u < n → Has (mail u) m → Mailed t u base ops next list m
  pub rising : (u : ℕ) → u < n → Pairwise (λ a b. a.index < b.index) (mail u)
  pub has : (o : Operation) → Has ops o → is_shown t o ≡ true → Has (operations list) o ⊎ Waits n mail o
  pub reads : ReadsLast initial (operations list)

bit-least : (b : Bool) → cond {A = ℕ} b 0 1 ≤ 1
bit-least true = omega arith
bit-least false = omega arith

pub index-rank : (a b : Operation) → a.index < b.index → rank a < rank b
index-rank a b h =
    let x = bit-least a.write in
    omega arith

pub name-rank : (a b : Operation) → name_of a ≡ name_of b → rank a ≡ rank b
name-rank a b e = ap (λ (z : Op). 2 * z.index + cond {A = ℕ} z.write 0 1) e

pub name-index : (a b : Operation) → name_of a ≡ name_of b → a.index ≡ b.index
name-index a b e = ap (λ (z : Op). z.index) e

pub name-thread : (a b : Operation) → name_of a ≡ name_of b → a.thread ≡ b.thread
name-thread a b e = ap (λ (z : Op). z.thread) e

waits-same : (n : ℕ) (mail new : ℕ → List Message) → ((u : ℕ) → u < n → new u ≡ mail u) → (o : Operation) → Waits n mail o → Waits n new o
waits-same n mail new same o w = record { from = w.from; below = w.below; message = w.message; waits = subst (λ l. Has l w.message) (sym (same w.from w.below)) w.waits; is = w.is }

module _ (n t base : ℕ) (initial : Loc → Scalar) (ops : List Operation) (next : ℕ → ℕ) (mail : ℕ → List Message) (list : List Placed)
    (h : Names n t base initial ops next mail list) where
  -- what waits does not stand in the list
  pub apart : (u : ℕ) (m : Message) (x : Placed) → u < n → Has (mail u) m → Has list x → name_of (sent_by m) ≢ name_of x.operation
  apart u m x lt w k e =
      let r = h.mailed u m lt w in
      let a = r.newer x k (sym (name-thread (sent_by m) x.operation e) ∙ r.by) in
      let b = name-index (sent_by m) x.operation e in
      omega arith

  module _ (then : ℕ → ℕ) (left : ℕ → List Message) (grows : (u : ℕ) → next u ≤ then u) where
    -- other operations, which t does not see
    pub names-hidden : (hidden : List Operation) → Each (λ o. is_shown t o ≡ false) hidden → ((u : ℕ) → u < n → left u ≡ mail u)
        → Names n t base initial (ops ++ hidden) then left list
    names-hidden hidden none same = record {
      stands = λ x w. let k = h.stands x w in let a = k.index in let b = grows x.operation.thread in
          record { of = has-left ops hidden x.operation k.of; shown = k.shown; index = omega arith };
      order = h.order;
      mailed = λ u m lt w.
          let k = h.mailed u m lt (subst (λ l. Has l m) (same u lt) w) in
          let a = k.index in let b = grows u in
          record { by = k.by; other = k.other; above = k.above; of = has-left ops hidden (sent_by m) k.of; index = omega arith; newer = k.newer };
      rising = λ u lt. subst (Pairwise (λ a b. a.index < b.index)) (sym (same u lt)) (h.rising u lt);
      has = λ o w s. elim (has-cases ops hidden o w) [
        | inl k ↦ elim (h.has o k s) [ inl x ↦ inl x | inr x ↦ inr (waits-same n mail left same o x) ]
        | inr k ↦ absurd (false≢true (sym (each-has (λ o. is_shown t o ≡ false) hidden none o k) ∙ s))
      ];
      reads = h.reads;
    }

    -- a message comes
    pub names-sent : (v : ℕ) (m : Message) → (v ≢ t) → m.stamp.thread ≡ v → m.index ≡ next v → next v < then v → base < m.stamp.clock
        → left v ≡ mail v ++ m ∷ [] → ((u : ℕ) → u < n → (u ≢ v) → left u ≡ mail u)
        → v < n → Names n t base initial (ops ++ sent_by m ∷ []) then left list
    names-sent v m other by index more above is same below = record {
      stands = λ x w. let k = h.stands x w in let a = k.index in let b = grows x.operation.thread in
          record { of = has-left ops (sent_by m ∷ []) x.operation k.of; shown = k.shown; index = omega arith };
      order = h.order;
      mailed = λ u k lt w. elim (was u k lt w) [
        | inl q ↦ subst (λ (z : Message). Mailed t u base (ops ++ sent_by m ∷ []) then list z) q.0 (subst (λ z. Mailed t z base (ops ++ sent_by m ∷ []) then list m) (sym q.1) new)
        | inr o ↦
            let x = h.mailed u k lt o in
            let a = x.index in let b = grows u in
            record { by = x.by; other = x.other; above = x.above; of = has-left ops (sent_by m ∷ []) (sent_by k) x.of; index = omega arith; newer = x.newer }
      ];
      rising = λ u lt. elim (cases_eq u v) [
        | inl e ↦ subst (Pairwise (λ a b. a.index < b.index)) (sym (ap left e ∙ is))
            (pairs-join (λ a b. a.index < b.index) (mail v) (m ∷ []) (h.rising v below) (tt, tt)
            (λ a b p q. let x = h.mailed v a below p in let y = x.index in
            elim q [ inl f ↦ subst (λ (z : Message). a.index < z.index) f (omega arith) | inr z ↦ absurd z ]))
        | inr ne ↦ subst (Pairwise (λ a b. a.index < b.index)) (sym (same u lt ne)) (h.rising u lt)
      ];
      has = λ o w s. elim (has-cases ops (sent_by m ∷ []) o w) [
        | inl k ↦ elim (h.has o k s) [
          | inl x ↦ inl x
          | inr x ↦ inr (record { from = x.from; below = x.below; message = x.message; waits = still x.from x.message x.below x.waits; is = x.is })
        ]
        | inr k ↦ elim k [
          | inl e ↦ inr (record { from = v; below = below; message = m; waits = subst (λ l. Has l m) (sym is) (has-right (mail v) (m ∷ []) m (inl refl)); is = e })
          | inr z ↦ absurd z
        ]
      ];
      reads = h.reads;
    }
      where
        was : (u : ℕ) (k : Message) → u < n → Has (left u) k → ((m ≡ k) × (u ≡ v)) ⊎ Has (mail u) k
        was u k lt w =
            elim (cases_eq u v) [
              | inl e ↦ elim (has-cases (mail v) (m ∷ []) k (subst (λ l. Has l k) (ap left e ∙ is) w)) [
                | inl o ↦ inr (subst (λ z. Has (mail z) k) (sym e) o)
                | inr x ↦ elim x [ inl q ↦ inl (q, e) | inr z ↦ absurd z ]
              ]
              | inr ne ↦ inr (subst (λ l. Has l k) (same u lt ne) w)
            ]

        still : (u : ℕ) (k : Message) → u < n → Has (mail u) k → Has (left u) k
        still u k lt w =
            elim (cases_eq u v) [
              | inl e ↦ subst (λ l. Has l k) (sym (ap left e ∙ is)) (has-left (mail v) (m ∷ []) k (subst (λ z. Has (mail z) k) e w))
              | inr ne ↦ subst (λ l. Has l k) (sym (same u lt ne)) w
            ]

        new : Mailed t v base (ops ++ sent_by m ∷ []) then list m
        new = record {
          by = by;
          other = other;
          above = above;
          of = has-right ops (sent_by m ∷ []) (sent_by m) (inl refl);
          index = omega arith;
          newer = λ x k e. let a = (h.stands x k).index in let b : next x.operation.thread ≡ next v = ap next e in omega arith;
        }

    -- members at the end
    pub names-append : (top v : ℕ) (new : List Placed) → next v < then v
        → ((x : Placed) → Has new x → (x.operation.thread ≡ v) × (x.operation.index ≡ next v) × (is_shown t x.operation ≡ true))
        → Pairwise (λ a b. rank a.operation < rank b.operation) new
        → ((u : ℕ) → u < n → left u ≡ mail u) → ((m : Message) → v < n → Has (mail v) m → ⊥)
        → ((u : ℕ) (m : Message) → u < n → Has (mail u) m → top < m.stamp.clock)
        → ReadsLastFrom initial (operations list) (operations new)
        → Names n t top initial (ops ++ operations new) then left (list ++ new)
    names-append top v new more own ranks same none above right = record {
      stands = λ x w. elim (has-cases list new x w) [
        | inl o ↦ let k = h.stands x o in let a = k.index in let b = grows x.operation.thread in
            record { of = has-left ops (operations new) x.operation k.of; shown = k.shown; index = omega arith }
        | inr o ↦ let k = own x o in let a = k.1 in let b : then x.operation.thread ≡ then v = ap then k.0 in
            record { of = has-right ops (operations new) x.operation (has-operations new x o); shown = k.2; index = omega arith }
      ];
      order = pairs-join (StandsBefore t) list new h.order
          (pairs-weaker (λ a b. rank a.operation < rank b.operation) (StandsBefore t)
          (λ a b r. (λ e. let q = name-rank a.operation b.operation e in omega arith, λ e f. r)) new ranks)
          (λ a b p q.
          let x = (h.stands a p).index in
          let k = own b q in
          let y = k.1 in
          let less : a.operation.thread ≡ b.operation.thread → a.operation.index < b.operation.index =
          λ e. let z : next a.operation.thread ≡ next v = ap next (e ∙ k.0) in omega arith in (
            λ e. let u = less (name-thread a.operation b.operation e) in let w = name-index a.operation b.operation e in omega arith,
            λ e f. index-rank a.operation b.operation (less e),
          ));
      mailed = λ u m lt w.
          let o = subst (λ l. Has l m) (same u lt) w in
          let k = h.mailed u m lt o in
          let a = k.index in let b = grows u in
          record {
            by = k.by;
            other = k.other;
            above = above u m lt o;
            of = has-left ops (operations new) (sent_by m) k.of;
            index = omega arith;
            newer = λ x z e. elim (has-cases list new x z) [
              | inl y ↦ k.newer x y e
              | inr y ↦ let q : u ≡ v = sym e ∙ (own x y).0 in absurd (none m (subst (λ z. z < n) q lt) (subst (λ z. Has (mail z) m) q o))
            ];
          };
      rising = λ u lt. subst (Pairwise (λ a b. a.index < b.index)) (sym (same u lt)) (h.rising u lt);
      has = λ o w s. elim (has-cases ops (operations new) o w) [
        | inl k ↦ elim (h.has o k s) [
          | inl x ↦ inl (subst (λ l. Has l o) (sym (operations-append list new)) (has-left (operations list) (operations new) o x))
          | inr x ↦ inr (waits-same n mail left same o x)
        ]
        | inr k ↦ inl (subst (λ l. Has l o) (sym (operations-append list new)) (has-right (operations list) (operations new) o k))
      ];
      reads = subst (ReadsLast initial) (sym (operations-append list new)) (reads-append initial [] (operations list) (operations new) h.reads right);
    }

  -- a message that waits is put into the list
  module _ (u : ℕ) (below : u < n) (m : Message) (ms : List Message) (is : mail u ≡ m ∷ ms) (left : ℕ → List Message)
      (gone : left u ≡ ms) (same : (v : ℕ) → v < n → (v ≢ u) → left v ≡ mail v) (new : List Placed) (p : Puts m IsRelaxed list new) where
    mine : Mailed t u base ops next list m
    mine = h.mailed u m below (subst (λ l. Has l m) (sym is) (inl refl))

    rises : Pairwise (λ a b. a.index < b.index) (m ∷ ms)
    rises = subst (Pairwise (λ a b. a.index < b.index)) is (h.rising u below)

    was : (v : ℕ) (k : Message) → v < n → Has (left v) k → Has (mail v) k × (v ≡ u → m.index < k.index)
    was v k lt w =
        elim (cases_eq v u) [
          | inl e ↦
              let o = subst (λ l. Has l k) (ap left e ∙ gone) w in
              (subst (λ l. Has l k) (sym (ap mail e ∙ is)) (inr o), λ f. each-has (λ (z : Message). m.index < z.index) ms rises.0 k o)
          | inr ne ↦ (subst (λ l. Has l k) (same v lt ne) w, λ f. absurd (ne f))
        ]

    newer : (x : Placed) → Has list x → x.operation.thread ≡ m.stamp.thread → x.operation.index < m.index
    newer x k e = mine.newer x k (e ∙ mine.by)

    before-so : (x : Placed) → Has p.before x → StandsBefore t x (write_of m)
    before-so x w =
        let k = before-was m IsRelaxed list new p x w in (
          λ e. let a = newer x k (name-thread x.operation (sent_by m) e) in let b = name-index x.operation (sent_by m) e in omega arith,
          λ e f. index-rank x.operation (sent_by m) (newer x k e),
        )

    after-was : (x : Placed) → Has p.after x → Has list x
    after-was x w = subst (λ l. Has l x) (sym p.was) (has-right p.before p.after x w)

    after-so : (x : Placed) → Has p.after x → StandsBefore t (write_of m) x
    after-so x w =
        let k = after-was x w in (
          λ e. let a = newer x k (sym (name-thread (sent_by m) x.operation e)) in let b = name-index (sent_by m) x.operation e in omega arith,
          λ e f. elim f [
            | inl q ↦ absurd (mine.other (sym mine.by ∙ q))
            | inr q ↦ absurd (false≢true (sym (each-has IsRelaxed p.after p.rest x w) ∙ q))
          ],
        )

    stands-new : Stands t ops next (write_of m)
    stands-new =
        let a = mine.index in
        let b : next m.stamp.thread ≡ next u = ap next mine.by in
        record { of = mine.of; shown = or_right (m.stamp.thread == t) true refl; index = omega arith }

    new-has : (o : Operation) → Has (operations list) o → Has (operations new) o
    new-has o w =
        let k = operations-has list o w in
        subst (Has (operations new)) k.is (has-operations new k.member (has-new m IsRelaxed list new p k.member k.has))

    pub names-put : Names n t base initial ops next left new
    names-put = record {
      stands = λ x w. elim (has-was m IsRelaxed list new p x w) [
        | inl e ↦ subst (Stands t ops next) e stands-new
        | inr o ↦ h.stands x o
      ];
      order = pairs-put m IsRelaxed list new p (StandsBefore t) h.order before-so after-so;
      mailed = λ v k lt w.
          let o = was v k lt w in
          let x = h.mailed v k lt o.0 in
          record {
            by = x.by;
            other = x.other;
            above = x.above;
            of = x.of;
            index = x.index;
            newer = λ y z e. elim (has-was m IsRelaxed list new p y z) [
              | inl q ↦ subst (λ (b : Placed). b.operation.index < k.index) q (o.1 (sym e ∙ sym (ap (λ (b : Placed). b.operation.thread) q) ∙ mine.by))
              | inr q ↦ x.newer y q e
            ];
          };
      rising = λ v lt. elim (cases_eq v u) [
        | inl e ↦ subst (Pairwise (λ a b. a.index < b.index)) (sym (ap left e ∙ gone)) rises.1
        | inr ne ↦ subst (Pairwise (λ a b. a.index < b.index)) (sym (same v lt ne)) (h.rising v lt)
      ];
      has = λ o w s. elim (h.has o w s) [
        | inl x ↦ inl (new-has o x)
        | inr x ↦ waiting o x (cases_eq x.from u)
      ];
      reads = reads-put m IsRelaxed list new p initial [] h.reads;
    }
      where
        waiting : (o : Operation) (x : Waits n mail o) → (x.from ≡ u) ⊎ (x.from ≡ u → ⊥) → Has (operations new) o ⊎ Waits n left o
        waiting o x (inl e) =
            elim (subst (λ l. Has l x.message) (ap mail e ∙ is) x.waits) [
              | inl q ↦ inl (subst (Has (operations new)) (ap sent_by q ∙ x.is) (has-operations new (write_of m) (has-put m IsRelaxed list new p)))
              | inr w ↦ inr (record { from = u; below = below; message = x.message; waits = subst (λ l. Has l x.message) (sym gone) w; is = x.is })
            ]
        waiting o x (inr ne) = inr (record { from = x.from; below = x.below; message = x.message; waits = subst (λ l. Has l x.message) (sym (same x.from x.below ne)) x.waits; is = x.is })
