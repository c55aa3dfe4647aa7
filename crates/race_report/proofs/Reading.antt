-- The serial order is right.
use Rattle.std.proofs.Common.{◌≡◌, ◌≢◌, ℕ, ◌*◌, ◌+◌, ◌<◌, ◌≤◌, ◌&&◌, ◌||◌, true, cond, [], refl, sym, ap, ◌∙◌, subst, inl, inr, arith}
use Rattle.std.proofs.lemmas.Bool.{and_parts, or_left, or_right, cases_Bool, cases_eq, cases_order}
use Rattle.upc_values.specs.declared.journal.Journal.{Journal}
use Rattle.upc_values.specs.Lists.{Has, Precedes, Pairwise}
use Rattle.upc_values.specs.Openings.{Opening}
use Rattle.upc_values.specs.History.{IsLegal}
use Rattle.upc_values.specs.Operations.{Operation}
use Rattle.upc_values.specs.Orders.{IsOf, rank, name_of, no_strand, record_of, global_order, strict_list, operations_of}
use Rattle.upc_values.specs.Consistent.{FollowsBuffers, same_place, conflict, ReadsLast, begins}
use Rattle.upc_values.proofs.Membership.{has-filter, filter-has, each-from, pairs-at, pairs-from, pairs-weaker, precedes-has, precedes-total, precedes-strict, precedes-trans, precedes-filter, filter-precedes, Distinct}
use Rattle.race_report.specs.Reach.{ComesBefore}
use Rattle.race_report.specs.Races.{IsRaceFree}
use Rattle.race_report.specs.Serial.{relaxed_after, phase, serial_list, IsRun, Leads, StandsBefore, AreInOrder, IsSerial, SerialIsRight}
use Rattle.race_report.proofs.Lists.{has-flat, flat-has, flat-precedes, flat-pairs}
use Rattle.race_report.proofs.Moved.{meets, reads-moved}
use Rattle.upc_values.proofs.Consistency.{global-only, global-has, global-distinct, global-placed, written-precedes, all-answered}
use Rattle.upc_values.proofs.Placement.{global-right}
use Rattle.race_report.proofs.Bridging.{AtOrBefore, IsStrict, Way, KeepsStrict, Bridge, bridged}
use Rattle.race_report.proofs.Crossing.{crosses}
use Rattle.race_report.proofs.Phases.{Sorted, sorted-own, thread-own, none-first, one-rank, after-has, after-sorted, after-last, led}

-- in the global order of a legal history each read has the value of the last write before it
global-reads : (j : Journal) (o : Opening) → FollowsBuffers j → IsLegal o j.history → ReadsLast (begins o j.history) (global_order j)
global-reads j o f legal = global-right j (begins o j.history) f (all-answered o [] j.history j.history refl legal)

module _ (j : Journal) (run : IsRun j) where
  sorted : (t : ℕ) → Sorted (operations_of j t)
  sorted t = sorted-own t (record_of j t)

  -- the strict list
  strict-is : (o : Operation) → Has (strict_list j) o → IsStrict j o
  strict-is o m =
      let k = filter-has (λ z. z.strict) (global_order j) o m in
      (global-only j run.follows o k.0, k.1)

  strict-has : (o : Operation) → IsStrict j o → Has (strict_list j) o
  strict-has o s = has-filter (λ z. z.strict) (global_order j) o s.1 (global-has j run.follows o s.0)

  strict-distinct : Distinct (strict_list j)
  strict-distinct =
      pairs-from (λ a b. a ≢ b) (strict_list j)
      (λ a b p. pairs-at (λ x y. x ≢ y) (global_order j) (global-distinct j run.follows) a b (filter-precedes (λ z. z.strict) (global_order j) a b p))

  strict-keeps : KeepsStrict j
  strict-keeps a b s t w =
      precedes-filter (λ z. z.strict) (global_order j) a b s.1 t.1
      (written-precedes j run.follows a b s.0 t.0 w.0 (or_left a.strict b.strict s.1) w.1)

  -- what a phase has
  record InPhase (s a : Operation) : Type 0 where
    is : IsOf j a
    thread : a.thread ≡ s.thread
    from : rank s ≤ rank a
    last : (u : Operation) → IsStrict j u → u.thread ≡ a.thread → rank u ≤ rank a → rank u ≤ rank s

  in-phase : (s a : Operation) → IsStrict j s → Has (phase j s) a → InPhase s a
  in-phase s a x (inl e) =
      record {
        is = subst (IsOf j) e x.0;
        thread = sym (ap (λ z. z.thread) e);
        from = let r : rank s ≡ rank a = ap rank e in omega arith;
        last = λ u y q le. let r : rank s ≡ rank a = ap rank e in omega arith;
      }
  in-phase s a x (inr m) =
      let os = operations_of j s.thread in
      let k = after-has (rank s) os (sorted s.thread) a m in
      let t = thread-own s.thread (record_of j s.thread) a k.0 in
      record {
        is = (subst (λ n. n < j.threads) (sym t) x.0.0, subst (λ n. Has (operations_of j n) a) (sym t) k.0);
        thread = t;
        from = let l : rank s < rank a = k.1 in omega arith;
        last = λ u y q le.
            after-last (rank s) os (sorted s.thread) a u m (subst (λ n. Has (operations_of j n) u) (q ∙ t) y.0.1) y.1 le;
      }

  -- the strict operation that begins the phase of an operation
  record Lead (a : Operation) : Type 0 where
    lead : Operation
    is : IsStrict j lead
    has : Has (phase j lead) a

  lead-of : (a : Operation) → IsOf j a → Lead a
  lead-of a x =
      let t = a.thread in
      let notified = run.notified t no_strand (subst (λ n. t < n) (sym run.follows.many) x.0) in
      let k = led (operations_of j t) (sorted t) (none-first t (record_of j t) notified) a x.1 in
      let same : k.lead.thread ≡ t = thread-own t (record_of j t) k.lead k.has in
      record {
        lead = k.lead;
        is = ((subst (λ n. n < j.threads) (sym same) x.0, subst (λ n. Has (operations_of j n) k.lead) (sym same) k.has), k.strict);
        has = elim k.in_phase [ inl e ↦ inl e | inr m ↦ inr (subst (λ n. Has (relaxed_after (rank k.lead) (operations_of j n)) a) (sym same) m) ];
      }

  -- members
  serial-only : (o : Operation) → Has (serial_list j) o → IsOf j o
  serial-only o h = let k = flat-has (phase j) (strict_list j) o h in (in-phase k.0 o (strict-is k.0 k.1) k.2).is

  serial-has : (o : Operation) → IsOf j o → Has (serial_list j) o
  serial-has o x = let k = lead-of o x in has-flat (phase j) (strict_list j) k.lead o (strict-has k.lead k.is) k.has

  -- program order
  phase-order : (s : Operation) → Pairwise AreInOrder (phase j s)
  phase-order s =
      let os = operations_of j s.thread in (
        each-from (AreInOrder s) (relaxed_after (rank s) os) (λ b m e. (after-has (rank s) os (sorted s.thread) b m).1),
        pairs-weaker (λ a b. rank a < rank b) AreInOrder (λ a b l e. l) (relaxed_after (rank s) os)
            (after-sorted (rank s) os (sorted s.thread)),
      )

  strict-order : (s t : Operation) → Precedes (strict_list j) s t → s.thread ≡ t.thread → rank s < rank t
  strict-order s t p e =
      let m = precedes-has (strict_list j) s t p in
      let x = strict-is s m.0 in
      let g = global-placed j run.follows s.thread s t x.0.0 refl (sym e) (filter-precedes (λ z. z.strict) (global_order j) s t p) in
      g.1 (or_left (s.strict || t.strict) (same_place s.place t.place && (s.write || t.write)) (or_left s.strict t.strict x.1))

  phases-order : (s t : Operation) → Precedes (strict_list j) s t → (a b : Operation) → Has (phase j s) a → Has (phase j t) b → AreInOrder a b
  phases-order s t p a b h k e =
      let m = precedes-has (strict_list j) s t p in
      let x = in-phase s a (strict-is s m.0) h in
      let y = in-phase t b (strict-is t m.1) k in
      let same : s.thread ≡ t.thread = sym x.thread ∙ e ∙ y.thread in
      let less : rank s < rank t = strict-order s t p same in
      let from : rank t ≤ rank b = y.from in
      let ordered : rank a < rank b = elim (cases_order (rank a) (rank b)) [
        | inl q ↦
            let l : rank t ≤ rank s = x.last t (strict-is t m.1) (sym same ∙ sym x.thread) (omega arith) in absurd (omega arith)
        | inr r ↦ elim r [
          | inl l ↦ l
          | inr g ↦
              let l : rank t ≤ rank s = x.last t (strict-is t m.1) (sym same ∙ sym x.thread) (omega arith) in absurd (omega arith)
        ]
      ] in
      ordered

  serial-order : Pairwise AreInOrder (serial_list j)
  serial-order =
      flat-pairs (phase j) AreInOrder (strict_list j)
      (each-from (λ s. Pairwise AreInOrder (phase j s)) (strict_list j) (λ s m. phase-order s)) phases-order

  -- the order is sorted by the strict operations that lead the phases
  leads : (s a : Operation) → IsStrict j s → InPhase s a → Leads j s a
  leads s a is x =
      record {
        is = is.0;
        strict = is.1;
        thread = sym x.thread;
        before = x.from;
        last = λ u of strict thread le. x.last u (of, strict) thread le;
      }

  phase-sorted : (s : Operation) → IsStrict j s → Pairwise (StandsBefore j) (phase j s)
  phase-sorted s is =
      pairs-from (StandsBefore j) (phase j s)
      (λ a b p.
      let m = precedes-has (phase j s) a b p in
      let x = in-phase s a is m.0 in
      let y = in-phase s b is m.1 in
      record {
        first = s;
        second = s;
        leads_first = leads s a is x;
        leads_second = leads s b is y;
        ordered = inr (refl, pairs-at AreInOrder (phase j s) (phase-order s) a b p (x.thread ∙ sym y.thread));
      })

  serial-sorted : Pairwise (StandsBefore j) (serial_list j)
  serial-sorted =
      flat-pairs (phase j) (StandsBefore j) (strict_list j)
      (each-from (λ s. Pairwise (StandsBefore j) (phase j s)) (strict_list j) (λ s m. phase-sorted s (strict-is s m)))
      (λ s t p a b h k.
      let m = precedes-has (strict_list j) s t p in
      let x = strict-is s m.0 in
      let y = strict-is t m.1 in
      record {
        first = s;
        second = t;
        leads_first = leads s a x (in-phase s a x h);
        leads_second = leads t b y (in-phase t b y k);
        ordered = inl p;
      })

  differ : (a b : Operation) → AreInOrder a b → (a ≢ b)
  differ a b h e = let l : rank a < rank b = h (ap (λ z. z.thread) e) in let r : rank a ≡ rank b = ap rank e in omega arith

  names-differ : (a b : Operation) → AreInOrder a b → (name_of a ≢ name_of b)
  names-differ a b h e =
      let l : rank a < rank b = h (ap (λ z. z.thread) e) in
      let r : rank a ≡ rank b = ap (λ z. 2 * z.index + cond {A = ℕ} z.write 0 1) e in
      omega arith

  serial-distinct : Distinct (serial_list j)
  serial-distinct = pairs-weaker AreInOrder (λ a b. a ≢ b) differ (serial_list j) serial-order

  -- at or before, in one thread
  at-or-before : (s t : Operation) → IsOf j s → IsOf j t → s.thread ≡ t.thread → rank s ≤ rank t → AtOrBefore s t
  at-or-before s t x y e le =
      elim (cases_order (rank s) (rank t)) [
        | inl q ↦
            inl (one-rank (operations_of j t.thread) (sorted t.thread) s t (subst (λ n. Has (operations_of j n) s) e x.1) y.1 q)
        | inr r ↦ elim r [ inl l ↦ inr (e, l) | inr g ↦ absurd (omega arith) ]
      ]

  -- a strict operation, and one at or after it in its thread
  strict-through : (s t u : Operation) → IsStrict j s → IsStrict j t → AtOrBefore s t → Precedes (strict_list j) t u → Precedes (strict_list j) s u
  strict-through s t u x y (inl e) p = subst (λ z. Precedes (strict_list j) z u) (sym e) p
  strict-through s t u x y (inr w) p =
      precedes-trans (strict_list j) strict-distinct s t u (strict-keeps s t x y w) p

  strict-onto : (s t u : Operation) → IsStrict j t → IsStrict j u → Precedes (strict_list j) s t → AtOrBefore t u → Precedes (strict_list j) s u
  strict-onto s t u x y p (inl e) = subst (λ z. Precedes (strict_list j) s z) e p
  strict-onto s t u x y p (inr w) =
      precedes-trans (strict_list j) strict-distinct s t u p (strict-keeps t u x y w)

  at-thread : (a b : Operation) → AtOrBefore a b → a.thread ≡ b.thread
  at-thread a b (inl e) = ap (λ z. z.thread) e
  at-thread a b (inr w) = w.0

  at-rank : (a b : Operation) → AtOrBefore a b → rank a ≤ rank b
  at-rank a b (inl e) = let r : rank a ≡ rank b = ap rank e in omega arith
  at-rank a b (inr w) = let r : rank a < rank b = w.1 in omega arith

  way : (a b : Operation) → ComesBefore j a b → Way j a b
  way a b c = bridged j strict-distinct (crosses j run.follows run.waits) strict-keeps a b c

  -- what comes before another in another thread stands before it in the serial order
  bridge-serial : (a b : Operation) → IsOf j a → IsOf j b → Bridge j a b → Precedes (serial_list j) a b
  bridge-serial a b x y k =
      let s = lead-of a x in
      let t = lead-of b y in
      let p = in-phase s.lead a s.is s.has in
      let q = in-phase t.lead b t.is t.has in
      let r0 : rank s.lead ≤ rank a = p.from in
      let r1 = at-rank a k.start k.first in
      let first = at-or-before s.lead k.start s.is.0 k.start_is.0 (sym p.thread ∙ at-thread a k.start k.first) (omega arith) in
      let finish_thread = at-thread k.finish b k.last in
      let r2 = at-rank k.finish b k.last in
      let last = at-or-before k.finish t.lead k.finish_is.0 t.is.0 (finish_thread ∙ q.thread) (q.last k.finish k.finish_is finish_thread r2) in
      flat-precedes (phase j) (strict_list j) s.lead t.lead a b
      (strict-through s.lead k.start t.lead s.is k.start_is first (strict-onto k.start k.finish t.lead k.finish_is t.is k.goes last)) s.has t.has

  -- and in the global order
  global-onto : (a b c : Operation) → IsOf j b → IsOf j c → (b.strict || c.strict) ≡ true → Precedes (global_order j) a b → AtOrBefore b c → Precedes (global_order j) a c
  global-onto a b c x y s p (inl e) = subst (λ z. Precedes (global_order j) a z) e p
  global-onto a b c x y s p (inr w) =
      precedes-trans (global_order j) (global-distinct j run.follows) a b c p (written-precedes j run.follows b c x y w.0 s w.1)

  global-through : (a b c : Operation) → IsOf j a → IsOf j b → (a.strict || b.strict) ≡ true → AtOrBefore a b → Precedes (global_order j) b c → Precedes (global_order j) a c
  global-through a b c x y s (inl e) p = subst (λ z. Precedes (global_order j) z c) (sym e) p
  global-through a b c x y s (inr w) p =
      precedes-trans (global_order j) (global-distinct j run.follows) a b c (written-precedes j run.follows a b x y w.0 s w.1) p

  bridge-global : (a b : Operation) → IsOf j a → IsOf j b → Bridge j a b → Precedes (global_order j) a b
  bridge-global a b x y k =
      global-through a k.start b x k.start_is.0 (or_right a.strict k.start.strict k.start_is.1) k.first
      (global-onto k.start k.finish b k.finish_is.0 y (or_left k.finish.strict b.strict k.finish_is.1)
      (filter-precedes (λ z. z.strict) (global_order j) k.start k.finish k.goes) k.last)

  way-bridge : (a b : Operation) → (a.thread ≢ b.thread) → Way j a b → Bridge j a b
  way-bridge a b n (inl w) = absurd (n w.0)
  way-bridge a b n (inr k) = k

  module _ (free : IsRaceFree j) where
    -- two on one place, one a write, stand alike in both orders
    same-thread : (a b : Operation) → meets a b ≡ true → a.thread ≡ b.thread → Precedes (global_order j) a b → Precedes (serial_list j) b a → ⊥
    same-thread a b m e p q =
        let x = global-only j run.follows a (precedes-has (global_order j) a b p).0 in
        let c : conflict a b ≡ true = or_right (a.strict || b.strict) (same_place a.place b.place && (a.write || b.write)) m in
        let l : rank a < rank b = (global-placed j run.follows a.thread a b x.0 refl (sym e) p).1 c in
        let r : rank b < rank a = pairs-at AreInOrder (serial_list j) serial-order b a q (sym e) in
        omega arith

    both-strict : (a b : Operation) → IsOf j a → IsOf j b → a.strict ≡ true → b.strict ≡ true → Precedes (global_order j) a b → Precedes (serial_list j) a b
    both-strict a b x y s t p =
        flat-precedes (phase j) (strict_list j) a b a b (precedes-filter (λ z. z.strict) (global_order j) a b s t p) (inl refl) (inl refl)

    no-turn : (a b : Operation) → Precedes (serial_list j) a b → Precedes (serial_list j) b a → ⊥
    no-turn a b p q =
        precedes-strict (serial_list j) serial-distinct a (precedes-trans (serial_list j) serial-distinct a b a p q)

    other-thread : (a b : Operation) → meets a b ≡ true → (a.thread ≢ b.thread) → Precedes (global_order j) a b → Precedes (serial_list j) b a → ⊥
    other-thread a b m n p q =
        let h = precedes-has (global_order j) a b p in
        let x = global-only j run.follows a h.0 in
        let y = global-only j run.follows b h.1 in
        let parts = and_parts (same_place a.place b.place) (a.write || b.write) m in
        free a b
        (record {
          first = x;
          second = y;
          threads = n;
          place = parts.0;
          writes = parts.1;
          relaxed =
              elim (cases_Bool (a.strict && b.strict)) [
                | inl t ↦ let s = and_parts a.strict b.strict t in absurd (no-turn a b (both-strict a b x y s.0 s.1 p) q)
                | inr f ↦ f
              ];
          not_before = λ c. no-turn a b (bridge-serial a b x y (way-bridge a b n (way a b c))) q;
          not_after = λ c.
              precedes-strict (global_order j) (global-distinct j run.follows) a
              (precedes-trans (global_order j) (global-distinct j run.follows) a b a p
              (bridge-global b a y x (way-bridge b a (λ e. n (sym e)) (way b a c))));
        })

    alike : (a b : Operation) → meets a b ≡ true → Precedes (global_order j) a b → Precedes (serial_list j) a b
    alike a b m p =
        let h = precedes-has (global_order j) a b p in
        let n = pairs-at (λ x y. x ≢ y) (global_order j) (global-distinct j run.follows) a b p in
        elim (precedes-total (serial_list j) a b n (serial-has a (global-only j run.follows a h.0)) (serial-has b (global-only j run.follows b h.1))) [
          | inl q ↦ q
          | inr q ↦ elim (cases_eq a.thread b.thread) [
            | inl e ↦ absurd (same-thread a b m e p q)
            | inr ne ↦ absurd (other-thread a b m ne p q)
          ]
        ]

    serial-reads : (o : Opening) → IsLegal o j.history → ReadsLast (begins o j.history) (serial_list j)
    serial-reads o legal =
        reads-moved (begins o j.history) (global_order j) (serial_list j)
        (λ z. (λ m. serial-has z (global-only j run.follows z m), λ m. global-has j run.follows z (serial-only z m)))
        (global-distinct j run.follows) serial-distinct alike (global-reads j o run.follows legal)

  pub serial-right : IsSerial j (serial_list j)
  serial-right =
      record {
        whole =
            record {
              has = serial-has;
              only = serial-only;
              once = pairs-weaker AreInOrder (λ a b. name_of a ≢ name_of b) names-differ (serial_list j) serial-order;
            };
        program = serial-order;
        sorted = serial-sorted;
        values = λ o legal free. serial-reads free o legal;
      }

pub all-serial : SerialIsRight
all-serial j run = serial-right j run
