-- Collective calls after one more entry, and their lawful replies.
use Rattle.std.proofs.Common.{◌≡◌, ℕ, ◌+◌, ◌<◌, ◌≤◌, ◌==◌, Bool, true, false, cond, ◌&&◌, inl, inr, List, [], ◌∷◌, ◌++◌, length, get_or, set, replicate, Option, Some, None, is_none, slice_get, refl, sym, ap, subst, ◌∙◌, arith, zero-add, eqb-true, eq-eqb, ne_eqb, length-set, length-append}
use Rattle.std.proofs.lemmas.Bool.{cases_eq, false≢true, cond_both, eqb-false}
use Rattle.std.proofs.lemmas.List.{get_or-set_same, get_or-set_other, get_or-replicate, length-replicate, get_or_append_left, get_or_push}
use Rattle.std.proofs.lemmas.Option.{slice_get_past}
use Rattle.block_layout.specs.declared.run_error.TheConstants.{COLLECTIVE_MISMATCH}
use Rattle.upc_values.specs.declared.scalar.Scalar.{Scalar}
use Rattle.upc_values.specs.declared.action.Action.TheVariants as act
use Rattle.upc_values.specs.declared.action.Reply.{Reply}
use Rattle.upc_values.specs.declared.action.Reply.TheVariants.{Refused}
use Rattle.upc_values.specs.declared.journal.Entry.{Entry}
use Rattle.upc_values.specs.Drain.{entry_of}
use Rattle.upc_values.specs.Calls.{Other, call_of}
use Rattle.upc_values.specs.Openings.{Opening}
use Rattle.upc_values.specs.History.{is_meet, meets, is_meet_of, Lead, leader, asked, led, is_done, all_met, notifies, same_call, led_reply, meet_reply, reply}
use Rattle.memory_history.specs.code.MeetsAfter.{LeaderState, MeetsState, done_below, Leads, MeetsAfter, times, is_leading, nobody, leader_at, joined_answer, is_done_reply, counted, leading, joined, with_leader, with_joined, met_with}
use Rattle.memory_history.proofs.Leaders.{met_count-push, few-met, leader-stays, leader-new, leader-none, done_below-other, done_below-own, met-count}

none-is : (x : Option Lead) → is_none x ≡ true → x ≡ None
none-is (Some w) h = absurd (false≢true h)
none-is None h = refl

-- no thread has met in a call that has no leader
none-done : (n j : ℕ) (es : List Entry) → ((u : ℕ) → length (meets u es) ≤ j) → done_below n j es ≡ 0
none-done ℕ.zero j es few = refl
none-done (ℕ.suc n) j es few =
    let rest = none-done n j es few in
    let one : cond {A = ℕ} (is_done (slice_get (meets n es) j)) 1 0 ≡ 0 =
    ap (λ x. cond {A = ℕ} (is_done x) 1 0) (slice_get_past (meets n es) j (few n)) in
    omega arith

-- at the start nobody has met
pub meets-begin : (o : Opening) → MeetsAfter o [] (record { counts = replicate o.threads 0; leaders = [] })
meets-begin o = record {
  count = length-replicate o.threads 0;
  met = λ u b. get_or-replicate o.threads u 0 0 b;
  led = λ j d lt. absurd (omega arith);
  last = λ j le. refl;
}

-- the leader of the call in which a thread meets, where it leads
pub led-leader : (m : MeetsState) (t c : ℕ) (args : List Scalar) (n : ℕ) (r : Reply) → is_leading t m ≡ true
    → leader_at (times t m) (met_with t c args n r m) ≡ leading c args n r
led-leader m t c args n r first =
    let x : LeaderState = leading c args n r in
    let last : times t m ≡ length m.leaders = eqb-true (times t m) (length m.leaders) first in
    ap (λ b. leader_at (times t m) (cond b (with_leader t x m) (with_joined t r m))) first
    ∙ get_or_push m.leaders x nobody (times t m) (sym last)

-- and where another has led
pub joined-leader : (m : MeetsState) (t c : ℕ) (args : List Scalar) (n : ℕ) (r : Reply) → is_leading t m ≡ false
    → times t m < length m.leaders → leader_at (times t m) (met_with t c args n r m) ≡ joined r (leader_at (times t m) m)
joined-leader m t c args n r other within =
    ap (λ b. leader_at (times t m) (cond b (with_leader t (leading c args n r) m) (with_joined t r m))) other
    ∙ get_or-set_same m.leaders (times t m) (joined r (leader_at (times t m) m)) nobody within

module _ (o : Opening) (es : List Entry) (m : MeetsState) (h : MeetsAfter o es m) where
  times-few : (t : ℕ) → t < o.threads → times t m ≤ length m.leaders
  times-few t b =
      let few = few-met (length m.leaders) es (h.last (length m.leaders) (omega arith)) t in
      let met = h.met t b in
      omega arith

  -- a call that is not led by the thread has a leader
  pub joined-within : (t : ℕ) → t < o.threads → is_leading t m ≡ false → times t m < length m.leaders
  joined-within t b other =
      let few = times-few t b in
      let ne : times t m ≡ length m.leaders → ⊥ = eqb-false (times t m) (length m.leaders) other in
      omega arith

  -- whether a thread's next call leads
  pub leading-same : (t : ℕ) → t < o.threads → is_none (leader (length (meets t es)) es) ≡ is_leading t m
  leading-same t b =
      let met = h.met t b in
      let few = times-few t b in
      elim (cases_eq (times t m) (length m.leaders)) [
        | inl q ↦ ap is_none (h.last (length (meets t es)) (omega arith)) ∙ sym (eq-eqb (times t m) (length m.leaders) q)
        | inr ne ↦
            let l = h.led (times t m) nobody (omega arith) in
            ap (λ n. is_none (leader n es)) (sym met) ∙ ap is_none l.is ∙ sym (ne_eqb (times t m) (length m.leaders) ne)
      ]

  -- what an entry leads
  pub led-same : (e : Entry) → e.thread < o.threads → led es e ≡ cond (is_leading e.thread m) (asked e.action) Other
  led-same e b = ap (λ x. cond x (asked e.action) Other) (leading-same e.thread b)

  -- a call that is led by the thread has no leader yet
  pub no_leader : (t : ℕ) → t < o.threads → is_leading t m ≡ true → leader (length (meets t es)) es ≡ None
  no_leader t b first = none-is (leader (length (meets t es)) es) (leading-same t b ∙ first)

  -- and any other has one
  pub has_leader : (t : ℕ) → t < o.threads → is_leading t m ≡ false → (w : Lead) × (leader (length (meets t es)) es ≡ Some w)
  has_leader t b other =
      let l = h.led (times t m) nobody (joined-within t b other) in
      (l.lead, ap (λ n. leader n es) (sym (h.met t b)) ∙ l.is)

  -- so an entry leads what it asks for, or nothing
  pub led-first : (e : Entry) → e.thread < o.threads → is_leading e.thread m ≡ true → led es e ≡ asked e.action
  led-first e b first = led-same e b ∙ ap (λ x. cond x (asked e.action) Other) first

  pub led-later : (e : Entry) → e.thread < o.threads → is_leading e.thread m ≡ false → led es e ≡ Other
  led-later e b other = led-same e b ∙ ap (λ x. cond x (asked e.action) Other) other

  -- the lawful reply to a call that leads
  pub leading-replies : (t c : ℕ) (args : List Scalar) → t < o.threads → is_leading t m ≡ true
      → reply o es t (act.Meet c args) ≡ Some (led_reply o es (call_of c args))
  leading-replies t c args b first = ap (λ w. Some (meet_reply o es t c args w)) (no_leader t b first)

  -- and to another
  pub joined-replies : (t c : ℕ) (args : List Scalar) → t < o.threads → is_leading t m ≡ false
      → reply o es t (act.Meet c args) ≡ Some (joined_answer (notifies t es) c args (leader_at (times t m) m))
  joined-replies t c args b other =
      let x = leader_at (times t m) m in
      let l = h.led (times t m) nobody (joined-within t b other) in
      let k = notifies t es in
      ap (λ n. Some (meet_reply o es t c args (leader n es))) (sym (h.met t b))
      ∙ ap (λ w. Some (meet_reply o es t c args w)) l.is
      ∙ ap (λ a. Some (cond (same_call c args a && (k == notifies l.lead.entry.thread l.lead.before)) l.lead.entry.reply (Refused COLLECTIVE_MISMATCH))) l.action
      ∙ ap (λ n. Some (cond (same_call c args (act.Meet x.call x.args) && (k == n)) l.lead.entry.reply (Refused COLLECTIVE_MISMATCH))) l.notifies
      ∙ ap (λ r. Some (cond (same_call c args (act.Meet x.call x.args) && (k == x.notifies)) r (Refused COLLECTIVE_MISMATCH))) l.reply

  -- all threads have met in a call with reply Done
  pub all-same : (j : ℕ) → j < length m.leaders → all_met o j es ≡ ((leader_at j m).done == o.threads)
  all-same j lt = met-count o j es ∙ ap (λ n. n == o.threads) (sym (h.led j nobody lt).done)

  leads-kept : (e : Entry) (j : ℕ) (x : LeaderState) → is_meet_of j es e ≡ false → Leads o es j x → Leads o (es ++ e ∷ []) j x
  leads-kept e j x none l = record {
    lead = l.lead;
    is = leader-stays j es e l.lead l.is;
    action = l.action;
    reply = l.reply;
    notifies = l.notifies;
    done = l.done ∙ sym (done_below-other o.threads j es e none);
  }

  not_counted : (b : Bool) (n : ℕ) → n ≡ n + cond (b && false) 1 0
  not_counted true n = omega arith
  not_counted false n = omega arith

  -- an entry that is no Meet changes nothing
  pub meets-other : (e : Entry) → is_meet e.action ≡ false → MeetsAfter o (es ++ e ∷ []) m
  meets-other e none =
      let no_call : (j : ℕ) → is_meet_of j es e ≡ false = λ j. ap (λ b. b && (length (meets e.thread es) == j)) none in record {
        count = h.count;
        met = λ u b.
            h.met u b ∙ not_counted (e.thread == u) (length (meets u es))
            ∙ ap (λ x. length (meets u es) + cond ((e.thread == u) && x) 1 0) (sym none)
            ∙ sym (met_count-push u es e);
        led = λ j d lt. leads-kept e j (get_or m.leaders j d) (no_call j) (h.led j d lt);
        last = λ j le. leader-none j es e (h.last j le) (no_call j);
      }

  -- ---- the thread meets
  module _ (t i c : ℕ) (args : List Scalar) (r : Reply) (b : t < o.threads) where
    abbrev e : Entry
    e = entry_of t i (act.Meet c args) r

    one_counted : (u : ℕ) → t ≡ u → length (meets u es) + 1 ≡ length (meets u es) + cond ((t == u) && true) 1 0
    one_counted u q = ap (λ x. length (meets u es) + cond (x && true) 1 0) (sym (eq-eqb t u q))

    none_counted : (u : ℕ) → (t ≡ u → ⊥) → length (meets u es) ≡ length (meets u es) + cond ((t == u) && true) 1 0
    none_counted u ne =
        let k : length (meets u es) ≡ length (meets u es) + 0 = omega arith in
        k ∙ ap (λ x. length (meets u es) + cond (x && true) 1 0) (sym (ne_eqb t u ne))

    counted-met : (u : ℕ) → u < o.threads → get_or (counted t m.counts) u 0 ≡ length (meets u (es ++ e ∷ []))
    counted-met u d =
        let many = h.count in
        elim (cases_eq t u) [
          | inl q ↦
              ap (λ v. get_or (set m.counts v (get_or m.counts v 0 + 1)) u 0) q
              ∙ get_or-set_same m.counts u (get_or m.counts u 0 + 1) 0 (omega arith)
              ∙ ap (λ n. n + 1) (h.met u d) ∙ one_counted u q ∙ sym (met_count-push u es e)
          | inr ne ↦
              get_or-set_other m.counts t u (get_or m.counts t 0 + 1) 0 (λ q. ne (sym q))
              ∙ h.met u d ∙ none_counted u ne ∙ sym (met_count-push u es e)
        ]

    -- the entry is the thread's j-th Meet where the thread has met j times
    own : (j : ℕ) → times t m ≡ j → is_meet_of j es e ≡ true
    own j q = eq-eqb (length (meets t es)) j (sym (h.met t b) ∙ q)

    not_own : (j : ℕ) → (times t m ≡ j → ⊥) → is_meet_of j es e ≡ false
    not_own j ne = ne_eqb (length (meets t es)) j (λ q. ne (h.met t b ∙ q))

    leads-new : times t m ≡ length m.leaders → Leads o (es ++ e ∷ []) (length m.leaders) (leading c args (notifies t es) r)
    leads-new q =
        let j = length m.leaders in
        let none = h.last j (omega arith) in record {
          lead = record { before = es; entry = e };
          is = leader-new j es e none (own j q);
          action = refl;
          reply = refl;
          notifies = refl;
          done =
              sym (zero-add (cond (is_done_reply r) 1 0))
              ∙ ap (λ n. n + cond (is_done_reply r) 1 0) (sym (none-done o.threads j es (few-met j es none)))
              ∙ sym (done_below-own o.threads j es e (own j q) b);
        }

    -- it leads a call
    pub meets-led : is_leading t m ≡ true → MeetsAfter o (es ++ e ∷ []) (with_leader t (leading c args (notifies t es) r) m)
    meets-led first =
        let n = length m.leaders in
        let x : LeaderState = leading c args (notifies t es) r in
        let q : times t m ≡ n = eqb-true (times t m) n first in record {
          count = length-set m.counts t (get_or m.counts t 0 + 1) ∙ h.count;
          met = counted-met;
          led = λ j d lt. elim (cases_eq j n) [
            | inl z ↦
                subst (λ k. Leads o (es ++ e ∷ []) k (get_or (m.leaders ++ x ∷ []) k d)) (sym z)
                (subst (Leads o (es ++ e ∷ []) n) (sym (get_or_push m.leaders x d n refl)) (leads-new q))
            | inr ne ↦
                let few : j < n = omega (arith, length-append m.leaders (x ∷ [])) in
                subst (Leads o (es ++ e ∷ []) j) (sym (get_or_append_left m.leaders (x ∷ []) d j few))
                (leads-kept e j (get_or m.leaders j d) (not_own j (λ k. ne (sym k ∙ q))) (h.led j d few))
          ];
          last = λ j le.
              let more : n < j = omega (arith, length-append m.leaders (x ∷ [])) in
              leader-none j es e (h.last j (omega arith)) (not_own j (λ k. omega arith));
        }

    leads-joined : (x : LeaderState) → Leads o es (times t m) x → Leads o (es ++ e ∷ []) (times t m) (joined r x)
    leads-joined x l = record {
      lead = l.lead;
      is = leader-stays (times t m) es e l.lead l.is;
      action = l.action;
      reply = l.reply;
      notifies = l.notifies;
      done = ap (λ n. n + cond (is_done_reply r) 1 0) l.done ∙ sym (done_below-own o.threads (times t m) es e (own (times t m) refl) b);
    }

    -- it meets in a call that is led
    pub meets-joined : is_leading t m ≡ false → MeetsAfter o (es ++ e ∷ []) (with_joined t r m)
    meets-joined other =
        let n = length m.leaders in
        let k = times t m in
        let x : LeaderState = joined r (leader_at k m) in
        let within : k < n = joined-within t b other in
        let same : length (set m.leaders k x) ≡ n = length-set m.leaders k x in record {
          count = length-set m.counts t (get_or m.counts t 0 + 1) ∙ h.count;
          met = counted-met;
          led = λ j d lt. elim (cases_eq j k) [
            | inl z ↦
                subst (λ v. Leads o (es ++ e ∷ []) v (get_or (set m.leaders k x) v d)) (sym z)
                (subst (Leads o (es ++ e ∷ []) k) (sym (get_or-set_same m.leaders k x d within))
                (leads-joined (leader_at k m) (h.led k nobody within)))
            | inr ne ↦
                subst (Leads o (es ++ e ∷ []) j) (sym (get_or-set_other m.leaders k j x d ne))
                (leads-kept e j (get_or m.leaders j d) (not_own j (λ v. ne (sym v))) (h.led j d (omega arith)))
          ];
          last = λ j le. leader-none j es e (h.last j (omega arith)) (not_own j (λ v. omega arith));
        }

    -- it meets
    pub meets-met : MeetsAfter o (es ++ e ∷ []) (met_with t c args (notifies t es) r m)
    meets-met =
        cond_both (is_leading t m) (with_leader t (leading c args (notifies t es) r) m) (with_joined t r m)
        (MeetsAfter o (es ++ e ∷ [])) meets-led meets-joined

    -- the call in which it meets has a leader then
    pub met-within : times t m < length (met_with t c args (notifies t es) r m).leaders
    met-within =
        let x : LeaderState = leading c args (notifies t es) r in
        cond_both (is_leading t m) (with_leader t x m) (with_joined t r m) (λ z. times t m < length z.leaders)
        (λ first.
        let q : times t m ≡ length m.leaders = eqb-true (times t m) (length m.leaders) first in
        omega (arith, length-append m.leaders (x ∷ [])))
        (λ other.
        let within = joined-within t b other in
        omega (arith, length-set m.leaders (times t m) (joined r (leader_at (times t m) m))))
