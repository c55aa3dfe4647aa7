-- One more entry.
use Rattle.std.proofs.Common.{◌≡◌, ℕ, ◌+◌, ◌<◌, ◌==◌, ◌&&◌, Bool, true, false, cond, max, List, [], ◌∷◌, ◌++◌, Option, Some, None, slice_index, refl, sym, ap, ◌∙◌, subst, inl, inr, eq-eqb, arith}
use Rattle.std.specs.List.{fold, count_by}
use Rattle.std.proofs.lemmas.Bool.{cases_eq, cond-true, cond-false, ne_eqb}
use Rattle.upc_values.specs.declared.journal.Entry.{Entry}
use Rattle.upc_values.specs.History.{is_notify, is_wait, notifies, waits}
use Rattle.race_report_clocks.specs.declared.channel.Channel.{Channel}
use Rattle.race_report_clocks.specs.layer.Channels.{telling, hearing}
use Rattle.race_report_clocks.specs.layer.Clocks.{heard, added, known, is_over, clocks}
use Rattle.race_report_clocks.proofs.Pushed.{clocks-push}
use Rattle.race_report_tables.specs.declared.channels.Channels.{Channels}
use Rattle.race_report_tables.specs.declared.tables.Tables.{Tables}
use Rattle.race_report_tables.specs.layer.Tables.{clock_at, clock_over, heard_over, added_by, AreClocks}

-- a row is told over a channel, or not
pub told : (b : Bool) (y z row : List ℕ) (u old : ℕ) → (b ≡ true → slice_index y u ≡ max old (slice_index row u)) → slice_index z u ≡ old
    → slice_index (cond b y z) u ≡ max old (cond b (slice_index row u) 0)
told true y z row u old f e = f refl
told false y z row u old f e = e ∙ zero old
  where
    zero : (k : ℕ) → k ≡ max k 0
    zero k = omega arith

-- how often a thread has done something
folded-push : (f : ℕ → Entry → ℕ) (n : ℕ) (es : List Entry) (e : Entry) → fold f n (es ++ e ∷ []) ≡ f (fold f n es) e
folded-push f n [] e = refl
folded-push f n (x ∷ es) e = folded-push f (f n x) es e

count-push : (test : Entry → Bool) (es : List Entry) (e : Entry) → count_by test (es ++ e ∷ []) ≡ count_by test es + cond (test e) 1 0
count-push test es e = folded-push (λ n x. n + cond (test x) 1 0) 0 es e

pub notified-more : (t : ℕ) (es : List Entry) (e : Entry) (now old : ℕ) (b : Bool) → now ≡ old + cond ((e.thread == t) && b) 1 0 → b ≡ is_notify e.action → old ≡ notifies t es
    → now ≡ notifies t (es ++ e ∷ [])
notified-more t es e now old b h q k =
    h ∙ ap (λ z. z + cond ((e.thread == t) && b) 1 0) k ∙ ap (λ z. notifies t es + cond ((e.thread == t) && z) 1 0) q
    ∙ sym (count-push (λ x. (x.thread == t) && is_notify x.action) es e)

pub waited-more : (t : ℕ) (es : List Entry) (e : Entry) (now old : ℕ) (b : Bool) → now ≡ old + cond ((e.thread == t) && b) 1 0 → b ≡ is_wait e.action → old ≡ waits t es
    → now ≡ waits t (es ++ e ∷ [])
waited-more t es e now old b h q k =
    h ∙ ap (λ z. z + cond ((e.thread == t) && b) 1 0) k ∙ ap (λ z. waits t es + cond ((e.thread == t) && z) 1 0) q
    ∙ sym (count-push (λ x. (x.thread == t) && is_wait x.action) es e)

added-is : (e : Entry) (o : Option Channel) (u : ℕ) → added_by e.thread e.index o u ≡ added e o u
added-is e (Some k) u = refl
added-is e None u = refl

module _ (n : ℕ) (before : List Entry) (e : Entry) (s : Tables) (h : AreClocks n before s) where
  heard-is : (o : Option Channel) (u : ℕ) → heard_over s.channels o u ≡ heard (clocks before) o u
  heard-is (Some k) u = h.channels k u
  heard-is None u = refl

  module _ (rows more : List (List ℕ)) (hear tell : Option Channel) (hears : hear ≡ hearing before e) (tells : tell ≡ telling before e)
      (first : (t u : ℕ) → clock_at rows t u ≡ max (clock_at s.known.items t u) (cond (e.thread == t) (heard_over s.channels hear u) 0))
      (second : (t u : ℕ) → clock_at more t u ≡ max (clock_at rows t u) (cond (e.thread == t) (added_by e.thread e.index tell u) 0)) where
    known-is : e.thread < n → (u : ℕ) → clock_at more e.thread u ≡ known before (clocks before) e u
    known-is lt u =
        let t = e.thread in
        let yes : (t == t) ≡ true = eq-eqb t t refl in
        second t u
        ∙ ap (λ z. max (clock_at rows t u) z) (cond-true (t == t) (added_by t e.index tell u) 0 yes ∙ ap (λ o. added_by t e.index o u) tells ∙ added-is e (telling before e) u)
        ∙ ap (λ z. max z (added e (telling before e) u))
        (first t u
        ∙ ap (λ z. max (clock_at s.known.items t u) z) (cond-true (t == t) (heard_over s.channels hear u) 0 yes ∙ ap (λ o. heard_over s.channels o u) hears ∙ heard-is (hearing before e) u)
        ∙ ap (λ z. max z (heard (clocks before) (hearing before e) u)) (h.threads t u lt))

    none : (t u : ℕ) → (e.thread == t) ≡ false → clock_at more t u ≡ clock_at s.known.items t u
    none t u f =
        let a = first t u in
        let b = second t u in
        let x : cond {A = ℕ} (e.thread == t) (heard_over s.channels hear u) 0 ≡ 0 = cond-false (e.thread == t) (heard_over s.channels hear u) 0 f in
        let y : cond {A = ℕ} (e.thread == t) (added_by e.thread e.index tell u) 0 ≡ 0 =
        cond-false (e.thread == t) (added_by e.thread e.index tell u) 0 f in
        omega arith

    pub threads-more : e.thread < n → (t u : ℕ) → t < n → clock_at more t u ≡ (clocks (before ++ e ∷ [])).threads t u
    threads-more lt t u below =
        let k = known before (clocks before) e u in
        let old = (clocks before).threads t u in
        elim (cases_eq t e.thread) [
          | inl q ↦
              subst (λ z. clock_at more z u ≡ k) (sym q) (known-is lt u)
              ∙ sym (cond-true (t == e.thread) k old (eq-eqb t e.thread q))
          | inr d ↦
              none t u (ne_eqb e.thread t (λ q. d (sym q))) ∙ h.threads t u below
              ∙ sym (cond-false (t == e.thread) k old (ne_eqb t e.thread d))
        ]
        ∙ sym (ap (λ z. z.threads t u) (clocks-push before e))

    pub channels-more : e.thread < n → (ch : Channels)
        → ((k : Channel) (u : ℕ) → clock_over ch k u ≡ max (clock_over s.channels k u) (cond (is_over k tell) (clock_at more e.thread u) 0))
        → (k : Channel) (u : ℕ) → clock_over ch k u ≡ (clocks (before ++ e ∷ [])).channels k u
    channels-more lt ch third k u =
        let old = (clocks before).channels k u in
        let now = known before (clocks before) e u in
        let b = is_over k (telling before e) in
        let is : clock_over ch k u ≡ max old (cond b now 0) =
        third k u ∙ ap (λ z. max z (cond (is_over k tell) (clock_at more e.thread u) 0)) (h.channels k u)
        ∙ ap (λ o. max old (cond (is_over k o) (clock_at more e.thread u) 0)) tells
        ∙ ap (λ z. max old (cond b z 0)) (known-is lt u) in
        is ∙ share b old now ∙ sym (ap (λ z. z.channels k u) (clocks-push before e))
      where
        share : (b : Bool) (x y : ℕ) → max x (cond b y 0) ≡ cond b (max x y) x
        share true x y = refl
        share false x y = omega arith
