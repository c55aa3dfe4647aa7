-- The clocks hold what is known, and no more.
use Rattle.std.proofs.Common.{◌≡◌, ℕ, ◌+◌, ◌<◌, ◌≤◌, ◌==◌, ◌&&◌, ◌||◌, Bool, true, false, cond, max, List, [], ◌∷◌, ◌++◌, Option, Some, None, is_some, ◌⊎◌, refl, sym, ap, ◌∙◌, subst, inl, inr, append_assoc, append-nil, eq-eqb, eqb-true, arith}
use Rattle.std.proofs.lemmas.Bool.{cases_Bool, cases_lt, cond-true, cond-false, cond_both, false≢true, or_left, or_right}
use Rattle.upc_values.specs.declared.journal.Entry.{Entry}
use Rattle.upc_values.proofs.Sameness.{same_loc-true, same_loc-itself}
use Rattle.race_report_clocks.specs.declared.channel.Channel.{Channel}
use Rattle.race_report_clocks.specs.declared.channel.Channel.TheVariants as over
use Rattle.race_report_clocks.specs.layer.Channels.{same_channel, telling, hearing, is_linked}
use Rattle.race_report_clocks.specs.layer.Clocks.{Clocks, silent, heard, added, known, is_over, advanced, clocks_from, clocks}
use Rattle.race_report_clocks.specs.layer.Knowing.{Knows, Itself, By_own, By_other, ClocksHold}
use Rattle.race_report_clocks.proofs.Splits.{At, no-cut, at-more, at-end, at-cases}

-- channels
pub channel-is : (k h : Channel) → same_channel k h ≡ true → k ≡ h
channel-is (over.Phase n) (over.Phase m) e = ap over.Phase (eqb-true n m e)
channel-is (over.Lock n) (over.Lock m) e = ap over.Lock (eqb-true n m e)
channel-is (over.Cell l) (over.Cell k) e = ap over.Cell (same_loc-true l k e)
channel-is (over.Phase n) (over.Lock m) e = absurd (false≢true e)
channel-is (over.Phase n) (over.Cell m) e = absurd (false≢true e)
channel-is (over.Lock n) (over.Phase m) e = absurd (false≢true e)
channel-is (over.Lock n) (over.Cell m) e = absurd (false≢true e)
channel-is (over.Cell n) (over.Phase m) e = absurd (false≢true e)
channel-is (over.Cell n) (over.Lock m) e = absurd (false≢true e)

pub channel-itself : (k : Channel) → same_channel k k ≡ true
channel-itself (over.Phase n) = eq-eqb n n refl
channel-itself (over.Lock n) = eq-eqb n n refl
channel-itself (over.Cell l) = same_loc-itself l

over-is : (k : Channel) (o : Option Channel) → is_over k o ≡ true → o ≡ Some k
over-is k (Some h) e = ap (λ z. Some z) (channel-is h k e)
over-is k None e = absurd (false≢true e)

is-over : (k : Channel) (o : Option Channel) → o ≡ Some k → is_over k o ≡ true
is-over k o e = subst (λ z. is_over k z ≡ true) (sym e) (channel-itself k)

some-is : (o : Option Channel) (k : Channel) → o ≡ Some k → is_some o ≡ true
some-is o k e = ap is_some e

-- numbers
below-max : (i a b : ℕ) → i < max a b → (i < a) ⊎ (i < b)
below-max i a b h = elim (cases_lt i a) [ inl l ↦ inl l | inr g ↦ elim (cases_lt i b) [ inl l ↦ inr l | inr k ↦ absurd (omega arith) ] ]

-- a linked entry of a thread among these knows
record Since (before : List Entry) (t u i : ℕ) : Type 0 where
  front : List Entry
  entry : Entry
  at : At before front entry
  thread : entry.thread ≡ t
  linked : is_linked front entry ≡ true
  knows : Knows u i front entry

-- an entry among these that lets others go on over a channel knows
record Over (before : List Entry) (k : Channel) (u i : ℕ) : Type 0 where
  front : List Entry
  entry : Entry
  at : At before front entry
  tells : telling front entry ≡ Some k
  knows : Knows u i front entry

-- the clocks after these entries hold what is known
record Hold (before : List Entry) (c : Clocks) : Type 0 where
  thread_only : (t u i : ℕ) → i < c.threads t u → Since before t u i
  thread_all : (t u i : ℕ) → Since before t u i → i < c.threads t u
  channel_only : (k : Channel) (u i : ℕ) → i < c.channels k u → Over before k u i
  channel_all : (k : Channel) (u i : ℕ) → Over before k u i → i < c.channels k u

since-more : (before : List Entry) (e : Entry) (t u i : ℕ) → Since before t u i → Since (before ++ e ∷ []) t u i
since-more before e t u i s =
    record {
      front = s.front;
      entry = s.entry;
      at = at-more before (e ∷ []) s.front s.entry s.at;
      thread = s.thread;
      linked = s.linked;
      knows = s.knows;
    }

over-more : (before : List Entry) (e : Entry) (k : Channel) (u i : ℕ) → Over before k u i → Over (before ++ e ∷ []) k u i
over-more before e k u i s =
    record {
      front = s.front;
      entry = s.entry;
      at = at-more before (e ∷ []) s.front s.entry s.at;
      tells = s.tells;
      knows = s.knows;
    }

module _ (before : List Entry) (c : Clocks) (h : Hold before c) (e : Entry) where
  from-thread : (u i : ℕ) → Since before e.thread u i → Knows u i before e
  from-thread u i s = By_own before s.front s.at.rest s.entry e s.at.is s.thread s.linked s.knows

  from-heard : (u i : ℕ) (o : Option Channel) → hearing before e ≡ o → i < heard c o u → Knows u i before e
  from-heard u i (Some k) q l =
      let s = h.channel_only k u i l in By_other before s.front s.at.rest s.entry e k s.at.is s.tells q s.knows
  from-heard u i None q l = absurd (omega arith)

  from-added : (u i : ℕ) (o : Option Channel) → telling before e ≡ o → i < added e o u → Knows u i before e
  from-added u i None q = λ l. absurd (omega arith)
  from-added u i (Some k) q =
      cond_both (e.thread == u) (e.index + 1) 0 (λ z. i < z → Knows u i before e)
      (λ t l. Itself before e k q (eqb-true e.thread u t) (omega arith)) (λ t l. absurd (omega arith))

  known-only : (u i : ℕ) → i < known before c e u → Knows u i before e
  known-only u i l =
      let a = c.threads e.thread u in
      let b = heard c (hearing before e) u in
      elim (below-max i (max a b) (added e (telling before e) u) l) [
        | inl m ↦ elim (below-max i a b m) [
          | inl n ↦ from-thread u i (h.thread_only e.thread u i n)
          | inr n ↦ from-heard u i (hearing before e) refl n
        ]
        | inr n ↦ from-added u i (telling before e) refl n
      ]

  by-thread : (u i : ℕ) → i < c.threads e.thread u → i < known before c e u
  by-thread u i l = omega arith

  by-heard : (u i : ℕ) → i < heard c (hearing before e) u → i < known before c e u
  by-heard u i l = omega arith

  by-added : (u i : ℕ) → i < added e (telling before e) u → i < known before c e u
  by-added u i l = omega arith

  added-is : (u i : ℕ) (k : Channel) → e.thread ≡ u → i ≤ e.index → i < added e (Some k) u
  added-is u i k t l =
      subst (λ z. i < z) (sym (cond-true (e.thread == u) (e.index + 1) 0 (eq-eqb e.thread u t))) (omega arith)

known-all : (u i : ℕ) (before : List Entry) (e : Entry) → Knows u i before e → (c : Clocks) → Hold before c → i < known before c e u
known-all u i _ _ (Itself before e k q t l) c h =
    by-added before c h e u i (subst (λ o. i < added e o u) (sym q) (added-is before c h e u i k t l))
known-all u i _ _ (By_own before front rest d e is t linked k) c h =
    by-thread before c h e u i
    (h.thread_all e.thread u i
    (record { front = front; entry = d; at = record { rest = rest; is = is }; thread = t; linked = linked; knows = k }))
known-all u i _ _ (By_other before front rest d e k is tells hears n) c h =
    by-heard before c h e u i
    (subst (λ o. i < heard c o u) (sym hears)
    (h.channel_all k u i
    (record { front = front; entry = d; at = record { rest = rest; is = is }; tells = tells; knows = n })))

-- what is known with an entry, its thread knows after it
known-since : (u i : ℕ) (before : List Entry) (e : Entry) → Knows u i before e → Since (before ++ e ∷ []) e.thread u i
known-since u i _ _ (Itself before e k q t l) =
    record {
      front = before;
      entry = e;
      at = at-end before e;
      thread = refl;
      linked = or_left (is_some (telling before e)) (is_some (hearing before e)) (some-is (telling before e) k q);
      knows = Itself before e k q t l;
    }
known-since u i _ _ (By_own before front rest d e is t linked k) =
    since-more before e e.thread u i
    (record { front = front; entry = d; at = record { rest = rest; is = is }; thread = t; linked = linked; knows = k })
known-since u i _ _ (By_other before front rest d e k is tells hears n) =
    record {
      front = before;
      entry = e;
      at = at-end before e;
      thread = refl;
      linked = or_right (is_some (telling before e)) (is_some (hearing before e)) (some-is (hearing before e) k hears);
      knows = By_other before front rest d e k is tells hears n;
    }

-- what stands at the end or before it
since-cases : (before : List Entry) (e : Entry) (t u i : ℕ) → Since (before ++ e ∷ []) t u i
    → ((e.thread ≡ t) × Knows u i before e) ⊎ Since before t u i
since-cases before e t u i s =
    elim (at-cases before e s.front s.entry s.at.rest s.at.is) [
      | inl p ↦ inl (
        ap (λ z. z.thread) p.1 ∙ s.thread,
        subst (λ z. Knows u i before z) (sym p.1) (subst (λ z. Knows u i z s.entry) (sym p.0) s.knows),
      )
      | inr a ↦
          inr (record { front = s.front; entry = s.entry; at = a; thread = s.thread; linked = s.linked; knows = s.knows })
    ]

over-cases : (before : List Entry) (e : Entry) (k : Channel) (u i : ℕ) → Over (before ++ e ∷ []) k u i
    → ((telling before e ≡ Some k) × Knows u i before e) ⊎ Over before k u i
over-cases before e k u i s =
    elim (at-cases before e s.front s.entry s.at.rest s.at.is) [
      | inl p ↦ inl (
        subst (λ z. telling before z ≡ Some k) (sym p.1) (subst (λ z. telling z s.entry ≡ Some k) (sym p.0) s.tells),
        subst (λ z. Knows u i before z) (sym p.1) (subst (λ z. Knows u i z s.entry) (sym p.0) s.knows),
      )
      | inr a ↦ inr (record { front = s.front; entry = s.entry; at = a; tells = s.tells; knows = s.knows })
    ]

module _ (before : List Entry) (c : Clocks) (h : Hold before c) (e : Entry) where
  next-thread_only : (t u i : ℕ) → i < (advanced before c e).threads t u → Since (before ++ e ∷ []) t u i
  next-thread_only t u i =
      cond_both (t == e.thread) (known before c e u) (c.threads t u) (λ z. i < z → Since (before ++ e ∷ []) t u i)
      (λ q l.
      subst (λ z. Since (before ++ e ∷ []) z u i) (sym (eqb-true t e.thread q))
      (known-since u i before e (known-only before c h e u i l)))
      (λ q l. since-more before e t u i (h.thread_only t u i l))

  next-thread_all : (t u i : ℕ) → Since (before ++ e ∷ []) t u i → i < (advanced before c e).threads t u
  next-thread_all t u i s =
      elim (since-cases before e t u i s) [
        | inl p ↦
            subst (λ z. i < z) (sym (cond-true (t == e.thread) (known before c e u) (c.threads t u) (eq-eqb t e.thread (sym p.0))))
            (known-all u i before e p.1 c h)
        | inr o ↦
            cond_both (t == e.thread) (known before c e u) (c.threads t u) (λ z. i < z)
            (λ q. by-thread before c h e u i (subst (λ z. i < c.threads z u) (eqb-true t e.thread q) (h.thread_all t u i o)))
            (λ q. h.thread_all t u i o)
      ]

  next-channel_only : (k : Channel) (u i : ℕ) → i < (advanced before c e).channels k u → Over (before ++ e ∷ []) k u i
  next-channel_only k u i =
      cond_both (is_over k (telling before e)) (max (c.channels k u) (known before c e u)) (c.channels k u)
      (λ z. i < z → Over (before ++ e ∷ []) k u i)
      (λ q l. elim (below-max i (c.channels k u) (known before c e u) l) [
        | inl m ↦ over-more before e k u i (h.channel_only k u i m)
        | inr m ↦
            record {
              front = before;
              entry = e;
              at = at-end before e;
              tells = over-is k (telling before e) q;
              knows = known-only before c h e u i m;
            }
      ])
      (λ q l. over-more before e k u i (h.channel_only k u i l))

  more-left : (i a b : ℕ) → i < a → i < max a b
  more-left i a b l = omega arith

  more-right : (i a b : ℕ) → i < b → i < max a b
  more-right i a b l = omega arith

  next-channel_all : (k : Channel) (u i : ℕ) → Over (before ++ e ∷ []) k u i → i < (advanced before c e).channels k u
  next-channel_all k u i s =
      let both = max (c.channels k u) (known before c e u) in
      elim (over-cases before e k u i s) [
        | inl p ↦
            subst (λ z. i < z) (sym (cond-true (is_over k (telling before e)) both (c.channels k u) (is-over k (telling before e) p.0)))
            (more-right i (c.channels k u) (known before c e u) (known-all u i before e p.1 c h))
        | inr o ↦
            cond_both (is_over k (telling before e)) both (c.channels k u) (λ z. i < z)
            (λ q. more-left i (c.channels k u) (known before c e u) (h.channel_all k u i o)) (λ q. h.channel_all k u i o)
      ]

  next-hold : Hold (before ++ e ∷ []) (advanced before c e)
  next-hold =
      record {
        thread_only = next-thread_only;
        thread_all = next-thread_all;
        channel_only = next-channel_only;
        channel_all = next-channel_all;
      }

none-at : (front : List Entry) (d : Entry) → At [] front d → ⊥
none-at front d a = no-cut front a.rest d a.is

first-hold : Hold [] silent
first-hold =
    record {
      thread_only = λ t u i l. absurd (omega arith);
      thread_all = λ t u i s. absurd (none-at s.front s.entry s.at);
      channel_only = λ k u i l. absurd (omega arith);
      channel_all = λ k u i s. absurd (none-at s.front s.entry s.at);
    }

holds-from : (before es : List Entry) (c : Clocks) → Hold before c → Hold (before ++ es) (clocks_from before c es)
holds-from before [] c h = subst (λ z. Hold z c) (sym (append-nil before)) h
holds-from before (e ∷ es) c h =
    subst (λ z. Hold z (clocks_from (before ++ e ∷ []) (advanced before c e) es)) (append_assoc before (e ∷ []) es)
    (holds-from (before ++ e ∷ []) es (advanced before c e) (next-hold before c h e))

holds : (es : List Entry) → Hold es (clocks es)
holds es = holds-from [] es silent first-hold

pub all-held : ClocksHold
all-held u i before e =
    (known-only before (clocks before) (holds before) e u i, λ k. known-all u i before e k (clocks before) (holds before))
