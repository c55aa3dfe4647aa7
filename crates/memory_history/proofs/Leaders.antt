-- Leaders and meets of a history, by one more entry.
use Rattle.std.proofs.Common.{◌≡◌, ℕ, ◌+◌, ◌<◌, ◌≤◌, ◌==◌, Bool, true, false, cond, ◌&&◌, ◌⊎◌, inl, inr, List, [], ◌∷◌, ◌++◌, length, Option, Some, None, is_none, slice_get, refl, sym, ap, subst, ◌∙◌, append_assoc, append-nil, arith, length-append, eqb-true, eq-eqb, ne_eqb}
use Rattle.std.specs.Option.{option_or}
use Rattle.std.proofs.lemmas.Bool.{false≢true, cases_Bool, cases_eq, cases_order, and_parts, and_from, cond-true, cond-false}
use Rattle.std.proofs.lemmas.Option.{slice_get_past}
use Rattle.upc_values.specs.declared.action.Action.{Action}
use Rattle.upc_values.specs.declared.action.Action.TheVariants as act
use Rattle.upc_values.specs.declared.action.Reply.{Reply}
use Rattle.upc_values.specs.declared.action.Reply.TheVariants.{Done}
use Rattle.upc_values.specs.declared.journal.Entry.{Entry}
use Rattle.upc_values.specs.Calls.{Other}
use Rattle.upc_values.specs.Openings.{Opening}
use Rattle.upc_values.specs.History.{is_meet, meets, is_meet_of, Lead, leader_from, leader, asked, led, is_done, each_thread, all_met}
use Rattle.memory_history.specs.code.MeetsAfter.{done_below, is_done_reply}
use Rattle.memory_history.proofs.Growing.{one_if, length-one, meets-push, leader-push}

pub met_count-push : (u : ℕ) (es : List Entry) (e : Entry) → length (meets u (es ++ e ∷ [])) ≡ length (meets u es) + cond ((e.thread == u) && is_meet e.action) 1 0
met_count-push u es e =
    let own = (e.thread == u) && is_meet e.action in
    ap length (meets-push u es e) ∙ length-append (meets u es) (one_if own e) ∙ ap (λ n. length (meets u es) + n) (length-one own e)

-- ---- a thread meets no more often than there are leaders

few-more : (j : ℕ) (before : List Entry) (e : Entry) → is_meet_of j before e ≡ false → ((u : ℕ) → length (meets u before) ≤ j)
    → (u : ℕ) → length (meets u (before ++ e ∷ [])) ≤ j
few-more j before e h few u =
    let own = (e.thread == u) && is_meet e.action in
    let b : length (meets u before) ≤ j = few u in
    let more = met_count-push u before e in
    elim (cases_Bool own) [
      | inl holds ↦
          let p = and_parts (e.thread == u) (is_meet e.action) holds in
          let other : length (meets e.thread before) ≡ j → ⊥ =
          λ q. false≢true (sym h ∙ and_from (is_meet e.action) (length (meets e.thread before) == j) p.1 (eq-eqb (length (meets e.thread before)) j q)) in
          let same : e.thread ≡ u = eqb-true e.thread u p.0 in
          let here : length (meets u before) ≡ j → ⊥ = subst (λ v. length (meets v before) ≡ j → ⊥) same other in
          let one : cond {A = ℕ} own 1 0 ≡ 1 = cond-true own 1 0 holds in
          omega arith
      | inr fails ↦ let zero : cond {A = ℕ} own 1 0 ≡ 0 = cond-false own 1 0 fails in omega arith
    ]

no_lead : (b : Bool) (w : Lead) (o : Option Lead) → cond b (Some w) o ≡ None → (b ≡ false) × (o ≡ None)
no_lead true w o h = absurd cc
no_lead false w o h = (refl, h)

few-from : (j : ℕ) (before es : List Entry) → leader_from j before es ≡ None → ((u : ℕ) → length (meets u before) ≤ j)
    → (u : ℕ) → length (meets u (before ++ es)) ≤ j
few-from j before [] h few u = subst (λ b. length (meets u b) ≤ j) (sym (append-nil before)) (few u)
few-from j before (e ∷ es) h few u =
    let p = no_lead (is_meet_of j before e) (record { before = before; entry = e }) (leader_from j (before ++ e ∷ []) es) h in
    subst (λ b. length (meets u b) ≤ j) (append_assoc before (e ∷ []) es)
    (few-from j (before ++ e ∷ []) es p.1 (few-more j before e p.0 few) u)

-- where no entry leads the j-th call, no thread has met more than j times
pub few-met : (j : ℕ) (es : List Entry) → leader j es ≡ None → (u : ℕ) → length (meets u es) ≤ j
few-met j es h u = few-from j [] es h (λ v. omega arith) u

-- ---- what an entry leads

-- an entry that is no Meet leads nothing
asked-other : (a : Action) → is_meet a ≡ false → asked a ≡ Other
asked-other (act.Meet c args) h = absurd (false≢true (sym h))
asked-other a h = refl

-- both ways alike
pub cond_same : {X : Type 0} (b : Bool) (x : X) → cond b x x ≡ x
cond_same true x = refl
cond_same false x = refl

pub led-other : (es : List Entry) (e : Entry) → is_meet e.action ≡ false → led es e ≡ Other
led-other es e h =
    let b = is_none (leader (length (meets e.thread es)) es) in
    ap (λ c. cond b c Other) (asked-other e.action h) ∙ cond_same b Other

-- the leader of a call stays
pub leader-stays : (j : ℕ) (es : List Entry) (e : Entry) (w : Lead) → leader j es ≡ Some w → leader j (es ++ e ∷ []) ≡ Some w
leader-stays j es e w h =
    leader-push j es e
    ∙ ap (λ o. option_or o (cond (is_meet_of j es e) (Some (record { before = es; entry = e })) None)) h

-- where there is none, an entry that is a thread's j-th Meet is the leader
pub leader-new : (j : ℕ) (es : List Entry) (e : Entry) → leader j es ≡ None → is_meet_of j es e ≡ true
    → leader j (es ++ e ∷ []) ≡ Some (record { before = es; entry = e })
leader-new j es e h m =
    leader-push j es e
    ∙ ap (λ o. option_or o (cond (is_meet_of j es e) (Some (record { before = es; entry = e })) None)) h
    ∙ cond-true (is_meet_of j es e) (Some (record { before = es; entry = e })) None m

-- another entry leads it not
pub leader-none : (j : ℕ) (es : List Entry) (e : Entry) → leader j es ≡ None → is_meet_of j es e ≡ false
    → leader j (es ++ e ∷ []) ≡ None
leader-none j es e h m =
    leader-push j es e
    ∙ ap (λ o. option_or o (cond (is_meet_of j es e) (Some (record { before = es; entry = e })) None)) h
    ∙ cond-false (is_meet_of j es e) (Some (record { before = es; entry = e })) None m

-- ---- which threads have met with reply Done

get-old : {X : Type 0} (xs ys : List X) (j : ℕ) → j < length xs → slice_get (xs ++ ys) j ≡ slice_get xs j
get-old [] ys j lt = absurd (omega arith)
get-old (x ∷ xs) ys ℕ.zero lt = refl
get-old (x ∷ xs) ys (ℕ.suc j) lt = get-old xs ys j (omega arith)

get-new : {X : Type 0} (xs : List X) (y : X) → slice_get (xs ++ y ∷ []) (length xs) ≡ Some y
get-new [] y = refl
get-new (x ∷ xs) y = get-new xs y

get-other : {X : Type 0} (xs : List X) (y : X) (j : ℕ) → (length xs ≡ j → ⊥) → slice_get (xs ++ y ∷ []) j ≡ slice_get xs j
get-other xs y j ne =
    elim (cases_order j (length xs)) [
      | inl e ↦ absurd (ne (sym e))
      | inr (inl lt) ↦ get-old xs (y ∷ []) j lt
      | inr (inr gt) ↦
          let many : length (xs ++ y ∷ []) ≤ j = omega (arith, length-append xs (y ∷ [])) in
          slice_get_past (xs ++ y ∷ []) j many ∙ sym (slice_get_past xs j (omega arith))
    ]

-- the j-th Meet of a thread is not this entry
pub done-other : (u j : ℕ) (es : List Entry) (e : Entry) → ((e.thread == u) && is_meet_of j es e) ≡ false
    → slice_get (meets u (es ++ e ∷ [])) j ≡ slice_get (meets u es) j
done-other u j es e h =
    ap (λ l. slice_get l j) (meets-push u es e) ∙ go (cases_Bool ((e.thread == u) && is_meet e.action))
  where
    go : (((e.thread == u) && is_meet e.action) ≡ true) ⊎ (((e.thread == u) && is_meet e.action) ≡ false)
        → slice_get (meets u es ++ one_if ((e.thread == u) && is_meet e.action) e) j ≡ slice_get (meets u es) j
    go (inl holds) =
        let p = and_parts (e.thread == u) (is_meet e.action) holds in
        let same : e.thread ≡ u = eqb-true e.thread u p.0 in
        let other : length (meets u es) ≡ j → ⊥ =
        λ q. false≢true (sym h ∙ and_from (e.thread == u) (is_meet_of j es e) p.0
        (and_from (is_meet e.action) (length (meets e.thread es) == j) p.1
        (eq-eqb (length (meets e.thread es)) j (ap (λ v. length (meets v es)) same ∙ q)))) in
        ap (λ b. slice_get (meets u es ++ one_if b e) j) holds ∙ get-other (meets u es) e j other
    go (inr fails) = ap (λ b. slice_get (meets u es ++ one_if b e) j) fails ∙ ap (λ l. slice_get l j) (append-nil (meets u es))

-- it is this entry, and before it there was none
pub done-own : (j : ℕ) (es : List Entry) (e : Entry) → is_meet_of j es e ≡ true
    → (slice_get (meets e.thread es) j ≡ None) × (slice_get (meets e.thread (es ++ e ∷ [])) j ≡ Some e)
done-own j es e h =
    let p = and_parts (is_meet e.action) (length (meets e.thread es) == j) h in
    let last : length (meets e.thread es) ≡ j = eqb-true (length (meets e.thread es)) j p.1 in
    let own : ((e.thread == e.thread) && is_meet e.action) ≡ true =
    and_from (e.thread == e.thread) (is_meet e.action) (eq-eqb e.thread e.thread refl) p.0 in (
      slice_get_past (meets e.thread es) j (omega arith),
      ap (λ l. slice_get l j) (meets-push e.thread es e) ∙ ap (λ b. slice_get (meets e.thread es ++ one_if b e) j) own
          ∙ ap (λ n. slice_get (meets e.thread es ++ e ∷ []) n) (sym last) ∙ get-new (meets e.thread es) e,
    )

is_done-reply : (e : Entry) → is_done (Some e) ≡ is_done_reply e.reply
is_done-reply e = go e.reply
  where
    go : (r : Reply) → is_done (Some (record e { reply = r })) ≡ is_done_reply r
    go Done = refl
    go r = refl

-- how many threads have met in the j-th call with reply Done, where the entry is none of the first n threads'
below-same : (n j : ℕ) (es : List Entry) (e : Entry) → n ≤ e.thread → done_below n j (es ++ e ∷ []) ≡ done_below n j es
below-same ℕ.zero j es e h = refl
below-same (ℕ.suc n) j es e h =
    let none : ((e.thread == n) && is_meet_of j es e) ≡ false =
    ap (λ b. b && is_meet_of j es e) (ne_eqb e.thread n (λ q. omega arith)) in
    ap (λ x. cond {A = ℕ} (is_done x) 1 0 + done_below n j (es ++ e ∷ [])) (done-other n j es e none)
    ∙ ap (λ k. cond {A = ℕ} (is_done (slice_get (meets n es) j)) 1 0 + k) (below-same n j es e (omega arith))

-- where it is no thread's j-th Meet
pub done_below-other : (n j : ℕ) (es : List Entry) (e : Entry) → is_meet_of j es e ≡ false → done_below n j (es ++ e ∷ []) ≡ done_below n j es
done_below-other ℕ.zero j es e h = refl
done_below-other (ℕ.suc n) j es e h =
    let none : ((e.thread == n) && is_meet_of j es e) ≡ false =
    elim (e.thread == n) as (λ b. (b && is_meet_of j es e) ≡ false) [ true ↦ h | false ↦ refl ] in
    ap (λ x. cond {A = ℕ} (is_done x) 1 0 + done_below n j (es ++ e ∷ [])) (done-other n j es e none)
    ∙ ap (λ k. cond {A = ℕ} (is_done (slice_get (meets n es) j)) 1 0 + k) (done_below-other n j es e h)

swap_sum : (k r : ℕ) → r + k ≡ 0 + k + r
swap_sum k r = omega arith

-- where it is that of one of the first n threads
pub done_below-own : (n j : ℕ) (es : List Entry) (e : Entry) → is_meet_of j es e ≡ true → e.thread < n
    → done_below n j (es ++ e ∷ []) ≡ done_below n j es + cond (is_done_reply e.reply) 1 0
done_below-own ℕ.zero j es e h lt = absurd (omega arith)
done_below-own (ℕ.suc n) j es e h lt = go (cases_eq e.thread n) (λ b. done_below-own n j es e h b)
  where
    go : (e.thread ≡ n) ⊎ (e.thread ≡ n → ⊥)
        → (e.thread < n → done_below n j (es ++ e ∷ []) ≡ done_below n j es + cond (is_done_reply e.reply) 1 0)
        → done_below (ℕ.suc n) j (es ++ e ∷ []) ≡ done_below (ℕ.suc n) j es + cond (is_done_reply e.reply) 1 0
    go (inl q) below =
        let p = done-own j es e h in
        let was : slice_get (meets n es) j ≡ None = subst (λ v. slice_get (meets v es) j ≡ None) q p.0 in
        let now : slice_get (meets n (es ++ e ∷ [])) j ≡ Some e = subst (λ v. slice_get (meets v (es ++ e ∷ [])) j ≡ Some e) q p.1 in
        ap (λ x. cond {A = ℕ} (is_done x) 1 0 + done_below n j (es ++ e ∷ [])) now
        ∙ ap (λ b. cond {A = ℕ} b 1 0 + done_below n j (es ++ e ∷ [])) (is_done-reply e)
        ∙ ap (λ k. cond {A = ℕ} (is_done_reply e.reply) 1 0 + k) (below-same n j es e (omega arith))
        ∙ swap_sum (done_below n j es) (cond {A = ℕ} (is_done_reply e.reply) 1 0)
        ∙ ap (λ x. cond {A = ℕ} (is_done x) 1 0 + done_below n j es + cond {A = ℕ} (is_done_reply e.reply) 1 0) (sym was)
    go (inr ne) below =
        let none : ((e.thread == n) && is_meet_of j es e) ≡ false = ap (λ b. b && is_meet_of j es e) (ne_eqb e.thread n ne) in
        let one : cond {A = ℕ} (is_done (slice_get (meets n (es ++ e ∷ [])) j)) 1 0 ≡ cond {A = ℕ} (is_done (slice_get (meets n es) j)) 1 0 =
        ap (λ x. cond {A = ℕ} (is_done x) 1 0) (done-other n j es e none) in
        let rest = below (omega arith) in
        omega arith

-- ---- whether all threads have

one_more : (a b : ℕ) → (1 + a == ℕ.suc b) ≡ (a == b)
one_more a b =
    elim (cases_eq a b) [
      | inl e ↦ eq-eqb (1 + a) (ℕ.suc b) (omega arith) ∙ sym (eq-eqb a b e)
      | inr ne ↦ ne_eqb (1 + a) (ℕ.suc b) (λ q. ne (omega arith)) ∙ sym (ne_eqb a b ne)
    ]

pub done_below-most : (n j : ℕ) (es : List Entry) → done_below n j es ≤ n
done_below-most ℕ.zero j es = omega arith
done_below-most (ℕ.suc n) j es =
    let h = done_below-most n j es in
    elim (is_done (slice_get (meets n es) j)) as (λ b. cond {A = ℕ} b 1 0 + done_below n j es ≤ ℕ.suc n) [ true ↦ omega arith | false ↦ omega arith ]

pub each-count : (n j : ℕ) (es : List Entry) → each_thread n (λ u. is_done (slice_get (meets u es) j)) ≡ (done_below n j es == n)
each-count ℕ.zero j es = refl
each-count (ℕ.suc n) j es =
    let h = done_below-most n j es in
    elim (is_done (slice_get (meets n es) j))
    as (λ b. (b && each_thread n (λ u. is_done (slice_get (meets u es) j))) ≡ (cond {A = ℕ} b 1 0 + done_below n j es == ℕ.suc n)) [
      | true ↦ each-count n j es ∙ sym (one_more (done_below n j es) n)
      | false ↦ sym (ne_eqb (0 + done_below n j es) (ℕ.suc n) (λ q. omega arith))
    ]

-- all threads have met in the call where so many have
pub met-count : (o : Opening) (j : ℕ) (es : List Entry) → all_met o j es ≡ (done_below o.threads j es == o.threads)
met-count o j es = each-count o.threads j es
