-- What the walk says of the Stalls of all threads.
use Rattle.std.proofs.Common.{◌≡◌, ◌↔◌, ℕ, ◌<◌, List, [], ◌∷◌, ◌++◌, ◌+◌, length, map, get_or, replicate, Option, Some, None, MatchOption, Result, Ok, Err, IfOk, Bor, sym, ap, subst, ◌∙◌, inl, inr, arith}
use Rattle.std.proofs.lemmas.Bool.{cases_lt, cases_eq}
use Rattle.std.proofs.lemmas.List.{get_or-replicate, get_or_push, get_or_append_left}
use Rattle.upc_values.specs.declared.action.Action.{Action}
use Rattle.upc_values.specs.declared.journal.Entry.{Entry}
use Rattle.upc_values.specs.declared.journal.Journal.{Journal}
use Rattle.upc_values.specs.Lists.{Each}
use Rattle.upc_values.specs.Openings.{Opening}
use Rattle.upc_values.specs.Orders.{record_of}
use Rattle.upc_values.specs.Strands.{StallsStand}
use Rattle.upc_verify_parts.specs.Parts.{StallsHold, FailsFirst, HoldsOfEach}
use Rattle.upc_verify_stalls.specs.declared.points.Point.{Point}
use Rattle.upc_verify_stalls.specs.declared.walk.Watch.{Watch}
use Rattle.upc_verify_stalls.specs.code.Points.{waiting_of, waitings, WaitsOnce}
use Rattle.upc_verify_stalls.specs.code.Watches.{AreDue, AreLooked, IsDone, StallsWait}
use Rattle.upc_verify_stalls.specs.layer.Wants.{want_of, ArePointsOf}
use Rattle.upc_verify_stalls.proofs.Pointing.{points-are, justified-each}
use Rattle.upc_verify_stalls.proofs.Watching.{due-none, looked-all, looked-open}

-- ---- equivalent facts

pub each-so : (n : ℕ) (P Q : ℕ → Type 0) → ((t : ℕ) → t < n → P t ↔ Q t) → HoldsOfEach n P → HoldsOfEach n Q
each-so n P Q e h = λ t lt. (e t lt).0 (h t lt)

pub first-so : (n : ℕ) (P Q : ℕ → Type 0) (t : ℕ) → ((u : ℕ) → u < n → P u ↔ Q u) → FailsFirst n P t → FailsFirst n Q t
first-so n P Q t e f =
    let within = f.within in
    record {
      within = within;
      fails = λ q. f.fails ((e t within).1 q);
      before = λ u lt. (e u (omega arith)).0 (f.before u lt);
    }

-- the first thread of which something fails, if there is one
pub broken-so : (r : Option ℕ) (n m : ℕ) (P Q : ℕ → Type 0) → n ≡ m → ((t : ℕ) → t < n → P t ↔ Q t)
    → MatchOption r (HoldsOfEach n P) (FailsFirst n P) → MatchOption r (HoldsOfEach m Q) (FailsFirst m Q)
broken-so None n m P Q e so h = subst (λ k. HoldsOfEach k Q) e (each-so n P Q so h)
broken-so (Some t) n m P Q e so h = subst (λ k. FailsFirst k Q t) e (first-so n P Q t so h)

-- ---- the Stalls of one thread more

pub points-more : (j : Journal) (wants : List (Option (Bor Action))) (before after : List (List Point)) (points : List Point) (n : ℕ)
    → after ≡ before ++ points ∷ [] → length before ≡ n
    → ((t : ℕ) → t < n → map waiting_of (get_or before t []) ≡ waitings t (want_of wants t) [] (record_of j t))
    → map waiting_of points ≡ waitings n (want_of wants n) [] (record_of j n)
    → (t : ℕ) → t < n + 1 → map waiting_of (get_or after t []) ≡ waitings t (want_of wants t) [] (record_of j t)
points-more j wants before after points n is many each here t lt =
    elim (cases_eq t n) [
      | inl q ↦
          ap (map waiting_of) (ap (λ l. get_or l t []) is ∙ get_or_push before points [] t (many ∙ sym q)) ∙ here
          ∙ ap (λ k. waitings k (want_of wants k) [] (record_of j k)) (sym q)
      | inr other ↦
          ap (map waiting_of) (ap (λ l. get_or l t []) is ∙ get_or_append_left before (points ∷ []) [] t (omega arith)) ∙ each t (omega arith)
    ]

-- ---- before the walk

-- new watches have passed nothing
pub watch-new : (n : ℕ) (ws : List Watch) (w : Watch) → ws ≡ replicate n w → w.passed ≡ 0 → w.justified ≡ 0
    → (t : ℕ) (d : Watch) → t < n → ((get_or ws t d).passed ≡ 0) × ((get_or ws t d).justified ≡ 0)
watch-new n ws w is p j t d lt =
    let here : get_or ws t d ≡ w = ap (λ l. get_or l t d) is ∙ get_or-replicate n t w d lt in
    (ap (λ (v : Watch). v.passed) here ∙ p, ap (λ (v : Watch). v.justified) here ∙ j)

pub all-due : (o : Opening) (j : Journal) (wants : List (Option (Bor Action))) (points : List (List Point)) (watches : List Watch)
    → length watches ≡ length points → ((t : ℕ) (d : Watch) → t < length points → ((get_or watches t d).passed ≡ 0) × ((get_or watches t d).justified ≡ 0))
    → ArePointsOf j wants points → HoldsOfEach j.threads (λ t. StallsStand (want_of wants t) (record_of j t))
    → AreDue o points [] watches
all-due o j wants points watches many zero are stand =
    record {
      many = many;
      each = λ t d lt.
          let z = zero t d lt in
          let within : t < j.threads = let k = are.many in omega arith in
          due-none o t (get_or points t []) (get_or watches t d) z.0 z.1
          (points-are t (want_of wants t) (record_of j t) (get_or points t []) (stand t within) (are.each t within));
    }

-- ---- after it

-- all Stalls of a thread were found justified exactly where each waits at some time
pub done-waits : (o : Opening) (history : List Entry) (points : List (List Point)) (watches : List Watch)
    → AreLooked o points history watches → (t : ℕ) → t < length points
    → IsDone points watches t ↔ StallsWait o history points t
done-waits o history points watches looked t lt =
    let ps = get_or points t [] in
    let none : Watch = record { passed = 0; justified = 0 } in (
      λ done. looked-all o t ps history (get_or watches t none) (done none) (looked.each t none lt),
      λ wait d.
          elim (cases_lt (get_or watches t d).justified (length ps)) [
            | inl short ↦ absurd (looked-open o t ps history (get_or watches t d) short (looked.each t d lt) wait)
            | inr le ↦ le
          ],
    )

-- so the first thread with a Stall that does not is known
pub looked-broken : (o p : Opening) (points : List (List Point)) (watches : List Watch) (front history : List Entry) (r : Option ℕ) (n : ℕ)
    → p ≡ o → front ≡ history → n ≡ p.threads → length points ≡ n → AreLooked p points front watches
    → MatchOption r (HoldsOfEach n (IsDone points watches)) (FailsFirst n (IsDone points watches))
    → MatchOption r (HoldsOfEach o.threads (StallsWait o history points)) (FailsFirst o.threads (StallsWait o history points))
looked-broken o p points watches front history r n e q k many h m =
    let looked : AreLooked o points history watches =
    subst (λ z. AreLooked z points history watches) e (subst (λ es. AreLooked p points es watches) q h) in
    broken-so r n o.threads (IsDone points watches) (StallsWait o history points) (k ∙ ap (λ (z : Opening). z.threads) e)
    (λ t lt. done-waits o history points watches looked t (omega arith)) m

-- and each waits at some time exactly where the Stalls hold
pub waits-hold : (o : Opening) (j : Journal) (wants : List (Option (Bor Action))) (points : List (List Point))
    → ArePointsOf j wants points → (t : ℕ) → t < j.threads → StallsWait o j.history points t ↔ StallsHold o j (want_of wants t) t
waits-hold o j wants points are t lt =
    let so = justified-each o t j.history (want_of wants t) [] (record_of j t) in (
      λ wait. so.1 (subst (Each (WaitsOnce o t j.history)) (are.each t lt) wait),
      λ holds. subst (Each (WaitsOnce o t j.history)) (sym (are.each t lt)) (so.0 holds),
    )

ok-weaker : {T E : Type 0} (r : Result T E) (P Q : T → Type 0) → ((x : T) → P x → Q x) → IfOk r P → IfOk r Q
ok-weaker (Ok x) P Q f h = f x h
ok-weaker (Err e) P Q f h = tt

pub broken-hold : {E : Type 0} (o : Opening) (j : Journal) (wants : List (Option (Bor Action))) (points : List (List Point))
    (r : Result (Option ℕ) E) → j.threads ≡ o.threads → ArePointsOf j wants points
    → IfOk r (λ b. MatchOption b (HoldsOfEach o.threads (StallsWait o j.history points)) (FailsFirst o.threads (StallsWait o j.history points)))
    → IfOk r (λ b. MatchOption b (HoldsOfEach j.threads (λ t. StallsHold o j (want_of wants t) t)) (FailsFirst j.threads (λ t. StallsHold o j (want_of wants t) t)))
broken-hold o j wants points r e are h =
    let P = StallsWait o j.history points in
    let Q = λ (t : ℕ). StallsHold o j (want_of wants t) t in
    ok-weaker r (λ b. MatchOption b (HoldsOfEach o.threads P) (FailsFirst o.threads P))
    (λ b. MatchOption b (HoldsOfEach j.threads Q) (FailsFirst j.threads Q))
    (λ b k. broken-so b o.threads j.threads P Q (sym e) (λ t lt. waits-hold o j wants points are t (omega arith)) k) h
