-- A walk over the history that looks at the Stalls of the threads.
use Rattle.std.proofs.Common.{◌≡◌, ◌≢◌, ℕ, ◌+◌, ◌≤◌, ◌<◌, List, [], ◌∷◌, ◌++◌, length, map, get_or, set, None, refl, sym, ap, subst, ◌∙◌, append_assoc, append-nil, arith, inl, inr}
use Rattle.std.proofs.lemmas.Bool.{cases_eq}
use Rattle.std.proofs.lemmas.List.{length-append, length-set, get_or_default, get_or-set_same, get_or-set_other}
use Rattle.upc_values.specs.declared.journal.Entry.{Entry}
use Rattle.upc_values.specs.Lists.{Each, Pairwise}
use Rattle.upc_values.specs.Drain.{entries_of}
use Rattle.upc_values.specs.Openings.{Opening}
use Rattle.upc_values.specs.History.{reply}
use Rattle.upc_values.proofs.Lists.{each-at}
use Rattle.upc_values.proofs.Walks.{entries_of-append, entries-own, entries-other}
use Rattle.upc_verify_stalls.specs.declared.points.Point.{Point}
use Rattle.upc_verify_stalls.specs.declared.walk.Watch.{Watch}
use Rattle.upc_verify_stalls.specs.code.Points.{Waiting, waiting_of, WaitsAfter, WaitsOnce}
use Rattle.upc_verify_stalls.specs.code.Watches.{ArePoints, IsPassed, IsDue, IsLooked, AreDue, AreLooked}

-- ---- lists

-- a member, and the next
pairs-at : (points : List Point) (i : ℕ) (d : Point) → i + 1 < length points → Pairwise (λ p q. p.entries < q.entries) points
    → (get_or points i d).entries < (get_or points (i + 1) d).entries
pairs-at [] i d lt h = absurd (omega arith)
pairs-at (p ∷ points) ℕ.zero d lt h =
    each-at (λ q. p.entries < q.entries) points 0 d h.0 (omega arith)
pairs-at (p ∷ points) (ℕ.suc i) d lt h =
    subst (λ k. (get_or (p ∷ points) (ℕ.suc i) d).entries < (get_or (p ∷ points) k d).entries)
    (let e : ℕ.suc (i + 1) ≡ ℕ.suc i + 1 = omega arith in e) (pairs-at points i d (omega arith) h.1)

each-build : (o : Opening) (t : ℕ) (front : List Entry) (points : List Point)
    → ((i : ℕ) (d : Point) → i < length points → WaitsOnce o t front (waiting_of (get_or points i d)))
    → Each (WaitsOnce o t front) (map waiting_of points)
each-build o t front [] h = tt
each-build o t front (p ∷ points) h = (
  h 0 p (omega arith),
  each-build o t front points (λ i d lt. h (ℕ.suc i) d (omega arith)),
)

each-read : (P : Waiting → Type 0) (points : List Point) → Each P (map waiting_of points) → Each (λ p. P (waiting_of p)) points
each-read P [] h = tt
each-read P (p ∷ points) h = (h.0, each-read P points h.1)

-- ---- fronts

-- a front with something after it in a list with one more entry is a front of the list
pub shorter-front : (front shorter rest : List Entry) (x e : Entry) → front ++ x ∷ [] ≡ shorter ++ e ∷ rest
    → (more : List Entry) × (front ≡ shorter ++ more)
shorter-front front [] rest x e h = (front, refl)
shorter-front [] (y ∷ []) rest x e h = absurd cc
shorter-front [] (y ∷ z ∷ ys) rest x e h = absurd cc
shorter-front (f ∷ fs) (y ∷ ys) rest x e h =
    let one : f ≡ y = cc in
    let tail : fs ++ x ∷ [] ≡ ys ++ e ∷ rest = cc in
    let more = shorter-front fs ys rest x e tail in
    (more.0, ap (λ l. f ∷ l) more.1 ∙ ap (λ z. z ∷ (ys ++ more.0)) one)

-- a front has no more entries of a thread
pub front-few : (t : ℕ) (front shorter rest : List Entry) → front ≡ shorter ++ rest
    → length (entries_of t shorter) ≤ length (entries_of t front)
front-few t front shorter rest h =
    omega (arith, ap (λ l. length (entries_of t l)) h, ap length (entries_of-append t shorter rest), length-append (entries_of t shorter) (entries_of t rest))

waits-longer : (o : Opening) (t : ℕ) (front more : List Entry) (w : Waiting) → WaitsOnce o t front w → WaitsOnce o t (front ++ more) w
waits-longer o t front more w h =
    record { front = h.front; rest = h.rest ++ more; is = ap (λ l. l ++ more) h.is ∙ append_assoc h.front h.rest more; waits = h.waits }

-- no front has something after it in an empty list
no-front : (shorter rest : List Entry) (e : Entry) → [] ≡ shorter ++ e ∷ rest → ⊥
no-front [] rest e h = cc
no-front (x ∷ xs) rest e h = cc

-- ---- one entry more

count-own : (t : ℕ) (front : List Entry) (e : Entry) → e.thread ≡ t → length (entries_of t (front ++ e ∷ [])) ≡ length (entries_of t front) + 1
count-own t front e h =
    omega (arith, ap length (entries_of-append t front (e ∷ [])), length-append (entries_of t front) (entries_of t (e ∷ [])), ap length (entries-own t e h))

count-other : (t : ℕ) (front : List Entry) (e : Entry) → (t ≢ e.thread) → length (entries_of t (front ++ e ∷ [])) ≡ length (entries_of t front)
count-other t front e h =
    omega (arith, ap length (entries_of-append t front (e ∷ [])), length-append (entries_of t front) (entries_of t (e ∷ [])), ap length (entries-other e.thread t (e ∷ []) h (refl, tt)))

passed-more : (o : Opening) (t : ℕ) (points : List Point) (front : List Entry) (e : Entry) (v w : Watch)
    → w.justified ≡ v.justified → w.passed ≡ length (entries_of t (front ++ e ∷ [])) → IsPassed o t points front v
    → IsPassed o t points (front ++ e ∷ []) w
passed-more o t points front e v w j p h =
    record {
      points = h.points;
      passed = p;
      within = let k = h.within in omega arith;
      justified = λ i d lt. waits-longer o t front (e ∷ []) (waiting_of (get_or points i d)) (h.justified i d (omega arith));
    }

due-more : (o : Opening) (t : ℕ) (points : List Point) (front : List Entry) (e : Entry) (v w : Watch)
    → w.justified ≡ v.justified → w.passed ≡ length (entries_of t (front ++ e ∷ [])) → IsLooked o t points front v
    → IsDue o t points (front ++ e ∷ []) w
due-more o t points front e v w j p h =
    record {
      at = passed-more o t points front e v w j p h.at;
      before = λ d shorter rest x lt is waits.
          let more = shorter-front front shorter rest e x is in
          h.before d shorter more.0 (omega arith) more.1
          (subst (λ i. WaitsAfter o t (waiting_of (get_or points i d)) shorter) j waits);
    }

-- the entry is the thread's own
pub due-own : (o : Opening) (t : ℕ) (points : List Point) (front : List Entry) (e : Entry) (v w : Watch) → e.thread ≡ t
    → w.justified ≡ v.justified → w.passed ≡ v.passed + 1 → IsLooked o t points front v → IsDue o t points (front ++ e ∷ []) w
due-own o t points front e v w own j p h =
    let k = h.at.passed in
    due-more o t points front e v w j (omega (arith, count-own t front e own)) h

-- the entry is another thread's
pub due-other : (o : Opening) (t : ℕ) (points : List Point) (front : List Entry) (e : Entry) (v : Watch) → (t ≢ e.thread)
    → IsLooked o t points front v → IsDue o t points (front ++ e ∷ []) v
due-other o t points front e v other h =
    let k = h.at.passed in
    due-more o t points front e v v refl (omega (arith, count-other t front e other)) h

-- before the first entry
pub due-none : (o : Opening) (t : ℕ) (points : List Point) (w : Watch) → w.passed ≡ 0 → w.justified ≡ 0 → ArePoints points
    → IsDue o t points [] w
due-none o t points w p j h =
    record {
      at =
          record { points = h; passed = p; within = omega arith; justified = λ i d lt. absurd (omega arith) };
      before = λ d shorter rest e lt is waits. no-front shorter rest e is;
    }

-- ---- a look

-- what a front that justifies a Stall says of the Stall's action
waits-here : (o : Opening) (t : ℕ) (front : List Entry) (p : Point) (passed : ℕ) → passed ≡ length (entries_of t front)
    → WaitsAfter o t (waiting_of p) front → (p.entries ≡ passed) × (reply o front t p.action.now ≡ None)
waits-here o t front p passed k w =
    let same : p.action.now ≡ w.action = let q = w.wants in cc in
    (sym w.many ∙ sym k, ap (reply o front t) same ∙ w.none)

here-waits : (o : Opening) (t : ℕ) (front : List Entry) (p : Point) (passed : ℕ) → passed ≡ length (entries_of t front)
    → p.entries ≡ passed → reply o front t p.action.now ≡ None → WaitsAfter o t (waiting_of p) front
here-waits o t front p passed k e n = record { many = sym k ∙ sym e; action = p.action.now; wants = refl; none = n }

-- where no Stall is left, there is nothing to look at
pub looked-done : (o : Opening) (t : ℕ) (points : List Point) (front : List Entry) (w : Watch) → length points ≤ w.justified
    → IsDue o t points front w → IsLooked o t points front w
looked-done o t points front w le h =
    record { at = h.at; before = λ d shorter rest lt is waits. omega arith }

-- the next Stall is not justified by this front
pub looked-not : (o : Opening) (t : ℕ) (points : List Point) (front : List Entry) (w : Watch) (p : Point)
    → w.justified < length points → p ≡ get_or points w.justified p
    → ((p.entries ≡ w.passed) × (reply o front t p.action.now ≡ None) → ⊥)
    → IsDue o t points front w → IsLooked o t points front w
looked-not o t points front w p lt is never h =
    let same : (d : Point) → get_or points w.justified d ≡ p =
    λ d. get_or_default points w.justified d p lt ∙ sym is in
    record {
      at = h.at;
      before = λ d shorter rest l.
          let P : List Entry → Type 0 =
          λ r. front ≡ shorter ++ r → WaitsAfter o t (waiting_of (get_or points w.justified d)) shorter → ⊥ in
          elim rest as P [
            | [] ↦ λ q waits.
                never (waits-here o t front p w.passed h.at.passed
                (subst (λ z. WaitsAfter o t (waiting_of z) front) (same d)
                (subst (WaitsAfter o t (waiting_of (get_or points w.justified d))) (sym (append-nil shorter) ∙ sym q) waits)))
            | e ∷ more ↦ λ q waits. h.before d shorter more e l q waits
          ];
    }

-- it is
pub looked-yes : (o : Opening) (t : ℕ) (points : List Point) (front : List Entry) (v w : Watch) (p : Point)
    → v.justified < length points → p ≡ get_or points v.justified p → p.entries ≡ v.passed → reply o front t p.action.now ≡ None
    → w.passed ≡ v.passed → w.justified ≡ v.justified + 1 → IsDue o t points front v → IsLooked o t points front w
looked-yes o t points front v w p lt is e n wp wj h =
    let here : WaitsOnce o t front (waiting_of p) =
    record {
      front = front;
      rest = [];
      is = sym (append-nil front);
      waits = here-waits o t front p v.passed h.at.passed e n;
    } in
    record {
      at =
          record {
            points = h.at.points;
            passed = wp ∙ h.at.passed;
            within = omega arith;
            justified = λ i d l.
                elim (cases_eq i v.justified) [
                  | inl q ↦
                      subst (λ z. WaitsOnce o t front (waiting_of z))
                      (is ∙ get_or_default points v.justified p d lt ∙ ap (λ k. get_or points k d) (sym q)) here
                  | inr q ↦ h.at.justified i d (omega arith)
                ];
          };
      before = λ d shorter rest l q waits.
          let next : v.justified + 1 < length points = omega arith in
          let less : p.entries < (get_or points (v.justified + 1) d).entries =
          subst (λ (z : Point). z.entries < (get_or points (v.justified + 1) d).entries) (get_or_default points v.justified d p lt ∙ sym is)
          (pairs-at points v.justified d next h.at.points.ascend) in
          let many : length (entries_of t shorter) ≡ (get_or points (v.justified + 1) d).entries =
          waits.many ∙ ap (λ (k : ℕ). (get_or points k d).entries) wj in
          let few = front-few t front shorter rest q in
          let k = h.at.passed in
          omega arith;
    }

-- ---- at the end

-- all Stalls were found justified: each is
pub looked-all : (o : Opening) (t : ℕ) (points : List Point) (front : List Entry) (w : Watch) → length points ≤ w.justified
    → IsLooked o t points front w → Each (WaitsOnce o t front) (map waiting_of points)
looked-all o t points front w le h =
    each-build o t front points (λ i d lt. h.at.justified i d (omega arith))

-- else one is not
pub looked-open : (o : Opening) (t : ℕ) (points : List Point) (front : List Entry) (w : Watch) → w.justified < length points
    → IsLooked o t points front w → Each (WaitsOnce o t front) (map waiting_of points) → ⊥
looked-open o t [] front w lt h each = omega arith
looked-open o t (p ∷ points) front w lt h each =
    let once : WaitsOnce o t front (waiting_of (get_or (p ∷ points) w.justified p)) =
    each-at (λ z. WaitsOnce o t front (waiting_of z)) (p ∷ points) w.justified p (each-read (WaitsOnce o t front) (p ∷ points) each) lt in
    h.before p once.front once.rest lt once.is once.waits

-- ---- all threads

-- the same Stalls and watch
pub due-same : (o : Opening) (t : ℕ) (ps qs : List Point) (front : List Entry) (v w : Watch) → ps ≡ qs → v ≡ w
    → IsDue o t ps front v → IsDue o t qs front w
due-same o t ps qs front v w p q h =
    subst (λ l. IsDue o t l front w) p (subst (IsDue o t ps front) q h)

pub looked-same : (o : Opening) (t : ℕ) (ps qs : List Point) (front : List Entry) (v w : Watch) → ps ≡ qs → v ≡ w
    → IsLooked o t ps front v → IsLooked o t qs front w
looked-same o t ps qs front v w p q h =
    subst (λ l. IsLooked o t l front w) p (subst (IsLooked o t ps front) q h)

-- a change of one thread's watch
pub set-before : (Q : ℕ → Watch → Type 0) (ws : List Watch) (k : ℕ) (w : Watch) → k < length ws
    → ((t : ℕ) (d : Watch) → t < k → Q t (get_or ws t d)) → Q k w
    → (t : ℕ) (d : Watch) → t < k + 1 → Q t (get_or (set ws k w) t d)
set-before Q ws k w within before here t d lt =
    elim (cases_eq t k) [
      | inl q ↦
          subst (λ i. Q i (get_or (set ws k w) i d)) (sym q)
          (subst (Q k) (sym (get_or-set_same ws k w d within)) here)
      | inr n ↦ subst (Q t) (sym (get_or-set_other ws k t w d n)) (before t d (omega arith))
    ]

pub set-after : (P : ℕ → Watch → Type 0) (n : ℕ) (ws : List Watch) (k : ℕ) (w : Watch)
    → ((t : ℕ) (d : Watch) → k ≤ t → t < n → P t (get_or ws t d))
    → (t : ℕ) (d : Watch) → k + 1 ≤ t → t < n → P t (get_or (set ws k w) t d)
set-after P n ws k w after t d le lt =
    let other : t ≡ k → ⊥ = λ q. omega arith in
    subst (P t) (sym (get_or-set_other ws k t w d other)) (after t d (omega arith) lt)

-- one entry more is passed
pub due-all : (o : Opening) (points : List (List Point)) (front : List Entry) (e : Entry) (ws : List Watch) (v w : Watch)
    → e.thread < length ws → v ≡ get_or ws e.thread v → w.passed ≡ v.passed + 1 → w.justified ≡ v.justified
    → AreLooked o points front ws → AreDue o points (front ++ e ∷ []) (set ws e.thread w)
due-all o points front e ws v w within is p j h =
    record {
      many = length-set ws e.thread w ∙ h.many;
      each = λ t d lt.
          elim (cases_eq t e.thread) [
            | inl q ↦
                subst (λ z. IsDue o t (get_or points t []) (front ++ e ∷ []) z)
                (sym (ap (λ i. get_or (set ws e.thread w) i d) q ∙ get_or-set_same ws e.thread w d within))
                (due-own o t (get_or points t []) front e v w (sym q) j p
                (subst (IsLooked o t (get_or points t []) front) (ap (λ i. get_or ws i v) q ∙ sym is) (h.each t v lt)))
            | inr n ↦
                subst (λ z. IsDue o t (get_or points t []) (front ++ e ∷ []) z) (sym (get_or-set_other ws e.thread t w d n))
                (due-other o t (get_or points t []) front e (get_or ws t d) n (h.each t d lt))
          ];
    }
