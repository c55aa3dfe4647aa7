-- A thread's operations in phases: each begins with a strict one.
use Rattle.std.proofs.Common.{◌≡◌, ℕ, ◌+◌, ◌*◌, ◌<◌, ◌≤◌, ◌==◌, true, false, cond, List, [], ◌∷◌, ◌⊎◌, refl, sym, ap, ◌∙◌, subst, eq-eqb, eqb-true, inl, inr, arith}
use Rattle.std.proofs.lemmas.Bool.{cond_both, cond-true, cond-false, cases_Bool, false≢true, false_from_ne_true}
use Rattle.upc_values.specs.declared.action.Action.TheVariants.{Notify}
use Rattle.upc_values.specs.declared.action.Reply.TheVariants.{Done}
use Rattle.upc_values.specs.declared.record.Item.{Item}
use Rattle.upc_values.specs.declared.record.Item.TheVariants.{Did, Stall}
use Rattle.upc_values.specs.Operations.{Operation, Access, Nothing, Reads, Writes, Writes_sync, Reads_sync, Writes_and_reads_sync, access, operations_by, accesses_of}
use Rattle.upc_values.specs.Orders.{operations_from, rank}
use Rattle.upc_values.specs.Lists.{Each, Has, Pairwise}
use Rattle.upc_values.proofs.Membership.{each-has, each-from, each-append, each-weaker, pairs-insert}
use Rattle.upc_values.proofs.Own.{IsNew, new-item}
use Rattle.race_report.specs.Serial.{until_strict, relaxed_after, begins_notified}

-- in program order
abbrev pub Sorted : List Operation → Type 0
Sorted os = Pairwise (λ a b. rank a < rank b) os

-- of thread t, from action n on
abbrev pub IsLater : ℕ → ℕ → Operation → Type 0
IsLater t n o = (o.thread ≡ t) × (n ≤ o.index)

later-from : (t n : ℕ) (items : List Item) → Each (IsLater t n) (operations_from t n items)
later-from t n [] = tt
later-from t n (Stall ∷ items) = later-from t n items
later-from t n (Did a r ∷ items) =
    each-append (IsLater t n) (accesses_of t n a r) (operations_from t (n + 1) items)
    (each-weaker (IsNew t n) (IsLater t n) (λ o q. (q.0, let e : o.index ≡ n = q.1 in omega arith)) (accesses_of t n a r) (new-item t n (Did a r)))
    (each-weaker (IsLater t (n + 1)) (IsLater t n) (λ o q. (q.0, let e : n + 1 ≤ o.index = q.1 in omega arith)) (operations_from t (n + 1) items)
    (later-from t (n + 1) items))

fence-rank : (n : ℕ) → 2 * n + 0 < 2 * n + 1
fence-rank n = omega arith

sorted-accesses : (t n : ℕ) (x : Access) → Sorted (operations_by t n x)
sorted-accesses t n Nothing = tt
sorted-accesses t n (Reads l s v) = (tt, tt)
sorted-accesses t n (Writes l s v) = (tt, tt)
sorted-accesses t n Writes_sync = (tt, tt)
sorted-accesses t n Reads_sync = (tt, tt)
sorted-accesses t n Writes_and_reads_sync = ((fence-rank n, tt), (tt, tt))

rank-low : (o : Operation) → cond {A = ℕ} o.write 0 1 ≤ 1
rank-low o = cond_both {A = ℕ} o.write 0 1 (λ z. z ≤ 1) (λ e. omega arith) (λ e. omega arith)

sorted-from : (t n : ℕ) (items : List Item) → Sorted (operations_from t n items)
sorted-from t n [] = tt
sorted-from t n (Stall ∷ items) = sorted-from t n items
sorted-from t n (Did a r ∷ items) =
    let os = operations_from t (n + 1) items in
    pairs-insert (λ a b. rank a < rank b) [] (accesses_of t n a r) os (sorted-from t (n + 1) items)
    (sorted-accesses t n (access a r)) tt
    (each-weaker (IsNew t n) (λ x. Each (λ y. rank x < rank y) os)
    (λ x q.
    each-weaker (IsLater t (n + 1)) (λ y. rank x < rank y)
    (λ y k.
    let e : x.index ≡ n = q.1 in
    let l : n + 1 ≤ y.index = k.1 in
    let low = rank-low x in omega arith) os (later-from t (n + 1) items))
    (accesses_of t n a r) (new-item t n (Did a r)))

pub sorted-own : (t : ℕ) (items : List Item) → Sorted (operations_from t 0 items)
sorted-own t items = sorted-from t 0 items

pub thread-own : (t : ℕ) (items : List Item) (o : Operation) → Has (operations_from t 0 items) o → o.thread ≡ t
thread-own t items o m = (each-has (IsLater t 0) (operations_from t 0 items) (later-from t 0 items) o m).0

-- the record of a run begins with a strict operation
pub none-first : (t : ℕ) (items : List Item) → begins_notified items ≡ true → until_strict (operations_from t 0 items) ≡ []
none-first t (Did (Notify m) Done ∷ items) h = refl
none-first t items h = absurd (false≢true h)

-- two of one rank are one
pub one-rank : (os : List Operation) → Sorted os → (a b : Operation) → Has os a → Has os b → rank a ≡ rank b → a ≡ b
one-rank [] s a b h k e = absurd h
one-rank (x ∷ os) s a b (inl p) (inl q) e = sym p ∙ q
one-rank (x ∷ os) s a b (inl p) (inr k) e =
    let l : rank x < rank b = each-has (λ z. rank x < rank z) os s.0 b k in
    let r : rank x ≡ rank a = ap rank p in absurd (omega arith)
one-rank (x ∷ os) s a b (inr h) (inl q) e =
    let l : rank x < rank a = each-has (λ z. rank x < rank z) os s.0 a h in
    let r : rank x ≡ rank b = ap rank q in absurd (omega arith)
one-rank (x ∷ os) s a b (inr h) (inr k) e = one-rank os s.1 a b h k e

-- up to the first strict one
until-has : (os : List Operation) (a : Operation) → Has (until_strict os) a → Has os a
until-has [] a = λ h. absurd h
until-has (o ∷ os) a =
    cond_both o.strict [] (o ∷ until_strict os) (λ l. Has l a → Has (o ∷ os) a) (λ e h. absurd h)
    (λ e h. elim h [ inl q ↦ inl q | inr m ↦ inr (until-has os a m) ])

until-sorted : (os : List Operation) → Sorted os → Sorted (until_strict os)
until-sorted [] s = tt
until-sorted (o ∷ os) s =
    cond_both o.strict [] (o ∷ until_strict os) Sorted (λ e. tt)
    (λ e. (
      each-from (λ z. rank o < rank z) (until_strict os) (λ b m. each-has (λ z. rank o < rank z) os s.0 b (until-has os b m)),
      until-sorted os s.1,
    ))

until-before : (os : List Operation) → Sorted os → (a u : Operation) → Has (until_strict os) a → Has os u → u.strict ≡ true → rank a < rank u
until-before [] s a u h k t = absurd h
until-before (o ∷ os) s a u h k t =
    cond_both o.strict [] (o ∷ until_strict os) (λ l. Has l a → rank a < rank u) (λ e g. absurd g)
    (λ e g.
    let further : Has os u → rank a < rank u =
    λ m. elim g [
      | inl q ↦ subst (λ z. rank z < rank u) q (each-has (λ z. rank o < rank z) os s.0 u m)
      | inr n ↦ until-before os s.1 a u n m t
    ] in
    elim k [ inl q ↦ absurd (false≢true (sym e ∙ ap (λ z. z.strict) q ∙ t)) | inr m ↦ further m ])
    h

-- after the operation with a rank
rank-found : (r : ℕ) (os : List Operation) (a : Operation) → Has (relaxed_after r os) a → (s : Operation) × Has os s × (rank s ≡ r)
rank-found r [] a = λ h. absurd h
rank-found r (o ∷ os) a =
    cond_both (rank o == r) (until_strict os) (relaxed_after r os)
    (λ l. Has l a → (s : Operation) × Has (o ∷ os) s × (rank s ≡ r))
    (λ e h. (o, inl refl, eqb-true (rank o) r e)) (λ e h. let k = rank-found r os a h in (k.0, inr k.1, k.2))

pub after-has : (r : ℕ) (os : List Operation) → Sorted os → (a : Operation) → Has (relaxed_after r os) a → Has os a × (r < rank a)
after-has r [] s a = λ h. absurd h
after-has r (o ∷ os) s a =
    cond_both (rank o == r) (until_strict os) (relaxed_after r os) (λ l. Has l a → Has (o ∷ os) a × (r < rank a))
    (λ e h.
    let m = until-has os a h in
    let k : rank o < rank a = each-has (λ z. rank o < rank z) os s.0 a m in
    let q : rank o ≡ r = eqb-true (rank o) r e in (inr m, omega arith))
    (λ e h. let k = after-has r os s.1 a h in (inr k.0, k.1))

pub after-sorted : (r : ℕ) (os : List Operation) → Sorted os → Sorted (relaxed_after r os)
after-sorted r [] s = tt
after-sorted r (o ∷ os) s =
    cond_both (rank o == r) (until_strict os) (relaxed_after r os) Sorted (λ e. until-sorted os s.1)
    (λ e. after-sorted r os s.1)

-- no strict one stands between
pub after-last : (r : ℕ) (os : List Operation) → Sorted os → (a u : Operation) → Has (relaxed_after r os) a → Has os u → u.strict ≡ true → rank u ≤ rank a → rank u ≤ r
after-last r [] s a u h k t le = absurd h
after-last r (o ∷ os) s a u h k t le =
    cond_both (rank o == r) (until_strict os) (relaxed_after r os) (λ l. Has l a → rank u ≤ r)
    (λ e g.
    let q : rank o ≡ r = eqb-true (rank o) r e in
    elim k [
      | inl p ↦ let z : rank o ≡ rank u = ap rank p in omega arith
      | inr m ↦ let z : rank a < rank u = until-before os s.1 a u g m t in absurd (omega arith)
    ])
    (λ e g.
    elim k [
      | inl p ↦
          let z : rank o ≡ rank u = ap rank p in
          let found = rank-found r os a g in
          let y : rank o < rank found.0 = each-has (λ w. rank o < rank w) os s.0 found.0 found.1 in
          let x : rank found.0 ≡ r = found.2 in omega arith
      | inr m ↦ after-last r os s.1 a u g m t le
    ])
    h

-- the strict operation that a phase begins with
pub record Led (os : List Operation) (a : Operation) : Type 0 where
  pub lead : Operation
  pub has : Has os lead
  pub strict : lead.strict ≡ true
  pub in_phase : (lead ≡ a) ⊎ Has (relaxed_after (rank lead) os) a

led-more : (o : Operation) (os : List Operation) → Sorted (o ∷ os) → (a : Operation) → Led os a → Led (o ∷ os) a
led-more o os s a k =
    let less : rank o < rank k.lead = each-has (λ z. rank o < rank z) os s.0 k.lead k.has in
    let other : (rank o == rank k.lead) ≡ false =
    false_from_ne_true (rank o == rank k.lead) (λ t. let q : rank o ≡ rank k.lead = eqb-true (rank o) (rank k.lead) t in omega arith) in
    record {
      lead = k.lead;
      has = inr k.has;
      strict = k.strict;
      in_phase =
          elim k.in_phase [
            | inl e ↦ inl e
            | inr m ↦
                inr (subst (λ l. Has l a) (sym (cond-false (rank o == rank k.lead) (until_strict os) (relaxed_after (rank k.lead) os) other)) m)
          ];
    }

led-or-before : (os : List Operation) → Sorted os → (a : Operation) → Has os a → Led os a ⊎ Has (until_strict os) a
led-or-before [] s a h = absurd h
led-or-before (o ∷ os) s a (inl q) =
    elim (cases_Bool o.strict) [
      | inl t ↦ inl (record { lead = o; has = inl refl; strict = t; in_phase = inl q })
      | inr f ↦ inr (subst (λ l. Has l a) (sym (cond-false o.strict [] (o ∷ until_strict os) f)) (inl q))
    ]
led-or-before (o ∷ os) s a (inr m) =
    elim (led-or-before os s.1 a m) [
      | inl k ↦ inl (led-more o os s a k)
      | inr n ↦ elim (cases_Bool o.strict) [
        | inl t ↦
            inl (record {
              lead = o;
              has = inl refl;
              strict = t;
              in_phase =
                  inr
                  (subst (λ l. Has l a) (sym (cond-true (rank o == rank o) (until_strict os) (relaxed_after (rank o) os) (eq-eqb (rank o) (rank o) refl))) n);
            })
        | inr f ↦ inr (subst (λ l. Has l a) (sym (cond-false o.strict [] (o ∷ until_strict os) f)) (inr n))
      ]
    ]

pub led : (os : List Operation) → Sorted os → until_strict os ≡ [] → (a : Operation) → Has os a → Led os a
led os s none a h =
    elim (led-or-before os s a h) [ inl k ↦ k | inr n ↦ absurd (subst (λ l. Has l a) none n) ]
