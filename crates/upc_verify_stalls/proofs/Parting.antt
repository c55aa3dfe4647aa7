-- The entries that a record emits, parted at a Stall.
use Rattle.std.proofs.Common.{◌≡◌, ℕ, ◌+◌, ◌≤◌, ◌<◌, true, false, List, [], ◌∷◌, ◌++◌, length, Option, get_or, refl, sym, ap, subst, ◌∙◌, append_assoc, append-nil, arith, inl, inr}
use Rattle.std.proofs.lemmas.Bool.{false≢true, cases_lt}
use Rattle.std.proofs.lemmas.List.{length-append, length-map, map-append}
use Rattle.std.proofs.Math.ListN.{get_or-append}
use Rattle.std.proofs.Math.Seq.{get_or-append_seam}
use Rattle.upc_values.specs.declared.action.Action.{Action}
use Rattle.upc_values.specs.declared.action.Action.TheVariants.{Lock, Wait}
use Rattle.upc_values.specs.declared.action.Reply.{Reply}
use Rattle.upc_values.specs.declared.record.Item.{Item}
use Rattle.upc_values.specs.declared.record.Item.TheVariants.{Did, Stall}
use Rattle.upc_values.specs.declared.journal.Entry.{Entry}
use Rattle.upc_values.specs.Lists.{Each, Pairwise}
use Rattle.upc_values.specs.Drain.{Commit, commit_of, Walk, start, emptied, passed, stepped, walked_from, walked, commits, drain, entries_in, entry_of}
use Rattle.upc_values.specs.Records.{actions_of}
use Rattle.upc_values.specs.Strands.{may_wait, MayWait, first_is_stall, next_action, StallsStand}
use Rattle.upc_values.proofs.Lists.{each-at}
use Rattle.upc_values.proofs.Membership.{each-append, each-weaker}
use Rattle.upc_values.proofs.Walks.{walked-push}
use Rattle.upc_verify_stalls.specs.code.Points.{Waiting, waitings, AreBelow}
use Rattle.upc_verify_stalls.proofs.Since.{IsFrom, IsUnder, Since, since-stepped, since-walked, under-walked, next-walked}

walked_from-append : (t : ℕ) (w : Walk) (xs ys : List Item) → walked_from t w (xs ++ ys) ≡ walked_from t (walked_from t w xs) ys
walked_from-append t w [] ys = refl
walked_from-append t w (x ∷ xs) ys = walked_from-append t (stepped t w x) xs ys

each-entries : (P : ℕ → Type 0) (cs : List Commit) → Each (λ c. P c.entry.index) cs → Each (λ e. P e.index) (entries_in cs)
each-entries P [] h = tt
each-entries P (c ∷ cs) h = (h.0, each-entries P cs h.1)

-- where nothing is pending, a walk emits at its end what it has emitted, and more
pub record Ends (n : ℕ) (before : List Commit) (all : List Entry) : Type 0 where
  pub more : List Entry
  pub is : all ≡ entries_in before ++ more
  pub from : Each (λ e. n ≤ e.index) more

since-ends : (t n : ℕ) (b : List Commit) (xs rest : List Item) → Since n b (walked t xs) → Ends n b (drain t (xs ++ rest))
since-ends t n b xs rest s =
    let w = walked_from t (walked t xs) rest in
    let e = since-walked t n b (walked t xs) rest s in
    record {
      more = entries_in (e.more ++ w.pending);
      is =
          ap (λ v. entries_in (emptied v).emitted) (walked_from-append t start xs rest)
          ∙ ap entries_in (ap (λ l. l ++ w.pending) e.is ∙ append_assoc b e.more w.pending)
          ∙ map-append (λ c. c.entry) b (e.more ++ w.pending);
      from = each-entries (λ k. n ≤ k) (e.more ++ w.pending) (each-append (IsFrom n) e.more w.pending e.emitted e.pending);
    }

since-stall : (t : ℕ) (before : List Item) → Since (length (actions_of before)) (commits t before) (walked t (before ++ Stall ∷ []))
since-stall t before =
    let n = length (actions_of before) in
    let k = next-walked t before in
    subst (Since n (commits t before)) (sym (walked-push t before Stall))
    (record {
      more = [];
      is = sym (append-nil (commits t before));
      emitted = tt;
      pending = tt;
      next = omega arith;
    })

under-drain : (t : ℕ) (before : List Item) → Each (λ e. e.index < length (actions_of before)) (drain t before)
under-drain t before =
    let w = walked t before in
    let u = under-walked t before in
    each-entries (λ k. k < length (actions_of before)) (w.emitted ++ w.pending)
    (subst (λ n. Each (IsUnder n) (w.emitted ++ w.pending)) (next-walked t before)
    (each-append (IsUnder w.next) w.emitted w.pending u.emitted u.pending))

-- a record with a Stall: its entries are those of the items before it, which are numbered below the next action, and
-- others, which are numbered from there on
pub record PartsAt (t : ℕ) (before rest : List Item) : Type 0 where
  pub more : List Entry
  pub is : drain t (before ++ Stall ∷ rest) ≡ drain t before ++ more
  pub under : Each (λ e. e.index < length (actions_of before)) (drain t before)
  pub from : Each (λ e. length (actions_of before) ≤ e.index) more

pub parts-at : (t : ℕ) (before rest : List Item) → PartsAt t before rest
parts-at t before rest =
    let n = length (actions_of before) in
    let e = since-ends t n (commits t before) (before ++ Stall ∷ []) rest (since-stall t before) in
    record {
      more = e.more;
      is = ap (drain t) (sym (append_assoc before (Stall ∷ []) rest)) ∙ e.is;
      under = under-drain t before;
      from = e.from;
    }

-- fewer would not do: the next is numbered below n too
not-fewer : (entries front more : List Entry) (n k : ℕ) → entries ≡ front ++ more → Each (λ e. e.index < n) front
    → AreBelow entries n k → k < length front → ⊥
not-fewer entries [] more n k is under b lt = omega arith
not-fewer entries (y ∷ ys) more n k is under b lt =
    let long : k < length entries = omega (arith, ap length is, length-append (y ∷ ys) more) in
    let at : get_or entries k y ≡ get_or (y ∷ ys) k y = ap (λ l. get_or l k y) is ∙ get_or-append (y ∷ ys) more y k lt in
    let low : (get_or (y ∷ ys) k y).index < n = each-at (λ (e : Entry). e.index < n) (y ∷ ys) k y under lt in
    let high : n ≤ (get_or entries k y).index = b.stop y long in
    let same : (get_or entries k y).index ≡ (get_or (y ∷ ys) k y).index = ap (λ (e : Entry). e.index) at in
    omega arith

-- nor would more: the first of the others is not numbered below n
not-more : (entries front more : List Entry) (n k : ℕ) → entries ≡ front ++ more → Each (λ e. n ≤ e.index) more
    → AreBelow entries n k → length front < k → ⊥
not-more entries front [] n k is from b lt =
    let le = b.within in omega (arith, ap length is, length-append {A = Entry} front [])
not-more entries front (x ∷ more) n k is from b lt =
    let low : (get_or entries (length front) x).index < n = b.less (length front) x lt in
    let at : get_or entries (length front) x ≡ x =
    ap (λ l. get_or l (length front) x) is ∙ get_or-append_seam front x more x in
    let same : (get_or entries (length front) x).index ≡ x.index = ap (λ (e : Entry). e.index) at in
    let high = from.0 in
    omega arith

-- the entries below a number are those of the front
pub below-front : (entries front more : List Entry) (n k : ℕ) → entries ≡ front ++ more → Each (λ e. e.index < n) front
    → Each (λ e. n ≤ e.index) more → AreBelow entries n k → k ≡ length front
below-front entries front more n k is under from b =
    elim (cases_lt k (length front)) [
      | inl lt ↦ absurd (not-fewer entries front more n k is under b lt)
      | inr le ↦ elim (cases_lt (length front) k) [
        | inl lt ↦ absurd (not-more entries front more n k is from b lt)
        | inr ge ↦ omega arith
      ]
    ]

since-length : (t n : ℕ) (b : List Commit) (before : List Item) → Since n b (walked t before) → length b ≤ length (drain t before)
since-length t n b before s =
    let w = walked t before in
    let all : drain t before ≡ entries_in b ++ entries_in (s.more ++ w.pending) =
    ap (λ l. entries_in (l ++ w.pending)) s.is ∙ ap entries_in (append_assoc b s.more w.pending)
    ∙ map-append (λ c. c.entry) b (s.more ++ w.pending) in
    let k = length-map b (λ (c : Commit). c.entry) in
    omega (arith, ap length all, length-append (entries_in b) (entries_in (s.more ++ w.pending)))

-- before each further Stall stand at least so many entries
pub since-waitings : (t n : ℕ) (b : List Commit) (want : Option Action) (before items : List Item) → Since n b (walked t before)
    → Each (λ w. length b ≤ w.entries) (waitings t want before items)
since-waitings t n b want before [] s = tt
since-waitings t n b want before (Did a r ∷ items) s =
    since-waitings t n b want (before ++ Did a r ∷ []) items
    (subst (Since n b) (sym (walked-push t before (Did a r))) (since-stepped t n b (walked t before) (Did a r) s))
since-waitings t n b want before (Stall ∷ items) s = (
  since-length t n b before s,
  since-waitings t n b want (before ++ Stall ∷ []) items
      (subst (Since n b) (sym (walked-push t before Stall)) (since-stepped t n b (walked t before) Stall s)),
)

-- a Lock or a Wait is emitted at once
waits-passed : (t : ℕ) (w : Walk) (a : Action) (r : Reply) → may_wait a ≡ true
    → stepped t w (Did a r) ≡ passed (entry_of t w.next a r) (emptied w)
waits-passed t w (Lock l) r h = refl
waits-passed t w (Wait m) r h = refl
waits-passed t w a r h = absurd (false≢true h)

-- so it is one more entry before each further Stall
after-waiting : (t : ℕ) (want : Option Action) (before items : List Item) (a : Action) (r : Reply) → may_wait a ≡ true
    → Each (λ w. length (drain t before) < w.entries) (waitings t want ((before ++ Stall ∷ []) ++ Did a r ∷ []) items)
after-waiting t want before items a r h =
    let w0 = walked t (before ++ Stall ∷ []) in
    let e = entry_of t w0.next a r in
    let b = (emptied w0).emitted ++ commit_of e ∷ [] in
    let is : walked t ((before ++ Stall ∷ []) ++ Did a r ∷ []) ≡ passed e (emptied w0) =
    walked-push t (before ++ Stall ∷ []) (Did a r) ∙ waits-passed t w0 a r h in
    let s : Since 0 b (passed e (emptied w0)) =
    record { more = []; is = sym (append-nil b); emitted = tt; pending = tt; next = omega arith } in
    let same : (emptied w0).emitted ≡ commits t before =
    ap (λ v. (emptied v).emitted) (walked-push t before Stall) ∙ append-nil (commits t before) in
    let one : length b ≡ length (drain t before) + 1 =
    omega (arith, length-append (emptied w0).emitted (commit_of e ∷ []), ap length same, length-map (commits t before) (λ (c : Commit). c.entry)) in
    each-weaker (λ (w : Waiting). length b ≤ w.entries) (λ (w : Waiting). length (drain t before) < w.entries) (λ w k. omega arith)
    (waitings t want ((before ++ Stall ∷ []) ++ Did a r ∷ []) items)
    (since-waitings t 0 b want ((before ++ Stall ∷ []) ++ Did a r ∷ []) items (subst (Since 0 b) (sym is) s))

after-stall : (t : ℕ) (want : Option Action) (before items : List Item) → first_is_stall items ≡ false → MayWait (next_action want items)
    → Each (λ w. length (drain t before) < w.entries) (waitings t want (before ++ Stall ∷ []) items)
after-stall t want before [] f h = tt
after-stall t want before (Stall ∷ items) f h = absurd (false≢true (sym f))
after-stall t want before (Did a r ∷ items) f h = after-waiting t want before items a r h

-- the Stalls of a record have ever more entries before them
pub waitings-ascend : (t : ℕ) (want : Option Action) (before items : List Item) → StallsStand want items
    → Pairwise (λ v w. v.entries < w.entries) (waitings t want before items)
waitings-ascend t want before [] h = tt
waitings-ascend t want before (Did a r ∷ items) h = waitings-ascend t want (before ++ Did a r ∷ []) items h
waitings-ascend t want before (Stall ∷ items) h =
    (after-stall t want before items h.0 h.1, waitings-ascend t want (before ++ Stall ∷ []) items h.2)
