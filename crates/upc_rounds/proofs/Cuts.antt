-- Where a history may be cut into parts.
use Rattle.std.proofs.Common.{◌≡◌, ℕ, ◌==◌, true, false, cond, List, [], ◌∷◌, ◌++◌, Option, refl, sym, ap, subst, ◌∙◌, append-nil, append_assoc, inl, inr}
use Rattle.std.specs.Prelude.{◌⊎◌, ◌+◌, ◌&&◌, nat_lt, Some, None, is_some, slice_get}
use Rattle.std.proofs.Common.{arith}
use Rattle.std.proofs.lemmas.List.Sums.{sum_by-append}
use Rattle.std.proofs.lemmas.Bool.{cases_Bool, cond_both, false≢true, lt-ltb}
use Rattle.upc_values.specs.declared.record.Item.{Item}
use Rattle.upc_values.specs.declared.record.Item.TheVariants.{Did, Stall}
use Rattle.upc_values.specs.declared.record.End.{End}
use Rattle.block_layout.specs.declared.run_error.TheConstants.{BARRIER_MISMATCH}
use Rattle.upc_values.specs.declared.scalar.Mark.TheVariants.{Start}
use Rattle.upc_values.specs.declared.action.Action.{Action}
use Rattle.upc_values.specs.declared.action.Action.TheVariants.{Notify, Wait}
use Rattle.upc_values.specs.declared.action.Reply.TheVariants.{Done, Refused}
use Rattle.upc_values.specs.declared.journal.Entry.{Entry}
use Rattle.upc_values.specs.Lists.{Each}
use Rattle.upc_values.specs.Records.{is_beat}
use Rattle.upc_values.specs.Openings.{Opening}
use Rattle.upc_values.specs.Drain.{entry_of, entries_of}
use Rattle.upc_values.specs.History.{each_thread, is_notify, is_wait, notifies, waits, marks, agrees_with, all_notified, reply}
use Rattle.upc_values.proofs.Walks.{entries_of-append, entries-own}
use Rattle.upc_rounds_teams.specs.Rounds.{joined, BeatsLast, ends_with_beat, Rests, RestsAfterEach, AfterEach, AfterLast, but_last}

-- P holds of each front of the list.
abbrev pub EachFront : (List Entry → Type 0) → List Entry → Type 0
EachFront P [] = P []
EachFront P (e ∷ es) = P [] × EachFront (λ l. P (e ∷ l)) es

pub front-has : (P : List Entry → Type 0) (xs ys zs : List Entry) → xs ++ ys ≡ zs → EachFront P zs → P xs
front-has P [] ys [] is h = h
front-has P [] ys (z ∷ zs) is h = h.0
front-has P (x ∷ xs) ys [] is h = absurd cc
front-has P (x ∷ xs) ys (z ∷ zs) is h =
    let head : z ≡ x = cc in let tail : xs ++ ys ≡ zs = cc in
    subst (λ y. P (y ∷ xs)) head (front-has (λ l. P (z ∷ l)) xs ys zs tail h.1)

-- All parts, joined, after some.
pub joined-append : (ps qs : List (List Entry)) → joined (ps ++ qs) ≡ joined ps ++ joined qs
joined-append [] qs = refl
joined-append (p ∷ ps) qs = ap (λ l. p ++ l) (joined-append ps qs) ∙ sym (append_assoc p (joined ps) (joined qs))

-- No Beat stands before another entry.
beats-inside : (xs ys : List Entry) (a b : Entry) → BeatsLast (xs ++ a ∷ b ∷ ys) → is_beat a.action ≡ false
beats-inside [] ys a b h = h.0
beats-inside (x ∷ []) ys a b h = h.1.0
beats-inside (x ∷ y ∷ xs) ys a b h = beats-inside (y ∷ xs) ys a b h.1

own-pair : (t : ℕ) (xs ys : List Entry) (a b : Entry) → a.thread ≡ t → b.thread ≡ t
    → entries_of t (xs ++ a ∷ b ∷ ys) ≡ entries_of t xs ++ a ∷ b ∷ entries_of t ys
own-pair t xs ys a b ta tb =
    entries_of-append t xs (a ∷ b ∷ ys)
    ∙ ap (λ l. entries_of t xs ++ l)
    (entries_of-append t (a ∷ []) (b ∷ ys) ∙ ap (λ l. l ++ entries_of t (b ∷ ys)) (entries-own t a ta)
    ∙ ap (λ l. a ∷ l) (entries_of-append t (b ∷ []) ys ∙ ap (λ l. l ++ entries_of t ys) (entries-own t b tb)))

-- A first part ends before the second of two entries, or has both.
abbrev Splits : List Entry → List Entry → List Entry → Entry → Entry → List Entry → Type 0
Splits p q front a b rest =
    ((x : List Entry) × (p ++ x ≡ front ++ a ∷ []) × (q ≡ x ++ b ∷ rest))
    ⊎ ((x : List Entry) × (p ≡ front ++ a ∷ b ∷ x))

splits : (p q front : List Entry) (a b : Entry) (rest : List Entry) → p ++ q ≡ front ++ a ∷ b ∷ rest → Splits p q front a b rest
splits [] q front a b rest is = inl (front ++ a ∷ [], refl, is ∙ sym (append_assoc front (a ∷ []) (b ∷ rest)))
splits (x ∷ []) q [] a b rest is =
    let head : x ≡ a = cc in let tail : q ≡ b ∷ rest = cc in inl ([], ap (λ z. z ∷ []) head, tail)
splits (x ∷ y ∷ p) q [] a b rest is =
    let head : x ≡ a = cc in let next : y ≡ b = cc in inr (p, ap (λ z. z ∷ y ∷ p) head ∙ ap (λ z. a ∷ z ∷ p) next)
splits (x ∷ p) q (y ∷ front) a b rest is =
    let head : x ≡ y = cc in let tail : p ++ q ≡ front ++ a ∷ b ∷ rest = cc in
    elim (splits p q front a b rest tail) [
      | inl s ↦ inl (s.0, ap (λ z. z ∷ (p ++ s.0)) head ∙ ap (λ l. y ∷ l) s.1, s.2)
      | inr s ↦ inr (s.0, ap (λ z. z ∷ p) head ∙ ap (λ l. y ∷ l) s.1)
    ]

-- What is left of a list that ends with an entry.
ends : (p x front : List Entry) (a : Entry) → p ++ x ≡ front ++ a ∷ []
    → (x ≡ []) ⊎ ((y : List Entry) × (x ≡ y ++ a ∷ []) × (p ++ y ≡ front))
ends [] x front a is = inr (front, is, refl)
ends (y ∷ p) x [] a is = let none : p ++ x ≡ [] = cc in inl (none-right p x none)
  where
    none-right : (p x : List Entry) → p ++ x ≡ [] → x ≡ []
    none-right [] x h = h
    none-right (y ∷ p) x h = absurd cc
ends (y ∷ p) x (z ∷ front) a is =
    let head : y ≡ z = cc in let tail : p ++ x ≡ front ++ a ∷ [] = cc in
    elim (ends p x front a tail) [
      | inl n ↦ inl n
      | inr s ↦ inr (s.0, s.1, ap (λ w. w ∷ (p ++ s.0)) head ∙ ap (λ l. z ∷ l) s.2)
    ]

-- In none of the parts a Beat of t stands before another entry of t.
abbrev pub BeatLastInEach : ℕ → List (List Entry) → Type 0
BeatLastInEach t ps = Each (λ p. BeatsLast (entries_of t p)) ps

pub beats-each : (o : Opening) (t : ℕ) (items : List Item) (want : Option Action) (e : End) (before : List Entry) (ps : List (List Entry))
    → RestsAfterEach o t items want e before ps → BeatLastInEach t ps
beats-each o t items want e before [] h = tt
beats-each o t items want e before (p ∷ ps) h = (h.0, beats-each o t items want e (before ++ p) ps h.2)

-- Between a Beat of t and the next entry, of t too, the history is cut: some parts, the last of which ends with the Beat.
pub record IsCut (ps : List (List Entry)) (front : List Entry) (a : Entry) (after : List Entry) : Type 0 where
  pub left : List (List Entry)
  pub last : List Entry
  pub right : List (List Entry)
  pub is : ps ≡ left ++ last ∷ right
  pub ends : joined left ++ last ≡ front ++ a ∷ []
  pub goes_on : joined right ≡ after

pub cut-at : (t : ℕ) (ps : List (List Entry)) (front : List Entry) (a b : Entry) (rest : List Entry) → a.thread ≡ t → b.thread ≡ t → is_beat a.action ≡ true
    → BeatLastInEach t ps → joined ps ≡ front ++ a ∷ b ∷ rest → IsCut ps front a (b ∷ rest)
cut-at t [] front a b rest ta tb beat h is = absurd (none-of front is)
  where
    none-of : (front : List Entry) → [] ≡ front ++ a ∷ b ∷ rest → ⊥
    none-of [] h = absurd cc
    none-of (x ∷ front) h = absurd cc
cut-at t (p ∷ ps) front a b rest ta tb beat h is = elim (splits p (joined ps) front a b rest is) [
  | inl s ↦ elim (ends p s.0 front a s.1) [
    | inl n ↦ record {
      left = [];
      last = p;
      right = ps;
      is = refl;
      ends = sym (append-nil p) ∙ ap (λ l. p ++ l) (sym n) ∙ s.1;
      goes_on = s.2 ∙ ap (λ l. l ++ b ∷ rest) n;
    }
    | inr e ↦
        let more : joined ps ≡ e.0 ++ a ∷ b ∷ rest = s.2 ∙ ap (λ l. l ++ b ∷ rest) e.1 ∙ append_assoc e.0 (a ∷ []) (b ∷ rest) in
        let c = cut-at t ps e.0 a b rest ta tb beat h.1 more in
        record {
          left = p ∷ c.left;
          last = c.last;
          right = c.right;
          is = ap (λ l. p ∷ l) c.is;
          ends = append_assoc p (joined c.left) c.last ∙ ap (λ l. p ++ l) c.ends ∙ sym (append_assoc p e.0 (a ∷ [])) ∙ ap (λ l. l ++ a ∷ []) e.2;
          goes_on = c.goes_on;
        }
  ]
  | inr s ↦ absurd (false≢true (sym (beats-inside (entries_of t front) (entries_of t s.0) a b
      (subst BeatsLast (ap (entries_of t) s.1 ∙ own-pair t front s.0 a b ta tb) h.0)) ∙ beat))
]

-- What holds after a part, of all that hold after each.
pub rests-at : (o : Opening) (t : ℕ) (items : List Item) (want : Option Action) (e : End) (before : List Entry) (ps : List (List Entry)) (p : List Entry)
    (qs : List (List Entry)) → RestsAfterEach o t items want e before (ps ++ p ∷ qs) → Rests o t items want e (before ++ joined ps) p (joined qs)
rests-at o t items want e before [] p qs h = subst (λ l. Rests o t items want e l p (joined qs)) (sym (append-nil before)) h.1
rests-at o t items want e before (q ∷ ps) p qs h =
    subst (λ l. Rests o t items want e l p (joined qs)) (append_assoc before q (joined ps)) (rests-at o t items want e (before ++ q) ps p qs h.2)

pub after-at : (P : List Entry → List Entry → Type 0) (before : List Entry) (ps : List (List Entry)) (p : List Entry) (q : List Entry)
    (qs : List (List Entry)) → AfterEach P before (but_last (ps ++ p ∷ q ∷ qs)) → P (before ++ joined ps) p
after-at P before [] p q qs h = subst (λ l. P l p) (sym (append-nil before)) h.0
after-at P before (r ∷ []) p q qs h = subst (λ l. P l p) (ap (λ l. before ++ l) (sym (append-nil r))) h.1.0
after-at P before (r ∷ s ∷ ps) p q qs h =
    subst (λ l. P l p) (append_assoc before r (s ++ joined ps)) (after-at P (before ++ r) (s ∷ ps) p q qs h.1)

-- No item is a Stall.
abbrev pub AreDid : List Item → Type 0
AreDid [] = Unit {0}
AreDid (Stall ∷ xs) = ⊥
AreDid (Did a r ∷ xs) = AreDid xs

no-stall : (xs ahead behind : List Item) → AreDid xs → xs ≡ ahead ++ Stall ∷ behind → ⊥
no-stall [] [] behind h is = absurd cc
no-stall [] (x ∷ ahead) behind h is = absurd cc
no-stall (Stall ∷ xs) ahead behind h is = h
no-stall (Did a r ∷ xs) [] behind h is = absurd cc
no-stall (Did a r ∷ xs) (x ∷ ahead) behind h is = no-stall xs ahead behind h (let tail : xs ≡ ahead ++ Stall ∷ behind = cc in tail)

-- A record with one Stall has it in one place.
pub only-stall : (xs ys ahead behind : List Item) → AreDid xs → AreDid ys → xs ++ Stall ∷ ys ≡ ahead ++ Stall ∷ behind
    → (ahead ≡ xs) × (behind ≡ ys)
only-stall [] ys [] behind h k is = (refl, let tail : behind ≡ ys = cc in tail)
only-stall [] ys (x ∷ ahead) behind h k is = absurd (no-stall ys ahead behind k (let tail : ys ≡ ahead ++ Stall ∷ behind = cc in tail))
only-stall (Stall ∷ xs) ys ahead behind h k is = absurd h
only-stall (Did a r ∷ xs) ys [] behind h k is = absurd cc
only-stall (Did a r ∷ xs) ys (x ∷ ahead) behind h k is =
    let head : x ≡ Did a r = cc in let tail : xs ++ Stall ∷ ys ≡ ahead ++ Stall ∷ behind = cc in
    let s = only-stall xs ys ahead behind h k tail in
    (ap (λ z. z ∷ ahead) head ∙ ap (λ l. Did a r ∷ l) s.0, s.1)

pub each-mid : {X : Type 0} (P : X → Type 0) (xs : List X) (x : X) (ys : List X) → Each P (xs ++ x ∷ ys) → P x
each-mid P [] x ys h = h.0
each-mid P (y ∷ xs) x ys h = each-mid P xs x ys h.1

-- Where something holds after the last part but one, there are two parts at the end.
pub last-two : (P : List Entry → List Entry → Type 0) (before : List Entry) (ps : List (List Entry)) → AfterLast P before (but_last ps)
    → (left : List (List Entry)) × (p : List Entry) × (q : List Entry) × (ps ≡ left ++ p ∷ q ∷ []) × P (before ++ joined left) p
last-two P before [] h = absurd h
last-two P before (p ∷ []) h = absurd h
last-two P before (p ∷ q ∷ []) h = ([], p, q, refl, subst (λ l. P l p) (sym (append-nil before)) h)
last-two P before (p ∷ q ∷ r ∷ ps) h =
    let z = last-two P (before ++ p) (q ∷ r ∷ ps) h in
    (p ∷ z.0, z.1, z.2, ap (λ l. p ∷ l) z.3, subst (λ l. P l z.1) (append_assoc before p (joined z.0)) z.4)

pub each-two : (P : List Entry → List Entry → Type 0) (before : List Entry) (left : List (List Entry)) (p q : List Entry)
    → AfterEach P before (but_last (left ++ p ∷ q ∷ [])) → P (before ++ joined left) p
each-two P before left p q h = after-at P before left p q [] h

-- No entry is a Beat.
abbrev pub Quiet : List Entry → Type 0
Quiet [] = Unit {0}
Quiet (e ∷ es) = (is_beat e.action ≡ false) × Quiet es

quiet-behind : (xs ys : List Entry) → Quiet (xs ++ ys) → Quiet ys
quiet-behind [] ys h = h
quiet-behind (x ∷ xs) ys h = quiet-behind xs ys h.1

quiet-front : (xs ys : List Entry) → Quiet (xs ++ ys) → Quiet xs
quiet-front [] ys h = tt
quiet-front (x ∷ xs) ys h = (h.0, quiet-front xs ys h.1)

pub quiet-middle : (xs p ys : List Entry) → Quiet (xs ++ (p ++ ys)) → Quiet p
quiet-middle xs p ys h = quiet-front p ys (quiet-behind xs (p ++ ys) h)

quiet-last : (es : List Entry) → Quiet es → ends_with_beat es ≡ false
quiet-last [] h = refl
quiet-last (e ∷ []) h = h.0
quiet-last (e ∷ f ∷ es) h = quiet-last (f ∷ es) h.1

quiet-of : (t : ℕ) (es : List Entry) → Quiet es → Quiet (entries_of t es)
quiet-of t [] h = tt
quiet-of t (e ∷ es) h =
    cond_both (e.thread == t) (e ∷ entries_of t es) (entries_of t es) Quiet (λ _. (h.0, quiet-of t es h.1)) (λ _. quiet-of t es h.1)

pub quiet-part : (t : ℕ) (p : List Entry) → Quiet p → ends_with_beat (entries_of t p) ≡ false
quiet-part t p h = quiet-last (entries_of t p) (quiet-of t p h)

pub quiet-own : (t : ℕ) (p : List Entry) → Quiet (entries_of t p) → ends_with_beat (entries_of t p) ≡ false
quiet-own t p h = quiet-last (entries_of t p) h

pub after-own : (t : ℕ) (xs p : List Entry) → Quiet (entries_of t (xs ++ p)) → Quiet (entries_of t p)
after-own t xs p h = quiet-behind (entries_of t xs) (entries_of t p) (subst Quiet (entries_of-append t xs p) h)

pub joined-two : (ps : List (List Entry)) (p : List Entry) → joined (ps ++ p ∷ []) ≡ joined ps ++ p
joined-two ps p = joined-append ps (p ∷ []) ∙ ap (λ l. joined ps ++ l) (append-nil p)

-- What holds after the part that follows.
pub rests-next : (o : Opening) (t : ℕ) (items : List Item) (want : Option Action) (e : End) (left : List (List Entry)) (p q : List Entry) (qs : List (List Entry))
    → RestsAfterEach o t items want e [] (left ++ p ∷ q ∷ qs) → Rests o t items want e (joined left ++ p) q (joined qs)
rests-next o t items want e left p q qs h =
    subst (λ l. Rests o t items want e l q (joined qs)) (joined-two left p)
    (rests-at o t items want e [] (left ++ p ∷ []) q qs (subst (RestsAfterEach o t items want e []) (sym (append_assoc left (p ∷ []) (q ∷ qs))) h))

pub front-none : (t : ℕ) (xs ys : List Entry) → entries_of t (xs ++ ys) ≡ [] → entries_of t xs ≡ []
front-none t xs ys h = nil-front (entries_of t xs) (entries_of t ys) (sym (entries_of-append t xs ys) ∙ h)
  where
    nil-front : (us bs : List Entry) → us ++ bs ≡ [] → us ≡ []
    nil-front [] bs h = refl
    nil-front (a ∷ us) bs h = absurd cc

-- Of a thread that has no entries there are no waits.
no-waits : (t : ℕ) (es : List Entry) → entries_of t es ≡ [] → waits t es ≡ 0
no-waits t [] h = refl
no-waits t (e ∷ es) h =
    let both = sum_by-append (λ (x : Entry). cond ((x.thread == t) && is_wait x.action) 1 0) (e ∷ []) es in
    elim (cases_Bool (e.thread == t)) [
      | inl own ↦ absurd (let bad : e ∷ entries_of t es ≡ [] = sym (ap (λ b. cond b (e ∷ entries_of t es) (entries_of t es)) own) ∙ h in cc)
      | inr off ↦
          let rest : entries_of t es ≡ [] = sym (ap (λ b. cond b (e ∷ entries_of t es) (entries_of t es)) off) ∙ h in
          let first : waits t (e ∷ []) ≡ 0 = ap (λ b. 0 + cond (b && is_wait e.action) 1 0) off in
          let more = no-waits t es rest in both ∙ omega (arith, first, more)
    ]

-- Where both threads have notified, and thread 0 has not waited, it may.
pub may-pass : (tail : List Entry) → entries_of 0 tail ≡ []
    → is_some (reply (record { threads = 2; declared = []; initials = []; shapes = [] })
    (entry_of 0 0 (Notify Start) Done ∷ entry_of 1 0 (Notify Start) Done ∷ tail) 0 (Wait Start)) ≡ true
may-pass tail quiet =
    let pre = entry_of 0 0 (Notify Start) Done ∷ entry_of 1 0 (Notify Start) Done ∷ [] in
    let s : waits 0 (pre ++ tail) ≡ 0 + waits 0 tail = sum_by-append (λ (x : Entry). cond ((x.thread == 0) && is_wait x.action) 1 0) pre tail in
    let w : waits 0 (pre ++ tail) ≡ 0 = (let n = no-waits 0 tail quiet in omega (arith, s, n)) in
    let a : notifies 0 (pre ++ tail) ≡ 1 + notifies 0 tail = sum_by-append (λ (x : Entry). cond ((x.thread == 0) && is_notify x.action) 1 0) pre tail in
    let b : notifies 1 (pre ++ tail) ≡ 1 + notifies 1 tail = sum_by-append (λ (x : Entry). cond ((x.thread == 1) && is_notify x.action) 1 0) pre tail in
    let es = pre ++ tail in
    let one : nat_lt (waits 0 es) (notifies 1 es) ≡ true = lt-ltb (waits 0 es) (notifies 1 es) (omega (arith, w, b)) in
    let none : nat_lt (waits 0 es) (notifies 0 es) ≡ true = lt-ltb (waits 0 es) (notifies 0 es) (omega (arith, w, a)) in
    let all : all_notified 2 (waits 0 es) es ≡ true =
    ap (λ x. x && (nat_lt (waits 0 es) (notifies 0 es) && true)) one ∙ ap (λ x. x && true) none in
    subst
    (λ x. is_some (cond x
    (Some (cond (each_thread 2 (λ u. agrees_with Start (slice_get (marks u es) (waits 0 es)))) Done (Refused BARRIER_MISMATCH)))
    None) ≡ true)
    (sym all) refl
