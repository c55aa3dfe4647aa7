-- Each strict operation takes the next phase of its thread.
use Rattle.std.proofs.Common.{◌≡◌, ◌≢◌, ℕ, ◌+◌, ◌-◌, ◌<◌, ◌≤◌, ◌==◌, ◌&&◌, ◌||◌, false, List, [], ◌∷◌, ◌++◌, map, filter, flat_map, length, get_or, set, take, drop, refl, sym, ap, ◌∙◌, subst, append_assoc, append-nil, eq-eqb, eqb-true, Result, IfOk, inl, inr, arith}
use Rattle.std.proofs.lemmas.Bool.{cond-true, cond-false, cases_Bool, cases_eq, false_from_ne_true, or_left}
use Rattle.std.proofs.lemmas.List.{map-append, length-map, length-drop, get_or-set_same, get_or-set_other, length-set, get_or_default, drop_more, take_more, take_all, drop-drop}
use Rattle.std.proofs.lemmas.Result.{IfOk-weaker}
use Rattle.std.proofs.lemmas.List.Concat.{flat_map-append}
use Rattle.upc_values.specs.declared.journal.Journal.{Journal}
use Rattle.upc_values.specs.declared.order.Op.{Op}
use Rattle.upc_values.specs.Lists.{Has}
use Rattle.upc_values.specs.Operations.{Operation}
use Rattle.upc_values.specs.Orders.{IsOf, rank, name_of, no_strand, strict_list, global_order, record_of, operations_of}
use Rattle.upc_values.specs.Consistent.{same_place}
use Rattle.upc_values.proofs.Membership.{each-has, has-filter, filter-has, precedes-has, filter-precedes, pairs-at, pairs-from}
use Rattle.race_report.specs.Serial.{until_strict, relaxed_after, phase, serial_list, IsRun, NamesSerial}
use Rattle.race_report.specs.declared.own.OwnOperation.{OwnOperation}
use Rattle.race_report.specs.code.Own.{own, relaxed_first, AreOwn, IsNext, ArePlaced}
use Rattle.upc_values.proofs.Consistency.{global-only, global-has, global-placed}
use Rattle.race_report.proofs.Reading.{all-serial}
use Rattle.race_report.proofs.Phases.{Sorted, sorted-own, thread-own, none-first}

-- the strict ones of a list are those after its relaxed front
filter-until : (os : List Operation) → filter (λ o. o.strict) (drop (length (until_strict os)) os) ≡ filter (λ o. o.strict) os
filter-until [] = refl
filter-until (o ∷ os) =
    elim (cases_Bool o.strict) [
      | inl t ↦
          ap (λ l. filter (λ z. z.strict) (drop (length l) (o ∷ os))) (cond-true o.strict [] (o ∷ until_strict os) t)
      | inr f ↦
          ap (λ l. filter (λ z. z.strict) (drop (length l) (o ∷ os))) (cond-false o.strict [] (o ∷ until_strict os) f)
          ∙ filter-until os
          ∙ sym (cond-false o.strict (o ∷ filter (λ z. z.strict) os) (filter (λ z. z.strict) os) f)
    ]

-- and there a strict one stands first
until-none : (os : List Operation) → until_strict (drop (length (until_strict os)) os) ≡ []
until-none [] = refl
until-none (o ∷ os) =
    elim (cases_Bool o.strict) [
      | inl t ↦
          ap (λ l. until_strict (drop (length l) (o ∷ os))) (cond-true o.strict [] (o ∷ until_strict os) t)
          ∙ cond-true o.strict [] (o ∷ until_strict os) t
      | inr f ↦
          ap (λ l. until_strict (drop (length l) (o ∷ os))) (cond-false o.strict [] (o ∷ until_strict os) f) ∙ until-none os
    ]

-- the first of a list that begins with a strict one
record First (s : Operation) (more rest : List Operation) : Type 0 where
  tail : List Operation
  is : rest ≡ s ∷ tail
  strict : filter (λ o. o.strict) tail ≡ more

first-of : (s : Operation) (more rest : List Operation) → until_strict rest ≡ [] → s ∷ more ≡ filter (λ o. o.strict) rest → First s more rest
first-of s more [] b e = cc
first-of s more (x ∷ rest) b e =
    elim (cases_Bool x.strict) [
      | inl t ↦
          let k : s ∷ more ≡ x ∷ filter (λ o. o.strict) rest =
          e ∙ cond-true x.strict (x ∷ filter (λ o. o.strict) rest) (filter (λ o. o.strict) rest) t in
          let h : s ≡ x = cc in
          let m : more ≡ filter (λ o. o.strict) rest = cc in
          record { tail = rest; is = ap (λ z. z ∷ rest) (sym h); strict = sym m }
      | inr f ↦
          let k : x ∷ until_strict rest ≡ [] = sym (cond-false x.strict [] (x ∷ until_strict rest) f) ∙ b in
          absurd cc
    ]

-- what a list has from a place on
drop-has : (n : ℕ) (os : List Operation) (s : Operation) (tail : List Operation) → drop n os ≡ s ∷ tail → Has os s
drop-has ℕ.zero [] s tail e = cc
drop-has ℕ.zero (o ∷ os) s tail e = let h : o ≡ s = cc in inl h
drop-has (ℕ.suc n) [] s tail e = cc
drop-has (ℕ.suc n) (o ∷ os) s tail e = inr (drop-has n os s tail e)

drop-within : (n : ℕ) (os : List Operation) (s : Operation) (tail : List Operation) → drop n os ≡ s ∷ tail → n < length os
drop-within ℕ.zero [] s tail e = cc
drop-within ℕ.zero (o ∷ os) s tail e = omega arith
drop-within (ℕ.suc n) [] s tail e = cc
drop-within (ℕ.suc n) (o ∷ os) s tail e = let k = drop-within n os s tail e in omega arith

drop-tail : (n : ℕ) (os : List Operation) (s : Operation) (tail : List Operation) → drop n os ≡ s ∷ tail → drop (n + 1) os ≡ tail
drop-tail n os s tail e =
    let k : s ∷ tail ≡ get_or os n s ∷ drop (n + 1) os = sym e ∙ drop_more os n s (drop-within n os s tail e) in
    let h : tail ≡ drop (n + 1) os = cc in
    sym h

after-at : (n : ℕ) (os : List Operation) → Sorted os → (s : Operation) (tail : List Operation) → drop n os ≡ s ∷ tail → relaxed_after (rank s) os ≡ until_strict tail
after-at ℕ.zero [] d s tail e = cc
after-at ℕ.zero (o ∷ os) d s tail e =
    let h : o ≡ s = cc in
    let t : os ≡ tail = cc in
    cond-true (rank o == rank s) (until_strict os) (relaxed_after (rank s) os) (eq-eqb (rank o) (rank s) (ap rank h)) ∙ ap until_strict t
after-at (ℕ.suc n) [] d s tail e = cc
after-at (ℕ.suc n) (o ∷ os) d s tail e =
    let less : rank o < rank s = each-has (λ z. rank o < rank z) os d.0 s (drop-has n os s tail e) in
    cond-false (rank o == rank s) (until_strict os) (relaxed_after (rank s) os)
    (false_from_ne_true (rank o == rank s) (λ t. let q : rank o ≡ rank s = eqb-true (rank o) (rank s) t in omega arith))
    ∙ after-at n os d.1 s tail e

-- what the program keeps
relaxed-own : (os : List Operation) → relaxed_first (map own os) ≡ map name_of (until_strict os)
relaxed-own [] = refl
relaxed-own (o ∷ os) =
    elim (cases_Bool o.strict) [
      | inl t ↦
          cond-true o.strict [] (name_of o ∷ relaxed_first (map own os)) t
          ∙ ap (map name_of) (sym (cond-true o.strict [] (o ∷ until_strict os) t))
      | inr f ↦
          cond-false o.strict [] (name_of o ∷ relaxed_first (map own os)) f ∙ ap (λ z. name_of o ∷ z) (relaxed-own os)
          ∙ ap (map name_of) (sym (cond-false o.strict [] (o ∷ until_strict os) f))
    ]

drop-own : (n : ℕ) (os : List Operation) → drop n (map own os) ≡ map own (drop n os)
drop-own ℕ.zero os = refl
drop-own (ℕ.suc n) [] = refl
drop-own (ℕ.suc n) (o ∷ os) = drop-own n os

-- the member at a place
record At (os : List Operation) (i : ℕ) : Type 0 where
  member : Operation
  has : Has os member
  get : (d : Operation) → get_or os i d ≡ member
  name : (d : Op) → get_or (map name_of os) i d ≡ name_of member

member-at : (os : List Operation) (i : ℕ) → i < length os → At os i
member-at [] i lt = absurd (omega arith)
member-at (o ∷ os) ℕ.zero lt = record { member = o; has = inl refl; get = λ d. refl; name = λ d. refl }
member-at (o ∷ os) (ℕ.suc i) lt =
    let k = member-at os i (omega arith) in
    record { member = k.member; has = inr k.has; get = k.get; name = k.name }

-- two sorted lists of the same operations are one
sorted-one : (xs ys : List Operation) → Sorted xs → Sorted ys → ((o : Operation) → Has xs o → Has ys o) → ((o : Operation) → Has ys o → Has xs o) → xs ≡ ys
sorted-one [] [] s t f g = refl
sorted-one [] (y ∷ ys) s t f g = absurd (g y (inl refl))
sorted-one (x ∷ xs) [] s t f g = absurd (f x (inl refl))
sorted-one (x ∷ xs) (y ∷ ys) s t f g =
    let heads : y ≡ x =
    elim (f x (inl refl)) [
      | inl e ↦ e
      | inr m ↦ elim (g y (inl refl)) [
        | inl e ↦ sym e
        | inr n ↦
            let a : rank y < rank x = each-has (λ z. rank y < rank z) ys t.0 x m in
            let b : rank x < rank y = each-has (λ z. rank x < rank z) xs s.0 y n in absurd (omega arith)
      ]
    ] in
    let r : rank y ≡ rank x = ap rank heads in
    let there : (o : Operation) → Has xs o → Has ys o =
    λ o m. elim (f o (inr m)) [
      | inl e ↦
          let a : rank x < rank o = each-has (λ z. rank x < rank z) xs s.0 o m in
          let b : rank y ≡ rank o = ap rank e in absurd (omega arith)
      | inr n ↦ n
    ] in
    let back : (o : Operation) → Has ys o → Has xs o =
    λ o m. elim (g o (inr m)) [
      | inl e ↦
          let a : rank y < rank o = each-has (λ z. rank y < rank z) ys t.0 o m in
          let b : rank x ≡ rank o = ap rank e in absurd (omega arith)
      | inr n ↦ n
    ] in
    ap (λ z. z ∷ xs) (sym heads) ∙ ap (λ z. y ∷ z) (sorted-one xs ys s.1 t.1 there back)

-- those before the first strict one are no more than all
relaxed-short : (os : List OwnOperation) → length (relaxed_first os) ≤ length os
relaxed-short [] = omega arith
relaxed-short (o ∷ os) =
    elim (cases_Bool o.strict) [
      | inl t ↦
          let e : length (relaxed_first (o ∷ os)) ≡ 0 = ap length (cond-true o.strict [] (o.name ∷ relaxed_first os) t) in
          omega arith
      | inr f ↦
          let e : length (relaxed_first (o ∷ os)) ≡ length (o.name ∷ relaxed_first os) =
          ap length (cond-false o.strict [] (o.name ∷ relaxed_first os) f) in let k = relaxed-short os in omega arith
    ]

pub relaxed-within : (n : ℕ) (os : List OwnOperation) → n ≤ length os → n + length (relaxed_first (drop n os)) ≤ length os
relaxed-within n os h =
    let k = relaxed-short (drop n os) in let m = length-drop n os in omega arith

-- the part of a list from a place on
pub part-is : (n : ℕ) (os : List OwnOperation) → take (length os - n) (drop n os) ≡ drop n os
part-is n os = take_all (length os - n) (drop n os) (let m = length-drop n os in omega arith)

module _ (j : Journal) (run : IsRun j) where
  -- a thread's strict operations stand in the strict list in program order
  strict-sorted : (t : ℕ) → t < j.threads → Sorted (filter (λ o. o.thread == t) (strict_list j))
  strict-sorted t h =
      pairs-from (λ a b. rank a < rank b) (filter (λ o. o.thread == t) (strict_list j))
      (λ a b p.
      let m = precedes-has (filter (λ o. o.thread == t) (strict_list j)) a b p in
      let x = filter-has (λ o. o.thread == t) (strict_list j) a m.0 in
      let y = filter-has (λ o. o.thread == t) (strict_list j) b m.1 in
      let s = filter-has (λ o. o.strict) (global_order j) a x.0 in
      let q = filter-precedes (λ o. o.strict) (global_order j) a b (filter-precedes (λ o. o.thread == t) (strict_list j) a b p) in
      (global-placed j run.follows t a b h (eqb-true a.thread t x.1) (eqb-true b.thread t y.1) q).1
      (or_left (a.strict || b.strict) (same_place a.place b.place && (a.write || b.write)) (or_left a.strict b.strict s.1)))

  own-strict-sorted : (t : ℕ) → Sorted (filter (λ o. o.strict) (operations_of j t))
  own-strict-sorted t =
      pairs-from (λ a b. rank a < rank b) (filter (λ o. o.strict) (operations_of j t))
      (λ a b p.
      pairs-at (λ x y. rank x < rank y) (operations_of j t) (sorted-own t (record_of j t)) a b
      (filter-precedes (λ o. o.strict) (operations_of j t) a b p))

  strict-own : (t : ℕ) → t < j.threads → filter (λ o. o.thread == t) (strict_list j) ≡ filter (λ o. o.strict) (operations_of j t)
  strict-own t h =
      sorted-one (filter (λ o. o.thread == t) (strict_list j)) (filter (λ o. o.strict) (operations_of j t)) (strict-sorted t h)
      (own-strict-sorted t)
      (λ o m.
      let x = filter-has (λ z. z.thread == t) (strict_list j) o m in
      let s = filter-has (λ z. z.strict) (global_order j) o x.0 in
      let k = global-only j run.follows o s.0 in
      has-filter (λ z. z.strict) (operations_of j t) o s.1
      (subst (λ n. Has (operations_of j n) o) (eqb-true o.thread t x.1) k.1))
      (λ o m.
      let x = filter-has (λ z. z.strict) (operations_of j t) o m in
      let e = thread-own t (record_of j t) o x.0 in
      let k : IsOf j o = (subst (λ n. n < j.threads) (sym e) h, subst (λ n. Has (operations_of j n) o) (sym e) x.0) in
      has-filter (λ z. z.thread == t) (strict_list j) o (eq-eqb o.thread t e)
      (has-filter (λ z. z.strict) (global_order j) o x.1 (global-has j run.follows o k)))

  -- at the beginning
  pub placed-none : (cursors : List ℕ) → length cursors ≡ j.threads → ((t : ℕ) → t < j.threads → get_or cursors t 0 ≡ 0) → ArePlaced j 0 [] cursors
  placed-none cursors many zeros =
      record {
        names = refl;
        many = many;
        next = λ t h.
            subst (IsNext j t (strict_list j)) (sym (zeros t h))
            (record {
              same = strict-own t h;
              begins = none-first t (record_of j t) (run.notified t no_strand (subst (λ n. t < n) (sym run.follows.many) h));
            });
      }

  module _ (lists : List (List OwnOperation)) (are : AreOwn j lists) where
    -- what the first strict operation that is left finds at the cursor of its thread
    pub record Finds (i : ℕ) (first : Op) (cursors : List ℕ) : Type 0 where
      pub below : first.thread < j.threads
      pub lead : Operation
      pub named : name_of lead ≡ first
      pub gets : (d : Operation) → get_or (strict_list j) i d ≡ lead
      pub tail : List Operation
      pub here : drop (get_or cursors first.thread 0) (operations_of j first.thread) ≡ lead ∷ tail
      pub left : filter (λ o. o.strict) tail ≡ filter (λ o. o.thread == first.thread) (drop (i + 1) (strict_list j))
      pub within : get_or cursors first.thread 0 < length (get_or lists first.thread [])

    drop-lead : (i : ℕ) (lead : Operation) → i < length (strict_list j) → ((d : Operation) → get_or (strict_list j) i d ≡ lead) → drop i (strict_list j) ≡ lead ∷ drop (i + 1) (strict_list j)
    drop-lead i lead lt gets = drop_more (strict_list j) i lead lt ∙ ap (λ z. z ∷ drop (i + 1) (strict_list j)) (gets lead)

    pub finds : (i : ℕ) (first : Op) (order : List Op) (cursors : List ℕ) → i < length (strict_list j) → first ≡ get_or (map name_of (strict_list j)) i first
        → ArePlaced j i order cursors → Finds i first cursors
    finds i first order cursors lt at p =
        let m = member-at (strict_list j) i lt in
        let t = first.thread in
        let ops = operations_of j t in
        let place = get_or cursors t 0 in
        let further = drop (i + 1) (strict_list j) in
        let named : name_of m.member ≡ first = sym (at ∙ m.name first) in
        let thread : m.member.thread ≡ t = ap (λ z. z.thread) named in
        let below : t < j.threads =
        subst (λ n. n < j.threads) thread
        (global-only j run.follows m.member (filter-has (λ z. z.strict) (global_order j) m.member m.has).0).0 in
        let n = p.next t below in
        let passing = filter (λ o. o.thread == t) further in
        let whole : m.member ∷ passing ≡ filter (λ o. o.strict) (drop place ops) =
        sym (cond-true (m.member.thread == t) (m.member ∷ passing) passing (eq-eqb m.member.thread t thread))
        ∙ ap (filter (λ o. o.thread == t)) (sym (drop-lead i m.member lt m.get)) ∙ n.same in
        let f = first-of m.member passing (drop place ops) n.begins whole in
        record {
          below = below;
          lead = m.member;
          named = named;
          gets = m.get;
          tail = f.tail;
          here = f.is;
          left = f.strict;
          within =
              subst (λ l. place < length l) (sym (are.each t below))
              (subst (λ k. place < k) (sym (length-map ops own)) (drop-within place ops m.member f.tail f.is));
        }

    -- the same of the name at a place of the program's list
    pub found : (names : List Op) (i : ℕ) (d : Op) (order : List Op) (cursors : List ℕ) → names ≡ map name_of (strict_list j) → i < length names
        → ArePlaced j i order cursors → Finds i (get_or names i d) cursors
    found names i d order cursors is lt p =
        let lt_map : i < length (map name_of (strict_list j)) = subst (λ l. i < length l) is lt in
        let within : i < length (strict_list j) = let m = length-map (strict_list j) name_of in omega arith in
        finds i (get_or names i d) order cursors within
        (ap (λ l. get_or l i d) is ∙ get_or_default (map name_of (strict_list j)) i d (get_or names i d) lt_map) p

    -- the names that the program adds after it
    relaxed-names : (i : ℕ) (first : Op) (cursors : List ℕ) (f : Finds i first cursors)
        → relaxed_first (drop (get_or cursors first.thread 0 + 1) (get_or lists first.thread [])) ≡ map name_of (until_strict f.tail)
    relaxed-names i first cursors f =
        let t = first.thread in
        let next = get_or cursors t 0 + 1 in
        ap (λ l. relaxed_first (drop next l)) (are.each t f.below) ∙ ap relaxed_first (drop-own next (operations_of j t))
        ∙ ap (λ l. relaxed_first (map own l)) (drop-tail (get_or cursors t 0) (operations_of j t) f.lead f.tail f.here)
        ∙ relaxed-own f.tail

    phase-is : (i : ℕ) (first : Op) (cursors : List ℕ) (f : Finds i first cursors) → phase j f.lead ≡ f.lead ∷ until_strict f.tail
    phase-is i first cursors f =
        let t = first.thread in
        let e : f.lead.thread ≡ t = ap (λ z. z.thread) f.named in
        ap (λ n. f.lead ∷ relaxed_after (rank f.lead) (operations_of j n)) e
        ∙ ap (λ l. f.lead ∷ l)
        (after-at (get_or cursors t 0) (operations_of j t) (sorted-own t (record_of j t)) f.lead f.tail f.here)

    -- the thread's next phase
    next-own : (i : ℕ) (first : Op) (cursors : List ℕ) (f : Finds i first cursors) (count : ℕ) → count ≡ length (until_strict f.tail)
        → IsNext j first.thread (drop (i + 1) (strict_list j)) (get_or cursors first.thread 0 + 1 + count)
    next-own i first cursors f count e =
        let t = first.thread in
        let place = get_or cursors t 0 in
        let ops = operations_of j t in
        let is : drop (place + 1 + count) ops ≡ drop (length (until_strict f.tail)) f.tail =
        sym (drop-drop count (place + 1) ops)
        ∙ ap (drop count) (drop-tail place ops f.lead f.tail f.here) ∙ ap (λ k. drop k f.tail) e in
        record {
          same = sym f.left ∙ sym (filter-until f.tail) ∙ ap (filter (λ o. o.strict)) (sym is);
          begins = ap until_strict is ∙ until-none f.tail;
        }

    -- that of another thread stays
    next-other : (i : ℕ) (first : Op) (cursors : List ℕ) (f : Finds i first cursors) → i < length (strict_list j) → (u place : ℕ) → (u ≢ first.thread)
        → IsNext j u (drop i (strict_list j)) place → IsNext j u (drop (i + 1) (strict_list j)) place
    next-other i first cursors f lt u place ne n =
        let further = drop (i + 1) (strict_list j) in
        let passing = filter (λ o. o.thread == u) further in
        let e : f.lead.thread ≡ first.thread = ap (λ z. z.thread) f.named in
        let other : (f.lead.thread == u) ≡ false =
        false_from_ne_true (f.lead.thread == u) (λ q. ne (sym (eqb-true f.lead.thread u q) ∙ e)) in
        record {
          same =
              sym (cond-false (f.lead.thread == u) (f.lead ∷ passing) passing other)
              ∙ ap (filter (λ o. o.thread == u)) (sym (drop-lead i f.lead lt f.gets)) ∙ n.same;
          begins = n.begins;
        }

    -- one phase more
    pub placed-more : (i : ℕ) (first : Op) (order relaxed : List Op) (cursors : List ℕ) (next count : ℕ) → i < length (strict_list j)
        → Finds i first cursors → next ≡ get_or cursors first.thread 0 + 1
        → relaxed ≡ relaxed_first (drop next (get_or lists first.thread []))
        → count ≡ length relaxed → ArePlaced j i order cursors
        → ArePlaced j (i + 1) ((order ++ first ∷ []) ++ relaxed) (set cursors first.thread (next + count))
    placed-more i first order relaxed cursors next count lt f at names many p =
        let t = first.thread in
        let place = get_or cursors t 0 in
        let added : relaxed ≡ map name_of (until_strict f.tail) =
        names ∙ ap (λ k. relaxed_first (drop k (get_or lists t []))) at ∙ relaxed-names i first cursors f in
        let size : count ≡ length (until_strict f.tail) = many ∙ ap length added ∙ length-map (until_strict f.tail) name_of in
        let front = flat_map (phase j) (take i (strict_list j)) in
        let same : next + count ≡ place + 1 + count = ap (λ k. k + count) at in
        record {
          names =
              ap (λ l. (order ++ first ∷ []) ++ l) added
              ∙ append_assoc order (first ∷ []) (map name_of (until_strict f.tail))
              ∙ ap (λ x. order ++ x ∷ map name_of (until_strict f.tail)) (sym f.named)
              ∙ ap (λ l. l ++ map name_of (f.lead ∷ until_strict f.tail)) p.names
              ∙ sym (map-append name_of front (f.lead ∷ until_strict f.tail))
              ∙ ap (λ l. map name_of (front ++ l)) (sym (phase-is i first cursors f) ∙ sym (append-nil (phase j f.lead)))
              ∙ ap (map name_of) (sym (flat_map-append (phase j) (take i (strict_list j)) (f.lead ∷ [])))
              ∙ ap (λ x. map name_of (flat_map (phase j) (take i (strict_list j) ++ x ∷ []))) (sym (f.gets f.lead))
              ∙ ap (λ l. map name_of (flat_map (phase j) l)) (sym (take_more (strict_list j) i f.lead lt));
          many = length-set cursors t (next + count) ∙ p.many;
          next = λ u h.
              elim (cases_eq u t) [
                | inl q ↦
                    let there : get_or (set cursors t (next + count)) u 0 ≡ next + count =
                    ap (λ k. get_or (set cursors t (next + count)) k 0) q
                    ∙ get_or-set_same cursors t (next + count) 0 (subst (λ n. t < n) (sym p.many) f.below) in
                    subst (λ n. IsNext j u (drop (i + 1) (strict_list j)) n) (sym (there ∙ same))
                    (subst (λ v. IsNext j v (drop (i + 1) (strict_list j)) (place + 1 + count)) (sym q) (next-own i first cursors f count size))
                | inr ne ↦
                    subst (IsNext j u (drop (i + 1) (strict_list j))) (sym (get_or-set_other cursors t u (next + count) 0 ne))
                    (next-other i first cursors f lt u (get_or cursors u 0) ne (p.next u h))
              ];
        }

    -- the cursor of a strict operation's thread and the list there, as the program reads them
    pub record Stands (i : ℕ) (first : Op) (cursors : List ℕ) (place : ℕ) (list : List OwnOperation) : Type 0 where
      pub short : i < length (strict_list j)
      pub finds : Finds i first cursors
      pub place_is : place ≡ get_or cursors first.thread 0
      pub list_is : list ≡ get_or lists first.thread []
      pub within : place < length list

    pub stands : (names : List Op) (i : ℕ) (d : Op) (order : List Op) (cursors : List ℕ) (place : ℕ) (list : List OwnOperation) → names ≡ map name_of (strict_list j)
        → i < length names → ArePlaced j i order cursors → place ≡ get_or cursors (get_or names i d).thread place
        → list ≡ get_or lists (get_or names i d).thread list → Stands i (get_or names i d) cursors place list
    stands names i d order cursors place list is lt p at of =
        let t = (get_or names i d).thread in
        let f = found names i d order cursors is lt p in
        let there : t < length cursors = subst (λ n. t < n) (sym p.many) f.below in
        let here : t < length lists = subst (λ n. t < n) (sym are.many) f.below in
        let q : place ≡ get_or cursors t 0 = at ∙ get_or_default cursors t place 0 there in
        let r : list ≡ get_or lists t [] = of ∙ get_or_default lists t list [] here in
        let lt_map : i < length (map name_of (strict_list j)) = subst (λ l. i < length l) is lt in
        record {
          short = subst (λ n. i < n) (length-map (strict_list j) name_of) lt_map;
          finds = f;
          place_is = q;
          list_is = r;
          within = subst (λ l. place < length l) (sym r) (subst (λ k. k < length (get_or lists t [])) (sym q) f.within);
        }

    pub stands-more : (i : ℕ) (first : Op) (order after : List Op) (cursors : List ℕ) (place count : ℕ) (list : List OwnOperation) → Stands i first cursors place list
        → ArePlaced j i order cursors → after ≡ (order ++ first ∷ []) ++ relaxed_first (drop (place + 1) list)
        → count ≡ length (relaxed_first (drop (place + 1) list)) → ArePlaced j (i + 1) after (set cursors first.thread (place + 1 + count))
    stands-more i first order after cursors place count list k p is many =
        subst (λ z. ArePlaced j (i + 1) z (set cursors first.thread (place + 1 + count))) (sym is)
        (placed-more i first order (relaxed_first (drop (place + 1) list)) cursors (place + 1) count k.short k.finds
        (ap (λ n. n + 1) k.place_is) (ap (λ l. relaxed_first (drop (place + 1) l)) k.list_is) many p)

  -- at the end
  pub placed-all : (i : ℕ) (order : List Op) (cursors : List ℕ) → i ≡ length (map name_of (strict_list j)) → ArePlaced j i order cursors → order ≡ map name_of (serial_list j)
  placed-all i order cursors e p =
      p.names
      ∙ ap (λ l. map name_of (flat_map (phase j) l))
      (take_all i (strict_list j) (let m = length-map (strict_list j) name_of in omega arith))

-- the names of the serial list are those of a right order
pub named-right : {E : Type 0} (j : Journal) → IsRun j → (r : Result (List Op) E) → IfOk r (λ names. names ≡ map name_of (serial_list j)) → IfOk r (NamesSerial j)
named-right j run r k =
    IfOk-weaker r (λ names. names ≡ map name_of (serial_list j)) (NamesSerial j)
    (λ names is. record { list = serial_list j; are = is; serial = all-serial j run }) k
