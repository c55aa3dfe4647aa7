-- Numbers of places: that of the first operation there.
use Rattle.std.proofs.Common.{◌≡◌, ◌↔◌, ℕ, ◌+◌, ◌<◌, ◌==◌, ◌&&◌, ◌||◌, true, false, cond, List, [], ◌∷◌, ◌++◌, length, get_or, take, drop, map, filter, Option, Some, None, refl, sym, ap, ◌∙◌, subst, inl, inr, arith, eq-eqb, eqb-true}
use Rattle.std.proofs.lemmas.Bool.{cases_Bool, cond-true, cond-false, false≢true, ne_eqb}
use Rattle.std.proofs.lemmas.List.{take_more, length-take, map-append, get_or-map}
use Rattle.std.proofs.lemmas.List.Elements.{filter-append}
use Rattle.std.specs.Option.{unwrap_or}
use Rattle.block_layout.specs.declared.place.Loc.{Loc}
use Rattle.upc_values.specs.declared.scalar.Scalar.{Scalar}
use Rattle.upc_values.specs.Scalars.{zero}
use Rattle.upc_values.specs.Lists.{Each, Has, Pairwise}
use Rattle.upc_values.specs.Operations.{Operation, Place, Cell, Sync}
use Rattle.upc_values.specs.Consistent as consistent
use Rattle.upc_values.specs.Consistent.{same_place, initial_at, ReadsLast, KeepsProgram}
use Rattle.upc_values.proofs.Sameness.{same_loc-true, same_loc-itself}
use Rattle.upc_values.proofs.Membership.{each-has, pairs-at, pairs-from, precedes-has, precedes-filter, filter-precedes, filter-has}
use Rattle.upc_verify_orders.specs.code.Found.{nothing}
use Rattle.upc_verify_orders.specs.layer.Numbers.{first_at, number_in, numbers_in, firsts_in, mark_by, marks_by}
use Rattle.upc_verify_orders.specs.code.Program.{conflict, InOrder}
use Rattle.upc_verify_orders.specs.code.Values.{ReadsHeld, access_by}
use Rattle.upc_verify_orders.proofs.Held.{Numbers, held-reads}

pub same_place-true : (p q : Place) → same_place p q ≡ true → p ≡ q
same_place-true (Cell l) (Cell k) h = ap Cell (same_loc-true l k h)
same_place-true (Cell l) Sync h = absurd (false≢true h)
same_place-true Sync (Cell k) h = absurd (false≢true h)
same_place-true Sync Sync h = refl

pub same_place-itself : (p : Place) → same_place p p ≡ true
same_place-itself (Cell l) = same_loc-itself l
same_place-itself Sync = refl

-- what has been found stays found
pub first-some : (p : Place) (n : ℕ) (os ys : List Operation) (k : ℕ) → first_at p n os ≡ Some k → first_at p n (os ++ ys) ≡ Some k
first-some p n [] ys k e = cc
first-some p n (o ∷ os) ys k e =
    elim (cases_Bool (same_place o.place p)) [
      | inl t ↦
          cond-true (same_place o.place p) (Some n) (first_at p (n + 1) (os ++ ys)) t
          ∙ sym (cond-true (same_place o.place p) (Some n) (first_at p (n + 1) os) t) ∙ e
      | inr f ↦
          cond-false (same_place o.place p) (Some n) (first_at p (n + 1) (os ++ ys)) f
          ∙ first-some p (n + 1) os ys k
          (sym (cond-false (same_place o.place p) (Some n) (first_at p (n + 1) os) f) ∙ e)
    ]

some-none : (n : ℕ) → Some n ≡ None → ⊥
some-none n e = cc

-- one more operation, where none was there
pub first-none : (p : Place) (n : ℕ) (os : List Operation) (o : Operation) → first_at p n os ≡ None → first_at p n (os ++ o ∷ []) ≡ cond (same_place o.place p) (Some (n + length os)) None
first-none p n [] o e = ap (λ k. cond (same_place o.place p) (Some k) None) (let z : n ≡ n + 0 = omega arith in z)
first-none p n (x ∷ os) o e =
    elim (cases_Bool (same_place x.place p)) [
      | inl t ↦
          absurd (some-none n (sym (cond-true (same_place x.place p) (Some n) (first_at p (n + 1) os) t) ∙ e))
      | inr f ↦
          cond-false (same_place x.place p) (Some n) (first_at p (n + 1) (os ++ o ∷ [])) f
          ∙ first-none p (n + 1) os o (sym (cond-false (same_place x.place p) (Some n) (first_at p (n + 1) os) f) ∙ e)
          ∙ ap (λ k. cond (same_place o.place p) (Some k) None) (let z : n + 1 + length os ≡ n + length (x ∷ os) = omega arith in z)
    ]

-- where an operation is at a place, the first one is found
pub first-found : (p : Place) (n : ℕ) (os : List Operation) (o : Operation) → Has os o → same_place o.place p ≡ true
    → (k : ℕ) × (first_at p n os ≡ Some (n + k)) × (k < length os) × (same_place (get_or os k nothing).place p ≡ true)
first-found p n [] o h t = absurd h
first-found p n (x ∷ os) o h t =
    elim (cases_Bool (same_place x.place p)) [
      | inl s ↦ (
        0,
        cond-true (same_place x.place p) (Some n) (first_at p (n + 1) os) s ∙ ap Some (let z : n ≡ n + 0 = omega arith in z),
        omega arith,
        s,
      )
      | inr f ↦ elim h [
        | inl e ↦ absurd (false≢true (sym f ∙ ap (λ z. same_place z.place p) e ∙ t))
        | inr m ↦
            let r = first-found p (n + 1) os o m t in
            let lt : r.0 < length os = r.2 in (
              ℕ.suc r.0,
              cond-false (same_place x.place p) (Some n) (first_at p (n + 1) os) f ∙ r.1
                  ∙ ap Some (let z : n + 1 + r.0 ≡ n + ℕ.suc r.0 = omega arith in z),
              omega arith,
              r.3,
            )
      ]
    ]

-- the places of some operations
pub record IsUsed (operations : List Operation) (p : Place) : Type 0 where
  pub operation : Operation
  pub has : Has operations operation
  pub there : operation.place ≡ p

pub used-by : (operations : List Operation) (o : Operation) → Has operations o → IsUsed operations o.place
used-by operations o m = record { operation = o; has = m; there = refl }

pub number-found : (operations : List Operation) (p : Place) → IsUsed operations p → (number_in operations p < length operations) × ((get_or operations (number_in operations p) nothing).place ≡ p)
number-found operations p u =
    let same : same_place u.operation.place p ≡ true = ap (λ q. same_place q p) u.there ∙ same_place-itself p in
    let r = first-found p 0 operations u.operation u.has same in
    let e : number_in operations p ≡ r.0 = ap (λ o. unwrap_or o 0) r.1 ∙ (let z : 0 + r.0 ≡ r.0 = omega arith in z) in (
      subst (λ k. k < length operations) (sym e) r.2,
      ap (λ k. (get_or operations k nothing).place) e ∙ same_place-true (get_or operations r.0 nothing).place p r.3,
    )

pub numbers : (operations : List Operation) → Numbers (IsUsed operations) (number_in operations) (length operations)
numbers operations =
    record {
      within = λ p u. (number-found operations p u).0;
      same = λ p q u v t. ap (number_in operations) (same_place-true q p t);
      other = λ p q u v f e.
          let x = (number-found operations p u).1 in
          let y = (number-found operations q v).1 in
          let w : q ≡ p = sym y ∙ ap (λ k. (get_or operations k nothing).place) e ∙ x in
          false≢true (sym f ∙ ap (λ z. same_place z p) w ∙ same_place-itself p);
    }

-- one turn of the walk that numbers places
module _ (operations : List Operation) (i : ℕ) (lt : i < length operations) (old new : Place → Option ℕ) (k : ℕ) (kept : (p : Place) → old p ≡ first_at p 0 (take i operations)) where
  abbrev here : Operation
  here = get_or operations i nothing

  more : take (i + 1) operations ≡ take i operations ++ here ∷ []
  more = take_more operations i nothing lt

  many : 0 + length (take i operations) ≡ i
  many = omega (arith, length-take i operations)

  after-here : k ≡ unwrap_or (old here.place) i → first_at here.place 0 (take (i + 1) operations) ≡ Some k
  after-here e = go (first_at here.place 0 (take i operations)) refl
    where
      go : (o : Option ℕ) → first_at here.place 0 (take i operations) ≡ o → first_at here.place 0 (take (i + 1) operations) ≡ Some k
      go (Some m) f =
          ap (first_at here.place 0) more ∙ first-some here.place 0 (take i operations) (here ∷ []) m f
          ∙ ap Some (sym (e ∙ ap (λ z. unwrap_or z i) (kept here.place ∙ f)))
      go None f =
          ap (first_at here.place 0) more ∙ first-none here.place 0 (take i operations) here f
          ∙ cond-true (same_place here.place here.place) (Some (0 + length (take i operations))) None (same_place-itself here.place)
          ∙ ap Some (many ∙ sym (e ∙ ap (λ z. unwrap_or z i) (kept here.place ∙ f)))

  after-other : (p : Place) → same_place here.place p ≡ false → first_at p 0 (take (i + 1) operations) ≡ first_at p 0 (take i operations)
  after-other p n = go (first_at p 0 (take i operations)) refl
    where
      go : (o : Option ℕ) → first_at p 0 (take i operations) ≡ o → first_at p 0 (take (i + 1) operations) ≡ first_at p 0 (take i operations)
      go (Some m) f = ap (first_at p 0) more ∙ first-some p 0 (take i operations) (here ∷ []) m f ∙ sym f
      go None f =
          ap (first_at p 0) more ∙ first-none p 0 (take i operations) here f
          ∙ cond-false (same_place here.place p) (Some (0 + length (take i operations))) None n ∙ sym f

  pub kept-next : k ≡ unwrap_or (old here.place) i → ((p : Place) → new p ≡ cond (same_place here.place p) (Some k) (old p)) → (p : Place) → new p ≡ first_at p 0 (take (i + 1) operations)
  kept-next e h p =
      elim (cases_Bool (same_place here.place p)) [
        | inl t ↦
            h p ∙ cond-true (same_place here.place p) (Some k) (old p) t ∙ sym (after-here e)
            ∙ ap (λ q. first_at q 0 (take (i + 1) operations)) (same_place-true here.place p t)
        | inr n ↦
            h p ∙ cond-false (same_place here.place p) (Some k) (old p) n ∙ kept p ∙ sym (after-other p n)
      ]

  pub numbers-next : k ≡ unwrap_or (old here.place) i → (xs ys : List ℕ) → xs ≡ map (λ o. number_in operations o.place) (take i operations) → ys ≡ xs ++ k ∷ []
      → ys ≡ map (λ o. number_in operations o.place) (take (i + 1) operations)
  numbers-next e xs ys h is =
      let whole : take (i + 1) operations ++ drop (i + 1) operations ≡ operations = take-drop (i + 1) operations in
      let n : number_in operations here.place ≡ k =
      ap (λ l. unwrap_or (first_at here.place 0 l) 0) (sym whole)
      ∙ ap (λ z. unwrap_or z 0) (first-some here.place 0 (take (i + 1) operations) (drop (i + 1) operations) k (after-here e)) in
      is ∙ ap (λ l. l ++ k ∷ []) h
      ∙ ap (λ z. map (λ o. number_in operations o.place) (take i operations) ++ z ∷ []) (sym n)
      ∙ sym (map-append (λ o. number_in operations o.place) (take i operations) (here ∷ []))
      ∙ ap (map (λ o. number_in operations o.place)) (sym more)
    where
      take-drop : (m : ℕ) (xs : List Operation) → take m xs ++ drop m xs ≡ xs
      take-drop ℕ.zero xs = refl
      take-drop (ℕ.suc m) [] = refl
      take-drop (ℕ.suc m) (x ∷ xs) = ap (λ l. x ∷ l) (take-drop m xs)

-- what is kept of the operation at a number
pub number-at : (operations : List Operation) (numbers : List ℕ) (i : ℕ) (d : ℕ) → i < length operations → numbers ≡ numbers_in operations → get_or numbers i d ≡ number_in operations (get_or operations i nothing).place
number-at operations numbers i d lt e =
    ap (λ l. get_or l i d) e ∙ get_or-map (λ o. number_in operations o.place) operations i nothing d lt

each-used : (operations os : List Operation) → Each (Has operations) os → Each (λ o. IsUsed operations o.place) os
each-used operations [] h = tt
each-used operations (o ∷ os) h = (used-by operations o h.0, each-used operations os h.1)

-- the places are within
pub accesses-within : (operations os : List Operation) → Each (Has operations) os → Each (λ a. a.place < length operations) (map (access_by (number_in operations)) os)
accesses-within operations [] h = tt
accesses-within operations (o ∷ os) h = ((number-found operations o.place (used-by operations o h.0)).0, accesses-within operations os h.1)

-- the reads of an order, where the places hold what they begin with
pub reads-so : (initial : Loc → Scalar) (operations os : List Operation) (held : List Scalar) → held ≡ firsts_in initial operations → Each (Has operations) os
    → (ReadsHeld held (map (access_by (number_in operations)) os) ↔ ReadsLast initial os)
reads-so initial operations os held e inside =
    held-reads initial (IsUsed operations) (number_in operations) held [] os
    (subst (Numbers (IsUsed operations) (number_in operations)) (sym many) (numbers operations)) (each-used operations os inside)
    (λ p u.
    let n = number-found operations p u in
    ap (λ l. get_or l (number_in operations p) zero) e
    ∙ get_or-map (λ o. initial_at initial o.place) operations (number_in operations p) nothing zero n.0
    ∙ ap (initial_at initial) n.1)
  where
    many : length held ≡ length operations
    many = ap length e ∙ length-map operations
      where
        length-map : (xs : List Operation) → length (map (λ o. initial_at initial o.place) xs) ≡ length xs
        length-map [] = refl
        length-map (x ∷ xs) = ap (λ n. ℕ.suc n) (length-map xs)

-- a thread's own operations, with one more
pub marks-own : (number : Place → ℕ) (t : ℕ) (os : List Operation) (o : Operation) → (o.thread == t) ≡ true → marks_by number t (os ++ o ∷ []) ≡ marks_by number t os ++ mark_by number o ∷ []
marks-own number t os o h =
    ap (map (mark_by number)) (filter-append (λ x. x.thread == t) os (o ∷ []) ∙ ap (λ l. filter (λ x. x.thread == t) os ++ l) (cond-true (o.thread == t) (o ∷ []) [] h))
    ∙ map-append (mark_by number) (filter (λ x. x.thread == t) os) (o ∷ [])

pub marks-other : (number : Place → ℕ) (t : ℕ) (os : List Operation) (o : Operation) → (o.thread == t) ≡ false → marks_by number t (os ++ o ∷ []) ≡ marks_by number t os
marks-other number t os o h =
    ap (map (mark_by number)) (filter-append (λ x. x.thread == t) os (o ∷ []) ∙ ap (λ l. filter (λ x. x.thread == t) os ++ l) (cond-false (o.thread == t) (o ∷ []) [] h) ∙ append-none (filter (λ x. x.thread == t) os))
  where
    append-none : (xs : List Operation) → xs ++ [] ≡ xs
    append-none [] = refl
    append-none (x ∷ xs) = ap (λ l. x ∷ l) (append-none xs)

-- pairs of what a function gives
each-map : {X Y : Type 0} (f : X → Y) (P : Y → Type 0) (xs : List X) → Each P (map f xs) ↔ Each (λ x. P (f x)) xs
each-map f P [] = (λ h. tt, λ h. tt)
each-map f P (x ∷ xs) = let r = each-map f P xs in (λ h. (h.0, r.0 h.1), λ h. (h.0, r.1 h.1))

pairs-map : {X Y : Type 0} (f : X → Y) (R : Y → Y → Type 0) (xs : List X) → Pairwise R (map f xs) ↔ Pairwise (λ a b. R (f a) (f b)) xs
pairs-map f R [] = (λ h. tt, λ h. tt)
pairs-map f R (x ∷ xs) =
    let r = pairs-map f R xs in
    let e = each-map f (R (f x)) xs in
    (λ h. (e.0 h.0, r.0 h.1), λ h. (e.1 h.0, r.1 h.1))

-- a thread's own operations keep program order just where their marks do
module _ (operations : List Operation) where
  same-conflict : (a b : Operation) → Has operations a → Has operations b → conflict (mark_by (number_in operations) a) (mark_by (number_in operations) b) ≡ consistent.conflict a b
  same-conflict a b x y =
      let same : (number_in operations a.place == number_in operations b.place) ≡ same_place a.place b.place =
      elim (cases_Bool (same_place a.place b.place)) [
        | inl t ↦
            eq-eqb (number_in operations a.place) (number_in operations b.place) (ap (number_in operations) (same_place-true a.place b.place t))
            ∙ sym t
        | inr f ↦
            ne_eqb (number_in operations a.place) (number_in operations b.place)
            ((numbers operations).other b.place a.place (used-by operations b y) (used-by operations a x) f)
            ∙ sym f
      ] in
      ap (λ z. (a.strict || b.strict) || (z && (a.write || b.write))) same

  pub marks-keep : (t : ℕ) (os : List Operation) → Each (Has operations) os → (Pairwise InOrder (marks_by (number_in operations) t os) ↔ Pairwise (KeepsProgram t) os)
  marks-keep t os inside =
      let own = λ (o : Operation). o.thread == t in
      let m = pairs-map (mark_by (number_in operations)) InOrder (filter own os) in (
        λ h. pairs-from (KeepsProgram t) os
            (λ a b p u v k.
            let w = precedes-has os a b p in
            pairs-at (λ c d. InOrder (mark_by (number_in operations) c) (mark_by (number_in operations) d)) (filter own os) (m.0 h) a b
            (precedes-filter own os a b (eq-eqb a.thread t u) (eq-eqb b.thread t v) p)
            (same-conflict a b (each-has (Has operations) os inside a w.0) (each-has (Has operations) os inside b w.1) ∙ k)),
        λ h. m.1
            (pairs-from (λ c d. InOrder (mark_by (number_in operations) c) (mark_by (number_in operations) d)) (filter own os)
            (λ a b p k.
            let w = precedes-has (filter own os) a b p in
            let x = filter-has own os a w.0 in
            let y = filter-has own os b w.1 in
            pairs-at (KeepsProgram t) os h a b (filter-precedes own os a b p) (eqb-true a.thread t x.1) (eqb-true b.thread t y.1)
            (sym (same-conflict a b (each-has (Has operations) os inside a x.0) (each-has (Has operations) os inside b y.0)) ∙ k))),
      )
