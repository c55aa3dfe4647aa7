-- Members in their places, after each step.
use Rattle.std.proofs.Common.{◌≡◌, ℕ, ◌<◌, ◌≤◌, ◌==◌, nat_lt, Bool, true, false, ◌&&◌, List, [], ◌∷◌, length, map, get_or, Option, Some, None, refl, sym, ap, ◌∙◌, subst, inl, inr, ◌⊎◌, arith, eq-eqb, eqb-true, ltb-true, lt-ltb}
use Rattle.std.specs.Cmp.{IsStrictWeakOrder}
use Rattle.std.proofs.lemmas.Bool.{cases_Bool, cases_order, or_cases, or_left, or_right, and_parts, and_from, both_ways, cond-true, cond-false, false_from_ne_true, false≢true}
use Rattle.block_layout.specs.declared.place.Loc.{Loc}
use Rattle.upc_values.specs.Scalars.{same_loc}
use Rattle.upc_values.specs.Lists.{Has, Pairwise}
use Rattle.upc_values.proofs.Membership.{each-has}
use Rattle.upc_values.proofs.Sameness.{same_loc-true, same_loc-itself}
use Rattle.replica_space.specs.declared.message.Message.{Message}
use Rattle.replica_space.specs.Spaces.{is_later}
use Rattle.replica_space_lists.proofs.Stamps.{upto-trans, later-upto}
use Rattle.replica_space_orders.specs.layer.Finding.{IsFirstLater}
use Rattle.replica_space_marks.specs.layer.Marks.{MarksState}
use Rattle.replica_space_rows.specs.declared.member.Written.{Written}
use Rattle.replica_space_rows.specs.declared.slotted.Slotted.{Slotted}
use Rattle.replica_space_rows.specs.layer.Rows.{write_in, is_after, is_later_there, with_member}
use Rattle.replica_space_rows.specs.code.Places.{put_by, no_stamp, stamp_in, is_before, stamp_at, HasMark, IsUpto, IsOwn, ArePlaced}
use Rattle.replica_space_rows.proofs.Sorting.{has-put, put-has, each-put, rises-put}

-- ---- the order of members

abbrev Comes : Slotted → Slotted → Type 0
Comes a b = (a.slot < b.slot) ⊎ ((a.slot ≡ b.slot) × (is_later (stamp_in b.member.written) (stamp_in a.member.written) ≡ true))

comes-is : (a b : Slotted) → is_before a b ≡ true → Comes a b
comes-is a b h =
    let q = is_later (stamp_in b.member.written) (stamp_in a.member.written) in
    elim (or_cases (nat_lt a.slot b.slot) ((a.slot == b.slot) && q) h) [
      | inl k ↦ inl (ltb-true a.slot b.slot k)
      | inr k ↦ let p = and_parts (a.slot == b.slot) q k in inr (eqb-true a.slot b.slot p.0, p.1)
    ]

comes-of : (a b : Slotted) → Comes a b → is_before a b ≡ true
comes-of a b (inl k) =
    or_left (nat_lt a.slot b.slot) ((a.slot == b.slot) && is_later (stamp_in b.member.written) (stamp_in a.member.written)) (lt-ltb a.slot b.slot k)
comes-of a b (inr k) =
    let q = is_later (stamp_in b.member.written) (stamp_in a.member.written) in
    or_right (nat_lt a.slot b.slot) ((a.slot == b.slot) && q) (and_from (a.slot == b.slot) q (eq-eqb a.slot b.slot k.0) k.1)

abbrev Waits : Slotted → Slotted → Type 0
Waits a b = (b.slot < a.slot) ⊎ ((a.slot ≡ b.slot) × (is_later (stamp_in b.member.written) (stamp_in a.member.written) ≡ false))

waits-is : (a b : Slotted) → is_before a b ≡ false → Waits a b
waits-is a b h =
    elim (cases_order a.slot b.slot) [
      | inl e ↦ inr (e, false_from_ne_true (is_later (stamp_in b.member.written) (stamp_in a.member.written)) (λ t. false≢true (sym h ∙ comes-of a b (inr (e, t)))))
      | inr k ↦ elim k [ inl lt ↦ absurd (false≢true (sym h ∙ comes-of a b (inl lt))) | inr gt ↦ inl gt ]
    ]

pub waits-of : (a b : Slotted) → Waits a b → is_before a b ≡ false
waits-of a b h = false_from_ne_true (is_before a b) (λ t. go h (comes-is a b t))
  where
    go : Waits a b → Comes a b → ⊥
    go (inl x) (inl y) = omega arith
    go (inl x) (inr y) = omega (arith, y.0)
    go (inr x) (inl y) = omega (arith, x.0)
    go (inr x) (inr y) = false≢true (sym x.1 ∙ y.1)

one-way : (x y : Slotted) → Comes x y → Waits y x
one-way x y (inl k) = inl k
one-way x y (inr k) = inr (sym k.0, later-upto (stamp_in y.member.written) (stamp_in x.member.written) k.1)

chain : (x y z : Slotted) → Waits x y → Waits y z → Waits x z
chain x y z (inl h) (inl k) = inl (omega arith)
chain x y z (inl h) (inr k) = inl (omega (arith, k.0))
chain x y z (inr h) (inl k) = inl (omega (arith, h.0))
chain x y z (inr h) (inr k) =
    inr (h.0 ∙ k.0, upto-trans (stamp_in z.member.written) (stamp_in y.member.written) (stamp_in x.member.written) k.1 h.1)

pub before-order : IsStrictWeakOrder is_before
before-order = record {
  one_way = λ x y e. waits-of y x (one-way x y (comes-is x y e));
  chain = λ x y z h k. waits-of x z (chain x y z (waits-is x y h) (waits-is y z k));
}

-- ---- a member put directly before the first later write of its location

-- two tests that agree in a list as far as the first that passes put a member in one place
same-place : (x : Slotted) (m : Message) (k : ℕ) (ys : List Slotted) → x.member ≡ write_in m → Pairwise (λ a b. is_before b a ≡ false) ys
    → ((y : Slotted) → Has ys y → is_after m y.member ≡ true → is_before x y ≡ true)
    → ((y : Slotted) → Has ys y → is_before x y ≡ true → y.slot ≤ k → is_after m y.member ≡ true)
    → ((z : Slotted) × Has ys z × (z.slot ≡ k) × (is_before x z ≡ true))
    → map (λ y. y.member) (put_by is_before x ys) ≡ with_member m (map (λ y. y.member) ys)
same-place x m k [] e r one two three = absurd three.1
same-place x m k (y ∷ ys) e r one two three =
    let z = three.0 in
    elim (cases_Bool (is_before x y)) [
      | inl t ↦
          let low : y.slot ≤ k =
          elim three.1 [
            | inl q ↦ omega (arith, ap (λ (w : Slotted). w.slot) q, three.2)
            | inr w ↦ elim (waits-is z y (each-has (λ b. is_before b y ≡ false) ys r.0 z w)) [ inl lt ↦ omega (arith, three.2) | inr q ↦ omega (arith, q.0, three.2) ]
          ] in
          ap (map (λ w. w.member)) (cond-true (is_before x y) (x ∷ y ∷ ys) (y ∷ put_by is_before x ys) t)
          ∙ ap (λ l. l ∷ y.member ∷ map (λ w. w.member) ys) e
          ∙ sym (cond-true (is_after m y.member) (write_in m ∷ y.member ∷ map (λ w. w.member) ys) (y.member ∷ with_member m (map (λ w. w.member) ys)) (two y (inl refl) t low))
      | inr f ↦
          let not : is_after m y.member ≡ false = false_from_ne_true (is_after m y.member) (λ t. both_ways (is_before x y) f (one y (inl refl) t)) in
          let has : Has ys z =
          elim three.1 [ inl q ↦ absurd (both_ways (is_before x y) f (subst (λ w. is_before x w ≡ true) (sym q) three.3)) | inr w ↦ w ] in
          ap (map (λ w. w.member)) (cond-false (is_before x y) (x ∷ y ∷ ys) (y ∷ put_by is_before x ys) f)
          ∙ ap (λ l. y.member ∷ l) (same-place x m k ys e r.1 (λ w h. one w (inr h)) (λ w h. two w (inr h)) (z, has, three.2, three.3))
          ∙ sym (cond-false (is_after m y.member) (write_in m ∷ y.member ∷ map (λ w. w.member) ys) (y.member ∷ with_member m (map (λ w. w.member) ys)) not)
    ]

pub some-is : (a b : Written) → Some a ≡ Some b → a ≡ b
some-is a b e = cc

pub no-write : (w : Written) → ◌≡◌ {A = Option Written} None (Some w) → ⊥
no-write w e = absurd cc

-- the write of a message, in a slot
abbrev pub slotted_write : Message → ℕ → Slotted
slotted_write m k = record { member = write_in m; slot = k }

abbrev pub written_by : Message → Written
written_by m = record { loc = m.loc; stamp = m.stamp }

-- a later write of the message's location
after-is : (m : Message) (o : Option Written) → is_later_there m o ≡ true → (w : Written) × (o ≡ Some w) × (w.loc ≡ m.loc) × (is_later w.stamp m.stamp ≡ true)
after-is m None h = absurd (false≢true h)
after-is m (Some w) h =
    let p = and_parts (same_loc w.loc m.loc) (is_later w.stamp m.stamp) h in (w, refl, same_loc-true w.loc m.loc p.0, p.1)

after-of : (m : Message) (o : Option Written) (w : Written) → o ≡ Some w → w.loc ≡ m.loc → is_later w.stamp m.stamp ≡ true → is_later_there m o ≡ true
after-of m o w e q h =
    ap (is_later_there m) e
    ∙ and_from (same_loc w.loc m.loc) (is_later w.stamp m.stamp) (ap (λ l. same_loc l m.loc) q ∙ same_loc-itself m.loc) h

module _ (xs : List Slotted) (n : ℕ) (marks : Loc → MarksState) (a : ArePlaced xs n marks) (m : Message) where
  abbrev ms : MarksState
  ms = marks m.loc

  -- the slot of a later write of the location has a later mark
  pub later-mark : (y : Slotted) → Has xs y → is_after m y.member ≡ true
      → (j : ℕ) × (j < length ms.slots) × (get_or ms.slots j 0 ≡ y.slot) × (is_later (stamp_at ms j) m.stamp ≡ true)
  later-mark y h e =
      let w = after-is m y.member.written e in
      let k : HasMark ms y.slot w.0.stamp = subst (λ l. HasMark (marks l) y.slot w.0.stamp) w.2 (a.marked y w.0 h w.1) in
      (k.0, k.1, k.2, true_from (is_later (stamp_at ms k.0) m.stamp) (λ f. both_ways (is_later w.0.stamp m.stamp) (upto-trans w.0.stamp (stamp_at ms k.0) m.stamp k.3 f) w.3))
    where
      true_from : (b : Bool) → (b ≡ false → ⊥) → b ≡ true
      true_from true h = refl
      true_from false h = absurd (h refl)

  -- ---- a mark is found

  module _ (i : ℕ) (first : IsFirstLater ms.stamps m.stamp i) (lt : i < length ms.slots) where
    abbrev k : ℕ
    k = get_or ms.slots i 0

    abbrev x : Slotted
    x = slotted_write m k

    is-later-mark : is_later (stamp_at ms i) m.stamp ≡ true
    is-later-mark = first.later i no_stamp (omega arith) (omega (arith, a.even m.loc))

    own : (z : Slotted) × Has xs z × IsOwn m.loc (stamp_at ms i) k z
    own = a.owned m.loc i lt

    one : (y : Slotted) → Has xs y → is_after m y.member ≡ true → is_before x y ≡ true
    one y h e =
        let w = after-is m y.member.written e in
        let j = later-mark y h e in
        elim (cases_order i j.0) [
          | inl q ↦
              comes-of x y
              (inr (ap (λ p. get_or ms.slots p 0) q ∙ j.2, ap (λ o. is_later (stamp_in o) m.stamp) w.1 ∙ w.3))
          | inr p ↦ elim p [
            | inl up ↦ comes-of x y (inl (let s = a.slots m.loc i j.0 up j.1 in let q = j.2 in omega arith))
            | inr down ↦ absurd (both_ways (is_later (stamp_at ms j.0) m.stamp) (first.before j.0 no_stamp down) j.3)
          ]
        ]

    two : (y : Slotted) → Has xs y → is_before x y ≡ true → y.slot ≤ k → is_after m y.member ≡ true
    two y h e le =
        elim (comes-is x y e) [
          | inl up ↦ absurd (omega (arith, up, le))
          | inr q ↦
              let u = a.alone m.loc i y lt h (sym q.0) in
              after-of m y.member.written u.0 u.1 u.2 (sym (ap (λ o. is_later (stamp_in o) m.stamp) u.1) ∙ q.1)
        ]

    three : (z : Slotted) × Has xs z × (z.slot ≡ k) × (is_before x z ≡ true)
    three = (
      own.0,
      own.1,
      own.2.slot,
      comes-of x own.0 (inr (sym own.2.slot, ap (λ o. is_later (stamp_in o) m.stamp) own.2.writes ∙ is-later-mark)),
    )

    pub found-members : map (λ y. y.member) (put_by is_before x xs) ≡ with_member m (map (λ y. y.member) xs)
    found-members = same-place x m k xs refl a.rises one two three

    slot-below : k < n
    slot-below = let low = each-has (λ (y : Slotted). y.slot < n) xs a.below own.0 own.1 in omega (arith, own.2.slot)

    -- at another mark of the slot, the location is the same one and the stamp no earlier
    at-mark : (l : Loc) (j : ℕ) → j < length (marks l).slots → k ≡ get_or (marks l).slots j 0 → IsUpto l (stamp_at (marks l) j) (Some (written_by m))
    at-mark l j lj q =
        let u = a.alone l j own.0 lj own.1 (own.2.slot ∙ q) in
        let e : record { loc = m.loc; stamp = stamp_at ms i } ≡ u.0 = some-is (record { loc = m.loc; stamp = stamp_at ms i }) u.0 (sym own.2.writes ∙ u.1) in
        let loc : m.loc ≡ l = ap (λ (w : Written). w.loc) e ∙ u.2 in
        let upto : is_later (stamp_at ms i) (stamp_at (marks l) j) ≡ false = ap (λ (w : Written). is_later w.stamp (stamp_at (marks l) j)) e ∙ u.3 in
        (written_by m, refl, loc, upto-trans m.stamp (stamp_at ms i) (stamp_at (marks l) j) (later-upto (stamp_at ms i) m.stamp is-later-mark) upto)

    pub found-placed : ArePlaced (put_by is_before x xs) n marks
    found-placed = record {
      rises = rises-put is_before before-order x xs a.rises;
      below = each-put is_before before-order (λ y. y.slot < n) x xs slot-below a.below;
      even = a.even;
      ascend = a.ascend;
      slots = a.slots;
      marked = λ y w h e. elim (has-put is_before before-order x xs y h) [
        | inl q ↦
            let same : written_by m ≡ w = some-is (written_by m) w (ap (λ (z : Slotted). z.member.written) q ∙ e) in
            subst (λ v. HasMark (marks v.loc) y.slot v.stamp) same
            (subst (λ s. HasMark ms s m.stamp) (ap (λ (z : Slotted). z.slot) q) (i, lt, refl, later-upto (stamp_at ms i) m.stamp is-later-mark))
        | inr k ↦ a.marked y w k e
      ];
      owned = λ l j lj. let z = a.owned l j lj in (z.0, put-has is_before before-order x xs z.0 z.1, z.2);
      alone = λ l j y lj h q. elim (has-put is_before before-order x xs y h) [
        | inl e ↦ subst (λ (z : Slotted). IsUpto l (stamp_at (marks l) j) z.member.written) e (at-mark l j lj (ap (λ (z : Slotted). z.slot) e ∙ q))
        | inr k ↦ a.alone l j y lj k q
      ];
    }
