-- Members that come to the end, each in a slot of its own.
use Rattle.std.proofs.Common.{◌≡◌, ℕ, ◌+◌, ◌<◌, false, cond, List, [], ◌∷◌, ◌++◌, length, map, get_or, None, refl, sym, ap, ◌∙◌, subst, inl, inr, arith}
use Rattle.std.proofs.lemmas.Bool.{cases_Bool, cases_lt, both_ways, cond-true, cond-false, false_from_ne_true}
use Rattle.std.proofs.lemmas.List.{map-append, get_or_append_left, get_or_at, length_push}
use Rattle.block_layout.specs.declared.place.Loc.{Loc}
use Rattle.upc_values.specs.Scalars.{same_loc}
use Rattle.upc_values.specs.Lists.{Has, Each}
use Rattle.upc_values.proofs.Membership.{each-has, each-weaker}
use Rattle.upc_values.proofs.Sameness.{same_loc-true, same_loc-itself}
use Rattle.replica_space.specs.declared.message.Stamp.{Stamp}
use Rattle.replica_space.specs.declared.message.Message.{Message}
use Rattle.replica_space.specs.Spaces.{is_later}
use Rattle.replica_space_lists.proofs.Stamps.{upto-self}
use Rattle.replica_space_orders.specs.layer.Finding.{Ascend}
use Rattle.replica_space_marks.specs.layer.Marks.{MarksState, with_mark}
use Rattle.replica_space_rows.specs.declared.member.Member.{Member}
use Rattle.replica_space_rows.specs.declared.slotted.Slotted.{Slotted}
use Rattle.replica_space_rows.specs.layer.Rows.{write_in, is_after, with_member}
use Rattle.replica_space_rows.specs.code.Places.{put_by, no_stamp, is_before, stamp_at, HasMark, IsUpto, IsOwn, ArePlaced}
use Rattle.replica_space_rows.proofs.Sorting.{has-put, put-has, put-itself, each-put, rises-put, put-last}
use Rattle.replica_space_rows.proofs.Keeping.{before-order, waits-of, some-is, no-write, slotted_write, written_by, later-mark}

-- a write comes to the end where no member is a later one
last-where : (m : Message) (ys : List Slotted) → ((y : Slotted) → Has ys y → is_after m y.member ≡ false)
    → with_member m (map (λ y. y.member) ys) ≡ map (λ y. y.member) ys ++ write_in m ∷ []
last-where m [] h = refl
last-where m (y ∷ ys) h =
    cond-false (is_after m y.member) (write_in m ∷ y.member ∷ map (λ w. w.member) ys) (y.member ∷ with_member m (map (λ w. w.member) ys)) (h y (inl refl))
    ∙ ap (λ l. y.member ∷ l) (last-where m ys (λ w k. h w (inr k)))

module _ (xs : List Slotted) (n : ℕ) (marks : Loc → MarksState) (a : ArePlaced xs n marks) where
  slot-low : (l : Loc) (j : ℕ) → j < length (marks l).slots → get_or (marks l).slots j 0 < n
  slot-low l j lj =
      let z = a.owned l j lj in
      let low = each-has (λ (y : Slotted). y.slot < n) xs a.below z.0 z.1 in omega (arith, z.2.slot)

  -- what has a slot of its own comes last
  pub put-end : (y : Member) → put_by is_before (record { member = y; slot = n }) xs ≡ xs ++ record { member = y; slot = n } ∷ []
  put-end y =
      let x : Slotted = record { member = y; slot = n } in
      put-last is_before before-order x xs
      (each-weaker (λ z. z.slot < n) (λ z. is_before x z ≡ false) (λ z lt. waits-of x z (inl lt)) xs a.below)

  all-below : (y : Member) → Each (λ z. z.slot < n + 1) (put_by is_before (record { member = y; slot = n }) xs)
  all-below y =
      each-put is_before before-order (λ z. z.slot < n + 1) (record { member = y; slot = n }) xs (omega arith)
      (each-weaker (λ z. z.slot < n) (λ z. z.slot < n + 1) (λ z lt. omega (arith, lt)) xs a.below)

  -- the new slot is not marked before
  not-marked : (y : Member) (z : Slotted) (l : Loc) (j : ℕ) → j < length (marks l).slots → record { member = y; slot = n } ≡ z
      → z.slot ≡ get_or (marks l).slots j 0 → ⊥
  not-marked y z l j lj e q =
      let low = slot-low l j lj in
      let same = ap (λ (w : Slotted). w.slot) e in
      omega (arith, low, same, q)

  -- ---- an operation that writes no location

  pub other-placed : (y : Member) → y.written ≡ None → ArePlaced (put_by is_before (record { member = y; slot = n }) xs) (n + 1) marks
  other-placed y none =
      let x : Slotted = record { member = y; slot = n } in
      record {
        rises = rises-put is_before before-order x xs a.rises;
        below = all-below y;
        even = a.even;
        ascend = a.ascend;
        slots = a.slots;
        marked = λ z w h e. elim (has-put is_before before-order x xs z h) [
          | inl q ↦ absurd (no-write w (sym none ∙ ap (λ (v : Slotted). v.member.written) q ∙ e))
          | inr k ↦ a.marked z w k e
        ];
        owned = λ l j lj. let z = a.owned l j lj in (z.0, put-has is_before before-order x xs z.0 z.1, z.2);
        alone = λ l j z lj h q. elim (has-put is_before before-order x xs z h) [
          | inl e ↦ absurd (not-marked y z l j lj e q)
          | inr k ↦ a.alone l j z lj k q
        ];
      }

  -- ---- a write that no mark of its location is later than

  module _ (m : Message) (first : (j : ℕ) (d : Stamp) → j < length (marks m.loc).slots → is_later (get_or (marks m.loc).stamps j d) m.stamp ≡ false)
      (new : Loc → MarksState)
      (more : (l : Loc) → new l ≡ cond (same_loc m.loc l) (with_mark m.stamp n (marks l)) (marks l)) where
    abbrev ms : MarksState
    ms = marks m.loc

    abbrev with : MarksState
    with = with_mark m.stamp n ms

    abbrev x : Slotted
    x = slotted_write m n

    pub end-members : map (λ y. y.member) (put_by is_before x xs) ≡ with_member m (map (λ y. y.member) xs)
    end-members =
        ap (map (λ (y : Slotted). y.member)) (put-end (write_in m))
        ∙ map-append (λ (y : Slotted). y.member) xs (x ∷ [])
        ∙ sym (last-where m xs
        (λ y h. false_from_ne_true (is_after m y.member)
        (λ t. let j = later-mark xs n marks a m y h t in both_ways (is_later (stamp_at ms j.0) m.stamp) (first j.0 no_stamp j.1) j.3)))

    -- what holds of the new marks of each location
    split : (P : Loc → MarksState → Type 0) → P m.loc with → ((l : Loc) → P l (marks l)) → (l : Loc) → P l (new l)
    split P p q l =
        elim (cases_Bool (same_loc m.loc l)) [
          | inl t ↦
              let e = same_loc-true m.loc l t in
              subst (P l) (sym (more l ∙ cond-true (same_loc m.loc l) (with_mark m.stamp n (marks l)) (marks l) t))
              (subst (λ k. P k (with_mark m.stamp n (marks k))) e p)
          | inr f ↦ subst (P l) (sym (more l ∙ cond-false (same_loc m.loc l) (with_mark m.stamp n (marks l)) (marks l) f)) (q l)
        ]

    even-stamps : length ms.stamps ≡ length ms.slots
    even-stamps = a.even m.loc

    stamps-len : length with.stamps ≡ length ms.stamps + 1
    stamps-len = length_push ms.stamps m.stamp

    slots-len : length with.slots ≡ length ms.slots + 1
    slots-len = length_push ms.slots n

    old-stamp : (j : ℕ) (d : Stamp) → j < length ms.stamps → get_or with.stamps j d ≡ get_or ms.stamps j d
    old-stamp j d lt = get_or_append_left ms.stamps (m.stamp ∷ []) d j lt

    last-stamp : (j : ℕ) (d : Stamp) → j ≡ length ms.stamps → get_or with.stamps j d ≡ m.stamp
    last-stamp j d e = get_or_at ms.stamps m.stamp [] d j (sym e)

    old-slot : (j : ℕ) → j < length ms.slots → get_or with.slots j 0 ≡ get_or ms.slots j 0
    old-slot j lt = get_or_append_left ms.slots (n ∷ []) 0 j lt

    last-slot : (j : ℕ) → j ≡ length ms.slots → get_or with.slots j 0 ≡ n
    last-slot j e = get_or_at ms.slots n [] 0 j (sym e)

    with-ascend : Ascend with.stamps
    with-ascend i j d le lt =
        elim (cases_lt j (length ms.stamps)) [
          | inl old ↦
              ap (λ s. is_later (get_or with.stamps i d) s) (old-stamp j d old)
              ∙ ap (λ s. is_later s (get_or ms.stamps j d)) (old-stamp i d (omega arith))
              ∙ a.ascend m.loc i j d le old
          | inr past ↦
              ap (λ s. is_later (get_or with.stamps i d) s) (last-stamp j d (omega (arith, stamps-len)))
              ∙ elim (cases_lt i (length ms.stamps)) [
                | inl old ↦ ap (λ s. is_later s m.stamp) (old-stamp i d old) ∙ first i d (omega (arith, even-stamps))
                | inr at ↦ ap (λ s. is_later s m.stamp) (last-stamp i d (omega (arith, stamps-len))) ∙ upto-self m.stamp
              ]
        ]

    with-slots : (i j : ℕ) → i < j → j < length with.slots → get_or with.slots i 0 < get_or with.slots j 0
    with-slots i j up lt =
        elim (cases_lt j (length ms.slots)) [
          | inl old ↦
              let s = a.slots m.loc i j up old in
              omega (arith, old-slot i (omega arith), old-slot j old)
          | inr past ↦
              let at : j ≡ length ms.slots = omega (arith, slots-len) in
              let low = slot-low m.loc i (omega arith) in
              omega (arith, old-slot i (omega arith), last-slot j at)
        ]

    mark-more : (k : ℕ) (s : Stamp) → HasMark ms k s → HasMark with k s
    mark-more k s h = (
      h.0,
      omega (arith, h.1, slots-len),
      old-slot h.0 h.1 ∙ h.2,
      ap (is_later s) (old-stamp h.0 no_stamp (omega (arith, h.1, even-stamps))) ∙ h.3,
    )

    new-mark : HasMark with n m.stamp
    new-mark =
        let at = last-stamp (length ms.slots) no_stamp (sym even-stamps) in
        (length ms.slots, omega (arith, slots-len), last-slot (length ms.slots) refl, ap (is_later m.stamp) at ∙ upto-self m.stamp)

    with-owned : (i : ℕ) → i < length with.slots
        → (z : Slotted) × Has (put_by is_before x xs) z × IsOwn m.loc (stamp_at with i) (get_or with.slots i 0) z
    with-owned i lt =
        elim (cases_lt i (length ms.slots)) [
          | inl old ↦
              let z = a.owned m.loc i old in (
                z.0,
                put-has is_before before-order x xs z.0 z.1,
                subst (λ k. IsOwn m.loc (stamp_at with i) k z.0) (sym (old-slot i old))
                    (subst (λ s. IsOwn m.loc s (get_or ms.slots i 0) z.0) (sym (old-stamp i no_stamp (omega (arith, even-stamps)))) z.2),
              )
          | inr past ↦
              let at : i ≡ length ms.slots = omega (arith, slots-len) in (
                x,
                put-itself is_before before-order x xs,
                subst (λ k. IsOwn m.loc (stamp_at with i) k x) (sym (last-slot i at))
                    (subst (λ s. IsOwn m.loc s n x) (sym (last-stamp i no_stamp (at ∙ sym even-stamps))) (record { slot = refl; writes = refl })),
              )
        ]

    with-alone : (i : ℕ) (z : Slotted) → i < length with.slots → Has (put_by is_before x xs) z → z.slot ≡ get_or with.slots i 0
        → IsUpto m.loc (stamp_at with i) z.member.written
    with-alone i z lt h q =
        elim (cases_lt i (length ms.slots)) [
          | inl old ↦
              subst (λ s. IsUpto m.loc s z.member.written) (sym (old-stamp i no_stamp (omega (arith, even-stamps))))
              (elim (has-put is_before before-order x xs z h) [
                | inl e ↦ absurd (not-marked (write_in m) z m.loc i old e (q ∙ old-slot i old))
                | inr k ↦ a.alone m.loc i z old k (q ∙ old-slot i old)
              ])
          | inr past ↦
              let at : i ≡ length ms.slots = omega (arith, slots-len) in
              subst (λ s. IsUpto m.loc s z.member.written) (sym (last-stamp i no_stamp (at ∙ sym even-stamps)))
              (elim (has-put is_before before-order x xs z h) [
                | inl e ↦ subst (λ (w : Slotted). IsUpto m.loc m.stamp w.member.written) e (written_by m, refl, refl, upto-self m.stamp)
                | inr k ↦
                    let low = each-has (λ (y : Slotted). y.slot < n) xs a.below z k in
                    absurd (omega (arith, low, q, last-slot i at))
              ])
        ]

    pub end-placed : ArePlaced (put_by is_before x xs) (n + 1) new
    end-placed = record {
      rises = rises-put is_before before-order x xs a.rises;
      below = all-below (write_in m);
      even = split (λ l s. length s.stamps ≡ length s.slots) (omega (arith, stamps-len, slots-len, even-stamps)) a.even;
      ascend = split (λ l s. Ascend s.stamps) with-ascend a.ascend;
      slots = split (λ l s. (i j : ℕ) → i < j → j < length s.slots → get_or s.slots i 0 < get_or s.slots j 0) with-slots a.slots;
      marked = λ z w h e. elim (has-put is_before before-order x xs z h) [
        | inl q ↦
            let same : written_by m ≡ w = some-is (written_by m) w (ap (λ (v : Slotted). v.member.written) q ∙ e) in
            let here : new m.loc ≡ with = more m.loc ∙ cond-true (same_loc m.loc m.loc) with ms (same_loc-itself m.loc) in
            subst (λ v. HasMark (new v.loc) z.slot v.stamp) same
            (subst (λ k. HasMark (new m.loc) k m.stamp) (ap (λ (v : Slotted). v.slot) q)
            (subst (λ s. HasMark s n m.stamp) (sym here) new-mark))
        | inr k ↦
            split (λ l s. (j : ℕ) (t : Stamp) → HasMark (marks l) j t → HasMark s j t) mark-more (λ l j t r. r) w.loc z.slot w.stamp (a.marked z w k e)
      ];
      owned = split (λ l s. (i : ℕ) → i < length s.slots → (z : Slotted) × Has (put_by is_before x xs) z × IsOwn l (stamp_at s i) (get_or s.slots i 0) z) with-owned
          (λ l i lt. let z = a.owned l i lt in (z.0, put-has is_before before-order x xs z.0 z.1, z.2));
      alone = split (λ l s. (i : ℕ) (z : Slotted) → i < length s.slots → Has (put_by is_before x xs) z → z.slot ≡ get_or s.slots i 0 → IsUpto l (stamp_at s i) z.member.written) with-alone
          (λ l i z lt h q. elim (has-put is_before before-order x xs z h) [
            | inl e ↦ absurd (not-marked (write_in m) z l i lt e q)
            | inr k ↦ a.alone l i z lt k q
          ]);
    }

  -- ---- the same marks

  pub placed-same : (new : Loc → MarksState) → ((l : Loc) → new l ≡ marks l) → ArePlaced xs n new
  placed-same new e = record {
    rises = a.rises;
    below = a.below;
    even = λ l. subst (λ s. length s.stamps ≡ length s.slots) (sym (e l)) (a.even l);
    ascend = λ l. subst (λ s. Ascend s.stamps) (sym (e l)) (a.ascend l);
    slots = λ l. subst (λ s. (i j : ℕ) → i < j → j < length s.slots → get_or s.slots i 0 < get_or s.slots j 0) (sym (e l)) (a.slots l);
    marked = λ x w h q. subst (λ s. HasMark s x.slot w.stamp) (sym (e w.loc)) (a.marked x w h q);
    owned = λ l. subst (λ s. (i : ℕ) → i < length s.slots → (x : Slotted) × Has xs x × IsOwn l (stamp_at s i) (get_or s.slots i 0) x) (sym (e l)) (a.owned l);
    alone = λ l. subst (λ s. (i : ℕ) (x : Slotted) → i < length s.slots → Has xs x → x.slot ≡ get_or s.slots i 0 → IsUpto l (stamp_at s i) x.member.written) (sym (e l)) (a.alone l);
  }

-- no member yet
pub none-placed : (marks : Loc → MarksState) → ((l : Loc) → marks l ≡ record { stamps = []; slots = [] }) → ArePlaced [] 0 marks
none-placed marks e =
    placed-same [] 0 (λ l. record { stamps = []; slots = [] })
    (record {
      rises = tt;
      below = tt;
      even = λ l. refl;
      ascend = λ l i j d le lt. absurd (omega (arith, lt));
      slots = λ l i j up lt. absurd (omega (arith, lt));
      marked = λ x w h q. absurd h;
      owned = λ l i lt. absurd (omega (arith, lt));
      alone = λ l i x lt h q. absurd h;
    }) marks e
