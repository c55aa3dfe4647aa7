-- The copies and the mail of threads after each step.
use Rattle.std.proofs.Common.{◌≡◌, ℕ, ◌+◌, ◌<◌, ◌≤◌, ◌==◌, ◌&&◌, Bool, true, false, cond, List, [], ◌∷◌, ◌++◌, length, drop, get_or, set, replicate, slice_get, Some, None, refl, sym, ap, ◌∙◌, subst, inl, inr, arith, eq-eqb, zero, suc}
use Rattle.std.proofs.lemmas.Bool.{cases_eq, cases_lt, ne_eqb, cond-true, cond-false, and_left, and_right, and_from}
use Rattle.std.proofs.lemmas.List.{get_or-set_same, get_or-set_other, length-set, set-get_or, get_or-replicate, get_or_past, length-replicate}
use Rattle.block_layout.specs.declared.place.Loc.{Loc}
use Rattle.upc_values.specs.Scalars.{same_loc}
use Rattle.upc_values.specs.Lists.{Each}
use Rattle.replica_space.specs.declared.message.Message.{Message}
use Rattle.replica_space.specs.Spaces.{Space, begun, greater, greatest, with_message, with_mail, with_sent, sent, received, met, spread}
use Rattle.replica_space_copies.specs.layer.Copies.{CopiesState, HeldState, threads_of, space_of, held_at, letters}
use Rattle.replica_space_copies.specs.layer.Counts.{sum_below, waiting_in}
use Rattle.replica_space_copies.specs.layer.Same.{IsSame}
use Rattle.replica_space_copies.specs.code.Sound.{AreCopies, IsLow}
use Rattle.replica_space_copies.proofs.Waiting.{waiting-same, waiting-above, waiting-sent, waiting-received, more-own, more-of, more-at}
use Rattle.replica_space_copies.proofs.Lows.{low-same, low-sent, low-received, low-met, low-spread}

-- all that is true at each moment, where the threads have what they have in s
kept-by : (c d : CopiesState) (s : Space) → AreCopies c → threads_of d ≡ threads_of c → length d.boxes ≡ length c.boxes
    → ((from : ℕ) → length (get_or d.boxes from []) ≡ length (get_or c.boxes from []))
    → IsSame (threads_of c) (space_of d) s → IsLow (threads_of c) d.writes s → d.waiting ≡ waiting_in (threads_of c) s → d.waiting ≤ d.held.room
    → AreCopies d
kept-by c d s a n b sq same low w r = record {
  many = b ∙ a.many ∙ sym n;
  square = λ from h. sq from ∙ a.square from (omega arith) ∙ sym n;
  low = subst (λ k. IsLow k d.writes (space_of d)) (sym n) (low-same (threads_of c) d.writes s (space_of d) same low);
  counted = w ∙ sym (waiting-same (threads_of c) (space_of d) s same) ∙ ap (λ k. waiting_in k (space_of d)) (sym n);
  room = r;
}

-- ---- more room

abbrev pub with_room : CopiesState → List (List (List Message)) → HeldState → CopiesState
with_room c bs h = record { clocks = c.clocks; boxes = bs; held = h; waiting = c.waiting; writes = c.writes }

pub room-is : (c : CopiesState) (bs : List (List (List Message))) (h : HeldState) → bs ≡ c.boxes → ((t : ℕ) (l : Loc) → held_at h t l ≡ held_at c.held t l)
    → IsSame (threads_of c) (space_of (with_room c bs h)) (space_of c)
room-is c bs h e k = record {
  clock = λ t l. refl;
  copy = λ t x l. k t x;
  mail = λ to from l q. ap (λ (b : List (List (List Message))). letters to (get_or b from [])) e;
}

pub room-kept : (c : CopiesState) (bs : List (List (List Message))) (h : HeldState) → AreCopies c → bs ≡ c.boxes
    → ((t : ℕ) (l : Loc) → held_at h t l ≡ held_at c.held t l) → c.held.room ≤ h.room → AreCopies (with_room c bs h)
room-kept c bs h a e k r =
    kept-by c (with_room c bs h) (space_of c) a refl (ap length e) (λ from. ap (λ (b : List (List (List Message))). length (get_or b from [])) e)
    (room-is c bs h e k) a.low a.counted (omega (arith, a.room))

-- a box that is put back
pub box-back : (bs : List (List (List Message))) (i : ℕ) (b x : List (List Message)) → i < length bs → x ≡ get_or bs i x → b ≡ x → set bs i b ≡ bs
box-back bs i b x h k e = ap (set bs i) (e ∙ k) ∙ set-get_or bs i x

-- ---- clocks meet

abbrev pub with_clocks : CopiesState → List ℕ → CopiesState
with_clocks c ks = record { clocks = ks; boxes = c.boxes; held = c.held; waiting = c.waiting; writes = c.writes }

pub met-is : (c : CopiesState) (ks : List ℕ) → ((t : ℕ) → t < threads_of c → get_or ks t 0 ≡ greatest (threads_of c) (λ u. get_or c.clocks u 0))
    → IsSame (threads_of c) (space_of (with_clocks c ks)) (met (threads_of c) (space_of c))
met-is c ks h = record { clock = λ t l. h t l; copy = λ t x l. refl; mail = λ to from l k. refl }

pub met-kept : (c : CopiesState) (ks : List ℕ) → AreCopies c → length ks ≡ threads_of c
    → ((t : ℕ) → t < threads_of c → get_or ks t 0 ≡ greatest (threads_of c) (λ u. get_or c.clocks u 0)) → AreCopies (with_clocks c ks)
met-kept c ks a n h =
    kept-by c (with_clocks c ks) (met (threads_of c) (space_of c)) a n refl (λ from. refl) (met-is c ks h)
    (low-met (threads_of c) c.writes (space_of c) a.low) a.counted a.room

-- ---- a strict write

abbrev pub with_write : CopiesState → List ℕ → HeldState → CopiesState
with_write c ks h = record { clocks = ks; boxes = c.boxes; held = h; waiting = c.waiting; writes = c.writes + 1 }

pub spread-is : (c : CopiesState) (ks : List ℕ) (h : HeldState) (m : Message)
    → ((t : ℕ) → t < threads_of c → get_or ks t 0 ≡ get_or c.clocks t 0 + 1)
    → ((t : ℕ) (l : Loc) → t < threads_of c → held_at h t l ≡ with_message m l (held_at c.held t l))
    → IsSame (threads_of c) (space_of (with_write c ks h)) (spread m (space_of c))
spread-is c ks h m k p = record { clock = λ t l. k t l; copy = λ t x l. p t x l; mail = λ to from l q. refl }

pub spread-kept : (c : CopiesState) (ks : List ℕ) (h : HeldState) (m : Message) → AreCopies c → length ks ≡ threads_of c
    → ((t : ℕ) → t < threads_of c → get_or ks t 0 ≡ get_or c.clocks t 0 + 1)
    → ((t : ℕ) (l : Loc) → t < threads_of c → held_at h t l ≡ with_message m l (held_at c.held t l))
    → c.waiting ≤ h.room → AreCopies (with_write c ks h)
spread-kept c ks h m a n k p r =
    kept-by c (with_write c ks h) (spread m (space_of c)) a n refl (λ from. refl) (spread-is c ks h m k p)
    (low-spread (threads_of c) c.writes m (space_of c) a.low) a.counted r

-- ---- a relaxed write

both : {X : Type 0} (a b : Bool) (x y : X) → cond (a && b) x y ≡ cond a (cond b x y) y
both true b x y = refl
both false b x y = refl

box-length : (bs : List (List (List Message))) (i from : ℕ) (b : List (List Message)) → i < length bs → length b ≡ length (get_or bs i [])
    → length (get_or (set bs i b) from []) ≡ length (get_or bs from [])
box-length bs i from b h e =
    elim (cases_eq from i) [
      | inl q ↦ ap (λ j. length (get_or (set bs i b) j [])) q ∙ ap length (get_or-set_same bs i b [] h) ∙ e ∙ ap (λ j. length (get_or bs j [])) (sym q)
      | inr q ↦ ap length (get_or-set_other bs i from b [] q)
    ]

abbrev pub with_sending : CopiesState → Message → List (List Message) → HeldState → ℕ → CopiesState
with_sending c m b h w = record {
  clocks = set c.clocks m.stamp.thread m.stamp.clock;
  boxes = set c.boxes m.stamp.thread b;
  held = h;
  waiting = w;
  writes = c.writes + 1;
}

module _ (c : CopiesState) (m : Message) (b : List (List Message)) (h : HeldState) (w : ℕ) (a : AreCopies c) (lt : m.stamp.thread < threads_of c)
    (box : (to : ℕ) → to < length (get_or c.boxes m.stamp.thread []) → letters to b ≡ cond (to == m.stamp.thread) [] (letters to (get_or c.boxes m.stamp.thread []) ++ m ∷ []))
    (held : (u : ℕ) (l : Loc) → held_at h u l ≡ cond ((u == m.stamp.thread) && same_loc m.loc l) (Some m) (held_at c.held u l)) where
  sent-clock : (u : ℕ) → get_or (set c.clocks m.stamp.thread m.stamp.clock) u 0 ≡ cond (u == m.stamp.thread) m.stamp.clock (get_or c.clocks u 0)
  sent-clock u =
      elim (cases_eq u m.stamp.thread) [
        | inl e ↦
            ap (λ j. get_or (set c.clocks m.stamp.thread m.stamp.clock) j 0) e ∙ get_or-set_same c.clocks m.stamp.thread m.stamp.clock 0 lt
            ∙ sym (cond-true (u == m.stamp.thread) m.stamp.clock (get_or c.clocks u 0) (eq-eqb u m.stamp.thread e))
        | inr e ↦
            get_or-set_other c.clocks m.stamp.thread u m.stamp.clock 0 e
            ∙ sym (cond-false (u == m.stamp.thread) m.stamp.clock (get_or c.clocks u 0) (ne_eqb u m.stamp.thread e))
      ]

  sent-own : (to : ℕ) → to < threads_of c → letters to b ≡ with_sent m to m.stamp.thread ((space_of c).mail to m.stamp.thread)
  sent-own to l =
      let t = m.stamp.thread in
      let s = space_of c in
      let was = letters to (get_or c.boxes t []) ++ m ∷ [] in
      box to (omega (arith, a.square t lt))
      ∙ elim (cases_eq to t) [
        | inl q ↦
            cond-true (to == t) [] was (eq-eqb to t q)
            ∙ sym (ap (λ j. with_sent m j t (s.mail j t)) q ∙ more-own m s t ∙ a.low.own t lt)
        | inr q ↦ cond-false (to == t) [] was (ne_eqb to t q) ∙ sym (more-at m s to q)
      ]

  sent-mail : (to from : ℕ) → to < threads_of c → letters to (get_or (set c.boxes m.stamp.thread b) from []) ≡ with_sent m to from ((space_of c).mail to from)
  sent-mail to from l =
      let t = m.stamp.thread in
      let s = space_of c in
      elim (cases_eq from t) [
        | inl e ↦
            ap (λ j. letters to (get_or (set c.boxes t b) j [])) e
            ∙ ap (letters to) (get_or-set_same c.boxes t b [] (omega (arith, a.many)))
            ∙ sent-own to l
            ∙ ap (λ j. with_sent m to j (s.mail to j)) (sym e)
        | inr e ↦ ap (letters to) (get_or-set_other c.boxes t from b [] e) ∙ sym (more-of m s to from e)
      ]

  pub sent-is : IsSame (threads_of c) (space_of (with_sending c m b h w)) (sent m (space_of c))
  sent-is = record {
    clock = λ u l. sent-clock u;
    copy = λ u x l. held u x ∙ both (u == m.stamp.thread) (same_loc m.loc x) (Some m) (held_at c.held u x);
    mail = λ to from l k. sent-mail to from l;
  }

  pub sent-kept : length b ≡ length (get_or c.boxes m.stamp.thread []) → m.stamp.clock ≡ get_or c.clocks m.stamp.thread 0 + 1
      → w + 1 ≡ c.waiting + threads_of c → w ≤ h.room → AreCopies (with_sending c m b h w)
  sent-kept n k e r =
      let t = m.stamp.thread in
      kept-by c (with_sending c m b h w) (sent m (space_of c)) a (length-set c.clocks t m.stamp.clock) (length-set c.boxes t b)
      (λ from. box-length c.boxes t from b (omega (arith, a.many)) n) sent-is
      (low-sent (threads_of c) c.writes m (space_of c) (omega (arith, a.low.clock t lt)) a.low)
      (omega (arith, waiting-sent (threads_of c) m (space_of c) lt, a.counted)) r

-- ---- a delivery

pub first-is : (l : List Message) (m : Message) → Some m ≡ slice_get l 0 → l ≡ m ∷ drop 1 l
first-is [] m e = cc
first-is (x ∷ xs) m e = let q : m ≡ x = cc in ap (λ y. y ∷ xs) (sym q)

pub first-none : (l : List Message) → None ≡ slice_get l 0 → l ≡ []
first-none [] e = refl
first-none (x ∷ xs) e = cc

abbrev pub with_taken : CopiesState → List ℕ → ℕ → List (List Message) → HeldState → ℕ → CopiesState
with_taken c ks from b h w = record { clocks = ks; boxes = set c.boxes from b; held = h; waiting = w; writes = c.writes }

module _ (c : CopiesState) (ks : List ℕ) (to from : ℕ) (b : List (List Message)) (h : HeldState) (w : ℕ) (m : Message) (a : AreCopies c)
    (in_to : to < threads_of c) (in_from : from < threads_of c)
    (first : Some m ≡ slice_get (letters to (get_or c.boxes from [])) 0)
    (clock : (u : ℕ) → get_or ks u 0 ≡ cond (u == to) (greater (get_or c.clocks u 0) m.stamp.clock) (get_or c.clocks u 0))
    (box : (u : ℕ) → letters u b ≡ cond (u == to) (drop 1 (letters u (get_or c.boxes from []))) (letters u (get_or c.boxes from [])))
    (held : (u : ℕ) (l : Loc) → held_at h u l ≡ cond (u == to) (with_mail m l (held_at c.held u l)) (held_at c.held u l)) where
  -- what waits still
  abbrev rest : List Message
  rest = drop 1 (letters to (get_or c.boxes from []))

  oldest : (space_of c).mail to from ≡ m ∷ rest
  oldest = first-is (letters to (get_or c.boxes from [])) m first

  taken-mail : (u v : ℕ) → letters u (get_or (set c.boxes from b) v []) ≡ cond ((u == to) && (v == from)) rest (letters u (get_or c.boxes v []))
  taken-mail u v =
      let old = get_or c.boxes from [] in
      let was = letters u (get_or c.boxes v []) in
      elim (cases_eq v from) [
        | inl e ↦
            ap (λ j. letters u (get_or (set c.boxes from b) j [])) e
            ∙ ap (letters u) (get_or-set_same c.boxes from b [] (omega (arith, a.many)))
            ∙ box u
            ∙ elim (cases_eq u to) [
              | inl q ↦
                  cond-true (u == to) (drop 1 (letters u old)) (letters u old) (eq-eqb u to q)
                  ∙ ap (λ j. drop 1 (letters j old)) q
                  ∙ sym (cond-true ((u == to) && (v == from)) rest was (and_from (u == to) (v == from) (eq-eqb u to q) (eq-eqb v from e)))
              | inr q ↦
                  cond-false (u == to) (drop 1 (letters u old)) (letters u old) (ne_eqb u to q)
                  ∙ ap (λ j. letters u (get_or c.boxes j [])) (sym e)
                  ∙ sym (cond-false ((u == to) && (v == from)) rest was (and_left (u == to) (v == from) (ne_eqb u to q)))
            ]
        | inr e ↦
            ap (letters u) (get_or-set_other c.boxes from v b [] e)
            ∙ sym (cond-false ((u == to) && (v == from)) rest was (and_right (u == to) (v == from) (ne_eqb v from e)))
      ]

  taken-as : IsSame (threads_of c) (space_of (with_taken c ks from b h w)) (received to from (m ∷ rest) (space_of c))
  taken-as = record { clock = λ u l. clock u; copy = λ u x l. held u x; mail = λ u v l k. taken-mail u v }

  pub taken-is : IsSame (threads_of c) (space_of (with_taken c ks from b h w)) (received to from ((space_of c).mail to from) (space_of c))
  taken-is =
      subst (λ l. IsSame (threads_of c) (space_of (with_taken c ks from b h w)) (received to from l (space_of c))) (sym oldest) taken-as

  pub taken-kept : length ks ≡ threads_of c → length b ≡ length (get_or c.boxes from []) → w + 1 ≡ c.waiting → w ≤ h.room
      → AreCopies (with_taken c ks from b h w)
  taken-kept n k e r =
      kept-by c (with_taken c ks from b h w) (received to from (m ∷ rest) (space_of c)) a n (length-set c.boxes from b)
      (λ v. box-length c.boxes from v b (omega (arith, a.many)) k) taken-as
      (low-received (threads_of c) c.writes to from m rest (space_of c) in_to in_from oldest a.low)
      (omega (arith, waiting-received (threads_of c) to from m rest (space_of c) in_to in_from oldest, a.counted)) r

-- where a message waits, some message is counted
pub some-waits : (c : CopiesState) (to from : ℕ) (m : Message) → AreCopies c → to < threads_of c → from < threads_of c
    → Some m ≡ slice_get (letters to (get_or c.boxes from [])) 0 → 0 < c.waiting
some-waits c to from m a h k e =
    let some = ap length (first-is (letters to (get_or c.boxes from [])) m e) in
    omega (arith, waiting-above (threads_of c) to from (space_of c) h k, a.counted)

-- ---- the beginning

no-letters-yet : (n to from : ℕ) → letters to (get_or (replicate n (replicate n [])) from []) ≡ []
no-letters-yet n to from =
    elim (cases_lt from n) [
      | inl l ↦
          ap (letters to) (get_or-replicate n from (replicate n []) [] l)
          ∙ elim (cases_lt to n) [
            | inl k ↦ get_or-replicate n to [] [] k
            | inr k ↦ get_or_past (replicate n []) to [] (rw length-replicate k)
          ]
      | inr l ↦ ap (letters to) (get_or_past (replicate n (replicate n [])) from [] (rw length-replicate l))
    ]

sum-none : (n : ℕ) (f : ℕ → ℕ) → ((k : ℕ) → f k ≡ 0) → sum_below n f ≡ 0
sum-none zero f h = refl
sum-none (suc n) f h = let e = sum-none n f h in let k = h n in omega arith

-- the state of n threads that has no message
abbrev pub fresh : ℕ → HeldState → CopiesState
fresh n h = record { clocks = replicate n 0; boxes = replicate n (replicate n []); held = h; waiting = 0; writes = 0 }

pub fresh-is : (n : ℕ) (h : HeldState) → ((t : ℕ) (l : Loc) → held_at h t l ≡ None) → IsSame n (space_of (fresh n h)) begun
fresh-is n h e = record {
  clock = λ t l. get_or-replicate n t 0 0 l;
  copy = λ t x l. e t x;
  mail = λ to from l k. no-letters-yet n to from;
}

pub fresh-kept : (n : ℕ) (h : HeldState) → AreCopies (fresh n h)
fresh-kept n h = record {
  many = length-replicate n (replicate n []) ∙ sym (length-replicate n 0);
  square = λ from l.
      ap length (get_or-replicate n from (replicate n []) [] (rw length-replicate at l)) ∙ length-replicate n [] ∙ sym (length-replicate n 0);
  low = record {
    own = λ t l. no-letters-yet n t t;
    clock = λ t l. omega (arith, get_or-replicate {A = ℕ} n t 0 0 (rw length-replicate at l));
    mail = λ to from l k. subst (λ ms. Each (λ (m : Message). m.stamp.clock ≤ 0) ms) (sym (no-letters-yet n to from)) tt;
  };
  counted = sym (sum-none (length (replicate n 0)) (λ to. sum_below (length (replicate n 0)) (λ from. length (letters to (get_or (replicate n (replicate n [])) from []))))
      (λ to. sum-none (length (replicate n 0)) (λ from. length (letters to (get_or (replicate n (replicate n [])) from []))) (λ from. ap length (no-letters-yet n to from))));
  room = omega arith;
}

pub fresh-by : (ks : List ℕ) (bs : List (List (List Message))) (n : ℕ) (h : HeldState) → ks ≡ replicate n 0 → bs ≡ replicate n (replicate n [])
    → AreCopies record { clocks = ks; boxes = bs; held = h; waiting = 0; writes = 0 }
fresh-by ks bs n h e k =
    subst (λ (l : List ℕ). AreCopies record { clocks = l; boxes = bs; held = h; waiting = 0; writes = 0 }) (sym e)
    (subst (λ (b : List (List (List Message))). AreCopies record { clocks = replicate n 0; boxes = b; held = h; waiting = 0; writes = 0 }) (sym k)
    (fresh-kept n h))
