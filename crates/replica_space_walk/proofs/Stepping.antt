-- What the threads have and their lists after each event.
use Rattle.std.proofs.Common.{◌≡◌, ℕ, ◌+◌, ◌<◌, ◌==◌, ◌&&◌, ◌||◌, Bool, true, false, cond, List, [], ◌∷◌, ◌++◌, length, map, None, refl, sym, ap, ◌∙◌, subst, inl, inr, arith, eq-eqb}
use Rattle.std.proofs.lemmas.Bool.{cases_eq, ne_eqb, both_ways, cond-true, cond-false}
use Rattle.std.proofs.lemmas.List.{map-append}
use Rattle.block_layout.specs.declared.place.Loc.{Loc}
use Rattle.upc_values.specs.declared.action.Action.{Action}
use Rattle.upc_values.specs.declared.action.Action.TheVariants as act
use Rattle.upc_values.specs.declared.action.Reply.{Reply}
use Rattle.upc_values.specs.Lists.{Has}
use Rattle.upc_values.specs.Operations.{Place, Cell, Sync, access, accesses_of}
use Rattle.upc_values.specs.Consistent.{same_place}
use Rattle.upc_values.proofs.Sameness.{same_loc-itself}
use Rattle.replica_space.specs.declared.message.Stamp.{Stamp}
use Rattle.replica_space.specs.declared.message.Message.{Message}
use Rattle.replica_space.specs.Events.{did, delivered}
use Rattle.replica_space.specs.Spaces.{Space, is_synchronising, met, next_stamp, sent, spread, received, acted}
use Rattle.replica_space.specs.ReplicaOrders.{Placed, Listed, placed, is_write_of, stamp_of, with_operations, with_first}
use Rattle.replica_space_lists.proofs.Stamps.{lower-upto, greatest-most}
use Rattle.replica_space_rows.specs.declared.member.Member.{Member}
use Rattle.replica_space_rows.specs.layer.Rows.{member_in, written_at, is_newer, IsLatest, with_access}
use Rattle.replica_space_rows.proofs.Ends.{at-end}
use Rattle.replica_space_rows.proofs.Members.{put-by-names}
use Rattle.replica_space_copies.specs.layer.Copies.{CopiesState, threads_of, space_of, written}
use Rattle.replica_space_copies.specs.layer.Same.{IsSame}
use Rattle.replica_space_copies.proofs.Sames.{same-then, sent-same, met-same, spread-same, received-same}
use Rattle.replica_space_walk.specs.code.Walking.{wrote, after, row_of, Shows, IsLow, with_oldest}

-- ---- what the threads have

acted-wrote : (n t i : ℕ) (a : Action) (s : Space) → acted n t i a s ≡ wrote t i a (cond (is_synchronising a) (met n s) s)
acted-wrote n t i (act.Write false l v) s = refl
acted-wrote n t i (act.Write true l v) s = refl
acted-wrote n t i (act.Read l k) s = refl
acted-wrote n t i act.Fence s = refl
acted-wrote n t i act.Beat s = refl
acted-wrote n t i (act.Notify m) s = refl
acted-wrote n t i (act.Wait m) s = refl
acted-wrote n t i (act.Lock l) s = refl
acted-wrote n t i (act.Attempt l) s = refl
acted-wrote n t i (act.Unlock l) s = refl
acted-wrote n t i act.LockMake s = refl
acted-wrote n t i (act.LockFree l) s = refl
acted-wrote n t i (act.Alloc b m h k) s = refl
acted-wrote n t i (act.Free p) s = refl
acted-wrote n t i (act.Meet c x) s = refl
acted-wrote n t i (act.Print x) s = refl
acted-wrote n t i (act.Exit v) s = refl

stamp-same : (n t : ℕ) (s r : Space) → t < n → IsSame n s r → next_stamp t s ≡ next_stamp t r
stamp-same n t s r lt h = ap (λ k. record { clock = k + 1; thread = t }) (h.clock t lt)

wrote-same : (n t i : ℕ) (a : Action) (s r : Space) → t < n → IsSame n s r → IsSame n (wrote t i a s) (wrote t i a r)
wrote-same n t i (act.Write false l v) s r lt h =
    subst (λ z. IsSame n (sent (written i l v (next_stamp t s)) s) (sent (written i l v z) r)) (stamp-same n t s r lt h)
    (sent-same n (written i l v (next_stamp t s)) s r h)
wrote-same n t i (act.Write true l v) s r lt h =
    subst (λ z. IsSame n (spread (written i l v (next_stamp t s)) s) (spread (written i l v z) r)) (stamp-same n t s r lt h)
    (spread-same n (written i l v (next_stamp t s)) s r h)
wrote-same n t i (act.Read l k) s r lt h = h
wrote-same n t i act.Fence s r lt h = h
wrote-same n t i act.Beat s r lt h = h
wrote-same n t i (act.Notify m) s r lt h = h
wrote-same n t i (act.Wait m) s r lt h = h
wrote-same n t i (act.Lock l) s r lt h = h
wrote-same n t i (act.Attempt l) s r lt h = h
wrote-same n t i (act.Unlock l) s r lt h = h
wrote-same n t i act.LockMake s r lt h = h
wrote-same n t i (act.LockFree l) s r lt h = h
wrote-same n t i (act.Alloc b m k z) s r lt h = h
wrote-same n t i (act.Free p) s r lt h = h
wrote-same n t i (act.Meet c x) s r lt h = h
wrote-same n t i (act.Print x) s r lt h = h
wrote-same n t i (act.Exit v) s r lt h = h

cond-met-same : (n : ℕ) (b : Bool) (s r : Space) → IsSame n s r → IsSame n (cond b (met n s) s) (cond b (met n r) r)
cond-met-same n true s r h = met-same n s r h
cond-met-same n false s r h = h

-- ---- the lists

newer-at : (s : Stamp) (w : Bool) (q : Place) (z : Stamp) → ((l : Loc) → (w && same_place q (Cell l)) ≡ true → z.clock < s.clock)
    → is_newer s (cond w (written_at q z) None) ≡ false
newer-at s true (Cell l) z h = lower-upto z s (h l (same_loc-itself l))
newer-at s true Sync z h = refl
newer-at s false q z h = refl

latest : (s : Stamp) (ps : List Placed) → ((l : Loc) (p : Placed) → Has ps p → is_write_of l p ≡ true → p.stamp.clock < s.clock)
    → IsLatest s (map member_in ps)
latest s [] h = tt
latest s (p ∷ ps) h =
    (newer-at s p.operation.write p.operation.place p.stamp (λ l e. h l p (inl refl) e), latest s ps (λ l q w. h l q (inr w)))

above : (n t u : ℕ) (b : Bool) (s : Space) → u < n → (b || (u == t)) ≡ true → s.clock u < (cond b (met n s) s).clock t + 1
above n t u true s lt e = let most = greatest-most n s.clock u lt in omega (arith, most)
above n t u false s lt e =
    elim (cases_eq u t) [
      | inl h ↦ let same = ap s.clock h in omega (arith, same)
      | inr h ↦ absurd (both_ways (u == t) (ne_eqb u t h) e)
    ]

at-last : (n t i u : ℕ) (a : Action) (r : Reply) (x : Listed) → u < n → IsLow n x → (is_synchronising a || (u == t)) ≡ true
    → with_access (stamp_of n t a x.space) i (access a r) (map member_in (x.lists u))
    ≡ map member_in (x.lists u ++ map (placed (stamp_of n t a x.space)) (accesses_of t i a r))
at-last n t i u a r x lt low e =
    let s = stamp_of n t a x.space in
    let high = above n t u (is_synchronising a) x.space lt e in
    at-end s i (access a r) (map member_in (x.lists u))
    (latest s (x.lists u) (λ l p w k. let below = low u l p lt w k in omega (arith, below, high)))
    ∙ sym (map-append member_in (x.lists u) (map (placed s) (accesses_of t i a r)))

enlisted : (t u : ℕ) (b : Bool) (x : ℕ → List Placed) (new : List Placed) (ys : List Member)
    → ((b || (u == t)) ≡ true → ys ≡ map member_in (x u ++ new))
    → cond (b || (u == t)) ys (map member_in (x u)) ≡ map member_in (with_operations b t new x u)
enlisted t u true x new ys h = h refl
enlisted t u false x new ys h =
    elim (cases_eq u t) [
      | inl k ↦
          cond-true (u == t) ys (map member_in (x u)) (eq-eqb u t k)
          ∙ h (eq-eqb u t k)
          ∙ sym (ap (map member_in) (cond-true (u == t) (x u ++ new) (x u) (eq-eqb u t k)))
      | inr k ↦
          cond-false (u == t) ys (map member_in (x u)) (ne_eqb u t k)
          ∙ sym (ap (map member_in) (cond-false (u == t) (x u ++ new) (x u) (ne_eqb u t k)))
    ]

-- ---- an action

pub acted-shows : (n t i : ℕ) (a : Action) (r : Reply) (x : Listed) (c d e : CopiesState) (rows new : List (List Member)) (b : Bool) (s : Stamp)
    → Shows n x c rows → IsLow n x → t < threads_of c
    → b ≡ is_synchronising a
    → threads_of d ≡ threads_of c → IsSame (threads_of c) (space_of d) (cond b (met (threads_of c) (space_of c)) (space_of c))
    → s ≡ next_stamp t (space_of d)
    → length new ≡ length rows
    → ((u : ℕ) → u < length rows → row_of u new ≡ cond (b || (u == s.thread)) (with_access s i (access a r) (row_of u rows)) (row_of u rows))
    → threads_of e ≡ threads_of d → IsSame (threads_of d) (space_of e) (wrote t i a (space_of d))
    → Shows n (after n (did t i a r) x) e new
acted-shows n t i a r x c d e rows new b s h low within is_b many_d same_d is_s many_new lists many_e same_e =
    let lt : t < n = omega (arith, h.many) in
    let q = is_synchronising a in
    let there : IsSame n (space_of d) (cond q (met n x.space) x.space) =
    same-then n (space_of d) (cond q (met n (space_of c)) (space_of c)) (cond q (met n x.space) x.space)
    (subst (λ k. IsSame k (space_of d) (cond q (met k (space_of c)) (space_of c))) h.many
    (subst (λ k. IsSame (threads_of c) (space_of d) (cond k (met (threads_of c) (space_of c)) (space_of c))) is_b same_d))
    (cond-met-same n q (space_of c) x.space h.space) in
    let z = stamp_of n t a x.space in
    let is_z : s ≡ z = is_s ∙ stamp-same n t (space_of d) (cond q (met n x.space) x.space) lt there in
    record {
      many = many_e ∙ many_d ∙ h.many;
      even = many_new ∙ h.even;
      space = subst (IsSame n (space_of e)) (sym (acted-wrote n t i a x.space))
          (same-then n (space_of e) (wrote t i a (space_of d)) (wrote t i a (cond q (met n x.space) x.space))
          (subst (λ k. IsSame k (space_of e) (wrote t i a (space_of d))) (many_d ∙ h.many) same_e)
          (wrote-same n t i a (space_of d) (cond q (met n x.space) x.space) lt there));
      lists = λ u lu.
          lists u (omega (arith, h.even))
          ∙ ap (λ k. cond (k || (u == s.thread)) (with_access s i (access a r) (row_of u rows)) (row_of u rows)) is_b
          ∙ ap (λ k. cond (q || (u == k.thread)) (with_access k i (access a r) (row_of u rows)) (row_of u rows)) is_z
          ∙ ap (λ l. cond (q || (u == t)) (with_access z i (access a r) l) l) (h.lists u lu)
          ∙ enlisted t u q x.lists (map (placed z) (accesses_of t i a r)) (with_access z i (access a r) (map member_in (x.lists u)))
          (λ w. at-last n t i u a r x lu low w);
    }

-- ---- a delivery

first-by-names : (ms : List Message) (xs : List Placed) → with_oldest ms (map member_in xs) ≡ map member_in (with_first ms xs)
first-by-names [] xs = refl
first-by-names (m ∷ ms) xs = sym (put-by-names m xs)

cond-map : (b : Bool) (xs ys : List Placed) → cond b (map member_in xs) (map member_in ys) ≡ map member_in (cond b xs ys)
cond-map true xs ys = refl
cond-map false xs ys = refl

pub delivered-shows : (n by to from : ℕ) (x : Listed) (c d : CopiesState) (rows new : List (List Member))
    → Shows n x c rows → to < threads_of c → from < threads_of c
    → threads_of d ≡ threads_of c
    → IsSame (threads_of c) (space_of d) (received to from ((space_of c).mail to from) (space_of c))
    → length new ≡ length rows
    → ((u : ℕ) → u < length rows → row_of u new ≡ cond (u == to) (with_oldest ((space_of c).mail to from) (row_of u rows)) (row_of u rows))
    → Shows n (after n (delivered by to from) x) d new
delivered-shows n by to from x c d rows new h in_to in_from many same many_new lists =
    let to_n : to < n = omega (arith, h.many) in
    let from_n : from < n = omega (arith, h.many) in
    let ms = x.space.mail to from in
    let mail : (space_of c).mail to from ≡ ms = h.space.mail to from to_n from_n in
    record {
      many = many ∙ h.many;
      even = many_new ∙ h.even;
      space = same-then n (space_of d) (received to from ms (space_of c)) (received to from ms x.space)
          (subst (λ k. IsSame n (space_of d) (received to from k (space_of c))) mail
          (subst (λ k. IsSame k (space_of d) (received to from ((space_of c).mail to from) (space_of c))) h.many same))
          (received-same n to from ms (space_of c) x.space h.space);
      lists = λ u lu.
          lists u (omega (arith, h.even))
          ∙ ap (λ k. cond (u == to) (with_oldest k (row_of u rows)) (row_of u rows)) mail
          ∙ ap (λ l. cond (u == to) (with_oldest ms l) l) (h.lists u lu)
          ∙ ap (λ l. cond (u == to) l (map member_in (x.lists u))) (first-by-names ms (x.lists u))
          ∙ cond-map (u == to) (with_first ms (x.lists u)) (x.lists u);
    }
