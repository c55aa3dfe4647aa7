-- One event, as all threads' lists see it.
use Rattle.std.proofs.Common.{◌≡◌, ◌≢◌, ℕ, ◌<◌, ◌≤◌, ◌==◌, ◌&&◌, true, false, cond, List, [], ◌∷◌, ◌++◌, map, Option, Some, None, refl, sym, ap, ◌∙◌, subst, inl, inr, arith, append-nil, true≢false}
use Rattle.std.proofs.lemmas.Bool.{cond_both}
use Rattle.block_layout.specs.declared.place.Loc.{Loc}
use Rattle.upc_values.specs.declared.scalar.Scalar.{Scalar}
use Rattle.upc_values.specs.declared.action.Action.{Action}
use Rattle.upc_values.specs.declared.action.Action.TheVariants as act
use Rattle.upc_values.specs.declared.action.Reply.{Reply}
use Rattle.upc_values.specs.declared.action.Reply.TheVariants.{Done, Value, Flag, Refused}
use Rattle.upc_values.specs.declared.journal.Entry.{Entry}
use Rattle.upc_values.specs.Scalars.{zero, value_or}
use Rattle.upc_values.specs.Drain.{or_else}
use Rattle.upc_values.specs.Lists.{Has}
use Rattle.upc_values.specs.Openings.{Opening, initial_of}
use Rattle.upc_values.specs.History.{objects, value_reply}
use Rattle.upc_values.specs.Operations.{Access, Nothing, Reads, Writes, Writes_sync, Reads_sync, Writes_and_reads_sync, access, Operation, Cell, Sync, read_at, write_at, operations_by, accesses_of}
use Rattle.upc_values.specs.Consistent.{same_place, last_write, ReadsLastFrom, begins}
use Rattle.upc_values.proofs.Beginnings.{initial-stays}
use Rattle.upc_values.proofs.Values.{last_write-append, sync-accesses}
use Rattle.replica_space.specs.declared.message.Stamp.{Stamp}
use Rattle.replica_space.specs.declared.message.Message.{Message}
use Rattle.replica_space.specs.declared.event.Deed.TheVariants.{Did}
use Rattle.replica_space.specs.declared.event.Event.{Event}
use Rattle.replica_space.specs.Events.{history_in}
use Rattle.replica_space.specs.Spaces.{is_synchronising, met, next_stamp, sent, spread, received, done}
use Rattle.replica_space.specs.Runs.{NoneWaits, value_in}
use Rattle.replica_space.specs.ReplicaOrders.{placed, write_of, with_first, operations, stamp_of, listed, Listed}
use Rattle.replica_space_lists.specs.layer.Keeping.{told}
use Rattle.replica_space_lists.proofs.Copies.{Made, met-made, spread-made, sent-made, received-made, agree}
use Rattle.replica_space_lists.proofs.Putting.{last-value, value_told}
use Rattle.replica_space_lists.proofs.Copying.{IsZero}
use Rattle.replica_space_lists.proofs.Turning.{Thread, Strict, message, thread-hidden, thread-read, thread-write, thread-met, thread-spread, thread-got}

-- what holds of all threads
pub record All (n : ℕ) (initial : Loc → Scalar) (ops : List Operation) (next : ℕ → ℕ) (x : Listed) : Type 0 where
  pub made : List Message
  pub copies : Made n x.space made
  pub threads : (t : ℕ) → t < n → Thread n t initial ops next x.space (x.lists t)

-- ---- operations on no location

abbrev IsImplied : Access → Type 0
IsImplied (Reads l s v) = ⊥
IsImplied (Writes l s v) = ⊥
IsImplied x = Unit {0}

only-one : (P : Operation → Type 0) (o x : Operation) → P o → Has (o ∷ []) x → P x
only-one P o x p (inl e) = subst P e p
only-one P o x p (inr h) = absurd h

one-of : (P : Operation → Type 0) (o q x : Operation) → P o → P q → Has (o ∷ q ∷ []) x → P x
one-of P o q x p r (inl e) = subst P e p
one-of P o q x p r (inr h) = only-one P q x r h

strict-by : (v i : ℕ) (x : Access) → IsImplied x → Strict v i (operations_by v i x)
strict-by v i Nothing h =
    record { thread = λ o w. absurd w; index = λ o w. absurd w; strict = λ o w. absurd w; no_cell = λ o l w. absurd w; ranks = tt; zeros = sync-accesses v i Nothing }
strict-by v i (Reads l s w) h = absurd h
strict-by v i (Writes l s w) h = absurd h
strict-by v i Writes_sync h =
    let a = write_at v i Sync true zero in
    record {
      thread = λ o. only-one (λ z. z.thread ≡ v) a o refl;
      index = λ o. only-one (λ z. z.index ≡ i) a o refl;
      strict = λ o. only-one (λ z. z.strict ≡ true) a o refl;
      no_cell = λ o l. only-one (λ z. (z.write && same_place z.place (Cell l)) ≡ false) a o refl;
      ranks = (tt, tt);
      zeros = sync-accesses v i Writes_sync;
    }
strict-by v i Reads_sync h =
    let a = read_at v i Sync true zero in
    record {
      thread = λ o. only-one (λ z. z.thread ≡ v) a o refl;
      index = λ o. only-one (λ z. z.index ≡ i) a o refl;
      strict = λ o. only-one (λ z. z.strict ≡ true) a o refl;
      no_cell = λ o l. only-one (λ z. (z.write && same_place z.place (Cell l)) ≡ false) a o refl;
      ranks = (tt, tt);
      zeros = sync-accesses v i Reads_sync;
    }
strict-by v i Writes_and_reads_sync h =
    let a = write_at v i Sync true zero in
    let b = read_at v i Sync true zero in
    record {
      thread = λ o. one-of (λ z. z.thread ≡ v) a b o refl refl;
      index = λ o. one-of (λ z. z.index ≡ i) a b o refl refl;
      strict = λ o. one-of (λ z. z.strict ≡ true) a b o refl refl;
      no_cell = λ o l. one-of (λ z. (z.write && same_place z.place (Cell l)) ≡ false) a b o refl refl;
      ranks = ((omega arith, tt), (tt, tt));
      zeros = sync-accesses v i Writes_and_reads_sync;
    }

strict-read : (v i : ℕ) (l : Loc) (w : Scalar) → Strict v i (read_at v i (Cell l) true w ∷ [])
strict-read v i l w =
    let a = read_at v i (Cell l) true w in
    record {
      thread = λ o. only-one (λ z. z.thread ≡ v) a o refl;
      index = λ o. only-one (λ z. z.index ≡ i) a o refl;
      strict = λ o. only-one (λ z. z.strict ≡ true) a o refl;
      no_cell = λ o k. only-one (λ z. (z.write && same_place z.place (Cell k)) ≡ false) a o refl;
      ranks = (tt, tt);
      zeros = λ o z. z;
    }

implied-right : (initial : Loc → Scalar) (os : List Operation) (v i : ℕ) (x : Access) → IsImplied x → IsZero (last_write Sync os) → ReadsLastFrom initial os (operations_by v i x)
implied-right initial os v i Nothing k h = tt
implied-right initial os v i (Reads l s w) k h = absurd k
implied-right initial os v i (Writes l s w) k h = absurd k
implied-right initial os v i Writes_sync k h = (λ w. absurd (true≢false w), tt)
implied-right initial os v i Reads_sync k h = (λ w. sym h, tt)
implied-right initial os v i Writes_and_reads_sync k h = (
  λ w. absurd (true≢false w),
  (λ w. sym (ap (λ z. value_or z zero) (last_write-append Sync os (write_at v i Sync true zero ∷ []))), tt),
)

abbrev IsAccess : Action → Type 0
IsAccess (act.Read l s) = ⊥
IsAccess (act.Write s l v) = ⊥
IsAccess a = Unit {0}

implied : (a : Action) (r : Reply) → IsAccess a → IsImplied (access a r)
implied a (Refused c) h = tt
implied (act.Read l s) r h = absurd h
implied (act.Write s l v) r h = absurd h
implied (act.Attempt l) (Flag true) h = tt
implied (act.Attempt l) (Flag false) h = tt
implied a Done h = tt
implied a (Value v) h = tt
implied a (Flag b) h = tt

abbrev IsIdle : Action → Type 0
IsIdle act.Beat = Unit {0}
IsIdle act.LockMake = Unit {0}
IsIdle (act.LockFree l) = Unit {0}
IsIdle (act.Alloc n b h s) = Unit {0}
IsIdle (act.Free p) = Unit {0}
IsIdle (act.Meet c x) = Unit {0}
IsIdle (act.Print x) = Unit {0}
IsIdle (act.Exit v) = Unit {0}
IsIdle a = ⊥

nothing : (a : Action) (r : Reply) → IsIdle a → access a r ≡ Nothing
nothing a (Refused c) h = refl
nothing (act.Read l s) r h = absurd h
nothing (act.Write s l v) r h = absurd h
nothing act.Fence r h = absurd h
nothing (act.Notify m) r h = absurd h
nothing (act.Wait m) r h = absurd h
nothing (act.Lock l) r h = absurd h
nothing (act.Attempt l) r h = absurd h
nothing (act.Unlock l) r h = absurd h
nothing a Done h = refl
nothing a (Value v) h = refl
nothing a (Flag b) h = refl

-- ---- values

told-value : (c : Option Message) → value_told (told c) ≡ value_in c
told-value (Some m) = refl
told-value None = refl

-- what a thread sees is its copy's value, or what the location begins with
seen-is : (o : Opening) (before rest : List Entry) (l : Loc) (r : Reply) (c i : Option Scalar) → initial_of o (objects o before) l ≡ i → value_reply (or_else c i) ≡ Some r
    → r ≡ Value (value_or c (begins o (before ++ rest) l))
seen-is o before rest l r (Some v) i e f =
    let k : Value v ≡ r = cc in
    sym k
seen-is o before rest l r None (Some v) e f =
    let k : Value v ≡ r = cc in
    let m = initial-stays o before rest l v e in
    sym k ∙ ap (λ z. Value (value_or z zero)) (sym m)
seen-is o before rest l r None None e f = cc

module _ (n : ℕ) (initial : Loc → Scalar) (ops : List Operation) (next then : ℕ → ℕ) (x : Listed) (h : All n initial ops next x)
    (grows : (u : ℕ) → next u ≤ then u) (v : ℕ) (lv : v < n) (more : next v < then v) (i : ℕ) (q : i ≡ next v) where
  -- the value of a copy is that of the last write
  copy-value : (t : ℕ) (l : Loc) → t < n → last_write (Cell l) (operations (x.lists t)) ≡ value_in (x.space.copy t l)
  copy-value t l lt = last-value l (x.lists t) ∙ ap value_told (sym ((h.threads t lt).copied.last l)) ∙ told-value (x.space.copy t l)

  -- nothing is accessed
  idle : (y : Access) (k : Stamp) → y ≡ Nothing
      → All n initial (ops ++ operations_by v i y) then (record { space = x.space; lists = λ u. cond (u == v) (x.lists u ++ map (placed k) (operations_by v i y)) (x.lists u) })
  idle y k e =
      subst (λ z. All n initial (ops ++ operations_by v i z) then (record { space = x.space; lists = λ u. cond (u == v) (x.lists u ++ map (placed k) (operations_by v i z)) (x.lists u) })) (sym e)
      (record {
        made = h.made;
        copies = h.copies;
        threads = λ t lt.
            cond_both (t == v) (x.lists t ++ []) (x.lists t) (λ l. Thread n t initial (ops ++ []) then x.space l)
            (λ w. subst (Thread n t initial (ops ++ []) then x.space) (sym (append-nil (x.lists t))) (same t lt)) (λ w. same t lt);
      })
    where
      same : (t : ℕ) → t < n → Thread n t initial (ops ++ []) then x.space (x.lists t)
      same t lt = thread-hidden n t initial ops next then x.space (x.lists t) (h.threads t lt) grows lt [] x.space tt tt (λ u lu. omega arith) (λ l. refl) (λ u lu. refl)

  -- a relaxed read
  looked : (l : Loc) (w : Scalar) (k : Stamp) → w ≡ value_or (value_in (x.space.copy v l)) (initial l)
      → All n initial (ops ++ read_at v i (Cell l) false w ∷ []) then
      (record { space = x.space; lists = λ u. cond (u == v) (x.lists u ++ placed k (read_at v i (Cell l) false w) ∷ []) (x.lists u) })
  looked l w k e = record {
    made = h.made;
    copies = h.copies;
    threads = λ t lt.
        thread-read n t initial ops next then x.space (x.lists t) (h.threads t lt) grows lt v lv more i q l w k
        (λ f. e ∙ ap (λ z. value_or z (initial l)) (ap (λ u. value_in (x.space.copy u l)) (sym f) ∙ sym (copy-value t l lt)));
  }

  -- a relaxed write
  wrote : (l : Loc) (w : Scalar)
      → let m = message i l w (next_stamp v x.space) in
      All n initial (ops ++ write_at v i (Cell l) false w ∷ []) then
      (record { space = sent m x.space; lists = λ u. cond (u == v) (x.lists u ++ write_of m ∷ []) (x.lists u) })
  wrote l w =
      let m = message i l w (next_stamp v x.space) in
      record {
        made = m ∷ h.made;
        copies = sent-made n x.space h.made h.copies v m lv refl refl;
        threads = λ t lt. thread-write n t initial ops next then x.space (x.lists t) (h.threads t lt) grows lt v lv more m q refl refl;
      }

  module _ (none : NoneWaits n x.space) where
    -- a synchronising action without an access of its own
    synchronised : (y : Access) (k : Stamp) → IsImplied y
        → All n initial (ops ++ operations_by v i y) then (record { space = met n x.space; lists = λ u. x.lists u ++ map (placed k) (operations_by v i y) })
    synchronised y k e = record {
      made = h.made;
      copies = met-made n x.space h.made h.copies;
      threads = λ t lt.
          thread-met n t initial ops next then x.space (x.lists t) (h.threads t lt) grows lt v lv more none i q (operations_by v i y) (strict-by v i y e) k
          (implied-right initial (operations (x.lists t)) v i y e (h.threads t lt).copied.sync);
    }

    -- a strict read
    looked-strictly : (l : Loc) (w : Scalar) (k : Stamp) → w ≡ value_or (value_in (x.space.copy v l)) (initial l)
        → All n initial (ops ++ read_at v i (Cell l) true w ∷ []) then
        (record { space = met n x.space; lists = λ u. x.lists u ++ placed k (read_at v i (Cell l) true w) ∷ [] })
    looked-strictly l w k e = record {
      made = h.made;
      copies = met-made n x.space h.made h.copies;
      threads = λ t lt.
          thread-met n t initial ops next then x.space (x.lists t) (h.threads t lt) grows lt v lv more none i q (read_at v i (Cell l) true w ∷ []) (strict-read v i l w) k
          (λ z. e ∙ ap (λ c. value_or (value_in c) (initial l)) (agree n x.space h.made h.copies none v t l lv lt) ∙ ap (λ c. value_or c (initial l)) (sym (copy-value t l lt)), tt);
    }

    -- a strict write
    wrote-strictly : (l : Loc) (w : Scalar)
        → let m = message i l w (next_stamp v (met n x.space)) in
        All n initial (ops ++ write_at v i (Cell l) true w ∷ []) then
        (record { space = spread m (met n x.space); lists = λ u. x.lists u ++ placed m.stamp (write_at v i (Cell l) true w) ∷ [] })
    wrote-strictly l w =
        let m = message i l w (next_stamp v (met n x.space)) in
        record {
          made = m ∷ h.made;
          copies = spread-made n (met n x.space) h.made (met-made n x.space h.made h.copies) m lv (λ u. refl);
          threads = λ t lt. thread-spread n t initial ops next then x.space (x.lists t) (h.threads t lt) grows lt v lv more none m q refl refl;
        }

  -- an action
  module _ (o : Opening) (before : List Event) (rest : List Entry) (begun : initial ≡ begins o (history_in before ++ rest)) where
    value-of : (l : Loc) (r : Reply) → value_reply (or_else (value_in (x.space.copy v l)) (initial_of o (objects o (history_in before)) l)) ≡ Some r
        → r ≡ Value (value_or (value_in (x.space.copy v l)) (initial l))
    value-of l r e =
        seen-is o (history_in before) rest l r (value_in (x.space.copy v l)) (initial_of o (objects o (history_in before)) l) refl e
        ∙ ap (λ f. Value (value_or (value_in (x.space.copy v l)) (f l))) (sym begun)

    -- what the action is answered
    abbrev pub Answered : Action → Reply → Type 0
    Answered (act.Read l s) r = value_reply (or_else (value_in (x.space.copy v l)) (initial_of o (objects o (history_in before)) l)) ≡ Some r
    Answered (act.Write s l w) r = r ≡ Done
    Answered a r = Unit {0}

    abbrev pub Next : Action → Reply → Type 0
    Next a r = All n initial (ops ++ accesses_of v i a r) then (record { space = done n v (Did i a r) x.space; lists = listed n v (Did i a r) x.space x.lists })

    abbrev stamp : Action → Stamp
    stamp a = stamp_of n v a x.space

    pub acted : (a : Action) (r : Reply) → Answered a r → (is_synchronising a ≡ true → NoneWaits n x.space) → Next a r
    acted (act.Read l false) r e none = subst (Next (act.Read l false)) (sym (value-of l r e)) (looked l (value_or (value_in (x.space.copy v l)) (initial l)) (stamp (act.Read l false)) refl)
    acted (act.Read l true) r e none =
        subst (Next (act.Read l true)) (sym (value-of l r e)) (looked-strictly (none refl) l (value_or (value_in (x.space.copy v l)) (initial l)) (stamp (act.Read l true)) refl)
    acted (act.Write false l w) r e none = subst (Next (act.Write false l w)) (sym e) (wrote l w)
    acted (act.Write true l w) r e none = subst (Next (act.Write true l w)) (sym e) (wrote-strictly (none refl) l w)
    acted act.Fence r e none = synchronised (none refl) (access act.Fence r) (stamp act.Fence) (implied act.Fence r tt)
    acted (act.Notify m) r e none = synchronised (none refl) (access (act.Notify m) r) (stamp (act.Notify m)) (implied (act.Notify m) r tt)
    acted (act.Wait m) r e none = synchronised (none refl) (access (act.Wait m) r) (stamp (act.Wait m)) (implied (act.Wait m) r tt)
    acted (act.Lock l) r e none = synchronised (none refl) (access (act.Lock l) r) (stamp (act.Lock l)) (implied (act.Lock l) r tt)
    acted (act.Attempt l) r e none = synchronised (none refl) (access (act.Attempt l) r) (stamp (act.Attempt l)) (implied (act.Attempt l) r tt)
    acted (act.Unlock l) r e none = synchronised (none refl) (access (act.Unlock l) r) (stamp (act.Unlock l)) (implied (act.Unlock l) r tt)
    acted act.Beat r e none = idle (access act.Beat r) (stamp act.Beat) (nothing act.Beat r tt)
    acted act.LockMake r e none = idle (access act.LockMake r) (stamp act.LockMake) (nothing act.LockMake r tt)
    acted (act.LockFree l) r e none = idle (access (act.LockFree l) r) (stamp (act.LockFree l)) (nothing (act.LockFree l) r tt)
    acted (act.Alloc a b c d) r e none = idle (access (act.Alloc a b c d) r) (stamp (act.Alloc a b c d)) (nothing (act.Alloc a b c d) r tt)
    acted (act.Free p) r e none = idle (access (act.Free p) r) (stamp (act.Free p)) (nothing (act.Free p) r tt)
    acted (act.Meet c y) r e none = idle (access (act.Meet c y) r) (stamp (act.Meet c y)) (nothing (act.Meet c y) r tt)
    acted (act.Print y) r e none = idle (access (act.Print y) r) (stamp (act.Print y)) (nothing (act.Print y) r tt)
    acted (act.Exit w) r e none = idle (access (act.Exit w) r) (stamp (act.Exit w)) (nothing (act.Exit w) r tt)

-- a delivery
pub delivered-all : (n : ℕ) (initial : Loc → Scalar) (ops : List Operation) (next : ℕ → ℕ) (x : Listed) → All n initial ops next x → (to from : ℕ) → to < n → from < n
    → (ms : List Message) → x.space.mail to from ≡ ms → (ms ≢ [])
    → All n initial ops next (record { space = received to from ms x.space; lists = λ u. cond (u == to) (with_first ms (x.lists u)) (x.lists u) })
delivered-all n initial ops next x h to from lt lf [] is some = absurd (some refl)
delivered-all n initial ops next x h to from lt lf (m ∷ ms) is some = record {
  made = h.made;
  copies = received-made n x.space h.made h.copies to from lt lf m ms is;
  threads = λ t lu. thread-got n t initial ops next x.space (x.lists t) (h.threads t lu) lu to from lf m ms is;
}
