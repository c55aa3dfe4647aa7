-- What the last write before a read wrote.
use Rattle.std.proofs.Common.{◌≡◌, ℕ, ◌&&◌, Bool, true, false, cond, List, [], ◌∷◌, ◌++◌, filter, flat_map, Option, Some, None, refl, sym, ap, ◌∙◌, subst, append_assoc, append-nil, true≢false, inl, inr, is_some}
use Rattle.std.proofs.lemmas.Bool.{cond_both, cases_Bool}
use Rattle.block_layout.specs.declared.place.Loc.{Loc}
use Rattle.upc_values.specs.declared.scalar.Scalar.{Scalar}
use Rattle.upc_values.specs.declared.action.Action.{Action}
use Rattle.upc_values.specs.declared.action.Action.TheVariants.{Read, Write, Attempt}
use Rattle.upc_values.specs.declared.action.Reply.{Reply}
use Rattle.upc_values.specs.declared.action.Reply.TheVariants.{Done, Value, Flag, Refused}
use Rattle.upc_values.specs.declared.journal.Entry.{Entry}
use Rattle.upc_values.specs.Operations.{Access, Nothing, Reads, Writes, Writes_sync, Reads_sync, Writes_and_reads_sync, access, Place, Cell, Sync, Operation, write_at, operations_by, accesses_of, accesses}
use Rattle.upc_values.specs.Scalars.{zero}
use Rattle.upc_values.specs.Drain.{or_else, written, last_written}
use Rattle.upc_values.specs.Scalars.{value_or}
use Rattle.upc_values.specs.Consistent.{same_place, last_write, initial_at, ReadsLastFrom}

pub or_else-none : (o : Option Scalar) → or_else o None ≡ o
or_else-none (Some v) = refl
or_else-none None = refl

pub or_else-assoc : (a b c : Option Scalar) → or_else (or_else a b) c ≡ or_else a (or_else b c)
or_else-assoc (Some v) b c = refl
or_else-assoc None b c = refl

pub or_else-first : (a b : Option Scalar) → is_some a ≡ true → or_else a b ≡ a
or_else-first (Some v) b h = refl
or_else-first None b h = cc

pub or_else-second : (a b : Option Scalar) → is_some a ≡ false → or_else a b ≡ b
or_else-second (Some v) b h = cc
or_else-second None b h = refl

pub last_write-append : (p : Place) (xs ys : List Operation) → last_write p (xs ++ ys) ≡ or_else (last_write p ys) (last_write p xs)
last_write-append p [] ys = sym (or_else-none (last_write p ys))
last_write-append p (o ∷ xs) ys =
    ap (λ z. or_else z (cond (o.write && same_place o.place p) (Some o.value) None)) (last_write-append p xs ys)
    ∙ or_else-assoc (last_write p ys) (last_write p xs) (cond (o.write && same_place o.place p) (Some o.value) None)

-- a read writes nothing
pub last_write-read : (p : Place) (o : Operation) → o.write ≡ false → last_write p (o ∷ []) ≡ None
last_write-read p o h = ap (λ b. cond (b && same_place o.place p) (Some o.value) None) h

pub last_write-after_read : (p : Place) (xs : List Operation) (o : Operation) → o.write ≡ false → last_write p (xs ++ o ∷ []) ≡ last_write p xs
last_write-after_read p xs o h =
    last_write-append p xs (o ∷ []) ∙ ap (λ z. or_else z (last_write p xs)) (last_write-read p o h)

module _ (initial : Loc → Scalar) where
  pub reads-append : (before xs ys : List Operation) → ReadsLastFrom initial before xs → ReadsLastFrom initial (before ++ xs) ys → ReadsLastFrom initial before (xs ++ ys)
  reads-append before [] ys h k = subst (λ b. ReadsLastFrom initial b ys) (append-nil before) k
  reads-append before (x ∷ xs) ys h k =
      (h.0, reads-append (before ++ x ∷ []) xs ys h.1 (subst (λ b. ReadsLastFrom initial b ys) (sym (append_assoc before (x ∷ []) xs)) k))

  -- leaving out reads changes no value
  pub reads-filter : (test : Operation → Bool) → ((o : Operation) → o.write ≡ true → test o ≡ true) → (before kept os : List Operation) → ((p : Place) → last_write p kept ≡ last_write p before) → ReadsLastFrom initial before os → ReadsLastFrom initial kept (filter test os)
  reads-filter test all before kept [] same h = tt
  reads-filter test all before kept (o ∷ os) same h =
      cond_both (test o) (o ∷ filter test os) (filter test os) (λ l. ReadsLastFrom initial kept l)
      (λ e. (
        λ w. h.0 w ∙ ap (λ z. value_or z (initial_at initial o.place)) (sym (same o.place)),
        reads-filter test all (before ++ o ∷ []) (kept ++ o ∷ []) os
            (λ p.
            last_write-append p kept (o ∷ []) ∙ ap (or_else (last_write p (o ∷ []))) (same p)
            ∙ sym (last_write-append p before (o ∷ [])))
            h.1,
      ))
      (λ e.
      let w : o.write ≡ false = elim (cases_Bool o.write) [ inl t ↦ absurd (true≢false (sym (all o t) ∙ e)) | inr f ↦ f ] in
      reads-filter test all (before ++ o ∷ []) kept os (λ p. same p ∙ sym (last_write-after_read p before o w)) h.1)

-- the entry's reply, where it is a write
abbrev pub IsStored : Action → Reply → Type 0
IsStored (Write s l v) r = r ≡ Done
IsStored a r = Unit {0}

-- an entry whose own accesses are right after these operations
pub record Right (initial : Loc → Scalar) (before : List Operation) (e : Entry) : Type 0 where
  pub reads : ReadsLastFrom initial before (accesses e)
  pub stored : IsStored e.action e.reply

-- what the operations before have in common with the entries before
pub record Matches (before : List Entry) (os : List Operation) : Type 0 where
  pub cells : (l : Loc) → last_write (Cell l) os ≡ last_written l before
  pub sync : value_or (last_write Sync os) zero ≡ zero

last_written-append : (l : Loc) (before : List Entry) (e : Entry) → last_written l (before ++ e ∷ []) ≡ or_else (written l e.action) (last_written l before)
last_written-append l [] e = sym (or_else-none (written l e.action))
last_written-append l (x ∷ before) e =
    ap (λ z. or_else z (written l x.action)) (last_written-append l before e)
    ∙ or_else-assoc (written l e.action) (last_written l before) (written l x.action)

-- what an entry's accesses write
pub cell-accesses : (l : Loc) (t n : ℕ) (a : Action) (r : Reply) → IsStored a r → last_write (Cell l) (accesses_of t n a r) ≡ written l a
cell-accesses l t n (Write s k v) (Refused c) h = cc
cell-accesses l t n (Write s k v) Done h = refl
cell-accesses l t n (Write s k v) (Value u) h = refl
cell-accesses l t n (Write s k v) (Flag b) h = refl
cell-accesses l t n (Attempt k) (Flag true) h = refl
cell-accesses l t n (Attempt k) (Flag false) h = refl
cell-accesses l t n a (Refused c) h = refl
cell-accesses l t n a Done h = refl
cell-accesses l t n a (Value v) h = refl
cell-accesses l t n a (Flag b) h = refl

-- the implied accesses write 0
pub sync-accesses : (t n : ℕ) (x : Access) (o : Option Scalar) → value_or o zero ≡ zero → value_or (or_else (last_write Sync (operations_by t n x)) o) zero ≡ zero
sync-accesses t n Nothing o h = h
sync-accesses t n (Reads l s v) o h = h
sync-accesses t n (Writes l s v) o h = h
sync-accesses t n Writes_sync o h = refl
sync-accesses t n Reads_sync o h = h
sync-accesses t n Writes_and_reads_sync o h = refl

-- accesses that read no cell are right wherever the implied ones are 0
abbrev IsNoRead : Access → Type 0
IsNoRead (Reads l s v) = ⊥
IsNoRead x = Unit {0}

sync-reads : (initial : Loc → Scalar) (os : List Operation) (t n : ℕ) (x : Access) → IsNoRead x → value_or (last_write Sync os) zero ≡ zero → ReadsLastFrom initial os (operations_by t n x)
sync-reads initial os t n Nothing k h = tt
sync-reads initial os t n (Reads l s v) k h = absurd k
sync-reads initial os t n (Writes l s v) k h = (λ w. absurd (true≢false w), tt)
sync-reads initial os t n Writes_sync k h = (λ w. absurd (true≢false w), tt)
sync-reads initial os t n Reads_sync k h = (λ w. sym h, tt)
sync-reads initial os t n Writes_and_reads_sync k h = (
  λ w. absurd (true≢false w),
  (λ w. sym (ap (λ z. value_or z zero) (last_write-append Sync os (write_at t n Sync true zero ∷ []))), tt),
)

-- what consistency needs of a reply: the value of a read, and that a write is done
abbrev pub IsAnswered : (Loc → Scalar) → List Entry → Action → Reply → Type 0
IsAnswered initial before (Read l s) r = r ≡ Value (value_or (last_written l before) (initial l))
IsAnswered initial before (Write s l v) r = r ≡ Done
IsAnswered initial before a r = Unit {0}

abbrev pub AreAnsweredFrom : (Loc → Scalar) → List Entry → List Entry → Type 0
AreAnsweredFrom initial before [] = Unit {0}
AreAnsweredFrom initial before (e ∷ es) =
    IsAnswered initial before e.action e.reply × AreAnsweredFrom initial (before ++ e ∷ []) es

-- an entry so answered is right after operations that match the entries before it
right-parts : (initial : Loc → Scalar) (before : List Entry) (os : List Operation) → Matches before os → (t n : ℕ) (a : Action) (r : Reply) → IsAnswered initial before a r → ReadsLastFrom initial os (accesses_of t n a r) × IsStored a r
right-parts initial before os m t n (Read l s) r h = (
  subst (λ z. ReadsLastFrom initial os (accesses_of t n (Read l s) z)) (sym h)
      (λ w. ap (λ z. value_or z (initial l)) (sym (m.cells l)), tt),
  tt,
)
right-parts initial before os m t n (Write s l v) r h =
    (subst (λ z. ReadsLastFrom initial os (accesses_of t n (Write s l v) z)) (sym h) (λ w. absurd (true≢false w), tt), h)
right-parts initial before os m t n (Attempt k) (Flag true) h = (sync-reads initial os t n Reads_sync tt m.sync, tt)
right-parts initial before os m t n (Attempt k) (Flag false) h = (tt, tt)
right-parts initial before os m t n a Done h = (sync-reads initial os t n (access a Done) tt m.sync, tt)
right-parts initial before os m t n a (Value v) h = (sync-reads initial os t n (access a (Value v)) tt m.sync, tt)
right-parts initial before os m t n a (Flag b) h = (sync-reads initial os t n (access a (Flag b)) tt m.sync, tt)
right-parts initial before os m t n a (Refused c) h = (tt, tt)

pub right-answered : (initial : Loc → Scalar) (before : List Entry) (os : List Operation) (e : Entry) → Matches before os → IsAnswered initial before e.action e.reply → Right initial os e
right-answered initial before os e m h =
    let p = right-parts initial before os m e.thread e.index e.action e.reply h in
    record { reads = p.0; stored = p.1 }

-- a list of operations that can stand in the place of the entry
pub record StandsFor (e : Entry) (os : List Operation) : Type 0 where
  pub reads : (initial : Loc → Scalar) (before : List Operation) → Right initial before e → ReadsLastFrom initial before os
  pub writes : (p : Place) → IsStored e.action e.reply → last_write p os ≡ last_write p (accesses e)

matches-more : (before : List Entry) (os : List Operation) (e : Entry) (here : List Operation) → Matches before os → StandsFor e here → IsStored e.action e.reply → Matches (before ++ e ∷ []) (os ++ here)
matches-more before os e here m s st =
    record {
      cells = λ l.
          last_write-append (Cell l) os here ∙ ap (λ z. or_else z (last_write (Cell l) os)) (s.writes (Cell l) st)
          ∙ ap (λ z. or_else z (last_write (Cell l) os)) (cell-accesses l e.thread e.index e.action e.reply st)
          ∙ ap (or_else (written l e.action)) (m.cells l) ∙ sym (last_written-append l before e);
      sync =
          ap (λ z. value_or z zero) (last_write-append Sync os here)
          ∙ ap (λ z. value_or (or_else z (last_write Sync os)) zero) (s.writes Sync st)
          ∙ sync-accesses e.thread e.index (access e.action e.reply) (last_write Sync os) m.sync;
    }

abbrev pub EachStands : (Entry → List Operation) → List Entry → Type 0
EachStands place [] = Unit {0}
EachStands place (e ∷ es) = StandsFor e (place e) × EachStands place es

-- a history so answered with each entry replaced by operations that can stand in its place
pub global-reads : (initial : Loc → Scalar) (place : Entry → List Operation) (es before : List Entry) (os : List Operation) → Matches before os → EachStands place es → AreAnsweredFrom initial before es → ReadsLastFrom initial os (flat_map place es)
global-reads initial place [] before os m s h = tt
global-reads initial place (e ∷ es) before os m s h =
    let right = right-answered initial before os e m h.0 in
    reads-append initial os (place e) (flat_map place es) (s.0.reads initial os right)
    (global-reads initial place es (before ++ e ∷ []) (os ++ place e) (matches-more before os e (place e) m s.0 right.stored) s.1 h.1)

pub matches-none : Matches [] []
matches-none = record { cells = λ l. refl; sync = refl }
