-- What a thread's walk emits stands for its entries.
use Rattle.std.proofs.Common.{◌≡◌, ℕ, nat_lt, ◌&&◌, Bool, true, false, cond, List, [], ◌∷◌, ◌++◌, length, is_some, Option, Some, None, refl, sym, ap, ◌∙◌, subst, true≢false, inl, inr}
use Rattle.std.proofs.lemmas.Bool.{cond_both, and_parts, cases_Bool, false≢true}
use Rattle.block_layout.specs.declared.place.Loc.{Loc}
use Rattle.upc_values.specs.declared.scalar.Scalar.{Scalar}
use Rattle.upc_values.specs.declared.action.Action.TheVariants.{Read, Write, Print}
use Rattle.upc_values.specs.declared.action.Action.{Action}
use Rattle.upc_values.specs.declared.action.Reply.{Reply}
use Rattle.upc_values.specs.declared.action.Reply.TheVariants.{Done, Value, Flag, Refused}
use Rattle.upc_values.specs.declared.record.Item.{Item}
use Rattle.upc_values.specs.declared.record.Item.TheVariants.{Did, Stall}
use Rattle.upc_values.specs.declared.journal.Entry.{Entry}
use Rattle.upc_values.specs.Operations.{Place, Cell, Operation, accesses_of, accesses}
use Rattle.upc_values.specs.Drain.{Commit, commit_of, Walk, start, emptied, oldest_out, with_room, passed, pending_value, changed, with_read, combined, put_pending, looked_up, stepped, walked_from, drained, or_else, written, is_value, is_done, entry_of}
use Rattle.upc_values.specs.Lists.{Each}
use Rattle.upc_values.specs.Scalars.{value_or}
use Rattle.upc_values.specs.Consistent.{same_place, last_write, initial_at, ReadsLastFrom}
use Rattle.upc_values.proofs.Sameness.{same_scalar-true}
use Rattle.upc_values.proofs.Values.{or_else-none, last_write-append, last_write-read, last_write-after_read, reads-append, IsStored, StandsFor, cell-accesses}
use Rattle.upc_values.proofs.Membership.{each-append, each-weaker}
use Rattle.upc_values.proofs.Growth.{IsPending, IsHere, same-cell, each-changed, read-pending, write-pending, relaxed-reads, relaxed-write}

abbrev pub Stands : Commit → Type 0
Stands c = StandsFor c.entry c.operations

abbrev pub AllStand : List Commit → Type 0
AllStand [] = Unit {0}
AllStand (c ∷ cs) = Stands c × AllStand cs

all-append : (xs ys : List Commit) → AllStand xs → AllStand ys → AllStand (xs ++ ys)
all-append [] ys h k = k
all-append (x ∷ xs) ys h k = (h.0, all-append xs ys h.1 k)

all-each : (xs : List Commit) → Each Stands xs → AllStand xs
all-each [] h = tt
all-each (x ∷ xs) h = (h.0, all-each xs h.1)

pub stands-own : (e : Entry) → StandsFor e (accesses e)
stands-own e = record { reads = λ initial before r. r.reads; writes = λ p st. refl }

-- reads of one location with one value
abbrev pub AreReads : Loc → Scalar → List Operation → Type 0
AreReads l v [] = Unit {0}
AreReads l v (o ∷ os) = ((o.write ≡ false) × (o.place ≡ Cell l) × (o.value ≡ v)) × AreReads l v os

none-written : (l : Loc) (v : Scalar) (p : Place) (os : List Operation) → AreReads l v os → last_write p os ≡ None
none-written l v p [] h = refl
none-written l v p (o ∷ os) h =
    ap (λ z. or_else z (cond (o.write && same_place o.place p) (Some o.value) None)) (none-written l v p os h.1)
    ∙ last_write-read p o h.0.0

reads-of_last : (initial : Loc → Scalar) (l : Loc) (v : Scalar) (before os : List Operation) → AreReads l v os → last_write (Cell l) before ≡ Some v → ReadsLastFrom initial before os
reads-of_last initial l v before [] h e = tt
reads-of_last initial l v before (o ∷ os) h e = (
  λ w.
      h.0.2 ∙ ap (λ z. value_or z (initial l)) (sym e)
      ∙ ap (λ q. value_or (last_write q before) (initial_at initial q)) (sym h.0.1),
  reads-of_last initial l v (before ++ o ∷ []) os h.1 (last_write-after_read (Cell l) before o h.0.0 ∙ e),
)

stored-of : (l : Loc) (v : Scalar) (e : Entry) (os : List Operation) → StandsFor e os → IsStored e.action e.reply → written l e.action ≡ Some v → last_write (Cell l) os ≡ Some v
stored-of l v e os s st h = s.writes (Cell l) st ∙ cell-accesses l e.thread e.index e.action e.reply st ∙ h

-- a write and what stands for it may be followed by reads of its value
pub stands-with_reads : (l : Loc) (v : Scalar) (e : Entry) (os reads : List Operation) → StandsFor e os → written l e.action ≡ Some v → AreReads l v reads → StandsFor e (os ++ reads)
stands-with_reads l v e os reads s h r =
    record {
      reads = λ initial before right.
          reads-append initial before os reads (s.reads initial before right)
          (reads-of_last initial l v (before ++ os) reads r
          (last_write-append (Cell l) before os
          ∙ ap (λ z. or_else z (last_write (Cell l) before)) (stored-of l v e os s right.stored h)));
      writes = λ p st.
          last_write-append p os reads ∙ ap (λ z. or_else z (last_write p os)) (none-written l v p reads r)
          ∙ s.writes p st;
    }

forwarded-reads : (l : Loc) (v : Scalar) (t n : ℕ) (r : Reply) → is_value v r ≡ true → AreReads l v (accesses_of t n (Read l false) r)
forwarded-reads l v t n (Value u) h = ((refl, refl, same_scalar-true u v h), tt)
forwarded-reads l v t n Done h = tt
forwarded-reads l v t n (Flag b) h = tt
forwarded-reads l v t n (Refused c) h = tt

-- what stands for a write, all on its cell, may be followed by a further write of the cell, and then stands for that one
and-none : (b : Bool) (v : Scalar) → cond (b && false) (Some v) None ≡ None
and-none true v = refl
and-none false v = refl

none-elsewhere : (l : Loc) (p : Place) (os : List Operation) → same_place (Cell l) p ≡ false → Each (IsHere l) os → last_write p os ≡ None
none-elsewhere l p [] e h = refl
none-elsewhere l p (o ∷ os) e h =
    let q : same_place o.place p ≡ false = ap (λ z. same_place z p) h.0.1 ∙ e in
    ap (λ z. or_else z (cond (o.write && same_place o.place p) (Some o.value) None)) (none-elsewhere l p os e h.1)
    ∙ ap (λ z. cond (o.write && z) (Some o.value) None) q ∙ and-none o.write o.value

write-right : (initial : Loc → Scalar) (before : List Operation) (t n : ℕ) (l : Loc) (v : Scalar) (a : Action) (r : Reply) → a ≡ Write false l v → r ≡ Done → ReadsLastFrom initial before (accesses_of t n a r) × IsStored a r
write-right initial before t n l v a r ea er =
    let P : Action → Reply → Type 0 = λ a r. ReadsLastFrom initial before (accesses_of t n a r) × IsStored a r in
    subst (λ z. P z r) (sym ea) (subst (λ z. P (Write false l v) z) (sym er) ((λ w. absurd (true≢false w), tt), refl))

-- a pending commit of a walk that agrees: a relaxed write with reply Done, and what stands for it
pub record IsSettled (c : Commit) : Type 0 where
  pub stands : Stands c
  pub done : c.entry.reply ≡ Done
  pub pending : IsPending c

stands-combined : (t n : ℕ) (l : Loc) (v : Scalar) (c : Commit) (u : Scalar) → written l c.entry.action ≡ Some u → IsSettled c → StandsFor (entry_of t n (Write false l v) Done) (c.operations ++ accesses (entry_of t n (Write false l v) Done))
stands-combined t n l v c u w s =
    let new = accesses (entry_of t n (Write false l v) Done) in
    let here : Each (IsHere l) c.operations =
    subst (λ z. Each (IsHere z) c.operations) (same-cell l u c s.pending w) s.pending.here in
    record {
      reads = λ initial before right.
          let own = write-right initial before c.entry.thread c.entry.index s.pending.loc s.pending.value c.entry.action c.entry.reply s.pending.is s.done in
          reads-append initial before c.operations new
          (s.stands.reads initial before (record { reads = own.0; stored = own.1 }))
          (λ k. absurd (true≢false k), tt);
      writes = λ p st.
          last_write-append p c.operations new
          ∙ elim (cases_Bool (same_place (Cell l) p)) [
            | inl t ↦
                ap (λ b. or_else (cond b (Some v) None) (last_write p c.operations)) t ∙ sym (ap (λ b. cond b (Some v) None) t)
            | inr f ↦
                ap (λ z. or_else (cond (same_place (Cell l) p) (Some v) None) z) (none-elsewhere l p c.operations f here)
                ∙ or_else-none (cond (same_place (Cell l) p) (Some v) None)
          ];
    }

-- a read joins its source, whose value it has
settled-read : (l : Loc) (v : Scalar) (t n : ℕ) (r : Reply) → is_value v r ≡ true → (c : Commit) → written l c.entry.action ≡ Some v → IsSettled c → IsSettled (with_read (entry_of t n (Read l false) r) c)
settled-read l v t n r h c w s =
    record {
      stands = stands-with_reads l v c.entry c.operations (accesses_of t n (Read l false) r) s.stands w (forwarded-reads l v t n r h);
      done = s.done;
      pending = read-pending l (entry_of t n (Read l false) r) (relaxed-reads t n l r) c v w s.pending;
    }

settled-write : (l : Loc) (v : Scalar) (t n : ℕ) (r : Reply) → is_done r ≡ true → (c : Commit) (u : Scalar) → written l c.entry.action ≡ Some u → IsSettled c → IsSettled (combined (entry_of t n (Write false l v) r) c)
settled-write l v t n Done h c u w s =
    record {
      stands = stands-combined t n l v c u w s;
      done = refl;
      pending = write-pending l v (entry_of t n (Write false l v) Done) refl (relaxed-write t n l v Done) c u w s.pending;
    }
settled-write l v t n (Value k) h c u w s = absurd (false≢true h)
settled-write l v t n (Flag k) h c u w s = absurd (false≢true h)
settled-write l v t n (Refused k) h c u w s = absurd (false≢true h)

settled-own : (l : Loc) (v : Scalar) (t n : ℕ) (r : Reply) → is_done r ≡ true → IsSettled (commit_of (entry_of t n (Write false l v) r))
settled-own l v t n Done h =
    record {
      stands = stands-own (entry_of t n (Write false l v) Done);
      done = refl;
      pending = record { loc = l; value = v; is = refl; here = relaxed-write t n l v Done };
    }
settled-own l v t n (Value k) h = absurd (false≢true h)
settled-own l v t n (Flag k) h = absurd (false≢true h)
settled-own l v t n (Refused k) h = absurd (false≢true h)

joined-settled : (l : Loc) (v : Scalar) (t n : ℕ) (r : Reply) → is_value v r ≡ true → (cs : List Commit) → Each IsSettled cs → pending_value l cs ≡ Some v → Each IsSettled (changed l (with_read (entry_of t n (Read l false) r)) cs)
joined-settled l v t n r b [] h e = tt
joined-settled l v t n r b (c ∷ cs) h e =
    let f = with_read (entry_of t n (Read l false) r) in
    let P : Option Scalar → Type 0 =
    λ o. pending_value l cs ≡ o → or_else o (written l c.entry.action) ≡ Some v →
    Each IsSettled (cond (is_some o) (c ∷ changed l f cs) (f c ∷ cs)) in
    let go : (o : Option Scalar) → P o =
    λ o. elim o as P [
      | Some u ↦ λ q k. (h.0, joined-settled l v t n r b cs h.1 (q ∙ k))
      | None ↦ λ q k. (settled-read l v t n r b c k h.0, h.1)
    ] in
    go (pending_value l cs) refl e

pub record Sound (w : Walk) : Type 0 where
  pub emitted : AllStand w.emitted
  pub pending : Each IsSettled w.pending

settled-stand : (cs : List Commit) → Each IsSettled cs → AllStand cs
settled-stand cs h = all-each cs (each-weaker IsSettled Stands (λ c s. s.stands) cs h)

sound-passed : (e : Entry) (w : Walk) → Sound w → Sound (passed e w)
sound-passed e w s =
    record { emitted = all-append w.emitted (commit_of e ∷ []) s.emitted (stands-own e, tt); pending = s.pending }

pub sound-emptied : (w : Walk) → Sound w → Sound (emptied w)
sound-emptied w s =
    record { emitted = all-append w.emitted w.pending s.emitted (settled-stand w.pending s.pending); pending = tt }

sound-oldest_out : (cs : List Commit) (w : Walk) → Each IsSettled cs → Sound w → Sound (oldest_out cs w)
sound-oldest_out [] w h s = s
sound-oldest_out (c ∷ cs) w h s =
    record { emitted = all-append w.emitted (c ∷ []) s.emitted (h.0.stands, tt); pending = h.1 }

sound-with_room : (w : Walk) → Sound w → Sound (with_room w)
sound-with_room w s =
    cond_both (nat_lt (length w.pending) 64) w (oldest_out w.pending w) Sound (λ e. s) (λ e. sound-oldest_out w.pending w s.pending s)

sound-looked_up : (l : Loc) (t n : ℕ) (r : Reply) (o : Option Scalar) (w : Walk) → pending_value l w.pending ≡ o → (looked_up l (entry_of t n (Read l false) r) o w).agrees ≡ true → Sound w → Sound (looked_up l (entry_of t n (Read l false) r) o w)
sound-looked_up l t n r None w e a s = sound-passed (entry_of t n (Read l false) r) w s
sound-looked_up l t n r (Some v) w e a s =
    record {
      emitted = s.emitted;
      pending = joined-settled l v t n r (and_parts w.agrees (is_value v r) a).1 w.pending s.pending e;
    }

sound-put : (l : Loc) (v : Scalar) (t n : ℕ) (r : Reply) (o : Option Scalar) (w : Walk) → pending_value l w.pending ≡ o → (put_pending l (entry_of t n (Write false l v) r) o w).agrees ≡ true → Sound w → Sound (put_pending l (entry_of t n (Write false l v) r) o w)
sound-put l v t n r None w e a s =
    let b = (and_parts (with_room w).agrees (is_done r) a).1 in
    let k = sound-with_room w s in
    record {
      emitted = k.emitted;
      pending =
          each-append IsSettled (with_room w).pending (commit_of (entry_of t n (Write false l v) r) ∷ []) k.pending
          (settled-own l v t n r b, tt);
    }
sound-put l v t n r (Some u) w e a s =
    let b = (and_parts w.agrees (is_done r) a).1 in
    record {
      emitted = s.emitted;
      pending =
          each-changed l (combined (entry_of t n (Write false l v) r)) IsSettled IsSettled (λ c q. q) (settled-write l v t n r b) w.pending u e s.pending;
    }

pub sound-stepped : (t : ℕ) (w : Walk) (x : Item) → (stepped t w x).agrees ≡ true → Sound w → Sound (stepped t w x)
sound-stepped t w Stall a s = sound-emptied w s
sound-stepped t w (Did (Write false l v) r) a s = sound-put l v t w.next r (pending_value l w.pending) w refl a s
sound-stepped t w (Did (Read l false) r) a s = sound-looked_up l t w.next r (pending_value l w.pending) w refl a s
sound-stepped t w (Did (Print x) r) a s = sound-passed (entry_of t w.next (Print x) r) w s
sound-stepped t w (Did x r) a s = sound-passed (entry_of t w.next x r) (emptied w) (sound-emptied w s)

-- a walk that agrees in the end has agreed all along
agrees-with_room : (w : Walk) → (with_room w).agrees ≡ true → w.agrees ≡ true
agrees-with_room w =
    cond_both (nat_lt (length w.pending) 64) w (oldest_out w.pending w) (λ z. z.agrees ≡ true → w.agrees ≡ true) (λ e a. a)
    (λ e. let P : List Commit → Type 0 = λ cs. (oldest_out cs w).agrees ≡ true → w.agrees ≡ true in
    elim w.pending as P [ [] ↦ λ a. a | c ∷ cs ↦ λ a. a ])

agrees-looked_up : (l : Loc) (e : Entry) (o : Option Scalar) (w : Walk) → (looked_up l e o w).agrees ≡ true → w.agrees ≡ true
agrees-looked_up l e None w a = a
agrees-looked_up l e (Some v) w a = (and_parts w.agrees (is_value v e.reply) a).0

agrees-put : (l : Loc) (e : Entry) (o : Option Scalar) (w : Walk) → (put_pending l e o w).agrees ≡ true → w.agrees ≡ true
agrees-put l e None w a = agrees-with_room w (and_parts (with_room w).agrees (is_done e.reply) a).0
agrees-put l e (Some v) w a = (and_parts w.agrees (is_done e.reply) a).0

agrees-stepped : (t : ℕ) (w : Walk) (x : Item) → (stepped t w x).agrees ≡ true → w.agrees ≡ true
agrees-stepped t w Stall a = a
agrees-stepped t w (Did (Write false l v) r) a =
    agrees-put l (entry_of t w.next (Write false l v) r) (pending_value l w.pending) w a
agrees-stepped t w (Did (Read l false) r) a =
    agrees-looked_up l (entry_of t w.next (Read l false) r) (pending_value l w.pending) w a
agrees-stepped t w (Did (Print x) r) a = a
agrees-stepped t w (Did x r) a = a

pub agrees-walked_from : (t : ℕ) (w : Walk) (xs : List Item) → (walked_from t w xs).agrees ≡ true → w.agrees ≡ true
agrees-walked_from t w [] a = a
agrees-walked_from t w (x ∷ xs) a = agrees-stepped t w x (agrees-walked_from t (stepped t w x) xs a)

-- what each step keeps, the whole walk keeps
pub walk-keeps : (t : ℕ) (P : Walk → Type 0) → ((w : Walk) (x : Item) → (stepped t w x).agrees ≡ true → P w → P (stepped t w x)) → (w : Walk) (xs : List Item) → (walked_from t w xs).agrees ≡ true → P w → P (walked_from t w xs)
walk-keeps t P step w [] a h = h
walk-keeps t P step w (x ∷ xs) a h =
    walk-keeps t P step (stepped t w x) xs a (step w x (agrees-walked_from t (stepped t w x) xs a) h)

pub sound-start : Sound start
sound-start = record { emitted = tt; pending = tt }

pub sound-drained : (t : ℕ) (items : List Item) → (drained t items).agrees ≡ true → Sound (drained t items)
sound-drained t items a =
    sound-emptied (walked_from t start items) (walk-keeps t Sound (sound-stepped t) start items a sound-start)
