-- The lawful reply of a basic action fits it, where all entries before it are basic.
use Rattle.std.proofs.Common.{◌≡◌, ℕ, ◌+◌, ◌≤◌, ◌<◌, ◌==◌, nat_lt, nat_le, Bool, false, true, not, ◌&&◌, ◌||◌, cond, List, [], ◌∷◌, ◌++◌, length, take, drop, get_or, take-append-drop, Option, Some, None, is_some, slice_get, refl, sym, ap, subst, ◌∙◌, arith, le-leb, lt-ltb, eqb-true}
use Rattle.std.specs.List.{list_any}
use Rattle.std.proofs.lemmas.Bool.{false≢true, false_from_ne_true, and_parts, and_from, cond_both, or_right}
use Rattle.std.proofs.lemmas.List.{drop_more}
use Rattle.std.proofs.lemmas.List.Sums.{sum_by-append, sum_by-cons}
use Rattle.std.proofs.lemmas.List.Folds.{Any-from_list_any}
use Rattle.block_layout.specs.declared.place.Loc.{Loc}
use Rattle.block_layout.specs.declared.place.ObjectRef.{ObjectRef}
use Rattle.block_layout.specs.declared.place.SharedPtr.{SharedPtr}
use Rattle.block_layout.specs.declared.kind.Kind.{Kind}
use Rattle.block_layout.specs.declared.kind.Kind.TheVariants as kind
use Rattle.block_layout.specs.declared.kind.Shape.{Shape}
use Rattle.block_layout.specs.declared.run_error.TheConstants.{BARRIER_MISMATCH}
use Rattle.block_layout.specs.Places.{in_range}
use Rattle.block_layout.specs.Pointers.{is_null, same_object}
use Rattle.block_layout.proofs.Pointers.{same_object-true}
use Rattle.upc_values.specs.declared.scalar.Scalar.{Scalar}
use Rattle.upc_values.specs.declared.scalar.Scalar.TheVariants.{Int, Shared, Lock}
use Rattle.upc_values.specs.declared.scalar.Mark.{Mark}
use Rattle.upc_values.specs.declared.action.Action.{Action}
use Rattle.upc_values.specs.declared.action.Action.TheVariants as act
use Rattle.upc_values.specs.declared.action.Reply.{Reply}
use Rattle.upc_values.specs.declared.action.Reply.TheVariants.{Done, Value, Refused}
use Rattle.upc_values.specs.declared.journal.Entry.{Entry}
use Rattle.block_layout.specs.Lists.{under}
use Rattle.upc_values.specs.Lists.{Each}
use Rattle.upc_values.specs.Scalars.{same_loc}
use Rattle.upc_values.specs.Shapes.{kind_at, cell_in, fits_cell, blank}
use Rattle.upc_values.specs.layer.Basic.{is_basic, AreBasic}
use Rattle.upc_values.specs.Drain.{written, or_else, last_written}
use Rattle.block_layout.specs.Cells.{is_private}
use Rattle.upc_values.specs.Openings.{Opening, IsOpening, IsDeclared, IsSharable, bytes_of, cell_of, is_named, given, blank_in, initial_of, is_initial}
use Rattle.upc_values.specs.History.{each_thread, objects, value_reply, reply, waits, marks, agrees_with, all_notified}
use Rattle.upc_values.specs.Formed.{is_known, is_pointer, is_read, fits, fits_after, IsWellFormed, AreWellFormedFrom, AreWellFormed}
use Rattle.upc_values.proofs.Sameness.{same_loc-true}
use Rattle.upc_values.proofs.Unmade.{basic-declared}

-- ---- a pointer that names a declared object

total-below : (xs : List ObjectRef) (i : ℕ) (d : ObjectRef) → i < length xs → (get_or xs i d).total ≤ bytes_of xs
total-below xs i d lt =
    let split : xs ≡ take i xs ++ get_or xs i d ∷ drop (i + 1) xs =
    sym (take-append-drop i xs) ∙ ap (λ l. take i xs ++ l) (drop_more xs i d lt) in
    let sum : bytes_of xs ≡ bytes_of (take i xs) + ((get_or xs i d).total + bytes_of (drop (i + 1) xs)) =
    ap bytes_of split ∙ sum_by-append (λ o. o.total) (take i xs) (get_or xs i d ∷ drop (i + 1) xs)
    ∙ ap (λ n. bytes_of (take i xs) + n) (sum_by-cons (λ o. o.total) (get_or xs i d) (drop (i + 1) xs)) in
    omega arith

not-zero : (n i : ℕ) → n ≡ i + 1 → not (n == 0) ≡ true
not-zero n i h = ap not (false_from_ne_true (n == 0) (λ e. let z : n ≡ 0 = eqb-true n 0 e in omega arith))

some-listed : (s : Option Shape) (x : Shape) → s ≡ Some x → is_some s ≡ true
some-listed s x h = ap is_some h

named-pointer : (o : Opening) (p : SharedPtr) → IsOpening o → is_named o.threads o.declared p ≡ true → is_pointer o.threads o.shapes p ≡ true
named-pointer o p v h = go (is_null p) refl
  where
    inside : is_null p ≡ false → (list_any (same_object p.object) o.declared ≡ true) × ((nat_lt p.thread o.threads && in_range p.offset) ≡ true)
    inside e =
        and_parts (list_any (same_object p.object) o.declared) (nat_lt p.thread o.threads && in_range p.offset)
        (subst (λ z. (z || (list_any (same_object p.object) o.declared && (nat_lt p.thread o.threads && in_range p.offset))) ≡ true) e h)

    here : is_null p ≡ false → is_pointer o.threads o.shapes p ≡ true
    here e =
        let q = inside e in
        let far = and_parts (nat_lt p.thread o.threads) (in_range p.offset) q.1 in
        let found = Any-from_list_any (same_object p.object) o.declared q.0 in
        let i = found.0 in
        let x = found.1 in
        let lt : i < length o.declared = found.2 in
        let same : p.object ≡ x = same_object-true p.object x found.4 in
        let d : IsDeclared o i x = subst (IsDeclared o i) found.3 (v.declared i x lt) in
        let total : x.total ≤ 16777216 =
        (let t : (get_or o.declared i x).total ≤ bytes_of o.declared = total-below o.declared i x lt in
        let b = v.bytes in
        let y : x.total ≤ bytes_of o.declared = subst (λ z. z.total ≤ bytes_of o.declared) found.3 t in omega arith) in
        let parts : (y : ObjectRef) → x ≡ y → (not (y.number == 0) && (is_some (slice_get o.shapes y.shape) && (nat_lt p.thread o.threads && (nat_lt y.home o.threads && (in_range p.offset && (nat_le y.total 16777216 && nat_le y.block 16777216)))))) ≡ true =
        λ y w. subst (λ z. (not (z.number == 0) && (is_some (slice_get o.shapes z.shape) && (nat_lt p.thread o.threads && (nat_lt z.home o.threads && (in_range p.offset && (nat_le z.total 16777216 && nat_le z.block 16777216)))))) ≡ true) w
        (and_from _ _ (not-zero x.number i d.number)
        (and_from _ _ (some-listed (slice_get o.shapes x.shape) d.shape d.listed)
        (and_from _ _ far.0
        (and_from _ _ (lt-ltb x.home o.threads d.home)
        (and_from _ _ far.1 (and_from _ _ (le-leb x.total 16777216 total) (le-leb x.block 16777216 d.block))))))) in
        or_right (is_null p) _ (parts p.object (sym same))

    go : (b : Bool) → is_null p ≡ b → is_pointer o.threads o.shapes p ≡ true
    go true e = ap (λ z. z || (not (p.object.number == 0) && (is_some (slice_get o.shapes p.object.shape) && (nat_lt p.thread o.threads && (nat_lt p.object.home o.threads && (in_range p.offset && (nat_le p.object.total 16777216 && nat_le p.object.block 16777216))))))) e
    go false e = here e

-- ---- a value that a cell holds

-- a pointer names a declared object
abbrev Known : Opening → Scalar → Type 0
Known o (Shared p) = is_named o.threads o.declared p ≡ true
Known o v = Unit {0}

known-initial : (o : Opening) (v : Scalar) → is_initial o v ≡ true → Known o v
known-initial o (Int v) h = tt
known-initial o (Shared p) h = h
known-initial o (Lock l) h = tt

known-written : (o : Opening) (es : List Entry) (v : Scalar) → objects o es ≡ o.declared → is_known o es v ≡ true → Known o v
known-written o es (Int v) e h = tt
known-written o es (Shared p) e h = subst (λ z. is_named o.threads z p ≡ true) e h
known-written o es (Lock l) e h = tt

-- it fits the cell, and refers to nothing but declared objects
abbrev Held : Opening → Option Kind → Scalar → Type 0
Held o k v = (fits_cell v k ≡ true) × Known o v

held-read : (o : Opening) (k : Option Kind) (v : Scalar) → IsOpening o → Held o k v → is_read o.threads o.shapes k v ≡ true
held-read o k (Int v) i h = h.0
held-read o k (Lock l) i h = h.0
held-read o k (Shared p) i h = and_from (fits_cell (Shared p) k) (is_pointer o.threads o.shapes p) h.0 (named-pointer o p i h.1)

-- what was written
HeldIn : Opening → Option Kind → Option Scalar → Type 0
HeldIn o k (Some v) = Held o k v
HeldIn o k None = Unit {0}

or_else-held : (o : Opening) (k : Option Kind) (a b : Option Scalar) → HeldIn o k a → HeldIn o k b → HeldIn o k (or_else a b)
unfolding HeldIn
or_else-held o k (Some v) b h g = h
or_else-held o k None b h g = g

if-held : (o : Opening) (k : Option Kind) (b : Bool) (v : Scalar) → (b ≡ true → Held o k v) → HeldIn o k (cond b (Some v) None)
unfolding HeldIn
if-held o k true v h = h refl
if-held o k false v h = tt

written-held : (o : Opening) (before : List Entry) (l : Loc) (a : Action) → objects o before ≡ o.declared → IsWellFormed o before a → HeldIn o (cell_of o o.declared l) (written l a)
unfolding HeldIn
written-held o before l (act.Write s m v) e f =
    let p = and_parts (fits_cell v (cell_of o (objects o before) m)) (is_known o before v) f in
    if-held o (cell_of o o.declared l) (same_loc m l) v
    (λ h. (
      subst (λ z. fits_cell v (cell_of o o.declared z) ≡ true) (same_loc-true m l h)
          (subst (λ z. fits_cell v (cell_of o z m) ≡ true) e p.0),
      known-written o before v e p.1,
    ))
written-held o before l (act.Read m s) e f = tt
written-held o before l act.Fence e f = tt
written-held o before l act.Beat e f = tt
written-held o before l (act.Notify m) e f = tt
written-held o before l (act.Wait m) e f = tt
written-held o before l (act.Lock n) e f = tt
written-held o before l (act.Attempt n) e f = tt
written-held o before l (act.Unlock n) e f = tt
written-held o before l act.LockMake e f = tt
written-held o before l (act.LockFree n) e f = tt
written-held o before l (act.Alloc n b m s) e f = tt
written-held o before l (act.Free p) e f = tt
written-held o before l (act.Meet c args) e f = tt
written-held o before l (act.Print x) e f = tt
written-held o before l (act.Exit v) e f = tt

each-append : (before : List Entry) (e : Entry) → AreBasic before → is_basic e.action ≡ true → AreBasic (before ++ e ∷ [])
each-append [] e h b = (b, tt)
each-append (x ∷ before) e h b = (h.0, each-append before e h.1 b)

none-held : (o : Opening) (k : Option Kind) → HeldIn o k None
unfolding HeldIn
none-held o k = tt

last_written-held : (o : Opening) (before : List Entry) (l : Loc) (es : List Entry) → AreBasic before → AreBasic es → AreWellFormedFrom o before es → HeldIn o (cell_of o o.declared l) (last_written l es)
last_written-held o before l [] b c h = none-held o (cell_of o o.declared l)
last_written-held o before l (e ∷ es) b c h =
    or_else-held o (cell_of o o.declared l) (last_written l es) (written l e.action)
    (last_written-held o (before ++ e ∷ []) l es (each-append before e b c.0) c.1 h.1)
    (written-held o before l e.action (basic-declared o before b) h.0)

-- what it began with
given-held : (o : Opening) (l : Loc) (xs : List (Loc × Scalar)) → Each (λ x. fits_cell x.1 (cell_of o o.declared x.0) ≡ true) xs → Each (λ x. is_initial o x.1 ≡ true) xs → HeldIn o (cell_of o o.declared l) (given l xs)
unfolding HeldIn
given-held o l [] f g = tt
given-held o l (x ∷ xs) f g =
    cond_both (same_loc x.0 l) (Some x.1) (given l xs) (HeldIn o (cell_of o o.declared l))
    (λ h. (subst (λ z. fits_cell x.1 (cell_of o o.declared z) ≡ true) (same_loc-true x.0 l h) f.0, known-initial o x.1 g.0))
    (λ h. given-held o l xs f.1 g.1)

under-sharable : (n : ℕ) (cells : List (ℕ × Kind)) (k : Kind) → Each (λ c. is_private c.1 ≡ false) cells → under n cells ≡ Some k → is_private k ≡ false
under-sharable n [] k h e = absurd cc
under-sharable n (c ∷ cells) k h e = step (c.0 == n) (under-sharable n cells k h.1) e
  where
    step : (b : Bool) → (under n cells ≡ Some k → is_private k ≡ false) → cond b (Some c.1) (under n cells) ≡ Some k → is_private k ≡ false
    step true f q = let same : c.1 ≡ k = cc in subst (λ z. is_private z ≡ false) same h.0
    step false f q = f q

shape-sharable : (shapes : List Shape) (i : ℕ) (s : Shape) → Each IsSharable shapes → slice_get shapes i ≡ Some s → IsSharable s
shape-sharable [] i s h e = absurd cc
shape-sharable (x ∷ shapes) ℕ.zero s h e = let same : x ≡ s = cc in subst IsSharable same h.0
shape-sharable (x ∷ shapes) (ℕ.suc i) s h e = shape-sharable shapes i s h.1 e

kind-sharable : (shapes : List Shape) (i x : ℕ) (k : Kind) → Each IsSharable shapes → kind_at (slice_get shapes i) x ≡ Some k → is_private k ≡ false
kind-sharable shapes i x k h e = go (slice_get shapes i) refl e
  where
    go : (s : Option Shape) → slice_get shapes i ≡ s → kind_at s x ≡ Some k → is_private k ≡ false
    go (Some s) q w = under-sharable _ s.cells k (shape-sharable shapes i s h q) w
    go None q w = absurd cc

cell-sharable : (o : Opening) (object : Option ObjectRef) (l : Loc) (k : Kind) → Each IsSharable o.shapes → cell_in o.threads o.shapes object l ≡ Some k → is_private k ≡ false
cell-sharable o None l k h e = absurd cc
cell-sharable o (Some x) l k h e = step _ e
  where
    step : (b : Bool) → cond b (kind_at (slice_get o.shapes x.shape) l.offset) None ≡ Some k → is_private k ≡ false
    step true q = kind-sharable o.shapes x.shape l.offset k h q
    step false q = absurd cc

blank-kind : (o : Opening) (k : Kind) → is_private k ≡ false → Held o (Some k) (blank k)
blank-kind o kind.Char h = (refl, tt)
blank-kind o kind.UChar h = (refl, tt)
blank-kind o kind.Short h = (refl, tt)
blank-kind o kind.UShort h = (refl, tt)
blank-kind o kind.Int h = (refl, tt)
blank-kind o kind.UInt h = (refl, tt)
blank-kind o kind.Long h = (refl, tt)
blank-kind o kind.ULong h = (refl, tt)
blank-kind o (kind.Shared n b) h = (refl, refl)
blank-kind o kind.Lock h = (refl, tt)
blank-kind o (kind.Private n) h = absurd cc

blank-held : (o : Opening) (k : Option Kind) → ((c : Kind) → k ≡ Some c → is_private c ≡ false) → HeldIn o k (blank_in k)
unfolding HeldIn
blank-held o (Some k) h = blank-kind o k (h k refl)
blank-held o None h = tt

initial-held : (o : Opening) (l : Loc) → IsOpening o → HeldIn o (cell_of o o.declared l) (initial_of o o.declared l)
initial-held o l i =
    or_else-held o (cell_of o o.declared l) (given l o.initials) (blank_in (cell_of o o.declared l))
    (given-held o l o.initials i.fit i.known)
    (blank-held o (cell_of o o.declared l) (λ c e. cell-sharable o _ l c i.sharable e))

-- ---- replies

valued-fits : (o : Opening) (k : Option Kind) (l : Loc) (s : Bool) (v : Option Scalar) (r : Reply) → IsOpening o → HeldIn o k v → value_reply v ≡ Some r → fits o.threads o.shapes k (act.Read l s) r ≡ true
unfolding HeldIn
valued-fits o k l s (Some v) r i h e =
    let same : Value v ≡ r = cc in subst (λ z. fits o.threads o.shapes k (act.Read l s) z ≡ true) same (held-read o k v i h)
valued-fits o k l s None r i h e = absurd cc

wait-fits : (threads : ℕ) (shapes : List Shape) (k : Option Kind) (m : Mark) (a b : Bool) (r : Reply) → cond a (Some (cond b Done (Refused BARRIER_MISMATCH))) None ≡ Some r → fits threads shapes k (act.Wait m) r ≡ true
wait-fits threads shapes k m true true r e = let same : Done ≡ r = cc in subst (λ z. fits threads shapes k (act.Wait m) z ≡ true) same refl
wait-fits threads shapes k m true false r e =
    let same : Refused BARRIER_MISMATCH ≡ r = cc in subst (λ z. fits threads shapes k (act.Wait m) z ≡ true) same refl
wait-fits threads shapes k m false b r e = absurd cc

some-same : (q r : Reply) → Some q ≡ Some r → q ≡ r
some-same q r h = cc

-- the lawful reply fits
pub lawful-fits : (o : Opening) (before : List Entry) (t : ℕ) (a : Action) (r : Reply) → IsOpening o → AreBasic before → AreWellFormed o before → is_basic a ≡ true → reply o before t a ≡ Some r → fits_after o before a r ≡ true
lawful-fits o before t (act.Read l s) r i b h c e =
    let d = basic-declared o before b in
    subst (λ z. fits o.threads o.shapes (cell_of o z l) (act.Read l s) r ≡ true) (sym d)
    (valued-fits o (cell_of o o.declared l) l s (or_else (last_written l before) (initial_of o o.declared l)) r i
    (or_else-held o (cell_of o o.declared l) (last_written l before) (initial_of o o.declared l)
    (last_written-held o [] l before tt b h) (initial-held o l i))
    (subst (λ z. value_reply (or_else (last_written l before) (initial_of o z l)) ≡ Some r) d e))
lawful-fits o before t (act.Wait m) r i b h c e =
    wait-fits o.threads o.shapes None m (all_notified o.threads (waits t before) before)
    (each_thread o.threads (λ u. agrees_with m (slice_get (marks u before) (waits t before)))) r e
lawful-fits o before t (act.Write s l v) r i b h c e = subst (λ q. fits_after o before (act.Write s l v) q ≡ true) (some-same Done r e) refl
lawful-fits o before t act.Fence r i b h c e = subst (λ q. fits_after o before act.Fence q ≡ true) (some-same Done r e) refl
lawful-fits o before t act.Beat r i b h c e = subst (λ q. fits_after o before act.Beat q ≡ true) (some-same Done r e) refl
lawful-fits o before t (act.Notify m) r i b h c e = subst (λ q. fits_after o before (act.Notify m) q ≡ true) (some-same Done r e) refl
lawful-fits o before t (act.Print x) r i b h c e = subst (λ q. fits_after o before (act.Print x) q ≡ true) (some-same Done r e) refl
lawful-fits o before t (act.Lock n) r i b h c e = absurd (false≢true c)
lawful-fits o before t (act.Attempt n) r i b h c e = absurd (false≢true c)
lawful-fits o before t (act.Unlock n) r i b h c e = absurd (false≢true c)
lawful-fits o before t act.LockMake r i b h c e = absurd (false≢true c)
lawful-fits o before t (act.LockFree n) r i b h c e = absurd (false≢true c)
lawful-fits o before t (act.Alloc n m w s) r i b h c e = absurd (false≢true c)
lawful-fits o before t (act.Free p) r i b h c e = absurd (false≢true c)
lawful-fits o before t (act.Meet n args) r i b h c e = absurd (false≢true c)
lawful-fits o before t (act.Exit v) r i b h c e = absurd (false≢true c)

-- a pending write's value fits a read of its location
pub written-fits : (o : Opening) (before : List Entry) (l : Loc) (s w : Bool) (v : Scalar) → IsOpening o → objects o before ≡ o.declared → IsWellFormed o before (act.Write w l v) → fits_after o before (act.Read l s) (Value v) ≡ true
written-fits o before l s w v i e f =
    let p = and_parts (fits_cell v (cell_of o (objects o before) l)) (is_known o before v) f in
    held-read o (cell_of o (objects o before) l) v i (p.0, known-written o before v e p.1)
