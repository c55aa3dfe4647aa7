-- What is known stays known, and what a lawful reply gives is known after its entry.
use Rattle.std.proofs.Common.{◌≡◌, ℕ, ◌+◌, ◌*◌, ◌<◌, ◌==◌, nat_lt, nat_le, Bool, false, true, ◌&&◌, ◌||◌, not, cond, List, [], ◌∷◌, ◌++◌, length, Option, Some, None, is_none, slice_get, refl, sym, ap, subst, ◌∙◌, append-nil, append_assoc, arith, le-leb, lt-ltb, eqb-true}
use Rattle.std.specs.List.{list_any, filter_map, cons_option}
use Rattle.std.proofs.lemmas.Bool.{and_parts, and_from, or_right, cond_both}
use Rattle.std.proofs.lemmas.List.{length-append}
use Rattle.std.proofs.lemmas.List.Elements.{filter_map-append}
use Rattle.std.proofs.lemmas.List.Folds.{list_any-append}
use Rattle.block_layout.specs.declared.place.Loc.{Loc}
use Rattle.block_layout.specs.declared.place.ObjectRef.{ObjectRef}
use Rattle.block_layout.specs.declared.place.SharedPtr.{SharedPtr}
use Rattle.block_layout.specs.declared.kind.Kind.{Kind}
use Rattle.block_layout.specs.declared.kind.Kind.TheVariants as kind
use Rattle.block_layout.specs.declared.run_error.TheConstants.{BARRIER_MISMATCH, LOCK_FREED, LOCK_AGAIN, LOCK_NOT_HELD, BAD_FREE, COLLECTIVE_MISMATCH, SHARED_SPACE}
use Rattle.block_layout.specs.Pointers.{null, is_null, same_object, same_target}
use Rattle.block_layout.proofs.Pointers.{same_object-refl, null-false}
use Rattle.upc_values.specs.declared.scalar.Scalar.{Scalar}
use Rattle.upc_values.specs.declared.scalar.Scalar.TheVariants.{Int, Shared, Lock}
use Rattle.upc_values.specs.declared.scalar.Mark.{Mark}
use Rattle.upc_values.specs.declared.action.Action.{Action}
use Rattle.upc_values.specs.declared.action.Action.TheVariants as act
use Rattle.upc_values.specs.declared.action.Reply.{Reply}
use Rattle.upc_values.specs.declared.action.Reply.TheVariants.{Done, Value, Flag, Refused}
use Rattle.upc_values.specs.declared.journal.Entry.{Entry}
use Rattle.upc_values.specs.Lists.{Each}
use Rattle.upc_values.specs.Scalars.{same_loc}
use Rattle.upc_values.specs.Shapes.{fits_cell}
use Rattle.upc_values.specs.Calls.{Call, Allocates, Makes_lock, Frees, Frees_lock, Copies, Permutes, Reduces, Reduces_prefixes, Other, call_of}
use Rattle.upc_values.specs.Drain.{entry_of, written, or_else, last_written}
use Rattle.upc_values.specs.Openings.{Opening, IsOpening, bytes_of, cell_of, is_named, given, blank_in, initial_of, is_initial}
use Rattle.upc_values.specs.History.{picked, is_meet_of, meets, Lead, leader_from, leader, led, makes, object_of, objects, made, alloc_reply, makes_lock, locks, held, value_reply, lock_reply, unlock_reply, holder, is_freed, is_given_up, is_released, allocated, free_reply, led_reply, meet_reply, same_call, notifies, each_thread, agrees_with, marks, all_notified, wait_reply, waits, reply, IsLegalFrom, IsLegal}
use Rattle.upc_values.specs.Formed.{knows, is_known, is_home, may_alloc, IsWellFormed, AreWellFormedFrom, AreWellFormed}
use Rattle.upc_values.specs.layer.Known.{gives_known, AreKnown}
use Rattle.upc_values.proofs.Beginnings.{picked-append}
use Rattle.upc_values.proofs.Legality.{formed-push}
use Rattle.upc_values.proofs.Lists.{each-push, each-grow}
use Rattle.upc_values.proofs.Replies.{known-stays}

-- ---- as a history goes on

pub gives-grow : (o : Opening) (before more : List Entry) (r : Reply) → gives_known o before r ≡ true → gives_known o (before ++ more) r ≡ true
gives-grow o before more (Value v) h = known-stays o before more v h
gives-grow o before more Done h = refl
gives-grow o before more (Flag b) h = refl
gives-grow o before more (Refused c) h = refl

pub known-grow : (o : Opening) (before more : List Entry) (rs : List Reply) → AreKnown o before rs → AreKnown o (before ++ more) rs
known-grow o before more rs h =
    each-grow (λ r. gives_known o before r ≡ true) (λ r. gives_known o (before ++ more) r ≡ true) rs (gives-grow o before more) h

-- ---- what a location holds

-- the value of a write that may be asked for is known
pub written-known : (o : Opening) (before : List Entry) (l : Loc) (v : Scalar) (s : Bool) → IsWellFormed o before (act.Write s l v) → is_known o before v ≡ true
written-known o before l v s h = (and_parts (fits_cell v (cell_of o (objects o before) l)) (is_known o before v) h).1

abbrev KnownIn : Opening → List Entry → Option Scalar → Type 0
KnownIn o es (Some v) = is_known o es v ≡ true
KnownIn o es None = Unit {0}

or_else-known : (o : Opening) (es : List Entry) (a b : Option Scalar) → KnownIn o es a → KnownIn o es b → KnownIn o es (or_else a b)
or_else-known o es (Some v) b h g = h
or_else-known o es None b h g = g

some-grow : (o : Opening) (before more : List Entry) (v : Option Scalar) → KnownIn o before v → KnownIn o (before ++ more) v
some-grow o before more (Some v) h = known-stays o before more v h
some-grow o before more None h = tt

action-known : (o : Opening) (before : List Entry) (l : Loc) (a : Action) → IsWellFormed o before a → KnownIn o before (written l a)
action-known o before l (act.Write s m v) f =
    cond_both (same_loc m l) (Some v) None (KnownIn o before) (λ _. written-known o before m v s f) (λ _. tt)
action-known o before l (act.Read m s) f = tt
action-known o before l act.Fence f = tt
action-known o before l act.Beat f = tt
action-known o before l (act.Notify m) f = tt
action-known o before l (act.Wait m) f = tt
action-known o before l (act.Lock n) f = tt
action-known o before l (act.Attempt n) f = tt
action-known o before l (act.Unlock n) f = tt
action-known o before l act.LockMake f = tt
action-known o before l (act.LockFree n) f = tt
action-known o before l (act.Alloc n b m s) f = tt
action-known o before l (act.Free p) f = tt
action-known o before l (act.Meet c args) f = tt
action-known o before l (act.Print x) f = tt
action-known o before l (act.Exit v) f = tt

last-known : (o : Opening) (before : List Entry) (l : Loc) (es : List Entry) → AreWellFormedFrom o before es → KnownIn o (before ++ es) (last_written l es)
last-known o before l [] h = tt
last-known o before l (e ∷ es) h =
    or_else-known o (before ++ e ∷ es) (last_written l es) (written l e.action)
    (subst (λ z. KnownIn o z (last_written l es)) (append_assoc before (e ∷ []) es) (last-known o (before ++ e ∷ []) l es h.1))
    (some-grow o before (e ∷ es) (written l e.action) (action-known o before l e.action h.0))

initial-known : (o : Opening) (es : List Entry) (v : Scalar) → is_initial o v ≡ true → is_known o es v ≡ true
initial-known o es v h = known-stays o [] es v (first v h)
  where
    first : (v : Scalar) → is_initial o v ≡ true → is_known o [] v ≡ true
    first (Int v) h = refl
    first (Shared p) h = subst (λ z. is_named o.threads z p ≡ true) (sym (append-nil o.declared)) h
    first (Lock l) h = let z : l ≡ 0 = eqb-true l 0 h in le-leb l 0 (omega arith)

given-known : (o : Opening) (es : List Entry) (l : Loc) (xs : List (Loc × Scalar)) → Each (λ x. is_initial o x.1 ≡ true) xs → KnownIn o es (given l xs)
given-known o es l [] h = tt
given-known o es l (x ∷ xs) h =
    cond_both (same_loc x.0 l) (Some x.1) (given l xs) (KnownIn o es) (λ _. initial-known o es x.1 h.0)
    (λ _. given-known o es l xs h.1)

blank-known : (o : Opening) (es : List Entry) (k : Option Kind) → KnownIn o es (blank_in k)
blank-known o es None = tt
blank-known o es (Some (kind.Shared n b)) = refl
blank-known o es (Some kind.Lock) = le-leb 0 (locks es) (omega arith)
blank-known o es (Some kind.Char) = refl
blank-known o es (Some kind.UChar) = refl
blank-known o es (Some kind.Short) = refl
blank-known o es (Some kind.UShort) = refl
blank-known o es (Some kind.Int) = refl
blank-known o es (Some kind.UInt) = refl
blank-known o es (Some kind.Long) = refl
blank-known o es (Some kind.ULong) = refl
blank-known o es (Some (kind.Private n)) = refl

held-known : (o : Opening) (es : List Entry) (l : Loc) → IsOpening o → AreWellFormed o es → KnownIn o es (held o es l)
held-known o es l v f =
    or_else-known o es (last_written l es) (initial_of o (objects o es) l) (last-known o [] l es f)
    (or_else-known o es (given l o.initials) (blank_in (cell_of o (objects o es) l)) (given-known o es l o.initials v.known)
    (blank-known o es (cell_of o (objects o es) l)))

-- ---- what an entry makes

-- an entry that passes is picked after those before it
picked-more : (test : List Entry → Entry → Bool) (before : List Entry) (e : Entry) → test before e ≡ true → picked test (before ++ e ∷ []) ≡ picked test before ++ e ∷ []
picked-more test before e h = picked-append test [] before (e ∷ []) ∙ ap (λ b. picked test before ++ cond b (e ∷ []) []) h

lock-known : (before : List Entry) (e : Entry) → makes_lock e.action (led before e) ≡ true → nat_le (locks before + 1) (locks (before ++ e ∷ [])) ≡ true
lock-known before e h =
    let test : List Entry → Entry → Bool = λ b x. makes_lock x.action (led b x) in
    let n : locks (before ++ e ∷ []) ≡ locks before + 1 =
    ap length (picked-more test before e h) ∙ length-append (picked test before) (e ∷ []) in
    le-leb (locks before + 1) (locks (before ++ e ∷ [])) (omega arith)

abbrev object_in : Option SharedPtr → Option ObjectRef
object_in p = elim p [ Some x ↦ Some x.object | None ↦ None ]

object-known : (o : Opening) (before : List Entry) (e : Entry) (p : SharedPtr) → makes e.action (led before e) ≡ true → e.reply ≡ Value (Shared p)
    → (p.object.number ≡ 0 → ⊥) → list_any (same_object p.object) (objects o (before ++ e ∷ [])) ≡ true
object-known o before e p h r n =
    let test : List Entry → Entry → Bool = λ b x. makes x.action (led b x) in
    let some : is_null p ≡ false = null-false p (λ q. n (ap (λ z. z.object.number) q)) in
    let new : filter_map object_of (e ∷ []) ≡ p.object ∷ [] =
    ap (λ q. filter_map object_of (entry_of e.thread e.index e.action q ∷ [])) r
    ∙ ap (λ b. cons_option (object_in (cond b None (Some p))) []) some in
    let all : objects o (before ++ e ∷ []) ≡ (o.declared ++ filter_map object_of (picked test before)) ++ p.object ∷ [] =
    ap (λ z. o.declared ++ filter_map object_of z) (picked-more test before e h)
    ∙ ap (λ z. o.declared ++ z) (filter_map-append object_of (picked test before) (e ∷ []))
    ∙ sym (append_assoc o.declared (filter_map object_of (picked test before)) (filter_map object_of (e ∷ [])))
    ∙ ap (λ z. (o.declared ++ filter_map object_of (picked test before)) ++ z) new in
    ap (list_any (same_object p.object)) all
    ∙ list_any-append (same_object p.object) (o.declared ++ filter_map object_of (picked test before)) (p.object ∷ [])
    ∙ or_right (list_any (same_object p.object) (o.declared ++ filter_map object_of (picked test before))) _
    (ap (λ b. b || false) (same_object-refl p.object))

made-known : (o : Opening) (before : List Entry) (e : Entry) (n b : ℕ) (h : Option ℕ) (s : ℕ) → 0 < o.threads → is_home o.threads h ≡ true
    → makes e.action (led before e) ≡ true → e.reply ≡ Value (Shared (made o before n b h s))
    → knows o (before ++ e ∷ []) (made o before n b h s) ≡ true
made-known o before e n b h s some home m r =
    let p = made o before n b h s in
    or_right (is_null p) _
    (and_from (list_any (same_object p.object) (objects o (before ++ e ∷ []))) _ (object-known o before e p m r (λ z. omega arith))
    (and_from (nat_lt p.thread o.threads) true (placed h home) refl))
  where
    placed : (h : Option ℕ) → is_home o.threads h ≡ true → nat_lt (made o before n b h s).thread o.threads ≡ true
    placed (Some t) g = g
    placed None g = lt-ltb 0 o.threads some

-- ---- replies

alloc-known : (o : Opening) (before : List Entry) (t i : ℕ) (a : Action) (n b : ℕ) (h : Option ℕ) (s : ℕ) → 0 < o.threads → is_home o.threads h ≡ true
    → ((r : Reply) → makes a (led before (entry_of t i a r)) ≡ true)
    → gives_known o (before ++ entry_of t i a (alloc_reply o before n b h s) ∷ []) (alloc_reply o before n b h s) ≡ true
alloc-known o before t i a n b h s some home m =
    let p = made o before n b h s in
    cond_both (nat_lt 16777216 (bytes_of (objects o before) + n * b)) (Refused SHARED_SPACE) (Value (Shared p))
    (λ r. gives_known o (before ++ entry_of t i a r ∷ []) r ≡ true) (λ _. refl)
    (λ _. made-known o before (entry_of t i a (Value (Shared p))) n b h s some home (m (Value (Shared p))) refl)

-- a reply that gives no pointer and no lock
abbrev Plain : Reply → Type 0
Plain (Value v) = ⊥
Plain r = Unit {0}

plain-known : (o : Opening) (es : List Entry) (r : Reply) → Plain r → gives_known o es r ≡ true
plain-known o es (Value v) h = elim h [ ]
plain-known o es Done h = refl
plain-known o es (Flag b) h = refl
plain-known o es (Refused c) h = refl

if-plain : (b : Bool) (x y : Reply) → Plain x → Plain y → Plain (cond b x y)
if-plain b x y h g = cond_both b x y Plain (λ _. h) (λ _. g)

abbrev PlainIn : Option Reply → Type 0
PlainIn (Some r) = Plain r
PlainIn None = Unit {0}

if-plain_in : (b : Bool) (x y : Option Reply) → PlainIn x → PlainIn y → PlainIn (cond b x y)
if-plain_in b x y h g = cond_both b x y PlainIn (λ _. h) (λ _. g)

lock-plain : (t : ℕ) (h : Option ℕ) → PlainIn (lock_reply t h)
lock-plain t None = tt
lock-plain t (Some u) = if-plain_in (t == u) (Some (Refused LOCK_AGAIN)) None tt tt

unlock-plain : (t : ℕ) (h : Option ℕ) → Plain (unlock_reply t h)
unlock-plain t None = tt
unlock-plain t (Some u) = if-plain (t == u) Done (Refused LOCK_NOT_HELD) tt tt

free-plain : (es : List Entry) (p : SharedPtr) → Plain (free_reply es p)
free-plain es p =
    if-plain (list_any (λ q. same_target p q && not (is_released q.object.number es)) (allocated es)) Done (Refused BAD_FREE) tt tt

wait-plain : (o : Opening) (es : List Entry) (p : ℕ) (m : Mark) → PlainIn (wait_reply o es p m)
wait-plain o es p m =
    let agree : Bool = each_thread o.threads (λ u. agrees_with m (slice_get (marks u es) p)) in
    if-plain_in (all_notified o.threads p es) (Some (cond agree Done (Refused BARRIER_MISMATCH))) None
    (if-plain agree Done (Refused BARRIER_MISMATCH) tt tt) tt

from-plain : (o : Opening) (before : List Entry) (t i : ℕ) (a : Action) (x : Option Reply) (r : Reply) → PlainIn x → x ≡ Some r
    → gives_known o (before ++ entry_of t i a r ∷ []) r ≡ true
from-plain o before t i a x r h e = plain-known o (before ++ entry_of t i a r ∷ []) r (subst PlainIn e h)

-- the reply to the first of the j-th collective calls
led-known : (o : Opening) (before : List Entry) (t i c : ℕ) (args : List Scalar) (x : Call) → 0 < o.threads → call_of c args ≡ x
    → leader (length (meets t before)) before ≡ None
    → gives_known o (before ++ entry_of t i (act.Meet c args) (led_reply o before x) ∷ []) (led_reply o before x) ≡ true
led-known o before t i c args (Allocates n b s) some q none =
    let a = act.Meet c args in
    cond_both (n * b == 0) (Value (Shared null)) (alloc_reply o before n b None s)
    (λ r. gives_known o (before ++ entry_of t i a r ∷ []) r ≡ true) (λ _. refl)
    (λ _. alloc-known o before t i a n b None s some refl
    (λ r. ap (λ z. makes a (cond (is_none z) (call_of c args) Other)) none ∙ ap (makes a) q))
led-known o before t i c args Makes_lock some q none =
    let a = act.Meet c args in
    lock-known before (entry_of t i a (Value (Lock (locks before + 1))))
    (ap (λ z. makes_lock a (cond (is_none z) (call_of c args) Other)) none ∙ ap (makes_lock a) q)
led-known o before t i c args (Frees p) some q none =
    plain-known o (before ++ entry_of t i (act.Meet c args) (led_reply o before (Frees p)) ∷ []) (led_reply o before (Frees p))
    (if-plain (is_null p) Done (free_reply before p) tt (free-plain before p))
led-known o before t i c args (Frees_lock l) some q none =
    plain-known o (before ++ entry_of t i (act.Meet c args) (led_reply o before (Frees_lock l)) ∷ []) (led_reply o before (Frees_lock l))
    (if-plain ((l == 0) || not (is_given_up l before)) Done (Refused LOCK_FREED) tt tt)
led-known o before t i c args (Copies w dst src n f) some q none = refl
led-known o before t i c args (Permutes dst src perm n f) some q none = refl
led-known o before t i c args (Reduces dst src op n b k f) some q none = refl
led-known o before t i c args (Reduces_prefixes dst src op n b k f) some q none = refl
led-known o before t i c args Other some q none = refl

-- what holds of each entry holds of a leader
leader-has : (P : Entry → Type 0) (j : ℕ) (before es : List Entry) (w : Lead) → Each P es → leader_from j before es ≡ Some w → P w.entry
leader-has P j before [] w h e = absurd cc
leader-has P j before (x ∷ es) w h e = step (is_meet_of j before x) (leader-has P j (before ++ x ∷ []) es w h.1) e
  where
    step : (b : Bool) → (leader_from j (before ++ x ∷ []) es ≡ Some w → P w.entry) → cond b (Some (record { before = before; entry = x })) (leader_from j (before ++ x ∷ []) es) ≡ Some w → P w.entry
    step true f q = let l : Lead = record { before = before; entry = x } in let same : l ≡ w = cc in subst (λ (z : Lead). P z.entry) same h.0
    step false f q = f q

meet-known : (o : Opening) (before : List Entry) (t i c : ℕ) (args : List Scalar) → 0 < o.threads → Each (λ e. gives_known o before e.reply ≡ true) before
    → (w : Option Lead) → leader (length (meets t before)) before ≡ w
    → gives_known o (before ++ entry_of t i (act.Meet c args) (meet_reply o before t c args w) ∷ []) (meet_reply o before t c args w) ≡ true
meet-known o before t i c args some all None q = led-known o before t i c args (call_of c args) some refl q
meet-known o before t i c args some all (Some w) q =
    cond_both (same_call c args w.entry.action && (notifies t before == notifies w.entry.thread w.before)) w.entry.reply (Refused COLLECTIVE_MISMATCH)
    (λ r. gives_known o (before ++ entry_of t i (act.Meet c args) r ∷ []) r ≡ true)
    (λ _. gives-grow o before (entry_of t i (act.Meet c args) w.entry.reply ∷ []) w.entry.reply
    (leader-has (λ e. gives_known o before e.reply ≡ true) (length (meets t before)) [] before w all q))
    (λ _. refl)

valued-known : (o : Opening) (es more : List Entry) (v : Option Scalar) (r : Reply) → KnownIn o es v → value_reply v ≡ Some r → gives_known o (es ++ more) r ≡ true
valued-known o es more (Some v) r h e =
    let same : Value v ≡ r = cc in subst (λ z. gives_known o (es ++ more) z ≡ true) same (known-stays o es more v h)
valued-known o es more None r h e = absurd cc

-- where what the earlier entries gave is known, so is what a lawful reply gives, after its entry
reply-known : (o : Opening) (before : List Entry) (t i : ℕ) (a : Action) (r : Reply) → IsOpening o → AreWellFormed o before
    → Each (λ e. gives_known o before e.reply ≡ true) before → IsWellFormed o before a → reply o before t a ≡ Some r
    → gives_known o (before ++ entry_of t i a r ∷ []) r ≡ true
reply-known o before t i (act.Read l s) r v f all w e =
    valued-known o before (entry_of t i (act.Read l s) r ∷ []) (held o before l) r (held-known o before l v f) e
reply-known o before t i (act.Write s l x) r v f all w e = from-plain o before t i (act.Write s l x) (Some Done) r tt e
reply-known o before t i act.Fence r v f all w e = from-plain o before t i act.Fence (Some Done) r tt e
reply-known o before t i act.Beat r v f all w e = from-plain o before t i act.Beat (Some Done) r tt e
reply-known o before t i (act.Notify m) r v f all w e = from-plain o before t i (act.Notify m) (Some Done) r tt e
reply-known o before t i (act.Wait m) r v f all w e =
    from-plain o before t i (act.Wait m) (wait_reply o before (waits t before) m) r (wait-plain o before (waits t before) m) e
reply-known o before t i (act.Lock l) r v f all w e =
    from-plain o before t i (act.Lock l) (cond (is_freed o l before) (Some (Refused LOCK_FREED)) (lock_reply t (holder l before))) r
    (if-plain_in (is_freed o l before) (Some (Refused LOCK_FREED)) (lock_reply t (holder l before)) tt (lock-plain t (holder l before))) e
reply-known o before t i (act.Attempt l) r v f all w e =
    from-plain o before t i (act.Attempt l) (Some (cond (is_freed o l before) (Refused LOCK_FREED) (Flag (is_none (holder l before))))) r
    (if-plain (is_freed o l before) (Refused LOCK_FREED) (Flag (is_none (holder l before))) tt tt) e
reply-known o before t i (act.Unlock l) r v f all w e =
    from-plain o before t i (act.Unlock l) (Some (cond (is_freed o l before) (Refused LOCK_FREED) (unlock_reply t (holder l before)))) r
    (if-plain (is_freed o l before) (Refused LOCK_FREED) (unlock_reply t (holder l before)) tt (unlock-plain t (holder l before))) e
reply-known o before t i act.LockMake r v f all w e =
    let q : Reply = Value (Lock (locks before + 1)) in
    let same : q ≡ r = cc in
    subst (λ z. gives_known o (before ++ entry_of t i act.LockMake z ∷ []) z ≡ true) same
    (lock-known before (entry_of t i act.LockMake q) refl)
reply-known o before t i (act.LockFree l) r v f all w e =
    from-plain o before t i (act.LockFree l) (Some (cond (is_given_up l before) (Refused LOCK_FREED) Done)) r
    (if-plain (is_given_up l before) (Refused LOCK_FREED) Done tt tt) e
reply-known o before t i (act.Alloc n b h s) r v f all w e =
    let q : Reply = alloc_reply o before n b h s in
    let same : q ≡ r = cc in
    subst (λ z. gives_known o (before ++ entry_of t i (act.Alloc n b h s) z ∷ []) z ≡ true) same
    (alloc-known o before t i (act.Alloc n b h s) n b h s v.least (and_parts (may_alloc o n b s) (is_home o.threads h) w).1 (λ z. refl))
reply-known o before t i (act.Free p) r v f all w e = from-plain o before t i (act.Free p) (Some (free_reply before p)) r (free-plain before p) e
reply-known o before t i (act.Meet c args) r v f all w e =
    let q : Reply = meet_reply o before t c args (leader (length (meets t before)) before) in
    let same : q ≡ r = cc in
    subst (λ z. gives_known o (before ++ entry_of t i (act.Meet c args) z ∷ []) z ≡ true) same
    (meet-known o before t i c args v.least all (leader (length (meets t before)) before) refl)
reply-known o before t i (act.Print x) r v f all w e = from-plain o before t i (act.Print x) (Some Done) r tt e
reply-known o before t i (act.Exit x) r v f all w e = from-plain o before t i (act.Exit x) (Some Done) r tt e

-- what the entries of a legal history gave is known after it
entries-known : (o : Opening) (before es : List Entry) → IsOpening o → AreWellFormed o before → Each (λ e. gives_known o before e.reply ≡ true) before
    → AreWellFormedFrom o before es → IsLegalFrom o before es → Each (λ e. gives_known o (before ++ es) e.reply ≡ true) (before ++ es)
entries-known o before [] v b all f l =
    subst (λ z. Each (λ e. gives_known o z e.reply ≡ true) z) (sym (append-nil before)) all
entries-known o before (e ∷ es) v b all f l =
    subst (λ z. Each (λ e. gives_known o z e.reply ≡ true) z) (append_assoc before (e ∷ []) es)
    (entries-known o (before ++ e ∷ []) es v (formed-push o before e.thread e.index e.action e.reply b f.0)
    (each-push (λ x. gives_known o (before ++ e ∷ []) x.reply ≡ true) before e
    (each-grow (λ x. gives_known o before x.reply ≡ true) (λ x. gives_known o (before ++ e ∷ []) x.reply ≡ true) before
    (λ x. gives-grow o before (e ∷ []) x.reply) all)
    (reply-known o before e.thread e.index e.action e.reply v b all f.0 l.0))
    f.1 l.1)

-- what a lawful reply gives is known after its entry
pub lawful-known : (o : Opening) (before : List Entry) (t i : ℕ) (a : Action) (r : Reply) → IsOpening o → IsLegal o before → AreWellFormed o before
    → IsWellFormed o before a → reply o before t a ≡ Some r → gives_known o (before ++ entry_of t i a r ∷ []) r ≡ true
lawful-known o before t i a r v l f w e = reply-known o before t i a r v f (entries-known o [] before v tt tt f l) w e
