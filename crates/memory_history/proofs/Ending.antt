-- A collective call between its beginning and its end.
use Rattle.std.proofs.Common.{◌≡◌, ℕ, ◌-◌, ◌*◌, ◌<◌, ◌≤◌, ◌==◌, Bool, true, false, cond, List, [], ◌∷◌, ◌++◌, length, set, get_or, Some, None, refl, sym, ap, subst, ◌∙◌, arith, length-append, eqb-true, leb-true}
use Rattle.std.proofs.lemmas.Bool.{false≢true, false_from_ne_true, eqb-false}
use Rattle.std.proofs.lemmas.List.{length-set, get_or-set_same}
use Rattle.block_layout.specs.Pointers.{is_null}
use Rattle.upc_values.specs.declared.scalar.Scalar.{Scalar}
use Rattle.upc_values.specs.declared.scalar.Scalar.TheVariants.{Shared}
use Rattle.upc_values.specs.declared.action.Reply.{Reply}
use Rattle.upc_values.specs.declared.action.Reply.TheVariants.{Done, Value, Flag, Refused}
use Rattle.upc_values.specs.Calls.{Call, Allocates, Makes_lock, Frees, Frees_lock, Copies, Permutes, Reduces, Reduces_prefixes, Other, call_of}
use Rattle.sync_objects.specs.layer.Locks.{IsMade, lock_of, with_lock, as_given_up}
use Rattle.shared_heap.specs.layer.Heap.{with_object, without_object}
use Rattle.memory_history.specs.declared.calls.Asked.{Asked}
use Rattle.memory_history.specs.declared.calls.Asked.TheVariants as asks
use Rattle.memory_history.specs.code.Calls.{asked_of}
use Rattle.memory_history.specs.code.LocksAfter.{given_up_by}
use Rattle.memory_history.specs.code.MeetsAfter.{LeaderState, MeetsState, nobody, times, is_leading, leader_at, called, leading, joined, counted, with_leader, with_joined, is_done_reply}
use Rattle.memory_history.specs.code.After.{PartsState}
use Rattle.memory_history.specs.code.Acting.{may_call, HasLock, with_heap, with_locks, with_meets, led}
use Rattle.memory_history.specs.code.Calling.{begun_call, answered, settled}

pub done-is : (r : Reply) → is_done_reply r ≡ true → r ≡ Done
done-is Done h = refl
done-is (Value v) h = absurd (false≢true h)
done-is (Flag b) h = absurd (false≢true h)
done-is (Refused c) h = absurd (false≢true h)

-- the lock that a call gives up
pub freeing : (c : Call) (r : Reply) (l : ℕ) → asked_of c ≡ asks.FreesLock l → r ≡ Done → (l ≡ 0 → ⊥) → given_up_by c r ≡ Some l
freeing (Frees_lock k) r l e d some =
    let same : k ≡ l = cc in
    ap (given_up_by (Frees_lock k)) d
    ∙ ap (λ b. cond b None (Some k)) (false_from_ne_true (k == 0) (λ q. let z = eqb-true k 0 q in some (omega arith)))
    ∙ ap Some same
freeing (Allocates n b s) r l e d some = absurd cc
freeing Makes_lock r l e d some = absurd cc
freeing (Frees x) r l e d some = absurd cc
freeing (Copies w dst src n f) r l e d some = absurd cc
freeing (Permutes dst src perm n f) r l e d some = absurd cc
freeing (Reduces dst src op n b k f) r l e d some = absurd cc
freeing (Reduces_prefixes dst src op n b k f) r l e d some = absurd cc
freeing Other r l e d some = absurd cc

-- what a leading call changes has nothing to do with the calls themselves
pub led-meets : (a : Asked) (r : Reply) (m : MeetsState) (z : PartsState) → led a r (with_meets m z) ≡ with_meets m (led a r z)
led-meets (asks.Allocates n b s) (Value (Shared x)) m z =
    let q = with_heap (with_object x.object z.heap) z in
    elim (n * b == 0) as (λ v. cond v (with_meets m z) (with_meets m q) ≡ with_meets m (cond v z q)) [ true ↦ refl | false ↦ refl ]
led-meets (asks.Frees x) Done m z =
    let q = with_heap (without_object x.object.number z.heap) z in
    elim (is_null x) as (λ v. cond v (with_meets m z) (with_meets m q) ≡ with_meets m (cond v z q)) [ true ↦ refl | false ↦ refl ]
led-meets (asks.FreesLock l) Done m z =
    let q = with_locks (with_lock l as_given_up z.locks) z in
    elim (l == 0) as (λ v. cond v (with_meets m z) (with_meets m q) ≡ with_meets m (cond v z q)) [ true ↦ refl | false ↦ refl ]
led-meets a r m z = refl

-- the last of a list, and the list with another last
last-at : (xs : List LeaderState) (x : LeaderState) → get_or (xs ++ x ∷ []) (length xs) nobody ≡ x
last-at [] x = refl
last-at (y ∷ ys) x = last-at ys x

set-last : (xs : List LeaderState) (x z : LeaderState) → set (xs ++ x ∷ []) (length xs) z ≡ xs ++ z ∷ []
set-last [] x z = refl
set-last (y ∷ ys) x z = ap (λ l. y ∷ l) (set-last ys x z)

pub settled-begun : (t c : ℕ) (args : List Scalar) (n : ℕ) (r : Reply) (m : MeetsState)
    → settled t r (begun_call c args n m) ≡ with_leader t (leading c args n r) m
settled-begun t c args n r m =
    let x = leading c args n (Flag false) in
    let last : length (m.leaders ++ x ∷ []) - 1 ≡ length m.leaders = (let e = length-append m.leaders (x ∷ []) in omega arith) in
    ap (λ j. record {
      counts = counted t m.counts;
      leaders = set (m.leaders ++ x ∷ []) j (answered r (get_or (m.leaders ++ x ∷ []) j nobody));
    }) last
    ∙ ap (λ z. record { counts = counted t m.counts; leaders = set (m.leaders ++ x ∷ []) (length m.leaders) (answered r z) }) (last-at m.leaders x)
    ∙ ap (λ l. record { counts = counted t m.counts; leaders = l }) (set-last m.leaders x (answered r x))

-- ---- the lock that a call gives up is made

lent-call : (call : Call) (r : Reply) (p : PartsState) → may_call p (asked_of call) ≡ true → HasLock call r (led (asked_of call) r p)
lent-call (Frees_lock k) Done p f = λ l e. go (k == 0) refl l e
  where
    go : (v : Bool) → (k == 0) ≡ v → (l : ℕ) → cond v None (Some k) ≡ Some l → IsMade l (cond v p (with_locks (with_lock k as_given_up p.locks) p)).locks
    go true q l e = absurd cc
    go false q l e =
        let same : k ≡ l = cc in
        let ne : k ≡ 0 → ⊥ = eqb-false k 0 q in
        let few : k ≤ length p.locks = leb-true k (length p.locks) f in
        let many = length-set p.locks (k - 1) (as_given_up (lock_of k p.locks)) in
        subst (λ z. IsMade z (with_lock k as_given_up p.locks)) same (omega arith, omega arith)
lent-call (Frees_lock k) r p f = λ l e. absurd cc
lent-call call r p f = λ l e. absurd cc

pub lent-led : (t c : ℕ) (args : List Scalar) (n : ℕ) (r : Reply) (p : PartsState) → is_leading t p.meets ≡ true
    → may_call p (asked_of (call_of c args)) ≡ true
    → let q = with_meets (with_leader t (leading c args n r) p.meets) (led (asked_of (call_of c args)) r p) in
    HasLock (called (leader_at (times t p.meets) q.meets)) (leader_at (times t p.meets) q.meets).reply q
lent-led t c args n r p first f =
    let x = leading c args n r in
    let last : times t p.meets ≡ length p.meets.leaders = eqb-true (times t p.meets) (length p.meets.leaders) first in
    let is : leader_at (times t p.meets) (with_leader t x p.meets) ≡ x =
    ap (λ j. get_or (p.meets.leaders ++ x ∷ []) j nobody) last ∙ last-at p.meets.leaders x in
    subst (λ (z : LeaderState). HasLock (called z) z.reply (led (asked_of (call_of c args)) r p)) (sym is)
    (lent-call (call_of c args) r p f)

pub lent-joined : (t : ℕ) (r : Reply) (p : PartsState) → times t p.meets < length p.meets.leaders
    → HasLock (called (leader_at (times t p.meets) p.meets)) (leader_at (times t p.meets) p.meets).reply p
    → let q = with_meets (with_joined t r p.meets) p in
    HasLock (called (leader_at (times t p.meets) q.meets)) (leader_at (times t p.meets) q.meets).reply q
lent-joined t r p lt h =
    let x = leader_at (times t p.meets) p.meets in
    let is : leader_at (times t p.meets) (with_joined t r p.meets) ≡ joined r x =
    get_or-set_same p.meets.leaders (times t p.meets) (joined r x) nobody lt in
    subst (λ (z : LeaderState). HasLock (called z) z.reply p) (sym is) h
