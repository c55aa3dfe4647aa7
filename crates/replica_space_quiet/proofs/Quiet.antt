-- Replies and well-formedness without the reads and writes of a history.
use Rattle.std.proofs.Common.{◌≡◌, ℕ, ◌+◌, ◌*◌, ◌==◌, nat_lt, nat_le, Bool, true, false, not, ◌&&◌, ◌||◌, cond, List, [], ◌∷◌, ◌++◌, length, Option, Some, None, is_none, is_some, refl, sym, ap, ◌∙◌, inl, inr}
use Rattle.std.specs.Prelude.{slice_get, pos}
use Rattle.std.specs.List.{filter_map, last_or, list_any}
use Rattle.std.specs.Option.{option_map}
use Rattle.std.proofs.lemmas.Bool.{cases_Bool, cond-false, false≢true}
use Rattle.block_layout.specs.declared.place.Loc.{Loc}
use Rattle.block_layout.specs.declared.place.ObjectRef.{ObjectRef}
use Rattle.block_layout.specs.declared.place.SharedPtr.{SharedPtr}
use Rattle.block_layout.specs.Pointers.{null, is_null, same_target}
use Rattle.block_layout.specs.declared.run_error.TheConstants.{LOCK_FREED, BARRIER_MISMATCH, COLLECTIVE_MISMATCH, BAD_FREE, SHARED_SPACE}
use Rattle.upc_values.specs.declared.scalar.Scalar.{Scalar}
use Rattle.upc_values.specs.declared.scalar.Scalar.TheVariants as scalar
use Rattle.upc_values.specs.declared.scalar.Mark.{Mark}
use Rattle.upc_values.specs.declared.action.Action.{Action}
use Rattle.upc_values.specs.declared.action.Action.TheVariants as act
use Rattle.upc_values.specs.declared.action.Reply.{Reply}
use Rattle.upc_values.specs.declared.action.Reply.TheVariants.{Done, Value, Flag, Refused}
use Rattle.upc_values.specs.declared.journal.Entry.{Entry}
use Rattle.upc_values.specs.Calls.{Call, Allocates, Makes_lock, Frees, Frees_lock, Copies, Permutes, Reduces, Reduces_prefixes, Other, call_of}
use Rattle.upc_values.specs.Drain.{written, or_else, last_written}
use Rattle.upc_values.specs.Openings.{Opening, bytes_of, cell_of, initial_of, is_named}
use Rattle.upc_values.specs.Shapes.{fits_cell}
use Rattle.upc_values.specs.History as history
use Rattle.upc_values.specs.History.{reply, is_meet, meets, is_meet_of, Lead, leader_from, leader, led, makes, objects, object_of, releases, is_released, allocated, free_reply, makes_lock, locks, gives_up, is_given_up, all_met, is_freed, turns, holder, notifies, waits, marks, mark_of, is_any, picked, picked_from, asked, pointer_of, meet_reply, led_reply, agrees_with, all_notified, each_thread, held}
use Rattle.upc_values.specs.Formed.{may_ask, may_call, knows, is_known, fits, fits_after}
use Rattle.upc_values.specs.layer.Known.{gives_known}
use Rattle.replica_space_quiet.specs.layer.Loud.{is_access, loud}
use Rattle.replica_space_quiet.proofs.Kept.{access, loud-skips, loud-takes, loud-after-access, loud-after-other, filter-loud, filters-loud, maps-loud, counts-loud, IsDeaf, picked-loud, picked-same, each_thread-same}

-- ---- a read or a write is nothing else

no-meet : (a : Action) → is_access a ≡ true → is_meet a ≡ false
no-meet (act.Meet c x) h = absurd (false≢true h)
no-meet a h = refl

asks-nothing : (a : Action) → is_access a ≡ true → asked a ≡ Other
asks-nothing (act.Meet c x) h = absurd (false≢true h)
asks-nothing a h = refl

makes-none : (a : Action) → is_access a ≡ true → makes a Other ≡ false
makes-none (act.Alloc n b g s) h = absurd (false≢true h)
makes-none a h = refl

makes_lock-none : (a : Action) → is_access a ≡ true → makes_lock a Other ≡ false
makes_lock-none act.LockMake h = absurd (false≢true h)
makes_lock-none a h = refl

releases-none : (n : ℕ) (a : Action) (r : Reply) → is_access a ≡ true → releases n a Other r ≡ false
releases-none n (act.Free p) r h = absurd (false≢true h)
releases-none n a r h = refl

gives_up-none : (l : ℕ) (a : Action) (r : Reply) → is_access a ≡ true → gives_up l a Other r ≡ false
gives_up-none l (act.LockFree k) r h = absurd (false≢true h)
gives_up-none l a r h = refl

turns-none : (l : ℕ) (a : Action) (r : Reply) → is_access a ≡ true → turns l a r ≡ false
turns-none l (act.Lock k) r h = absurd (false≢true h)
turns-none l (act.Attempt k) r h = absurd (false≢true h)
turns-none l (act.Unlock k) r h = absurd (false≢true h)
turns-none l a r h = refl

no-notify : (a : Action) → is_access a ≡ true → history.is_notify a ≡ false
no-notify (act.Notify m) h = absurd (false≢true h)
no-notify a h = refl

no-wait : (a : Action) → is_access a ≡ true → history.is_wait a ≡ false
no-wait (act.Wait m) h = absurd (false≢true h)
no-wait a h = refl

and-false : (b c : Bool) → c ≡ false → (b && c) ≡ false
and-false true c h = h
and-false false c h = refl

-- ---- meets and their leaders

pub meets-loud : (t : ℕ) (es : List Entry) → meets t (loud es) ≡ meets t es
meets-loud t es = filters-loud (λ e. is_meet e.action) (λ e. e.thread == t) (λ e h. no-meet e.action h) es

meet_of-loud : (j : ℕ) (before : List Entry) (e : Entry) → is_meet_of j (loud before) e ≡ is_meet_of j before e
meet_of-loud j before e = ap (λ ms. is_meet e.action && (length ms == j)) (meets-loud e.thread before)

-- a leader, with the entries before it that are loud
abbrev pub loud_lead : Lead → Lead
loud_lead w = record { before = loud w.before; entry = w.entry }

pub leader-loud : (j : ℕ) (before es : List Entry) → leader_from j (loud before) (loud es) ≡ option_map loud_lead (leader_from j before es)
leader-loud j before [] = refl
leader-loud j before (e ∷ es) =
    elim (cases_Bool (access e)) [
      | inl h ↦
          ap (leader_from j (loud before)) (loud-skips e es h)
          ∙ ap (λ b. leader_from j b (loud es)) (sym (loud-after-access before e h))
          ∙ leader-loud j (before ++ e ∷ []) es
          ∙ sym (ap (option_map loud_lead) (cond-false (is_meet_of j before e) (Some (record { before = before; entry = e })) (leader_from j (before ++ e ∷ []) es)
          (ap (λ b. b && (length (meets e.thread before) == j)) (no-meet e.action h))))
      | inr h ↦
          ap (leader_from j (loud before)) (loud-takes e es h)
          ∙ ap (λ b. cond b (Some (record { before = loud before; entry = e })) (leader_from j (loud before ++ e ∷ []) (loud es))) (meet_of-loud j before e)
          ∙ ap (λ l. cond (is_meet_of j before e) (Some (record { before = loud before; entry = e })) l)
          (ap (λ b. leader_from j b (loud es)) (sym (loud-after-other before e h)) ∙ leader-loud j (before ++ e ∷ []) es)
          ∙ mapped (is_meet_of j before e) (record { before = before; entry = e }) (leader_from j (before ++ e ∷ []) es)
    ]
  where
    mapped : (b : Bool) (w : Lead) (o : Option Lead) → cond b (Some (loud_lead w)) (option_map loud_lead o) ≡ option_map loud_lead (cond b (Some w) o)
    mapped true w o = refl
    mapped false w o = refl

none-mapped : (o : Option Lead) → is_none (option_map loud_lead o) ≡ is_none o
none-mapped (Some w) = refl
none-mapped None = refl

pub led-loud : (before : List Entry) (e : Entry) → led (loud before) e ≡ led before e
led-loud before e =
    ap (λ b. cond b (asked e.action) Other)
    (ap (λ ms. is_none (leader (length ms) (loud before))) (meets-loud e.thread before)
    ∙ ap is_none (leader-loud (length (meets e.thread before)) [] before)
    ∙ none-mapped (leader (length (meets e.thread before)) before))

-- a read or a write leads nothing
led-access : (before : List Entry) (e : Entry) → access e ≡ true → led before e ≡ Other
led-access before e h =
    ap (λ c. cond (is_none (leader (length (meets e.thread before)) before)) c Other) (asks-nothing e.action h)
    ∙ same (is_none (leader (length (meets e.thread before)) before))
  where
    same : (b : Bool) → cond b Other Other ≡ Other
    same true = refl
    same false = refl

-- ---- objects and locks

deaf-by : (test : Entry → Call → Bool) → ((e : Entry) → access e ≡ true → test e Other ≡ false) → IsDeaf (λ before e. test e (led before e))
deaf-by test q = record {
  skips = λ before e h. ap (test e) (led-access before e h) ∙ q e h;
  same = λ before e. ap (test e) (led-loud before e);
}

picked-by : (test : Entry → Call → Bool) → ((e : Entry) → access e ≡ true → test e Other ≡ false) → (es : List Entry)
    → picked (λ before e. test e (led before e)) (loud es) ≡ picked (λ before e. test e (led before e)) es
picked-by test q es = picked-loud (λ before e. test e (led before e)) (deaf-by test q) [] es

pub objects-loud : (o : Opening) (es : List Entry) → objects o (loud es) ≡ objects o es
objects-loud o es =
    ap (λ l. o.declared ++ filter_map object_of l) (picked-by (λ e c. makes e.action c) (λ e h. makes-none e.action h) es)

pub locks-loud : (es : List Entry) → locks (loud es) ≡ locks es
locks-loud es = ap length (picked-by (λ e c. makes_lock e.action c) (λ e h. makes_lock-none e.action h) es)

released-loud : (n : ℕ) (es : List Entry) → is_released n (loud es) ≡ is_released n es
released-loud n es =
    ap (λ l. nat_lt 0 (length l)) (picked-by (λ e c. releases n e.action c e.reply) (λ e h. releases-none n e.action e.reply h) es)

given_up-loud : (l : ℕ) (es : List Entry) → is_given_up l (loud es) ≡ is_given_up l es
given_up-loud l es =
    ap (λ k. nat_lt 0 (length k)) (picked-by (λ e c. gives_up l e.action c e.reply) (λ e h. gives_up-none l e.action e.reply h) es)

allocated-loud : (es : List Entry) → allocated (loud es) ≡ allocated es
allocated-loud es =
    ap (filter_map (λ (e : Entry). pointer_of e.reply))
    (filter-loud (λ e. makes e.action (asked e.action)) (λ e h. ap (makes e.action) (asks-nothing e.action h) ∙ makes-none e.action h) es)

all_met-loud : (o : Opening) (j : ℕ) (es : List Entry) → all_met o j (loud es) ≡ all_met o j es
all_met-loud o j es =
    each_thread-same o.threads (λ u. history.is_done (slice_get (meets u (loud es)) j)) (λ u. history.is_done (slice_get (meets u es) j))
    (λ u. ap (λ ms. history.is_done (slice_get ms j)) (meets-loud u es))

-- the test by which a lock is freed, where calls are met in all these entries
abbrev seeing : Opening → ℕ → List Entry → List Entry → Entry → Bool
seeing o l all before e =
    gives_up l e.action (led before e) e.reply && (not (is_meet e.action) || all_met o (length (meets e.thread before)) all)

seeing-deaf : (o : Opening) (l : ℕ) (es : List Entry) → IsDeaf (seeing o l es)
seeing-deaf o l es = record {
  skips = λ before e h. ap (λ b. b && (not (is_meet e.action) || all_met o (length (meets e.thread before)) es))
      (ap (λ c. gives_up l e.action c e.reply) (led-access before e h) ∙ gives_up-none l e.action e.reply h);
  same = λ before e. ap (λ c. gives_up l e.action c e.reply && (not (is_meet e.action) || all_met o (length (meets e.thread (loud before))) es)) (led-loud before e)
      ∙ ap (λ ms. gives_up l e.action (led before e) e.reply && (not (is_meet e.action) || all_met o (length ms) es)) (meets-loud e.thread before);
}

pub freed-loud : (o : Opening) (l : ℕ) (es : List Entry) → is_freed o l (loud es) ≡ is_freed o l es
freed-loud o l es =
    ap (λ k. nat_lt 0 (length k))
    (picked-same (seeing o l (loud es)) (seeing o l es)
    (λ before e. ap (λ b. gives_up l e.action (led before e) e.reply && (not (is_meet e.action) || b)) (all_met-loud o (length (meets e.thread before)) es)) [] (loud es)
    ∙ picked-loud (seeing o l es) (seeing-deaf o l es) [] es)

pub holder-loud : (l : ℕ) (es : List Entry) → holder l (loud es) ≡ holder l es
holder-loud l es = ap (λ k. history.left_with (last_or None k)) (filter-loud (λ e. turns l e.action e.reply) (λ e h. turns-none l e.action e.reply h) es)

-- ---- the barrier

pub notifies-loud : (t : ℕ) (es : List Entry) → notifies t (loud es) ≡ notifies t es
notifies-loud t es = counts-loud (λ e. (e.thread == t) && history.is_notify e.action) (λ e h. and-false (e.thread == t) _ (no-notify e.action h)) es

pub waits-loud : (t : ℕ) (es : List Entry) → waits t (loud es) ≡ waits t es
waits-loud t es = counts-loud (λ e. (e.thread == t) && history.is_wait e.action) (λ e h. and-false (e.thread == t) _ (no-wait e.action h)) es

no-mark-by : (t i : ℕ) (a : Action) (r : Reply) → is_access a ≡ true → mark_of (record { thread = t; index = i; action = a; reply = r }) ≡ None
no-mark-by t i (act.Notify m) r k = absurd (false≢true k)
no-mark-by t i a r k = refl

no-mark : (e : Entry) → access e ≡ true → mark_of e ≡ None
no-mark e h = no-mark-by e.thread e.index e.action e.reply h

marks-loud : (t : ℕ) (es : List Entry) → marks t (loud es) ≡ marks t es
marks-loud t es = maps-loud mark_of (λ e. e.thread == t) no-mark es

wait-loud : (o : Opening) (es : List Entry) (p : ℕ) (m : Mark) → history.wait_reply o (loud es) p m ≡ history.wait_reply o es p m
wait-loud o es p m =
    ap (λ b. cond b (Some (cond (each_thread o.threads (λ u. agrees_with m (slice_get (marks u (loud es)) p))) Done (Refused BARRIER_MISMATCH))) None)
    (each_thread-same o.threads (λ u. nat_lt p (notifies u (loud es))) (λ u. nat_lt p (notifies u es)) (λ u. ap (nat_lt p) (notifies-loud u es)))
    ∙ ap (λ b. cond (all_notified o.threads p es) (Some (cond b Done (Refused BARRIER_MISMATCH))) None)
    (each_thread-same o.threads (λ u. agrees_with m (slice_get (marks u (loud es)) p)) (λ u. agrees_with m (slice_get (marks u es) p))
    (λ u. ap (λ ms. agrees_with m (slice_get ms p)) (marks-loud u es)))

-- ---- allocations, frees and collective calls

-- the reply of an allocation after these objects
abbrev reply_by : ℕ → ℕ → Option ℕ → ℕ → List ObjectRef → Reply
reply_by nblocks nbytes home shape objects =
    let place : ℕ = elim home [ Some t ↦ t | None ↦ 0 ] in
    cond (nat_lt 16777216 (bytes_of objects + nblocks * nbytes)) (Refused SHARED_SPACE)
    (Value (scalar.Shared (record {
      object =
          record {
            number = length objects + 1;
            total = nblocks * nbytes;
            block = cond (is_some home) 0 nbytes;
            home = place;
            shape = shape;
            base = bytes_of objects;
          };
      thread = place;
      phase = 0;
      offset = pos 0;
    })))

alloc-loud : (o : Opening) (es : List Entry) (n b : ℕ) (h : Option ℕ) (s : ℕ) → history.alloc_reply o (loud es) n b h s ≡ history.alloc_reply o es n b h s
alloc-loud o es n b h s = ap (reply_by n b h s) (objects-loud o es)

any-same : {X : Type 0} (f g : X → Bool) → ((q : X) → f q ≡ g q) → (xs : List X) → list_any f xs ≡ list_any g xs
any-same f g h [] = refl
any-same f g h (x ∷ xs) = ap (λ b. b || list_any f xs) (h x) ∙ ap (λ b. g x || b) (any-same f g h xs)

free-loud : (es : List Entry) (p : SharedPtr) → free_reply (loud es) p ≡ free_reply es p
free-loud es p =
    ap (λ b. cond b Done (Refused BAD_FREE))
    (any-same (λ q. same_target p q && not (is_released q.object.number (loud es))) (λ q. same_target p q && not (is_released q.object.number es))
    (λ q. ap (λ b. same_target p q && not b) (released-loud q.object.number es)) (allocated (loud es))
    ∙ ap (list_any (λ q. same_target p q && not (is_released q.object.number es))) (allocated-loud es))

led_reply-loud : (o : Opening) (es : List Entry) (c : Call) → led_reply o (loud es) c ≡ led_reply o es c
led_reply-loud o es (Allocates n b s) = ap (cond (n * b == 0) (Value (scalar.Shared null))) (alloc-loud o es n b None s)
led_reply-loud o es Makes_lock = ap (λ k. Value (scalar.Lock (k + 1))) (locks-loud es)
led_reply-loud o es (Frees p) = ap (cond (is_null p) Done) (free-loud es p)
led_reply-loud o es (Frees_lock l) = ap (λ b. cond ((l == 0) || not b) Done (Refused LOCK_FREED)) (given_up-loud l es)
led_reply-loud o es c = refl

joined-loud : (o : Opening) (es : List Entry) (t c : ℕ) (args : List Scalar) (w : Option Lead)
    → meet_reply o (loud es) t c args (option_map loud_lead w) ≡ meet_reply o es t c args w
joined-loud o es t c args None = led_reply-loud o es (call_of c args)
joined-loud o es t c args (Some w) =
    ap (λ n. cond (history.same_call c args w.entry.action && (n == notifies w.entry.thread (loud w.before))) w.entry.reply (Refused COLLECTIVE_MISMATCH)) (notifies-loud t es)
    ∙ ap (λ n. cond (history.same_call c args w.entry.action && (notifies t es == n)) w.entry.reply (Refused COLLECTIVE_MISMATCH)) (notifies-loud w.entry.thread w.before)

meet-loud : (o : Opening) (es : List Entry) (t c : ℕ) (args : List Scalar)
    → meet_reply o (loud es) t c args (leader (length (meets t (loud es))) (loud es)) ≡ meet_reply o es t c args (leader (length (meets t es)) es)
meet-loud o es t c args =
    ap (λ ms. meet_reply o (loud es) t c args (leader (length ms) (loud es))) (meets-loud t es)
    ∙ ap (meet_reply o (loud es) t c args) (leader-loud (length (meets t es)) [] es)
    ∙ joined-loud o es t c args (leader (length (meets t es)) es)

-- ---- all actions

pub replies-loud : (o : Opening) (es : List Entry) (t : ℕ) (a : Action) → is_access a ≡ false → reply o (loud es) t a ≡ reply o es t a
replies-loud o es t (act.Read l s) h = absurd (false≢true (sym h))
replies-loud o es t (act.Write s l v) h = absurd (false≢true (sym h))
replies-loud o es t (act.Wait m) h = ap (λ n. history.wait_reply o (loud es) n m) (waits-loud t es) ∙ wait-loud o es (waits t es) m
replies-loud o es t (act.Lock l) h =
    ap (λ b. cond b (Some (Refused LOCK_FREED)) (history.lock_reply t (holder l (loud es)))) (freed-loud o l es)
    ∙ ap (λ k. cond (is_freed o l es) (Some (Refused LOCK_FREED)) (history.lock_reply t k)) (holder-loud l es)
replies-loud o es t (act.Attempt l) h =
    ap (λ b. Some (cond b (Refused LOCK_FREED) (Flag (is_none (holder l (loud es)))))) (freed-loud o l es)
    ∙ ap (λ k. Some (cond (is_freed o l es) (Refused LOCK_FREED) (Flag (is_none k)))) (holder-loud l es)
replies-loud o es t (act.Unlock l) h =
    ap (λ b. Some (cond b (Refused LOCK_FREED) (history.unlock_reply t (holder l (loud es))))) (freed-loud o l es)
    ∙ ap (λ k. Some (cond (is_freed o l es) (Refused LOCK_FREED) (history.unlock_reply t k))) (holder-loud l es)
replies-loud o es t act.LockMake h = ap (λ k. Some (Value (scalar.Lock (k + 1)))) (locks-loud es)
replies-loud o es t (act.LockFree l) h = ap (λ b. Some (cond b (Refused LOCK_FREED) Done)) (given_up-loud l es)
replies-loud o es t (act.Alloc n b g s) h = ap Some (alloc-loud o es n b g s)
replies-loud o es t (act.Free p) h = ap Some (free-loud es p)
replies-loud o es t (act.Meet c args) h = ap Some (meet-loud o es t c args)
replies-loud o es t a h = refl

pub knows-loud : (o : Opening) (es : List Entry) (p : SharedPtr) → knows o (loud es) p ≡ knows o es p
knows-loud o es p = ap (λ xs. is_named o.threads xs p) (objects-loud o es)

pub known-loud : (o : Opening) (es : List Entry) (v : Scalar) → is_known o (loud es) v ≡ is_known o es v
known-loud o es (scalar.Int v) = refl
known-loud o es (scalar.Shared p) = knows-loud o es p
known-loud o es (scalar.Lock l) = ap (nat_le l) (locks-loud es)

and-same : (a b c d : Bool) → a ≡ c → b ≡ d → (a && b) ≡ (c && d)
and-same a b c d h k = ap (λ x. x && b) h ∙ ap (λ x. c && x) k

call-loud : (o : Opening) (es : List Entry) (c : Call) → may_call o (loud es) c ≡ may_call o es c
call-loud o es (Allocates n b s) = refl
call-loud o es Makes_lock = refl
call-loud o es (Frees p) = knows-loud o es p
call-loud o es (Frees_lock l) = ap (nat_le l) (locks-loud es)
call-loud o es (Copies w dst src n f) =
    and-same (knows o (loud es) dst) (knows o (loud es) src) (knows o es dst) (knows o es src) (knows-loud o es dst) (knows-loud o es src)
call-loud o es (Permutes dst src perm n f) =
    and-same (knows o (loud es) dst) (knows o (loud es) src && knows o (loud es) perm) (knows o es dst) (knows o es src && knows o es perm)
    (knows-loud o es dst)
    (and-same (knows o (loud es) src) (knows o (loud es) perm) (knows o es src) (knows o es perm) (knows-loud o es src) (knows-loud o es perm))
call-loud o es (Reduces dst src op n b k f) =
    and-same (knows o (loud es) dst) (knows o (loud es) src) (knows o es dst) (knows o es src) (knows-loud o es dst) (knows-loud o es src)
call-loud o es (Reduces_prefixes dst src op n b k f) =
    and-same (knows o (loud es) dst) (knows o (loud es) src) (knows o es dst) (knows o es src) (knows-loud o es dst) (knows-loud o es src)
call-loud o es Other = refl

pub formed-loud : (o : Opening) (es : List Entry) (a : Action) → may_ask o (loud es) a ≡ may_ask o es a
formed-loud o es (act.Read l s) = ap (λ xs. is_some (cell_of o xs l)) (objects-loud o es)
formed-loud o es (act.Write s l v) =
    ap (λ xs. fits_cell v (cell_of o xs l) && is_known o (loud es) v) (objects-loud o es)
    ∙ ap (λ b. fits_cell v (cell_of o (objects o es) l) && b) (known-loud o es v)
formed-loud o es (act.Lock l) = ap (λ k. nat_lt 0 l && nat_le l k) (locks-loud es)
formed-loud o es (act.Attempt l) = ap (λ k. nat_lt 0 l && nat_le l k) (locks-loud es)
formed-loud o es (act.Unlock l) = ap (λ k. nat_lt 0 l && nat_le l k) (locks-loud es)
formed-loud o es (act.LockFree l) = ap (λ k. nat_lt 0 l && nat_le l k) (locks-loud es)
formed-loud o es (act.Free p) = knows-loud o es p
formed-loud o es (act.Meet c args) = call-loud o es (call_of c args)
formed-loud o es a = refl

-- ---- values

pub gives-loud : (o : Opening) (es : List Entry) (r : Reply) → gives_known o (loud es) r ≡ gives_known o es r
gives-loud o es (Value v) = known-loud o es v
gives-loud o es Done = refl
gives-loud o es (Flag b) = refl
gives-loud o es (Refused c) = refl

no-write : (l : Loc) (a : Action) → is_access a ≡ false → written l a ≡ None
no-write l (act.Write s k v) h = absurd (false≢true (sym h))
no-write l a h = refl

-- nothing is written
pub unwritten : (l : Loc) (es : List Entry) → last_written l (loud es) ≡ None
unwritten l [] = refl
unwritten l (e ∷ es) =
    elim (cases_Bool (access e)) [
      | inl h ↦ ap (last_written l) (loud-skips e es h) ∙ unwritten l es
      | inr h ↦
          ap (last_written l) (loud-takes e es h) ∙ ap (λ v. or_else v (written l e.action)) (unwritten l es)
          ∙ no-write l e.action h
    ]

-- each location holds what it began with
pub held-loud : (o : Opening) (es : List Entry) (l : Loc) → held o (loud es) l ≡ initial_of o (objects o es) l
held-loud o es l =
    ap (λ v. or_else v (initial_of o (objects o (loud es)) l)) (unwritten l es) ∙ ap (λ xs. initial_of o xs l) (objects-loud o es)

-- the same replies fit
pub fits-loud : (o : Opening) (es : List Entry) (a : Action) (r : Reply) → fits_after o (loud es) a r ≡ fits_after o es a r
fits-loud o es (act.Read l s) r = ap (λ xs. fits o.threads o.shapes (cell_of o xs l) (act.Read l s) r) (objects-loud o es)
fits-loud o es a r = refl
