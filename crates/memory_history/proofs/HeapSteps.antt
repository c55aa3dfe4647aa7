-- The heap stands after one more entry, where it is changed as the entry's call says.
use Rattle.std.proofs.Common.{◌≡◌, ◌==◌, ℕ, ◌+◌, ◌*◌, ◌≤◌, nat_lt, Bool, true, false, not, ◌&&◌, ◌||◌, cond, List, [], ◌∷◌, ◌++◌, length, map, Option, Some, None, is_none, refl, sym, ap, subst, ◌∙◌, append_assoc, append-nil, arith, eqb-true, eq-eqb, ltb-false}
use Rattle.std.proofs.lemmas.Bool.{and_parts, cond_both, false≢true, or_from}
use Rattle.std.proofs.lemmas.List.{map-append}
use Rattle.block_layout.specs.declared.place.Loc.{Loc}
use Rattle.block_layout.specs.declared.place.ObjectRef.{ObjectRef}
use Rattle.block_layout.specs.declared.place.SharedPtr.{SharedPtr}
use Rattle.block_layout.specs.declared.run_error.TheConstants.{SHARED_SPACE}
use Rattle.block_layout.specs.Pointers.{null, is_null}
use Rattle.upc_values.specs.declared.scalar.Scalar.{Scalar}
use Rattle.upc_values.specs.declared.scalar.Scalar.TheVariants.{Shared}
use Rattle.upc_values.specs.declared.action.Action.{Action}
use Rattle.upc_values.specs.declared.action.Action.TheVariants as act
use Rattle.upc_values.specs.declared.action.Reply.{Reply}
use Rattle.upc_values.specs.declared.action.Reply.TheVariants.{Done, Value, Refused}
use Rattle.upc_values.specs.declared.journal.Entry.{Entry}
use Rattle.upc_values.specs.Scalars.{same_loc}
use Rattle.upc_values.specs.Calls.{Call, Allocates, Frees, Other, call_of}
use Rattle.upc_values.specs.Drain.{entry_of, written, or_else}
use Rattle.upc_values.specs.Openings.{Opening, IsOpening, bytes_of}
use Rattle.upc_values.specs.History.{asked, meets, Lead, leader, led, makes, objects, made, releases, is_released, IsLegal}
use Rattle.upc_values.specs.Formed.{is_home, may_alloc, IsWellFormed, AreWellFormed}
use Rattle.shared_heap.specs.layer.Heap as heap
use Rattle.shared_heap.specs.layer.Heap.{HeapState, IsSaved, new_object, grow_answer, with_object, with_released, without_object}
use Rattle.memory_history.specs.code.HeapAfter.{HeapAfter}
use Rattle.memory_history.proofs.Growing.{objects-push, released-push, last_written-push}
use Rattle.memory_history.proofs.Entries.{both-true}
use Rattle.memory_history.proofs.Objects.{made_by, Makes, makes-made, idle, ungiven, makes-none}
use Rattle.memory_history.proofs.Starts.{makes-asked}
use Rattle.memory_history.proofs.Released.{releases-none, releases-other, unmade-unreleased}
use Rattle.memory_history.proofs.HeapReplies.{made-answer, alloc-answer}

-- ---- any entry

same-map : {X Y : Type 0} (f g : X → Y) → ((x : X) → f x ≡ g x) → (xs : List X) → map f xs ≡ map g xs
same-map f g h [] = refl
same-map f g h (x ∷ xs) = let first = h x in let rest = same-map f g h xs in cc

or-false : (b : Bool) → (b || false) ≡ b
or-false true = refl
or-false false = refl

-- a heap that has what the entry makes, releases and writes
pub heap-push : (o : Opening) (es : List Entry) (e : Entry) (h k : HeapState) → HeapAfter o es h
    → k.opening ≡ h.opening → k.made ≡ h.made ++ made_by es e
    → k.released ≡ map (λ x. is_released x.number (es ++ e ∷ [])) k.made
    → ((l : Loc) → heap.written k l ≡ or_else (written l e.action) (heap.written h l)) → HeapAfter o (es ++ e ∷ []) k
heap-push o es e h k a begun m r w = record {
  begun = begun ∙ a.begun;
  objects =
      objects-push o es e ∙ ap (λ z. z ++ made_by es e) a.objects
      ∙ append_assoc h.opening.declared h.made (made_by es e)
      ∙ ap (λ z. h.opening.declared ++ z) (sym m) ∙ ap (λ (z : Opening). z.declared ++ k.made) (sym begun);
  released = r;
  written = λ l. w l ∙ ap (or_else (written l e.action)) (a.written l) ∙ sym (last_written-push l es e);
}

-- ---- entries that change nothing

-- an entry that makes, releases and writes nothing
pub record IsStill (es : List Entry) (e : Entry) : Type 0 where
  pub made : made_by es e ≡ []
  pub releases : (n : ℕ) → releases n e.action (led es e) e.reply ≡ false
  pub written : (l : Loc) → written l e.action ≡ None

still-flags : (es : List Entry) (e : Entry) (xs : List ObjectRef)
    → ((n : ℕ) → releases n e.action (led es e) e.reply ≡ false)
    → map (λ x. is_released x.number es) xs ≡ map (λ x. is_released x.number (es ++ e ∷ [])) xs
still-flags es e xs h =
    same-map (λ x. is_released x.number es) (λ x. is_released x.number (es ++ e ∷ []))
    (λ x. sym (released-push x.number es e ∙ ap (λ b. is_released x.number es || b) (h x.number)
    ∙ or-false (is_released x.number es))) xs

-- the heap stands as it is
pub still-push : (o : Opening) (es : List Entry) (e : Entry) (h : HeapState) → HeapAfter o es h → IsStill es e
    → HeapAfter o (es ++ e ∷ []) h
still-push o es e h a s =
    heap-push o es e h h a refl (sym (ap (λ z. h.made ++ z) s.made ∙ append-nil h.made))
    (a.released ∙ still-flags es e h.made s.releases)
    (λ l. sym (ap (λ z. or_else z (heap.written h l)) (s.written l)))

-- neither a write, an allocation, a free nor a collective call
abbrev pub is_quiet : Action → Bool
is_quiet (act.Write s l v) = false
is_quiet (act.Alloc n b h s) = false
is_quiet (act.Free p) = false
is_quiet (act.Meet c args) = false
is_quiet a = true

pub quiet-still : (es : List Entry) (t i : ℕ) (a : Action) (r : Reply) → is_quiet a ≡ true
    → IsStill es (entry_of t i a r)
quiet-still es t i (act.Write s l v) r h = absurd (false≢true h)
quiet-still es t i (act.Alloc n b m s) r h = absurd (false≢true h)
quiet-still es t i (act.Free p) r h = absurd (false≢true h)
quiet-still es t i (act.Meet c args) r h = absurd (false≢true h)
quiet-still es t i a r h = record {
  made = idle es (entry_of t i a r) (makes-none a (is_none (leader (length (meets t es)) es)) refl);
  releases = λ n. releases-none n a (is_none (leader (length (meets t es)) es)) r refl;
  written = λ l. refl;
}

-- an action that is no write
abbrev pub is_write : Action → Bool
is_write (act.Write s l v) = true
is_write a = false

written-none : (l : Loc) (a : Action) → is_write a ≡ false → written l a ≡ None
written-none l (act.Write s k v) h = absurd (false≢true (sym h))
written-none l a h = refl

-- a refused action, whichever it is
pub refused-still : (es : List Entry) (t i : ℕ) (a : Action) (code : ℕ) → is_write a ≡ false
    → IsStill es (entry_of t i a (Refused code))
refused-still es t i a code h = record {
  made = ungiven es (entry_of t i a (Refused code)) refl;
  releases = λ n. releases-other n a (led es (entry_of t i a (Refused code))) (Refused code) refl;
  written = λ l. written-none l a h;
}

-- a collective call that leads none
pub follow-still : (es : List Entry) (t i c : ℕ) (args : List Scalar) (r : Reply) (w : Lead)
    → leader (length (meets t es)) es ≡ Some w
    → IsStill es (entry_of t i (act.Meet c args) r)
follow-still es t i c args r w q =
    let e = entry_of t i (act.Meet c args) r in
    let none : led es e ≡ Other = ap (λ z. cond (is_none z) (call_of c args) Other) q in
    record {
      made = idle es e (ap (makes (act.Meet c args)) none);
      releases = λ n. ap (λ z. releases n (act.Meet c args) z r) none;
      written = λ l. refl;
    }

pub leads-call : (es : List Entry) (t i c : ℕ) (args : List Scalar) (r : Reply) (x : Call)
    → leader (length (meets t es)) es ≡ None
    → call_of c args ≡ x → led es (entry_of t i (act.Meet c args) r) ≡ x
leads-call es t i c args r x q k = ap (λ z. cond (is_none z) (call_of c args) Other) q ∙ k

-- a collective call of objects
abbrev pub is_heap_call : Call → Bool
is_heap_call (Allocates n b s) = true
is_heap_call (Frees p) = true
is_heap_call c = false

call-made : (c : ℕ) (args : List Scalar) (x : Call) → is_heap_call x ≡ false → makes (act.Meet c args) x ≡ false
call-made c args (Allocates n b s) h = absurd (false≢true (sym h))
call-made c args (Frees p) h = absurd (false≢true (sym h))
call-made c args x h = refl

call-releases : (n c : ℕ) (args : List Scalar) (x : Call) (r : Reply) → is_heap_call x ≡ false
    → releases n (act.Meet c args) x r ≡ false
call-releases n c args (Allocates m b s) r h = absurd (false≢true (sym h))
call-releases n c args (Frees p) r h = absurd (false≢true (sym h))
call-releases n c args x r h = refl

-- the first of a collective call that is not of objects
pub lead-still : (es : List Entry) (t i c : ℕ) (args : List Scalar) (r : Reply) → leader (length (meets t es)) es ≡ None
    → is_heap_call (call_of c args) ≡ false → IsStill es (entry_of t i (act.Meet c args) r)
lead-still es t i c args r q h =
    let e = entry_of t i (act.Meet c args) r in
    let own = leads-call es t i c args r (call_of c args) q refl in
    record {
      made = idle es e (ap (makes (act.Meet c args)) own ∙ call-made c args (call_of c args) h);
      releases = λ n. ap (λ z. releases n (act.Meet c args) z r) own ∙ call-releases n c args (call_of c args) r h;
      written = λ l. refl;
    }

-- the first of an upc_all_alloc of no bytes
pub lead_null-still : (es : List Entry) (t i c : ℕ) (args : List Scalar)
    → IsStill es (entry_of t i (act.Meet c args) (Value (Shared null)))
lead_null-still es t i c args =
    let e = entry_of t i (act.Meet c args) (Value (Shared null)) in
    record {
      made = ungiven es e refl;
      releases = λ n. releases-other n (act.Meet c args) (led es e) (Value (Shared null)) refl;
      written = λ l. refl;
    }

-- the first of an upc_all_free of null
pub lead_free_null-still : (es : List Entry) (t i c : ℕ) (args : List Scalar) (p : SharedPtr)
    → leader (length (meets t es)) es ≡ None
    → call_of c args ≡ Frees p → is_null p ≡ true → IsStill es (entry_of t i (act.Meet c args) Done)
lead_free_null-still es t i c args p q k z =
    let e = entry_of t i (act.Meet c args) Done in
    let own = leads-call es t i c args Done (Frees p) q k in
    record {
      made = idle es e (ap (makes (act.Meet c args)) own);
      releases = λ n. ap (λ y. releases n (act.Meet c args) y Done) own ∙ ap (λ b. not b && (p.object.number == n)) z;
      written = λ l. refl;
    }

-- ---- a write

or_else-saved : (b : Bool) (v : Scalar) (w : Option Scalar) → cond b (Some v) w ≡ or_else (cond b (Some v) None) w
or_else-saved true v w = refl
or_else-saved false v w = refl

pub write-push : (o : Opening) (es : List Entry) (t i : ℕ) (l : Loc) (v : Scalar) (s : Bool) (r : Reply)
    (h k : HeapState) → HeapAfter o es h
    → IsSaved h l v k → HeapAfter o (es ++ entry_of t i (act.Write s l v) r ∷ []) k
write-push o es t i l v s r h k a q =
    let e = entry_of t i (act.Write s l v) r in
    let none = idle es e (makes-none (act.Write s l v) (is_none (leader (length (meets t es)) es)) refl) in
    heap-push o es e h k a q.opening (q.made ∙ sym (ap (λ z. h.made ++ z) none ∙ append-nil h.made))
    (q.released ∙ a.released
    ∙ still-flags es e h.made
    (λ n. releases-none n (act.Write s l v) (is_none (leader (length (meets t es)) es)) r refl)
    ∙ ap (map (λ x. is_released x.number (es ++ e ∷ []))) (sym q.made))
    (λ n. q.written n ∙ or_else-saved (same_loc l n) v (heap.written h n))

-- ---- a new object

makes-unwritten : (l : Loc) (a : Action) → makes a (asked a) ≡ true → written l a ≡ None
makes-unwritten l (act.Write s k v) h = absurd (false≢true h)
makes-unwritten l a h = refl

-- an entry that makes a new object
pub make-push : (o : Opening) (es : List Entry) (e : Entry) (h : HeapState) → IsOpening o → IsLegal o es
    → AreWellFormed o es → HeapAfter o es h
    → (m : Makes o es e)
    → HeapAfter o (es ++ e ∷ []) (with_object (new_object h m.nblocks m.nbytes m.home m.shape).object h)
make-push o es e h v l f a m =
    let p = made o es m.nblocks m.nbytes m.home m.shape in
    let x = (new_object h m.nblocks m.nbytes m.home m.shape).object in
    let same : p.object ≡ x =
    ap (λ (z : SharedPtr). z.object) (made-answer o es h m.nblocks m.nbytes m.home m.shape a) in
    let flag : ObjectRef → Bool = λ y. is_released y.number (es ++ e ∷ []) in
    let still : (n : ℕ) → releases n e.action (led es e) e.reply ≡ false =
    λ n. ap (releases n e.action (led es e)) m.gives ∙ releases-other n e.action (led es e) (Value (Shared p)) refl in
    let fresh : flag x ≡ false =
    ap flag (sym same) ∙ released-push p.object.number es e
    ∙ or_from (is_released p.object.number es) (releases p.object.number e.action (led es e) e.reply)
    (unmade-unreleased o es v l f p.object.number (omega arith)) (still p.object.number) in
    heap-push o es e h (with_object x h) a refl
    (ap (λ z. h.made ++ z) (sym (makes-made o es e m ∙ ap (λ z. z ∷ []) same)))
    (ap (λ z. z ++ false ∷ []) (a.released ∙ still-flags es e h.made still)
    ∙ ap (λ b. map flag h.made ++ b ∷ []) (sym fresh) ∙ sym (map-append flag h.made (x ∷ [])))
    (λ n. sym (ap (λ z. or_else z (heap.written h n))
    (makes-unwritten n e.action (makes-asked e.action (is_none (leader (length (meets e.thread es)) es)) m.is))))

-- the reply of an allocation for which there is room
room-gives : (o : Opening) (es : List Entry) (h : HeapState) (n b : ℕ) (home : Option ℕ) (s : ℕ) (p : SharedPtr)
    → HeapAfter o es h
    → grow_answer h n b home s ≡ Value (Shared p)
    → (bytes_of (objects o es) + n * b ≤ 16777216) × (Value (Shared p) ≡ Value (Shared (made o es n b home s)))
    × (p ≡ new_object h n b home s)
room-gives o es h n b home s p a g =
    cond_both (nat_lt 16777216 (bytes_of (objects o es) + n * b)) (Refused SHARED_SPACE)
    (Value (Shared (made o es n b home s)))
    (λ z. z ≡ Value (Shared p) → (bytes_of (objects o es) + n * b ≤ 16777216)
    × (Value (Shared p) ≡ Value (Shared (made o es n b home s))) × (p ≡ new_object h n b home s))
    (λ t q. absurd cc)
    (λ t q.
    let same : made o es n b home s ≡ p = cc in
    (ltb-false 16777216 (bytes_of (objects o es) + n * b) t, sym q, sym same ∙ made-answer o es h n b home s a))
    (alloc-answer o es h n b home s a ∙ g)

-- an allocation that the heap answers by a pointer
pub alloc-push : (o : Opening) (es : List Entry) (t i n b : ℕ) (home : Option ℕ) (s : ℕ) (p : SharedPtr) (h : HeapState)
    → IsOpening o → IsLegal o es
    → AreWellFormed o es → HeapAfter o es h → IsWellFormed o es (act.Alloc n b home s)
    → grow_answer h n b home s ≡ Value (Shared p)
    → HeapAfter o (es ++ entry_of t i (act.Alloc n b home s) (Value (Shared p)) ∷ []) (with_object p.object h)
alloc-push o es t i n b home s p h v l f a w g =
    let q = and_parts (may_alloc o n b s) (is_home o.threads home) w in
    let e = entry_of t i (act.Alloc n b home s) (Value (Shared p)) in
    let given = room-gives o es h n b home s p a g in
    subst (λ (z : SharedPtr). HeapAfter o (es ++ e ∷ []) (with_object z.object h)) (sym given.2)
    (make-push o es e h v l f a
    (record {
      nblocks = n;
      nbytes = b;
      home = home;
      shape = s;
      may = q.0;
      at_home = q.1;
      room = given.0;
      gives = given.1;
      is = refl;
    }))

-- the first of the threads' upc_all_alloc that the heap answers by a pointer
pub lead_alloc-push : (o : Opening) (es : List Entry) (t i c : ℕ) (args : List Scalar) (n b s : ℕ) (p : SharedPtr)
    (h : HeapState) → IsOpening o
    → IsLegal o es → AreWellFormed o es → HeapAfter o es h → leader (length (meets t es)) es ≡ None
    → call_of c args ≡ Allocates n b s
    → may_alloc o n b s ≡ true → grow_answer h n b None s ≡ Value (Shared p)
    → HeapAfter o (es ++ entry_of t i (act.Meet c args) (Value (Shared p)) ∷ []) (with_object p.object h)
lead_alloc-push o es t i c args n b s p h v l f a q k w g =
    let e = entry_of t i (act.Meet c args) (Value (Shared p)) in
    let given = room-gives o es h n b None s p a g in
    let own = leads-call es t i c args (Value (Shared p)) (Allocates n b s) q k in
    subst (λ (z : SharedPtr). HeapAfter o (es ++ e ∷ []) (with_object z.object h)) (sym given.2)
    (make-push o es e h v l f a
    (record {
      nblocks = n;
      nbytes = b;
      home = None;
      shape = s;
      may = w;
      at_home = refl;
      room = given.0;
      gives = given.1;
      is = ap (makes (act.Meet c args)) own;
    }))

-- ---- a release

eqb-sym : (a b : ℕ) → (a == b) ≡ (b == a)
eqb-sym a b =
    both-true (a == b) (b == a) (λ h. eq-eqb b a (sym (eqb-true a b h))) (λ h. eq-eqb a b (sym (eqb-true b a h)))

or-swap : (a b : Bool) → (a || b) ≡ (b || a)
or-swap true true = refl
or-swap true false = refl
or-swap false true = refl
or-swap false false = refl

released-flags : (n : ℕ) (es : List Entry) (e : Entry) (xs : List ObjectRef)
    → ((m : ℕ) → releases m e.action (led es e) e.reply ≡ (n == m))
    → with_released n xs (map (λ x. is_released x.number es) xs) ≡ map (λ x. is_released x.number (es ++ e ∷ [])) xs
released-flags n es e [] h = refl
released-flags n es e (x ∷ xs) h =
    let first : ((x.number == n) || is_released x.number es) ≡ is_released x.number (es ++ e ∷ []) =
    or-swap (x.number == n) (is_released x.number es)
    ∙ ap (λ b. is_released x.number es || b) (eqb-sym x.number n ∙ sym (h x.number))
    ∙ sym (released-push x.number es e) in
    let rest = released-flags n es e xs h in
    cc

-- an entry that releases the object of a number, and nothing else
pub release-push : (o : Opening) (es : List Entry) (e : Entry) (n : ℕ) (h : HeapState) → HeapAfter o es h
    → made_by es e ≡ [] → ((m : ℕ) → releases m e.action (led es e) e.reply ≡ (n == m))
    → ((l : Loc) → written l e.action ≡ None)
    → HeapAfter o (es ++ e ∷ []) (without_object n h)
release-push o es e n h a none frees unwritten =
    heap-push o es e h (without_object n h) a refl (sym (ap (λ z. h.made ++ z) none ∙ append-nil h.made))
    (ap (with_released n h.made) a.released ∙ released-flags n es e h.made frees)
    (λ l. sym (ap (λ z. or_else z (heap.written h l)) (unwritten l)))

pub free-push : (o : Opening) (es : List Entry) (t i : ℕ) (p : SharedPtr) (h : HeapState) → HeapAfter o es h
    → HeapAfter o (es ++ entry_of t i (act.Free p) Done ∷ []) (without_object p.object.number h)
free-push o es t i p h a =
    let e = entry_of t i (act.Free p) Done in
    release-push o es e p.object.number h a
    (idle es e (makes-none (act.Free p) (is_none (leader (length (meets t es)) es)) refl)) (λ n. refl) (λ l. refl)

pub lead_free-push : (o : Opening) (es : List Entry) (t i c : ℕ) (args : List Scalar) (p : SharedPtr) (h : HeapState)
    → HeapAfter o es h
    → leader (length (meets t es)) es ≡ None → call_of c args ≡ Frees p → is_null p ≡ false
    → HeapAfter o (es ++ entry_of t i (act.Meet c args) Done ∷ []) (without_object p.object.number h)
lead_free-push o es t i c args p h a q x some =
    let e = entry_of t i (act.Meet c args) Done in
    let own = leads-call es t i c args Done (Frees p) q x in
    release-push o es e p.object.number h a (idle es e (ap (makes (act.Meet c args)) own))
    (λ n. ap (λ z. releases n (act.Meet c args) z Done) own ∙ ap (λ b. not b && (p.object.number == n)) some)
    (λ l. refl)

-- ---- the empty history

pub heap-none : (o : Opening) → HeapAfter o [] (record { opening = o; made = []; released = []; cells = [] })
heap-none o = record { begun = refl; objects = refl; released = refl; written = λ l. refl }
