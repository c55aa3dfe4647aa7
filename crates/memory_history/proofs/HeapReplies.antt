-- The replies that speak of objects and cells are what the heap after the history answers.
use Rattle.std.proofs.Common.{◌≡◌, ◌==◌, ℕ, ◌+◌, ◌*◌, nat_lt, Bool, true, false, ◌&&◌, ◌||◌, cond, List, ◌++◌, length, map, Option, Some, None, is_some, slice_get, refl, sym, ap, subst, ◌∙◌}
use Rattle.std.proofs.lemmas.Bool.{and_parts}
use Rattle.std.proofs.lemmas.List.{append_cancel_left}
use Rattle.block_layout.specs.declared.place.Loc.{Loc}
use Rattle.block_layout.specs.declared.place.ObjectRef.{ObjectRef}
use Rattle.block_layout.specs.declared.place.SharedPtr.{SharedPtr}
use Rattle.block_layout.specs.declared.run_error.TheConstants.{BAD_FREE, SHARED_SPACE}
use Rattle.block_layout.specs.Pointers.{null, is_null}
use Rattle.upc_values.specs.declared.scalar.Scalar.{Scalar}
use Rattle.upc_values.specs.declared.scalar.Scalar.TheVariants.{Shared}
use Rattle.upc_values.specs.declared.action.Action.TheVariants as act
use Rattle.upc_values.specs.declared.action.Reply.TheVariants.{Done, Value, Refused}
use Rattle.upc_values.specs.declared.journal.Entry.{Entry}
use Rattle.upc_values.specs.Shapes.{fits_cell}
use Rattle.upc_values.specs.Calls.{Allocates, Frees, call_of}
use Rattle.upc_values.specs.Drain.{or_else}
use Rattle.upc_values.specs.Openings.{Opening, IsOpening, bytes_of, cell_of, is_named, initial_of}
use Rattle.upc_values.specs.History.{objects, made, alloc_reply, is_released, free_reply, led_reply, held, value_reply, reply, IsLegal}
use Rattle.upc_values.specs.Formed.{knows, is_known, is_home, may_alloc, may_call, may_ask, IsWellFormed, AreWellFormed}
use Rattle.shared_heap.specs.layer.Heap.{HeapState, all_objects, cell_at, written, content, start_of, new_object, grow_answer, is_live_start, release_answer}
use Rattle.memory_history.specs.code.HeapAfter.{HeapAfter}
use Rattle.memory_history.proofs.Objects.{made_in}
use Rattle.shared_heap.proofs.Placed.{with_objects}
use Rattle.memory_history.proofs.Placed.{objects-opening}
use Rattle.memory_history.proofs.Starts.{allocated-live}

-- ---- objects and cells

-- the heap's objects after the declared ones are those that the history made
pub made-same : (o : Opening) (es : List Entry) (h : HeapState) → HeapAfter o es h → made_in es ≡ h.made
made-same o es h a =
    append_cancel_left o.declared (made_in es) h.made
    (a.objects ∙ ap (λ (z : Opening). z.declared ++ h.made) a.begun)

-- what is asked of objects is asked of the heap's
pub over-objects : {X : Type 0} (f : Opening → List ObjectRef → X) (o : Opening) (es : List Entry) (h : HeapState)
    → HeapAfter o es h
    → f o (objects o es) ≡ f h.opening (all_objects h)
over-objects f o es h a = ap (f o) a.objects ∙ ap (λ z. f z (all_objects h)) (sym a.begun)

pub cell-answer : (o : Opening) (es : List Entry) (h : HeapState) (l : Loc) → HeapAfter o es h
    → cell_of o (objects o es) l ≡ cell_at h l
cell-answer o es h l a = over-objects (λ p xs. cell_of p xs l) o es h a

pub knows-answer : (o : Opening) (es : List Entry) (h : HeapState) (p : SharedPtr) → HeapAfter o es h
    → knows o es p ≡ is_named h.opening.threads (all_objects h) p
knows-answer o es h p a = over-objects (λ q xs. is_named q.threads xs p) o es h a

-- the heap's objects could all have been declared
pub all-declared : (o : Opening) (es : List Entry) (h : HeapState) → IsOpening o → IsLegal o es → AreWellFormed o es
    → HeapAfter o es h
    → IsOpening (with_objects h.opening (all_objects h))
all-declared o es h v l f a =
    subst (λ z. IsOpening z) (over-objects (λ p xs. with_objects p xs) o es h a) (objects-opening o es v l f)

-- ---- what may be asked for

pub may_read-answer : (o : Opening) (es : List Entry) (h : HeapState) (l : Loc) (s : Bool) → HeapAfter o es h
    → may_ask o es (act.Read l s) ≡ is_some (cell_at h l)
may_read-answer o es h l s a = ap is_some (cell-answer o es h l a)

pub may_write-answer : (o : Opening) (es : List Entry) (h : HeapState) (l : Loc) (v : Scalar) (s : Bool)
    → HeapAfter o es h
    → may_ask o es (act.Write s l v) ≡ (fits_cell v (cell_at h l) && is_known o es v)
may_write-answer o es h l v s a = ap (λ k. fits_cell v k && is_known o es v) (cell-answer o es h l a)

pub may_free-answer : (o : Opening) (es : List Entry) (h : HeapState) (p : SharedPtr) → HeapAfter o es h
    → may_ask o es (act.Free p) ≡ is_named h.opening.threads (all_objects h) p
may_free-answer o es h p a = knows-answer o es h p a

pub may_alloc-answer : (o : Opening) (es : List Entry) (h : HeapState) (n b : ℕ) (home : Option ℕ) (s : ℕ)
    → HeapAfter o es h
    → may_ask o es (act.Alloc n b home s) ≡ (may_alloc h.opening n b s && is_home h.opening.threads home)
may_alloc-answer o es h n b home s a = ap (λ (z : Opening). may_alloc z n b s && is_home z.threads home) (sym a.begun)

-- what a well-formed action asks of the heap may be asked of it
pub may_load : (o : Opening) (es : List Entry) (h : HeapState) (l : Loc) (s : Bool) → HeapAfter o es h
    → IsWellFormed o es (act.Read l s) → is_some (cell_at h l) ≡ true
may_load o es h l s a f = sym (may_read-answer o es h l s a) ∙ f

pub may_grow : (o : Opening) (es : List Entry) (h : HeapState) (n b : ℕ) (home : Option ℕ) (s : ℕ) → HeapAfter o es h
    → IsWellFormed o es (act.Alloc n b home s)
    → (may_alloc h.opening n b s ≡ true) × (is_home h.opening.threads home ≡ true)
may_grow o es h n b home s a f =
    let p = and_parts (may_alloc h.opening n b s) (is_home h.opening.threads home)
    (sym (may_alloc-answer o es h n b home s a) ∙ f) in
    (p.0, p.1)

-- the first of the threads' upc_all_alloc of some bytes
pub may_lead_alloc : (o : Opening) (es : List Entry) (c : ℕ) (args : List Scalar) (n b s : ℕ)
    → IsWellFormed o es (act.Meet c args) → call_of c args ≡ Allocates n b s → (n * b == 0) ≡ false
    → may_alloc o n b s ≡ true
may_lead_alloc o es c args n b s f q some =
    let may : may_call o es (Allocates n b s) ≡ true = subst (λ z. may_call o es z ≡ true) q f in
    sym (ap (λ z. z || may_alloc o n b s) some)
    ∙ (and_parts (is_some (slice_get o.shapes s)) ((n * b == 0) || may_alloc o n b s) may).1

pub may_lead_grow : (o : Opening) (es : List Entry) (h : HeapState) (n b s : ℕ) → HeapAfter o es h
    → may_alloc o n b s ≡ true → (may_alloc h.opening n b s ≡ true) × (is_home h.opening.threads None ≡ true)
may_lead_grow o es h n b s a f = (ap (λ z. may_alloc z n b s) a.begun ∙ f, refl)

-- ---- reads

pub held-answer : (o : Opening) (es : List Entry) (h : HeapState) (l : Loc) → HeapAfter o es h
    → held o es l ≡ content h l
held-answer o es h l a =
    ap (λ z. or_else z (initial_of o (objects o es) l)) (sym (a.written l))
    ∙ ap (or_else (written h l)) (over-objects (λ p xs. initial_of p xs l) o es h a)

-- a read gives what its location holds
pub read-answer : (o : Opening) (es : List Entry) (h : HeapState) (t : ℕ) (l : Loc) (s : Bool) (v : Scalar)
    → HeapAfter o es h
    → Some v ≡ content h l → reply o es t (act.Read l s) ≡ Some (Value v)
read-answer o es h t l s v a e = ap value_reply (held-answer o es h l a ∙ sym e)

-- ---- allocations

pub made-answer : (o : Opening) (es : List Entry) (h : HeapState) (n b : ℕ) (home : Option ℕ) (s : ℕ) → HeapAfter o es h
    → made o es n b home s ≡ new_object h n b home s
made-answer o es h n b home s a =
    ap (λ xs. start_of
    (record {
      number = length xs + 1;
      total = n * b;
      block = cond (is_some home) 0 b;
      home = elim home [ Some t ↦ t | None ↦ 0 ];
      shape = s;
      base = bytes_of xs;
    })) a.objects

pub alloc-answer : (o : Opening) (es : List Entry) (h : HeapState) (n b : ℕ) (home : Option ℕ) (s : ℕ)
    → HeapAfter o es h
    → alloc_reply o es n b home s ≡ grow_answer h n b home s
alloc-answer o es h n b home s a =
    ap (λ xs. cond (nat_lt 16777216 (bytes_of xs + n * b)) (Refused SHARED_SPACE)
    (Value (Shared (made o es n b home s)))) a.objects
    ∙ ap (λ p. cond (nat_lt 16777216 (bytes_of (all_objects h) + n * b)) (Refused SHARED_SPACE) (Value (Shared p)))
    (made-answer o es h n b home s a)

pub alloc-reply : (o : Opening) (es : List Entry) (h : HeapState) (t n b : ℕ) (home : Option ℕ) (s : ℕ)
    → HeapAfter o es h → reply o es t (act.Alloc n b home s) ≡ Some (grow_answer h n b home s)
alloc-reply o es h t n b home s a = ap Some (alloc-answer o es h n b home s a)

-- the first of the threads' upc_all_alloc: null for no bytes, else as an allocation
pub led_alloc-answer : (o : Opening) (es : List Entry) (h : HeapState) (n b s : ℕ) → HeapAfter o es h
    → led_reply o es (Allocates n b s) ≡ cond (n * b == 0) (Value (Shared null)) (grow_answer h n b None s)
led_alloc-answer o es h n b s a = ap (cond (n * b == 0) (Value (Shared null))) (alloc-answer o es h n b None s a)

-- ---- frees

-- the flags of the heap are those of the objects that the history made
pub live-answer : (o : Opening) (es : List Entry) (h : HeapState) (p : SharedPtr) → HeapAfter o es h
    → is_live_start p (made_in es) (map (λ x. is_released x.number es) (made_in es)) ≡ is_live_start p h.made h.released
live-answer o es h p a =
    ap (λ xs. is_live_start p xs (map (λ x. is_released x.number es) xs)) (made-same o es h a)
    ∙ ap (is_live_start p h.made) (sym a.released)

pub free-answer : (o : Opening) (es : List Entry) (h : HeapState) (p : SharedPtr) → IsLegal o es → AreWellFormed o es
    → HeapAfter o es h
    → free_reply es p ≡ release_answer p h
free-answer o es h p l f a =
    ap (λ b. cond b Done (Refused BAD_FREE)) (allocated-live o es p l f ∙ live-answer o es h p a)

pub free-reply : (o : Opening) (es : List Entry) (h : HeapState) (t : ℕ) (p : SharedPtr) → IsLegal o es
    → AreWellFormed o es → HeapAfter o es h → reply o es t (act.Free p) ≡ Some (release_answer p h)
free-reply o es h t p l f a = ap Some (free-answer o es h p l f a)

-- the first of the threads' upc_all_free: Done for null, else as a free
pub led_free-answer : (o : Opening) (es : List Entry) (h : HeapState) (p : SharedPtr) → IsLegal o es
    → AreWellFormed o es → HeapAfter o es h
    → led_reply o es (Frees p) ≡ cond (is_null p) Done (release_answer p h)
led_free-answer o es h p l f a = ap (cond (is_null p) Done) (free-answer o es h p l f a)
