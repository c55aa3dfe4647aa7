-- The objects of a legal history stand as declared ones do: numbered, of whole elements, each after those before it.
use Rattle.std.proofs.Common.{◌≡◌, ℕ, ◌+◌, ◌*◌, ◌<◌, ◌≤◌, true, List, [], ◌∷◌, ◌++◌, length, Option}
use Rattle.std.proofs.Common.{sym, ap, subst, ◌∙◌, inl, inr, append-nil}
use Rattle.block_layout.specs.declared.place.ObjectRef.{ObjectRef}
use Rattle.upc_values.specs.declared.journal.Entry.{Entry}
use Rattle.upc_values.specs.Openings.{Opening, IsOpening, IsDeclared, bytes_of}
use Rattle.upc_values.specs.History.{objects, made, IsLegal}
use Rattle.upc_values.specs.Formed.{is_home, may_alloc, AreWellFormed}
use Rattle.shared_heap.specs.layer.Heap.{HeapState}
use Rattle.shared_heap.proofs.Placed.{with_objects}
use Rattle.shared_heap.proofs.Placed as heaps
use Rattle.memory_history.proofs.Entries.{Keeps, by_entries}
use Rattle.memory_history.proofs.Growing.{objects-push}
use Rattle.memory_history.proofs.Objects.{Makes, makes-made, made-cases}

-- a new object after the objects xs
pub record IsNext (o : Opening) (xs : List ObjectRef) (x : ObjectRef) : Type 0 where
  pub placed : IsDeclared (with_objects o xs) (length xs) x
  pub room : bytes_of xs + x.total ≤ 16777216

-- an opening with one more object
next-opening : (o : Opening) (xs : List ObjectRef) (x : ObjectRef) → IsOpening (with_objects o xs) → IsNext o xs x
    → IsOpening (with_objects o (xs ++ x ∷ []))
next-opening o xs x v n = heaps.next-opening o xs x v n.placed n.room

-- a heap of an opening, where these objects are made
abbrev heap : Opening → List ObjectRef → HeapState
heap o xs = record { opening = with_objects o []; made = xs; released = []; cells = [] }

pub new-next : (o : Opening) (es : List Entry) (n b : ℕ) (h : Option ℕ) (s : ℕ) → 0 < o.threads
    → may_alloc o n b s ≡ true → is_home o.threads h ≡ true
    → bytes_of (objects o es) + n * b ≤ 16777216 → IsNext o (objects o es) (made o es n b h s).object
new-next o es n b h s threads may home room =
    let next = heaps.new-next (heap o (objects o es)) n b h s threads may home room in
    record { placed = next.placed; room = next.room }

-- ---- all objects

-- what an entry makes stands so
pub makes-next : (o : Opening) (es : List Entry) (e : Entry) → 0 < o.threads → (m : Makes o es e)
    → IsNext o (objects o es) (made o es m.nblocks m.nbytes m.home m.shape).object
makes-next o es e threads m = new-next o es m.nblocks m.nbytes m.home m.shape threads m.may m.at_home m.room

opening-keeps : (o : Opening) → Keeps o (λ es. IsOpening (with_objects o (objects o es)))
opening-keeps o es e l f w r v =
    elim (made-cases o es e.thread e.index e.action e.reply w r) [
      | inl none ↦
          subst (λ z. IsOpening (with_objects o z))
          (sym (objects-push o es e ∙ ap (λ z. objects o es ++ z) none ∙ append-nil (objects o es))) v
      | inr m ↦
          subst (λ z. IsOpening (with_objects o z))
          (sym (objects-push o es e ∙ ap (λ z. objects o es ++ z) (makes-made o es e m)))
          (next-opening o (objects o es) (made o es m.nblocks m.nbytes m.home m.shape).object v
          (makes-next o es e v.least m))
    ]

-- the objects of a legal history could all have been declared
pub objects-opening : (o : Opening) (es : List Entry) → IsOpening o → IsLegal o es → AreWellFormed o es
    → IsOpening (with_objects o (objects o es))
objects-opening o es v l f =
    by_entries o (λ z. IsOpening (with_objects o (objects o z)))
    (subst (λ z. IsOpening (with_objects o z)) (sym (append-nil o.declared)) v) (opening-keeps o) es l f
