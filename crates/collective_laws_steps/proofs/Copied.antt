-- The calls that copy leave their value: broadcast, scatter, gather, gather_all and exchange.
use Rattle.std.proofs.Common.{◌≡◌, ℕ, zero, suc, ◌<◌, ◌==◌, List, inl, inr, refl, sym, subst, arith}
use Rattle.std.specs.Prelude.{ℤ}
use Rattle.std.proofs.lemmas.Bool.{cond-false, ne_eqb}
use Rattle.block_layout.specs.declared.place.SharedPtr.{SharedPtr}
use Rattle.block_layout.specs.declared.kind.Shape.{Shape}
use Rattle.upc_values.specs.Calls.{Way}
use Rattle.upc_values.specs.Calls.Call.{Copies}
use Rattle.upc_values.specs.Expansion.{Expansion, nothing}
use Rattle.upc_values.specs.Expansions.{Part, parts, some_bytes, move}
use Rattle.upc_values.specs.Views.{destination, source, byte_at, from_phase_0}
use Rattle.upc_values.specs.Collective.{Holding, AreCopied, source_byte}
use Rattle.collective_laws_words.specs.layer.Steps.{Step, Performs}
use Rattle.collective_laws_words.specs.layer.Interface.{AreDone}
use Rattle.collective_laws_steps.proofs.Rows.{IsBehind, byte_behind, one_element}
use Rattle.collective_laws_steps.proofs.Performing.{is_of_same}
use Rattle.collective_laws_steps.proofs.Moving.{IsPart, AreLaid, AllCopy, thread_copies, values_move}
use Rattle.collective_laws_steps.proofs.Ways.{fits_all, numbered, no_bytes, part_at, parts_from, parts_have, part_into}
use Rattle.collective_laws_steps.proofs.Ways.{part_from}

-- Work that is done where there is at least one byte is done where there is one.
pub some_performs : (threads : ℕ) (shapes : List Shape) (me n : ℕ) (e : Expansion (Unit {0})) (did : List Step) → 0 < n
    → Performs (some_bytes threads shapes me n e) did tt → Performs e did tt
some_performs threads shapes me n e did lt h =
    subst (λ (x : Expansion (Unit {0})). Performs x did tt)
    (cond-false (n == 0) nothing e (ne_eqb n 0 (omega arith))) h

-- A byte of a view lies in the object of its pointer.
pub object_of_byte : (p : SharedPtr) (b T x : ℕ) → (byte_at p b T x).object ≡ p.object
object_of_byte p zero T x = refl
object_of_byte p (suc c) T x = refl

module _ (threads : ℕ) (shapes : List Shape) (w : Way) (dst src : SharedPtr) (n : ℕ) where
  -- Byte x of the destination, and the byte of the source that goes there.
  abbrev pub byte_into : ℕ → SharedPtr
  byte_into x = byte_at dst (destination w threads n).block threads x

  abbrev pub byte_from : ℕ → SharedPtr
  byte_from x = byte_at src (source w threads n).block threads (source_byte w threads n x)

  abbrev parts_of : ℕ → List Part
  parts_of t = parts threads shapes t w dst src n

  abbrev bytes : ℕ
  bytes = (destination w threads n).bytes

  part_is : (t i : ℕ) → t < threads → i < threads
      → IsPart threads shapes n bytes byte_into byte_from parts_of (part_at threads shapes t w dst src n i)
  part_is t i ht hi =
      let x = part_into w threads n t i in
      let y = part_from w threads n t i in
      let f = fits_all w threads n t i ht hi in
      record {
        first = x;
        fits = f.fits;
        into_goes = λ r lt. byte_behind dst (destination w threads n).block threads x r (omega arith)
            (f.into_block r lt);
        from_goes = λ r lt.
            subst (λ z. IsBehind (byte_at src (source w threads n).block threads y)
            (byte_at src (source w threads n).block threads z) r)
            (sym (f.source_is r lt))
            (byte_behind src (source w threads n).block threads y r (omega arith) (f.from_block r lt));
      }

  laid : 0 < threads → 0 < n → dst.thread < threads → AreLaid threads shapes n bytes byte_into byte_from parts_of
  unfolding part_is
  laid some many home = record {
    each = λ t lt x m.
        let i = parts_from threads shapes t dst src n w x some m in
        subst (IsPart threads shapes n bytes byte_into byte_from parts_of) i.is (part_is t i.index lt i.below);
    covered = λ x lt.
        let q = numbered w threads n dst.thread x many home lt in
        record {
          thread = q.thread;
          below = q.thread_below;
          part = part_at threads shapes q.thread w dst src n q.index;
          has = parts_have threads shapes q.thread dst src n w q.index q.index_below q.at_home;
          is = part_is q.thread q.index q.thread_below q.index_below;
          rest = q.rest;
          less = q.less;
          sum = q.sum;
        };
    one = λ x y h k e.
        one_element (from_phase_0 dst) (destination w threads n).block 1 threads x y (omega arith) some h k e;
  }

  module _ (f : ℤ) (before after : Holding) where
    all_copy : (a : AreDone threads shapes (Copies w dst src n f) before after) → 0 < n
        → AllCopy threads shapes n bytes byte_into byte_from parts_of before after a.dids
    all_copy a many = record {
      laid = laid a.some many a.formed.0.thread;
      copies = λ t lt.
          thread_copies threads shapes n bytes byte_into byte_from parts_of t (a.dids t) (a.dids t)
          (some_performs threads shapes t n (move threads shapes t n (parts_of t)) (a.dids t) many (a.performs t lt))
          (is_of_same (a.dids t)) (λ l v h. h);
      reads = a.reads;
      writes = a.writes;
      into_empty = λ x e.
          (a.empty dst (byte_into x) (inl refl) (object_of_byte dst (destination w threads n).block threads x) e).1;
      from_empty = λ x e.
          (a.empty src (byte_from x) (inr (inl refl))
          (object_of_byte src (source w threads n).block threads (source_byte w threads n x)) e).0;
    }

-- Each byte of the destination holds what its byte of the source held.
pub copies_hold : (threads : ℕ) (shapes : List Shape) (w : Way) (dst src : SharedPtr) (n : ℕ) (f : ℤ)
    → (before after : Holding) → AreDone threads shapes (Copies w dst src n f) before after
    → AreCopied threads w dst src n before after
copies_hold threads shapes w dst src zero f before after a x lt = absurd (no_bytes w threads x lt)
copies_hold threads shapes w dst src (suc m) f before after a x lt =
    values_move threads shapes (suc m) (destination w threads (suc m)).bytes
    (byte_into threads shapes w dst src (suc m)) (byte_from threads shapes w dst src (suc m))
    (λ t. parts threads shapes t w dst src (suc m)) before after a.dids
    (all_copy threads shapes w dst src (suc m) f before after a (omega arith)) x lt
