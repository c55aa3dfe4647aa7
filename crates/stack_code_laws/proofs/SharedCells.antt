-- The cell that a known pointer reaches is a cell of its object among those given.
use Rattle.std.proofs.Common.{◌≡◌, ℕ, zero, suc, ◌+◌, ◌%◌, ◌<◌, ◌≤◌, ◌==◌, nat_lt, Bool, true, false, not, ◌&&◌}
use Rattle.std.proofs.Common.{cond}
use Rattle.std.proofs.Common.{List, [], ◌∷◌, Option, Some, None, slice_get, refl, sym, ap, subst, ◌∙◌, arith, int_le}
use Rattle.std.proofs.Common.{if◌then◌else◌, lt-ltb}
use Rattle.std.proofs.Math.IntN.{ℤ, pos, negsuc, ◌+ℤ◌}
use Rattle.std.specs.Prelude.{Ok, Err, unsigned_abs}
use Rattle.std.specs.List.{list_any}
use Rattle.std.proofs.lemmas.Int.{ints}
use Rattle.std.proofs.lemmas.Bool.{and_parts, cond-true, false≢true, ltb-true}
use Rattle.block_layout.specs.declared.kind.Kind.{Kind}
use Rattle.block_layout.specs.declared.kind.Kind.TheVariants as kind
use Rattle.block_layout.specs.declared.kind.Shape.{Shape}
use Rattle.block_layout.specs.declared.place.Loc.{Loc}
use Rattle.block_layout.specs.declared.place.ObjectRef.{ObjectRef}
use Rattle.block_layout.specs.declared.place.SharedPtr.{SharedPtr}
use Rattle.block_layout.specs.declared.run_error.TheConstants.{NULL_ACCESS, OUT_OF_OBJECT, CELL_TYPE}
use Rattle.block_layout.specs.Floor.{floor_mod}
use Rattle.block_layout.specs.Pieces.{piece_of}
use Rattle.block_layout.specs.Places.{in_range}
use Rattle.block_layout.specs.Pointers.{is_null, same_object, location}
use Rattle.block_layout.specs.Shapes.{kind_size, has_cell, IsShape}
use Rattle.block_layout.proofs.Found.{cell_found}
use Rattle.upc_values.specs.declared.scalar.Scalar.{Scalar}
use Rattle.upc_values.specs.declared.action.Reply.{Reply}
use Rattle.block_layout.specs.Lists.{under}
use Rattle.upc_values.specs.Lists.{Each}
use Rattle.upc_values.specs.Shapes.{kind_at, cell_in, fits_kind, blank}
use Rattle.block_layout.specs.Cells.{is_private}
use Rattle.upc_values.specs.Openings.{Opening, IsSharable}
use Rattle.upc_values.specs.Views.{leaves_piece, shape_at, location_behind}
use Rattle.shared_pointers.specs.Access.{cell_at, in_piece}
use Rattle.shared_pointers.specs.layer.Parts.{byte_of_element}
use Rattle.private_store.proofs.Places.{some_bytes}
use Rattle.thread_steps.specs.Accesses.{cell}
use Rattle.thread_steps.specs.layer.Parts.{shape_or_byte}
use Rattle.thread_steps.specs.Values.{kept_scalar}
use Rattle.stack_code_laws.specs.code.Names.{objects_given}
use Rattle.stack_code_laws.proofs.Given.{IsGround, names, knows, IsCellThere}
use Rattle.stack_code_laws.proofs.KnownValues.{runner, pointer_names}

abbrev Cells : Type 0
Cells = List (ℕ × Kind)

listed : {X : Type 0} (P : X → Type 0) (xs : List X) (i : ℕ) (x : X) → Each P xs → slice_get xs i ≡ Some x → P x
listed P [] i x h e = absurd cc
listed P (y ∷ xs) zero x h e = let same : y ≡ x = cc in subst P same h.0
listed P (y ∷ xs) (suc i) x h e = listed P xs i x h.1 e

-- ---- places

abbrev lies_in : ℤ → (width piece : ℕ) → Bool
lies_in z width piece = int_le (pos 0) z && int_le (z +ℤ pos width) (pos piece)

begins_in : (z : ℤ) (width piece : ℕ) → 1 ≤ width → lies_in z width piece ≡ true
    → nat_lt (unsigned_abs z) piece ≡ true
begins_in (pos n) width piece some h =
    let p = and_parts (int_le (pos 0) (pos n)) (int_le (pos n +ℤ pos width) (pos piece)) h in
    let lt : n < piece = omega (arith, ints, p.1) in
    lt-ltb n piece lt
begins_in (negsuc n) width piece some h = absurd (false≢true h)

byte_is : (z : ℤ) (width piece size : ℕ) → lies_in z width piece ≡ true → floor_mod z size ≡ unsigned_abs z % size
byte_is (pos n) width piece size h = refl
byte_is (negsuc n) width piece size h = absurd (false≢true h)

lies_before : (z : ℤ) (width piece i : ℕ) → lies_in z width piece ≡ true → i < width
    → nat_lt (unsigned_abs z + i) piece ≡ true
lies_before (pos n) width piece i h lt =
    let p = and_parts (int_le (pos 0) (pos n)) (int_le (pos n +ℤ pos width) (pos piece)) h in
    let below : n + i < piece = omega (arith, ints, p.1) in
    lt-ltb (n + i) piece below
lies_before (negsuc n) width piece i h lt = absurd (false≢true h)

pub not_false : (b : Bool) → not b ≡ false → b ≡ true
not_false true h = refl
not_false false h = absurd (false≢true (sym h))

-- ---- what a pointer reaches

-- The tests that an access has passed.
record Passes (p : SharedPtr) (s : Shape) (k : Kind) (threads : ℕ) (l : Loc) : Type 0 where
  some : is_null p ≡ false
  piece : in_piece p (kind_size k) threads ≡ true
  cell_there : has_cell s.cells (byte_of_element p s) k ≡ true
  is : location p ≡ l

passed : (p : SharedPtr) (s : Shape) (k : Kind) (threads : ℕ) (l : Loc) → cell_at p s k threads ≡ Ok l
    → Passes p s k threads l
passed p s k threads l e =
    by_tests (is_null p) refl (in_piece p (kind_size k) threads) refl (has_cell s.cells (byte_of_element p s) k) refl e
  where
    by_tests : (a : Bool) → is_null p ≡ a → (b : Bool) → in_piece p (kind_size k) threads ≡ b
        → (c : Bool) → has_cell s.cells (byte_of_element p s) k ≡ c
        → (if a then Err NULL_ACCESS
        else if b then (if c then Ok (location p) else Err CELL_TYPE) else Err OUT_OF_OBJECT)
        ≡ Ok l
        → Passes p s k threads l
    by_tests true x b y c z e = absurd cc
    by_tests false x false y c z e = absurd cc
    by_tests false x true y false z e = absurd cc
    by_tests false x true y true z e = record { some = x; piece = y; cell_there = z; is = cc }

module _ (o : Opening) (past : List Reply) (v : IsGround o) where
  reached_kind : (p : SharedPtr) (k : Kind) (l : Loc) (s : Option Shape) → slice_get o.shapes p.object.shape ≡ s
      → Passes p (shape_or_byte s) k o.threads l → cell_in o.threads o.shapes (Some p.object) (location p) ≡ Some k
  reached_kind p k l None q t = absurd (false≢true t.cell_there)
  reached_kind p k l (Some s) q t =
      let piece = piece_of p.object p.thread o.threads in
      let shape = listed IsShape o.shapes p.object.shape s v.shapes q in
      let byte = byte_is p.offset (kind_size k) piece s.size t.piece in
      cond-true (nat_lt (unsigned_abs p.offset) piece)
      (kind_at (slice_get o.shapes p.object.shape) (unsigned_abs p.offset)) None
      (begins_in p.offset (kind_size k) piece (some_bytes k) t.piece)
      ∙ ap (λ x. kind_at x (unsigned_abs p.offset)) q
      ∙ cell_found s.cells 0 s.size (unsigned_abs p.offset % s.size) k shape.1
      (subst (λ n. has_cell s.cells n k ≡ true) byte t.cell_there)

  -- The object of a named place is one of those given.
  named_object : (object : ObjectRef) (thread : ℕ) (offset : ℤ) → names o past object thread offset ≡ true
      → list_any (same_object object) (objects_given o.declared past) ≡ true
  named_object object thread offset h =
      (and_parts (list_any (same_object object) (objects_given o.declared past))
      (nat_lt thread o.threads && in_range offset) h).0

  -- Its thread is one of the run's.
  named_thread : (object : ObjectRef) (thread : ℕ) (offset : ℤ) → names o past object thread offset ≡ true
      → thread < o.threads
  named_thread object thread offset h =
      ltb-true thread o.threads
      (and_parts (nat_lt thread o.threads) (in_range offset)
      (and_parts (list_any (same_object object) (objects_given o.declared past))
      (nat_lt thread o.threads && in_range offset) h).1).0

  -- The cell of a kind that a known pointer reaches is a cell of that kind among the given objects.
  pub reached_cell : (number budget : ℕ) (p : SharedPtr) (k : Kind) (l : Loc) → knows o past p ≡ true
      → cell (runner o number budget) k p ≡ Ok l → IsCellThere o past l k
  reached_cell number budget p k l h e =
      let s = slice_get o.shapes p.object.shape in
      let t = passed p (shape_or_byte s) k o.threads l e in
      let named = pointer_names o past p h t.some in
      subst (λ x. IsCellThere o past x k) t.is
      (record {
        object = p.object;
        among = named_object p.object p.thread p.offset named;
        number = refl;
        thread = named_thread p.object p.thread p.offset named;
        cell = reached_kind p k l s refl t;
      })

  -- The cell of a kind that begins among the bytes from a pointer on is a cell of that kind among the given objects.
  pub cell_behind : (p : SharedPtr) (n i : ℕ) (k : Kind) → names o past p.object p.thread p.offset ≡ true
      → leaves_piece o.threads n p ≡ false → i < n → kind_at (shape_at o.shapes p) (unsigned_abs p.offset + i) ≡ Some k
      → IsCellThere o past (location_behind p i) k
  cell_behind p n i k named room lt e =
      let piece = piece_of p.object p.thread o.threads in
      record {
        object = p.object;
        among = named_object p.object p.thread p.offset named;
        number = refl;
        thread = named_thread p.object p.thread p.offset named;
        cell = cond-true (nat_lt (unsigned_abs p.offset + i) piece)
            (kind_at (slice_get o.shapes p.object.shape) (unsigned_abs p.offset + i)) None
            (lies_before p.offset n piece i (not_false (lies_in p.offset n piece) room) lt)
            ∙ e;
      }

  -- ---- what a cell keeps

  under_sharable : (n : ℕ) (cells : Cells) (k : Kind) → Each (λ c. is_private c.1 ≡ false) cells
      → under n cells ≡ Some k → is_private k ≡ false
  under_sharable n [] k h e = absurd cc
  under_sharable n (c ∷ cells) k h e = by_place (c.0 == n) (under_sharable n cells k h.1) e
    where
      by_place : (b : Bool) → (under n cells ≡ Some k → is_private k ≡ false)
          → cond b (Some c.1) (under n cells) ≡ Some k → is_private k ≡ false
      by_place true f q = let same : c.1 ≡ k = cc in subst (λ z. is_private z ≡ false) same h.0
      by_place false f q = f q

  shape_sharable : (i x : ℕ) (k : Kind) (s : Option Shape) → slice_get o.shapes i ≡ s → kind_at s x ≡ Some k
      → is_private k ≡ false
  shape_sharable i x k (Some s) q e =
      under_sharable (x % s.size) s.cells k (listed IsSharable o.shapes i s v.sharable q) e
  shape_sharable i x k None q e = absurd cc

  cell_sharable : (object : Option ObjectRef) (l : Loc) (k : Kind) → cell_in o.threads o.shapes object l ≡ Some k
      → is_private k ≡ false
  cell_sharable None l k e = absurd cc
  cell_sharable (Some x) l k e =
      by_piece (nat_lt l.offset (piece_of x l.thread o.threads)) e
    where
      by_piece : (b : Bool) → cond b (kind_at (slice_get o.shapes x.shape) l.offset) None ≡ Some k
          → is_private k ≡ false
      by_piece true q = shape_sharable x.shape l.offset k (slice_get o.shapes x.shape) refl q
      by_piece false q = absurd cc

  blank_fits : (k : Kind) → is_private k ≡ false → fits_kind (blank k) k ≡ true
  blank_fits kind.Char h = refl
  blank_fits kind.UChar h = refl
  blank_fits kind.Short h = refl
  blank_fits kind.UShort h = refl
  blank_fits kind.Int h = refl
  blank_fits kind.UInt h = refl
  blank_fits kind.Long h = refl
  blank_fits kind.ULong h = refl
  blank_fits (kind.Shared n b) h = refl
  blank_fits kind.Lock h = refl
  blank_fits (kind.Private n) h = absurd cc

  -- No cell of a shared object holds a pointer to a private one.
  pub shared_kind : (l : Loc) (k : Kind) → IsCellThere o past l k → is_private k ≡ false
  shared_kind l k e = cell_sharable (Some e.object) l k e.cell

  -- What a cell of a shared object keeps of a value fits it.
  pub kept_fits : (l : Loc) (k : Kind) (w : Scalar) → IsCellThere o past l k
      → fits_kind (kept_scalar k w) k ≡ true
  kept_fits l k w e = by_fit (fits_kind w k) refl
    where
      by_fit : (b : Bool) → fits_kind w k ≡ b → fits_kind (if b then w else blank k) k ≡ true
      by_fit true q = q
      by_fit false q = blank_fits k (shared_kind l k e)
