-- What a store of known values gives and becomes.
use Rattle.std.proofs.Common.{◌≡◌, ℕ, zero, suc, ◌+◌, ◌<◌, ◌==◌, ◌&&◌, ℤ, Bool, true, false, List, [], ◌∷◌, length, map}
use Rattle.std.proofs.Common.{Option, Some, None, if◌then◌else◌, get_or, refl, sym, subst, arith}
use Rattle.std.specs.Prelude.{Result, Ok, Err, unsigned_abs, fold, slice_index_or, slice_set}
use Rattle.std.proofs.lemmas.Bool.{cond_both, and_parts}
use Rattle.std.proofs.lemmas.List.Quantifiers.{position-Some}
use Rattle.block_layout.specs.declared.kind.Kind.{Kind}
use Rattle.block_layout.specs.declared.kind.Shape.{Shape}
use Rattle.block_layout.specs.declared.place.LocalPtr.{LocalPtr}
use Rattle.block_layout.specs.declared.place.LocalPtr.TheVariants as local
use Rattle.block_layout.specs.Shapes.{kind_size, same_kind}
use Rattle.upc_values.specs.declared.scalar.Value.{Value}
use Rattle.upc_values.specs.declared.action.Reply.{Reply}
use Rattle.upc_values.specs.Lists.{Each}
use Rattle.upc_values.specs.Shapes.{value_fits, blank_value}
use Rattle.upc_values.specs.Openings.{Opening}
use Rattle.upc_values.proofs.Lists.{each-take}
use Rattle.upc_values.proofs.Membership.{each-append}
use Rattle.thread_steps.specs.Values.{kept}
use Rattle.private_store.specs.declared.frame.Block.{Block}
use Rattle.private_store.specs.declared.frame.Call.{Call}
use Rattle.private_store.specs.Live.{Live, Thing, thing, blank_things, entered, left_from, left, open_blocks, youngest}
use Rattle.private_store.specs.Live.{returned_from, returned, recounted_from, recounted}
use Rattle.private_store.specs.Cells.{Cell, lies_within, cell_place, cell_there, cell_in, reached, cell_value, loaded}
use Rattle.private_store.specs.Cells.{changed}
use Rattle.private_store.specs.Cells.{put_in, stored}
use Rattle.private_store.specs.Beginnings.{fits_cell, private_cell, if_stored, begun_cell, blank, begun}
use Rattle.block_layout.proofs.Found.{kind_is}
use Rattle.thread_steps.proofs.Blanks.{blank_fits, kept_fits}
use Rattle.stack_code_laws.specs.layer.Asking.{IsKnownValue}
use Rattle.stack_code_laws.proofs.KnownValues.{IsInRange, Known, blank_value_known, kept_known, first_value}

-- ---- what fits

-- The cell at a place is of a kind.
record HasKind (cells : List (ℕ × Kind)) (i : ℕ) (k : Kind) : Type 0 where
  there : i < length cells
  kind_there : (d : ℕ × Kind) → (get_or cells i d).1 ≡ k

next_kind : (c : ℕ × Kind) (cells : List (ℕ × Kind)) (i : ℕ) (k : Kind) → HasKind (c ∷ cells) (suc i) k
    → HasKind cells i k
next_kind c cells i k h = let lt = h.there in record { there = omega arith; kind_there = λ d. h.kind_there d }

-- The place that is found of a kind has it.
place_kind : (cells : List (ℕ × Kind)) (byte : ℕ) (k : Kind) (i : ℕ) → cell_place cells byte k ≡ Some i
    → HasKind cells i k
place_kind cells byte k i e =
    let test : ℕ × Kind → Bool = λ c. c.0 == byte && same_kind c.1 k in
    record {
      there = (position-Some test cells i (0, k) e).0;
      kind_there = λ d.
          let q = (position-Some test cells i d e).1 in
          kind_is (get_or cells i d).1 k
          (and_parts ((get_or cells i d).0 == byte) (same_kind (get_or cells i d).1 k) q).1;
    }

module _ (o : Opening) (past : List Reply) where
  -- What a cell of a kind holds is known, and fits it.
  pub record IsCellValue (k : Kind) (v : Value) : Type 0 where
    pub known : Known o past v
    pub fits : value_fits v k ≡ true

  abbrev AreCellValues : List (ℕ × Kind) → List Value → Type 0
  AreCellValues [] vs = Unit {0}
  AreCellValues (c ∷ cells) [] = Unit {0}
  AreCellValues (c ∷ cells) (v ∷ vs) = IsCellValue c.1 v × AreCellValues cells vs

  -- So do the cells of objects.
  abbrev pub AreFilled : List Thing → Type 0
  AreFilled things = Each (λ x. AreCellValues x.shape.cells x.values) things

  abbrev pub IsFilled : Live → Type 0
  IsFilled s = AreFilled s.objects

  abbrev pub FilledIn : Result Live ℕ → Type 0
  FilledIn (Ok s) = IsFilled s
  FilledIn (Err code) = Unit {0}

  pub blank_is : (k : Kind) → IsCellValue k (blank_value k)
  blank_is k = record { known = blank_value_known o past k; fits = blank_fits k }

  pub kept_is : (k : Kind) (v : Value) → Known o past v → IsCellValue k (kept k v)
  kept_is k v h = record { known = kept_known o past k v h; fits = kept_fits k v }

  -- ---- values in lists

  got : (cells : List (ℕ × Kind)) (vs : List Value) (i : ℕ) (k : Kind) → HasKind cells i k → AreCellValues cells vs
      → IsCellValue k (slice_index_or vs i (blank_value k))
  got [] vs i k p h = let lt = p.there in absurd (omega arith)
  got (c ∷ cells) [] i k p h = blank_is k
  got (c ∷ cells) (v ∷ vs) zero k p h = subst (λ j. IsCellValue j v) (p.kind_there c) h.0
  got (c ∷ cells) (v ∷ vs) (suc i) k p h = got cells vs i k (next_kind c cells i k p) h.1

  put_there : (cells : List (ℕ × Kind)) (vs : List Value) (i : ℕ) (k : Kind) (w : Value) → HasKind cells i k
      → AreCellValues cells vs → IsCellValue k w → AreCellValues cells (slice_set vs i w)
  put_there [] vs i k w p h g = tt
  put_there (c ∷ cells) [] i k w p h g = tt
  put_there (c ∷ cells) (v ∷ vs) zero k w p h g = (subst (λ j. IsCellValue j w) (same c (p.kind_there c)) g, h.1)
    where
      same : (d : ℕ × Kind) → d.1 ≡ k → k ≡ d.1
      same d e = sym e
  put_there (c ∷ cells) (v ∷ vs) (suc i) k w p h g = (h.0, put_there cells vs i k w (next_kind c cells i k p) h.1 g)

  blanks : (cells : List (ℕ × Kind)) → AreCellValues cells (map (λ c. blank_value c.1) cells)
  blanks [] = tt
  blanks (c ∷ cells) = (blank_is c.1, blanks cells)

  new_things : (n : ℕ) (shapes : List Shape) → AreFilled (blank_things n shapes)
  new_things n [] = tt
  new_things n (s ∷ shapes) = (blanks s.cells, new_things (n + 1) shapes)

  -- ---- reads and writes

  abbrev ThingIn : Option Thing → Type 0
  ThingIn (Some x) = AreCellValues x.shape.cells x.values
  ThingIn None = Unit {0}

  abbrev CellIn : Kind → Result Cell ℕ → Type 0
  CellIn k (Ok c) = AreCellValues c.object.shape.cells c.object.values × HasKind c.object.shape.cells c.place k
  CellIn k (Err code) = Unit {0}

  found : (number : ℕ) (things : List Thing) → AreFilled things → ThingIn (thing number things)
  found number [] h = tt
  found number (x ∷ things) h =
      cond_both (x.number == number) (Some x) (thing number things) ThingIn (λ e. h.0) (λ e. found number things h.1)

  there : (x : Thing) (k : Kind) (c : Option ℕ) → ((i : ℕ) → c ≡ Some i → HasKind x.shape.cells i k)
      → AreCellValues x.shape.cells x.values → CellIn k (cell_there x c)
  there x k (Some c) p h = (h, p c refl)
  there x k None p h = tt

  either_cell : (k : Kind) (b : Bool) (r s : Result Cell ℕ) → CellIn k r → CellIn k s → CellIn k (if b then r else s)
  either_cell k true r s h g = h
  either_cell k false r s h g = g

  inside : (x : Option Thing) (offset : ℤ) (k : Kind) → ThingIn x → CellIn k (cell_in x offset k)
  inside None offset k h = tt
  inside (Some x) offset k h =
      let c = cell_place x.shape.cells (unsigned_abs offset) k in
      either_cell k (lies_within offset (kind_size k) x.shape.size) (cell_there x c) _
      (there x k c (λ i e. place_kind x.shape.cells (unsigned_abs offset) k i e) h) tt

  reached_filled : (p : LocalPtr) (k : Kind) (things : List Thing) → AreFilled things → CellIn k (reached p k things)
  reached_filled local.Null k things h = tt
  reached_filled (local.Private number offset) k things h =
      inside (thing number things) offset k (found number things h)
  reached_filled (local.Shared object thread offset) k things h = tt

  -- What a read gives, if there is no run error.
  abbrev pub IsRead : Kind → Result Value ℕ → Type 0
  IsRead k (Ok v) = IsCellValue k v
  IsRead k (Err code) = Unit {0}

  read_is : (k : Kind) (r : Result Cell ℕ) → CellIn k r → IsRead k (cell_value k r)
  read_is k (Ok c) h = got c.object.shape.cells c.object.values c.place k h.1 h.0
  read_is k (Err code) h = tt

  pub loaded_is : (p : LocalPtr) (k : Kind) (s : Live) → IsFilled s → IsRead k (loaded p k s)
  loaded_is p k s h = read_is k (reached p k s.objects) (reached_filled p k s.objects h)

  either_thing : (b : Bool) (x y : Thing) → ThingIn (Some x) → ThingIn (Some y) → ThingIn (Some (if b then x else y))
  either_thing true x y h g = h
  either_thing false x y h g = g

  with_other : (c : Cell) (k : Kind) (v : Value) (things : List Thing)
      → AreCellValues c.object.shape.cells c.object.values × HasKind c.object.shape.cells c.place k → IsCellValue k v
      → AreFilled things → AreFilled (map (λ x. if x.number == c.object.number then changed c v else x) things)
  with_other c k v [] f g h = tt
  with_other c k v (x ∷ things) f g h = (
    either_thing (x.number == c.object.number) (changed c v) x
        (put_there c.object.shape.cells c.object.values c.place k v f.1 f.0 g) h.0,
    with_other c k v things f g h.1,
  )

  put_filled : (k : Kind) (r : Result Cell ℕ) (v : Value) (s : Live) → CellIn k r → IsCellValue k v → IsFilled s
      → FilledIn (put_in r v s)
  put_filled k (Ok c) v s f g h = with_other c k v s.objects f g h
  put_filled k (Err code) v s f g h = tt

  -- A write of what its cell may hold leaves such values.
  pub stored_filled : (p : LocalPtr) (k : Kind) (v : Value) (s : Live) → IsCellValue k v → IsFilled s
      → FilledIn (stored p k v s)
  stored_filled p k v s g h = put_filled k (reached p k s.objects) v s (reached_filled p k s.objects h) g h

  -- ---- blocks and calls

  pub entered_filled : (from : ℕ) (shapes : List Shape) (s : Live) → IsFilled s → IsFilled (entered from shapes s)
  entered_filled from shapes s h =
      each-append (λ x. AreCellValues x.shape.cells x.values) s.objects (blank_things s.next shapes) h
      (new_things s.next shapes)

  left_by : (b : Option Block) (s : Live) → IsFilled s → IsFilled (left_from b s)
  left_by None s h = h
  left_by (Some b) s h = each-take (λ x. AreCellValues x.shape.cells x.values) b.objects s.objects h

  pub left_filled : (s : Live) → IsFilled s → IsFilled (left s)
  left_filled s h = left_by (youngest (open_blocks s)) s h

  returned_by : (c : Option Call) (s : Live) → IsFilled s → IsFilled (returned_from c s)
  returned_by None s h = h
  returned_by (Some c) s h = each-take (λ x. AreCellValues x.shape.cells x.values) c.objects s.objects h

  pub returned_filled : (s : Live) → IsFilled s → IsFilled (returned s)
  returned_filled s h = returned_by (youngest s.calls) s h

  recounted_by : (c : Option Call) (n : ℕ) (s : Live) → IsFilled s → IsFilled (recounted_from c n s)
  recounted_by None n s h = h
  recounted_by (Some c) n s h = h

  pub recounted_filled : (n : ℕ) (s : Live) → IsFilled s → IsFilled (recounted n s)
  recounted_filled n s h = recounted_by (youngest s.calls) n s h

  -- ---- the beginning

  kept_or : (r : Result Live ℕ) (s : Live) → FilledIn r → IsFilled s → IsFilled (if_stored r s)
  kept_or (Ok t) s f h = f
  kept_or (Err code) s f h = h

  begun_by : (k : Option Kind) (x : LocalPtr × Value) (s : Live) → Known o past x.1 → fits_cell x.1 k ≡ true → IsFilled s
      → IsFilled (begun_cell k x s)
  begun_by (Some k) x s g f h =
      kept_or (stored x.0 k x.1 s) s (stored_filled x.0 k x.1 s (record { known = g; fits = f }) h) h
  begun_by None x s g f h = h

  all_begun : (shapes : List Shape) (initials : List (LocalPtr × Value)) (s : Live)
      → Each (λ x. IsKnownValue o [] x.1) initials → Each (λ x. IsInRange o x.1) initials
      → Each (λ x. fits_cell x.1 (private_cell shapes x.0) ≡ true) initials → IsFilled s
      → IsFilled (fold (λ s x. begun_cell (private_cell shapes x.0) x s) s initials)
  all_begun shapes [] s g k f h = h
  all_begun shapes (x ∷ initials) s g k f h =
      all_begun shapes initials (begun_cell (private_cell shapes x.0) x s) g.1 k.1 f.1
      (begun_by (private_cell shapes x.0) x s (first_value o past x.1 g.0 k.0) f.0 h)

  -- What a thread begins with is known, and fits.
  pub begun_filled : (shapes : List Shape) (initials : List (LocalPtr × Value))
      → Each (λ x. IsKnownValue o [] x.1) initials → Each (λ x. IsInRange o x.1) initials
      → Each (λ x. fits_cell x.1 (private_cell shapes x.0) ≡ true) initials → IsFilled (begun shapes initials)
  begun_filled shapes initials g k f = all_begun shapes initials (blank shapes) g k f (new_things 0 shapes)
