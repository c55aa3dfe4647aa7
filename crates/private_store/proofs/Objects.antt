-- The cells of an object: which an access reaches, and what they hold.
use Rattle.std.proofs.Common.{◌≡◌, ℕ, ◌<◌, ℤ, unsigned_abs, true, false, List, [], ◌∷◌, length, map, get_or, set, Some, None, Ok, Err, refl, subst, arith}
use Rattle.std.specs.List.{AllZip}
use Rattle.std.proofs.lemmas.Slice.Zip.{AllZip-long}
use Rattle.block_layout.specs.declared.kind.Kind.{Kind}
use Rattle.block_layout.specs.declared.kind.Kind.TheVariants as kind
use Rattle.block_layout.specs.declared.kind.Shape.{Shape}
use Rattle.block_layout.specs.declared.run_error.TheConstants.{CELL_TYPE, PRIVATE_RANGE}
use Rattle.block_layout.specs.Shapes.{kind_size, IsShape}
use Rattle.upc_values.specs.declared.scalar.Value.{Value}
use Rattle.upc_values.specs.Shapes.{value_fits, blank_value}
use Rattle.private_store.specs.Live.{Thing}
use Rattle.private_store.specs.Cells.{lies_within, cell_in, cell_place}
use Rattle.private_store.specs.code.Kept.{IsFilled, CellIs}
use Rattle.private_store.proofs.Places.{Cells}

pub outside : (x : Thing) (offset : ℤ) (k : Kind) → lies_within offset (kind_size k) x.shape.size ≡ false → cell_in (Some x) offset k ≡ Err PRIVATE_RANGE
outside x offset k e = rw e refl

pub no_cell : (x : Thing) (offset : ℤ) (k : Kind) (b : ℕ) → lies_within offset (kind_size k) x.shape.size ≡ true → unsigned_abs offset ≡ b
    → None ≡ cell_place x.shape.cells b k → cell_in (Some x) offset k ≡ Err CELL_TYPE
no_cell x offset k b e same gone = rw (e, same, ← gone) refl

pub a_cell : (x : Thing) (offset : ℤ) (k : Kind) (b c : ℕ) → lies_within offset (kind_size k) x.shape.size ≡ true → unsigned_abs offset ≡ b
    → Some c ≡ cell_place x.shape.cells b k → cell_in (Some x) offset k ≡ Ok record { object = x; place = c }
a_cell x offset k b c e same there = rw (e, same, ← there) refl

-- ---- values

abbrev pub Fit : Cells → List Value → Type 0
Fit cells values = AllZip (λ c v. value_fits v c.1 ≡ true) cells values

pub fit_at : (cells : Cells) (values : List Value) (i : ℕ) (d : ℕ × Kind) (e : Value) → Fit cells values → i < length cells
    → value_fits (get_or values i e) (get_or cells i d).1 ≡ true
fit_at [] values i d e h lt = absurd (omega arith)
fit_at (c ∷ cells) [] i d e h lt = absurd h
fit_at (c ∷ cells) (v ∷ values) ℕ.zero d e h lt = h.0
fit_at (c ∷ cells) (v ∷ values) (ℕ.suc i) d e h lt = fit_at cells values i d e h.1 (omega arith)

pub fit_set : (cells : Cells) (values : List Value) (i : ℕ) (d : ℕ × Kind) (v : Value) → Fit cells values → i < length cells
    → value_fits v (get_or cells i d).1 ≡ true → Fit cells (set values i v)
fit_set [] values i d v h lt f = absurd (omega arith)
fit_set (c ∷ cells) [] i d v h lt f = absurd h
fit_set (c ∷ cells) (u ∷ values) ℕ.zero d v h lt f = (f, h.1)
fit_set (c ∷ cells) (u ∷ values) (ℕ.suc i) d v h lt f = (h.0, fit_set cells values i d v h.1 (omega arith) f)

blank_fits : (k : Kind) → value_fits (blank_value k) k ≡ true
blank_fits kind.Char = refl
blank_fits kind.UChar = refl
blank_fits kind.Short = refl
blank_fits kind.UShort = refl
blank_fits kind.Int = refl
blank_fits kind.UInt = refl
blank_fits kind.Long = refl
blank_fits kind.ULong = refl
blank_fits (kind.Shared n b) = refl
blank_fits kind.Lock = refl
blank_fits (kind.Private n) = refl

blanks_fit : (cells : Cells) → Fit cells (map (λ c. blank_value c.1) cells)
blanks_fit [] = tt
blanks_fit (c ∷ cells) = (blank_fits c.1, blanks_fit cells)

pub blank_filled : (shape : Shape) → IsShape shape → IsFilled shape (map (λ c. blank_value c.1) shape.cells)
blank_filled shape is = record { is_shape = is; fit = blanks_fit shape.cells }

-- ---- what cells hold

pub filled_length : (shape : Shape) (values : List Value) → IsFilled shape values → length values ≡ length shape.cells
filled_length shape values filled = AllZip-long _ shape.cells values filled.fit

some_cell : (cells : Cells) (i : ℕ) → i < length cells → ℕ × Kind
some_cell [] i lt = absurd (omega arith)
some_cell (c ∷ cells) i lt = c

pub value_at_fits : (shape : Shape) (values : List Value) (i : ℕ) (k : Kind) (e : Value) → IsFilled shape values → CellIs shape.cells i k
    → value_fits (get_or values i e) k ≡ true
value_at_fits shape values i k e filled cell =
    let d = some_cell shape.cells i cell.there in
    subst (λ j. value_fits (get_or values i e) j ≡ true) (cell.kind_is d) (fit_at shape.cells values i d e filled.fit cell.there)

pub filled_set : (shape : Shape) (values : List Value) (i : ℕ) (k : Kind) (v : Value) → IsFilled shape values → CellIs shape.cells i k
    → value_fits v k ≡ true → IsFilled shape (set values i v)
filled_set shape values i k v filled cell fits =
    let d = some_cell shape.cells i cell.there in
    record {
      is_shape = filled.is_shape;
      fit = fit_set shape.cells values i d v filled.fit cell.there (rw (cell.kind_is d) fits);
    }

pub ruleset reaching = (outside, no_cell, a_cell)
