-- The kinds of cells that initial values are for.
use Rattle.std.proofs.Common.{◌≡◌, ℕ, ◌+◌, ◌<◌, ◌≤◌, ℤ, pos, negsuc, unsigned_abs, nat_le, Bool, true, false, ◌==◌, cond, List, [], ◌∷◌, length, get_or, Option, Some, None, slice_get, refl, sym, subst, ap, ◌∙◌, arith}
use Rattle.std.specs.List.{position, position_or_len}
use Rattle.std.proofs.lemmas.Bool.Decides.{nat_tests}
use Rattle.std.proofs.lemmas.List.Quantifiers.{position-Some}
use Rattle.std.proofs.lemmas.List.Sums.{fails_before_first, sum_by-cons}
use Rattle.std.proofs.lemmas.Option.{slice_get-get_or, slice_get_past}
use Rattle.block_layout.specs.declared.kind.Kind.{Kind}
use Rattle.block_layout.specs.declared.kind.Shape.{Shape}
use Rattle.block_layout.specs.declared.place.LocalPtr.TheVariants as local
use Rattle.block_layout.specs.Shapes.{IsShape, CellsWithin, kind_size}
use Rattle.block_layout.specs.Lists.{under}
use Rattle.upc_values.specs.Lists.{Each}
use Rattle.upc_values.proofs.Lists.{each-at}
use Rattle.private_store.specs.Live.{bytes_in}
use Rattle.private_store.specs.Cells.{lies_within}
use Rattle.private_store.specs.Beginnings.{private_cell}
use Rattle.private_store.specs.code.Kept.{kind_there}
use Rattle.private_store.proofs.Places.{Cells, missing, past, some_bytes}
use Rattle.private_store.proofs.Searches.{differs}

-- ---- the first cell that begins at a byte

under_skip : (b : Bool) (k : Kind) (o : Option Kind) → b ≡ false → cond b (Some k) o ≡ o
under_skip b k o e = rw e refl

under_take : (b : Bool) (k : Kind) (o : Option Kind) → b ≡ true → cond b (Some k) o ≡ Some k
under_take b k o e = rw e refl

under_first : (cells : Cells) (byte i : ℕ) (d : ℕ × Kind) → i < length cells → ((get_or cells i d).0 == byte) ≡ true
    → ((k : ℕ) → k < i → ((get_or cells k d).0 == byte) ≡ false) → under byte cells ≡ Some (get_or cells i d).1
under_first [] byte i d lt here before = absurd (omega arith)
under_first (c ∷ cells) byte ℕ.zero d lt here before = under_take (c.0 == byte) c.1 (under byte cells) here
under_first (c ∷ cells) byte (ℕ.suc i) d lt here before =
    under_skip (c.0 == byte) c.1 (under byte cells) (before 0 (omega arith))
    ∙ under_first cells byte i d (omega arith) here (λ k l. before (ℕ.suc k) (omega arith))

under_nowhere : (cells : Cells) (byte : ℕ) → ((k : ℕ) (d : ℕ × Kind) → k < length cells → ((get_or cells k d).0 == byte) ≡ false) → under byte cells ≡ None
under_nowhere [] byte h = refl
under_nowhere (c ∷ cells) byte h =
    under_skip (c.0 == byte) c.1 (under byte cells) (h 0 c (omega arith)) ∙ under_nowhere cells byte (λ k d l. h (ℕ.suc k) d (omega arith))

pub under_at : (cells : Cells) (byte i : ℕ) (d : ℕ × Kind) → Some i ≡ position (λ c. c.0 == byte) cells → under byte cells ≡ Some (get_or cells i d).1
under_at cells byte i d e =
    let p = position-Some (λ (c : ℕ × Kind). c.0 == byte) cells i d (sym e) in under_first cells byte i d p.0 p.1 p.2

pub under_none : (cells : Cells) (byte : ℕ) → None ≡ position (λ c. c.0 == byte) cells → under byte cells ≡ None
under_none cells byte e =
    let t : ℕ × Kind → Bool = λ c. c.0 == byte in
    let n = position_or_len t cells in
    let far : length cells ≤ n = past n (length cells) (missing _ n e) in
    under_nowhere cells byte (λ k d l. fails_before_first t cells k d (omega arith))

under_beyond : (cells : Cells) (from size byte : ℕ) → CellsWithin cells from size → size ≤ byte → under byte cells ≡ None
under_beyond [] from size byte h le = refl
under_beyond (c ∷ cells) from size byte h le =
    under_skip (c.0 == byte) c.1 (under byte cells) (differs c.0 byte (let s = some_bytes c.1 in omega (arith, h.1)))
    ∙ under_beyond cells (c.0 + kind_size c.1) size byte h.2 le

-- ---- by offset

beyond : (a b : ℕ) → nat_le (a + 1) b ≡ false → b ≤ a
beyond a b e = grind (arith, nat_tests)

pub there_beyond : (shape : Shape) (offset : ℤ) → IsShape shape → lies_within offset 1 shape.size ≡ false → None ≡ kind_there offset shape.cells
there_beyond shape (pos byte) h e = sym (under_beyond shape.cells 0 shape.size byte h.1 (beyond byte shape.size e))
there_beyond shape (negsuc n) h e = refl

pub there_at : (cells : Cells) (offset : ℤ) (size byte i : ℕ) (d : ℕ × Kind) → lies_within offset 1 size ≡ true → unsigned_abs offset ≡ byte
    → Some i ≡ position (λ c. c.0 == byte) cells → Some (get_or cells i d).1 ≡ kind_there offset cells
there_at cells (pos b) size byte i d within e found = sym (ap (λ k. under k cells) e ∙ under_at cells byte i d found)
there_at cells (negsuc n) size byte i d within e found = absurd cc

pub there_none : (cells : Cells) (offset : ℤ) (size byte : ℕ) → lies_within offset 1 size ≡ true → unsigned_abs offset ≡ byte
    → None ≡ position (λ c. c.0 == byte) cells → None ≡ kind_there offset cells
there_none cells (pos b) size byte within e found = sym (ap (λ k. under k cells) e ∙ under_none cells byte found)
there_none cells (negsuc n) size byte within e found = refl

pub private_at : (shapes : List Shape) (object : ℕ) (offset : ℤ) (s : Shape) → slice_get shapes object ≡ Some s
    → kind_there offset s.cells ≡ private_cell shapes (local.Private object offset)
private_at shapes object (pos byte) s e = rw e refl
private_at shapes object (negsuc n) s e = refl

pub private_here : (shapes : List Shape) (object : ℕ) (offset : ℤ) (s : Shape) → object < length shapes → s ≡ get_or shapes object s
    → kind_there offset s.cells ≡ private_cell shapes (local.Private object offset)
private_here shapes object offset s lt is = private_at shapes object offset s (slice_get-get_or shapes object s lt ∙ ap Some (sym is))

pub private_none : (shapes : List Shape) (object : ℕ) (offset : ℤ) → length shapes ≤ object → None ≡ private_cell shapes (local.Private object offset)
private_none shapes object (pos byte) le = rw (slice_get_past shapes object le) refl
private_none shapes object (negsuc n) le = refl

pub shape_here : (shapes : List Shape) (k : ℕ) (s : Shape) → Each IsShape shapes → k < length shapes → s ≡ get_or shapes k s → IsShape s
shape_here shapes k s h lt is = subst IsShape (sym is) (each-at IsShape shapes k s h lt)

-- each object has a byte
pub few_shapes : (shapes : List Shape) → Each IsShape shapes → length shapes ≤ bytes_in shapes
few_shapes [] h = omega arith
few_shapes (s ∷ shapes) h =
    let r = few_shapes shapes h.1 in let e = sum_by-cons (λ (t : Shape). t.size) s shapes in omega (arith, h.0.0)

pub ruleset offsets = (there_beyond, there_at, there_none)

pub ruleset private_kinds = (private_here, private_none, shape_here)
