-- A cell of a shared object keeps a scalar, since no such cell is of pointers to private objects.
use Rattle.std.proofs.Common.{◌≡◌, ◌⊎◌, ℕ, zero, suc, ◌==◌, nat_lt, Bool, true, false, not, ◌&&◌, List, [], ◌∷◌, ◌++◌}
use Rattle.thread_steps.specs.layer.Parts.{shape_or_byte}
use Rattle.std.proofs.Common.{length, map, slice_get, refl, sym, subst, inl, inr}
use Rattle.std.specs.Prelude.{if◌then◌else◌, Ok, Err}
use Rattle.std.proofs.lemmas.Bool.{false≢true, and_parts, or_cases}
use Rattle.block_layout.specs.declared.kind.Kind.{Kind}
use Rattle.block_layout.specs.declared.kind.Kind.TheVariants as kind
use Rattle.block_layout.specs.declared.kind.Shape.{Shape}
use Rattle.block_layout.specs.declared.place.Loc.{Loc}
use Rattle.block_layout.specs.declared.run_error.TheConstants.{NULL_ACCESS, CELL_TYPE, OUT_OF_OBJECT}
use Rattle.block_layout.specs.Shapes.{has_cell, kind_size, same_kind}
use Rattle.block_layout.specs.Cells.{is_private}
use Rattle.block_layout.specs.Pointers.{is_null, location}
use Rattle.block_layout.proofs.Found.{kind_is}
use Rattle.shared_pointers.specs.Access.{in_piece}
use Rattle.shared_pointers.specs.layer.Parts.{byte_of_element}
use Rattle.upc_values.specs.declared.scalar.Scalar.{Scalar}
use Rattle.upc_values.specs.declared.scalar.Value.{Value}
use Rattle.upc_values.specs.declared.scalar.Value.TheVariants as value
use Rattle.upc_values.specs.Shapes.{value_fits}
use Rattle.upc_values.specs.Views.{shape_at}
use Rattle.upc_values.specs.Lists.{Each}
use Rattle.upc_values.proofs.Membership.{each-from, each-append, filter-has}
use Rattle.upc_types.specs.Types.{CType, Structs, base_of}
use Rattle.upc_types.specs.Cells.{leaf_shape}
use Rattle.typed_tree.specs.Elements.{element_shape, number_among, with_shape}
use Rattle.typed_tree.specs.layer.Parts.{with_shapes}
use Rattle.typed_tree.specs.Objects.{shared_in, type_of}
use Rattle.typed_tree.specs.Allocated.{allocated_in}
use Rattle.typed_tree.specs.Programs.{Checked, start_of}
use Rattle.meaning_laws.specs.code.Laws.{ScalarsAreKept}

-- No cell of the shape is of pointers to private objects.
abbrev pub IsSharable : Shape → Type 0
IsSharable s = Each (λ c. is_private c.1 ≡ false) s.cells

not_true : (b : Bool) → not b ≡ true → b ≡ false
not_true true h = absurd (false≢true h)
not_true false h = refl

element_sharable : (structs : Structs) (t : CType) → IsSharable (element_shape structs t)
element_sharable structs t =
    let cells = (leaf_shape structs (base_of t)).cells in
    let test : ℕ × Kind → Bool = λ c. not (is_private c.1) in
    each-from (λ c. is_private c.1 ≡ false) (element_shape structs t).cells (λ c h.
    not_true (is_private c.1) (filter-has test cells c h).1)

one_more : (b : Bool) (xs : List Shape) (s : Shape) → Each IsSharable xs → IsSharable s
    → Each IsSharable (if b then xs else xs ++ (s ∷ []))
one_more true xs s h g = h
one_more false xs s h g = each-append IsSharable xs (s ∷ []) h (g, tt)

all_more : (xs ss : List Shape) → Each IsSharable xs → Each IsSharable ss → Each IsSharable (with_shapes xs ss)
all_more xs [] h g = h
all_more xs (s ∷ ss) h g =
    all_more (with_shape xs s) ss (one_more (nat_lt (number_among xs s) (length xs)) xs s h g.0) g.1

all_elements : (structs : Structs) (ts : List CType) → Each IsSharable (map (element_shape structs) ts)
all_elements structs [] = tt
all_elements structs (t ∷ ts) = (element_sharable structs t, all_elements structs ts)

pub program_sharable : (program : Checked) → Each IsSharable (start_of program).shapes
program_sharable program =
    let structs = (start_of program).structs in
    let types = map type_of (shared_in program.objects) ++ allocated_in program.structs program.functions in
    all_more [] (map (element_shape structs) types) (tt {0}) (all_elements structs types)

shape_sharable : (shapes : List Shape) (i : ℕ) → Each IsSharable shapes
    → IsSharable (shape_or_byte (slice_get shapes i))
shape_sharable [] i h = tt
shape_sharable (s ∷ shapes) zero h = h.0
shape_sharable (s ∷ shapes) (suc i) h = shape_sharable shapes i h.1

found_sharable : (cells : List (ℕ × Kind)) (byte : ℕ) (k : Kind) → Each (λ c. is_private c.1 ≡ false) cells
    → has_cell cells byte k ≡ true → is_private k ≡ false
found_sharable [] byte k h e = absurd (false≢true e)
found_sharable (c ∷ cells) byte k h e = by (or_cases _ _ e) (found_sharable cells byte k h.1)
  where
    by : ((c.0 == byte && same_kind c.1 k) ≡ true) ⊎ (has_cell cells byte k ≡ true)
        → (has_cell cells byte k ≡ true → is_private k ≡ false) → is_private k ≡ false
    by (inl q) again =
        let same = kind_is c.1 k (and_parts (c.0 == byte) (same_kind c.1 k) q).1 in
        subst (λ (i : Kind). is_private i ≡ false) same h.0
    by (inr q) again = again q

reached : (null inside there : Bool) (m l : Loc)
    → (if null then Err NULL_ACCESS else if inside then (if there then Ok m else Err CELL_TYPE) else Err OUT_OF_OBJECT)
    ≡ Ok l
    → there ≡ true
reached true inside there m l e = absurd cc
reached false false there m l e = absurd cc
reached false true false m l e = absurd cc
reached false true true m l e = refl

pub scalar_there : (k : Kind) (v : Value) → is_private k ≡ false → value_fits v k ≡ true
    → (s : Scalar) × (v ≡ value.Scalar s)
scalar_there k (value.Scalar s) p h = (s, refl)
scalar_there (kind.Private n) (value.Local q) p h = absurd (false≢true (sym p))
scalar_there kind.Char (value.Local q) p h = absurd (false≢true h)
scalar_there kind.UChar (value.Local q) p h = absurd (false≢true h)
scalar_there kind.Short (value.Local q) p h = absurd (false≢true h)
scalar_there kind.UShort (value.Local q) p h = absurd (false≢true h)
scalar_there kind.Int (value.Local q) p h = absurd (false≢true h)
scalar_there kind.UInt (value.Local q) p h = absurd (false≢true h)
scalar_there kind.Long (value.Local q) p h = absurd (false≢true h)
scalar_there kind.ULong (value.Local q) p h = absurd (false≢true h)
scalar_there (kind.Shared n b) (value.Local q) p h = absurd (false≢true h)
scalar_there kind.Lock (value.Local q) p h = absurd (false≢true h)

pub scalars_are_kept : ScalarsAreKept
scalars_are_kept = record {
  each = λ program thread budget k p l v e h.
      let shapes = (start_of program).shapes in
      let shape = shape_or_byte (shape_at shapes p) in
      let byte = byte_of_element p shape in
      let there = reached (is_null p) (in_piece p (kind_size k) program.threads) (has_cell shape.cells byte k)
      (location p) l e in
      let sharable = shape_sharable shapes p.object.shape (program_sharable program) in
      scalar_there k v (found_sharable shape.cells byte k sharable there) h;
}
