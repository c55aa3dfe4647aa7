-- The shapes of what a program allocates are among its shapes.
use Rattle.std.proofs.Common.{◌≡◌, ℕ, zero, suc, ◌+◌, ◌<◌, ◌≤◌, ◌^◌, Bool, true, false, if◌then◌else◌, nat_lt, List}
use Rattle.std.proofs.Common.{[], ◌∷◌}
use Rattle.std.proofs.Common.{◌++◌, is_some, slice_get, length, map, refl, sym, ap, subst, inl, inr, eq-eqb, arith}
use Rattle.std.proofs.lemmas.Bool.{ltb-true}
use Rattle.block_layout.specs.declared.kind.Kind.{Kind}
use Rattle.block_layout.specs.declared.kind.Shape.{Shape}
use Rattle.block_layout.specs.Cells.{same_cells}
use Rattle.upc_values.specs.Lists.{Each, Has}
use Rattle.upc_values.proofs.Membership.{has-left, has-right, each-from}
use Rattle.upc_types.specs.Types.{CType, Structs}
use Rattle.upc_types.specs.Layout.{size}
use Rattle.upc_types.proofs.Numbers.{kind_itself}
use Rattle.typed_tree.specs.Elements.{element_shape, number_among, with_shape}
use Rattle.typed_tree.specs.layer.Parts.{same_shape, with_shapes}
use Rattle.typed_tree.specs.Objects.{shared_in, type_of, placed_from}
use Rattle.typed_tree.specs.Tree.{DeclaredObject}
use Rattle.typed_tree.specs.Allocated.{allocated_in}
use Rattle.typed_tree.specs.Programs.{Checked, start_of}
use Rattle.meaning_laws.specs.layer.Formed.{HasShape}
use Rattle.meaning_laws.specs.code.Laws.{SharedHaveShapes}

-- ---- equal shapes

cells_themselves : (a : List (ℕ × Kind)) → same_cells a a ≡ true
cells_themselves [] = refl
cells_themselves (c ∷ cs) = rw (eq-eqb c.0 c.0 refl, kind_itself c.1, cells_themselves cs) refl

shape_itself : (a : Shape) → same_shape a a ≡ true
shape_itself a = rw (eq-eqb a.size a.size refl, cells_themselves a.cells) refl

-- ---- shapes with numbers

-- The shape has a number.
abbrev IsThere : List Shape → Shape → Type 0
IsThere xs s = number_among xs s < length xs

front_one : (b : Bool) (n m count more : ℕ) → (n < count → m < more) → (if b then 0 else n + 1) < suc count
    → (if b then 0 else m + 1) < suc more
front_one true n m count more f h = omega arith
front_one false n m count more f h = let lt = f (omega arith) in omega arith

front : (xs ys : List Shape) (s : Shape) → IsThere xs s → IsThere (xs ++ ys) s
front [] ys s h = absurd (omega arith)
front (x ∷ xs) ys s h =
    front_one (same_shape x s) (number_among xs s) (number_among (xs ++ ys) s) (length xs) (length (xs ++ ys))
    (front xs ys s) h

back_one : (b : Bool) (n count : ℕ) → n < count → (if b then 0 else n + 1) < suc count
back_one true n count h = omega arith
back_one false n count h = omega arith

back : (xs : List Shape) (s : Shape) → IsThere (xs ++ (s ∷ [])) s
back [] s = subst (λ (b : Bool). (if b then 0 else 1) < 1) (sym (shape_itself s)) (omega arith)
back (x ∷ xs) s = back_one (same_shape x s) (number_among (xs ++ (s ∷ [])) s) (length (xs ++ (s ∷ []))) (back xs s)

own : (xs : List Shape) (s : Shape) (b : Bool) → nat_lt (number_among xs s) (length xs) ≡ b
    → IsThere (if b then xs else xs ++ (s ∷ [])) s
own xs s true e = ltb-true (number_among xs s) (length xs) e
own xs s false e = back xs s

stays : (xs : List Shape) (x s : Shape) (b : Bool) → IsThere xs s → IsThere (if b then xs else xs ++ (x ∷ [])) s
stays xs x s true h = h
stays xs x s false h = front xs (x ∷ []) s h

all_stay : (xs ss : List Shape) (s : Shape) → IsThere xs s → IsThere (with_shapes xs ss) s
all_stay xs [] s h = h
all_stay xs (x ∷ ss) s h =
    all_stay (with_shape xs x) ss s (stays xs x s (nat_lt (number_among xs x) (length xs)) h)

all_there : (xs ss : List Shape) (s : Shape) → Has ss s → IsThere (with_shapes xs ss) s
all_there xs [] s h = absurd h
all_there xs (x ∷ ss) s (inl e) =
    all_stay (with_shape xs x) ss s
    (subst (λ (i : Shape). IsThere (with_shape xs x) i) e
    (own xs x (nat_lt (number_among xs x) (length xs)) refl))
all_there xs (x ∷ ss) s (inr h) = all_there (with_shape xs x) ss s h

has_map : (f : CType → Shape) (ts : List CType) (t : CType) → Has ts t → Has (map f ts) (f t)
has_map f [] t h = absurd h
has_map f (u ∷ ts) t (inl e) = inl (ap f e)
has_map f (u ∷ ts) t (inr h) = inr (has_map f ts t h)

-- ---- the shapes of a program

-- A program has the shapes of what its functions allocate, where it has at most 2^64 shapes.
pub allocated_shapes : (program : Checked) → length (start_of program).shapes ≤ 2 ^ 64
    → Each (HasShape program) (allocated_in program.structs program.functions)
allocated_shapes program few =
    let start = start_of program in
    let shared = map type_of (shared_in program.objects) in
    let made = allocated_in program.structs program.functions in
    let shape = element_shape start.structs in
    each-from (HasShape program) made (λ t h.
    let there = all_there [] (map shape (shared ++ made)) (shape t)
    (has_map shape (shared ++ made) t (has-right shared made t h)) in
    (there, omega (arith, there, few)))

-- ---- declared shared objects

pub there_is : {X : Type 0} (xs : List X) (i : ℕ) → i < length xs → is_some (slice_get xs i) ≡ true
there_is [] i h = absurd (omega arith)
there_is (x ∷ xs) zero h = refl
there_is (x ∷ xs) (suc i) h = there_is xs i (omega arith)

placed_there : (structs : Structs) (shapes : List Shape) (number base : ℕ) (objects : List DeclaredObject)
    → ((t : CType) → Has (map type_of objects) t → IsThere shapes (element_shape structs t))
    → Each (λ x. is_some (slice_get shapes x.object.shape) ≡ true) (placed_from structs shapes number base objects)
placed_there structs shapes number base [] h = tt
placed_there structs shapes number base (x ∷ objects) h = (
  there_is shapes (number_among shapes (element_shape structs x.ctype)) (h x.ctype (inl refl)),
  placed_there structs shapes (number + 1) (base + size structs x.ctype) objects (λ t g. h t (inr g)),
)

pub shared_have_shapes : SharedHaveShapes
shared_have_shapes = record {
  each = λ program.
      let start = start_of program in
      let shared = map type_of (shared_in program.objects) in
      let made = allocated_in program.structs program.functions in
      let shape = element_shape start.structs in
      placed_there start.structs start.shapes 1 0 (shared_in program.objects) (λ t h.
      all_there [] (map shape (shared ++ made)) (shape t)
      (has_map shape (shared ++ made) t (has-left shared made t h)));
}
