-- The shapes of elements, and the kinds of scalars.
use Rattle.std.proofs.Common.{◌≡◌, ℕ, suc, ◌+◌, ◌<◌, Bool, true, false, ◌==◌, nat_lt, if◌then◌else◌, List, [], ◌∷◌}
use Rattle.std.proofs.Common.{◌++◌, length, inl, inr, Option, Some, None, is_some, refl, sym, ap, ◌∙◌, subst, arith}
use Rattle.std.specs.Option.{ForSome}
use Rattle.std.specs.List.{slice_get}
use Rattle.std.proofs.lemmas.Bool.{and_parts, eqb-true, eq-eqb, ltb-true}
use Rattle.block_layout.specs.declared.kind.Kind.{Kind}
use Rattle.block_layout.specs.declared.kind.Shape.{Shape}
use Rattle.block_layout.specs.Shapes.{same_kind, IsShape}
use Rattle.block_layout.specs.Cells.{same_cells, same_cell}
use Rattle.block_layout.proofs.Same.{cells_cons}
use Rattle.upc_values.specs.Lists.{Each, Has}
use Rattle.upc_values.specs.Openings.{IsSharable}
use Rattle.upc_types.specs.declared.layout.Known.{Known}
use Rattle.upc_types.specs.Types.{CType, Qualified, Base, Void, Integer, Struct, Array, Pointer, LockObject, base_of}
use Rattle.upc_types.specs.Types.{Completed, Structs}
use Rattle.upc_types.specs.Layout.{base_layout, base_complete, known_in, layout_in, layout_or_none, complete_in}
use Rattle.upc_types.specs.Cells.{leaf_base, leaf_cells, struct_cells, object_shape}
use Rattle.upc_types.specs.layer.Kept.{IsFine}
use Rattle.upc_types.proofs.Order.{leaf_complete}
use Rattle.upc_types.proofs.Within.{leaf_within, object_within}
use Rattle.typed_tree.specs.Elements.{element_shape, number_among, with_shape}
use Rattle.typed_tree.specs.layer.Parts.{same_shape, with_shapes}
use Rattle.typing_rules.specs.Rules.{has_size}
use Rattle.typed_tree_opening.proofs.Shapes.{layout_is, sharable_within, sharable_each}
use Rattle.upc_types.proofs.Members.{kind_some, pointer_some}
use Rattle.upc_types.proofs.Steps.{positive}
use Rattle.upc_types.proofs.Equal.{kind_is}
use Rattle.upc_types.proofs.Numbers.{kind_itself}

-- ---- bytes

-- Each complete struct has some bytes, and not too many.
abbrev pub AreFine : List Completed → Type 0
AreFine cs = (n : ℕ) → ForSome (known_in cs n) (λ k. IsFine k.layout)

struct_some : (o : Option Known) → ForSome o (λ k. IsFine k.layout) → is_some o ≡ true → 0 < (layout_or_none o).size
struct_some None f h = absurd cc
struct_some (Some k) f h = (f k refl).some

-- A complete type has some bytes.
pub base_some : (cs : List Completed) → AreFine cs → (b : Base) → base_complete (complete_in cs) b ≡ true →
    0 < (base_layout (layout_in cs) b).size
base_some cs f Void h = absurd cc
base_some cs f (Integer k) h = kind_some k
base_some cs f (Struct n) h = struct_some (known_in cs n) (f n) h
base_some cs f (Array (Qualified e c s x) n) h =
    let p = and_parts (nat_lt 0 n) (base_complete (complete_in cs) e) h in
    positive n (base_layout (layout_in cs) e).size (ltb-true 0 n p.0) (base_some cs f e p.1)
base_some cs f (Pointer (Qualified t c s x)) h = pointer_some t s
base_some cs f LockObject h = absurd cc

pub leaf_some : (s : Structs) (t : CType) → AreFine s.completed → has_size s t ≡ true → 0 < (element_shape s t).size
leaf_some s t f h =
    base_some s.completed f (leaf_base (base_of t))
    (leaf_complete (complete_in s.completed) (base_of t) (layout_is s t h).complete)

-- ---- shapes

pub element_is : (s : Structs) (t : CType) → AreFine s.completed → has_size s t ≡ true → IsShape (element_shape s t)
element_is s t f h =
    let b = leaf_base (base_of t) in (
      leaf_some s t f h,
      sharable_within (leaf_cells s.targets (struct_cells s.targets s.completed) b) 0
          (base_layout (layout_in s.completed) b).size (leaf_within s.targets s.completed b),
    )

pub element_sharable : (s : Structs) (t : CType) → IsSharable (element_shape s t)
element_sharable s t = sharable_each (leaf_cells s.targets (struct_cells s.targets s.completed) (leaf_base (base_of t)))

pub object_is : (s : Structs) (t : CType) → AreFine s.completed → has_size s t ≡ true →
    IsShape (object_shape s (base_of t))
object_is s t f h =
    (base_some s.completed f (base_of t) (layout_is s t h).complete, object_within s.targets s.completed (base_of t))

-- ---- a property of all shapes

if_each : (b : Bool) (P : Shape → Type 0) (xs ys : List Shape) → Each P xs → Each P ys → Each P (if b then xs else ys)
if_each true P xs ys h k = h
if_each false P xs ys h k = k

each_last : (P : Shape → Type 0) (xs : List Shape) (s : Shape) → Each P xs → P s → Each P (xs ++ (s ∷ []))
each_last P [] s h p = (p, tt)
each_last P (x ∷ xs) s h p = (h.0, each_last P xs s h.1 p)

pub each_numbered : (P : Shape → Type 0) (known ss : List Shape) → Each P known → Each P ss →
    Each P (with_shapes known ss)
each_numbered P known [] h k = h
each_numbered P known (s ∷ ss) h k =
    each_numbered P (with_shape known s) ss
    (if_each (nat_lt (number_among known s) (length known)) P known (known ++ (s ∷ [])) h
    (each_last P known s h k.0)) k.1

-- ---- equal shapes

abbrev cell_of : ℕ → Kind → ℕ × Kind
cell_of n k = (n, k)

cells_are : (a b : List (ℕ × Kind)) → same_cells a b ≡ true → a ≡ b
cells_are [] [] h = refl
cells_are (c ∷ cs) (d ∷ ds) h =
    let p = and_parts (same_cell c d) (same_cells cs ds) (sym (cells_cons c d cs ds) ∙ h) in
    let q = and_parts (c.0 == d.0) (same_kind c.1 d.1) p.0 in
    let e = eqb-true c.0 d.0 q.0 in
    let f = kind_is c.1 d.1 q.1 in
    let one : cell_of c.0 c.1 ≡ cell_of d.0 d.1 = cc in
    ap (λ (x : ℕ × Kind). x ∷ cs) one ∙ ap (λ xs. d ∷ xs) (cells_are cs ds p.1)
cells_are a b h = absurd cc

cells_themselves : (a : List (ℕ × Kind)) → same_cells a a ≡ true
cells_themselves [] = refl
cells_themselves (c ∷ cs) = rw (eq-eqb c.0 c.0 refl, kind_itself c.1, cells_themselves cs) refl

abbrev shape_of : ℕ → List (ℕ × Kind) → Shape
shape_of n cs = record { size = n; cells = cs }

pub shape_is : (a b : Shape) → same_shape a b ≡ true → a ≡ b
shape_is a b h =
    let p = and_parts (a.size == b.size) (same_cells a.cells b.cells) h in
    let e = eqb-true a.size b.size p.0 in
    let f = cells_are a.cells b.cells p.1 in
    let one : shape_of a.size a.cells ≡ shape_of b.size b.cells = cc in
    one

pub shape_itself : (a : Shape) → same_shape a a ≡ true
shape_itself a = rw (eq-eqb a.size a.size refl, cells_themselves a.cells) refl

-- ---- numbers of shapes

-- The shape stands at its number.
abbrev pub IsListed : List Shape → Shape → Type 0
IsListed xs s = slice_get xs (number_among xs s) ≡ Some s

at_next : (x : Shape) (xs : List Shape) (n : ℕ) (o : Option Shape) → slice_get xs n ≡ o → slice_get (x ∷ xs) (n + 1) ≡ o
at_next x xs n o h = let e : n + 1 ≡ suc n = omega arith in subst (λ m. slice_get (x ∷ xs) m ≡ o) (sym e) h

of_next : (x : Shape) (xs : List Shape) (n : ℕ) (o : Option Shape) → slice_get (x ∷ xs) (n + 1) ≡ o → slice_get xs n ≡ o
of_next x xs n o h = let e : n + 1 ≡ suc n = omega arith in subst (λ m. slice_get (x ∷ xs) m ≡ o) e h

first_or : (b : Bool) (x : Shape) (xs ys : List Shape) (n m : ℕ) (s : Shape) →
    (slice_get xs n ≡ Some s → slice_get ys m ≡ Some s) →
    slice_get (x ∷ xs) (if b then 0 else n + 1) ≡ Some s → slice_get (x ∷ ys) (if b then 0 else m + 1) ≡ Some s
first_or true x xs ys n m s f h = h
first_or false x xs ys n m s f h = at_next x ys m (Some s) (f (of_next x xs n (Some s) h))

-- So it does among more.
listed_more : (xs ys : List Shape) (s : Shape) → IsListed xs s → IsListed (xs ++ ys) s
listed_more [] ys s h = absurd cc
listed_more (x ∷ xs) ys s h =
    first_or (same_shape x s) x xs (xs ++ ys) (number_among xs s) (number_among (xs ++ ys) s) s
    (listed_more xs ys s) h

below_one : (b : Bool) (x : Shape) (xs : List Shape) (n : ℕ) (s : Shape) → same_shape x s ≡ b →
    (n < length xs → slice_get xs n ≡ Some s) →
    (if b then 0 else n + 1) < length xs + 1 → slice_get (x ∷ xs) (if b then 0 else n + 1) ≡ Some s
below_one true x xs n s e f h = ap Some (shape_is x s e)
below_one false x xs n s e f h = at_next x xs n (Some s) (f (omega arith))

listed_below : (xs : List Shape) (s : Shape) → number_among xs s < length xs → IsListed xs s
listed_below [] s h = absurd (omega arith)
listed_below (x ∷ xs) s h = below_one (same_shape x s) x xs (number_among xs s) s refl (listed_below xs s) (omega arith)

last_one : (b : Bool) (x : Shape) (xs : List Shape) (n : ℕ) (s : Shape) → same_shape x s ≡ b → slice_get xs n
    ≡ Some s → slice_get (x ∷ xs) (if b then 0 else n + 1) ≡ Some s
last_one true x xs n s e h = ap Some (shape_is x s e)
last_one false x xs n s e h = at_next x xs n (Some s) h

listed_last : (xs : List Shape) (s : Shape) → IsListed (xs ++ (s ∷ [])) s
listed_last [] s = rw (shape_itself s) refl
listed_last (x ∷ xs) s =
    last_one (same_shape x s) x (xs ++ (s ∷ [])) (number_among (xs ++ (s ∷ [])) s) s refl (listed_last xs s)

if_listed : (b : Bool) (xs ys : List Shape) (s : Shape) → (b ≡ true → IsListed xs s) → IsListed ys s →
    IsListed (if b then xs else ys) s
if_listed true xs ys s f h = f refl
if_listed false xs ys s f h = h

listed_with : (xs : List Shape) (s : Shape) → IsListed (with_shape xs s) s
listed_with xs s =
    if_listed (nat_lt (number_among xs s) (length xs)) xs (xs ++ (s ∷ [])) s
    (λ e. listed_below xs s (ltb-true (number_among xs s) (length xs) e)) (listed_last xs s)

listed_still : (known ss : List Shape) (s : Shape) → IsListed known s → IsListed (with_shapes known ss) s
listed_still known [] s h = h
listed_still known (t ∷ ss) s h =
    listed_still (with_shape known t) ss s
    (if_listed (nat_lt (number_among known t) (length known)) known (known ++ (t ∷ [])) s (λ e. h)
    (listed_more known (t ∷ []) s h))

-- Each shape that got a number stands there.
pub listed_all : (known ss : List Shape) (s : Shape) → Has ss s → IsListed (with_shapes known ss) s
listed_all known [] s h = absurd h
listed_all known (t ∷ ss) s (inl e) =
    listed_still (with_shape known t) ss s
    (subst (λ (u : Shape). IsListed (with_shape known t) u) e (listed_with known t))
listed_all known (t ∷ ss) s (inr h) = listed_all (with_shape known t) ss s h
