-- What private objects begin with.
use Rattle.std.proofs.Common.{◌≡◌, ◌≢◌, ℕ, zero, suc, ◌+◌, ◌*◌, ◌<◌, ◌≤◌, Bool, true, false, ◌==◌, cond, inl, inr}
use Rattle.std.proofs.Common.{List, [], ◌∷◌, ◌++◌, length, map, take, get_or, Option, Some, None, refl, sym, ap, ◌∙◌}
use Rattle.std.proofs.Common.{subst, arith}
use Rattle.std.proofs.Math.IntN.{pos}
use Rattle.std.specs.List.{slice_get}
use Rattle.std.proofs.lemmas.Bool.{eq-eqb, cases_eq}
use Rattle.block_layout.specs.declared.kind.Kind.{Kind}
use Rattle.block_layout.specs.declared.kind.Shape.{Shape}
use Rattle.block_layout.specs.declared.place.LocalPtr.{LocalPtr}
use Rattle.block_layout.specs.declared.place.LocalPtr.TheVariants as local
use Rattle.block_layout.specs.Shapes.{kind_size}
use Rattle.upc_values.specs.Openings.{Opening, is_initial}
use Rattle.block_layout.specs.Lists.{under}
use Rattle.upc_values.specs.Lists.{Each, Pairwise}
use Rattle.upc_values.specs.declared.scalar.Scalar.{Scalar}
use Rattle.upc_types.specs.declared.layout.Layout.{Layout}
use Rattle.upc_types.specs.Types.{CType, Qualified, Base, Integer, Array, Pointer, base_of, Structs}
use Rattle.upc_types.specs.Layout.{base_layout, layout_in}
use Rattle.block_layout.specs.Cells.{moved, copies}
use Rattle.upc_types.specs.Cells.{number_of, pointer_kind, leaf_base, leaves, leaf_cells}
use Rattle.upc_types.specs.Cells.{object_cells, struct_cells, object_shape}
use Rattle.typing_rules.specs.declared.attribute.Constant.{Constant}
use Rattle.typing_rules.specs.Attributes.{constant_of}
use Rattle.typed_tree.specs.Tree.{DeclaredObject, Initial, NoInitial, InitialValue, InitialList, attrs_of}
use Rattle.upc_values.specs.declared.scalar.Value.{Value}
use Rattle.upc_values.specs.declared.scalar.Value.TheVariants as value
use Rattle.typed_tree.specs.Initials.{Setting, scalar_kind, constants_in, part_of, cells_from, cells_in}
use Rattle.typed_tree.specs.Initials.{private_from, initial_value}
use Rattle.typed_tree.specs.layer.PrivateOpenings.{kind_in, private_cell, fits_cell, is_local, is_known}
use Rattle.upc_values.specs.Shapes.{value_fits}
use Rattle.typed_tree_opening.proofs.Starts.{each_grow, scalar_cells}
use Rattle.typed_tree_opening.proofs.Worth.{is_scalar, value_worth, value_local}
use Rattle.upc_types.proofs.Within.{kind_bytes}
use Rattle.upc_types.proofs.Members.{kind_some}
use Rattle.upc_values.proofs.Membership.{each-append}

-- ---- cells of one kind, one after the other

abbrev AreOf : Kind → List (ℕ × Kind) → Type 0
AreOf kind cells = Each (λ c. c.1 ≡ kind) cells

left_one : (b : Bool) (k kind : Kind) (r s : Option Kind) → (r ≡ Some kind → s ≡ Some kind) → cond b (Some k) r
    ≡ Some kind → cond b (Some k) s ≡ Some kind
left_one true k kind r s f h = h
left_one false k kind r s f h = f h

pub under_left : (n : ℕ) (kind : Kind) (xs ys : List (ℕ × Kind)) → under n xs ≡ Some kind → under n (xs ++ ys)
    ≡ Some kind
under_left n kind [] ys h = absurd cc
under_left n kind (c ∷ xs) ys h =
    left_one (c.0 == n) c.1 kind (under n xs) (under n (xs ++ ys)) (under_left n kind xs ys) h

last_one : (b : Bool) (k kind : Kind) (r : Option Kind) → k ≡ kind → r ≡ Some kind → cond b (Some k) r ≡ Some kind
last_one true k kind r e h = ap Some e
last_one false k kind r e h = h

under_last : (n : ℕ) (kind : Kind) (xs : List (ℕ × Kind)) → AreOf kind xs → under n (xs ++ ((n, kind) ∷ [])) ≡ Some kind
under_last n kind [] h = rw (eq-eqb n n refl) refl
under_last n kind (c ∷ xs) h =
    last_one (c.0 == n) c.1 kind (under n (xs ++ ((n, kind) ∷ []))) h.0 (under_last n kind xs h.1)

copies_of : (m size : ℕ) (kind : Kind) → AreOf kind (copies m size ((0, kind) ∷ []))
copies_of zero size kind = tt
copies_of (suc m) size kind =
    each-append (λ (c : ℕ × Kind). c.1 ≡ kind) (copies m size ((0, kind) ∷ []))
    (moved (m * size) ((0, kind) ∷ [])) (copies_of m size kind) (refl, tt)

copies_under : (m size : ℕ) (kind : Kind) (j : ℕ) → j < m → under (j * size) (copies m size ((0, kind) ∷ []))
    ≡ Some kind
copies_under zero size kind j h = absurd (omega arith)
copies_under (suc m) size kind j h =
    let before = copies m size ((0, kind) ∷ []) in
    let z : m * size ≡ m * size + 0 = omega arith in
    elim (cases_eq j m) [
      | inl e ↦ subst (λ i. under (i * size) (copies (suc m) size ((0, kind) ∷ [])) ≡ Some kind) (sym e)
          (subst (λ x. under (m * size) (before ++ ((x, kind) ∷ [])) ≡ Some kind) z
          (under_last (m * size) kind before (copies_of m size kind)))
      | inr ne ↦ under_left (j * size) kind before (moved (m * size) ((0, kind) ∷ []))
          (copies_under m size kind j (omega arith))
    ]

-- ---- objects whose leaf elements are scalars

scalar_leaves : (targets : List CType) (b : Base) (kind : Kind) → scalar_kind targets b ≡ Some kind → leaves b ≡ 1
scalar_leaves targets (Integer k) kind h = refl
scalar_leaves targets (Pointer t) kind h = refl
scalar_leaves targets b kind h = absurd cc

scalar_size : (targets : List CType) (f : ℕ → Layout) (b : Base) (kind : Kind) → scalar_kind targets b
    ≡ Some kind → (base_layout f (leaf_base b)).size ≡ kind_size kind
scalar_size targets f (Integer k) kind h = let e : k ≡ kind = cc in ap kind_size e
scalar_size targets f (Pointer (Qualified t c s x)) kind h =
    let e : pointer_kind targets (Qualified t c s x) ≡ kind = cc in
    sym (kind_bytes t s (number_of targets (Qualified t c s x))) ∙ ap kind_size e
scalar_size targets f b kind h = absurd cc

copies_are : (targets : List CType) (f : ℕ → Layout) (g : ℕ → List (ℕ × Kind)) (b : Base) (m : ℕ)
    (kind : Kind) → scalar_kind targets b ≡ Some kind →
    copies m (base_layout f (leaf_base b)).size (leaf_cells targets g (leaf_base b))
    ≡ copies m (kind_size kind) ((0, kind) ∷ [])
copies_are targets f g b m kind h =
    ap (λ n. copies m n (leaf_cells targets g (leaf_base b))) (scalar_size targets f b kind h)
    ∙ ap (copies m (kind_size kind)) (scalar_cells targets g b kind h)

object_copies : (targets : List CType) (f : ℕ → Layout) (g : ℕ → List (ℕ × Kind)) (b : Base) (kind : Kind) →
    scalar_kind targets (part_of b) ≡ Some kind →
    object_cells targets f g b ≡ copies (leaves b) (kind_size kind) ((0, kind) ∷ [])
object_copies targets f g (Array (Qualified e c s x) n) kind h = copies_are targets f g e (n * leaves e) kind h
object_copies targets f g (Integer k) kind h = copies_are targets f g (Integer k) 1 kind h
object_copies targets f g (Pointer t) kind h = copies_are targets f g (Pointer t) 1 kind h
object_copies targets f g b kind h = absurd cc

take_few : (n : ℕ) (cs : List Constant) → length (take n cs) ≤ n
take_few zero cs = omega arith
take_few (suc n) [] = omega arith
take_few (suc n) (c ∷ cs) = let h = take_few n cs in omega arith

-- There are no more values than elements.
values_few : (targets : List CType) (b : Base) (given : Initial) (kind : Kind) → scalar_kind targets (part_of b)
    ≡ Some kind → length (constants_in b given) ≤ leaves b
values_few targets (Array (Qualified e c s x) n) (InitialList es) kind h =
    let l = take_few n (map constant_of (attrs_of es)) in
    let k : n * leaves e ≡ n * 1 = ap (λ m. n * m) (scalar_leaves targets e kind h) in
    omega (arith, l, k)
values_few targets (Array (Qualified e c s x) n) NoInitial kind h = omega arith
values_few targets (Array (Qualified e c s x) n) (InitialValue v) kind h = omega arith
values_few targets (Integer k) (InitialValue v) kind h = omega arith
values_few targets (Integer k) NoInitial kind h = omega arith
values_few targets (Integer k) (InitialList es) kind h = omega arith
values_few targets (Pointer t) (InitialValue v) kind h = omega arith
values_few targets (Pointer t) NoInitial kind h = omega arith
values_few targets (Pointer t) (InitialList es) kind h = omega arith
values_few targets b given kind h = absurd cc

-- The cell of a value.
cell_at : (s : Structs) (b : Base) (given : Initial) (kind : Kind) (j : ℕ) → scalar_kind s.targets (part_of b)
    ≡ Some kind → j < length (constants_in b given) →
    under (0 + j * kind_size kind) (object_shape s b).cells ≡ Some kind
cell_at s b given kind j h k =
    let z : j * kind_size kind ≡ 0 + j * kind_size kind = omega arith in
    let few = values_few s.targets b given kind h in
    ap (under (0 + j * kind_size kind))
    (object_copies s.targets (layout_in s.completed) (struct_cells s.targets s.completed) b kind h)
    ∙ subst (λ x. under x (copies (leaves b) (kind_size kind) ((0, kind) ∷ [])) ≡ Some kind) z
    (copies_under (leaves b) (kind_size kind) kind j (omega (arith, few, k)))

-- ---- what holds at each value

module _ (P : LocalPtr × Value → Type 0) (σ : Setting) where
  each_cells : (n : ℕ) (kind : Kind) (offset : ℕ) (cs : List Constant) →
      ((j : ℕ) (c : Constant) → j < length cs →
      P (local.Private n (pos (offset + j * kind_size kind)), initial_value σ kind c)) →
      Each P (cells_from σ n kind offset cs)
  each_cells n kind offset [] f = tt
  each_cells n kind offset (c ∷ cs) f =
      let z : offset + 0 * kind_size kind ≡ offset = omega arith in (
        subst (λ o. P (local.Private n (pos o), initial_value σ kind c)) z (f 0 c (omega arith)),
        each_cells n kind (offset + kind_size kind) cs
            (λ j d h. let e : offset + suc j * kind_size kind
            ≡ offset + kind_size kind + j * kind_size kind = omega arith in
            subst (λ o. P (local.Private n (pos o), initial_value σ kind d)) e (f (suc j) d (omega (arith, h)))),
      )

  each_in : (n : ℕ) (k : Option Kind) (cs : List Constant) →
      ((kind : Kind) (j : ℕ) (c : Constant) → k ≡ Some kind → j < length cs →
      P (local.Private n (pos (0 + j * kind_size kind)), initial_value σ kind c)) → Each P (cells_in σ n k cs)
  each_in n None cs f = tt
  each_in n (Some kind) cs f = each_cells n kind 0 cs (λ j c h. f kind j c refl h)

  pub each_private : (n : ℕ) (xs : List DeclaredObject) (e : DeclaredObject) →
      ((i : ℕ) (kind : Kind) (j : ℕ) (c : Constant) → i < length xs →
      scalar_kind σ.structs.targets (part_of (base_of (get_or xs i e).ctype)) ≡ Some kind →
      j < length (constants_in (base_of (get_or xs i e).ctype) (get_or xs i e).initial) →
      P (local.Private (n + i) (pos (0 + j * kind_size kind)), initial_value σ kind c)) →
      Each P (private_from σ n xs)
  each_private n [] e f = tt
  each_private n (x ∷ xs) e f =
      let k = scalar_kind σ.structs.targets (part_of (base_of x.ctype)) in
      let cs = constants_in (base_of x.ctype) x.initial in
      let z : n + 0 ≡ n = omega arith in
      each-append P (cells_in σ n k cs) (private_from σ (n + 1) xs)
      (each_in n k cs (λ kind j c h l. subst
      (λ m. P (local.Private m (pos (0 + j * kind_size kind)), initial_value σ kind c)) z
      (f 0 kind j c (omega arith) h l)))
      (each_private (n + 1) xs e
      (λ i kind j c h l m. let s : n + suc i ≡ n + 1 + i = omega arith in
      subst (λ o. P (local.Private o (pos (0 + j * kind_size kind)), initial_value σ kind c)) s
      (f (suc i) kind j c (omega (arith, h)) l m)))

-- ---- each value fits its cell, and is known

abbrev pub shapes_of : Structs → List DeclaredObject → List Shape
shapes_of s xs = map (λ x. object_shape s (base_of x.ctype)) xs

slice_shapes : (s : Structs) (xs : List DeclaredObject) (i : ℕ) (e : DeclaredObject) → i < length xs →
    slice_get (shapes_of s xs) i ≡ Some (object_shape s (base_of (get_or xs i e).ctype))
slice_shapes s [] i e h = absurd (omega arith)
slice_shapes s (x ∷ xs) zero e h = refl
slice_shapes s (x ∷ xs) (suc i) e h = slice_shapes s xs i e (omega arith)

its_value_fits : (σ : Setting) (kind : Kind) (c : Constant) (v : Value) → initial_value σ kind c ≡ v → value_fits v kind ≡ true
its_value_fits σ kind c (value.Scalar w) e = (value_worth σ kind c w e).fit
its_value_fits σ kind c (value.Local p) e = (value_local σ kind c p e).fit

pub private_fit : (σ : Setting) (xs : List DeclaredObject) (e : DeclaredObject) →
    Each (λ x. fits_cell x.1 (private_cell (shapes_of σ.structs xs) x.0) ≡ true) (private_from σ 0 xs)
private_fit σ xs e =
    let P : LocalPtr × Value → Type 0 = λ x. fits_cell x.1 (private_cell (shapes_of σ.structs xs) x.0) ≡ true in
    each_private P σ 0 xs e
    (λ i kind j c h k l.
    let x = get_or xs i e in
    let z : i ≡ 0 + i = omega arith in
    let offset = 0 + j * kind_size kind in
    let shape : kind_in (slice_get (shapes_of σ.structs xs) i) offset ≡ Some kind =
    ap (λ (r : Option Shape). kind_in r offset) (slice_shapes σ.structs xs i e h)
    ∙ cell_at σ.structs (base_of x.ctype) x.initial kind j k l in
    subst (λ n. fits_cell (initial_value σ kind c) (kind_in (slice_get (shapes_of σ.structs xs) n) offset) ≡ true) z
    (ap (fits_cell (initial_value σ kind c)) shape ∙ its_value_fits σ kind c (initial_value σ kind c) refl))

known_is : (σ : Setting) (o : Opening) (privates : ℕ) (kind : Kind) (c : Constant) (v : Value) → σ.privates
    ≡ privates → ((w : Scalar) → is_scalar σ w ≡ true → is_initial o w ≡ true) →
    initial_value σ kind c ≡ v → is_known o privates v ≡ true
known_is σ o privates kind c (value.Scalar w) p f e = f w (value_worth σ kind c w e).known
known_is σ o privates kind c (value.Local q) p f e = subst (λ n. is_local n q ≡ true) p (value_local σ kind c q e).known

pub private_known : (σ : Setting) (o : Opening) (privates : ℕ) (xs : List DeclaredObject) (e : DeclaredObject) →
    σ.privates ≡ privates → ((w : Scalar) → is_scalar σ w ≡ true → is_initial o w ≡ true) →
    Each (λ x. is_known o privates x.1 ≡ true) (private_from σ 0 xs)
private_known σ o privates xs e p f =
    let P : LocalPtr × Value → Type 0 = λ x. is_known o privates x.1 ≡ true in
    each_private P σ 0 xs e (λ i kind j c h k l. known_is σ o privates kind c (initial_value σ kind c) p f refl)

-- ---- at most one value for a cell

abbrev object_in : LocalPtr → ℕ
object_in (local.Private n z) = n
object_in p = 0

abbrev offset_in : LocalPtr → ℕ
offset_in (local.Private n (pos z)) = z
offset_in p = 0

abbrev IsBehind : ℕ → ℕ → LocalPtr × Value → Type 0
IsBehind n offset x = (object_in x.0 ≡ n) × (offset ≤ offset_in x.0)

cells_behind : (σ : Setting) (n : ℕ) (kind : Kind) (offset : ℕ) (cs : List Constant) →
    Each (IsBehind n offset) (cells_from σ n kind offset cs)
cells_behind σ n kind offset [] = tt
cells_behind σ n kind offset (c ∷ cs) = (
  (refl, omega arith),
  each_grow (IsBehind n (offset + kind_size kind)) (IsBehind n offset) (λ x h. (h.0, omega (arith, h.1)))
      (cells_from σ n kind (offset + kind_size kind) cs)
      (cells_behind σ n kind (offset + kind_size kind) cs),
)

abbrev Differ : LocalPtr × Value → LocalPtr × Value → Type 0
Differ x y = x.0 ≢ y.0

cells_once : (σ : Setting) (n : ℕ) (kind : Kind) (offset : ℕ) (cs : List Constant) →
    Pairwise Differ (cells_from σ n kind offset cs)
cells_once σ n kind offset [] = tt
cells_once σ n kind offset (c ∷ cs) =
    let some = kind_some kind in
    let x : LocalPtr × Value = (local.Private n (pos offset), initial_value σ kind c) in (
      each_grow (IsBehind n (offset + kind_size kind)) (Differ x)
          (λ y h e. let f : offset ≡ offset_in y.0 = ap offset_in e in omega (arith, h.1, f, some))
          (cells_from σ n kind (offset + kind_size kind) cs) (cells_behind σ n kind (offset + kind_size kind) cs),
      cells_once σ n kind (offset + kind_size kind) cs,
    )

pair_append : (xs ys : List (LocalPtr × Value)) → Pairwise Differ xs → Pairwise Differ ys →
    Each (λ x. Each (Differ x) ys) xs → Pairwise Differ (xs ++ ys)
pair_append [] ys h k l = k
pair_append (x ∷ xs) ys h k l = (each-append (Differ x) xs ys h.0 l.0, pair_append xs ys h.1 k l.1)

abbrev IsAt : ℕ → LocalPtr × Value → Type 0
IsAt n x = object_in x.0 ≡ n

abbrev IsFrom : ℕ → LocalPtr × Value → Type 0
IsFrom n x = n ≤ object_in x.0

in_at : (σ : Setting) (n : ℕ) (k : Option Kind) (cs : List Constant) → Each (IsAt n) (cells_in σ n k cs)
in_at σ n None cs = tt
in_at σ n (Some kind) cs =
    each_grow (IsBehind n 0) (IsAt n) (λ x h. h.0) (cells_from σ n kind 0 cs) (cells_behind σ n kind 0 cs)

in_once : (σ : Setting) (n : ℕ) (k : Option Kind) (cs : List Constant) → Pairwise Differ (cells_in σ n k cs)
in_once σ n None cs = tt
in_once σ n (Some kind) cs = cells_once σ n kind 0 cs

private_behind : (σ : Setting) (n : ℕ) (xs : List DeclaredObject) → Each (IsFrom n) (private_from σ n xs)
private_behind σ n [] = tt
private_behind σ n (x ∷ xs) =
    let k = scalar_kind σ.structs.targets (part_of (base_of x.ctype)) in
    let cs = constants_in (base_of x.ctype) x.initial in
    each-append (IsFrom n) (cells_in σ n k cs) (private_from σ (n + 1) xs)
    (each_grow (IsAt n) (IsFrom n) (λ y h. omega (arith, h)) (cells_in σ n k cs) (in_at σ n k cs))
    (each_grow (IsFrom (n + 1)) (IsFrom n) (λ y h. omega (arith, h)) (private_from σ (n + 1) xs)
    (private_behind σ (n + 1) xs))

pub private_once : (σ : Setting) (n : ℕ) (xs : List DeclaredObject) → Pairwise (λ x y. x.0 ≢ y.0) (private_from σ n xs)
private_once σ n [] = tt
private_once σ n (x ∷ xs) =
    let k = scalar_kind σ.structs.targets (part_of (base_of x.ctype)) in
    let cs = constants_in (base_of x.ctype) x.initial in
    let rest = private_from σ (n + 1) xs in
    pair_append (cells_in σ n k cs) rest (in_once σ n k cs) (private_once σ (n + 1) xs)
    (each_grow (IsAt n) (λ (y : LocalPtr × Value). Each (Differ y) rest)
    (λ y h. each_grow (IsFrom (n + 1)) (Differ y)
    (λ z l e. let f : object_in y.0 ≡ object_in z.0 = ap object_in e in omega (arith, h, l, f)) rest
    (private_behind σ (n + 1) xs))
    (cells_in σ n k cs) (in_at σ n k cs))
