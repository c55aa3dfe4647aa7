-- What shared objects begin with.
use Rattle.std.proofs.Common.{◌≡◌, ◌≢◌, ℕ, zero, suc, ◌+◌, ◌<◌, ◌≤◌, ◌/◌, ◌%◌, Bool, true, false, ◌==◌, not, nat_lt}
use Rattle.std.proofs.Common.{cond, if◌then◌else◌, List, [], ◌∷◌, ◌++◌, length, map, take, get_or, Option, Some}
use Rattle.std.proofs.Common.{None, refl, ap, ◌∙◌, subst, arith, lt-ltb}
use Rattle.std.proofs.Math.Nat.{zero-div, zero-mod}
use Rattle.std.specs.List.{slice_get, find}
use Rattle.std.proofs.lemmas.Bool.{eq-eqb, eqb-true, false_from_ne_true}
use Rattle.block_layout.specs.declared.kind.Kind.{Kind}
use Rattle.block_layout.specs.declared.kind.Shape.{Shape}
use Rattle.block_layout.specs.declared.place.Loc.{Loc}
use Rattle.block_layout.specs.declared.place.ObjectRef.{ObjectRef}
use Rattle.block_layout.specs.Pieces.{count_below, piece_of}
use Rattle.upc_values.specs.declared.scalar.Scalar.{Scalar}
use Rattle.upc_values.specs.declared.scalar.Scalar.TheVariants as scalar
use Rattle.block_layout.specs.Lists.{under}
use Rattle.upc_values.specs.Lists.{Each, Pairwise}
use Rattle.upc_values.specs.Shapes.{kind_at, cell_in, fits_cell, fits_kind}
use Rattle.block_layout.specs.Cells.{is_private}
use Rattle.upc_values.specs.Openings.{Opening, cell_of, is_initial}
use Rattle.upc_types.specs.Types.{CType, Base, Void, Integer, Struct, Array, Pointer, LockObject, base_of, Structs}
use Rattle.upc_types.specs.Layout.{size}
use Rattle.upc_types.specs.Cells.{pointer_kind, leaf_base, leaf_cells, struct_cells}
use Rattle.typing_rules.specs.declared.attribute.Constant.{Constant}
use Rattle.typed_tree.specs.Tree.{DeclaredObject, Initial, NoInitial, InitialValue, InitialList, attr_of}
use Rattle.typed_tree.specs.layer.Parts.{object_of}
use Rattle.typing_rules.specs.Attributes.{constant_of}
use Rattle.upc_values.specs.declared.scalar.Value.{Value}
use Rattle.upc_values.specs.declared.scalar.Value.TheVariants as value
use Rattle.block_layout.specs.Cells.{sharable}
use Rattle.typed_tree.specs.Elements.{element_shape}
use Rattle.typed_tree.specs.Objects.{bytes_in, lies, placed_from}
use Rattle.typed_tree.specs.Initials.{Setting, scalar_kind, single, at_start, shared_from, initial_value}
use Rattle.typed_tree_opening.proofs.Sound.{IsListed}
use Rattle.typed_tree_opening.proofs.Lying.{placed_at}
use Rattle.typed_tree_opening.proofs.Worth.{IsWorth, is_scalar, value_worth}
use Rattle.upc_values.proofs.Membership.{each-append}

-- ---- at most one value for a cell

pub each_grow : {X : Type 0} (P Q : X → Type 0) → ((x : X) → P x → Q x) → (xs : List X) → Each P xs → Each Q xs
each_grow P Q f [] h = tt
each_grow P Q f (x ∷ xs) h = (f x h.0, each_grow P Q f xs h.1)

abbrev IsFrom : ℕ → Loc × Scalar → Type 0
IsFrom n x = n ≤ x.0.object

start_from : (n : ℕ) (v : Option Value) → Each (IsFrom n) (at_start n v)
start_from n None = tt
start_from n (Some (value.Scalar v)) = (omega arith, tt)
start_from n (Some (value.Local p)) = tt

all_from : (σ : Setting) (n : ℕ) (xs : List DeclaredObject) → Each (IsFrom n) (shared_from σ n xs)
all_from σ n [] = tt
all_from σ n (x ∷ xs) =
    let v = single σ (scalar_kind σ.structs.targets (base_of x.ctype)) x.initial in
    each-append (IsFrom n) (at_start n v) (shared_from σ (n + 1) xs) (start_from n v)
    (each_grow (IsFrom (n + 1)) (IsFrom n) (λ y h. omega (arith, h)) (shared_from σ (n + 1) xs) (all_from σ (n + 1) xs))

start_once : (n : ℕ) (v : Option Value) (ys : List (Loc × Scalar)) → Each (IsFrom (n + 1)) ys →
    Pairwise (λ x y. x.0 ≢ y.0) ys → Pairwise (λ x y. x.0 ≢ y.0) (at_start n v ++ ys)
start_once n None ys h k = k
start_once n (Some (value.Scalar v)) ys h k =
    let start : Loc = record { object = n; thread = 0; offset = 0 } in (
      each_grow (IsFrom (n + 1)) (λ (y : Loc × Scalar). start ≢ y.0)
          (λ y l e. let f : n ≡ y.0.object = ap (λ (z : Loc). z.object) e in omega (arith, l, f)) ys h,
      k,
    )
start_once n (Some (value.Local p)) ys h k = k

pub shared_once : (σ : Setting) (n : ℕ) (xs : List DeclaredObject) → Pairwise (λ x y. x.0 ≢ y.0) (shared_from σ n xs)
shared_once σ n [] = tt
shared_once σ n (x ∷ xs) =
    start_once n (single σ (scalar_kind σ.structs.targets (base_of x.ctype)) x.initial)
    (shared_from σ (n + 1) xs) (all_from σ (n + 1) xs) (shared_once σ (n + 1) xs)

-- ---- what holds at each object holds of all values

pub each_shared : (P : Loc × Scalar → Type 0) (σ : Setting) (n : ℕ) (xs : List DeclaredObject) (e : DeclaredObject) →
    ((i : ℕ) → i < length xs → Each P
    (at_start (n + i) (single σ (scalar_kind σ.structs.targets (base_of (get_or xs i e).ctype))
    (get_or xs i e).initial))) → Each P (shared_from σ n xs)
each_shared P σ n [] e f = tt
each_shared P σ n (x ∷ xs) e f =
    let v = single σ (scalar_kind σ.structs.targets (base_of x.ctype)) x.initial in
    let z : n + 0 ≡ n = omega arith in
    each-append P (at_start n v) (shared_from σ (n + 1) xs)
    (subst (λ m. Each P (at_start m v)) z (f 0 (omega arith)))
    (each_shared P σ (n + 1) xs e
    (λ i h. let s : n + suc i ≡ n + 1 + i = omega arith in
    subst (λ m. Each P (at_start m (single σ (scalar_kind σ.structs.targets (base_of (get_or xs i e).ctype))
    (get_or xs i e).initial))) s (f (suc i) (omega (arith, h)))))

-- ---- the cell of a scalar

count_some : (test : ℕ → Bool) (n : ℕ) → test 0 ≡ true → 0 < n → 0 < count_below test n
count_some test zero h k = absurd (omega arith)
count_some test (suc zero) h k = rw h (omega arith)
count_some test (suc (suc n)) h k =
    more (test (suc n)) (count_below test (suc n)) (count_some test (suc n) h (omega arith))
  where
    more : (b : Bool) (c : ℕ) → 0 < c → 0 < (if b then suc c else c)
    more true c h = omega arith
    more false c h = h

if_piece : (b : Bool) (total c : ℕ) → 0 < total → 0 < c → 0 < (if b then total else c)
if_piece true total c h k = h
if_piece false total c h k = k

-- Some bytes of an object lie on its home, which is thread 0.
piece_some : (s : Structs) (shapes : List Shape) (number base threads : ℕ) (t : CType) → 0 < size s t →
    nat_lt 0 (piece_of (lies s shapes number base t) 0 threads) ≡ true
piece_some s shapes number base threads t h =
    let o = (lies s shapes number base t) in
    let first : (0 / o.block % threads == 0) ≡ true = rw (zero-div o.block, zero-mod threads) refl in
    lt-ltb 0 (piece_of o 0 threads)
    (if_piece (o.block == 0) o.total (count_below (λ x. x / o.block % threads == 0) o.total) h
    (count_some (λ x. x / o.block % threads == 0) o.total first h))

find_one : (b : Bool) (o : ObjectRef) (r w : Option ObjectRef) → b ≡ false → r ≡ w → cond b (Some o) r ≡ w
find_one true o r w e h = absurd cc
find_one false o r w e h = h

find_first : (b : Bool) (o : ObjectRef) (r : Option ObjectRef) → b ≡ true → cond b (Some o) r ≡ Some o
find_first true o r e = refl
find_first false o r e = absurd cc

find_index : (s : Structs) (shapes : List Shape) (number base i : ℕ) (xs : List DeclaredObject)
    (d : ObjectRef) → i < length xs →
    find (λ o. o.number == number + i) (map object_of (placed_from s shapes number base xs))
    ≡ Some (get_or (map object_of (placed_from s shapes number base xs)) i d)
find_index s shapes number base i [] d h = absurd (omega arith)
find_index s shapes number base zero (x ∷ xs) d h =
    find_first (number == number + 0) _ _ (eq-eqb number (number + 0) (omega arith))
find_index s shapes number base (suc i) (x ∷ xs) d h =
    let rest = map object_of (placed_from s shapes (number + 1) (base + size s x.ctype) xs) in
    let k = find_index s shapes (number + 1) (base + size s x.ctype) i xs d (omega arith) in
    let n : number + 1 + i ≡ number + suc i = omega arith in
    find_one (number == number + suc i) (lies s shapes number base x.ctype)
    (find (λ o. o.number == number + suc i) rest) (Some (get_or rest i d))
    (false_from_ne_true (number == number + suc i)
    (λ e. let f : number ≡ number + suc i = eqb-true number (number + suc i) e in omega arith))
    (subst (λ m. find (λ o. o.number == m) rest ≡ Some (get_or rest i d)) n k)

pub find_placed : (s : Structs) (shapes : List Shape) (number base i : ℕ) (xs : List DeclaredObject)
    (e : DeclaredObject) → i < length xs →
    find (λ o. o.number == number + i) (map object_of (placed_from s shapes number base xs))
    ≡ Some (lies s shapes (number + i) (base + bytes_in s (take i xs)) (get_or xs i e).ctype)
find_placed s shapes number base i xs e h =
    let d = (lies s shapes 0 0 e.ctype) in
    find_index s shapes number base i xs d h
    ∙ ap (λ (o : ObjectRef). Some o) (placed_at s shapes number base i xs d e h)

-- What there is, and what a program begins with.
abbrev pub setting_of : ℕ → ℕ → Structs → List Shape → List DeclaredObject → Setting
setting_of threads privates s shapes xs =
    record { threads = threads; privates = privates; structs = s; shared = placed_from s shapes 1 0 xs }

abbrev pub opened : ℕ → Structs → List Shape → List DeclaredObject → List (Loc × Scalar) → Opening
opened threads s shapes xs initials =
    record {
      threads = threads;
      declared = map object_of
          (placed_from s shapes 1 0 xs);
      initials = initials;
      shapes = shapes;
    }

abbrev start_of : ℕ → Loc
start_of n = record { object = n; thread = 0; offset = 0 }

-- The first cell of an object.
pub cell_is : (threads : ℕ) (s : Structs) (shapes : List Shape) (xs : List DeclaredObject)
    (initials : List (Loc × Scalar)) (i : ℕ) (e : DeclaredObject) → i < length xs →
    0 < size s (get_or xs i e).ctype → IsListed shapes (element_shape s (get_or xs i e).ctype) →
    cell_of (opened threads s shapes xs initials) (map object_of (placed_from s shapes 1 0 xs))
    (start_of (1 + i)) ≡ kind_at (Some (element_shape s (get_or xs i e).ctype)) 0
cell_is threads s shapes xs initials i e h some listed =
    let t = (get_or xs i e).ctype in
    let base = 0 + bytes_in s (take i xs) in
    let there = kind_at (slice_get shapes (lies s shapes (1 + i) base t).shape) 0 in
    ap (λ (r : Option ObjectRef). cell_in threads shapes r (start_of (1 + i))) (find_placed s shapes 1 0 i xs e h)
    ∙ ap (λ b. cond b there None) (piece_some s shapes (1 + i) base threads t some)
    ∙ ap (λ (q : Option Shape). kind_at q 0) listed

pub scalar_cells : (targets : List CType) (g : ℕ → List (ℕ × Kind)) (b : Base) (kind : Kind) →
    scalar_kind targets b ≡ Some kind → leaf_cells targets g (leaf_base b) ≡ (0, kind) ∷ []
scalar_cells targets g Void kind h = absurd cc
scalar_cells targets g (Integer k) kind h = let e : k ≡ kind = cc in ap (λ (j : Kind). (0, j) ∷ []) e
scalar_cells targets g (Struct n) kind h = absurd cc
scalar_cells targets g (Array t n) kind h = absurd cc
scalar_cells targets g (Pointer t) kind h =
    let e : pointer_kind targets t ≡ kind = cc in ap (λ (j : Kind). (0, j) ∷ []) e
scalar_cells targets g LockObject kind h = absurd cc

kept_cell : (b : Bool) (kind : Kind) → b ≡ false → under 0 (if not b then (0, kind) ∷ [] else []) ≡ Some kind
kept_cell true kind h = absurd cc
kept_cell false kind h = refl

first_cell : (s : Structs) (t : CType) (kind : Kind) → scalar_kind s.targets (base_of t) ≡ Some kind →
    is_private kind ≡ false → kind_at (Some (element_shape s t)) 0 ≡ Some kind
first_cell s t kind h p =
    ap (λ n. under n (element_shape s t).cells) (zero-mod (element_shape s t).size)
    ∙ ap (λ cs. under 0 (sharable cs)) (scalar_cells s.targets (struct_cells s.targets s.completed) (base_of t) kind h)
    ∙ kept_cell (is_private kind) kind p

-- ---- values that fit, and are known

module _ (P : Loc × Scalar → Type 0) (σ : Setting) (n : ℕ) where
  value_start : (kind : Kind) (c : Constant) (v : Value) → initial_value σ kind c ≡ v →
      ((w : Scalar) → IsWorth σ kind w → P (start_of n, w)) → Each P (at_start n (Some v))
  value_start kind c (value.Scalar w) e f = (f w (value_worth σ kind c w e), tt)
  value_start kind c (value.Local p) e f = tt

  pub single_start : (k : Option Kind) (given : Initial) →
      ((kind : Kind) (w : Scalar) → k ≡ Some kind → IsWorth σ kind w → P (start_of n, w)) →
      Each P (at_start n (single σ k given))
  single_start None given f = tt
  single_start (Some kind) NoInitial f = tt
  single_start (Some kind) (InitialValue e) f =
      value_start kind (constant_of (attr_of e)) (initial_value σ kind (constant_of (attr_of e))) refl
      (λ w h. f kind w refl h)
  single_start (Some kind) (InitialList es) f = tt

fits_kind_at : (v : Scalar) (o : Option Kind) (kind : Kind) → o ≡ Some kind → fits_kind v kind ≡ true →
    fits_cell v o ≡ true
fits_kind_at v o kind e h = ap (fits_cell v) e ∙ h

-- Each value fits its cell.
pub shared_fit : (threads privates : ℕ) (s : Structs) (shapes : List Shape) (xs : List DeclaredObject)
    (initials : List (Loc × Scalar)) (e : DeclaredObject) →
    ((i : ℕ) → i < length xs → (0 < size s (get_or xs i e).ctype)
    × IsListed shapes (element_shape s (get_or xs i e).ctype)) →
    Each (λ x. fits_cell x.1 (cell_of (opened threads s shapes xs initials)
    (map object_of (placed_from s shapes 1 0 xs)) x.0) ≡ true)
    (shared_from (setting_of threads privates s shapes xs) 1 xs)
shared_fit threads privates s shapes xs initials e f =
    let σ = setting_of threads privates s shapes xs in
    let P : Loc × Scalar → Type 0 = λ x. fits_cell x.1
    (cell_of (opened threads s shapes xs initials) (map object_of (placed_from s shapes 1 0 xs)) x.0) ≡ true in
    each_shared P σ 1 xs e
    (λ i h. single_start P σ (1 + i) (scalar_kind s.targets (base_of (get_or xs i e).ctype)) (get_or xs i e).initial
    (λ kind w k worth. fits_kind_at w _ kind
    (cell_is threads s shapes xs initials i e h (f i h).0 (f i h).1
    ∙ first_cell s (get_or xs i e).ctype kind k worth.sharable) worth.fit))

pub known_is : (threads privates : ℕ) (s : Structs) (shapes : List Shape) (xs : List DeclaredObject)
    (initials : List (Loc × Scalar)) (w : Scalar) →
    is_scalar (setting_of threads privates s shapes xs) w ≡ true →
    is_initial (opened threads s shapes xs initials) w ≡ true
known_is threads privates s shapes xs initials (scalar.Int v) h = refl
known_is threads privates s shapes xs initials (scalar.Shared p) h = h
known_is threads privates s shapes xs initials (scalar.Lock l) h = h

-- Each value names nothing but declared objects.
pub shared_known : (threads privates : ℕ) (s : Structs) (shapes : List Shape) (xs : List DeclaredObject)
    (initials : List (Loc × Scalar)) (e : DeclaredObject) →
    Each (λ x. is_initial (opened threads s shapes xs initials) x.1 ≡ true)
    (shared_from (setting_of threads privates s shapes xs) 1 xs)
shared_known threads privates s shapes xs initials e =
    let σ = setting_of threads privates s shapes xs in
    let P : Loc × Scalar → Type 0 = λ x. is_initial (opened threads s shapes xs initials) x.1 ≡ true in
    each_shared P σ 1 xs e
    (λ i h. single_start P σ (1 + i) (scalar_kind s.targets (base_of (get_or xs i e).ctype)) (get_or xs i e).initial
    (λ kind w k worth. known_is threads privates s shapes xs initials w worth.known))
