-- Where the shared objects lie.
use Rattle.std.proofs.Common.{◌≡◌, ℕ, zero, suc, ◌+◌, ◌*◌, ◌%◌, ◌<◌, ◌≤◌, min, Bool, true, false, ◌⊎◌, inl, inr}
use Rattle.std.proofs.Common.{if◌then◌else◌, List, [], ◌∷◌, ◌++◌, length, map, filter, take, get_or, refl, sym, ap}
use Rattle.std.proofs.Common.{◌∙◌, subst, arith}
use Rattle.std.proofs.Math.Nat.{mul-mod_left}
use Rattle.std.proofs.lemmas.List.Sums.{sum_by-cons}
use Rattle.block_layout.specs.declared.kind.Shape.{Shape}
use Rattle.block_layout.specs.declared.place.ObjectRef.{ObjectRef}
use Rattle.upc_values.specs.Lists.{Each, Has, Numbered}
use Rattle.upc_values.specs.Openings.{Opening, IsDeclared, bytes_of}
use Rattle.upc_types.specs.Types.{CType, Structs, base_of, block_of}
use Rattle.upc_types.specs.Layout.{size, layout_in}
use Rattle.upc_types.specs.Cells.{leaves}
use Rattle.upc_types.proofs.Within.{leaf_sizes}
use Rattle.typing_rules.specs.Constants.{block_or_none}
use Rattle.typed_tree.specs.Tree.{DeclaredObject}
use Rattle.typed_tree.specs.layer.Parts.{object_of}
use Rattle.typed_tree.specs.Elements.{element_shape, element_shapes}
use Rattle.typing_rules.specs.Rules.{has_size}
use Rattle.typed_tree.specs.Objects.{type_of, bytes_in, lies, placed_from}
use Rattle.typed_tree_opening.proofs.Shapes.{layout_is}
use Rattle.typed_tree_opening.proofs.Placing.{bytes_step}
use Rattle.typed_tree_opening.proofs.Sound.{AreFine, IsListed, base_some, listed_all}

-- ---- the objects, one by one

pub placed_take : (s : Structs) (shapes : List Shape) (number base i : ℕ) (xs : List DeclaredObject) →
    take i (map object_of (placed_from s shapes number base xs))
    ≡ map object_of (placed_from s shapes number base (take i xs))
placed_take s shapes number base zero xs = refl
placed_take s shapes number base (suc i) [] = refl
placed_take s shapes number base (suc i) (x ∷ xs) =
    ap (λ (os : List ObjectRef). (lies s shapes number base x.ctype) ∷ os)
    (placed_take s shapes (number + 1) (base + size s x.ctype) i xs)

pub placed_length : (s : Structs) (shapes : List Shape) (number base : ℕ) (xs : List DeclaredObject) →
    length (map object_of (placed_from s shapes number base xs)) ≡ length xs
placed_length s shapes number base [] = refl
placed_length s shapes number base (x ∷ xs) =
    let h = placed_length s shapes (number + 1) (base + size s x.ctype) xs in omega (arith, h)

pub placed_bytes : (s : Structs) (shapes : List Shape) (number base : ℕ) (xs : List DeclaredObject) →
    bytes_of (map object_of (placed_from s shapes number base xs)) ≡ bytes_in s xs
placed_bytes s shapes number base [] = refl
placed_bytes s shapes number base (x ∷ xs) =
    let h = placed_bytes s shapes (number + 1) (base + size s x.ctype) xs in
    sum_by-cons (λ (o : ObjectRef). o.total) (lies s shapes number base x.ctype)
    (map object_of (placed_from s shapes (number + 1) (base + size s x.ctype) xs))
    ∙ ap (λ n. size s x.ctype + n) h ∙ sym (bytes_step s x xs)

pub placed_at : (s : Structs) (shapes : List Shape) (number base i : ℕ) (xs : List DeclaredObject)
    (d : ObjectRef) (e : DeclaredObject) → i < length xs →
    get_or (map object_of (placed_from s shapes number base xs)) i d
    ≡ (lies s shapes (number + i) (base + bytes_in s (take i xs)) (get_or xs i e).ctype)
placed_at s shapes number base i [] d e h = absurd (omega arith)
placed_at s shapes number base zero (x ∷ xs) d e h =
    let n : number ≡ number + 0 = omega arith in
    let b : base ≡ base + 0 = omega arith in
    ap (λ m. (lies s shapes m base x.ctype)) n ∙ ap (λ m. (lies s shapes (number + 0) m x.ctype)) b
placed_at s shapes number base (suc i) (x ∷ xs) d e h =
    let k = placed_at s shapes (number + 1) (base + size s x.ctype) i xs d e (omega arith) in
    let n : number + 1 + i ≡ number + suc i = omega arith in
    let l = bytes_step s x (take i xs) in
    let b : base + size s x.ctype + bytes_in s (take i xs) ≡ base + bytes_in s (x ∷ take i xs) = omega (arith, l) in
    k ∙ ap (λ m. (lies s shapes m (base + size s x.ctype + bytes_in s (take i xs)) (get_or xs i e).ctype)) n
    ∙ ap (λ m. (lies s shapes (number + suc i) m (get_or xs i e).ctype)) b

-- ---- lists

pub has_at : {X Y : Type 0} (f : X → Y) (xs : List X) (ys : List Y) (i : ℕ) (e : X) → i < length xs →
    Has (map f xs ++ ys) (f (get_or xs i e))
has_at f [] ys i e h = absurd (omega arith)
has_at f (x ∷ xs) ys zero e h = inl refl
has_at f (x ∷ xs) ys (suc i) e h = inr (has_at f xs ys i e (omega arith))

kept_each : {X : Type 0} (P : X → Type 0) (b : Bool) (x : X) (xs : List X) → P x → Each P xs →
    Each P (if b then x ∷ xs else xs)
kept_each P true x xs p h = (p, h)
kept_each P false x xs p h = h

pub each_filter : {X : Type 0} (P : X → Type 0) (test : X → Bool) (xs : List X) → Each P xs → Each P (filter test xs)
each_filter P test [] h = tt
each_filter P test (x ∷ xs) h = kept_each P (test x) x (filter test xs) h.0 (each_filter P test xs h.1)

pub each_get : {X : Type 0} (P : X → Type 0) (xs : List X) (i : ℕ) (e : X) → i < length xs → Each P xs →
    P (get_or xs i e)
each_get P [] i e h k = absurd (omega arith)
each_get P (x ∷ xs) zero e h k = k.0
each_get P (x ∷ xs) (suc i) e h k = each_get P xs i e (omega arith) k.1

-- ---- a declared object

min_whole : (k l m n : ℕ) → n ≡ l * m → min (k * m) n % m ≡ 0
min_whole k l m n h =
    go (min_cases (k * m) n)
  where
    min_cases : (a b : ℕ) → (min a b ≡ a) ⊎ (min a b ≡ b)
    min_cases a b = grind arith

    go : (min (k * m) n ≡ k * m) ⊎ (min (k * m) n ≡ n) → min (k * m) n % m ≡ 0
    go (inl e) = ap (λ x. x % m) e ∙ mul-mod_left k m
    go (inr e) = ap (λ x. x % m) (e ∙ h) ∙ mul-mod_left l m

pub declared_is : (o : Opening) (s : Structs) (i base : ℕ) (t : CType) → AreFine s.completed → has_size s t
    ≡ true → 0 < o.threads →
    IsListed o.shapes (element_shape s t) → base ≡ bytes_of (take i o.declared) →
    IsDeclared o i (lies s o.shapes (1 + i) base t)
declared_is o s i base t f h threads listed b =
    let l = layout_is s t h in
    let whole : size s t ≡ leaves (base_of t) * (element_shape s t).size = leaf_sizes (layout_in s.completed)
    (base_of t) in
    let few : size s t ≤ 16777216 = l.few in
    record {
      number = omega arith;
      shape = element_shape s t;
      listed = listed;
      least = base_some s.completed f (base_of t) l.complete;
      block = omega arith;
      home = threads;
      whole = ap (λ n. n % (element_shape s t).size) whole ∙ mul-mod_left (leaves (base_of t)) (element_shape s t).size;
      whole_block =
          min_whole (block_or_none (block_of t)) (leaves (base_of t)) (element_shape s t).size (size s t) whole;
      base = b;
    }

has_shape : (s : Structs) (xs : List DeclaredObject) (types : List CType) (i : ℕ) (e : DeclaredObject) → i < length xs →
    Has (map (element_shape s) (map type_of xs ++ types)) (element_shape s (get_or xs i e).ctype)
has_shape s [] types i e h = absurd (omega arith)
has_shape s (x ∷ xs) types zero e h = inl refl
has_shape s (x ∷ xs) types (suc i) e h = inr (has_shape s xs types i e (omega arith))

-- The first of some objects.
pub first : (xs : List DeclaredObject) → 0 < length xs → DeclaredObject
first [] h = absurd (omega arith)
first (x ∷ xs) h = x

-- The shape of the element of each object has its number.
pub listed_at : (s : Structs) (xs : List DeclaredObject) (types : List CType) (i : ℕ) (e : DeclaredObject) →
    i < length xs →
    IsListed (element_shapes s (map type_of xs ++ types)) (element_shape s (get_or xs i e).ctype)
listed_at s xs types i e h =
    listed_all [] (map (element_shape s) (map type_of xs ++ types)) (element_shape s (get_or xs i e).ctype)
    (has_shape s xs types i e h)

-- Each of the objects.
pub declared_all : (o : Opening) (s : Structs) (xs : List DeclaredObject) (types : List CType) →
    AreFine s.completed → Each (λ x. has_size s x.ctype ≡ true) xs → 0 < o.threads →
    o.shapes ≡ element_shapes s (map type_of xs ++ types) → o.declared
    ≡ map object_of (placed_from s o.shapes 1 0 xs) → Numbered (IsDeclared o) o.declared
declared_all o s xs types f layouts threads shapes declared i d h =
    let lengths = ap length declared ∙ placed_length s o.shapes 1 0 xs in
    let n : i < length xs = omega (arith, h, lengths) in
    let e = first xs (omega arith) in
    let x = get_or xs i e in
    let base = 0 + bytes_in s (take i xs) in
    let at : get_or o.declared i d ≡ (lies s o.shapes (1 + i) base x.ctype) = ap (λ os. get_or os i d) declared
    ∙ placed_at s o.shapes 1 0 i xs d e n in
    let listed = subst (λ ss. IsListed ss (element_shape s x.ctype)) (sym shapes) (listed_at s xs types i e n) in
    let bytes : bytes_in s (take i xs) ≡ bytes_of (take i o.declared) =
    sym (ap (λ os. bytes_of (take i os)) declared ∙ ap bytes_of (placed_take s o.shapes 1 0 i xs)
    ∙ placed_bytes s o.shapes 1 0 (take i xs)) in
    subst (λ (r : ObjectRef). IsDeclared o i r) (sym at)
    (declared_is o s i base x.ctype f
    (each_get (λ (y : DeclaredObject). has_size s y.ctype ≡ true) xs i e n layouts) threads listed
    (omega (arith, bytes)))
