-- Types with sizes: what is stepped over has few leaf elements, and what is made in a block has a shape.
use Rattle.std.proofs.Common.{◌≡◌, ℕ, ◌*◌, ◌<◌, ◌≤◌, nat_lt, nat_le, Bool, true, false, ◌&&◌, not, if◌then◌else◌}
use Rattle.std.proofs.Common.{Option, Some, None, is_some, List, [], ◌∷◌, map, refl, sym, ap, subst, ◌∙◌, arith}
use Rattle.std.proofs.lemmas.Bool.{false≢true, and_parts, leb-true, ltb-true, ltb-false, lt-ltb, eqb-true}
use Rattle.std.proofs.Math.Nat.{min-le_right}
use Rattle.std.specs.Prelude.{◌==◌}
use Rattle.block_layout.specs.Shapes.{IsShape}
use Rattle.shared_pointers.specs.layer.Ranges.{IsTarget}
use Rattle.upc_values.specs.Lists.{Each}
use Rattle.upc_types.specs.declared.layout.Layout.{Layout}
use Rattle.upc_types.specs.declared.layout.Known.{Known}
use Rattle.upc_types.specs.Types.{CType, Qualified, Base, Void, Integer, Struct, Array, Pointer, LockObject, base_of}
use Rattle.upc_types.specs.Types.{Completed, Structs, block_of}
use Rattle.upc_types.specs.Layout.{base_layout, base_complete, base_within, complete_in, known_in, layout_in}
use Rattle.upc_types.specs.Layout.{layout_or_none, most_bytes}
use Rattle.upc_types.specs.Cells.{leaf_base, leaves, object_shape}
use Rattle.upc_types.proofs.Members.{kind_some, pointer_some}
use Rattle.upc_types.proofs.Within.{object_within}
use Rattle.typing_rules.specs.Constants.{block_or_none}
use Rattle.typing_rules.specs.Rules.{base_lacks_members}
use Rattle.typing_rules.specs.Values.{base_is_array, is_no_object}
use Rattle.typed_tree.specs.Tree.{DeclaredObject}
use Rattle.typed_tree.specs.layer.Judged.{Earlier, AtEnd, Before}
use Rattle.source_meaning.specs.Types as type
use Rattle.source_meaning.specs.layer.Parts as parts
use Rattle.meaning_laws.proofs.Rules.{holds}
use Rattle.gen_stmt_laws.specs.code.Fitting.{AreFine}

-- ---- earlier places

-- What is known of a struct at an earlier place is known at the end.
pub known_later : {all older : List Completed} (n : ℕ) (k : Known) → Earlier all older → known_in older n ≡ Some k
    → known_in all n ≡ Some k
known_later n k AtEnd h = h
known_later n k (Before x older fresh rest) h = known_later n k rest (by (x.number == n) refl)
  where
    by : (b : Bool) → (x.number == n) ≡ b → known_in (x ∷ older) n ≡ Some k
    by true e =
        let at : complete_in older n ≡ false =
        subst (λ (i : ℕ). complete_in older i ≡ false) (eqb-true x.number n e) fresh in
        absurd (false≢true (sym at ∙ ap is_some h))
    by false e = let same : known_in (x ∷ older) n ≡ known_in older n = rw e refl in same ∙ h

pub earlier_fine : {all older : List Completed} → Earlier all older → AreFine all → AreFine older
earlier_fine place fine = λ n k h. fine n k (known_later n k place h)

-- ---- sizes

if_some : {X : Type 0} (b : Bool) (x : X) → is_some (if b then Some x else None) ≡ true → b ≡ true
if_some true x h = refl
if_some false x h = absurd (false≢true h)

both_some : (n s : ℕ) → 0 < n → 0 < s → 0 < n * s
both_some n s p q = grind arith

scaled : (n a b : ℕ) → a ≤ b → n * a ≤ n * b
scaled n a b h = grind arith

module _ (completed : List Completed) (fine : AreFine completed) where
  abbrev Sized : Base → Type 0
  Sized b = base_complete (complete_in completed) b ≡ true

  abbrev bytes : Base → ℕ
  bytes b = (base_layout (layout_in completed) b).size

  struct_bytes : (o : Option Known) (n : ℕ) → known_in completed n ≡ o → is_some o ≡ true
      → 0 < (layout_or_none o).size
  struct_bytes (Some k) n e h = (fine n k e).some
  struct_bytes None n e h = absurd (false≢true h)

  -- A complete type has at least one byte.
  pub some_bytes : (b : Base) → Sized b → 0 < bytes b
  some_bytes Void h = absurd (false≢true h)
  some_bytes (Integer k) h = kind_some k
  some_bytes (Struct n) h = struct_bytes (known_in completed n) n refl h
  some_bytes (Array (Qualified e c s x) count) h =
      let p = and_parts (nat_lt 0 count) (base_complete (complete_in completed) e) h in
      both_some count (bytes e) (ltb-true 0 count p.0) (some_bytes e p.1)
  some_bytes (Pointer (Qualified t c s x)) h = pointer_some t s
  some_bytes LockObject h = absurd (false≢true h)

  -- It has no more leaf elements than bytes.
  pub leaves_low : (b : Base) → Sized b → leaves b ≤ bytes b
  leaves_low Void h = absurd (false≢true h)
  leaves_low (Integer k) h = let low = kind_some k in omega (arith, low)
  leaves_low (Struct n) h = let low = struct_bytes (known_in completed n) n refl h in omega (arith, low)
  leaves_low (Array (Qualified e c s x) count) h =
      let p = and_parts (nat_lt 0 count) (base_complete (complete_in completed) e) h in
      scaled count (leaves e) (bytes e) (leaves_low e p.1)
  leaves_low (Pointer (Qualified t c s x)) h = let low = pointer_some t s in omega (arith, low)
  leaves_low LockObject h = absurd (false≢true h)

  within_parts : (b : Base) → is_some (base_within completed b) ≡ true → Sized b × (bytes b ≤ 16777216)
  within_parts b h =
      let p = and_parts (base_complete (complete_in completed) b) (nat_le (bytes b) most_bytes)
      (if_some (base_complete (complete_in completed) b && nat_le (bytes b) most_bytes) _ h) in
      (p.0, leb-true (bytes b) most_bytes p.1)

  -- A type that has a size has few leaf elements.
  pub few_leaves : (b : Base) → is_some (base_within completed b) ≡ true → leaves b ≤ 16777216
  few_leaves b h =
      let p = within_parts b h in
      let low = leaves_low b p.0 in
      omega (arith, low, p.1)

-- ---- elements and shapes

-- Bytes of an element.
abbrev AreBytes : ℕ → Type 0
AreBytes n = (0 < n) × (n ≤ 16777216)

bytes_by : (σ : Structs) (b : Bool) (l : Layout) → (b ≡ true → AreBytes l.size)
    → AreBytes (parts.bytes_or_one σ (if b then Some l else None))
bytes_by σ true l h = h refl
bytes_by σ false l h = (omega arith, omega arith)

shape_by : (σ : Structs) (x : Base) (b : Bool) (l : Layout) → (b ≡ true → IsShape (object_shape σ x))
    → IsShape (type.shape_or_byte σ (if b then Some l else None) x)
shape_by σ x true l h = h refl
shape_by σ x false l h = (omega arith, tt)

module _ (σ : Structs) (fine : AreFine σ.completed) where
  abbrev fits : Base → Bool
  fits b =
      base_complete (complete_in σ.completed) b && nat_le (base_layout (layout_in σ.completed) b).size most_bytes

  fit_parts : (b : Base) → fits b ≡ true
      → (base_complete (complete_in σ.completed) b ≡ true) × ((base_layout (layout_in σ.completed) b).size ≤ 16777216)
  fit_parts b h =
      let p = and_parts (base_complete (complete_in σ.completed) b)
      (nat_le (base_layout (layout_in σ.completed) b).size most_bytes) h in
      (p.0, leb-true (base_layout (layout_in σ.completed) b).size most_bytes p.1)

  bytes_are : (b : Base) → AreBytes (parts.bytes_of σ b)
  bytes_are b =
      bytes_by σ (fits b) (base_layout (layout_in σ.completed) b) (λ h.
      let p = fit_parts b h in (some_bytes σ.completed fine b p.0, p.1))

  -- The elements of a pointer lie in their ranges.
  pub is_target : (t : CType) → IsTarget (type.elements_of σ t).block (type.elements_of σ t).size
  is_target t =
      let size = bytes_are (leaf_base (base_of t)) in record {
        block_most = min-le_right (block_or_none (block_of t)) 16777216;
        size_least = size.0;
        size_most = size.1;
      }

  -- What is made of a type has a shape.
  pub is_shape : (t : CType) → IsShape (type.shape_of σ t)
  is_shape t =
      shape_by σ (base_of t) (fits (base_of t)) (base_layout (layout_in σ.completed) (base_of t)) (λ h. (
        some_bytes σ.completed fine (base_of t) (fit_parts (base_of t) h).0,
        object_within σ.targets σ.completed (base_of t),
      ))

  pub types_shaped : (ts : List CType) → Each IsShape (map (type.shape_of σ) ts)
  types_shaped [] = tt
  types_shaped (t ∷ ts) = (is_shape t, types_shaped ts)

  pub objects_shaped : (xs : List DeclaredObject) → Each IsShape (map (λ x. type.shape_of σ x.ctype) xs)
  objects_shaped [] = tt
  objects_shaped (x ∷ xs) = (is_shape x.ctype, objects_shaped xs)

-- ---- arrays with values in braces

pub one_leaf : (b : Base) → base_is_array b ≡ false → leaves b ≡ 1
one_leaf (Array t count) h = absurd (false≢true (sym h))
one_leaf (Integer k) h = refl
one_leaf Void h = refl
one_leaf (Struct n) h = refl
one_leaf (Pointer t) h = refl
one_leaf LockObject h = refl

pub own_leaf : (b : Base) → base_is_array b ≡ false → leaf_base b ≡ b
own_leaf (Array t count) h = absurd (false≢true (sym h))
own_leaf (Integer k) h = refl
own_leaf Void h = refl
own_leaf (Struct n) h = refl
own_leaf (Pointer t) h = refl
own_leaf LockObject h = refl

-- What is no array, can be declared and does not lack members is complete.
complete_leaf : (σ : Structs) (b : Base) → base_is_array b ≡ false → is_no_object b ≡ false
    → base_lacks_members σ b ≡ false → base_complete (complete_in σ.completed) b ≡ true
complete_leaf σ Void a n l = absurd (false≢true (sym n))
complete_leaf σ (Integer k) a n l = refl
complete_leaf σ (Struct m) a n l = holds (complete_in σ.completed m) l
complete_leaf σ (Array t count) a n l = absurd (false≢true (sym a))
complete_leaf σ (Pointer t) a n l = refl
complete_leaf σ LockObject a n l = absurd (false≢true (sym n))

zero_or : (count : ℕ) (s : ℕ) → (0 < count → count * s ≤ 16777216) → 0 < s → count ≤ 16777216
zero_or count s f h = by (nat_lt 0 count) refl
  where
    low : count * s ≤ 16777216 → count ≤ 16777216
    low g = let e : count * 1 ≤ count * s = scaled count 1 s h in omega (arith, e, g)

    by : (b : Bool) → nat_lt 0 count ≡ b → count ≤ 16777216
    by true e = low (f (ltb-true 0 count e))
    by false e = let z = ltb-false 0 count e in omega (arith, z)

-- An array of what is no array, which may be declared, has few elements.
pub few_elements : (σ : Structs) → AreFine σ.completed → (e : Base) (count : ℕ) → base_is_array e ≡ false
    → is_no_object e ≡ false → base_lacks_members σ e ≡ false
    → ((nat_lt 0 count && base_complete (complete_in σ.completed) e)
    && not (nat_le (count * (base_layout (layout_in σ.completed) e).size) most_bytes)) ≡ false
    → count ≤ 16777216
few_elements σ fine e count a n l h =
    let c = complete_leaf σ e a n l in
    let s = (base_layout (layout_in σ.completed) e).size in
    zero_or count s (λ p.
    leb-true (count * s) most_bytes
    (small (nat_lt 0 count) (base_complete (complete_in σ.completed) e) (nat_le (count * s) most_bytes)
    (lt-ltb 0 count p) c h)) (some_bytes σ.completed fine e c)
  where
    small : (b c d : Bool) → b ≡ true → c ≡ true → ((b && c) && not d) ≡ false → d ≡ true
    small true true d p q r = holds d r
    small true false d p q r = absurd (false≢true q)
    small false c d p q r = absurd (false≢true p)
