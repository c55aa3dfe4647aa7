-- Complete types have some bytes, and what is declared has a layout and a block of at most 16,777,216 elements.
use Rattle.std.proofs.Common.{◌≡◌, ℕ, zero, suc, ◌+◌, ◌-◌, ◌*◌, ◌<◌, ◌≤◌, nat_lt, nat_le, nat_eq, ◌==◌, ℤ, pos}
use Rattle.std.proofs.Common.{negsuc, Bool, true, false, not, ◌&&◌, if◌then◌else◌, List, [], ◌∷◌, length, Option}
use Rattle.std.proofs.Common.{Some, None, is_some, refl, sym, ap, ◌∙◌, subst, arith}
use Rattle.std.specs.Prelude.{int_le, unsigned_abs}
use Rattle.std.specs.List.{list_any}
use Rattle.std.proofs.Math.Nat.{mul-le-mul_left, div-le_of_le-mul, div-zero}
use Rattle.std.proofs.lemmas.Bool.{false≢true, and_parts, and_from, ltb-true, lt-ltb, leb-true}
use Rattle.upc_values.specs.Lists.{Each}
use Rattle.upc_types.specs.declared.layout.Known.{Known}
use Rattle.upc_types.specs.declared.layout.Layout.{Layout}
use Rattle.upc_types.specs.Types as types
use Rattle.upc_types.specs.Types.{CType, Qualified, Base, base_of, block_of, Member, Completed, Structs}
use Rattle.upc_types.specs.Layout.{base_layout, base_complete, complete_in, layout_in, layout_or_none, known_in}
use Rattle.upc_types.specs.Layout.{all_complete, member_layouts, end_behind, widest, struct_layout, aligned, most_bytes}
use Rattle.upc_types.specs.Layout.{is_complete, size, base_within}
use Rattle.upc_types.specs.Cells.{leaves}
use Rattle.upc_types.proofs.Members.{kind_some, pointer_some, aligned_low, widest_low, grow}
use Rattle.upc_types.proofs.Steps.{positive}
use Rattle.typing_rules.specs.declared.attribute.Constant.{Constant}
use Rattle.typing_rules.specs.declared.attribute.Constant.TheVariants as constant
use Rattle.typing_rules.specs.Values.{is_no_object, is_struct}
use Rattle.typing_rules.specs.Rules.{has_size, lacks_members, base_lacks_members, is_too_large, declares_nothing, leaf}
use Rattle.typing_rules.specs.Rules.{is_struct_type}
use Rattle.typed_tree.specs.layer.Judged.{Earlier}
use Rattle.upc_checker_types.specs.Specifiers.{Shaped, elements, all_elements, array_of, arrays_of, star_size}
use Rattle.upc_checker_types.specs.Specifiers.{with_block, element_type, formed}
use Rattle.meaning_laws.proofs.Layouts.{complete_later, some_if}
use Rattle.meaning_laws.proofs.Rules.{holds, or_left, or_right}
use Rattle.meaning_laws_accepted.specs.code.LaidPrograms.{IsBlock}
use Rattle.meaning_laws_accepted.proofs.Types.{IsDeep, IsTarget, IsSoundType, deep_pointer, target_block}
use Rattle.meaning_laws_accepted.proofs.Structs.{AreFormedStructs, within_parts, number_within, pointer_within}
use Rattle.meaning_laws_accepted.proofs.Declared.{array_leaf, own_leaf, element_deep, IsHeld}

-- ---- bytes

-- The layout of a struct, if it is known, has some bytes.
abbrev HasBytes : Option Known → Type 0
HasBytes None = Unit {0}
HasBytes (Some k) = 0 < k.layout.size

known_bytes : (o : Option Known) → HasBytes o → is_some o ≡ true → 0 < (layout_or_none o).size
known_bytes None h e = absurd (false≢true e)
known_bytes (Some k) h e = h

either_bytes : (b : Bool) (o p : Option Known) → HasBytes o → HasBytes p → HasBytes (if b then o else p)
either_bytes true o p h i = h
either_bytes false o p h i = i

module _ (cs : List Completed) (known : (number : ℕ) → HasBytes (known_in cs number)) where
  base_bytes : (b : Base) → base_complete (complete_in cs) b ≡ true → 0 < (base_layout (layout_in cs) b).size
  base_bytes types.Void h = absurd (false≢true h)
  base_bytes (types.Integer k) h = kind_some k
  base_bytes (types.Struct number) h = known_bytes (known_in cs number) (known number) h
  base_bytes (types.Array (Qualified e c s x) count) h =
      let p = and_parts (nat_lt 0 count) (base_complete (complete_in cs) e) h in
      positive count (base_layout (layout_in cs) e).size (ltb-true 0 count p.0) (base_bytes e p.1)
  base_bytes (types.Pointer (Qualified t c s x)) h = pointer_some t s
  base_bytes types.LockObject h = absurd (false≢true h)

  -- There are no more leaf elements than bytes.
  leaf_bytes : (b : Base) → base_complete (complete_in cs) b ≡ true → leaves b ≤ (base_layout (layout_in cs) b).size
  leaf_bytes types.Void h = absurd (false≢true h)
  leaf_bytes (types.Integer k) h = kind_some k
  leaf_bytes (types.Struct number) h = known_bytes (known_in cs number) (known number) h
  leaf_bytes (types.Array (Qualified e c s x) count) h =
      let p = and_parts (nat_lt 0 count) (base_complete (complete_in cs) e) h in
      mul-le-mul_left count (leaf_bytes e p.1)
  leaf_bytes (types.Pointer (Qualified t c s x)) h = pointer_some t s
  leaf_bytes types.LockObject h = absurd (false≢true h)

  -- Members end behind the first of them.
  member_bytes : (ms : List Member) → nat_eq (length ms) 0 ≡ false → all_complete (complete_in cs) ms ≡ true
      → 0 < (struct_layout (member_layouts (layout_in cs) ms)).size
  member_bytes [] some h = absurd (false≢true (sym some))
  member_bytes (m ∷ ms) some h =
      let ls = member_layouts (layout_in cs) (m ∷ ms) in
      let l = base_layout (layout_in cs) (base_of m.ctype) in
      let p = and_parts (base_complete (complete_in cs) (base_of m.ctype)) (all_complete (complete_in cs) ms) h in
      let first = base_bytes (base_of m.ctype) p.0 in
      let rest = grow cs (aligned 0 l.align + l.size) ms in
      let wide = widest_low ls 1 in
      let end = aligned_low (end_behind 0 ls) (widest 1 ls) wide in
      omega (arith, first, rest, end)

structs_bytes : (cs : List Completed) → AreFormedStructs cs → (number : ℕ) → HasBytes (known_in cs number)
structs_bytes [] h number = tt
structs_bytes (c ∷ older) h number =
    let rest = structs_bytes older h.3 in
    let complete = (within_parts (all_complete (complete_in older) c.members)
    (struct_layout (member_layouts (layout_in older) c.members)) h.1).0 in
    either_bytes (c.number == number) (Some _) (known_in older number)
    (member_bytes older rest c.members h.2 complete) (rest number)

-- ---- the counts of arrays

chosen_some : (b : Bool) (n : ℕ) → nat_lt 0 n ≡ true → nat_lt 0 (if b then n else 16777217) ≡ true
chosen_some true n h = h
chosen_some false n h = refl

value_some : (v : ℤ) → int_le (pos 1) v ≡ true → nat_lt 0 (unsigned_abs v) ≡ true
value_some (pos n) h = let some = leb-true 1 n h in lt-ltb 0 n (omega (arith, some))
value_some (negsuc n) h = absurd (false≢true h)

-- An array has an element at least.
elements_some : (c : Constant) → nat_lt 0 (elements c) ≡ true
elements_some (constant.Known v) = by (int_le (pos 1) v) refl
  where
    by : (b : Bool) → int_le (pos 1) v ≡ b
        → nat_lt 0 (if b then (if int_le v (pos 16777216) then unsigned_abs v else 16777217) else 1) ≡ true
    by true e = chosen_some (int_le v (pos 16777216)) (unsigned_abs v) (value_some v e)
    by false e = refl
elements_some constant.Variable = refl
elements_some constant.Undefined = refl
elements_some constant.Null = refl
elements_some (constant.Address place element) = refl

array_leaves : (t : CType) (count : ℕ) → leaves (base_of (array_of t count)) ≡ count * leaves (base_of t)
array_leaves (Qualified b c s x) count = refl

one_leaf : (b : Base) → IsDeep b → leaves b ≡ 1
one_leaf types.Void h = refl
one_leaf (types.Integer k) h = refl
one_leaf (types.Struct number) h = refl
one_leaf (types.Array t count) h = absurd h
one_leaf (types.Pointer t) h = refl
one_leaf types.LockObject h = refl

-- No more elements are counted for `[*]` than there are leaf elements.
few_counted : (t : CType) (sizes : List Constant) → IsDeep (base_of t)
    → all_elements sizes ≤ leaves (base_of (arrays_of t sizes))
few_counted t [] h = let one = one_leaf (base_of t) h in omega (arith, one)
few_counted t (c ∷ cs) h =
    let inner = mul-le-mul_left (elements c) (few_counted t cs h) in
    let whole = array_leaves (arrays_of t cs) (elements c) in
    omega (arith, inner, whole)

-- ---- complete types

array_complete : (f : ℕ → Bool) (t : CType) (count : ℕ) → nat_lt 0 count ≡ true → base_complete f (base_of t) ≡ true
    → base_complete f (base_of (array_of t count)) ≡ true
array_complete f (Qualified b c s x) count some h = and_from (nat_lt 0 count) (base_complete f b) some h

arrays_complete : (f : ℕ → Bool) (t : CType) (sizes : List Constant) → base_complete f (base_of t) ≡ true
    → base_complete f (base_of (arrays_of t sizes)) ≡ true
arrays_complete f t [] h = h
arrays_complete f t (c ∷ cs) h =
    array_complete f (arrays_of t cs) (elements c) (elements_some c) (arrays_complete f t cs h)

-- What is neither void nor a lock, and no struct without members, is complete.
deep_complete : (σ : Structs) (b : Base) → IsDeep b → is_no_object b ≡ false → base_lacks_members σ b ≡ false
    → base_complete (complete_in σ.completed) b ≡ true
deep_complete σ types.Void h d l = absurd (false≢true (sym d))
deep_complete σ (types.Integer k) h d l = refl
deep_complete σ (types.Struct number) h d l = holds (complete_in σ.completed number) l
deep_complete σ (types.Array t count) h d l = absurd h
deep_complete σ (types.Pointer t) h d l = refl
deep_complete σ types.LockObject h d l = absurd (false≢true (sym d))

arrays_leaf : (t : CType) (sizes : List Constant) → leaf (arrays_of t sizes) ≡ leaf t
arrays_leaf t [] = refl
arrays_leaf t (c ∷ cs) = array_leaf (arrays_of t cs) (elements c) ∙ arrays_leaf t cs

then_true : (b c : Bool) → b ≡ true → (b && not c) ≡ false → c ≡ true
then_true true c e h = holds c h
then_true false c e h = absurd (false≢true e)

-- ---- blocks

star_few : (threads n : ℕ) → n ≤ 16777216 → star_size threads n ≤ 16777216
star_few zero n h = let none = div-zero (n + (zero - 1)) in omega (arith, none)
star_few (suc t) n h = div-le_of_le-mul (suc t) (omega (arith, h))

array_block : (t : CType) (count : ℕ) → block_of (array_of t count) ≡ block_of t
array_block (Qualified b c s x) count = refl

arrays_block : (t : CType) (sizes : List Constant) → block_of (arrays_of t sizes) ≡ block_of t
arrays_block t [] = refl
arrays_block t (c ∷ cs) = array_block (arrays_of t cs) (elements c) ∙ arrays_block t cs

chosen_block : (star : Bool) (block : ℕ) (t : CType) → block ≤ 16777216 → IsBlock (block_of t)
    → IsBlock (block_of (if star then with_block block t else t))
chosen_block true block (Qualified b c s x) h i = h
chosen_block false block t h i = i

-- ---- declared objects

-- A declared object of this type is complete, and no larger than an object can be; and its block is at most 16,777,216
-- elements.
pub record IsLaidDown (cs : List Completed) (t : CType) : Type 0 where
  pub complete : base_complete (complete_in cs) (base_of t) ≡ true
  pub small : nat_le (base_layout (layout_in cs) (base_of t)).size most_bytes ≡ true
  pub block : IsBlock (block_of t)

pub formed_laid : (σ : Structs) (threads : ℕ) (s : Shaped) (sizes : List Constant) → AreFormedStructs σ.completed
    → IsTarget s.ctype → declares_nothing (formed threads s sizes).ctype ≡ false
    → lacks_members σ (formed threads s sizes).ctype ≡ false
    → is_too_large σ (formed threads s sizes).ctype ≡ false → IsLaidDown σ.completed (formed threads s sizes).ctype
formed_laid σ threads s sizes known h nothing lacks large =
    let cs = σ.completed in
    let e = element_type threads s sizes in
    let t = arrays_of e sizes in
    let deep = element_deep threads s sizes (deep_pointer s.ctype h) in
    let same : leaf t ≡ base_of e = arrays_leaf e sizes ∙ own_leaf (base_of e) deep in
    let inner = deep_complete σ (base_of e) deep
    (subst (λ (b : Base). is_no_object b ≡ false) same nothing)
    (subst (λ (b : Base). base_lacks_members σ b ≡ false) same lacks) in
    let complete = arrays_complete (complete_in cs) e sizes inner in
    let small = then_true (is_complete σ t) (nat_le (size σ t) most_bytes) complete large in
    let most = leb-true (size σ t) most_bytes small in
    let counted = few_counted e sizes deep in
    let bytes = leaf_bytes cs (structs_bytes cs known) (base_of t) complete in
    let few : all_elements sizes ≤ 16777216 = omega (arith, most, counted, bytes) in
    record {
      complete = complete;
      small = small;
      block =
          subst IsBlock (sym (arrays_block e sizes))
          (chosen_block s.star (star_size threads (all_elements sizes)) s.ctype
          (star_few threads (all_elements sizes) few) (target_block s.ctype h));
    }

-- What is declared has a layout at the end of the source.
pub laid_later : (all older : List Completed) (t : CType) → Earlier all older → IsLaidDown older t
    → is_some (base_within all (base_of t)) ≡ true
laid_later all older t place h =
    let b = base_of t in
    let later = complete_later all older place b h.complete in
    some_if (base_complete (complete_in all) b && nat_le (base_layout (layout_in all) b).size most_bytes) _
    (and_from (base_complete (complete_in all) b) (nat_le (base_layout (layout_in all) b).size most_bytes)
    later.complete (ap (λ (l : Layout). nat_le l.size most_bytes) later.layout ∙ h.small))

-- ---- parameters

-- What is no struct, as no parameter of a function is, has a layout.
held_size : (σ : Structs) (t : CType) → IsSoundType t → IsHeld (base_of t) → is_struct t ≡ false → has_size σ t ≡ true
held_size σ (Qualified types.Void c s x) h i n = absurd i
held_size σ (Qualified (types.Integer k) c s x) h i n = number_within σ.completed k h.0
held_size σ (Qualified (types.Struct number) c s x) h i n = absurd (false≢true (sym n))
held_size σ (Qualified (types.Array t count) c s x) h i n = absurd i
held_size σ (Qualified (types.Pointer t) c s x) h i n = pointer_within σ.completed t
held_size σ (Qualified types.LockObject c s x) h i n = absurd i

pub held_sizes : (σ : Structs) (ts : List CType) → Each IsSoundType ts → Each (λ t. IsHeld (base_of t)) ts
    → list_any is_struct_type ts ≡ false → Each (λ t. has_size σ t ≡ true) ts
held_sizes σ [] h i n = tt
held_sizes σ (t ∷ ts) h i n = (
  held_size σ t h.0 i.0 (or_left (is_struct t) (list_any is_struct_type ts) n),
  held_sizes σ ts h.1 i.1 (or_right (is_struct t) (list_any is_struct_type ts) n),
)
