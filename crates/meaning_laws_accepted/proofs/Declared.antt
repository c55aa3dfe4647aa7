-- The types that specifiers, stars and sizes make.
use Rattle.std.proofs.Common.{◌≡◌, ℕ, ◌≤◌, nat_lt, ℤ, pos, negsuc, Bool, true, false, not, ◌&&◌, if◌then◌else◌}
use Rattle.std.proofs.Common.{List, [], ◌∷◌, length, Option, Some, None, refl, sym, ap, ◌∙◌, arith}
use Rattle.std.specs.Prelude.{int_le, unsigned_abs}
use Rattle.std.proofs.lemmas.Bool.{false≢true, ltb-false, and_parts, leb-true}
use Rattle.upc_tree.specs.declared.mark.TypeWord.{TypeWord}
use Rattle.upc_values.specs.Lists.{Each}
use Rattle.upc_values.proofs.Membership.{each-append}
use Rattle.upc_types.specs.Types as types
use Rattle.upc_types.specs.Types.{CType, Qualified, Base, base_of, block_of}
use Rattle.upc_types.specs.Same as same
use Rattle.upc_types.specs.Same.{is_lock_object}
use Rattle.upc_types.specs.Cells.{leaf_base}
use Rattle.typing_rules.specs.declared.attribute.Constant.{Constant}
use Rattle.typing_rules.specs.declared.attribute.Constant.TheVariants as constant
use Rattle.typing_rules.specs.Values.{base_is_array, is_array, is_nested, is_shared}
use Rattle.typing_rules.specs.Rules.{leaf, declares_nothing}
use Rattle.upc_checker_types.specs.Specifiers.{Row, rows, same_words, base_among, Quals, Specified, no_types}
use Rattle.upc_checker_types.specs.Specifiers.{Layout, layout_block, first_block, both_quals}
use Rattle.upc_checker_types.specs.Specifiers.{base_of_parts, specified_base, base_or_int, Shaped, specified_type}
use Rattle.upc_checker_types.specs.Specifiers.{pointer_to, elements, array_of, arrays_of, with_block, element_type}
use Rattle.upc_checker_types.specs.Specifiers.{formed}
use Rattle.upc_checker_types.specs.Shapes.{adjusted, block_size}
use Rattle.meaning_laws.proofs.Rules.{or_right}
use Rattle.meaning_laws_accepted.specs.code.LaidPrograms.{IsBlock}
use Rattle.meaning_laws_accepted.proofs.Types.{IsDeep, IsTarget, IsSound, IsNamed, no_block, deep_sound, deep_array}
use Rattle.meaning_laws_accepted.proofs.Types.{deep_named, no_rows}

-- ---- specifiers

-- The type, if there is one, is formed inside.
abbrev HasDeep : Option Base → Type 0
HasDeep None = Unit {0}
HasDeep (Some b) = IsDeep b

either_deep : (b : Bool) (o p : Option Base) → HasDeep o → HasDeep p → HasDeep (if b then o else p)
either_deep true o p h i = h
either_deep false o p h i = i

rows_deep : Each (λ (r : Row). IsDeep r.base) rows
rows_deep = (
  tt,
  (
    tt,
    (
      tt,
      (
        tt,
        (
          tt,
          (
            tt,
            (
              tt,
              (
                tt,
                (
                  tt,
                  (
                    tt,
                    (
                      tt,
                      (
                        tt,
                        (
                          tt,
                          (
                            tt,
                            (
                              tt,
                              (
                                tt,
                                (
                                  tt,
                                  (
                                    tt,
                                    (
                                      tt,
                                      (
                                        tt,
                                        (
                                          tt,
                                          (
                                            tt,
                                            (tt, (tt, (tt, (tt, (tt, (tt, (tt, (tt, (tt, (tt, tt)))))))))),
                                          ),
                                        ),
                                      ),
                                    ),
                                  ),
                                ),
                              ),
                            ),
                          ),
                        ),
                      ),
                    ),
                  ),
                ),
              ),
            ),
          ),
        ),
      ),
    ),
  ),
)

among_deep : (rs : List Row) (words : List TypeWord) → Each (λ (r : Row). IsDeep r.base) rs
    → HasDeep (base_among rs words)
among_deep [] words h = tt
among_deep (r ∷ rs) words h =
    either_deep (same_words r.words words) (Some r.base) (base_among rs words) h.0 (among_deep rs words h.1)

parts_deep : (words : List TypeWord) (structs : List ℕ) → HasDeep (base_of_parts words structs)
parts_deep words [] = among_deep rows words rows_deep
parts_deep words (number ∷ []) = either_deep (no_types words) (Some (types.Struct number)) None tt tt
parts_deep words (number ∷ other ∷ more) = tt

or_int : (o : Option Base) → HasDeep o → IsDeep (base_or_int o)
or_int None h = tt
or_int (Some b) h = h

-- The block of each `shared` among qualifiers is at most 16,777,216 elements.
abbrev pub HasLayouts : Quals → Type 0
HasLayouts q = Each (λ (l : Layout). layout_block l ≤ 16777216) q.layouts

first_few : (ls : List Layout) → Each (λ (l : Layout). layout_block l ≤ 16777216) ls → IsBlock (first_block ls)
first_few [] h = no_block
first_few (l ∷ ls) h = h.0

pub both_layouts : (p q : Quals) → HasLayouts p → HasLayouts q → HasLayouts (both_quals p q)
both_layouts p q h i = each-append (λ (l : Layout). layout_block l ≤ 16777216) p.layouts q.layouts h i

chosen_few : (b : Bool) (n : ℕ) → (b ≡ true → n ≤ 16777216) → (if b then n else 1) ≤ 16777216
chosen_few true n h = h refl
chosen_few false n h = omega arith

value_few : (v : ℤ) → int_le v (pos 16777216) ≡ true → int_le (pos 0) v ≡ true → unsigned_abs v ≤ 16777216
value_few (pos n) h i = leb-true n 16777216 h
value_few (negsuc n) h i = absurd (false≢true i)

-- The size of a block, as it is declared.
pub size_few : (c : Constant) → block_size c ≤ 16777216
size_few (constant.Known v) =
    chosen_few (int_le (pos 0) v && int_le v (pos 16777216)) (unsigned_abs v) (λ e.
    let p = and_parts (int_le (pos 0) v) (int_le v (pos 16777216)) e in value_few v p.1 p.0)
size_few constant.Variable = omega arith
size_few constant.Undefined = omega arith
size_few constant.Null = omega arith
size_few (constant.Address place element) = omega arith

-- What specifiers form.
pub specified_deep : (p : Specified) → HasLayouts p.quals → IsTarget (specified_type p).ctype
specified_deep p h = (or_int (specified_base p) (parts_deep p.words p.structs), first_few p.quals.layouts h)

-- What a star makes.
pub star_deep : (s : Shaped) (q : Quals) → HasLayouts q → IsTarget s.ctype → IsTarget (pointer_to s q).ctype
star_deep s q i h = (h, first_few q.layouts i)

-- ---- arrays

block_deep : (block : ℕ) (t : CType) → IsDeep (base_of t) → IsDeep (base_of (with_block block t))
block_deep block (Qualified b c s x) h = h

either_type : (b : Bool) (t u : CType) → IsDeep (base_of t) → IsDeep (base_of u)
    → IsDeep (base_of (if b then t else u))
either_type true t u h i = h
either_type false t u h i = i

pub element_deep : (threads : ℕ) (s : Shaped) (sizes : List Constant) → IsDeep (base_of s.ctype)
    → IsDeep (base_of (element_type threads s sizes))
element_deep threads s sizes h = either_type s.star _ s.ctype (block_deep _ s.ctype h) h

-- A type of objects, but for its block.
abbrev pub IsSoundly : CType → Type 0
IsSoundly t = IsSound (block_of t) (base_of t)

array_sound : (t : CType) (count : ℕ) → IsSoundly t → IsSoundly (array_of t count)
array_sound (Qualified b c s x) count h = (refl, h)

pub array_leaf : (t : CType) (count : ℕ) → leaf (array_of t count) ≡ leaf t
array_leaf (Qualified b c s x) count = refl

array_rows : (t : CType) (count : ℕ) → base_is_array (base_of t) ≡ false → is_nested (array_of t count) ≡ false
array_rows (Qualified b c s x) count h = h

array_named : (t : CType) (count : ℕ) → IsNamed (base_of (array_of t count))
array_named (Qualified b c s x) count = tt

pub own_leaf : (b : Base) → IsDeep b → leaf_base b ≡ b
own_leaf types.Void h = refl
own_leaf (types.Integer k) h = refl
own_leaf (types.Struct number) h = refl
own_leaf (types.Array t count) h = absurd h
own_leaf (types.Pointer t) h = refl
own_leaf types.LockObject h = refl

arrays_sound : (t : CType) (sizes : List Constant) → IsDeep (base_of t)
    → is_lock_object (leaf (arrays_of t sizes)) ≡ false → IsSoundly (arrays_of t sizes)
arrays_sound t [] h l =
    deep_sound (block_of t) (base_of t) h (ap is_lock_object (sym (own_leaf (base_of t) h)) ∙ l)
arrays_sound t (c ∷ cs) h l =
    let inner = arrays_of t cs in
    let free : is_lock_object (leaf inner) ≡ false = ap is_lock_object (sym (array_leaf inner (elements c))) ∙ l in
    array_sound inner (elements c) (arrays_sound t cs h free)

arrays_rows : (t : CType) (sizes : List Constant) → IsDeep (base_of t) → nat_lt 1 (length sizes) ≡ false
    → is_nested (arrays_of t sizes) ≡ false
arrays_rows t [] h l = no_rows (base_of t) (deep_array (base_of t) h)
arrays_rows t (c ∷ []) h l = array_rows t (elements c) (deep_array (base_of t) h)
arrays_rows t (c ∷ d ∷ cs) h l = let e = ltb-false 1 (length (c ∷ d ∷ cs)) l in absurd (omega (arith, e))

arrays_named : (t : CType) (sizes : List Constant) → IsDeep (base_of t) → IsNamed (base_of (arrays_of t sizes))
arrays_named t [] h = deep_named (base_of t) h
arrays_named t (c ∷ cs) h = array_named (arrays_of t cs) (elements c)

-- An object is of a type of objects, but for its block.
pub formed_sound : (threads : ℕ) (s : Shaped) (sizes : List Constant) → IsDeep (base_of s.ctype)
    → declares_nothing (formed threads s sizes).ctype ≡ false → IsSoundly (formed threads s sizes).ctype
formed_sound threads s sizes h d =
    let leaf_of = leaf (formed threads s sizes).ctype in
    arrays_sound (element_type threads s sizes) sizes (element_deep threads s sizes h)
    (or_right (same.is_void leaf_of) (is_lock_object leaf_of) d)

pub formed_rows : (threads : ℕ) (s : Shaped) (sizes : List Constant) → IsDeep (base_of s.ctype)
    → nat_lt 1 (length sizes) ≡ false → is_nested (formed threads s sizes).ctype ≡ false
formed_rows threads s sizes h l = arrays_rows (element_type threads s sizes) sizes (element_deep threads s sizes h) l

pub formed_named : (threads : ℕ) (s : Shaped) (sizes : List Constant) → IsDeep (base_of s.ctype)
    → IsNamed (base_of (formed threads s sizes).ctype)
formed_named threads s sizes h = arrays_named (element_type threads s sizes) sizes (element_deep threads s sizes h)

-- ---- parameters

-- The type of a parameter before it is adjusted: formed inside, or an array of what is.
abbrev pub IsRow : Base → Type 0
IsRow (types.Array t count) = IsTarget t
IsRow b = IsDeep b

deep_row : (b : Base) → IsDeep b → IsRow b
deep_row types.Void h = tt
deep_row (types.Integer k) h = h
deep_row (types.Struct number) h = tt
deep_row (types.Array t count) h = absurd h
deep_row (types.Pointer t) h = h
deep_row types.LockObject h = tt

pub plain_row : (threads : ℕ) (s : Shaped) → IsDeep (base_of s.ctype) → IsRow (base_of (formed threads s []).ctype)
plain_row threads s h = deep_row (base_of (formed threads s []).ctype) (element_deep threads s [] h)

pub array_row : (t : CType) (count : ℕ) → IsTarget t → IsRow (base_of (array_of t count))
array_row (Qualified b c s x) count h = h

-- A parameter is of a type of objects, but for its block.
pub adjusted_sound : (t : CType) → IsRow (base_of t) → declares_nothing t ≡ false → IsSoundly (adjusted t)
adjusted_sound (Qualified types.Void c s x) h d = tt
adjusted_sound (Qualified (types.Integer k) c s x) h d = h
adjusted_sound (Qualified (types.Struct number) c s x) h d = tt
adjusted_sound (Qualified (types.Array t count) c s x) h d = h
adjusted_sound (Qualified (types.Pointer t) c s x) h d = h
adjusted_sound (Qualified types.LockObject c s x) h d = absurd (false≢true (sym d))

-- A parameter is not shared.
pub adjusted_block : (t : CType) → (is_shared t && not (is_array t)) ≡ false → block_of (adjusted t) ≡ None
adjusted_block (Qualified types.Void c None x) h = refl
adjusted_block (Qualified (types.Integer k) c None x) h = refl
adjusted_block (Qualified (types.Struct number) c None x) h = refl
adjusted_block (Qualified (types.Array t count) c s x) h = refl
adjusted_block (Qualified (types.Pointer t) c None x) h = refl
adjusted_block (Qualified types.LockObject c None x) h = refl
adjusted_block (Qualified types.Void c (Some block) x) h = absurd (false≢true (sym h))
adjusted_block (Qualified (types.Integer k) c (Some block) x) h = absurd (false≢true (sym h))
adjusted_block (Qualified (types.Struct number) c (Some block) x) h = absurd (false≢true (sym h))
adjusted_block (Qualified (types.Pointer t) c (Some block) x) h = absurd (false≢true (sym h))
adjusted_block (Qualified types.LockObject c (Some block) x) h = absurd (false≢true (sym h))

-- What a parameter is: no void, no array and no lock.
abbrev pub IsHeld : Base → Type 0
IsHeld types.Void = ⊥
IsHeld (types.Array t count) = ⊥
IsHeld types.LockObject = ⊥
IsHeld b = Unit {0}

pub adjusted_held : (t : CType) → declares_nothing t ≡ false → IsHeld (base_of (adjusted t))
adjusted_held (Qualified types.Void c s x) d = absurd (false≢true (sym d))
adjusted_held (Qualified (types.Integer k) c s x) d = tt
adjusted_held (Qualified (types.Struct number) c s x) d = tt
adjusted_held (Qualified (types.Array t count) c s x) d = tt
adjusted_held (Qualified (types.Pointer t) c s x) d = tt
adjusted_held (Qualified types.LockObject c s x) d = absurd (false≢true (sym d))
