-- Structs that are made of the same parts have the same layout and the same cells.
use Rattle.std.proofs.Common.{◌≡◌, ℕ, ◌+◌, ◌*◌, ◌<◌, ◌≤◌, ◌++◌, true, List, [], ◌∷◌, length, map, drop, get_or, Option, Some, None, is_some, refl, sym, ap, ◌∙◌}
use Rattle.std.proofs.lemmas.List.{drop_all}
use Rattle.block_layout.specs.declared.kind.Kind.{Kind}
use Rattle.block_layout.specs.Shapes.{kind_size}
use Rattle.block_layout.specs.Cells.{moved, copies}
use Rattle.upc_types.specs.declared.layout.Layout.{Layout}
use Rattle.upc_types.specs.declared.layout.Known.{Known}
use Rattle.upc_types.specs.declared.structs.Member as d
use Rattle.upc_types.specs.Types.{CType, Qualified, Struct, Array, Pointer, base_of, Member, Structs, members_of}
use Rattle.upc_types.specs.Layout.{aligned, scalar, struct_layout, member_layouts, known_in, layout_in, layout_or_none, complete_in}
use Rattle.upc_types.specs.layer.Kept.{is_ordered}
use Rattle.upc_types.specs.Cells.{number_of, pointer_kind, member_cells, struct_cells}
use Rattle.upc_types.specs.View.{view_base, view_member}
use Rattle.upc_types.specs.code.MadeOf.{Part, part, member_parts, parts}
use Rattle.upc_types.proofs.Members.{next}
use Rattle.upc_types.proofs.Order.{struct_is}
use Rattle.upc_types.proofs.Within.{kind_bytes}

-- ---- one part

-- What a pointer of this kind adds.
abbrev pointer_by : Kind → Part
pointer_by k = (scalar (kind_size k), (scalar (kind_size k), (1, (0, k) ∷ [])))

pointer_is : (s : Structs) (t : CType) → part s (Pointer t) ≡ pointer_by (pointer_kind s.targets t)
pointer_is s (Qualified b c sh x) =
    let k = pointer_kind s.targets (Qualified b c sh x) in
    let e = sym (kind_bytes b sh (number_of s.targets (Qualified b c sh x))) in
    λ i. (scalar (e i), (scalar (e i), (1, (0, k) ∷ [])))

-- Pointers of one kind add the same.
pub pointer_part : (s : Structs) (t u : CType) → pointer_kind s.targets t ≡ pointer_kind s.targets u → part s (Pointer t) ≡ part s (Pointer u)
pointer_part s t u e = pointer_is s t ∙ ap pointer_by e ∙ sym (pointer_is s u)

-- What so many elements add.
abbrev array_by : ℕ → Part → Part
array_by n p = (record { size = n * p.0.size; align = p.0.align }, (p.1.0, (n * p.1.1.0, p.1.1.1)))

array_is : (s : Structs) (t : CType) (n : ℕ) → part s (Array t n) ≡ array_by n (part s (base_of t))
array_is s (Qualified b c sh x) n = refl

-- As many elements that add the same add the same.
pub array_part : (s : Structs) (t u : CType) (m n : ℕ) → m ≡ n → part s (base_of t) ≡ part s (base_of u) → part s (Array t m) ≡ part s (Array u n)
array_part s t u m n e h = array_is s t m ∙ (λ i. array_by (e i) (h i)) ∙ sym (array_is s u n)

-- Structs of one layout and one list of cells add the same.
pub struct_part : (s : Structs) (m n : ℕ) → layout_in s.completed m ≡ layout_in s.completed n → struct_cells s.targets s.completed m ≡ struct_cells s.targets s.completed n → part s (Struct m) ≡ part s (Struct n)
struct_part s m n l h = λ i. (l i, (l i, (1, h i)))

-- ---- all parts

-- The cells of these parts.
abbrev parts_cells : ℕ → List Part → List (ℕ × Kind)
parts_cells end [] = []
parts_cells end (p ∷ ps) =
    let start = aligned end p.0.align in
    moved start (copies p.1.1.0 p.1.0.size p.1.1.1) ++ parts_cells (start + p.0.size) ps

abbrev layout_of : Part → Layout
layout_of p = p.0

layouts_by : (s : Structs) (ms : List Member) → member_layouts (layout_in s.completed) ms ≡ map layout_of (member_parts s ms)
layouts_by s [] = refl
layouts_by s (m ∷ ms) = ap (λ (ls : List Layout). (part s (base_of m.ctype)).0 ∷ ls) (layouts_by s ms)

cells_by : (s : Structs) (ms : List Member) (end : ℕ) → member_cells s.targets (layout_in s.completed) (struct_cells s.targets s.completed) end ms ≡ parts_cells end (member_parts s ms)
cells_by s [] end = refl
cells_by s (m ∷ ms) end =
    let p = part s (base_of m.ctype) in
    let start = aligned end p.0.align in
    ap (λ xs. moved start (copies p.1.1.0 p.1.0.size p.1.1.1) ++ xs) (cells_by s ms (start + p.0.size))

-- The layout and the cells of a struct, by its parts.
record IsBy (s : Structs) (n : ℕ) : Type 0 where
  layout : layout_in s.completed n ≡ struct_layout (map layout_of (member_parts s (members_of s n)))
  cells : struct_cells s.targets s.completed n ≡ parts_cells 0 (member_parts s (members_of s n))

struct_by : (s : Structs) (n : ℕ) (o : Option Known) → known_in s.completed n ≡ o → is_ordered s.completed ≡ true → is_some o ≡ true → IsBy s n
struct_by s n None e o h = absurd cc
struct_by s n (Some k) e o h =
    let ms = members_of s n in
    let is = struct_is s.targets s.completed n k o e in
    record {
      layout = ap layout_or_none e ∙ is.layout ∙ ap struct_layout (layouts_by s ms);
      cells = is.cells_are ∙ cells_by s ms 0;
    }

-- Members that add the same make one layout.
pub alike_layout : (s : Structs) (n m : ℕ) (xs ys : List d.Member) → is_ordered s.completed ≡ true → complete_in s.completed n ≡ true → complete_in s.completed m ≡ true →
    map view_member xs ≡ members_of s n → map view_member ys ≡ members_of s m → parts s xs ≡ parts s ys → layout_in s.completed m ≡ layout_in s.completed n
alike_layout s n m xs ys o h g e f p =
    let q : member_parts s (members_of s m) ≡ member_parts s (members_of s n) = ap (member_parts s) (sym f) ∙ sym p ∙ ap (member_parts s) e in
    (struct_by s m (known_in s.completed m) refl o g).layout ∙ ap (λ ps. struct_layout (map layout_of ps)) q ∙ sym (struct_by s n (known_in s.completed n) refl o h).layout

-- Members that add the same make the same cells.
pub alike_cells : (s : Structs) (n m : ℕ) (xs ys : List d.Member) → is_ordered s.completed ≡ true → complete_in s.completed n ≡ true → complete_in s.completed m ≡ true →
    map view_member xs ≡ members_of s n → map view_member ys ≡ members_of s m → parts s xs ≡ parts s ys → struct_cells s.targets s.completed m ≡ struct_cells s.targets s.completed n
alike_cells s n m xs ys o h g e f p =
    let q : member_parts s (members_of s m) ≡ member_parts s (members_of s n) = ap (member_parts s) (sym f) ∙ sym p ∙ ap (member_parts s) e in
    (struct_by s m (known_in s.completed m) refl o g).cells ∙ ap (parts_cells 0) q ∙ sym (struct_by s n (known_in s.completed n) refl o h).cells

-- ---- members gone through one by one

parts_next : (s : Structs) (xs : List d.Member) (i : ℕ) (x : d.Member) → i < length xs → x ≡ get_or xs i x → parts s (drop i xs) ≡ part s (view_base x.ctype.base) ∷ parts s (drop (i + 1) xs)
parts_next s xs i x h e = ap (member_parts s) (next view_member xs i x h e)

-- Where the next two add the same, and those after them do, all from there on do.
pub parts_from : (s : Structs) (xs ys : List d.Member) (i : ℕ) (x y : d.Member) → i < length xs → i < length ys → x ≡ get_or xs i x → y ≡ get_or ys i y →
    part s (view_base x.ctype.base) ≡ part s (view_base y.ctype.base) → parts s (drop (i + 1) xs) ≡ parts s (drop (i + 1) ys) → parts s (drop i xs) ≡ parts s (drop i ys)
parts_from s xs ys i x y h g e f p q = parts_next s xs i x h e ∙ (λ j. p j ∷ q j) ∙ sym (parts_next s ys i y g f)

-- After the last ones nothing is left.
pub parts_end : (s : Structs) (xs ys : List d.Member) (i : ℕ) → length xs ≤ i → length ys ≤ i → parts s (drop i xs) ≡ parts s (drop i ys)
parts_end s xs ys i h g = ap (parts s) (drop_all i xs h ∙ sym (drop_all i ys g))
