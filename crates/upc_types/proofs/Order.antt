-- Structs in the order of their completion: what is said of the older ones holds among all.
use Rattle.std.proofs.Common.{◌≡◌, ℕ, ◌*◌, Bool, true, false, not, ◌==◌, ◌&&◌, nat_lt, if◌then◌else◌, List, [], ◌∷◌, length, Option, Some, None, is_some, refl, sym, ap, ◌∙◌, subst}
use Rattle.std.proofs.lemmas.Bool.{eqb-true, and_parts, and_from, lt-ltb, not-true}
use Rattle.block_layout.specs.declared.kind.Kind.{Kind}
use Rattle.upc_types.specs.declared.layout.Known.{Known}
use Rattle.upc_types.specs.layer.Parts.{private_in}
use Rattle.upc_types.specs.declared.layout.Layout.{Layout}
use Rattle.upc_types.specs.Types.{CType, Qualified, Base, Void, Integer, Struct, Array, Pointer, LockObject, base_of, Member, Completed, members_in}
use Rattle.upc_types.specs.Layout.{base_layout, base_complete, known_in, layout_in, complete_in, layout_or_none, all_complete, member_layouts, struct_layout, members_hold_private}
use Rattle.block_layout.specs.Cells.{copies}
use Rattle.upc_types.specs.Cells.{leaf_base, leaf_cells, object_cells, member_cells, struct_cells, leaves}
use Rattle.upc_types.specs.layer.Kept.{is_ordered}
use Rattle.upc_types.proofs.Places.{placed}

abbrev pub placed_below : Option Known → ℕ → Bool
placed_below None place = false
placed_below (Some k) place = nat_lt k.place place

-- Whether a struct was completed before that place.
abbrev pub complete_before : List Completed → ℕ → ℕ → Bool
complete_before cs place number = placed_below (known_in cs number) place

complete_one : (o : Option Known) (place : ℕ) → placed_below o place ≡ true → is_some o ≡ true
complete_one None place h = absurd cc
complete_one (Some k) place h = refl

pub complete_since : (cs : List Completed) (place number : ℕ) → complete_before cs place number ≡ true → complete_in cs number ≡ true
complete_since cs place number h = complete_one (known_in cs number) place h

pub base_kept : (f g : ℕ → Bool) → ((n : ℕ) → f n ≡ true → g n ≡ true) → (b : Base) → base_complete f b ≡ true → base_complete g b ≡ true
base_kept f g k Void h = h
base_kept f g k (Integer kind) h = h
base_kept f g k (Struct n) h = k n h
base_kept f g k (Array (Qualified e c s x) n) h =
    let p = and_parts (nat_lt 0 n) (base_complete f e) h in
    and_from (nat_lt 0 n) (base_complete g e) p.0 (base_kept f g k e p.1)
base_kept f g k (Pointer t) h = h
base_kept f g k LockObject h = h

pub all_kept : (f g : ℕ → Bool) → ((n : ℕ) → f n ≡ true → g n ≡ true) → (ms : List Member) → all_complete f ms ≡ true → all_complete g ms ≡ true
all_kept f g k [] h = h
all_kept f g k (m ∷ ms) h =
    let p = and_parts (base_complete f (base_of m.ctype)) (all_complete f ms) h in
    and_from (base_complete g (base_of m.ctype)) (all_complete g ms) (base_kept f g k (base_of m.ctype) p.0) (all_kept f g k ms p.1)

-- The leaf elements of a complete type are complete.
pub leaf_complete : (f : ℕ → Bool) (b : Base) → base_complete f b ≡ true → base_complete f (leaf_base b) ≡ true
leaf_complete f Void h = h
leaf_complete f (Integer kind) h = h
leaf_complete f (Struct n) h = h
leaf_complete f (Array (Qualified e c s x) n) h = leaf_complete f e (and_parts (nat_lt 0 n) (base_complete f e) h).1
leaf_complete f (Pointer t) h = h
leaf_complete f LockObject h = h

differ_one : (cs : List Completed) (number n : ℕ) (b : Bool) → (number == n) ≡ b → known_in cs number ≡ None → complete_in cs n ≡ true → b ≡ false
differ_one cs number n false e a h = refl
differ_one cs number n true e a h = let q = subst (λ m. is_some (known_in cs m) ≡ true) (sym (eqb-true number n e)) h in absurd (let r = ap is_some a in cc)

differ : (cs : List Completed) (number n : ℕ) → known_in cs number ≡ None → complete_in cs n ≡ true → (number == n) ≡ false
differ cs number n a h = differ_one cs number n (number == n) refl a h

-- What is said of the structs that are complete among the older ones holds among all.
pub record Agrees (targets : List CType) (cs older : List Completed) : Type 0 where
  pub known : (n : ℕ) → complete_in older n ≡ true → known_in cs n ≡ known_in older n
  pub cells : (n : ℕ) → complete_in older n ≡ true → struct_cells targets cs n ≡ struct_cells targets older n

pub agrees : (targets : List CType) (c : Completed) (older : List Completed) → known_in older c.number ≡ None → Agrees targets (c ∷ older) older
agrees targets c older a = record {
  known = λ n h. rw (differ older c.number n a h) refl;
  cells = λ n h. rw (differ older c.number n a h) refl;
}

layout_same : (targets : List CType) (cs older : List Completed) → Agrees targets cs older → (b : Base) → base_complete (complete_in older) b ≡ true →
    base_layout (layout_in cs) b ≡ base_layout (layout_in older) b
layout_same targets cs older a Void h = refl
layout_same targets cs older a (Integer kind) h = refl
layout_same targets cs older a (Struct n) h = ap layout_or_none (a.known n h)
layout_same targets cs older a (Array (Qualified e c s x) n) h =
    ap (λ (l : Layout). let m : Layout = record { size = n * l.size; align = l.align } in m) (layout_same targets cs older a e (and_parts (nat_lt 0 n) (base_complete (complete_in older) e) h).1)
layout_same targets cs older a (Pointer (Qualified t c s x)) h = refl
layout_same targets cs older a LockObject h = refl

leaf_same : (targets : List CType) (cs older : List Completed) → Agrees targets cs older → (b : Base) → base_complete (complete_in older) b ≡ true →
    leaf_cells targets (struct_cells targets cs) b ≡ leaf_cells targets (struct_cells targets older) b
leaf_same targets cs older a Void h = refl
leaf_same targets cs older a (Integer kind) h = refl
leaf_same targets cs older a (Struct n) h = a.cells n h
leaf_same targets cs older a (Array t n) h = refl
leaf_same targets cs older a (Pointer t) h = refl
leaf_same targets cs older a LockObject h = refl

object_same : (targets : List CType) (cs older : List Completed) → Agrees targets cs older → (b : Base) → base_complete (complete_in older) b ≡ true →
    object_cells targets (layout_in cs) (struct_cells targets cs) b ≡ object_cells targets (layout_in older) (struct_cells targets older) b
object_same targets cs older a b h =
    let k = leaf_complete (complete_in older) b h in
    ap (λ (l : Layout). copies (leaves b) l.size (leaf_cells targets (struct_cells targets cs) (leaf_base b))) (layout_same targets cs older a (leaf_base b) k)
    ∙ ap (copies (leaves b) (base_layout (layout_in older) (leaf_base b)).size) (leaf_same targets cs older a (leaf_base b) k)

members_same : (targets : List CType) (cs older : List Completed) → Agrees targets cs older → (ms : List Member) → all_complete (complete_in older) ms ≡ true → (end : ℕ) →
    member_cells targets (layout_in cs) (struct_cells targets cs) end ms ≡ member_cells targets (layout_in older) (struct_cells targets older) end ms
members_same targets cs older a [] h end = refl
members_same targets cs older a (m ∷ ms) h end =
    let p = and_parts (base_complete (complete_in older) (base_of m.ctype)) (all_complete (complete_in older) ms) h in
    rw (layout_same targets cs older a (base_of m.ctype) p.0, object_same targets cs older a (base_of m.ctype) p.0, members_same targets cs older a ms p.1) refl

pub layouts_same : (targets : List CType) (cs older : List Completed) → Agrees targets cs older → (ms : List Member) → all_complete (complete_in older) ms ≡ true →
    member_layouts (layout_in cs) ms ≡ member_layouts (layout_in older) ms
layouts_same targets cs older a [] h = refl
layouts_same targets cs older a (m ∷ ms) h =
    let p = and_parts (base_complete (complete_in older) (base_of m.ctype)) (all_complete (complete_in older) ms) h in
    rw (layout_same targets cs older a (base_of m.ctype) p.0, layouts_same targets cs older a ms p.1) refl

-- The members of a struct, whose cells these are, give its layout and its cells, and were completed before it.
pub record IsStruct (targets : List CType) (cs : List Completed) (ms : List Member) (cells : List (ℕ × Kind)) (k : Known) : Type 0 where
  pub layout : k.layout ≡ struct_layout (member_layouts (layout_in cs) ms)
  pub cells_are : cells ≡ member_cells targets (layout_in cs) (struct_cells targets cs) 0 ms
  pub before : all_complete (complete_before cs k.place) ms ≡ true

lift : (targets : List CType) (cs older : List Completed) → Agrees targets cs older → (ms : List Member) (cells : List (ℕ × Kind)) (k : Known) →
    IsStruct targets older ms cells k → IsStruct targets cs ms cells k
lift targets cs older a ms cells k h =
    let complete = all_kept (complete_before older k.place) (complete_in older) (complete_since older k.place) ms h.before in
    record {
      layout = h.layout ∙ sym (ap struct_layout (layouts_same targets cs older a ms complete));
      cells_are = h.cells_are ∙ sym (members_same targets cs older a ms complete 0);
      before = all_kept (complete_before older k.place) (complete_before cs k.place) (λ n e. ap (λ o. placed_below o k.place) (a.known n (complete_since older k.place n e)) ∙ e) ms h.before;
    }

before_one : (cs : List Completed) (n : ℕ) (o : Option Known) → known_in cs n ≡ o → is_some o ≡ true → placed_below o (length cs) ≡ true
before_one cs n None e h = absurd cc
before_one cs n (Some k) e h = lt-ltb k.place (length cs) (placed cs n k e).below

struct_one : (targets : List CType) (older : List Completed) (b : Bool) (ms ns : List Member) (xs ys : List (ℕ × Kind)) (j k : Known) (o : Option Known) →
    (if b then Some j else o) ≡ Some k → IsStruct targets older ms xs j → ((i : Known) → o ≡ Some i → IsStruct targets older ns ys i) →
    IsStruct targets older (if b then ms else ns) (if b then xs else ys) k
struct_one targets older true ms ns xs ys j k o e h f = let q : j ≡ k = cc in subst (λ (i : Known). IsStruct targets older ms xs i) q h
struct_one targets older false ms ns xs ys j k o e h f = f k e

pub none_one : (o : Option Known) → is_some o ≡ false → o ≡ None
none_one None h = refl
none_one (Some k) h = absurd cc

pub struct_is : (targets : List CType) (cs : List Completed) (n : ℕ) (k : Known) → is_ordered cs ≡ true → known_in cs n ≡ Some k →
    IsStruct targets cs (members_in cs n) (struct_cells targets cs n) k
struct_is targets [] n k o h = absurd cc
struct_is targets (c ∷ older) n k o h =
    let p = and_parts (not (complete_in older c.number)) (all_complete (complete_in older) c.members && is_ordered older) o in
    let q = and_parts (all_complete (complete_in older) c.members) (is_ordered older) p.1 in
    let a = agrees targets c older (none_one (known_in older c.number) (not-true (complete_in older c.number) p.0)) in
    let l : Layout = struct_layout (member_layouts (layout_in older) c.members) in
    let j : Known = record { place = length older; layout = l; holds_private = members_hold_private (private_in older) c.members } in
    let xs = member_cells targets (layout_in older) (struct_cells targets older) 0 c.members in
    let head : IsStruct targets older c.members xs j = record {
      layout = refl;
      cells_are = refl;
      before = all_kept (complete_in older) (complete_before older (length older)) (λ m e. before_one older m (known_in older m) refl e) c.members q.0;
    } in
    lift targets (c ∷ older) older a _ _ k
    (struct_one targets older (c.number == n) c.members (members_in older n) xs (struct_cells targets older n) j k (known_in older n) h head (λ i e. struct_is targets older n i q.1 e))
