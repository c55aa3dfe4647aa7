-- The members of a struct, gone through one by one.
use Rattle.std.proofs.Common.{◌≡◌, ℕ, ◌+◌, ◌*◌, ◌/◌, ◌<◌, ◌≤◌, Bool, true, nat_lt, List, ◌∷◌, length, map, drop, get_or, Option, Some, None, is_some, refl, sym, ap, ◌∙◌, subst, arith}
use Rattle.std.proofs.Math.Nat.{mul-div_cancel}
use Rattle.std.proofs.lemmas.Bool.{ltb-true, and_parts}
use Rattle.std.specs.Option.{ForSome}
use Rattle.upc_types.specs.View.{view_base, view_member}
use Rattle.upc_types.specs.declared.structs.Member as c
use Rattle.upc_types.specs.declared.layout.Known.{Known}
use Rattle.upc_types.specs.declared.layout.Layout.{Layout}
use Rattle.upc_types.specs.Types.{CType, Qualified, Base, Void, Integer, Struct, Array, Pointer, LockObject, base_of, Member, Completed, members_in}
use Rattle.upc_types.specs.Layout.{aligned, end_behind, widest, base_layout, base_complete, known_in, layout_in, complete_in, all_complete, member_layouts, most_bytes}
use Rattle.upc_types.specs.layer.Kept.{IsFine, is_ordered}
use Rattle.upc_types.specs.Cells.{leaf_base, leaves, member_cells, struct_cells}
use Rattle.upc_types.proofs.Members.{next, aligned_low, alignment_some, grow, widest_low}
use Rattle.upc_types.proofs.Order.{placed_below, complete_before, complete_since, base_kept, leaf_complete, struct_is}
use Rattle.upc_types.proofs.Within.{leaf_sizes}
use Rattle.upc_types.proofs.Ranks.{place_or_none, rank}

pub positive : (n m : ℕ) → 0 < n → 0 < m → 0 < n * m
positive n m h k = grind arith

leaves_some : (f : ℕ → Bool) (b : Base) → base_complete f b ≡ true → 0 < leaves b
leaves_some f Void h = omega arith
leaves_some f (Integer k) h = omega arith
leaves_some f (Struct n) h = omega arith
leaves_some f (Array (Qualified e c s x) n) h =
    let p = and_parts (nat_lt 0 n) (base_complete f e) h in
    positive n (leaves e) (ltb-true 0 n p.0) (leaves_some f e p.1)
leaves_some f (Pointer t) h = omega arith
leaves_some f LockObject h = omega arith

no_larger : (n s : ℕ) → 0 < n → s ≤ n * s
no_larger n s h = grind arith

-- A leaf element is no larger than its object.
pub leaf_few : (f : ℕ → Bool) (g : ℕ → Layout) (b : Base) → base_complete f b ≡ true → (base_layout g (leaf_base b)).size ≤ (base_layout g b).size
leaf_few f g b h =
    let e = leaf_sizes g b in
    let l = no_larger (leaves b) (base_layout g (leaf_base b)).size (leaves_some f b h) in
    omega arith

-- How many leaf elements there are.
pub leaf_count : (g : ℕ → Layout) (b : Base) → 0 < (base_layout g (leaf_base b)).size → (base_layout g b).size / (base_layout g (leaf_base b)).size ≡ leaves b
leaf_count g b h = ap (λ n. n / (base_layout g (leaf_base b)).size) (leaf_sizes g b) ∙ mul-div_cancel (leaves b) h

-- What holds before the first member of a struct.
pub record IsBegun (targets : List CType) (cs : List Completed) (n : ℕ) : Type 0 where
  pub cells : member_cells targets (layout_in cs) (struct_cells targets cs) 0 (members_in cs n) ≡ struct_cells targets cs n
  pub ends : end_behind 0 (member_layouts (layout_in cs) (members_in cs n)) ≤ most_bytes
  pub before : all_complete (complete_before cs (place_or_none (known_in cs n))) (members_in cs n) ≡ true

begun_one : (targets : List CType) (cs : List Completed) (n : ℕ) (o : Option Known) → known_in cs n ≡ o → is_ordered cs ≡ true → ForSome o (λ k. IsFine k.layout) → is_some o ≡ true →
    IsBegun targets cs n
begun_one targets cs n None e o f h = absurd cc
begun_one targets cs n (Some k) e o f h =
    let s = struct_is targets cs n k o e in
    let ls = member_layouts (layout_in cs) (members_in cs n) in
    let w = widest_low ls 1 in
    let a = aligned_low (end_behind 0 ls) (widest 1 ls) (omega arith) in
    let fine : IsFine k.layout = f k refl in
    let size : k.layout.size ≡ aligned (end_behind 0 ls) (widest 1 ls) = ap (λ (l : Layout). l.size) s.layout in
    record {
      cells = sym s.cells_are;
      ends = omega (arith, fine.few);
      before = subst (λ i. all_complete (complete_before cs (place_or_none i)) (members_in cs n) ≡ true) (sym e) s.before;
    }

pub begun : (targets : List CType) (cs : List Completed) (n : ℕ) → is_ordered cs ≡ true → ForSome (known_in cs n) (λ k. IsFine k.layout) → complete_in cs n ≡ true → IsBegun targets cs n
begun targets cs n o f h = begun_one targets cs n (known_in cs n) refl o f h

pub place_one : (o : Option Known) (place : ℕ) → placed_below o place ≡ true → place_or_none o + 1 ≤ place
place_one None place h = absurd cc
place_one (Some k) place h = let l = ltb-true k.place place h in omega arith

pub deeper : (cs : List Completed) (place : ℕ) (b : Base) → base_complete (complete_before cs place) b ≡ true → rank cs b ≤ place
deeper cs place Void h = omega arith
deeper cs place (Integer k) h = omega arith
deeper cs place (Struct n) h = place_one (known_in cs n) place h
deeper cs place (Array t n) h = omega arith
deeper cs place (Pointer t) h = omega arith
deeper cs place LockObject h = omega arith

-- What holds at a member.
pub record IsAt (cs : List Completed) (place end : ℕ) (b : Base) (ms : List Member) : Type 0 where
  pub complete : base_complete (complete_in cs) b ≡ true
  pub leaf : base_complete (complete_in cs) (leaf_base b) ≡ true
  pub deep : rank cs (leaf_base b) ≤ place
  pub end_few : end ≤ most_bytes
  pub few : (base_layout (layout_in cs) b).size ≤ most_bytes
  pub near : aligned end (base_layout (layout_in cs) b).align + (base_layout (layout_in cs) b).size ≤ most_bytes
  pub ends : end_behind (aligned end (base_layout (layout_in cs) b).align + (base_layout (layout_in cs) b).size) (member_layouts (layout_in cs) ms) ≤ most_bytes
  pub before : all_complete (complete_before cs place) ms ≡ true

pub at_member : (cs : List Completed) (place end : ℕ) (m : Member) (ms : List Member) → all_complete (complete_before cs place) (m ∷ ms) ≡ true →
    end_behind end (member_layouts (layout_in cs) (m ∷ ms)) ≤ most_bytes → IsAt cs place end (base_of m.ctype) ms
at_member cs place end m ms h e =
    let b = base_of m.ctype in
    let l = base_layout (layout_in cs) b in
    let p = and_parts (base_complete (complete_before cs place) b) (all_complete (complete_before cs place) ms) h in
    let low = aligned_low end l.align (alignment_some cs b) in
    let more = grow cs (aligned end l.align + l.size) ms in
    let c = base_kept (complete_before cs place) (complete_in cs) (complete_since cs place) b p.0 in
    record {
      complete = c;
      leaf = leaf_complete (complete_in cs) b c;
      deep = deeper cs place (leaf_base b) (leaf_complete (complete_before cs place) b p.0);
      end_few = omega arith;
      few = omega arith;
      near = omega arith;
      ends = e;
      before = p.1;
    }

pub at_index : (cs : List Completed) (place end : ℕ) (xs : List c.Member) (i : ℕ) (x : c.Member) → i < length xs → x ≡ get_or xs i x →
    all_complete (complete_before cs place) (map view_member (drop i xs)) ≡ true → end_behind end (member_layouts (layout_in cs) (map view_member (drop i xs))) ≤ most_bytes →
    IsAt cs place end (view_base x.ctype.base) (map view_member (drop (i + 1) xs))
at_index cs place end xs i x l e h k =
    let n = next view_member xs i x l e in
    at_member cs place end (view_member x) (map view_member (drop (i + 1) xs))
    (subst (λ ms. all_complete (complete_before cs place) ms ≡ true) n h)
    (subst (λ ms. end_behind end (member_layouts (layout_in cs) ms) ≤ most_bytes) n k)
