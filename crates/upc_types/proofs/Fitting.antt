-- Members that have sizes, one after the other.
use Rattle.std.proofs.Common.{◌≡◌, ℕ, zero, suc, ◌+◌, ◌<◌, ◌≤◌, nat_le, Bool, true, false, ◌&&◌, if◌then◌else◌, List, [], ◌∷◌, ◌++◌, length, map, drop, get_or, Some, None, is_some, refl, sym, ap, ◌∙◌, append_assoc, subst, arith, leb-true}
use Rattle.std.proofs.lemmas.Bool.{and_parts}
use Rattle.upc_types.specs.declared.layout.Layout.{Layout}
use Rattle.upc_types.specs.declared.structs.Member as c
use Rattle.upc_types.specs.Types.{base_of, Member, Completed}
use Rattle.upc_types.specs.View.{view_base, view_member}
use Rattle.upc_types.specs.Layout.{aligned, end_behind, widest, base_layout, base_complete, complete_in, layout_in, most_bytes, members_within, all_complete, member_layouts, struct_layout, offset_behind}
use Rattle.upc_types.specs.code.Starts.{starts_behind}
use Rattle.upc_types.proofs.Members.{next, aligned_low, alignment_some, grow, widest_low}

-- Members after some bytes, which have sizes and end within an object.
pub record MembersFrom (cs : List Completed) (end : ℕ) (ms : List Member) : Type 0 where
  pub complete : all_complete (complete_in cs) ms ≡ true
  pub near : end_behind end (member_layouts (layout_in cs) ms) ≤ most_bytes

some_is : (p : Bool) (l : Layout) → is_some {T = Layout} (if p then Some l else None) ≡ p
some_is true l = refl
some_is false l = refl

pub from_start : (cs : List Completed) (ms : List Member) → is_some (members_within cs ms) ≡ true → MembersFrom cs 0 ms
from_start cs ms h =
    let ls = member_layouts (layout_in cs) ms in
    let p = and_parts (all_complete (complete_in cs) ms) (nat_le (struct_layout ls).size most_bytes)
    (sym (some_is (all_complete (complete_in cs) ms && nat_le (struct_layout ls).size most_bytes) (struct_layout ls)) ∙ h) in
    let w = widest_low ls 1 in
    let a = aligned_low (end_behind 0 ls) (widest 1 ls) (omega arith) in
    let b = leb-true (struct_layout ls).size most_bytes p.1 in
    record { complete = p.0; near = omega (arith, a, b) }

-- What holds at the first of them.
pub record IsFirst (cs : List Completed) (end : ℕ) (m : Member) (ms : List Member) : Type 0 where
  pub complete : base_complete (complete_in cs) (base_of m.ctype) ≡ true
  pub few : (base_layout (layout_in cs) (base_of m.ctype)).size ≤ most_bytes
  pub end_few : end ≤ most_bytes
  pub near : aligned end (base_layout (layout_in cs) (base_of m.ctype)).align + (base_layout (layout_in cs) (base_of m.ctype)).size ≤ most_bytes
  pub rest : MembersFrom cs (aligned end (base_layout (layout_in cs) (base_of m.ctype)).align + (base_layout (layout_in cs) (base_of m.ctype)).size) ms

first_of : (cs : List Completed) (end : ℕ) (m : Member) (ms : List Member) → MembersFrom cs end (m ∷ ms) → IsFirst cs end m ms
first_of cs end m ms h =
    let l = base_layout (layout_in cs) (base_of m.ctype) in
    let p = and_parts (base_complete (complete_in cs) (base_of m.ctype)) (all_complete (complete_in cs) ms) h.complete in
    let low = aligned_low end l.align (alignment_some cs (base_of m.ctype)) in
    let more = grow cs (aligned end l.align + l.size) ms in
    record {
      complete = p.0;
      few = omega (arith, low, more, h.near);
      end_few = omega (arith, low, more, h.near);
      near = omega (arith, more, h.near);
      rest = record { complete = p.1; near = h.near };
    }

-- The same, member by member.
pub first_at : (cs : List Completed) (end : ℕ) (xs : List c.Member) (i : ℕ) (x : c.Member) → i < length xs → x ≡ get_or xs i x →
    MembersFrom cs end (map view_member (drop i xs)) → IsFirst cs end (view_member x) (map view_member (drop (i + 1) xs))
first_at cs end xs i x h e f =
    first_of cs end (view_member x) (map view_member (drop (i + 1) xs)) (subst (λ (ms : List Member). MembersFrom cs end ms) (next view_member xs i x h e) f)

-- Where the first of them begins, and then the others.
pub starts_next : (cs : List Completed) (end : ℕ) (xs : List c.Member) (i : ℕ) (x : c.Member) (done : List ℕ) → i < length xs → x ≡ get_or xs i x →
    let l = base_layout (layout_in cs) (view_base x.ctype.base) in
    (done ++ (aligned end l.align ∷ [])) ++ starts_behind (aligned end l.align + l.size) (member_layouts (layout_in cs) (map view_member (drop (i + 1) xs)))
    ≡ done ++ starts_behind end (member_layouts (layout_in cs) (map view_member (drop i xs)))
starts_next cs end xs i x done h e =
    let l = base_layout (layout_in cs) (view_base x.ctype.base) in
    append_assoc done (aligned end l.align ∷ []) (starts_behind (aligned end l.align + l.size) (member_layouts (layout_in cs) (map view_member (drop (i + 1) xs))))
    ∙ ap (λ (ms : List Member). done ++ starts_behind end (member_layouts (layout_in cs) ms)) (sym (next view_member xs i x h e))

pub end_next : (cs : List Completed) (end : ℕ) (xs : List c.Member) (i : ℕ) (x : c.Member) → i < length xs → x ≡ get_or xs i x →
    let l = base_layout (layout_in cs) (view_base x.ctype.base) in
    end_behind (aligned end l.align + l.size) (member_layouts (layout_in cs) (map view_member (drop (i + 1) xs)))
    ≡ end_behind end (member_layouts (layout_in cs) (map view_member (drop i xs)))
end_next cs end xs i x h e = ap (λ (ms : List Member). end_behind end (member_layouts (layout_in cs) ms)) (sym (next view_member xs i x h e))

-- The offset of a member, from where all begin.
pub offset_is : (end : ℕ) (ls : List Layout) (i : ℕ) → get_or (starts_behind end ls) i (end_behind end ls) ≡ offset_behind end ls i
offset_is end [] i = refl
offset_is end (l ∷ ls) zero = refl
offset_is end (l ∷ ls) (suc i) = offset_is (aligned end l.align + l.size) ls i

-- A member begins before the members end.
pub offset_low : (cs : List Completed) (end : ℕ) (ms : List Member) (i : ℕ) → offset_behind end (member_layouts (layout_in cs) ms) i ≤ end_behind end (member_layouts (layout_in cs) ms)
offset_low cs end [] i = omega arith
offset_low cs end (m ∷ ms) zero =
    let l = base_layout (layout_in cs) (base_of m.ctype) in
    let more = grow cs (aligned end l.align + l.size) ms in
    omega (arith, more)
offset_low cs end (m ∷ ms) (suc i) =
    let l = base_layout (layout_in cs) (base_of m.ctype) in
    offset_low cs (aligned end l.align + l.size) ms i
