use Rattle.std.proofs.Common.{◌≡◌, ℕ, ◌+◌, ◌≤◌, [], ◌∷◌, ◌++◌, List, map, drop, reverse, refl, sym, ap, ◌∙◌, subst, arith}
use Rattle.upc_types.specs.declared.layout.Layout.{Layout}
use Rattle.upc_types.specs.View.{view_base, view_completed, view_member}
use Rattle.upc_types.specs.Layout.{aligned, base_layout, end_behind, layout_in, member_layouts, most_bytes}
use Rattle.upc_types.specs.code.Starts.{starts_behind}
use Rattle.upc_types.proofs.Fitting.{MembersFrom, from_start, first_at, starts_next, end_next}
use Rattle.upc_types.proofs.structs.Structs.spots_of.Goals as goal

pub loop-member-init : goal.loop-member-init
loop-member-init c = record {
  starts = rw c.new-starts.ensures.items refl;
  ends = refl;
  fits = from_start (reverse (map view_completed c.args.self.now.completed.items)) (map view_member c.args.members.now) c.requires.fit;
}

pub whole_layout-layout-requires-clause-complete : goal.whole_layout-layout-requires-clause-complete
whole_layout-layout-requires-clause-complete c =
    (first_at (reverse (map view_completed c.args.self.now.completed.items)) c.loop-member.end c.args.members.now c.loop-member.member-index c.member-item.result c.loop-member-test.true c.member-item.is c.loop-member.invariant.fits).complete

pub whole_layout-layout-requires-clause-few : goal.whole_layout-layout-requires-clause-few
whole_layout-layout-requires-clause-few c =
    (first_at (reverse (map view_completed c.args.self.now.completed.items)) c.loop-member.end c.args.members.now c.loop-member.member-index c.member-item.result c.loop-member-test.true c.member-item.is c.loop-member.invariant.fits).few

pub aligned-start-requires-clause-near : goal.aligned-start-requires-clause-near
aligned-start-requires-clause-near c =
    let f = first_at (reverse (map view_completed c.args.self.now.completed.items)) c.loop-member.end c.args.members.now c.loop-member.member-index c.member-item.result c.loop-member-test.true c.member-item.is c.loop-member.invariant.fits in
    omega (arith, f.end_few)

pub overflow_add-end : goal.overflow_add-end
overflow_add-end c =
    let f = first_at (reverse (map view_completed c.args.self.now.completed.items)) c.loop-member.end c.args.members.now c.loop-member.member-index c.member-item.result c.loop-member-test.true c.member-item.is c.loop-member.invariant.fits in
    let near : c.aligned-start.result + c.whole_layout-layout.result.size ≤ most_bytes = rw (c.aligned-start.ensures.value, c.whole_layout-layout.ensures.value) f.near in
    omega (arith, near)

pub loop-member-preserved : goal.loop-member-preserved
loop-member-preserved c =
    let cs = reverse (map view_completed c.args.self.now.completed.items) in
    let xs = c.args.members.now in
    let i = c.loop-member.member-index in
    let x = c.member-item.result in
    let end = c.loop-member.end in
    let l : Layout = base_layout (layout_in cs) (view_base x.ctype.base) in
    let f = first_at cs end xs i x c.loop-member-test.true c.member-item.is c.loop-member.invariant.fits in
    let layout : c.whole_layout-layout.result ≡ l = c.whole_layout-layout.ensures.value in
    let start : c.aligned-start.result ≡ aligned end l.align = c.aligned-start.ensures.value ∙ ap (λ (k : Layout). aligned end k.align) layout in
    let next : c.aligned-start.result + c.whole_layout-layout.result.size ≡ aligned end l.align + l.size = ap (λ n. n + c.whole_layout-layout.result.size) start ∙ ap (λ (k : Layout). aligned end l.align + k.size) layout in
    let rest = member_layouts (layout_in cs) (map view_member (drop (i + 1) xs)) in
    record {
      starts = ap (λ (ys : List ℕ). ys ++ starts_behind (c.aligned-start.result + c.whole_layout-layout.result.size) rest) (c.in_ok-push.ensures.items ∙ ap (λ n. c.loop-member.starts.items ++ (n ∷ [])) start)
          ∙ ap (λ n. (c.loop-member.starts.items ++ (aligned end l.align ∷ [])) ++ starts_behind n rest) next
          ∙ starts_next cs end xs i x c.loop-member.starts.items c.loop-member-test.true c.member-item.is
          ∙ c.loop-member.invariant.starts;
      ends = ap (λ n. end_behind n rest) next ∙ end_next cs end xs i x c.loop-member-test.true c.member-item.is ∙ c.loop-member.invariant.ends;
      fits = subst (λ n. MembersFrom cs n (map view_member (drop (i + 1) xs))) (sym next) f.rest;
    }
