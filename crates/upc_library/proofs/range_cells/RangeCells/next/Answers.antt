use Rattle.std.proofs.Common.{ℕ, ◌≡◌, ◌+◌, ◌-◌, ◌%◌, ◌<◌, ◌≤◌, [], refl, sym, ap, ◌∙◌, arith}
use Rattle.upc_library.proofs.NextCell.{none_left, gap_less, first_left}
use Rattle.upc_library.proofs.range_cells.RangeCells.next.Goals as goal

pub returns-in_err-gap : goal.returns-in_err-gap
returns-in_err-gap c =
    let s = c.self.inside in
    let none = none_left s.element s.place s.before s.left (c.in_err-gap.ensures s.left) in
    let e : c.args.self.now ≡ [] = sym c.self.view_is ∙ none in
    rw c.from_residual.ensures (e, e)

pub returns-then-gap-self : goal.returns-then-gap-self
returns-then-gap-self c =
    let s = c.self.inside in
    let none = none_left s.element s.place s.before s.left
    (gap_less s.element s.place c.in_ok-gap.gap s.left c.in_ok-gap.ensures.gap (omega arith)) in
    let e : c.args.self.now ≡ [] = sym c.self.view_is ∙ none in
    (e, e)

pub returns : goal.returns
returns c =
    let s = c.self.inside in
    let here : c.in_ok-gap.gap < s.left = omega arith in
    sym c.self.view_is
    ∙ first_left s.element s.place s.before s.left c.in_ok-gap.gap c.in_ok-gap.kind c.place_behind-place.result
    (s.before + c.in_ok-gap.gap + 1) (s.left - (c.in_ok-gap.gap + 1)) c.in_ok-gap.ensures here c.place_behind-place.ensures.value refl refl

pub invariant_of-self : goal.invariant_of-self
invariant_of-self c =
    let few = c.self.invariant.few in
    record {
      shape = c.self.invariant.shape;
      inside = c.place_behind-place.ensures.inside;
      few = omega arith;
    }
