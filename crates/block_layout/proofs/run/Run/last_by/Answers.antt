use Rattle.std.proofs.Common.{◌≡◌, ◌-◌, ◌/◌, refl, sym, ap, ◌∙◌, subst, arith}
use Rattle.std.specs.Arc.{arc_value}
use Rattle.block_layout.specs.code.Runs.{Repeated, repeated, first_of, run_cells, IsLastBy}
use Rattle.block_layout.proofs.FromPlace.{first_copy, last_is}
use Rattle.block_layout.proofs.run.Run.last_by.Goals as goal
use Rattle.block_layout.proofs.run.Run.last_by.Goals.{then-place-first-via-then-place-first, then-place-first-via-else-place-first+then-self-eq0}

pub returns-then-place-first : goal.returns-then-place-first
returns-then-place-first c =
    let i = c.self.inside in
    let r : Repeated = repeated i.start i.stride i.count (arc_value i.cells).items in
    let first : c.first-first.result ≡ first_of (run_cells r) = c.first-first.ensures.value ∙ ap (λ x. first_of (run_cells x)) (sym c.self.view_is) in
    subst (λ x. IsLastBy c.args.place 0 x) c.self.view_is (first_copy r c.args.place c.self.invariant (λ k.
    elim c.then-place-first.branch [
      | then-place-first-via-then-place-first w ↦ omega (arith, w.if-place-first.true, c.from-place.ensures, first)
      | then-place-first-via-else-place-first+then-self-eq0 w ↦ absurd (omega (arith, w.if-self-eq0.true, k))
    ]))

pub returns : goal.returns
returns c =
    let i = c.self.inside in
    let r : Repeated = repeated i.start i.stride i.count (arc_value i.cells).items in
    let first : c.first-first.result ≡ first_of (run_cells r) = c.first-first.ensures.value ∙ ap (λ x. first_of (run_cells x)) (sym c.self.view_is) in
    subst (λ x. IsLastBy c.args.place c.min.result x) c.self.view_is
    (last_is r c.args.place c.min.result c.first-first.result ((c.args.place - c.first-first.result) / i.stride) c.self.invariant first (omega (arith, c.if-place-first.false, c.from-place.ensures)) (omega (arith, c.if-self-eq0.false))
    refl (rw (c.min.ensures, c.from-place.ensures, c.from.ensures, c.from-2.ensures) refl))
