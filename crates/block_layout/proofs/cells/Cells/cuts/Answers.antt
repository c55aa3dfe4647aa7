use Rattle.std.proofs.Common.{rules, ◌≡◌, ℕ, ◌-◌, ◌≤◌, ap, ◌∙◌, sym, subst, arith}
use Rattle.block_layout.specs.Cells.{has_cut, cells_from}
use Rattle.block_layout.specs.Shapes.{CellsWithin, kind_size}
use Rattle.block_layout.specs.declared.kind.Kind.{Kind}
use Rattle.block_layout.proofs.FromPlace.{cut_from, from_within, cut_ends, cut_later, rest_within}
use Rattle.block_layout.proofs.cells.Cells.cuts.Goals as goal

pub loop-start-init : goal.loop-start-init
loop-start-init c =
    let self = c.args.self.now in
    let low = c.saturating_sub.result in
    let e : c.into_iter-start-iterator.result ≡ cells_from low self =
    first_of (cc (c.into_iter-start-iterator.ensures.into_iter_gives, c.from-start-items.ensures), search rules) in
    record {
      next = tt;
      finite = tt;
      within = (c.requires.0, subst (λ xs. CellsWithin xs 0 c.requires.0) (sym e) (from_within self 0 c.requires.0 low c.requires.1));
      rest = ap (λ xs. has_cut xs c.args.place) e ∙ cut_from self low c.args.place (omega (arith, c.saturating_sub.ensures));
    }

pub loop-start-preserved : goal.loop-start-preserved
loop-start-preserved c =
    let inv = c.loop-start.invariant in
    let all = c.loop-start.start-iterator in
    let cell : ℕ × Kind = (c.in-Some.start, c.in-Some.kind) in
    let few : kind_size c.in-Some.kind ≤ c.args.place - c.in-Some.start = omega (arith, c.if-place-start.false, c.size.ensures.value) in
    record {
      next = tt;
      finite = tt;
      within = (inv.within.0, rest_within all c.next.new.self cell inv.within.0 c.in-Some.ensures.steps inv.within.1);
      rest = cut_later all c.next.new.self cell c.args.place c.in-Some.ensures.steps c.if-start-place.false few ∙ inv.rest;
    }

pub returns-then-start-place : goal.returns-then-start-place
returns-then-start-place c =
    let inv = c.loop-start.invariant in
    sym (sym inv.rest
    ∙ cut_ends c.loop-start.start-iterator c.next.new.self (c.in-Some.start, c.in-Some.kind) inv.within.0 c.args.place c.in-Some.ensures.steps inv.within.1 c.if-start-place.true)
