use Rattle.std.proofs.Common.{◌≡◌, ℕ, suc, ◌+◌, ◌-◌, ◌<◌, length, sym, ap, ◌∙◌, subst, arith}
use Rattle.block_layout.specs.Lists.{under}
use Rattle.block_layout.specs.Shapes.{CellsWithin}
use Rattle.block_layout.specs.code.Runs.{Repeated, repeated, run_cells, IsLastBy}
use Rattle.block_layout.proofs.FromPlace.{copy_within}
use Rattle.block_layout.proofs.UnderByte.{under_run}
use Rattle.block_layout.proofs.run.Run.kind_at.Goals as goal

pub kind_among-requires : goal.kind_among-requires
kind_among-requires c =
    let i = c.self.inside in
    let cells = c.as_slice.ensures.value ∙ ap (λ v. v.items) c.deref.ensures in
    let r : Repeated = repeated i.start i.stride i.count c.as_slice.result.now in
    let same : r ≡ c.args.self.now = ap (λ xs. repeated i.start i.stride i.count xs) cells ∙ c.self.view_is in
    let copy = c.last_by.result in
    let by : IsLastBy c.args.place copy r = subst (λ x. IsLastBy c.args.place copy x) (sym same) c.last_by.ensures in
    (c.requires.0, copy_within r c.requires.0 copy (i.count - 1 - copy) (subst (λ x. CellsWithin (run_cells x) 0 c.requires.0) (sym same) c.requires.1) (omega (arith, by.below)))

pub returns : goal.returns
returns c =
    let i = c.self.inside in
    let cells = c.as_slice.ensures.value ∙ ap (λ v. v.items) c.deref.ensures in
    let r : Repeated = repeated i.start i.stride i.count c.as_slice.result.now in
    let same : r ≡ c.args.self.now = ap (λ xs. repeated i.start i.stride i.count xs) cells ∙ c.self.view_is in
    let run = subst (λ xs. 0 < length xs) (sym cells) c.self.invariant.cell in
    let copy = c.last_by.result in
    let by : IsLastBy c.args.place copy r = subst (λ x. IsLastBy c.args.place copy x) (sym same) c.last_by.ensures in
    let within : CellsWithin (run_cells r) 0 c.requires.0 = subst (λ x. CellsWithin (run_cells x) 0 c.requires.0) (sym same) c.requires.1 in
    let m : ℕ = i.count - 1 - copy in
    let all : copy + suc m ≡ r.count = omega (arith, by.below) in
    c.kind_among.ensures ∙ under_run r c.requires.0 c.args.place copy m within run by all ∙ ap (λ x. under c.args.place (run_cells x)) same
