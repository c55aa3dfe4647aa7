use Rattle.std.proofs.Common.{rules, ◌≡◌, ◌-◌, ◌<◌, ℕ, suc, length, [], ap, sym, subst, ◌∙◌, arith}
use Rattle.turn_cell.specs.layer.Seats.{part, id_of, started, AreNew}
use Rattle.turn_cell.specs.code.Rule.{starting, blanks, without_first, first_alone}
use Rattle.turn_cell.proofs.Keeps.{deals}
use Rattle.turn_cell.proofs.Ends.{blanks_above, blanks_next, new_snoc, goes_on, goes_out}
use Rattle.turn_cell.proofs.cell.TurnCell.deal.Goals as goal

pub loop-number-init : goal.loop-number-init
loop-number-init g c = (
  ap length c.requires.cell.1,
  subst (AreNew (id_of c.args.self.now) (g.W.Kept.opening (started c.args.self.now)) 0) (sym c.requires.cell.1) tt,
  c.requires.cell.0,
  (let all : c.args.seats ≡ c.args.seats - 0 = omega arith in c.requires.first ∙ ap (λ (k : ℕ). (starting (g.W.Kept.opening (started c.args.self.now)) 0 k, [])) all),
  c.requires.cell.2,
)

pub split_seat-place-requires : goal.split_seat-place-requires
split_seat-place-requires g c = let i : ℕ = c.loop-number.number in let n : ℕ = c.args.seats in let inv = c.loop-number.invariant in (
  search rules,
  search rules,
  deals g.W.Kept.members g.W.Kept.opening g.W.Kept.number _ _ _ _ (part i []) (blanks (suc i) (n - suc i))
      (ap (λ m. m.0.parts) inv.3 ∙ blanks_next _ i n (search rules)) (blanks_above _ (suc i) (n - suc i) i (omega arith)) (ap (λ m. m.0.holds) inv.3),
)

pub push_reserved-requires : goal.push_reserved-requires
push_reserved-requires g c = let inv = c.loop-number.invariant in let few = c.loop-number-test.true in omega (arith, c.loop-number.all.ok)

pub loop-number-preserved : goal.loop-number-preserved
loop-number-preserved g c = let i : ℕ = c.loop-number.number in let n : ℕ = c.args.seats in let inv = c.loop-number.invariant in let lt : i < n = c.loop-number-test.true in let o = g.W.Kept.opening (started c.args.self.now) in
    let was = inv.3 in let cut = c.split_seat-place.ensures in (
      search rules,
      subst (AreNew (id_of c.args.self.now) o 0) (sym c.push_reserved.ensures.items)
          (new_snoc _ o 0 i c.loop-number.all.items _ inv.1 (omega (arith, inv.0)) (search rules, cut.4 ∙ (ap (λ m. (first_alone m.0, [])) was ∙ ap (λ v. (v, [])) (goes_out _ o i n lt)))),
      search rules,
      cut.2 ∙ (ap (λ m. (without_first m.0, m.1)) was ∙ ap (λ v. (v, [])) (goes_on _ o i n lt)),
      search rules,
    )

pub returns : goal.returns
returns g c = let inv = c.loop-number.invariant in let end = c.loop-number.auto in let last = c.loop-number-test.false in (search rules, inv.1)
