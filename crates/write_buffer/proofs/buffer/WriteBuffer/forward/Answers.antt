use Rattle.std.proofs.Common.{true≢false, Some, option_map, refl, sym, ap, ◌∙◌}
use Rattle.write_buffer.specs.declared.pending.Pending.{Pending}
use Rattle.upc_values.specs.declared.scalar.Scalar.TheVariants.{Lock}
use Rattle.write_buffer.proofs.Places.{is-place, none-youngest, none-all}
use Rattle.write_buffer.proofs.buffer.WriteBuffer.forward.Goals as goal

pub returns-in-Some-clause-youngest : goal.returns-in-Some-clause-youngest
returns-in-Some-clause-youngest c =
    let d : Pending = record { index = 0; loc = c.args.loc; value = Lock 0 } in
    let place = is-place c.args.loc c.args.self.now c.in-Some.at (sym c.in-Some.ensures.place) in
    ap Some (c.read.ensures d) ∙ sym (ap (option_map (λ p. (p.index, p.value))) (place.youngest d))

pub returns-in-Some-clause-none : goal.returns-in-Some-clause-none
returns-in-Some-clause-none c =
    let d : Pending = record { index = 0; loc = c.args.loc; value = Lock 0 } in
    let place = is-place c.args.loc c.args.self.now c.in-Some.at (sym c.in-Some.ensures.place) in
    (λ h. absurd (true≢false h), λ all. absurd (true≢false (sym (place.loc d) ∙ all c.in-Some.at d place.within)))

pub returns-in-None-clause-youngest : goal.returns-in-None-clause-youngest
returns-in-None-clause-youngest c =
    sym (ap (option_map (λ p. (p.index, p.value))) (none-youngest c.args.loc c.args.self.now (sym c.in-None.ensures.place)))

pub returns-in-None-clause-none : goal.returns-in-None-clause-none
returns-in-None-clause-none c = (λ _. none-all c.args.loc c.args.self.now (sym c.in-None.ensures.place), λ _. refl)
