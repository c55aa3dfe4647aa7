use Rattle.std.proofs.Common.{◌≡◌, ◌≤◌, ◌++◌, length, take, false, ap, ◌∙◌, subst, arith}
use Rattle.std.proofs.lemmas.List.{length-map, take_all}
use Rattle.order_builder.specs.declared.names.Named.{Named}
use Rattle.order_builder.specs.layer.Commits.{named}
use Rattle.race_report_places.specs.layer.Sights.{seen_with}
use Rattle.race_report_cells.specs.layer.Cells.{IsWalked}
use Rattle.race_report_cells.proofs.Walking.{walked-seen}
use Rattle.race_report_cells.proofs.cells.Cells.look_all.Goals as goal

pub loop-name-preserved : goal.loop-name-preserved
loop-name-preserved c =
    let i = c.loop-name.name-index in
    let d : Named = record { name = record { thread = 0; index = 0; write = false }; strict = false } in
    record {
      kept = c.in_ok-look.ensures.kept;
      walked = λ before k os q each knows w.
          walked-seen c.look.new.self before k os c.args.loc c.args.names.now i d q each c.loop-name-test.true
          (λ o on is.
          c.in_ok-look.ensures.walked (before ++ seen_with k (take i os)) (record { operation = o; known = k }) on is knows
          (c.loop-name.invariant.walked before k os q each knows w));
    }

pub returns : goal.returns
returns c = λ before k os q each knows w.
    let i = c.loop-name.name-index in
    let many : length c.args.names.now ≡ length os = ap length q ∙ length-map os named in
    let past = c.loop-name-test.false in
    let all : length os ≤ i = omega arith in
    subst (λ z. IsWalked c.loop-name.self (before ++ seen_with k z)) (take_all i os all)
    (c.loop-name.invariant.walked before k os q each knows w)
