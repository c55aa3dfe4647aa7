use Rattle.std.proofs.Common.{◌≡◌, ◌<◌, ℕ, length, refl, sym, ap, subst, ◌∙◌}
use Rattle.std.proofs.lemmas.Bool.{false≢true}
use Rattle.upc_values.specs.Openings.{Opening}
use Rattle.upc_values.specs.Records.{replies_of}
use Rattle.upc_values.specs.Orders.{record_of}
use Rattle.thread_steps.specs.layer.Fronts.{IsInTurn}
use Rattle.typed_tree.specs.Beginnings.{view_beginning}
use Rattle.typed_tree.specs.Programs.{start_of}
use Rattle.typed_tree.specs.ViewProgram.{view_program}
use Rattle.typed_tree.specs.declared.program.Program.{Program}
use Rattle.source_meaning.specs.Laws.{opening_of}
use Rattle.upc_rounds.specs.layer.Openings as rounds
use Rattle.upc_rounds_base.proofs.Begun.{same_opening}
use Rattle.upc_verify_parts.specs.Parts.{HasShape, HoldsOfEach}
use Rattle.upc_verify_judge.specs.layer.Meanings.{outcome_in}
use Rattle.upc_verify_judge.specs.Verdicts.{shape}
use Rattle.upc_verify_judge.specs.Verdicts as judge
use Rattle.upc_verify_judge.proofs.Judging.{misshapen}
use Rattle.upc_verify_judge.proofs.Cases.{case_by, verdict-by}
use Rattle.upc_verify.specs.Verdicts.{meaning, case_of}
use Rattle.upc_verify.specs.code.Meanings.{AreMeant}
use Rattle.upc_verify.proofs.Meanings.{meant-in_turn}
use Rattle.upc_verify.proofs.record.verify.Goals as goal

-- what the run begins with is what the meaning begins with
begins : (program : Program) → rounds.opening_of program ≡ opening_of (view_program program)
begins program =
    same_opening program.threads (view_beginning program.beginning) (start_of (view_program program)) program.begins

pub returns-then-not-has_shape : goal.returns-then-not-has_shape
returns-then-not-has_shape c =
    let p = c.args.program.now in
    let j = c.args.journal.now in
    let x = c.args.orders.now in (
      shape,
      refl,
      misshapen (case_of (record { program = view_program p; journal = j; orders = x })) p.least
          (λ h. false≢true (sym c.if-not-has_shape.true
          ∙ c.has_shape.ensures.1 (subst (λ n. HasShape n j x) (sym c.threads-threads.ensures) h))),
    )

pub judge_by-requires-clause-some : goal.judge_by-requires-clause-some
judge_by-requires-clause-some c =
    let p = c.args.program.now in
    subst (λ (o : Opening). 0 < o.threads) (sym (c.in_ok-world.ensures.1)) p.least

pub judge_by-requires-clause-same : goal.judge_by-requires-clause-same
judge_by-requires-clause-same c = c.in_ok-again.ensures.1 ∙ sym c.in_ok-world.ensures.1

pub judge_by-requires-clause-shape : goal.judge_by-requires-clause-shape
judge_by-requires-clause-shape c =
    let j = c.args.journal.now in
    let x = c.args.orders.now in
    subst (λ (o : Opening). HasShape o.threads j x) (sym (c.in_ok-world.ensures.1))
    (subst (λ n. HasShape n j x) c.threads-threads.ensures (c.has_shape.ensures.0 c.if-not-has_shape.false))

pub judge_by-requires-clause-many : goal.judge_by-requires-clause-many
judge_by-requires-clause-many c =
    subst (λ (o : Opening). length c.as_slice.result.now ≡ o.threads) (sym (c.in_ok-world.ensures.1))
    (ap length c.as_slice.ensures.value ∙ c.in_ok-meant.ensures.many)

pub judge_by-requires-clause-turns : goal.judge_by-requires-clause-turns
judge_by-requires-clause-turns c =
    let p = c.args.program.now in
    let j = c.args.journal.now in
    let x = c.args.orders.now in
    let meant = c.as_slice.result.now in
    let formed : HasShape p.threads j x =
    subst (λ n. HasShape n j x) c.threads-threads.ensures (c.has_shape.ensures.0 c.if-not-has_shape.false) in
    subst (λ (o : Opening). HoldsOfEach o.threads (λ t. IsInTurn (outcome_in meant t).actions)) (sym (c.in_ok-world.ensures.1))
    (meant-in_turn (view_program p) j meant formed.budget
    (subst (AreMeant (view_program p) j) (sym c.as_slice.ensures.value) c.in_ok-meant.ensures))

pub returns : goal.returns
returns c =
    let p = c.args.program.now in
    let program = view_program p in
    let j = c.args.journal.now in
    let x = c.args.orders.now in
    let meant = c.as_slice.result.now in
    let are : AreMeant program j meant = subst (AreMeant program j) (sym c.as_slice.ensures.value) c.in_ok-meant.ensures in
    let opens : c.in_ok-world.world.0 ≡ opening_of program = c.in_ok-world.ensures.1 ∙ begins p in
    verdict-by (opening_of program) j x (outcome_in meant) (λ t. meaning program j.budget t (replies_of (record_of j t)))
    c.in_ok-verdict.verdict are.each
    (subst (λ (o : Opening). judge.IsVerdict (case_by o j x (outcome_in meant)) c.in_ok-verdict.verdict) opens c.in_ok-verdict.ensures)
