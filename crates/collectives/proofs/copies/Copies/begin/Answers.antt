use Rattle.std.proofs.Common.{◌≡◌, map, Some, None, sym, ap, ◌∙◌, subst}
use Rattle.std.specs.Prelude.{IfOk}
use Rattle.collectives.proofs.Following.{goes_past}
use Rattle.collectives.proofs.Following.{stops_at}
use Rattle.collectives.specs.code.Calls.{refusal_in}
use Rattle.collectives.specs.code.Parts.{part_of}
use Rattle.collectives.specs.code.Tests.{move_tests}
use Rattle.collectives.specs.layer.Left.{copies_left}
use Rattle.collectives.specs.layer.Left.{parts_copied}
use Rattle.collectives.specs.layer.Wishes.{RefusesSo}
use Rattle.std.proofs.lemmas.Result.{IfErr-weaker}
use Rattle.upc_values.specs.Expansions as said
use Rattle.upc_values.specs.declared.refused.Refused.TheVariants.{Memory}
use Rattle.upc_values.specs.declared.refused.Refused.{Refused}
use Rattle.collectives.proofs.copies.Copies.begin.Goals as goal

pub returns-in-None-clause-made : goal.returns-in-None-clause-made
returns-in-None-clause-made c =
    let t = c.args.thread.now in
    let n = c.args.bytes in
    let xs = map part_of c.args.parts.items in
    let tests = move_tests t.threads t.shapes.now n xs in
    let e : None ≡ refusal_in tests =
    sym c.in-None.is ∙ c.in_ok-found.ensures.value
    ∙ ap (λ ps. refusal_in (move_tests t.threads t.shapes.now n (map part_of ps))) c.as_slice.ensures.value in
    subst (λ x. IfOk c.begun.result (λ o. copies_left t.shapes.now o ≡ x)) (goes_past tests (parts_copied t.shapes.now n xs) e)
    c.begun.ensures.made

pub returns-in-None-clause-refused : goal.returns-in-None-clause-refused
returns-in-None-clause-refused c =
    let t = c.args.thread.now in
    let move = said.move t.threads t.shapes.now t.number c.args.bytes (map part_of c.args.parts.items) in
    IfErr-weaker c.begun.result (λ e. e ≡ Memory) (λ e. RefusesSo e move)
    (λ e h. subst (λ (x : Refused). RefusesSo x move) (sym h) tt) c.begun.ensures.memory

pub returns-in-Some-clause-refused : goal.returns-in-Some-clause-refused
returns-in-Some-clause-refused c =
    let t = c.args.thread.now in
    let n = c.args.bytes in
    let xs = map part_of c.args.parts.items in
    let tests = move_tests t.threads t.shapes.now n xs in
    let e : Some c.in-Some.code ≡ refusal_in tests =
    sym c.in-Some.is ∙ c.in_ok-found.ensures.value
    ∙ ap (λ ps. refusal_in (move_tests t.threads t.shapes.now n (map part_of ps))) c.as_slice.ensures.value in
    stops_at tests (parts_copied t.shapes.now n xs) c.in-Some.code e
