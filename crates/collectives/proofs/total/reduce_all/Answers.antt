use Rattle.std.proofs.Common.{List, [], ◌∷◌, map, sym, ap, ◌∙◌}
use Rattle.block_layout.specs.declared.place.SharedPtr.{SharedPtr}
use Rattle.collectives.proofs.CellTests.{cell_tests}
use Rattle.collectives.proofs.Following.{goes_past}
use Rattle.collectives.proofs.Following.{own_work}
use Rattle.collectives.proofs.Following.{stops_at}
use Rattle.collectives.specs.code.Calls.{refusal_in}
use Rattle.upc_library.specs.layer.Spots.{pointer_of}
use Rattle.upc_values.specs.Expansion.{Expansion}
use Rattle.upc_values.specs.Expansion.{nothing}
use Rattle.upc_values.specs.Expansion.{refused_by}
use Rattle.upc_values.specs.Expansions as said
use Rattle.upc_values.specs.Reductions as reductions
use Rattle.collectives.proofs.total.reduce_all.Goals as goal

pub returns-in-None-clause-made : goal.returns-in-None-clause-made
returns-in-None-clause-made c = λ flags.
    let t = c.args.thread.now in
    let of = c.args.of.now in
    let k = reductions.element_kind of.kind in
    let go : SharedPtr → List SharedPtr → Expansion (Unit {0}) = λ d ps. said.reduce 0 [] 0 (reductions.reduction of.op) k d ps in
    let whole : SharedPtr → List SharedPtr → Expansion (Unit {0}) = λ d ps. refused_by (cell_tests t.threads t.shapes.now k (d ∷ ps)) (go d ps) in
    let d = pointer_of c.spot_at-dst.result in
    let ps = map pointer_of c.in_ok-elements.elements.items in
    c.begun.ensures t.threads t.shapes.now t.number
    ∙ goes_past (cell_tests t.threads t.shapes.now k (d ∷ ps)) (go d ps)
    (c.in-None.ensures.value ∙ ap (λ q. refusal_in (cell_tests t.threads t.shapes.now k (d ∷ map pointer_of q))) c.as_slice.ensures.value)
    ∙ ap (λ e. whole e ps) c.spot_at-dst.ensures ∙ ap (whole of.dst) c.in_ok-elements.ensures.elements
    ∙ own_work of.dst.thread t.number (whole of.dst (said.operands t.threads t.shapes.now t.number of.src of.block of.kind of.count)) nothing c.if-of-thread.false

pub returns-in-Some-clause-refused : goal.returns-in-Some-clause-refused
returns-in-Some-clause-refused c = λ flags.
    let t = c.args.thread.now in
    let of = c.args.of.now in
    let k = reductions.element_kind of.kind in
    let go : SharedPtr → List SharedPtr → Expansion (Unit {0}) = λ d ps. said.reduce 0 [] 0 (reductions.reduction of.op) k d ps in
    let whole : SharedPtr → List SharedPtr → Expansion (Unit {0}) = λ d ps. refused_by (cell_tests t.threads t.shapes.now k (d ∷ ps)) (go d ps) in
    let d = pointer_of c.spot_at-dst.result in
    let ps = map pointer_of c.in_ok-elements.elements.items in
    sym (ap (λ e. whole e ps) c.spot_at-dst.ensures ∙ ap (whole of.dst) c.in_ok-elements.ensures.elements
    ∙ own_work of.dst.thread t.number (whole of.dst (said.operands t.threads t.shapes.now t.number of.src of.block of.kind of.count)) nothing c.if-of-thread.false)
    ∙ stops_at (cell_tests t.threads t.shapes.now k (d ∷ ps)) (go d ps) c.in-Some.code
    (c.in-Some.ensures.value ∙ ap (λ q. refusal_in (cell_tests t.threads t.shapes.now k (d ∷ map pointer_of q))) c.as_slice.ensures.value)
