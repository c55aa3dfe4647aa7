use Rattle.std.proofs.Common.{List, [], ◌++◌, map, sym, ap, ◌∙◌}
use Rattle.block_layout.specs.declared.place.SharedPtr.{SharedPtr}
use Rattle.collectives.proofs.CellTests.{cell_tests}
use Rattle.collectives.proofs.Following.{goes_past}
use Rattle.collectives.proofs.Following.{own_work}
use Rattle.collectives.proofs.Following.{stops_at}
use Rattle.collectives.specs.code.Calls.{refusal_in}
use Rattle.upc_library.specs.layer.Spots.{pointer_of}
use Rattle.upc_values.specs.Expansion.{Expansion}
use Rattle.upc_values.specs.Expansion.{nothing}
use Rattle.upc_values.specs.Expansion.{refused_by}
use Rattle.upc_values.specs.Expansions as said
use Rattle.upc_values.specs.Reductions as reductions
use Rattle.collectives.proofs.prefixes.reduce_all_prefixes.Goals as goal

pub returns-in-None-clause-made : goal.returns-in-None-clause-made
returns-in-None-clause-made c = λ flags.
    let t = c.args.thread.now in
    let of = c.args.of.now in
    let k = reductions.element_kind of.kind in
    let go : List SharedPtr → List SharedPtr → Expansion (Unit {0}) = λ ps qs. said.reduce_prefixes 0 [] 0 (reductions.reduction of.op) k (said.paired 0 [] 0 ps qs) in
    let whole : List SharedPtr → List SharedPtr → Expansion (Unit {0}) = λ ps qs. refused_by (cell_tests t.threads t.shapes.now k (ps ++ qs)) (go ps qs) in
    let ps = map pointer_of c.in_ok-intos.intos.items in
    let qs = map pointer_of c.in_ok-froms.froms.items in
    c.begun.ensures t.threads t.shapes.now t.number
    ∙ goes_past (cell_tests t.threads t.shapes.now k (ps ++ qs)) (go ps qs)
    (c.in-None.ensures.value
    ∙ ap (λ x. refusal_in (cell_tests t.threads t.shapes.now k (map pointer_of x ++ map pointer_of c.as_slice-2.result.now))) c.as_slice.ensures.value
    ∙ ap (λ x. refusal_in (cell_tests t.threads t.shapes.now k (ps ++ map pointer_of x))) c.as_slice-2.ensures.value)
    ∙ ap (λ x. whole x qs) c.in_ok-intos.ensures.elements ∙ ap (whole (said.operands t.threads t.shapes.now t.number of.dst of.block of.kind of.count)) c.in_ok-froms.ensures.elements
    ∙ own_work of.dst.thread t.number (whole (said.operands t.threads t.shapes.now t.number of.dst of.block of.kind of.count) (said.operands t.threads t.shapes.now t.number of.src of.block of.kind of.count)) nothing c.if-of-thread.false

pub returns-in-Some-clause-refused : goal.returns-in-Some-clause-refused
returns-in-Some-clause-refused c = λ flags.
    let t = c.args.thread.now in
    let of = c.args.of.now in
    let k = reductions.element_kind of.kind in
    let go : List SharedPtr → List SharedPtr → Expansion (Unit {0}) = λ ps qs. said.reduce_prefixes 0 [] 0 (reductions.reduction of.op) k (said.paired 0 [] 0 ps qs) in
    let whole : List SharedPtr → List SharedPtr → Expansion (Unit {0}) = λ ps qs. refused_by (cell_tests t.threads t.shapes.now k (ps ++ qs)) (go ps qs) in
    let ps = map pointer_of c.in_ok-intos.intos.items in
    let qs = map pointer_of c.in_ok-froms.froms.items in
    sym (ap (λ x. whole x qs) c.in_ok-intos.ensures.elements ∙ ap (whole (said.operands t.threads t.shapes.now t.number of.dst of.block of.kind of.count)) c.in_ok-froms.ensures.elements
    ∙ own_work of.dst.thread t.number (whole (said.operands t.threads t.shapes.now t.number of.dst of.block of.kind of.count) (said.operands t.threads t.shapes.now t.number of.src of.block of.kind of.count)) nothing c.if-of-thread.false)
    ∙ stops_at (cell_tests t.threads t.shapes.now k (ps ++ qs)) (go ps qs) c.in-Some.code
    (c.in-Some.ensures.value
    ∙ ap (λ x. refusal_in (cell_tests t.threads t.shapes.now k (map pointer_of x ++ map pointer_of c.as_slice-2.result.now))) c.as_slice.ensures.value
    ∙ ap (λ x. refusal_in (cell_tests t.threads t.shapes.now k (ps ++ map pointer_of x))) c.as_slice-2.ensures.value)
