use Rattle.std.proofs.Common.{ℤ, List, [], map, sym, ap, ◌∙◌}
use Rattle.block_layout.specs.declared.kind.Kind.TheVariants as kind
use Rattle.block_layout.specs.declared.place.SharedPtr.{SharedPtr}
use Rattle.collectives.proofs.Following.{goes_past}
use Rattle.collectives.proofs.Following.{stops_at}
use Rattle.collectives.specs.code.Calls.{refusal_in}
use Rattle.collectives.specs.code.Tests.{permute_tests}
use Rattle.collectives.specs.layer.Left.{permuted}
use Rattle.upc_library.specs.layer.Spots.{pointer_of}
use Rattle.upc_values.specs.Expansion.{Expansion}
use Rattle.upc_values.specs.layer.Parts as parts
use Rattle.upc_values.specs.Expansion.{bind}
use Rattle.upc_values.specs.Expansion.{gathered}
use Rattle.upc_values.specs.Expansion.{refused_by}
use Rattle.upc_values.specs.Expansions as said
use Rattle.collectives.proofs.permute.permute.Goals as goal

pub returns-in-None-clause-made : goal.returns-in-None-clause-made
returns-in-None-clause-made c =
    let t = c.args.thread.now in
    let ends = c.args.ends.now in
    let n = ends.bytes in
    let ps = parts.permutation t.threads t.shapes.now t.number c.args.perm.now in
    let go : List ℤ → Expansion (Unit {0}) = λ vs. permuted t.threads t.shapes.now t.number ends.dst.now ends.src.now n vs in
    let whole : List SharedPtr → SharedPtr → Expansion (Unit {0}) = λ q o. refused_by (permute_tests t.threads t.shapes.now n q o) (bind (gathered (said.number_at 0 [] 0 kind.Int) q) go) in
    let qs = map pointer_of c.in_ok-permutation.permutation.items in
    let own = pointer_of c.own_block-own.result in
    c.begun.ensures t.threads t.shapes.now t.number
    ∙ goes_past (permute_tests t.threads t.shapes.now n qs own) (bind (gathered (said.number_at 0 [] 0 kind.Int) qs) go)
    (c.in-None.ensures.value ∙ ap (λ q. refusal_in (permute_tests t.threads t.shapes.now n (map pointer_of q) own)) c.as_slice.ensures.value)
    ∙ ap (λ q. whole q own) c.in_ok-permutation.ensures.elements ∙ ap (whole ps) c.own_block-own.ensures

pub returns-in-Some-clause-refused : goal.returns-in-Some-clause-refused
returns-in-Some-clause-refused c =
    let t = c.args.thread.now in
    let ends = c.args.ends.now in
    let n = ends.bytes in
    let ps = parts.permutation t.threads t.shapes.now t.number c.args.perm.now in
    let go : List ℤ → Expansion (Unit {0}) = λ vs. permuted t.threads t.shapes.now t.number ends.dst.now ends.src.now n vs in
    let whole : List SharedPtr → SharedPtr → Expansion (Unit {0}) = λ q o. refused_by (permute_tests t.threads t.shapes.now n q o) (bind (gathered (said.number_at 0 [] 0 kind.Int) q) go) in
    let qs = map pointer_of c.in_ok-permutation.permutation.items in
    let own = pointer_of c.own_block-own.result in
    sym (ap (λ q. whole q own) c.in_ok-permutation.ensures.elements ∙ ap (whole ps) c.own_block-own.ensures)
    ∙ stops_at (permute_tests t.threads t.shapes.now n qs own) (bind (gathered (said.number_at 0 [] 0 kind.Int) qs) go) c.in-Some.code
    (c.in-Some.ensures.value ∙ ap (λ q. refusal_in (permute_tests t.threads t.shapes.now n (map pointer_of q) own)) c.as_slice.ensures.value)
