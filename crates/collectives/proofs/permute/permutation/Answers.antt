use Rattle.std.proofs.Common.{ℕ, ◌≡◌, map, length, length-append, ap, ◌∙◌, arith}
use Rattle.std.specs.List.{range_with_len}
use Rattle.block_layout.specs.declared.place.SharedPtr.{SharedPtr}
use Rattle.upc_values.specs.Views.{element}
use Rattle.upc_library.specs.layer.Spots.{pointer_of}
use Rattle.collectives.proofs.Members.{mapped-more}
use Rattle.collectives.proofs.permute.permutation.Goals as goal

pub loop-i-preserved : goal.loop-i-preserved
loop-i-preserved c =
    let f : ℕ → SharedPtr = λ i. element c.from_phase_0-start.result 1 4 c.args.thread.now.threads i in
    record {
      elements = mapped-more f pointer_of c.loop-i.elements.items c.push.new.self.items c.element.result c.loop-i.i c.in_ok-push.ensures.items (c.element.ensures ∙ ap (λ j. element c.from_phase_0-start.result 1 4 c.args.thread.now.threads j) c.from.ensures) c.loop-i.invariant.elements;
      many = omega (arith, simp length-append at (ap length c.in_ok-push.ensures.items), c.loop-i.invariant.many);
    }

pub returns-clause-elements : goal.returns-clause-elements
returns-clause-elements c =
    let threads = c.args.thread.now.threads in
    let all : c.loop-i.i ≡ threads = omega arith in
    c.loop-i.invariant.elements
    ∙ ap (λ n. map (λ i. element c.from_phase_0-start.result 1 4 threads i) (range_with_len 0 n)) all
    ∙ ap (λ p. map (λ i. element p 1 4 threads i) (range_with_len 0 threads)) c.from_phase_0-start.ensures
