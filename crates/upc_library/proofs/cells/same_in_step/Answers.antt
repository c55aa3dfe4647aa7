use Rattle.std.proofs.Common.{ℕ, ◌≡◌, ◌+◌, ◌%◌, Some, sym, ap, ◌∙◌, subst, arith}
use Rattle.std.proofs.lemmas.Bool.{both_ways}
use Rattle.block_layout.specs.Lists.{under}
use Rattle.upc_values.specs.Shapes.{kind_at}
use Rattle.upc_values.specs.Views.{cells_within}
use Rattle.upc_library.proofs.Cursors.{one_further}
use Rattle.upc_library.proofs.Compared.{kinds_differ, same_more, same_itself}
use Rattle.upc_library.proofs.cells.same_in_step.Goals as goal

pub returns : goal.returns
returns c =
    let a = c.args.a.now in
    let b = c.args.b.now in
    let all : c.loop-i.i ≡ c.args.bytes = omega arith in
    sym (same_itself (cells_within (Some a) c.args.first c.args.bytes) (cells_within (Some b) c.args.second c.args.bytes)
    (subst (λ n. cells_within (Some a) c.args.first n ≡ cells_within (Some b) c.args.second n) all c.loop-i.invariant.same))

pub returns-then-not-are_alike : goal.returns-then-not-are_alike
returns-then-not-are_alike c =
    let a = c.args.a.now in
    let b = c.args.b.now in
    let i = c.loop-i.i in
    let first : c.pass.result ≡ kind_at (Some a) (c.args.first + i) =
    c.pass.ensures.passes.kind_is ∙ ap (λ p. under p a.cells) c.loop-i.invariant.first in
    let second : c.pass-in-loop-i.result ≡ kind_at (Some b) (c.args.second + i) =
    c.pass-in-loop-i.ensures.passes.kind_is ∙ ap (λ p. under p b.cells) c.loop-i.invariant.second in
    sym (kinds_differ (Some a) (Some b) c.args.first c.args.second i c.args.bytes c.loop-i-test.true
    (λ e. both_ways c.are_alike.result c.if-not-are_alike.true (c.are_alike.ensures.1 (first ∙ e ∙ sym second))))

pub loop-i-preserved : goal.loop-i-preserved
loop-i-preserved c =
    let a = c.args.a.now in
    let b = c.args.b.now in
    let i = c.loop-i.i in
    let first : c.pass.result ≡ kind_at (Some a) (c.args.first + i) =
    c.pass.ensures.passes.kind_is ∙ ap (λ p. under p a.cells) c.loop-i.invariant.first in
    let second : c.pass-in-loop-i.result ≡ kind_at (Some b) (c.args.second + i) =
    c.pass-in-loop-i.ensures.passes.kind_is ∙ ap (λ p. under p b.cells) c.loop-i.invariant.second in
    record {
      first = c.pass.ensures.passes.after_is ∙ ap (λ p. (p + 1) % a.size) c.loop-i.invariant.first ∙ one_further c.args.first i a.size;
      second = c.pass-in-loop-i.ensures.passes.after_is ∙ ap (λ p. (p + 1) % b.size) c.loop-i.invariant.second ∙ one_further c.args.second i b.size;
      here = c.pass.ensures.cursor;
      there = c.pass-in-loop-i.ensures.cursor;
      same = same_more (Some a) (Some b) c.args.first c.args.second i
          (sym first ∙ c.are_alike.ensures.0 c.if-not-are_alike.false ∙ second) c.loop-i.invariant.same;
    }
