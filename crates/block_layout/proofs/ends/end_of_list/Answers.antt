use Rattle.std.proofs.Common.{◌+◌, take, get_or, sym, ap, ◌∙◌, subst}
use Rattle.block_layout.specs.declared.kind.Kind.TheVariants.{Char}
use Rattle.block_layout.specs.Shapes.{LieUpTo}
use Rattle.block_layout.proofs.LieBehind.{lie_next}
use Rattle.block_layout.proofs.ends.end_of_list.Goals as goal

pub loop-place-preserved : goal.loop-place-preserved
loop-place-preserved c =
    let xs = c.args.cells.now in
    let i = c.loop-place.place-index in
    subst (λ n. LieUpTo (take (i + 1) xs) c.args.from n) (sym (c.in_ok-end.ensures.1 ∙ ap (λ n. (get_or xs i (0, Char)).0 + n) c.size.ensures.value))
    (lie_next xs c.args.from c.loop-place.end i (0, Char) c.loop-place-test.true c.if-place-end.false c.loop-place.invariant)
