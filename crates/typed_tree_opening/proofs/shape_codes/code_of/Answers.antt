use Rattle.std.proofs.Common.{◌≡◌, ap, ◌∙◌, arith}
use Rattle.typed_tree_opening.specs.code.Apart.{places_code, code_of}
use Rattle.typed_tree_opening.proofs.shape_codes.code_of.Goals as goal

pub returns : goal.returns
unfolding code_of
returns c =
    let all : c.loop-i.i ≡ 16 = omega arith in
    c.loop-i.invariant.here ∙ ap (places_code c.args.shape.now) all
