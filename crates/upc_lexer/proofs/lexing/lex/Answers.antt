use Rattle.std.proofs.Common.{◌-◌, ℕ, List, ◌++◌, length, take, drop, ap, ◌∙◌, subst, arith, length-drop, length-take}
use Rattle.upc_lexer.specs.Places.{place_after}
use Rattle.upc_lexer.specs.layer.Steps.{Steps}
use Rattle.upc_lexer.proofs.Lists.{rest_is}
use Rattle.upc_lexer.proofs.CutLemmas.{cut_more, column_few}
use Rattle.upc_lexer.proofs.Fitting.{cut_fits}
use Rattle.upc_lexer.proofs.lexing.lex.Goals as goal

pub place_behind-place-requires-clause-column : goal.place_behind-place-requires-clause-column
place_behind-place-requires-clause-column c =
    let few = column_few c.args.source.now c.loop-at.at c.loop-at.place c.loop-at.invariant.place_is in
    omega (arith, few.1, length-take c.in_ok-length.length (take (length c.args.source.now - c.loop-at.at) (drop c.loop-at.at c.args.source.now)), length-take (length c.args.source.now - c.loop-at.at) (drop c.loop-at.at c.args.source.now), length-drop c.loop-at.at c.args.source.now)

pub loop-at-preserved : goal.loop-at-preserved
loop-at-preserved c =
    let whole = rest_is c.loop-at.at c.args.source.now in
    let steps = subst (λ (bytes : List ℕ). Steps bytes c.in_ok-length.length c.loop-at.at c.loop-at.place c.loop-at.lexed.tokens.items c.loop-at.lexed.names c.step.new.lexed.tokens.items c.step.new.lexed.names) whole c.in_ok-length.ensures.ok in
    cut_more c.args.source.now c.loop-at.at c.in_ok-length.length c.loop-at.lexed.tokens.items c.step.new.lexed.tokens.items c.loop-at.lexed.names c.step.new.lexed.names c.loop-at.place c.place_behind-place.result c.loop-at.invariant steps
    (λ front e. c.place_behind-place.ensures front e ∙ ap (λ (bytes : List ℕ). place_after (front ++ take c.in_ok-length.length bytes)) whole)

pub returns-clause-numbers : goal.returns-clause-numbers
returns-clause-numbers c = cut_fits c.args.source.now c.loop-at.at c.loop-at.lexed.tokens.items c.loop-at.lexed.names c.loop-at.place c.loop-at.invariant
