use Rattle.std.proofs.Common.{◌≡◌, ◌+◌, true, map, drop, get_or, sym, ap, ◌∙◌, arith}
use Rattle.std.proofs.lemmas.List.{drop_more, at_drop_all}
use Rattle.typing_rules.specs.declared.library.LibraryParameter.TheVariants.{SharedPointer}
use Rattle.typed_tree.specs.ViewTree.{attr_seen}
use Rattle.typing_rules.specs.Rules as r
use Rattle.upc_checker_nodes.proofs.Arguments.{one_less, no_functions_more, no_functions_end}
use Rattle.upc_checker_nodes.proofs.calls.no_functions.Goals as goal

pub loop-i-preserved : goal.loop-i-preserved
loop-i-preserved c =
    let i = c.loop-i.i in
    let args = map attr_seen (drop i c.args.args.now) in
    let rest = drop (i + 1) c.args.parameters.now in
    let x = get_or c.args.parameters.now i SharedPointer in
    let n = drop_more c.args.parameters.now i SharedPointer (omega arith) in
    let fits : r.first_is_no_function args x
    ≡ true = cc (c.one_is_no_function.ensures, c.if-not-one_is_no_function.false) in
    c.loop-i.invariant ∙ ap (r.no_functions args) n ∙ no_functions_more args x rest fits
    ∙ ap (λ l. r.no_functions l rest) (one_less attr_seen c.args.args.now i)

pub returns : goal.returns
returns c =
    let args = map attr_seen (drop c.loop-i.i c.args.args.now) in
    sym (c.loop-i.invariant ∙ at_drop_all (r.no_functions args) c.args.parameters.now c.loop-i.i (omega arith)
    ∙ no_functions_end args)
