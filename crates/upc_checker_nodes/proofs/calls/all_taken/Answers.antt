use Rattle.std.proofs.Common.{◌≡◌, ◌+◌, true, map, drop, get_or, sym, ap, ◌∙◌, arith}
use Rattle.std.proofs.lemmas.List.{drop_more, at_drop_all}
use Rattle.typing_rules.specs.declared.library.LibraryParameter.TheVariants.{SharedPointer}
use Rattle.typed_tree.specs.ViewTree.{attr_seen}
use Rattle.typing_rules.specs.Rules as r
use Rattle.upc_checker_nodes.proofs.Arguments.{one_less, all_taken_more, all_taken_end}
use Rattle.upc_checker_nodes.proofs.calls.all_taken.Goals as goal

pub loop-i-preserved : goal.loop-i-preserved
loop-i-preserved c =
    let i = c.loop-i.i in
    let args = map attr_seen (drop i c.args.args.now) in
    let rest = drop (i + 1) c.args.parameters.now in
    let x = get_or c.args.parameters.now i SharedPointer in
    let n = drop_more c.args.parameters.now i SharedPointer (omega arith) in
    let fits : r.first_taken args x ≡ true = cc (c.one_taken.ensures, c.if-not-one_taken.false) in
    c.loop-i.invariant ∙ ap (r.all_taken args) n ∙ all_taken_more args x rest fits
    ∙ ap (λ l. r.all_taken l rest) (one_less attr_seen c.args.args.now i)

pub returns : goal.returns
returns c =
    let args = map attr_seen (drop c.loop-i.i c.args.args.now) in
    sym (c.loop-i.invariant ∙ at_drop_all (r.all_taken args) c.args.parameters.now c.loop-i.i (omega arith)
    ∙ all_taken_end args)
