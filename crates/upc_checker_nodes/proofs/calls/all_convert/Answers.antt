use Rattle.std.proofs.Common.{◌≡◌, ◌+◌, true, map, drop, sym, ap, ◌∙◌, arith}
use Rattle.std.proofs.lemmas.List.{at_drop_all}
use Rattle.upc_types.specs.View.{view}
use Rattle.typed_tree.specs.ViewTree.{attr_seen}
use Rattle.typing_rules.specs.Rules as r
use Rattle.upc_checker_nodes.proofs.Arguments.{one_less, all_convert_more, all_convert_end}
use Rattle.upc_checker_nodes.proofs.calls.all_convert.Goals as goal
use Rattle.upc_types.proofs.Members.{next}

pub loop-i-preserved : goal.loop-i-preserved
loop-i-preserved c =
    let i = c.loop-i.i in
    let args = map attr_seen (drop i c.args.args.now) in
    let t = c.index-types-i.result in
    let rest = map view (drop (i + 1) c.args.types.now) in
    let n = next view c.args.types.now i t (omega arith) c.index-types-i.is in
    let fits : r.first_converts args (view t) ≡ true = cc (c.one_converts.ensures, c.if-not-one_converts.false) in
    c.loop-i.invariant ∙ ap (r.all_convert args) n ∙ all_convert_more args (view t) rest fits
    ∙ ap (λ l. r.all_convert l rest) (one_less attr_seen c.args.args.now i)

pub returns : goal.returns
returns c =
    let args = map attr_seen (drop c.loop-i.i c.args.args.now) in
    sym (c.loop-i.invariant ∙ at_drop_all (λ ts. r.all_convert args (map view ts)) c.args.types.now c.loop-i.i
    (omega arith) ∙ all_convert_end args)
