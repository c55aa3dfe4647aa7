use Rattle.std.proofs.Common.{◌≡◌, ◌<◌, ℕ, ◌-◌, ◌++◌, length, map, drop, sym, ap, ◌∙◌, rules, arith}
use Rattle.std.proofs.lemmas.Grind.{common_steps}
use Rattle.typing_rules.specs.Nodes.{view_attr}
use Rattle.typed_tree.specs.Tree.{ExprKind, exprs_of}
use Rattle.typed_tree.specs.ViewTree.{view_kind, view_expr}
use Rattle.typed_tree.proofs.Built.{call_is, comma_is}
use Rattle.gen_expr.specs.layer.ViewSource.{view_source}
use Rattle.gen_expr.specs.layer.Codes.{given_code, dropped_kind_code, last_code}
use Rattle.gen_expr.proofs.Commas.{part_done, all_done}
use Rattle.gen_expr.proofs.expressions.+expression_code.Goals as goal

pub put_address_code-returns-in-Call : goal.put_address_code-returns-in-Call
put_address_code-returns-in-Call t c =
    let v = ap (given_code (view_source c.args.source) c.args.strict c.args.e.now.place (view_attr c.args.e.now.attr))
    (ap view_kind c.in-Call.is ∙ call_is c.in-Call.target c.in-Call.args) in
    first_of (search rules, grind (arith, common_steps))

pub put_address_code-returns-in-Comma : goal.put_address_code-returns-in-Comma
put_address_code-returns-in-Comma t c =
    let v = ap (given_code (view_source c.args.source) c.args.strict c.args.e.now.place (view_attr c.args.e.now.attr))
    (ap view_kind c.in-Comma.is ∙ comma_is c.in-Comma.parts) in
    first_of (search rules, grind (arith, common_steps))

pub put_parts-loop-i-preserved : goal.put_parts-loop-i-preserved
put_parts-loop-i-preserved t c =
    part_done (view_source c.args.source) c.args.strict c.args.place c.args.parts.now c.loop-i.i c.index-parts-i.result
    c.put_effect_code.new.code.items c.loop-i.code.items (omega arith) c.index-parts-i.is
    c.in_ok-put_effect_code.ensures
    ∙ c.loop-i.invariant

pub put_parts-returns : goal.put_parts-returns
put_parts-returns t c =
    let parts = c.args.parts.now in
    let some : 0 < length parts = first_of (search rules, grind (arith, common_steps)) in
    let last : c.loop-i.i ≡ length parts - 1 = omega arith in
    all_done (view_source c.args.source) c.args.strict c.args.place c.put_value_code.result parts (length parts - 1)
    c.index-parts-last.result c.put_value_code.new.code.items c.loop-i.code.items c.args.code.now.items
    (omega arith) c.index-parts-last.is
    (ap (λ (i : ℕ). c.loop-i.code.items
    ++ last_code (view_source c.args.source) c.args.strict c.args.place (exprs_of (map view_expr (drop i parts))))
    (sym last) ∙ c.loop-i.invariant)
    c.put_value_code.ensures

pub put_done-returns-in-Comma : goal.put_done-returns-in-Comma
put_done-returns-in-Comma t c =
    let ς = view_source c.args.source in
    let e = c.args.e.now in
    let v = ap (λ (k : ExprKind). dropped_kind_code ς c.args.strict e.place (view_attr e.attr) k
    (given_code ς c.args.strict e.place (view_attr e.attr) k))
    (ap view_kind c.in-Comma.is ∙ comma_is c.in-Comma.parts) in
    first_of (search rules, grind (arith, common_steps))
