use Rattle.std.proofs.Common.{◌≡◌, ◌∙◌, OnOk, List, sym, subst}
use Rattle.stack_code.specs.declared.instruction.Instr.{Instr}
use Rattle.stack_code.specs.layer.Making.{with_instructions}
use Rattle.gen_expr.specs.layer.Codes as pure
use Rattle.typed_tree.specs.ViewTree.{view_expr}
use Rattle.gen_expr.specs.layer.Sources.{Source}
use Rattle.gen_expr.specs.layer.Meanings.{AppendsMeaning}
use Rattle.gen_expr.specs.layer.ViewSource.{view_source}
use Rattle.gen_expr.proofs.Appended.{made, appends_meaning}
use Rattle.gen_expr.proofs.building.expr_code.Goals as goal

pub returns-clause-means : goal.returns-clause-means
returns-clause-means c =
    let ς = view_source c.of-source.result in
    let e = view_expr c.args.e.now in
    subst
    (λ (s : Source). OnOk c.append_all.result (AppendsMeaning s c.args.strict e c.args.into.now c.append_all.new.self))
    c.of-source.ensures
    (appends_meaning ς c.args.strict e
    c.append_all.result c.put_value_code.new.code.items c.args.into.now
    c.append_all.new.self
    (made ς c.args.strict e c.put_value_code.result c.new-code.result.items c.put_value_code.new.code.items
    (sym c.is_err.ensures.value ∙ c.if-is_err.false) c.new-code.ensures.items c.put_value_code.ensures)
    c.append_all.ensures.done)

pub returns-clause-done : goal.returns-clause-done
returns-clause-done c =
    let ς = view_source c.of-source.result in
    let e = view_expr c.args.e.now in
    let is : c.put_value_code.new.code.items ≡ pure.value_code ς c.args.strict e =
    made ς c.args.strict e c.put_value_code.result c.new-code.result.items c.put_value_code.new.code.items
    (sym c.is_err.ensures.value ∙ c.if-is_err.false) c.new-code.ensures.items c.put_value_code.ensures in
    subst
    (λ (s : Source). OnOk c.append_all.result
    (c.append_all.new.self ≡ with_instructions (pure.value_code s c.args.strict e) c.args.into.now))
    c.of-source.ensures
    (subst
    (λ (xs : List Instr). OnOk c.append_all.result (c.append_all.new.self ≡ with_instructions xs c.args.into.now))
    is c.append_all.ensures.done)
