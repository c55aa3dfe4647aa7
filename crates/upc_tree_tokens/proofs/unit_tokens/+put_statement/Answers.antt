use Rattle.std.proofs.Common.{ap, ◌∙◌, rules, arith}
use Rattle.std.proofs.lemmas.Grind.{common_steps}
use Rattle.upc_tree.specs.Statement.{spell_statement}
use Rattle.upc_tree.specs.layer.ViewStatement.{view_statement}
use Rattle.upc_tree.proofs.StatementRows.{compound_is, if_is, switch_is}
use Rattle.upc_tree_tokens.proofs.unit_tokens.+put_statement.Goals as goal

pub put_statement-returns-in-Compound : goal.put_statement-returns-in-Compound
put_statement-returns-in-Compound t c =
    let v = ap (λ x. spell_statement x c.args.out.now) (ap view_statement c.in-Compound.is ∙ compound_is c.in-Compound.compound) in
    first_of (search rules, grind (arith, common_steps))

pub put_statement-returns-in_ok-put_else_ifs-in-If : goal.put_statement-returns-in_ok-put_else_ifs-in-If
put_statement-returns-in_ok-put_else_ifs-in-If t c =
    let v = ap (λ x. spell_statement x c.args.out.now) (ap view_statement c.in-If.is ∙ if_is c.in-If.word c.in-If.test c.in-If.body c.in-If.more c.in-If.otherwise) in
    first_of (search rules, grind (arith, common_steps))

pub put_statement-returns-in-Switch : goal.put_statement-returns-in-Switch
put_statement-returns-in-Switch t c =
    let v = ap (λ x. spell_statement x c.args.out.now) (ap view_statement c.in-Switch.is ∙ switch_is c.in-Switch.word c.in-Switch.test c.in-Switch.open c.in-Switch.body c.in-Switch.close) in
    first_of (search rules, grind (arith, common_steps))
