use Rattle.std.proofs.Common.{◌≡◌, length, sym, ◌∙◌, arith}
use Rattle.std.proofs.lemmas.Grind.{common_steps}
use Rattle.upc_checker_scopes.proofs.Numbers.{number_most, numbered_some, numbered_none}
use Rattle.upc_checker_scopes.proofs.defined.Defined.number.Goals as goal

pub overflow_cast-result : goal.overflow_cast-result
overflow_cast-result c =
    let names = c.args.self.now.names.items in
    let is = numbered_some names c.args.name c.in-Some.number (sym c.find.ensures ∙ c.in-Some.is) in
    let most = number_most names c.args.name in
    grind (arith, is, most, c.args.self.now.few)

pub returns-in-None : goal.returns-in-None
returns-in-None c =
    let n : c.len.result ≡ length c.args.self.now.names.items = grind (arith, common_steps, c.len.ensures) in
    n ∙ sym (numbered_none c.args.self.now.names.items c.args.name (sym c.find.ensures ∙ c.in-None.is))

pub returns-in-Some : goal.returns-in-Some
returns-in-Some c = sym (numbered_some c.args.self.now.names.items c.args.name c.in-Some.number (sym c.find.ensures ∙ c.in-Some.is))
