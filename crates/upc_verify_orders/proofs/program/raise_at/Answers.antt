use Rattle.std.proofs.Common.{◌∙◌, subst, ℕ}
use Rattle.std.proofs.lemmas.List.{get_or_default}
use Rattle.upc_verify_orders.specs.code.Program.{Raises}
use Rattle.upc_verify_orders.proofs.Owns.{raises-at}
use Rattle.upc_verify_orders.proofs.program.raise_at.Goals as goal

pub returns-clause-raised : goal.returns-clause-raised
returns-clause-raised c =
    let list = c.args.list.now.items in
    raises-at c.args.test list c.args.place c.args.rank c.raised.result c.requires.within
    (subst (λ (v : ℕ). Raises c.args.test v c.raised.result c.args.rank)
    (c.index-old.ensures ∙ get_or_default list c.args.place c.index-old.result.now 0 c.requires.within) c.raised.ensures)
