use Rattle.std.proofs.Common.{map, sym, subst}
use Rattle.upc_types.specs.View.{view}
use Rattle.upc_types.specs.Cells.{IsItsOwn}
use Rattle.upc_types.proofs.Equal.{its_own}
use Rattle.upc_types.proofs.structs.Structs.number_of.Goals as goal

pub returns-clause-own : goal.returns-clause-own
returns-clause-own c =
    let targets = map view c.args.self.now.targets.list.items in
    let t = view c.args.target.now in
    subst (λ n. IsItsOwn targets t n) (sym c.number_of.ensures.value) (its_own targets t)
