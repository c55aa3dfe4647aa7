use Rattle.std.proofs.Common.{◌<◌, sym, arith}
use Rattle.typed_tree.proofs.SharedNumbers.{numbered_at}
use Rattle.typed_tree.proofs.numbers.numbered.Goals as goal

pub returns : goal.returns
returns c =
    let some : 0 < c.args.number = grind (arith, c.if-number-eq0.false) in
    let found = c.in_ok-declared.ensures.lookup in
    sym (numbered_at c.args.shared.now c.args.number c.in_ok-declared.declared.now some found.3.0 found.1)
