use Rattle.std.proofs.Common.{◌≡◌, drop}
use Rattle.upc_tree.specs.Tokens.{spell_strings}
use Rattle.upc_tree_expressions.proofs.expressions.put_strings.Given as goal

abbrev pub invariant-loop-i : goal.invariant-loop-i
invariant-loop-i l = l.out ≡ spell_strings (drop l.i l.literals) l.fn.out
