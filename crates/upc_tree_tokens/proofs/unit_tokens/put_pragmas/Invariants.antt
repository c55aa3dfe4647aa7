use Rattle.std.proofs.Common.{◌≡◌, drop}
use Rattle.upc_tree.specs.Tokens.{spell_pragmas}
use Rattle.upc_tree_tokens.proofs.unit_tokens.put_pragmas.Given as goal

abbrev pub invariant-loop-i : goal.invariant-loop-i
invariant-loop-i l = l.out ≡ spell_pragmas (drop l.i l.pragmas) l.fn.out
