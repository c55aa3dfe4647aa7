use Rattle.std.proofs.Common.{◌≡◌, drop}
use Rattle.upc_checker_heads.specs.Heads as pure
use Rattle.upc_checker_heads.proofs.heads.strict_behind.Given as goal

-- what is left decides
abbrev pub invariant-loop-pragma : goal.invariant-loop-pragma
invariant-loop-pragma l = pure.strict_behind l.strict (drop l.pragma-index l.pragmas) ≡ pure.strict_behind l.before l.pragmas
