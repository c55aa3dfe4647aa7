use Rattle.std.proofs.Common.{◌≡◌, ◌==◌, drop}
use Rattle.std.specs.List.{list_all}
use Rattle.upc_checker_types.specs.Specifiers as pure
use Rattle.upc_checker_types.proofs.words.same_counts.Given as goal

-- what is left decides
abbrev pub invariant-loop-word : goal.invariant-loop-word
invariant-loop-word l = list_all (λ w. pure.count w l.a == pure.count w l.b) l.among ≡ list_all (λ w. pure.count w l.a == pure.count w l.b) (drop l.word-index l.among)
