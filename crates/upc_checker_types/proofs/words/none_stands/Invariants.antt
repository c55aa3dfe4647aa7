use Rattle.std.proofs.Common.{◌≡◌, ◌==◌, drop}
use Rattle.std.specs.List.{list_all}
use Rattle.upc_checker_types.specs.Specifiers as pure
use Rattle.upc_checker_types.proofs.words.none_stands.Given as goal

-- what is left decides
abbrev pub invariant-loop-word : goal.invariant-loop-word
invariant-loop-word l = list_all (λ w. pure.count w l.words == 0) l.among ≡ list_all (λ w. pure.count w l.words == 0) (drop l.word-index l.among)
