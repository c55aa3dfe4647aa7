use Rattle.std.proofs.Common.{◌≡◌, drop}
use Rattle.gen_stmt.specs.code.Compiled.{with_initials}
use Rattle.gen_stmt.proofs.programs.put_initials.Given as goal

abbrev pub invariant-loop-given : goal.invariant-loop-given
invariant-loop-given l =
    with_initials (drop l.given-index l.initials) l.builder ≡ with_initials l.initials l.initial.builder
