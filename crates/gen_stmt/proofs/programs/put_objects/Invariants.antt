use Rattle.std.proofs.Common.{◌≡◌, drop}
use Rattle.gen_stmt.specs.code.Compiled.{with_objects}
use Rattle.gen_stmt.proofs.programs.put_objects.Given as goal

abbrev pub invariant-loop-shape : goal.invariant-loop-shape
invariant-loop-shape l =
    with_objects (drop l.shape-index l.shapes) l.builder ≡ with_objects l.shapes l.initial.builder
