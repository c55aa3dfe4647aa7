use Rattle.std.proofs.Common.{◌≡◌, map, take}
use Rattle.upc_rounds_base.proofs.objects.objects_of.Given as goal

abbrev pub invariant-loop-declared : goal.invariant-loop-declared
invariant-loop-declared l = l.objects.items ≡ map (λ x. x.object) (take l.declared-index l.shared)
