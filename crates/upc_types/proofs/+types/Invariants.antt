use Rattle.std.proofs.Common.{◌≤◌}
use Rattle.upc_types.specs.declared.target.Target.TheDeep.{deep-Base}
use Rattle.upc_types.proofs.+types.Given as goal

abbrev pub decreases-ctype::Base::drop : goal.decreases-ctype::Base::drop
decreases-ctype::Base::drop l = goal.size-ctype::Base::drop l

abbrev pub decreases-target::Target::into_type : goal.decreases-target::Target::into_type
decreases-target::Target::into_type l = goal.size-target::Target::into_type l

abbrev pub invariant-ctype::Base::drop-loop-self : goal.invariant-ctype::Base::drop-loop-self
invariant-ctype::Base::drop-loop-self l = record { rest : deep-Base l.self ≤ deep-Base l.fn.self }

abbrev pub decreases-ctype::Base::drop-loop-self : goal.decreases-ctype::Base::drop-loop-self
decreases-ctype::Base::drop-loop-self l = deep-Base l.self
