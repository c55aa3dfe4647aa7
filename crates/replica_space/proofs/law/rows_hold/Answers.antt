use Rattle.std.proofs.Common.{refl}
use Rattle.replica_space.proofs.law.rows_hold.Goals as goal

pub returns-clause-differ : goal.returns-clause-differ
returns-clause-differ c = record { second = refl; third = refl }

pub returns-clause-agree : goal.returns-clause-agree
returns-clause-agree c = record { copy_of_0 = refl; copy_of_1 = refl; order_of_0 = refl; order_of_1 = refl }
