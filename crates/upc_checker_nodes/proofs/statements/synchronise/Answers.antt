use Rattle.std.proofs.Common.{refl, sym}
use Rattle.upc_checker_nodes.proofs.statements.synchronise.Goals as goal

pub returns-in_ok-synchronise-in-None : goal.returns-in_ok-synchronise-in-None
returns-in_ok-synchronise-in-None c = λ ξ s. rw c.in-None.is (record { fine = refl; state = refl; value = sym c.in_ok-synchronise-in-None.ensures })

pub returns-in-Some : goal.returns-in-Some
returns-in-Some c = λ ξ s. rw c.in-Some.is (c.finish_barrier.ensures ξ s)
