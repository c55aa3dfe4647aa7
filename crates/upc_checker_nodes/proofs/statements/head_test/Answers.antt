use Rattle.upc_checker_nodes.proofs.statements.head_test.Goals as goal

pub returns-in-Some : goal.returns-in-Some
returns-in-Some c = λ φ. rw c.in-Some.is (rw c.deref.ensures at (c.test.ensures φ))
