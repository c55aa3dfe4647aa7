use Rattle.upc_checker_nodes.proofs.statements.judge_returned.Goals as goal

pub returns-in-None : goal.returns-in-None
returns-in-None c = λ φ. rw c.in-None.is (c.returns_nothing.ensures φ)

pub returns-in-Some : goal.returns-in-Some
returns-in-Some c = λ φ. rw c.in-Some.is (rw c.deref.ensures at (c.returns.ensures φ))
