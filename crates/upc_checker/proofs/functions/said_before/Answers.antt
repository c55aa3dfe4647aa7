use Rattle.std.proofs.Common.{Bool, ◌∙◌, ap}
use Rattle.upc_checker.specs.Units.{Earlier}
use Rattle.upc_checker.proofs.functions.said_before.Goals as goal

pub returns : goal.returns
returns c = λ tags.
    let both = λ (again differs : Bool). let e : Earlier = record { again = again; differs = differs } in e in
    ap (λ b. both b c.differs.result) (c.definition_again.ensures tags) ∙ ap (both _) (c.differs.ensures tags)
