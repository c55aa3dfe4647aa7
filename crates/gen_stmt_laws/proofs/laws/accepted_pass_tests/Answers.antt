use Rattle.std.proofs.Math.Logic.{∥∥₁_map}
use Rattle.typed_tree.specs.ViewProgram.{view_program}
use Rattle.gen_stmt_laws.proofs.Accepted.{accepted_have_formed_types}
use Rattle.gen_stmt_laws.proofs.Tests.{tests_pass}
use Rattle.gen_stmt_laws.proofs.laws.accepted_pass_tests.Goals as goal

pub returns : goal.returns
returns c = λ h.
    let x = view_program c.args.program.now in
    ∥∥₁_map c.programs_are_ranged.ensures (λ ranged. tests_pass x ranged (accepted_have_formed_types x h))
