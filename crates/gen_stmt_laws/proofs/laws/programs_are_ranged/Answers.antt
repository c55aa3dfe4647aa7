use Rattle.std.proofs.Math.Logic.{∥∥₁_map, ∥∥₁_prop, ∥∥₁_elim}
use Rattle.std.proofs.Common.{subst}
use Rattle.upc_values.specs.Openings.{IsOpening}
use Rattle.typed_tree.specs.Beginnings.{Beginning, view_beginning, opening_in}
use Rattle.typed_tree.specs.ViewProgram.{view_program}
use Rattle.typed_tree.specs.layer.PrivateOpenings.{IsPrivateOpening}
use Rattle.gen_stmt_laws.proofs.Constants.{functions_within}
use Rattle.gen_stmt_laws.proofs.laws.programs_are_ranged.Goals as goal

pub returns : goal.returns
returns c =
    let p = c.args.program.now in
    let x = view_program p in
    let b = view_beginning p.beginning in
    ∥∥₁_elim p.nodes ∥∥₁_prop (λ rules.
    ∥∥₁_elim p.opening ∥∥₁_prop (λ opening.
    ∥∥₁_elim p.private ∥∥₁_prop (λ private.
    ∥∥₁_map p.begins (λ e. record {
      rules = rules;
      opening = subst (λ (y : Beginning). IsOpening (opening_in x.threads y)) e opening;
      private = subst (λ (y : Beginning). IsPrivateOpening x.threads y) e private;
      layouts = p.beginning.structs.kept.fine;
      constants = functions_within p.functions.items;
      count = p.count;
    }))))
