use Rattle.std.proofs.Common.{true, ap, ◌∙◌}
use Rattle.typing_rules.specs.Meanings.{Function, Signature}
use Rattle.typed_tree.specs.Scopes.{with_entry, with_function}
use Rattle.typed_tree.specs.layer.ViewEnv.{view_env}
use Rattle.upc_checker_scopes.specs.layer.Views.{state_with}
use Rattle.upc_checker.proofs.functions.declare_definition.Goals as goal

pub returns-clause-known : goal.returns-clause-known
returns-clause-known c = λ tags.
    c.in_ok-note_function.ensures.ok tags ∙ ap (λ (g : Signature). with_function c.args.name g true (state_with tags c.args.known.now)) c.in_ok-copy.ensures

pub returns-clause-scope : goal.returns-clause-scope
returns-clause-scope c = c.in_ok-enter_function.ensures.ok ∙ ap (λ (g : Signature). with_entry c.args.name (Function g) (view_env c.args.env.now)) c.in_ok-copy-2.ensures
