use Rattle.std.proofs.Common.{sym, ◌∙◌}
use Rattle.typed_tree.specs.Scopes.{is_taken, is_object, here, was_defined}
use Rattle.typed_tree.specs.layer.ViewEnv.{view_env}
use Rattle.upc_checker_scopes.specs.layer.Views.{view_setting, state_with}
use Rattle.upc_checker_scopes.proofs.Closing.{third}
use Rattle.upc_checker_scopes.proofs.known.definition_again.Goals as goal
use Rattle.upc_checker_scopes.proofs.known.definition_again.Goals.{then-is_taken, else-is_taken}

pub returns-else-has_object : goal.returns-else-has_object
returns-else-has_object c = λ tags.
    let s = state_with tags c.args.known.now in
    elim c.if-is_taken.branch [
      | then-is_taken w ↦ absurd cc
      | else-is_taken w ↦ third (is_taken (view_setting c.args.setting) c.args.name) (is_object (here c.args.name (view_env c.args.env.now))) (was_defined c.args.name s.functions) c.was_defined.result
          (sym c.is_taken.ensures ∙ w.if-is_taken.false) (sym w.has_object.ensures ∙ sym w.value-is ∙ c.if-has_object.false) (c.was_defined.ensures tags)
    ]
