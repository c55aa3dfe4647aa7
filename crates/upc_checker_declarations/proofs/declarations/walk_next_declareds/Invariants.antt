use Rattle.std.proofs.Common.{map, drop}
use Rattle.upc_tree.specs.layer.Lists.{next_declareds_of}
use Rattle.upc_tree.specs.layer.ViewStatement.{view_next_declared}
use Rattle.typed_tree.specs.layer.ViewEnv.{view_env}
use Rattle.typed_tree.specs.ViewStatements.{view_object}
use Rattle.upc_checker_declarations.specs.Declarations as pure
use Rattle.upc_checker_scopes.specs.layer.Views.{view_setting, state_of}
use Rattle.upc_checker_types.specs.layer.ViewShapes.{view_shaped}
use Rattle.upc_checker_scopes.proofs.Walks.{Same}
use Rattle.upc_checker_declarations.proofs.declarations.walk_next_declareds.Given as goal

-- what is left decides
abbrev pub invariant-loop-part : goal.invariant-loop-part
invariant-loop-part l =
    let w = pure.walk_next_declareds (view_setting l.setting) l.place (view_shaped l.t) in
    Same (w (record { scope = view_env l.fn.env; objects = map view_object l.fn.objects.items }) (next_declareds_of (map view_next_declared l.more)) (state_of l.fn.tags l.fn.known))
    (w (record { scope = view_env l.env; objects = map view_object l.objects.items }) (next_declareds_of (map view_next_declared (drop l.part-index l.more))) (state_of l.tags l.known))
