use Rattle.std.proofs.Common.{map, drop}
use Rattle.upc_tree.specs.layer.Lists.{next_exprs_of}
use Rattle.upc_tree.specs.layer.View.{view_next_expr}
use Rattle.typed_tree.specs.Scopes.{is_file}
use Rattle.typed_tree.specs.Tree.{AndExpr}
use Rattle.typed_tree.specs.layer.ViewEnv.{view_env}
use Rattle.typed_tree.specs.ViewTree.{view_expr}
use Rattle.typing_rules.specs.layer.Views.{view_use}
use Rattle.upc_checker_declarations.specs.Declarations as pure
use Rattle.upc_checker_scopes.specs.layer.Views.{view_setting, state_of}
use Rattle.upc_checker_scopes.proofs.Turns.{IsLeft, behind}
use Rattle.upc_checker_declarations.proofs.declarations.walk_initial_values.Given as goal

-- what is left decides
abbrev pub invariant-loop-part : goal.invariant-loop-part
invariant-loop-part l =
    let w = pure.walk_initial_values (view_setting l.setting) (view_env l.env) (is_file (view_env l.env)) (view_use l.how) in
    IsLeft (w (next_exprs_of (map view_next_expr l.values)) (state_of l.fn.tags l.fn.known)) (behind AndExpr (map view_expr l.all.items))
    (w (next_exprs_of (map view_next_expr (drop l.part-index l.values)))) (state_of l.tags l.known)
