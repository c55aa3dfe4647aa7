use Rattle.std.proofs.Common.{false, map, drop}
use Rattle.upc_tree.specs.layer.ViewStatement.{view_external}
use Rattle.typed_tree.specs.layer.ViewEnv.{view_env}
use Rattle.upc_checker.specs.Units as pure
use Rattle.upc_checker_scopes.specs.layer.Views.{view_setting, state_of}
use Rattle.upc_checker.specs.code.ViewMade.{view_made}
use Rattle.upc_checker_scopes.proofs.Walks.{Same}
use Rattle.upc_checker.proofs.units.walk_externals.Given as goal

-- what is left decides
abbrev pub invariant-loop-part : goal.invariant-loop-part
invariant-loop-part l =
    let w = pure.walk_externals (view_setting l.setting) in
    Same (w false (view_made (view_env l.fn.env) l.fn.made) (map view_external l.externals) (state_of l.fn.tags l.fn.known))
    (w l.strict (view_made (view_env l.env) l.made) (map view_external (drop l.part-index l.externals)) (state_of l.tags l.known))
