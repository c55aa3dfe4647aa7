use Rattle.std.proofs.Common.{[], ◌++◌, map, drop}
use Rattle.upc_tree.specs.layer.Lists.{dimensions_of, members_of, next_declarators_of, next_exprs_of, next_parameters_of, pointers_of, quals_of, specs_of}
use Rattle.upc_tree.specs.layer.View.{view_dimension, view_member, view_next_declarator, view_next_expr, view_next_parameter, view_pointer, view_qual, view_spec}
use Rattle.upc_types.specs.View as types
use Rattle.typed_tree.specs.layer.ViewEnv.{view_env}
use Rattle.typed_tree.specs.ViewTree.{view_expr}
use Rattle.upc_checker_scopes.specs.Walk.{andthen, give}
use Rattle.upc_checker_types.specs.Specifiers.{both_quals, both_specified}
use Rattle.upc_checker_expressions.specs.Expressions as pure
use Rattle.upc_checker_scopes.specs.layer.Views.{state_of, view_setting}
use Rattle.upc_checker_types.specs.layer.ViewShapes.{view_quals, view_shaped, view_specified, view_specifying}
use Rattle.upc_checker_nodes.specs.layer.ViewUses.{view_uses}
use Rattle.upc_checker_scopes.proofs.Walks.{Same}
use Rattle.upc_checker_expressions.proofs.Lists.{front}
use Rattle.upc_checker_expressions.proofs.+walk.Given as goal

-- The walk over a list has the same outcome as the walk over the rest, with what is made so far.

abbrev pub invariant-expressions::walk_more-loop-part : goal.invariant-expressions::walk_more-loop-part
invariant-expressions::walk_more-loop-part l =
    Same (pure.walk_more (view_setting l.setting) (view_env l.env) (view_uses l.fn.uses) (next_exprs_of (map view_next_expr l.more)) (state_of l.initial.tags l.initial.known))
    (andthen (pure.walk_more (view_setting l.setting) (view_env l.env) (view_uses l.uses) (next_exprs_of (map view_next_expr (drop l.part-index l.more)))) (λ ys. give (front (map view_expr l.all.items) ys)) (state_of l.tags l.known))

abbrev pub invariant-types::walk_members-loop-line : goal.invariant-types::walk_members-loop-line
invariant-types::walk_members-loop-line l =
    Same (pure.walk_members (view_setting l.setting) (view_env l.env) [] (members_of (map view_member l.lines)) (state_of l.initial.tags l.initial.known))
    (pure.walk_members (view_setting l.setting) (view_env l.env) (map types.view_member l.members.all.items) (members_of (map view_member (drop l.line-index l.lines))) (state_of l.tags l.known))

abbrev pub invariant-types::walk_next_members-loop-part : goal.invariant-types::walk_next_members-loop-part
invariant-types::walk_next_members-loop-part l =
    Same (pure.walk_next_members (view_setting l.setting) (view_env l.env) (view_shaped l.t) (map types.view_member l.initial.members.all.items) (next_declarators_of (map view_next_declarator l.more)) (state_of l.initial.tags l.initial.known))
    (pure.walk_next_members (view_setting l.setting) (view_env l.env) (view_shaped l.t) (map types.view_member l.members.all.items) (next_declarators_of (map view_next_declarator (drop l.part-index l.more))) (state_of l.tags l.known))

abbrev pub invariant-types::walk_next_parameters-loop-part : goal.invariant-types::walk_next_parameters-loop-part
invariant-types::walk_next_parameters-loop-part l =
    Same (pure.walk_next_parameters (view_setting l.setting) (record { types = map types.view l.initial.all.items; scope = view_env l.initial.scope }) (next_parameters_of (map view_next_parameter l.more)) (state_of l.initial.tags l.initial.known))
    (pure.walk_next_parameters (view_setting l.setting) (record { types = map types.view l.all.items; scope = view_env l.scope }) (next_parameters_of (map view_next_parameter (drop l.part-index l.more))) (state_of l.tags l.known))

abbrev pub invariant-types::walk_pointers-loop-i : goal.invariant-types::walk_pointers-loop-i
invariant-types::walk_pointers-loop-i l =
    Same (pure.walk_pointers (view_setting l.setting) (view_env l.env) l.star (view_shaped l.fn.t) (pointers_of (map view_pointer l.pointers)) (state_of l.initial.tags l.initial.known))
    (pure.walk_pointers (view_setting l.setting) (view_env l.env) l.star (view_shaped l.t) (pointers_of (map view_pointer (drop l.i l.pointers))) (state_of l.tags l.known))

abbrev pub invariant-types::walk_quals-loop-qual : goal.invariant-types::walk_quals-loop-qual
invariant-types::walk_quals-loop-qual l =
    Same (pure.walk_quals (view_setting l.setting) (view_env l.env) l.star (quals_of (map view_qual l.quals)) (state_of l.initial.tags l.initial.known))
    (andthen (pure.walk_quals (view_setting l.setting) (view_env l.env) l.star (quals_of (map view_qual (drop l.qual-index l.quals)))) (λ q. give (both_quals (view_quals l.all) q)) (state_of l.tags l.known))

abbrev pub invariant-types::walk_sizes-loop-part : goal.invariant-types::walk_sizes-loop-part
invariant-types::walk_sizes-loop-part l =
    Same (pure.walk_sizes (view_setting l.setting) (view_env l.env) (dimensions_of (map view_dimension l.sizes)) (state_of l.initial.tags l.initial.known))
    (andthen (pure.walk_sizes (view_setting l.setting) (view_env l.env) (dimensions_of (map view_dimension (drop l.part-index l.sizes)))) (λ cs. give (l.all.items ++ cs)) (state_of l.tags l.known))

abbrev pub invariant-types::walk_specs-loop-spec : goal.invariant-types::walk_specs-loop-spec
invariant-types::walk_specs-loop-spec l =
    Same (pure.walk_specs (view_setting l.setting) (view_env l.env) (view_specifying l.how) (specs_of (map view_spec l.specs)) (state_of l.initial.tags l.initial.known))
    (andthen (pure.walk_specs (view_setting l.setting) (view_env l.env) (view_specifying l.how) (specs_of (map view_spec (drop l.spec-index l.specs)))) (λ q. give (both_specified (view_specified l.found) q)) (state_of l.tags l.known))
