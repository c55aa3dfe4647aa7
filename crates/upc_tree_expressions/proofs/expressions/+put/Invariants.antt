use Rattle.std.proofs.Common.{◌≡◌, drop, map}
use Rattle.upc_tree.specs.Expression.{spell_next_exprs, spell_specs, spell_quals, spell_pointers, spell_dimensions, spell_members, spell_next_declarators, spell_next_parameters}
use Rattle.upc_tree.specs.layer.Lists.{next_exprs_of, specs_of, quals_of, pointers_of, dimensions_of, members_of, next_declarators_of, next_parameters_of}
use Rattle.upc_tree.specs.layer.View.{view_next_expr, view_spec, view_qual, view_pointer, view_dimension, view_member, view_next_declarator, view_next_parameter}
use Rattle.upc_tree_expressions.proofs.expressions.+put.Given as goal

abbrev pub invariant-put_next_exprs-loop-i : goal.invariant-put_next_exprs-loop-i
invariant-put_next_exprs-loop-i l = l.out ≡ spell_next_exprs (next_exprs_of (map view_next_expr (drop l.i l.more))) l.fn.out

abbrev pub invariant-put_specs-loop-i : goal.invariant-put_specs-loop-i
invariant-put_specs-loop-i l = l.out ≡ spell_specs (specs_of (map view_spec (drop l.i l.specs))) l.fn.out

abbrev pub invariant-put_quals-loop-i : goal.invariant-put_quals-loop-i
invariant-put_quals-loop-i l = l.out ≡ spell_quals (quals_of (map view_qual (drop l.i l.quals))) l.fn.out

abbrev pub invariant-put_pointers-loop-i : goal.invariant-put_pointers-loop-i
invariant-put_pointers-loop-i l = l.out ≡ spell_pointers (pointers_of (map view_pointer (drop l.i l.pointers))) l.fn.out

abbrev pub invariant-put_dimensions-loop-i : goal.invariant-put_dimensions-loop-i
invariant-put_dimensions-loop-i l = l.out ≡ spell_dimensions (dimensions_of (map view_dimension (drop l.i l.sizes))) l.fn.out

abbrev pub invariant-put_members-loop-i : goal.invariant-put_members-loop-i
invariant-put_members-loop-i l = l.out ≡ spell_members (members_of (map view_member (drop l.i l.members))) l.fn.out

abbrev pub invariant-put_next_declarators-loop-i : goal.invariant-put_next_declarators-loop-i
invariant-put_next_declarators-loop-i l = l.out ≡ spell_next_declarators (next_declarators_of (map view_next_declarator (drop l.i l.more))) l.fn.out

abbrev pub invariant-put_next_parameters-loop-i : goal.invariant-put_next_parameters-loop-i
invariant-put_next_parameters-loop-i l = l.out ≡ spell_next_parameters (next_parameters_of (map view_next_parameter (drop l.i l.more))) l.fn.out
