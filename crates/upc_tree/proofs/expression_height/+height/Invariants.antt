use Rattle.std.proofs.Common.{◌≡◌, max, map, drop}
use Rattle.upc_tree.specs.Expression.{height_next_exprs, height_specs, height_quals, height_pointers, height_dimensions, height_members, height_next_declarators, height_next_parameters}
use Rattle.upc_tree.specs.layer.Lists.{capped, next_exprs_of, specs_of, quals_of, pointers_of, dimensions_of, members_of, next_declarators_of, next_parameters_of}
use Rattle.upc_tree.specs.layer.View.{view_next_expr, view_spec, view_qual, view_pointer, view_dimension, view_member, view_next_declarator, view_next_parameter}
use Rattle.upc_tree.proofs.expression_height.+height.Given as goal

abbrev pub invariant-declarators_height-loop-part : goal.invariant-declarators_height-loop-part
invariant-declarators_height-loop-part l = max l.high (capped (height_next_declarators (next_declarators_of (map view_next_declarator (drop l.part-index l.more))))) ≡ capped (height_next_declarators (next_declarators_of (map view_next_declarator l.more)))

abbrev pub invariant-members_height-loop-part : goal.invariant-members_height-loop-part
invariant-members_height-loop-part l = max l.high (capped (height_members (members_of (map view_member (drop l.part-index l.members))))) ≡ capped (height_members (members_of (map view_member l.members)))

abbrev pub invariant-next_height-loop-part : goal.invariant-next_height-loop-part
invariant-next_height-loop-part l = max l.high (capped (height_next_exprs (next_exprs_of (map view_next_expr (drop l.part-index l.more))))) ≡ capped (height_next_exprs (next_exprs_of (map view_next_expr l.more)))

abbrev pub invariant-next_parameters_height-loop-part : goal.invariant-next_parameters_height-loop-part
invariant-next_parameters_height-loop-part l = max l.high (capped (height_next_parameters (next_parameters_of (map view_next_parameter (drop l.part-index l.more))))) ≡ capped (height_next_parameters (next_parameters_of (map view_next_parameter l.more)))

abbrev pub invariant-pointers_height-loop-part : goal.invariant-pointers_height-loop-part
invariant-pointers_height-loop-part l = max l.high (capped (height_pointers (pointers_of (map view_pointer (drop l.part-index l.pointers))))) ≡ capped (height_pointers (pointers_of (map view_pointer l.pointers)))

abbrev pub invariant-quals_height-loop-part : goal.invariant-quals_height-loop-part
invariant-quals_height-loop-part l = max l.high (capped (height_quals (quals_of (map view_qual (drop l.part-index l.quals))))) ≡ capped (height_quals (quals_of (map view_qual l.quals)))

abbrev pub invariant-sizes_height-loop-part : goal.invariant-sizes_height-loop-part
invariant-sizes_height-loop-part l = max l.high (capped (height_dimensions (dimensions_of (map view_dimension (drop l.part-index l.sizes))))) ≡ capped (height_dimensions (dimensions_of (map view_dimension l.sizes)))

abbrev pub invariant-specs_height-loop-part : goal.invariant-specs_height-loop-part
invariant-specs_height-loop-part l = max l.high (capped (height_specs (specs_of (map view_spec (drop l.part-index l.specs))))) ≡ capped (height_specs (specs_of (map view_spec l.specs)))
