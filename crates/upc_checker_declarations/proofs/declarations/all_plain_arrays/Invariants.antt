use Rattle.std.proofs.Common.{◌≡◌, map, drop}
use Rattle.upc_tree.specs.layer.Lists.{next_declareds_of}
use Rattle.upc_tree.specs.layer.ViewStatement.{view_next_declared}
use Rattle.upc_checker_declarations.specs.Declarations as pure
use Rattle.upc_checker_declarations.proofs.declarations.all_plain_arrays.Given as goal

-- what is left decides
abbrev pub invariant-loop-part : goal.invariant-loop-part
invariant-loop-part l =
    pure.all_plain_arrays (next_declareds_of (map view_next_declared l.more)) ≡ pure.all_plain_arrays (next_declareds_of (map view_next_declared (drop l.part-index l.more)))
