use Rattle.std.proofs.Common.{◌≡◌, map, drop}
use Rattle.typed_tree.specs.ViewStatements.{view_function}
use Rattle.source_meaning.specs.Threads.{main_of}
use Rattle.upc_meaning.proofs.course.main_of.Given as goal

abbrev pub invariant-loop-function : goal.invariant-loop-function
invariant-loop-function l =
    main_of (map view_function (drop l.function-index l.functions)) ≡ main_of (map view_function l.functions)
