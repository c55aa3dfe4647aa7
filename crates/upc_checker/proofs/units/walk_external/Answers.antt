use Rattle.std.proofs.Common.{map}
use Rattle.typed_tree.specs.ViewStatements.{view_function, view_object}
use Rattle.upc_checker.proofs.units.walk_external.Goals as goal

pub returns-in-Declaration : goal.returns-in-Declaration
returns-in-Declaration c = rw c.in-Declaration.is (rw c.deref.ensures at (c.walk_objects.ensures c.args.strict (map view_function c.args.made.now.functions.items)))

pub returns-in-Function : goal.returns-in-Function
returns-in-Function c = rw c.in-Function.is (rw c.deref-in-Function.ensures at (c.walk_function.ensures (map view_object c.args.made.now.objects.items)))
