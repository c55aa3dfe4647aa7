use Rattle.std.proofs.Common.{◌++◌, map, sym, ap, ◌∙◌, subst}
use Rattle.std.proofs.lemmas.List.{append-nil, drop_all}
use Rattle.upc_types.specs.View.{view}
use Rattle.upc_types.specs.ViewStructs.{view_structs}
use Rattle.typed_tree.specs.ViewStatements.{view_function}
use Rattle.typed_tree.specs.Allocated.{allocated_in}
use Rattle.typed_tree_opening.proofs.Allocations.{all_laid}
use Rattle.typed_tree_opening.proofs.Opened.{HaveLayouts}
use Rattle.typed_tree_opening.proofs.allocated.allocated_types.Goals as goal

pub returns : goal.returns
returns c =
    let s = view_structs c.args.structs.now in
    let fs = c.args.functions.now in
    let ts = map view c.loop-function.out.items in
    let value = sym (append-nil ts)
    ∙ sym (ap (λ gs. ts ++ allocated_in s (map view_function gs))
    (drop_all c.loop-function.function-index fs c.loop-function-test.false)) ∙ c.loop-function.invariant in
    record { value = value; layouts = subst (HaveLayouts s) (sym value) (all_laid s (map view_function fs)) }
