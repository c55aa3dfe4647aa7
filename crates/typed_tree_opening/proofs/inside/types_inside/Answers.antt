use Rattle.std.proofs.Common.{◌++◌, map, sym, ap, ◌∙◌, subst}
use Rattle.std.proofs.lemmas.List.{append-nil, drop_all}
use Rattle.upc_types.specs.View.{view}
use Rattle.upc_types.specs.ViewStructs.{view_structs}
use Rattle.typed_tree.specs.declared.tree.Statement.{Statement}
use Rattle.typed_tree.specs.ViewStatements.{view_function, view_statement}
use Rattle.typed_tree.specs.LocalObjects.{objects_in, types_in, with_layout}
use Rattle.typed_tree_opening.specs.code.LaidObjects.{laid_objects}
use Rattle.typed_tree_opening.proofs.LaidTypes.{function_step, types_laid}
use Rattle.typed_tree_opening.proofs.Opened.{HaveLayouts}
use Rattle.typed_tree_opening.proofs.inside.types_inside.Goals as goal

pub loop-function-preserved : goal.loop-function-preserved
loop-function-preserved c =
    let s = view_structs c.args.structs.now in
    let out = map view c.loop-function.out.items in
    function_step s c.args.functions.now c.loop-function.function-index c.function-item.result
    (map view c.push_statement.new.out.items) (map view c.push_types.new.out.items) out c.loop-function-test.true
    c.function-item.is
    (c.in_ok-push_types.ensures ∙ ap (λ ts. out ++ with_layout s (map view ts)) c.as_slice.ensures.value)
    (c.in_ok-push_statement.ensures
    ∙ ap (λ (y : Statement). map view c.push_types.new.out.items ++ laid_objects s (objects_in (view_statement y)))
    c.deref.ensures)
    ∙ c.loop-function.invariant

pub returns : goal.returns
returns c =
    let s = view_structs c.args.structs.now in
    let gs = c.args.functions.now in
    let ts = map view c.loop-function.out.items in
    let value = sym (append-nil ts)
    ∙ sym (ap (λ hs. ts ++ types_in s (map view_function hs))
    (drop_all c.loop-function.function-index gs c.loop-function-test.false)) ∙ c.loop-function.invariant in
    record { value = value; layouts = subst (HaveLayouts s) (sym value) (types_laid s (map view_function gs)) }
