use Rattle.std.proofs.Common.{List, sym, ap, ◌∙◌}
use Rattle.typed_tree.specs.declared.tree.Item.{Item}
use Rattle.typed_tree.specs.Tree.{Stands, Block}
use Rattle.typed_tree.specs.ViewStatements.{view_items, view_statement_kind}
use Rattle.typed_tree.proofs.StatementRows.{block_is}
use Rattle.upc_meaning_expressions.proofs.bodies.block_of.Goals as goal

pub returns-in-Block : goal.returns-in-Block
returns-in-Block c =
    let s = c.in-Block in
    ap (Stands c.args.s.now.place)
    (ap view_statement_kind s.is ∙ block_is s.strict s.items
    ∙ ap (λ (xs : List Item). Block s.strict (view_items xs)) (sym c.as_slice.ensures.value))
