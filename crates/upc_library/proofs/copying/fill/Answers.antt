use Rattle.std.proofs.Common.{ap, sym, ◌∙◌}
use Rattle.std.specs.Option.{option_copied}
use Rattle.upc_library.specs.code.Areas.{area_in}
use Rattle.upc_library.specs.layer.Walks.{rest}
use Rattle.upc_library.proofs.Walking.{fill_begun, fill_made}
use Rattle.upc_library.proofs.copying.fill.Goals as goal

pub begun-requires : goal.begun-requires
begun-requires c =
    fill_begun c.args.caller.now.threads c.args.caller.now.shapes.now (option_copied c.args.caller.now.private) c.args.bytes
    c.args.dst c.args.byte c.in_ok-cells.cells c.in_ok-cells.ensures
    (sym c.is_nowhere.ensures ∙ c.if-is_nowhere.false) (c.leaves_shared.ensures.inside c.if-leaves_shared.false)
    (c.leaves_private.ensures.inside c.if-leaves_private.false) (sym c.hold_pointers.ensures ∙ c.if-hold_pointers.false)

pub returns-clause-made : goal.returns-clause-made
returns-clause-made c =
    let k = c.args.caller.now in
    ap rest c.begun.ensures
    ∙ fill_made k.threads k.shapes.now (option_copied k.private) c.args.bytes (area_in c.args.dst) c.args.byte c.in_ok-cells.cells
    c.requires.some (sym c.is_nowhere.ensures ∙ c.if-is_nowhere.false) (sym c.leaves_shared.ensures.value ∙ c.if-leaves_shared.false)
    (sym c.leaves_private.ensures.value ∙ c.if-leaves_private.false) (sym c.is_cut.ensures ∙ c.if-is_cut.false)
    (sym c.hold_pointers.ensures ∙ c.if-hold_pointers.false) c.in_ok-cells.ensures
