use Rattle.std.proofs.Common.{sym, ◌∙◌}
use Rattle.upc_types.specs.ViewStructs.{view_structs}
use Rattle.meaning_types.proofs.Offsets.{offset_incomplete}
use Rattle.meaning_types.proofs.members.offset_in.Goals as goal

pub returns-else-is_complete : goal.returns-else-is_complete
returns-else-is_complete c =
    let structs = view_structs c.args.structs.now in
    sym (offset_incomplete structs c.args.number c.args.index (sym c.is_complete.ensures ∙ c.if-is_complete.false))
