use Rattle.std.proofs.Common.{◌++◌, [], ◌∷◌, ap, ◌∙◌}
use Rattle.upc_values.specs.layer.Chunks.{joined}
use Rattle.upc_values.proofs.Joining.{joined-behind}
use Rattle.replica_space_mail.proofs.roll.Roll.push.Goals as goal

pub returns-clause-items : goal.returns-clause-items
returns-clause-items c =
    ap (joined c.self.inside.full.items) c.push_reserved.ensures.items
    ∙ joined-behind c.self.inside.full.items c.self.inside.last.items (c.args.event ∷ [])
    ∙ ap (λ l. l.items ++ c.args.event ∷ []) c.self.view_is
