use Rattle.std.proofs.Common.{◌++◌, [], ◌∷◌, ap, ◌∙◌}
use Rattle.upc_values.specs.layer.Chunks.{joined}
use Rattle.upc_values.proofs.Joining.{joined-behind}
use Rattle.upc_values.proofs.chunks.Chunks.push_reserved.Goals as goal

pub returns : goal.returns
returns g c =
    ap (joined c.self.inside.full.items) c.push_reserved.ensures.items
    ∙ joined-behind c.self.inside.full.items c.self.inside.last.items (c.args.member ∷ [])
    ∙ ap (λ l. l.items ++ c.args.member ∷ []) c.self.view_is
