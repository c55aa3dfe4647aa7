use Rattle.std.proofs.Common.{◌≡◌, ◌++◌, [], ◌∷◌, append-nil, ap, ◌∙◌}
use Rattle.upc_values.specs.layer.Chunks.{joined}
use Rattle.upc_values.proofs.Joining.{joined-push}
use Rattle.replica_space_mail.proofs.roll.Roll.reserve.Goals as goal

pub returns-clause-items : goal.returns-clause-items
returns-clause-items c =
    let last = c.self.inside.last in
    let full = c.self.inside.full.items in
    let items : c.push_reserved.new.self.items ≡ full ++ last ∷ [] =
    c.push_reserved.ensures.items ∙ ap (λ l. l ++ c.replace-full.result ∷ []) c.in_ok-reserve.ensures.items
    ∙ ap (λ v. full ++ v ∷ []) c.replace-full.ensures.value in
    let none : c.replace-full.new.dest.items ≡ [] = ap (λ v. v.items) c.replace-full.ensures.after ∙ c.in_ok-next.ensures.items in
    ap (λ l. joined l c.replace-full.new.dest.items) items ∙ ap (joined (full ++ last ∷ [])) none
    ∙ joined-push full last [] ∙ ap (joined full) (append-nil last.items) ∙ ap (λ l. l.items) c.self.view_is
