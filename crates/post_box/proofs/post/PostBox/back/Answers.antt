use Rattle.std.proofs.Common.{rules, ap, sym, ◌∙◌, ◌∷◌, Some}
use Rattle.atomic_table.specs.Table.{rest}
use Rattle.post_box.proofs.Keeps.{has_back}
use Rattle.post_box.proofs.post.PostBox.back.Goals as goal

pub compare_exchange-requires : goal.compare_exchange-requires
compare_exchange-requires g c = let h = c.requires in
    (search rules, search rules, has_back g.W.Work.takes g.W.Work.did _ _ _ _ h.0 (c.loop.invariant.1 ∙ h.1.1))

pub exchange-requires : goal.exchange-requires
exchange-requires g c =
    let won = c.compare_exchange.ensures.2.0 (search rules) in
    (search rules, (Some (won.0, won.1), ap (λ m. m.1) won.3 ∙ ap (λ l. (0, Some (won.0, won.1)) ∷ l) (sym (ap (λ m. rest m.1) won.3))))
