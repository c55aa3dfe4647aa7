use Rattle.std.proofs.Common.{◌≡◌, sym, ap, ◌∙◌, Some, None}
use Rattle.typed_tree.specs.Scopes.{tag_here}
use Rattle.upc_checker_scopes.specs.layer.ViewTags.{view_own_tags, view_around}
use Rattle.upc_checker_scopes.proofs.OwnTags.{found_here, missed_here}
use Rattle.upc_checker_scopes.proofs.tags.+tag_here.Goals as goal

pub returns-in-Some : goal.returns-in-Some
returns-in-Some t c =
    let tags = c.args.tags.now in
    let h : tag_here c.args.name c.args.level (view_own_tags tags.own) ≡ Some c.in-Some.number =
    sym c.in-Some.ensures in
    sym (found_here c.args.name c.args.level (view_own_tags tags.own) (view_around tags.outer) c.in-Some.number h)

pub returns-in-Within : goal.returns-in-Within
returns-in-Within t c =
    let tags = c.args.tags.now in
    let h : tag_here c.args.name c.args.level (view_own_tags tags.own) ≡ None =
    sym c.here.ensures ∙ c.in-None.is in
    c.tag_here.ensures ∙ sym (missed_here c.args.name c.args.level (view_own_tags tags.own) (view_around tags.outer) h ∙ ap (λ o. tag_here c.args.name c.args.level (view_around o)) c.in-Within.is)
