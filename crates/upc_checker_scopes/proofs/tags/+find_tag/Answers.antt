use Rattle.std.proofs.Common.{◌≡◌, sym, ap, ◌∙◌, Some, None}
use Rattle.typed_tree.specs.Scopes.{find_tag}
use Rattle.upc_checker_scopes.specs.layer.ViewTags.{view_own_tags, view_around}
use Rattle.upc_checker_scopes.proofs.OwnTags.{found_own, missed_own}
use Rattle.upc_checker_scopes.proofs.tags.+find_tag.Goals as goal

pub returns-in-Some : goal.returns-in-Some
returns-in-Some t c =
    let tags = c.args.tags.now in
    let h : find_tag c.args.name (view_own_tags tags.own) ≡ Some c.in-Some.number = sym c.in-Some.ensures in
    sym (found_own c.args.name (view_own_tags tags.own) (view_around tags.outer) c.in-Some.number h)

pub returns-in-Within : goal.returns-in-Within
returns-in-Within t c =
    let tags = c.args.tags.now in
    let h : find_tag c.args.name (view_own_tags tags.own) ≡ None =
    sym c.find.ensures ∙ c.in-None.is in
    c.find_tag.ensures ∙ sym (missed_own c.args.name (view_own_tags tags.own) (view_around tags.outer) h ∙ ap (λ o. find_tag c.args.name (view_around o)) c.in-Within.is)
