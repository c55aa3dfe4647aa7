use Rattle.std.proofs.Common.{◌%◌, None, get_or, sym, ap, ◌∙◌}
use Rattle.std.specs.Map.{lookup}
use Rattle.std.specs.BTreeMap.{is_at}
use Rattle.shared_heap.specs.code.Cells.{found}
use Rattle.shared_heap.proofs.ByLocation.{order, at_page, found-by_loc}
use Rattle.shared_heap.proofs.pages.Pages.get.Goals as goal

pub returns-in-Some : goal.returns-in-Some
returns-in-Some g c =
    let l = c.args.loc in
    let es = c.self.inside.map.entries in
    c.get-in-Some.ensures ∙ ap (λ i. get_or c.in-Some.page.now i None) c.offset_in_page.ensures.rest
    ∙ ap (at_page (l.offset % 1024)) (c.in-Some.ensures.value ∙ ap (λ p. lookup (is_at (order p)) es) c.page_of.ensures)
    ∙ sym (found-by_loc l es c.len.ensures.ordered) ∙ ap (found l) c.self.view_is

pub returns-in-None : goal.returns-in-None
returns-in-None g c =
    let l = c.args.loc in
    let es = c.self.inside.map.entries in
    ap (at_page (l.offset % 1024)) (c.in-None.ensures.value ∙ ap (λ p. lookup (is_at (order p)) es) c.page_of.ensures)
    ∙ sym (found-by_loc l es c.len.ensures.ordered) ∙ ap (found l) c.self.view_is
