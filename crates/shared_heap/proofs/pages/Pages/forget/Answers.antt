use Rattle.std.proofs.Common.{cond, None, sym, ap, ◌∙◌, rules}
use Rattle.upc_values.specs.Scalars.{same_loc}
use Rattle.shared_heap.specs.code.Cells.{found, by_loc}
use Rattle.shared_heap.proofs.ByLocation.{at_page, changed, absent}
use Rattle.shared_heap.proofs.pages.Pages.forget.Goals as goal

pub returns-in_default : goal.returns-in_default
returns-in_default g c = λ k.
    let l = c.args.loc in
    let es = c.self.inside.map.entries in
    ap (λ m. found k (by_loc m.entries)) c.get_mut.follows.holds-at-none
    ∙ absent es l c.page_of.result c.page_of.ensures c.get_mut.ensures.ordered (sym c.in_default.ensures.value) k
    ∙ ap (λ z. cond (same_loc l k) None (found k z)) c.self.view_is

pub returns : goal.returns
returns g c = λ k.
    let l = c.args.loc in
    let es = c.self.inside.map.entries in
    let page = c.in-Some.page.now in
    let write = c.get_mut.follows.holds c.forget.new.self in
    changed es (c.get_mut.follows.lender c.forget.new.self).entries l c.page_of.result c.offset_in_page.result page c.forget.new.self None
    c.page_of.ensures c.offset_in_page.ensures.rest c.get_mut.ensures.ordered write.4 c.forget.ensures
    (λ i. ap (at_page i) (sym c.in-Some.ensures.value)) (write.3 (search rules)).0 k
    ∙ ap (λ z. cond (same_loc l k) None (found k z)) c.self.view_is
