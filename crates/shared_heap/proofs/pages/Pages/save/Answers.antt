use Rattle.std.proofs.Common.{◌≡◌, ◌==◌, cond, [], get_or, Some, None, sym, ap, ◌∙◌, rules}
use Rattle.std.proofs.lemmas.Result.{err_from_is_err_and}
use Rattle.std.proofs.lemmas.Map.Steps.{set_value_same}
use Rattle.std.specs.Map.{lookup}
use Rattle.std.specs.BTreeMap.{is_at}
use Rattle.upc_values.specs.Scalars.{same_loc}
use Rattle.shared_heap.specs.code.Cells.{found, by_loc}
use Rattle.shared_heap.proofs.ByLocation.{order, at_page, changed}
use Rattle.shared_heap.proofs.pages.Pages.save.Goals as goal

pub returns-clause-saved : goal.returns-clause-saved
returns-clause-saved g c = λ k.
    let l = c.args.loc in
    let v = c.args.value in
    let m = c.self.inside.map in
    let es = c.get_mut.follows.lender-at-none.entries in
    let none : lookup (is_at (order c.page_of-number.result)) es ≡ None =
    ap (λ n. lookup (is_at (order c.page_of-number.result)) n.entries) c.get_mut.follows.holds-at-none ∙ sym c.in_default.ensures.value in
    changed es c.insert.new.self.entries l c.page_of-number.result c.offset_in_page-at.result [] c.save-2.new.self (Some v)
    c.page_of-number.ensures c.offset_in_page-at.ensures.rest c.in_ok-insert.ensures.was_ordered c.in_ok-insert.ensures.ordered
    (λ i. c.in_ok-save-2.ensures.saved i ∙ ap (λ p. cond (c.offset_in_page-at.result == i) (Some v) (get_or p i None)) c.new-page.ensures)
    (λ i. ap (at_page i) none) c.in_ok-insert.ensures.updates.0 k
    ∙ ap (λ n. cond (same_loc l k) (Some v) (found k (by_loc n.entries))) c.get_mut.follows.holds-at-none
    ∙ ap (λ z. cond (same_loc l k) (Some v) (found k z)) c.self.view_is

pub returns-in-Some-clause-saved : goal.returns-in-Some-clause-saved
returns-in-Some-clause-saved g c = λ k.
    let l = c.args.loc in
    let v = c.args.value in
    let es = c.self.inside.map.entries in
    let page = c.in-Some.page.now in
    let write = c.get_mut.follows.holds c.save.new.self in
    changed es (c.get_mut.follows.lender c.save.new.self).entries l c.page_of-number.result c.offset_in_page-at.result page c.save.new.self (Some v)
    c.page_of-number.ensures c.offset_in_page-at.ensures.rest c.get_mut.ensures.ordered write.4 c.in_ok-save.ensures.saved
    (λ i. ap (at_page i) (sym c.in-Some.ensures.value)) (write.3 (search rules)).0 k
    ∙ ap (λ z. cond (same_loc l k) (Some v) (found k z)) c.self.view_is

pub returns-in_err-save-clause-kept : goal.returns-in_err-save-clause-kept
returns-in_err-save-clause-kept g c =
    let m = c.self.inside.map in
    let w = c.save.new.self in
    let p = err_from_is_err_and c.from_residual.result c.from_residual.ensures.1 in
    rw p.1
    (ap by_loc ((c.get_mut.follows.holds w).0
    ∙ set_value_same (is_at (order c.page_of-number.result)) m.entries w (sym c.in-Some.ensures.value ∙ ap Some (sym c.in_err-save.ensures.kept)))
    ∙ c.self.view_is)
