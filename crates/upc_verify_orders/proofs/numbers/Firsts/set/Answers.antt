use Rattle.std.proofs.Common.{◌≡◌, cond, Some, sym, ap, ◌∙◌, subst}
use Rattle.std.specs.BTreeMap.{is_at, get}
use Rattle.upc_values.specs.Operations.{Place}
use Rattle.upc_values.specs.Consistent.{same_place}
use Rattle.upc_verify_orders.specs.declared.numbers.Key.{Key}
use Rattle.upc_verify_orders.specs.layer.Parts.{place_of}
use Rattle.upc_verify_orders.specs.code.Keys.{key_cmp, looked}
use Rattle.upc_verify_orders.proofs.Keyed.{cell-set}
use Rattle.upc_verify_orders.proofs.numbers.Firsts.set.Goals as goal

pub returns-in_ok-insert-in-Cell : goal.returns-in_ok-insert-in-Cell
returns-in_ok-insert-in-Cell c = λ p.
    let f = c.args.self.now in
    let new = c.insert.new.self in
    let n = c.args.number in
    cell-set f new c.in-Cell.loc n
    (subst (λ (k : Key). (q : Key) → get key_cmp new q ≡ cond (is_at (key_cmp k) q) (Some n) (get key_cmp f.cells q)) c.key_of.ensures
    c.in_ok-insert-in-Cell.ensures.updates.0) p
    ∙ ap (λ (q : Place). cond (same_place q p) (Some n) (looked f p)) (sym (ap place_of c.in-Cell.is))
