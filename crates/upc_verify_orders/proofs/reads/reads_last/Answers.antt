use Rattle.std.proofs.Common.{◌≡◌, ◌<◌, ℕ, rules, List, length, map, ap, sym, ◌∙◌, subst}
use Rattle.upc_values.specs.Lists.{Each}
use Rattle.upc_verify_orders.specs.declared.values.Access.{Access}
use Rattle.upc_verify_orders.specs.code.Found.{taken}
use Rattle.upc_verify_orders.specs.layer.Numbers.{number_in}
use Rattle.upc_verify_orders.specs.code.Values.{ReadsHeld, access_by}
use Rattle.upc_verify_orders.proofs.Taken.{taken-inside}
use Rattle.upc_verify_orders.proofs.Numbering.{accesses-within, reads-so}
use Rattle.upc_verify_orders.proofs.reads.reads_last.Goals as goal

pub reads_held-requires : goal.reads_held-requires
reads_held-requires c =
    let ops = c.args.operations.now in
    let at = c.args.at.now in
    let same : c.in_ok-held.held.items ≡ c.args.firsts.now = search rules in
    let many : length c.as_mut_slice.result.now ≡ length ops = ap length (c.as_mut_slice.ensures.value ∙ same) ∙ c.requires.even in
    let is = c.as_slice.ensures.value ∙ c.in_ok-accesses.ensures in
    subst (λ (l : List Access). Each (λ o. o.place < length c.as_mut_slice.result.now) l) (sym is)
    (subst (λ (n : ℕ). Each (λ o. o.place < n) (map (access_by (number_in ops)) (taken ops at))) (sym many)
    (accesses-within ops (taken ops at) (taken-inside ops at c.requires.within)))

pub returns : goal.returns
returns c = λ initial e.
    let ops = c.args.operations.now in
    let at = c.args.at.now in
    let held = c.as_mut_slice.result.now in
    let same : c.in_ok-held.held.items ≡ c.args.firsts.now = search rules in
    let is = c.as_slice.ensures.value ∙ c.in_ok-accesses.ensures in
    let r = reads-so initial ops (taken ops at) held (c.as_mut_slice.ensures.value ∙ same ∙ e) (taken-inside ops at c.requires.within) in (
      λ t. r.0 (subst (ReadsHeld held) is (c.reads_held.ensures.0 t)),
      λ p. c.reads_held.ensures.1 (subst (ReadsHeld held) (sym is) (r.1 p)),
    )
