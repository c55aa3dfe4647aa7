use Rattle.std.proofs.Common.{◌≡◌, ◌≤◌, None, Some, length, rules, sym, ◌∙◌}
use Rattle.upc_values.specs.Drain.{written}
use Rattle.order_builder.proofs.Finding.{passed-by, found-at}
use Rattle.order_builder.proofs.walk.find.Goals as goal

pub returns-in-Some-clause-last : goal.returns-in-Some-clause-last
returns-in-Some-clause-last c =
    let at = c.loop-at.at in
    let ks = c.args.pending.now.items in
    let k = c.index.result.now in
    let within : at ≤ length ks = search rules in
    let here : written c.args.loc k.entry.action.now ≡ Some c.in-Some.value = sym c.written.ensures ∙ c.in-Some.is in
    found-at c.args.loc ks at k c.in-Some.value c.loop-at-test.true within c.index.ensures here c.loop-at.invariant

pub loop-at-preserved : goal.loop-at-preserved
loop-at-preserved c =
    let at = c.loop-at.at in
    let ks = c.args.pending.now.items in
    let k = c.index.result.now in
    let within : at ≤ length ks = search rules in
    let other : written c.args.loc k.entry.action.now ≡ None = sym c.written.ensures ∙ c.in_default.is in
    passed-by c.args.loc ks at k c.loop-at-test.true within c.index.ensures other c.loop-at.invariant
