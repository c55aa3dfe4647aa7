use Rattle.std.proofs.Common.{◌≡◌, sym, subst}
use Rattle.std.specs.Prelude.{IfOk, IfErr}
use Rattle.collectives.specs.code.Calls.{call_in}
use Rattle.collectives.specs.layer.Walks.{work_left}
use Rattle.collectives.specs.layer.Wishes.{RefusesSo}
use Rattle.upc_values.specs.Expansions as said
use Rattle.collectives.proofs.work.Work.begin.Goals as goal

pub returns-in-Reduces-clause-made : goal.returns-in-Reduces-clause-made
returns-in-Reduces-clause-made c =
    let t = c.args.thread.now in
    subst (λ x. IfOk c.reduce_all.result (λ o. work_left t.threads t.shapes.now t.number o ≡ said.work t.threads t.shapes.now t.number (call_in x)))
    (sym c.in-Reduces.is) (c.reduce_all.ensures.made c.in-Reduces.field-1)

pub returns-in-Reduces-clause-refused : goal.returns-in-Reduces-clause-refused
returns-in-Reduces-clause-refused c =
    let t = c.args.thread.now in
    subst (λ x. IfErr c.reduce_all.result (λ e. RefusesSo e (said.work t.threads t.shapes.now t.number (call_in x))))
    (sym c.in-Reduces.is) (c.reduce_all.ensures.refused c.in-Reduces.field-1)

pub returns-in-ReducesPrefixes-clause-made : goal.returns-in-ReducesPrefixes-clause-made
returns-in-ReducesPrefixes-clause-made c =
    let t = c.args.thread.now in
    subst (λ x. IfOk c.reduce_all_prefixes.result (λ o. work_left t.threads t.shapes.now t.number o ≡ said.work t.threads t.shapes.now t.number (call_in x)))
    (sym c.in-ReducesPrefixes.is) (c.reduce_all_prefixes.ensures.made c.in-ReducesPrefixes.field-1)

pub returns-in-ReducesPrefixes-clause-refused : goal.returns-in-ReducesPrefixes-clause-refused
returns-in-ReducesPrefixes-clause-refused c =
    let t = c.args.thread.now in
    subst (λ x. IfErr c.reduce_all_prefixes.result (λ e. RefusesSo e (said.work t.threads t.shapes.now t.number (call_in x))))
    (sym c.in-ReducesPrefixes.is) (c.reduce_all_prefixes.ensures.refused c.in-ReducesPrefixes.field-1)
