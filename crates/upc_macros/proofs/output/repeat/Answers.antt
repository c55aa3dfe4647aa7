use Rattle.std.proofs.Common.{◌+◌, ◌<◌, length, subst, arith}
use Rattle.std.proofs.lemmas.Result.{err_from_is_err_and}
use Rattle.upc_macros.specs.code.Table.{Takes, StopsIn}
use Rattle.upc_macros.proofs.RepeatLemmas.{one_given, repeat_more, repeat_stops}
use Rattle.upc_macros.proofs.output.repeat.Goals as goal

pub returns-in_err-emit-clause-err : goal.returns-in_err-emit-clause-err
returns-in_err-emit-clause-err c =
    let stop = c.in_err-emit.field-0.0 in
    let p = err_from_is_err_and c.from_residual-in_err-emit.result c.from_residual-in_err-emit.ensures.1 in
    let t = c.index-token.result.now in
    let stops = subst (λ its. StopsIn (length c.loop-index.expanded.items) its stop) (one_given c.args.place t c.in_ok-copy_kind.field-0 c.in_ok-copy_kind.ensures) c.in_err-emit.ensures.err in
    rw (p.1, p.2) (repeat_stops c.args.place c.args.expanded.now.items c.loop-index.expanded.items c.args.from c.args.count c.loop-index.index t stop c.loop-index-test.true c.requires c.index-token.ensures c.loop-index.invariant stops)

pub loop-index-preserved : goal.loop-index-preserved
loop-index-preserved c =
    let t = c.index-token.result.now in
    let took = subst (Takes c.loop-index.expanded.items c.emit.new.expanded.items) (one_given c.args.place t c.in_ok-copy_kind.field-0 c.in_ok-copy_kind.ensures) c.in_ok-emit.ensures.ok in
    let inside : c.args.from + c.loop-index.index < length c.args.expanded.now.items = omega (arith, c.requires, c.loop-index-test.true) in
    repeat_more c.args.place c.args.expanded.now.items c.loop-index.expanded.items c.emit.new.expanded.items c.args.from c.loop-index.index t inside c.index-token.ensures c.loop-index.invariant took
