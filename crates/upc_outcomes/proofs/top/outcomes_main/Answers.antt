use Rattle.std.proofs.Common.{map, string_bytes, Global}
use Rattle.upc_top.specs.Verdicts.{reading}
use Rattle.upc_top.specs.Delivery.{writing}
use Rattle.upc_outcomes.specs.Answers.{Answered}
use Rattle.upc_outcomes.proofs.Endings.{answered, writable}
use Rattle.upc_outcomes.proofs.Complete.{complete, other-words}
use Rattle.upc_outcomes.proofs.top.outcomes_main.Goals as goal

pub deliver-requires : goal.deliver-requires
deliver-requires g c = writable _ _ c.judge-verdict.result c.judge-verdict.ensures

pub returns-clause-answered : goal.returns-clause-answered
returns-clause-answered g c =
    let ws = map (string_bytes {Z = Global}) c.args.words.now in
    let r = (reading (g.S.Sources.bytes_of c.args.files.now) (g.S.Sources.faults c.args.files.now) (g.S.Sources.faults c.judge-verdict.new.files)) in
    let o = (writing (g.O.Sink.taken c.args.out.now) (g.O.Sink.taken c.deliver.new.out) (g.O.Sink.faults c.args.out.now) (g.O.Sink.faults c.deliver.new.out)) in
    let e = (writing (g.E.Sink.taken c.args.err.now) (g.E.Sink.taken c.deliver.new.err) (g.E.Sink.faults c.args.err.now) (g.E.Sink.faults c.deliver.new.err)) in
    let a : Answered ws r o e c.deliver.result = answered ws r o e c.deliver.result c.judge-verdict.result c.judge-verdict.ensures c.deliver.ensures in
    a

pub returns-clause-words : goal.returns-clause-words
returns-clause-words g c =
    let ws = map (string_bytes {Z = Global}) c.args.words.now in
    let r = (reading (g.S.Sources.bytes_of c.args.files.now) (g.S.Sources.faults c.args.files.now) (g.S.Sources.faults c.judge-verdict.new.files)) in
    let o = (writing (g.O.Sink.taken c.args.out.now) (g.O.Sink.taken c.deliver.new.out) (g.O.Sink.faults c.args.out.now) (g.O.Sink.faults c.deliver.new.out)) in
    let e = (writing (g.E.Sink.taken c.args.err.now) (g.E.Sink.taken c.deliver.new.err) (g.E.Sink.faults c.args.err.now) (g.E.Sink.faults c.deliver.new.err)) in
    let a : Answered ws r o e c.deliver.result = answered ws r o e c.deliver.result c.judge-verdict.result c.judge-verdict.ensures c.deliver.ensures in
    other-words ws r o e c.deliver.result a

pub returns-clause-complete : goal.returns-clause-complete
returns-clause-complete g c =
    let ws = map (string_bytes {Z = Global}) c.args.words.now in
    let r = (reading (g.S.Sources.bytes_of c.args.files.now) (g.S.Sources.faults c.args.files.now) (g.S.Sources.faults c.judge-verdict.new.files)) in
    let o = (writing (g.O.Sink.taken c.args.out.now) (g.O.Sink.taken c.deliver.new.out) (g.O.Sink.faults c.args.out.now) (g.O.Sink.faults c.deliver.new.out)) in
    let e = (writing (g.E.Sink.taken c.args.err.now) (g.E.Sink.taken c.deliver.new.err) (g.E.Sink.faults c.args.err.now) (g.E.Sink.faults c.deliver.new.err)) in
    let a : Answered ws r o e c.deliver.result = answered ws r o e c.deliver.result c.judge-verdict.result c.judge-verdict.ensures c.deliver.ensures in
    complete ws r o e c.deliver.result a
