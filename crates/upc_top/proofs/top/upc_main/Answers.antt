use Rattle.std.proofs.Common.{map, string_bytes, Global}
use Rattle.upc_top.specs.Verdicts.{reading}
use Rattle.upc_top.specs.Delivery.{writing, Answered}
use Rattle.upc_top.proofs.Endings.{answered, writable, complete, other-words, long-files}
use Rattle.upc_top.proofs.Few.{few, few-copies}
use Rattle.upc_top.proofs.top.upc_main.Goals as goal

pub deliver-requires-clause-few : goal.deliver-requires-clause-few
deliver-requires-clause-few g c = few _ _ c.judge-verdict.result c.judge-verdict.ensures.caused

pub deliver-requires-clause-few_copies : goal.deliver-requires-clause-few_copies
deliver-requires-clause-few_copies g c = few-copies _ _ c.judge-verdict.result c.judge-verdict.ensures.caused

pub deliver-requires-clause-writable : goal.deliver-requires-clause-writable
deliver-requires-clause-writable g c = writable _ _ c.judge-verdict.result c.judge-verdict.ensures.caused

pub returns-clause-answered : goal.returns-clause-answered
returns-clause-answered g c =
    let ws = map (string_bytes {Z = Global}) c.args.words.now in
    let r = (reading (g.S.Sources.bytes_of c.args.files.now) (g.S.Sources.faults c.args.files.now) (g.S.Sources.faults c.judge-verdict.new.files)) in
    let o = (writing (g.O.Sink.taken c.args.out.now) (g.O.Sink.taken c.deliver.new.out) (g.O.Sink.faults c.args.out.now) (g.O.Sink.faults c.deliver.new.out)) in
    let e = (writing (g.E.Sink.taken c.args.err.now) (g.E.Sink.taken c.deliver.new.err) (g.E.Sink.faults c.args.err.now) (g.E.Sink.faults c.deliver.new.err)) in
    let a : Answered ws r o e c.deliver.result = answered ws r o e c.deliver.result c.judge-verdict.result c.judge-verdict.ensures.caused c.deliver.ensures.delivers in
    a

pub returns-clause-words : goal.returns-clause-words
returns-clause-words g c =
    let ws = map (string_bytes {Z = Global}) c.args.words.now in
    let r = (reading (g.S.Sources.bytes_of c.args.files.now) (g.S.Sources.faults c.args.files.now) (g.S.Sources.faults c.judge-verdict.new.files)) in
    let o = (writing (g.O.Sink.taken c.args.out.now) (g.O.Sink.taken c.deliver.new.out) (g.O.Sink.faults c.args.out.now) (g.O.Sink.faults c.deliver.new.out)) in
    let e = (writing (g.E.Sink.taken c.args.err.now) (g.E.Sink.taken c.deliver.new.err) (g.E.Sink.faults c.args.err.now) (g.E.Sink.faults c.deliver.new.err)) in
    let a : Answered ws r o e c.deliver.result = answered ws r o e c.deliver.result c.judge-verdict.result c.judge-verdict.ensures.caused c.deliver.ensures.delivers in
    other-words ws r o e c.deliver.result a

pub returns-clause-long : goal.returns-clause-long
returns-clause-long g c =
    let ws = map (string_bytes {Z = Global}) c.args.words.now in
    let r = (reading (g.S.Sources.bytes_of c.args.files.now) (g.S.Sources.faults c.args.files.now) (g.S.Sources.faults c.judge-verdict.new.files)) in
    let o = (writing (g.O.Sink.taken c.args.out.now) (g.O.Sink.taken c.deliver.new.out) (g.O.Sink.faults c.args.out.now) (g.O.Sink.faults c.deliver.new.out)) in
    let e = (writing (g.E.Sink.taken c.args.err.now) (g.E.Sink.taken c.deliver.new.err) (g.E.Sink.faults c.args.err.now) (g.E.Sink.faults c.deliver.new.err)) in
    let a : Answered ws r o e c.deliver.result = answered ws r o e c.deliver.result c.judge-verdict.result c.judge-verdict.ensures.caused c.deliver.ensures.delivers in
    long-files ws r o e c.deliver.result a

pub returns-clause-complete : goal.returns-clause-complete
returns-clause-complete g c =
    let ws = map (string_bytes {Z = Global}) c.args.words.now in
    let r = (reading (g.S.Sources.bytes_of c.args.files.now) (g.S.Sources.faults c.args.files.now) (g.S.Sources.faults c.judge-verdict.new.files)) in
    let o = (writing (g.O.Sink.taken c.args.out.now) (g.O.Sink.taken c.deliver.new.out) (g.O.Sink.faults c.args.out.now) (g.O.Sink.faults c.deliver.new.out)) in
    let e = (writing (g.E.Sink.taken c.args.err.now) (g.E.Sink.taken c.deliver.new.err) (g.E.Sink.faults c.args.err.now) (g.E.Sink.faults c.deliver.new.err)) in
    let a : Answered ws r o e c.deliver.result = answered ws r o e c.deliver.result c.judge-verdict.result c.judge-verdict.ensures.caused c.deliver.ensures.delivers in
    complete ws r o e c.deliver.result a
