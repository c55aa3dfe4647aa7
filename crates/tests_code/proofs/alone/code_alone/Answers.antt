use Rattle.std.proofs.Common.{false}
use Rattle.typed_tree.specs.Beginnings.{view_beginning}
use Rattle.typed_tree.specs.ViewProgram.{view_program}
use Rattle.typed_tree.specs.ViewTree.{view_expr}
use Rattle.gen_expr.specs.layer.ViewSource.{source_with}
use Rattle.tests_code.proofs.OneFunction.{alone_deep, alone_begins, are_made}
use Rattle.tests_code.proofs.alone.code_alone.Goals as goal

pub finish-requires-clause-depths : goal.finish-requires-clause-depths
finish-requires-clause-depths c =
    let p = c.args.program.now in
    let ς = source_with (view_program p).functions (view_beginning p.beginning) in
    let e = view_expr c.args.e.now in
    let at = c.args.e.now.place in
    alone_deep ς false e at c.threads.result c.shapes.result.now _
    (are_made ς false e at c.threads.result c.shapes.result.now c.in_ok-builder.builder c.expr_code.new.into
    c.append.new.self c.end_function.new.self c.in_ok-builder.ensures c.in_ok-expr_code.ensures.done
    c.in_ok-append.ensures.done c.in_ok-end_function.ensures.done)

pub finish-requires-clause-begins : goal.finish-requires-clause-begins
finish-requires-clause-begins c =
    let p = c.args.program.now in
    let ς = source_with (view_program p).functions (view_beginning p.beginning) in
    let e = view_expr c.args.e.now in
    let at = c.args.e.now.place in
    alone_begins ς false e at c.threads.result c.shapes.result.now _
    (are_made ς false e at c.threads.result c.shapes.result.now c.in_ok-builder.builder c.expr_code.new.into
    c.append.new.self c.end_function.new.self c.in_ok-builder.ensures c.in_ok-expr_code.ensures.done
    c.in_ok-append.ensures.done c.in_ok-end_function.ensures.done)
