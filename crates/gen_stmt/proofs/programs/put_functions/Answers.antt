use Rattle.std.proofs.Common.{◌∙◌, ap}
use Rattle.stack_code.specs.layer.Making.{Making}
use Rattle.gen_expr.specs.layer.ViewSource.{view_source}
use Rattle.gen_stmt.proofs.Compiling.{function_step, functions_end}
use Rattle.gen_stmt.proofs.programs.put_functions.Goals as goal

pub loop-function-preserved : goal.loop-function-preserved
loop-function-preserved c = record {
  ended = ap (λ (m : Making). m.current) c.in_ok-put_code.ensures ∙ c.loop-function.invariant.ended;
  told =
      function_step (view_source c.args.source) c.args.functions.now c.loop-function.function-index
      c.function-item.result c.in_ok-code.code.items c.loop-function.builder c.put_code.new.builder
      c.loop-function-test.true c.function-item.is c.in_ok-code.ensures c.in_ok-put_code.ensures
      ∙ c.loop-function.invariant.told;
}

pub returns : goal.returns
returns c =
    functions_end (view_source c.args.source) c.args.functions.now c.loop-function.function-index
    c.loop-function.builder c.args.builder.now c.loop-function-test.false c.loop-function.invariant.told
