use Rattle.std.proofs.Common.{◌≡◌, ◌++◌, drop, map}
use Rattle.run_recorder_text.specs.Words.{scalar_text}
use Rattle.run_recorder_text.specs.code.Rows.{after_blanks}
use Rattle.run_recorder_text.proofs.actions.args.Given as goal

abbrev pub invariant-loop-value : goal.invariant-loop-value
invariant-loop-value l =
    l.out.items ++ after_blanks (map scalar_text (drop l.value-index l.args))
    ≡ l.fn.out.items ++ after_blanks (map scalar_text l.args)
