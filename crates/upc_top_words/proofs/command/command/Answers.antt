use Rattle.std.proofs.Common.{ap₂, ◌∙◌}
use Rattle.std.proofs.lemmas.Result.{IfOk-weaker}
use Rattle.clap.specs.Words.{with_rule}
use Rattle.upc_top_words.proofs.command.command.Goals as goal

pub returns : goal.returns
returns c =
    IfOk-weaker c.with-6.result _ _ (λ r h. h
    ∙ ap₂ with_rule (c.in_ok-line-5.ensures
    ∙ ap₂ with_rule (c.in_ok-line-4.ensures
    ∙ ap₂ with_rule (c.in_ok-line-3.ensures
    ∙ ap₂ with_rule (c.in_ok-line-2.ensures
    ∙ ap₂ with_rule (c.in_ok-line.ensures
    ∙ ap₂ with_rule c.bare.ensures c.word.ensures.rule) c.threads.ensures.rule) c.budget.ensures.rule) c.actions.ensures.rule) c.word-2.ensures.rule) c.record.ensures.rule) c.with-6.ensures
