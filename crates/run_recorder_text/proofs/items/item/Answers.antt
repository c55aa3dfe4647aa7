use Rattle.std.proofs.Common.{subst, sym}
use Rattle.std.specs.Prelude.{OnOk, ◌≡◌, ◌++◌}
use Rattle.std.proofs.lemmas.Result.{on_ok_weaker}
use Rattle.upc_values.specs.declared.record.Item.{Item}
use Rattle.run_recorder_text.specs.Words.{action_words, reply_words}
use Rattle.run_recorder_text.specs.Lines.{item_line}
use Rattle.run_recorder_text.proofs.Joins.{did_joined}
use Rattle.run_recorder_text.proofs.SomeWords.{action_some, reply_some}
use Rattle.run_recorder_text.proofs.items.item.Goals as goal

pub returns-in_ok-put-in-Did : goal.returns-in_ok-put-in-Did
returns-in_ok-put-in-Did c =
    subst (λ (i : Item). OnOk c.reply.result (c.reply.new.out.items ≡ c.args.out.now.items ++ item_line i))
    (sym c.in-Did.is)
    (on_ok_weaker c.reply.result (λ e.
    did_joined c.args.out.now.items _ _ _ (action_words c.in-Did.did) (reply_words c.in-Did.answer)
    (action_some c.in-Did.did) (reply_some c.in-Did.answer)
    c.in_ok-action-in-Did.ensures c.in_ok-put-in-Did.ensures e) c.reply.ensures)
