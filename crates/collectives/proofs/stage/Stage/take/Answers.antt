use Rattle.std.proofs.Common.{sym, subst}
use Rattle.std.specs.Prelude.{IfErr}
use Rattle.collectives.proofs.Following.{refuses_along}
use Rattle.collectives.proofs.Following.{reply_alone}
use Rattle.collectives.specs.declared.stage.Stage.{Stage}
use Rattle.collectives.specs.layer.Walks.{stage_rest}
use Rattle.collectives.specs.layer.Wishes.{RefusesSo}
use Rattle.std.proofs.lemmas.Result.{IfErr-weaker}
use Rattle.upc_values.specs.Expansion.{Expansion}
use Rattle.upc_values.specs.layer.Parts.{unless_refused}
use Rattle.upc_values.specs.Expansion.{after_reply}
use Rattle.upc_values.specs.Expansion.{bind}
use Rattle.upc_values.specs.Expansion.{nothing}
use Rattle.collectives.proofs.stage.Stage.take.Goals as goal

pub returns-in-Left-clause-refused : goal.returns-in-Left-clause-refused
returns-in-Left-clause-refused c =
    let t = c.args.thread.now in
    let r = c.args.reply.now in
    subst (λ (s : Stage). IfErr c.unless_refused-in-Left.result (λ e. RefusesSo e (after_reply (stage_rest t.threads t.shapes.now t.number s) r)))
    (sym c.in-Left.is)
    (IfErr-weaker c.unless_refused-in-Left.result
    (λ e. (go : Unit {0} → Expansion (Unit {0})) → RefusesSo e (bind (unless_refused r) go))
    (λ e. RefusesSo e (unless_refused r))
    (λ e h. refuses_along (bind (unless_refused r) (λ u. nothing)) (unless_refused r) e (reply_alone r) (h (λ u. nothing)))
    c.unless_refused-in-Left.ensures.refused)
