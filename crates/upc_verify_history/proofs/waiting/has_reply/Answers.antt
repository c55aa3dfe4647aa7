use Rattle.std.proofs.Common.{not, sym, ap, ◌∙◌}
use Rattle.std.proofs.lemmas.Bool.{false≢true}
use Rattle.upc_verify_history.proofs.Unlocked.{unformed-replies}
use Rattle.upc_verify_history.proofs.waiting.has_reply.Goals as goal

pub returns-then-not-is_well_formed : goal.returns-then-not-is_well_formed
returns-then-not-is_well_formed c =
    let no = c.if-not-is_well_formed.true in
    ap not no
    ∙ sym (unformed-replies c.args.world.now.0 c.args.world.now.1 c.args.thread c.args.action.now c.keeps.ensures.formed c.requires.waits
    (λ f. false≢true (sym no ∙ c.is_well_formed.ensures.1 f)))
