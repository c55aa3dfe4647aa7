use Rattle.std.proofs.Common.{◌≡◌, true, None, sym, subst}
use Rattle.std.specs.Prelude.{IfOk, IfSome}
use Rattle.upc_values.specs.History.{reply}
use Rattle.upc_values.specs.Formed.{IsWellFormed, fits_after}
use Rattle.upc_values.specs.Strands.{may_wait}
use Rattle.memory_history.specs.layer.World.{answer_of, performed}
use Rattle.memory_history.specs.layer.Turns.{takes_turn}
use Rattle.memory_history.proofs.world.World.perform.Goals as goal

pub perform_owned-requires-clause-formed : goal.perform_owned-requires-clause-formed
perform_owned-requires-clause-formed c =
    subst (λ a. IsWellFormed c.args.self.now.0 c.args.self.now.1 a) (sym c.in_ok-copy.ensures) c.requires.formed

pub perform_owned-requires-clause-turns : goal.perform_owned-requires-clause-turns
perform_owned-requires-clause-turns c =
    subst (λ a. takes_turn c.args.self.now.1 c.args.thread a ≡ true) (sym c.in_ok-copy.ensures) c.requires.turns

pub returns-clause-reply : goal.returns-clause-reply
returns-clause-reply c =
    subst (λ a. IfOk c.perform_owned.result (λ s. answer_of s ≡ reply c.args.self.now.0 c.args.self.now.1 c.args.thread a))
    c.in_ok-copy.ensures c.perform_owned.ensures.reply

pub returns-clause-fits : goal.returns-clause-fits
returns-clause-fits c =
    subst (λ a. IfOk c.perform_owned.result (λ s. IfSome (answer_of s) (λ r.
    fits_after c.args.self.now.0 c.args.self.now.1 a r ≡ true)))
    c.in_ok-copy.ensures c.perform_owned.ensures.fits

pub returns-clause-entries : goal.returns-clause-entries
returns-clause-entries c =
    subst (λ a. IfOk c.perform_owned.result (λ s. c.perform_owned.new.self.1
    ≡ performed c.args.self.now.1 c.args.thread c.args.index a (answer_of s)))
    c.in_ok-copy.ensures c.perform_owned.ensures.entries

pub returns-clause-disabled : goal.returns-clause-disabled
returns-clause-disabled c =
    subst (λ a. IfOk c.perform_owned.result (λ s. answer_of s ≡ None → may_wait a ≡ true))
    c.in_ok-copy.ensures c.perform_owned.ensures.disabled
