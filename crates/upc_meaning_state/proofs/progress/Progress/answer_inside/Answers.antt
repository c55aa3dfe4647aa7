use Rattle.std.proofs.Common.{subst}
use Rattle.upc_library.specs.layer.Walks.{rest}
use Rattle.upc_library.specs.layer.Wishes.{IsWish}
use Rattle.upc_library.specs.declared.copying.CopyWish.{CopyWish}
use Rattle.upc_meaning_state.specs.layer.Came.{state_seen}
use Rattle.upc_meaning_settings.specs.layer.Runners.{thread_seen}
use Rattle.upc_meaning_state.proofs.Walking.{finishes}
use Rattle.upc_meaning_state.proofs.progress.Progress.answer_inside.Goals as goal

pub returns-in-Finished-clause-goes : goal.returns-in-Finished-clause-goes
returns-in-Finished-clause-goes c =
    finishes (thread_seen c.args.runner) c.args.place (state_seen c.args.self.now) (rest c.args.call.now)
    (subst (λ (w : CopyWish). IsWish (rest c.args.call.now) w) c.in-Finished.is c.requires)
