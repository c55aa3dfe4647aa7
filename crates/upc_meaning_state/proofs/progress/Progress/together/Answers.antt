use Rattle.std.proofs.Common.{subst}
use Rattle.std.specs.Prelude.{IfOk}
use Rattle.upc_values.specs.Expansion.{Expansion}
use Rattle.upc_values.specs.Expansions.{collective}
use Rattle.upc_values.specs.LibraryCalls.{gives_zero}
use Rattle.upc_meaning_state.specs.layer.Came.{Came, state_seen}
use Rattle.upc_meaning_state.specs.layer.Libraries.{expanded_to}
use Rattle.upc_meaning_settings.specs.layer.Runners.{thread_seen}
use Rattle.upc_meaning_state.proofs.Walking.{refused_so}
use Rattle.upc_meaning_state.proofs.progress.Progress.together.Goals as goal

pub returns-in-Err-Error : goal.returns-in-Err-Error
returns-in-Err-Error c =
    let τ = thread_seen c.args.runner in
    refused_so τ c.args.place (state_seen c.args.self.now)
    (collective τ.threads τ.shapes τ.number c.args.number c.args.met.now) c.in-Err-Error.code
    ((rw c.in-Err-Error.field-0-is at c.in-Err-Error.ensures.refused) τ.shapes)

pub returns-in-Ok : goal.returns-in-Ok
returns-in-Ok c =
    let τ = thread_seen c.args.runner in
    subst (λ (x : Expansion (Unit {0})). IfOk c.go_together.result
    (λ s. Came (expanded_to τ c.args.place (gives_zero x) (state_seen c.args.self.now)) s c.go_together.new.self))
    (c.in-Ok.ensures.made τ.shapes) c.go_together.ensures
