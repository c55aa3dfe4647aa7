use Rattle.std.proofs.Common.{sym, ap, ◌∙◌, subst}
use Rattle.std.specs.Prelude.{IfOk}
use Rattle.std.specs.Option.{option_copied}
use Rattle.upc_values.specs.declared.scalar.Value.{Value}
use Rattle.upc_values.specs.LibraryCalls.{gives_zero}
use Rattle.thread_steps.specs.States.{Res}
use Rattle.upc_library.specs.layer.Wishes.{expansion}
use Rattle.upc_meaning_state.specs.layer.Came.{Came, state_seen}
use Rattle.upc_meaning_state.specs.layer.Libraries.{expanded_to}
use Rattle.upc_meaning_settings.specs.layer.Runners.{thread_seen}
use Rattle.upc_meaning_state.proofs.MemoryCalls.{asks_so}
use Rattle.upc_meaning_state.proofs.Walking.{refused_so}
use Rattle.upc_meaning_state.proofs.progress.Progress.memory_call.Goals as goal

pub returns-in-Err-Error : goal.returns-in-Err-Error
returns-in-Err-Error c =
    let τ = thread_seen c.args.runner in
    let σ = state_seen c.args.self.now in
    let o = option_copied c.private_of-private.result in
    asks_so τ c.args.place σ c.args.call c.args.shape c.args.args.now o c.spec_of-spec.result c.requires.copies
    c.spec_of-spec.ensures c.private_of-private.ensures.value
    ∙ refused_so τ c.args.place σ (expansion τ.threads τ.shapes o c.spec_of-spec.result) c.in-Err-Error.code
    (rw c.in-Err-Error.field-0-is at c.in-Err-Error.ensures.refused)

pub returns-in-Ok : goal.returns-in-Ok
returns-in-Ok c =
    let τ = thread_seen c.args.runner in
    let σ = state_seen c.args.self.now in
    let o = option_copied c.private_of-private.result in
    subst (λ (r : Res Value). IfOk c.go_inside.result (λ s. Came r s c.go_inside.new.self))
    (sym (asks_so τ c.args.place σ c.args.call c.args.shape c.args.args.now o c.spec_of-spec.result c.requires.copies
    c.spec_of-spec.ensures c.private_of-private.ensures.value
    ∙ ap (λ x. expanded_to τ c.args.place (gives_zero x) σ) (sym c.in-Ok.ensures.made)))
    c.go_inside.ensures
