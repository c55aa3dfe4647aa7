use Rattle.std.proofs.Common.{◌≡◌, Option, subst}
use Rattle.block_layout.specs.declared.kind.Kind.{Kind}
use Rattle.upc_values.specs.declared.action.Reply.{Reply}
use Rattle.thread_steps.specs.States.{Val, Over}
use Rattle.thread_steps.specs.Actions.{ask}
use Rattle.upc_library.specs.layer.Walks.{rest}
use Rattle.upc_meaning_state.specs.declared.progress.Step.{Step}
use Rattle.upc_meaning_state.specs.layer.Came.{Came, state_seen}
use Rattle.upc_meaning_settings.specs.layer.Runners.{thread_seen}
use Rattle.upc_meaning_state.proofs.Walking.{act_gives, act_ends}
use Rattle.upc_meaning_state.proofs.progress.Progress.act_inside.Goals as goal

pub returns-in-Ends-clause-goes : goal.returns-in-Ends-clause-goes
returns-in-Ends-clause-goes c =
    let τ = thread_seen c.args.runner in
    let σ = state_seen c.args.self.now in
    act_ends τ c.args.place σ (rest c.args.call.now) c.args.action c.in-Ends.end (state_seen c.ask.new.self) c.requires
    (subst (λ (k : Option Kind). ask τ k c.args.action σ ≡ Over c.in-Ends.end (state_seen c.ask.new.self))
    c.reads.ensures
    (subst (λ (s : Step Reply). Came (ask τ c.reads.result c.args.action σ) s c.ask.new.self) c.in-Ends.is
    c.in_ok-end.ensures))

pub returns-else-is_refusal-clause-goes : goal.returns-else-is_refusal-clause-goes
returns-else-is_refusal-clause-goes c =
    let τ = thread_seen c.args.runner in
    let σ = state_seen c.args.self.now in
    act_gives τ c.args.place σ (rest c.args.call.now) c.args.action c.in-Gives.reply (state_seen c.ask.new.self) c.requires
    (subst (λ (k : Option Kind). ask τ k c.args.action σ ≡ Val c.in-Gives.reply (state_seen c.ask.new.self))
    c.reads.ensures
    (subst (λ (s : Step Reply). Came (ask τ c.reads.result c.args.action σ) s c.ask.new.self) c.in-Gives.is
    c.in_ok-end.ensures))
