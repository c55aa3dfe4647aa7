use Rattle.std.proofs.Common.{◌≡◌, length}
use Rattle.collectives.specs.layer.Walks.{rest}
use Rattle.upc_values.specs.LibraryCalls.{gives_zero}
use Rattle.upc_meaning_state.specs.layer.Came.{state_seen}
use Rattle.upc_meaning_state.specs.layer.Libraries.{expanded_to}
use Rattle.upc_meaning_settings.specs.layer.Runners.{thread_seen}
use Rattle.upc_meaning_state.proofs.progress.Progress.go_together.Given as goal

abbrev pub invariant-loop-end : goal.invariant-loop-end
invariant-loop-end l =
    expanded_to (thread_seen l.runner) l.place (gives_zero (rest l.runner.shapes.now l.initial.call))
    (state_seen l.initial.self)
    ≡ expanded_to (thread_seen l.runner) l.place (gives_zero (rest l.runner.shapes.now l.call)) (state_seen l.self)

abbrev pub decreases-loop-end : goal.decreases-loop-end
decreases-loop-end l = length l.self.replies.now
