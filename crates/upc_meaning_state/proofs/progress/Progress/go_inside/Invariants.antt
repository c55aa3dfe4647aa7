use Rattle.std.proofs.Common.{◌≡◌}
use Rattle.upc_library.specs.layer.Walks.{rest, replies_left}
use Rattle.upc_values.specs.LibraryCalls.{gives_zero}
use Rattle.upc_meaning_state.specs.layer.Came.{state_seen}
use Rattle.upc_meaning_state.specs.layer.Libraries.{expanded_to}
use Rattle.upc_meaning_settings.specs.layer.Runners.{thread_seen}
use Rattle.upc_meaning_state.proofs.progress.Progress.go_inside.Given as goal

abbrev pub invariant-loop-call : goal.invariant-loop-call
invariant-loop-call l =
    expanded_to (thread_seen l.runner) l.place (gives_zero (rest l.initial.call)) (state_seen l.initial.self)
    ≡ expanded_to (thread_seen l.runner) l.place (gives_zero (rest l.call)) (state_seen l.self)

abbrev pub decreases-loop-call : goal.decreases-loop-call
decreases-loop-call l = replies_left l.call
