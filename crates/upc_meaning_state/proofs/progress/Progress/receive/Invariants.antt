use Rattle.std.proofs.Common.{◌≡◌, map, drop}
use Rattle.upc_types.specs.View.{view}
use Rattle.source_meaning.specs.Threads.{received}
use Rattle.upc_meaning_state.specs.layer.Came.{state_seen}
use Rattle.upc_meaning_settings.specs.layer.Settings.{running_seen}
use Rattle.upc_meaning_state.proofs.progress.Progress.receive.Given as goal

abbrev pub invariant-loop-i : goal.invariant-loop-i
invariant-loop-i l =
    received (running_seen l.setting) l.place l.i (map view (drop l.i l.types)) (drop l.i l.args) (state_seen l.self)
    ≡ received (running_seen l.setting) l.place 0 (map view l.types) l.args (state_seen l.initial.self)
