use Rattle.std.proofs.Common.{◌<◌, ◌≤◌, length, min, sym, ◌∙◌, arith}
use Rattle.std.proofs.lemmas.List.{get_or_default}
use Rattle.upc_meaning_state.specs.layer.Came.{state_seen}
use Rattle.upc_meaning_settings.specs.layer.Settings.{running_seen}
use Rattle.upc_meaning_state.proofs.Receiving.{received_end, received_stop}
use Rattle.upc_meaning_state.proofs.progress.Progress.receive.Goals as goal

pub returns-in-Ends : goal.returns-in-Ends
returns-in-Ends c =
    let m : c.loop-i.i < length c.args.types.now = omega arith in
    let n : c.loop-i.i < length c.args.args.now = omega arith in
    sym c.loop-i.invariant
    ∙ received_stop (running_seen c.args.setting) c.args.place c.args.types.now c.args.args.now c.loop-i.i
    c.index-types-i.result _ c.object-p.result c.in-Ends.end (state_seen c.loop-i.self) (state_seen c.put.new.self) m n
    c.index-types-i.is (get_or_default _ _ _ _ n) c.object-p.ensures (rw c.in-Ends.is at c.in_ok-end.ensures)

pub returns : goal.returns
returns c =
    let xs = c.args.types.now in
    let vs = c.args.args.now in
    let past : min (length xs) (length vs) ≤ c.loop-i.i = omega (arith, c.min-count.ensures) in
    sym c.loop-i.invariant
    ∙ received_end (running_seen c.args.setting) c.args.place xs vs c.loop-i.i (state_seen c.loop-i.self) past
