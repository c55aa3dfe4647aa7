use Rattle.std.proofs.Common.{◌≡◌, ◌++◌, Some, sym, subst, ap, ◌∙◌}
use Rattle.turn_cell.specs.layer.Seats.{id_of, number_of, seen_of, started}
use Rattle.replica_space.specs.Events.{history_in}
use Rattle.upc_task.specs.layer.Recorded.{Adds, Leaves, Paused, Waits}
use Rattle.replica_space_tasks.specs.layer.Kept.{AllOf, Keeps}
use Rattle.replica_space_parts.specs.declared.part.Part.{Part}
use Rattle.replica_space_parts.specs.declared.seated.Seated.{Seated}
use Rattle.replica_space_parts.specs.layer.Parts.{begun_of, added_in}
use Rattle.replica_space_parts.specs.layer.Seated.{Stepped}
use Rattle.replica_space_parts.proofs.Parts.{added-behind, added-grown, added-own, begun-grown, begun-within}
use Rattle.replica_space_parts.proofs.Stepping.{Entered, Worked, kept-turn, ok-from, stepped-of}
use Rattle.replica_space_parts.proofs.steps.step_once.Goals as goal

pub step-pause-requires-clause-kept : goal.step-pause-requires-clause-kept
step-pause-requires-clause-kept g c =
    let k = c.args.seated.now in let h = c.requires.kept in let w = c.in_ok-work.ensures in let e = c.enter-turn.ensures in
    let x = begun_of (started c.args.cell.now) in let code = c.args.code.now in let l = c.work.new.self in
    let world = c.enter-turn.result.world in
    let worked : Worked code k.worker l = record { stays = w.kept; same = w.same.0; items = w.items } in
    let entered : Entered x k.seat c.enter-turn.new.seat world =
    record { began = e.«opening» x; begins = e.begins.0; own = sym e.own.1 ∙ e.own.0 ∙ h.1.free.0.2; same = e.turn.1 } in
    (code, h.0, kept-turn (id_of c.args.cell.now) x code k l c.enter-turn.new.seat world worked entered h.0 h.1)

pub leave-requires-clause-opening : goal.leave-requires-clause-opening
leave-requires-clause-opening g c =
    let h = c.requires.kept.1 in let e = c.enter-turn.ensures in let x = begun_of (started c.args.cell.now) in
    let world = c.enter-turn.result.world in let v = c.step-pause.new.run in let grew = c.step-pause.ensures.grew in
    let began = e.«opening» x h.opened in
    let same = begun-grown world v grew.more (begun-within x world began h.whole) grew.is c.step-pause.ensures.«opening» in
    e.turn.1.2 ∙ h.opened ∙ ap Some (sym (same ∙ began))

pub leave-requires-clause-begins : goal.leave-requires-clause-begins
leave-requires-clause-begins g c =
    let h = c.requires.kept.1 in let e = c.enter-turn.ensures in let x = begun_of (started c.args.cell.now) in
    let world = c.enter-turn.result.world in let v = c.step-pause.new.run in let grew = c.step-pause.ensures.grew in
    let within = begun-within x world (e.«opening» x h.opened) h.whole in
    let now : Part = record { run = v; before = world.before } in
    added-behind (seen_of c.enter-turn.new.seat) (added_in now) grew.more
    (added-grown world v grew.more within grew.is ∙ ap (λ l. l ++ grew.more) (sym e.seen))

pub leave-requires-clause-added : goal.leave-requires-clause-added
leave-requires-clause-added g c =
    let h = c.requires.kept.1 in let e = c.enter-turn.ensures in let x = begun_of (started c.args.cell.now) in
    let world = c.enter-turn.result.world in let v = c.step-pause.new.run in let grew = c.step-pause.ensures.grew in
    let within = begun-within x world (e.«opening» x h.opened) h.whole in
    let now : Part = record { run = v; before = world.before } in let t = number_of c.enter-turn.new.seat in
    let number : c.work.new.self.recorder.thread ≡ t =
    c.in_ok-work.ensures.same.0.thread ∙ sym h.number ∙ sym e.turn.1.1 in
    added-own t (seen_of c.enter-turn.new.seat) (added_in now) grew.more
    (added-grown world v grew.more within grew.is ∙ ap (λ l. l ++ grew.more) (sym e.seen))
    (subst (λ j. AllOf j grew.more) number grew.all_own)

pub returns : goal.returns
returns g c =
    let k = c.args.seated.now in let h = c.requires.kept in let w = c.in_ok-work.ensures in let e = c.enter-turn.ensures in
    let z = id_of c.args.cell.now in let x = begun_of (started c.args.cell.now) in let code = c.args.code.now in
    let l = c.work.new.self in let world = c.enter-turn.result.world in let v = c.step-pause.new.run in
    let m : Seated = record { worker = c.step-pause.new.self; seat = c.leave.new.seat; failed = k.failed } in
    let s = c.step-pause.ensures in let f = c.leave.ensures in
    let worked : Worked code k.worker l = record { stays = w.kept; same = w.same.0; items = w.items } in
    let entered : Entered x k.seat c.enter-turn.new.seat world =
    record { began = e.«opening» x; begins = e.begins.0; own = sym e.own.1 ∙ e.own.0 ∙ h.1.free.0.2; same = e.turn.1 } in
    ok-from c.step-pause.result (λ _. Keeps world.run l v m.worker) (λ p. Paused p m.worker.recorder)
    (λ p. Adds p l.recorder.wish l.recorder.items.items m.worker.recorder.items.items)
    (λ p. Leaves p l.recorder.wish m.worker.recorder.wish) (λ p. Waits p v.0 (history_in v.1) m.worker.recorder)
    (λ p. Stepped z x code p k m)
    (stepped-of z x code k l c.enter-turn.new.seat world worked entered v m s.«opening» s.grew f.free.1 f.free.0 f.seen s.same h)
    s.kept s.pause s.adds s.leaves s.waits
