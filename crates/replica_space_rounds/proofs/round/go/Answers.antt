use Rattle.std.proofs.Common.{◌≡◌, ◌<◌, length, map, refl, sym, subst, ap, ◌∙◌}
use Rattle.std.proofs.lemmas.List.{length-map}
use Rattle.turn_cell.specs.layer.Members.{Every}
use Rattle.turn_cell.specs.layer.Seats.{AreFree, HasAll, id_of, started}
use Rattle.replica_space.specs.declared.event.Event.{Event}
use Rattle.replica_space_parts.specs.layer.Parts.{added_in, begun_of}
use Rattle.replica_space_rounds.specs.layer.Rounds.{seat_of}
use Rattle.replica_space_rounds.proofs.Going.{Starts, all-free, all-seated, many-places, round-goes, round-gone, round-rested, starts-of}
use Rattle.replica_space_rounds.proofs.round.go.Goals as goal

pub play_all-requires-clause-some : goal.play_all-requires-clause-some
play_all-requires-clause-some g c κs within =
    let cell = c.in_ok-cell.cell in let e = c.in_ok-cell.ensures in let z = id_of cell in let x = begun_of (started cell) in
    let w = c.args.crew.run in let ks = c.args.crew.workers.items in let ps = c.in_ok-places.places.items in let p = c.in_ok-places.ensures in
    let s : Starts z x w ks ps =
    starts-of z (started cell) w c.len-before.result ks ps c.in_ok-cell.seats.items e.cell.0 c.len-before.ensures.len e.seats.1 p.seats p.workers in
    subst (λ n. 0 < n) (sym (many-places z x w ks ps s)) c.requires.some

pub play_all-requires-clause-kept : goal.play_all-requires-clause-kept
play_all-requires-clause-kept g c κs within = λ i d lt.
    let cell = c.in_ok-cell.cell in let e = c.in_ok-cell.ensures in let z = id_of cell in let x = begun_of (started cell) in
    let w = c.args.crew.run in let ks = c.args.crew.workers.items in let ps = c.in_ok-places.places.items in let p = c.in_ok-places.ensures in
    let s : Starts z x w ks ps =
    starts-of z (started cell) w c.len-before.result ks ps c.in_ok-cell.seats.items e.cell.0 c.len-before.ensures.len e.seats.1 p.seats p.workers in
    let r = c.requires.running in (r.1, all-seated z x c.args.code.now r.0 r.1 w ks ps s r.2 i d lt)

pub close-run-requires : goal.close-run-requires
close-run-requires g c =
    let cell = c.in_ok-cell.cell in let e = c.in_ok-cell.ensures in let z = id_of cell in let x = begun_of (started cell) in
    let w = c.args.crew.run in let ks = c.args.crew.workers.items in let ps = c.in_ok-places.places.items in let p = c.in_ok-places.ensures in
    let s : Starts z x w ks ps =
    starts-of z (started cell) w c.len-before.result ks ps c.in_ok-cell.seats.items e.cell.0 c.len-before.ensures.len e.seats.1 p.seats p.workers in
    let r = c.requires.running in let qs = c.play_all.new.places.items in let y = c.in_ok-play_all.ensures in
    let is = c.in_ok-workers.ensures.seats in
    let many : length c.in_ok-workers.seats.items ≡ length ks =
    ap length is ∙ length-map qs seat_of ∙ y.many ∙ many-places z x w ks ps s in
    record {
      seats = (
        subst (AreFree (λ (e : Event). e.by) z 0) (sym is)
            (all-free z x c.args.code.now r.0 r.1 w ks ps qs s r.2 y.many y.did y.fine),
        many ∙ r.2.many ∙ sym c.threads-threads.ensures ∙ sym e.cell.1,
        subst (λ n. 0 < n) (sym many) c.requires.some,
      );
    }

pub returns-clause-running : goal.returns-clause-running
returns-clause-running g c =
    let cell = c.in_ok-cell.cell in let e = c.in_ok-cell.ensures in let z = id_of cell in let x = begun_of (started cell) in
    let w = c.args.crew.run in let ks = c.args.crew.workers.items in let ps = c.in_ok-places.places.items in let p = c.in_ok-places.ensures in
    let s : Starts z x w ks ps =
    starts-of z (started cell) w c.len-before.result ks ps c.in_ok-cell.seats.items e.cell.0 c.len-before.ensures.len e.seats.1 p.seats p.workers in
    let qs = c.play_all.new.places.items in let y = c.in_ok-play_all.ensures in let n = c.in_ok-workers.ensures in
    round-goes z x c.args.code.now w c.close-run.result ks c.in_ok-workers.workers.items ps qs s y.many y.did y.fine n.workers
    c.close-run.ensures.«opening»
    (subst (HasAll (λ (e : Event). e.by) (added_in c.close-run.result)) n.seats c.close-run.ensures.all)

pub returns-clause-rested : goal.returns-clause-rested
returns-clause-rested g c =
    let cell = c.in_ok-cell.cell in let e = c.in_ok-cell.ensures in let z = id_of cell in let x = begun_of (started cell) in
    let w = c.args.crew.run in let ks = c.args.crew.workers.items in let ps = c.in_ok-places.places.items in let p = c.in_ok-places.ensures in
    let s : Starts z x w ks ps =
    starts-of z (started cell) w c.len-before.result ks ps c.in_ok-cell.seats.items e.cell.0 c.len-before.ensures.len e.seats.1 p.seats p.workers in
    let qs = c.play_all.new.places.items in let y = c.in_ok-play_all.ensures in let n = c.in_ok-workers.ensures in
    round-rested z x c.args.code.now w c.close-run.result ks c.in_ok-workers.workers.items ps qs s y.many y.did y.fine n.workers

pub returns-clause-rounds : goal.returns-clause-rounds
returns-clause-rounds g c = λ l f crew gone.
    let cell = c.in_ok-cell.cell in let e = c.in_ok-cell.ensures in let z = id_of cell in let x = begun_of (started cell) in
    let w = c.args.crew.run in let ks = c.args.crew.workers.items in let ps = c.in_ok-places.places.items in let p = c.in_ok-places.ensures in
    let s : Starts z x w ks ps =
    starts-of z (started cell) w c.len-before.result ks ps c.in_ok-cell.seats.items e.cell.0 c.len-before.ensures.len e.seats.1 p.seats p.workers in
    let qs = c.play_all.new.places.items in let y = c.in_ok-play_all.ensures in let n = c.in_ok-workers.ensures in
    round-gone z x c.args.code.now w c.close-run.result ks c.in_ok-workers.workers.items ps qs s y.many y.did y.fine n.workers
    c.close-run.ensures.«opening»
    (subst (HasAll (λ (e : Event). e.by) (added_in c.close-run.result)) n.seats c.close-run.ensures.all) l f crew gone
