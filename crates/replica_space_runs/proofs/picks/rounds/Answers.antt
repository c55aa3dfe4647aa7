use Rattle.std.proofs.Common.{◌∙◌}
use Rattle.replica_space_crews.proofs.Crews.{stays-refl, stays-then, over-halted, over-locked, over-ended}
use Rattle.replica_space_runs.proofs.picks.rounds.Goals as goal

pub loop-init : goal.loop-init
loop-init g c = stays-refl c.args.code.now c.args.run.now c.args.workers.now

pub bring_all-requires : goal.bring_all-requires
bring_all-requires g c = let r = c.requires in (r.0, r.1, c.loop.invariant.crew r.0 r.1 r.2)

pub returns-then-is_stopped : goal.returns-then-is_stopped
returns-then-is_stopped g c =
    let code = c.args.code.now in let ks = c.bring_all.new.workers in let x = c.bring_all.new.run in
    let s = stays-then code c.args.run.now c.loop.run x c.args.workers.now c.loop.workers ks c.loop.invariant c.in_ok-bring_all.ensures.running in
    record {
      many = c.halt_all.ensures.many ∙ s.many;
      opening = s.«opening»;
      over = λ l f run. over-halted code l f x ks c.halt_all.new.workers (s.crew l f run) (c.is_stopped.ensures.yes c.if-is_stopped.true)
          c.halt_all.ensures;
    }

pub returns-then-all_ended : goal.returns-then-all_ended
returns-then-all_ended g c =
    let code = c.args.code.now in let ks = c.bring_all.new.workers in let x = c.bring_all.new.run in
    let s = stays-then code c.args.run.now c.loop.run x c.args.workers.now c.loop.workers ks c.loop.invariant c.in_ok-bring_all.ensures.running in
    record {
      many = s.many;
      opening = s.«opening»;
      over = λ l f run. over-ended code l f x ks (s.crew l f run) (c.all_ended.ensures c.if-all_ended.true);
    }

pub none_goes-requires : goal.none_goes-requires
none_goes-requires g c =
    let r = c.requires in
    (c.args.code.now, (r.0, r.1, c.in_ok-bring_all.ensures.running.crew r.0 r.1 (c.loop.invariant.crew r.0 r.1 r.2)))

pub returns-then-none_goes : goal.returns-then-none_goes
returns-then-none_goes g c =
    let code = c.args.code.now in let ks = c.bring_all.new.workers in let x = c.bring_all.new.run in
    let s = stays-then code c.args.run.now c.loop.run x c.args.workers.now c.loop.workers ks c.loop.invariant c.in_ok-bring_all.ensures.running in
    record {
      many = c.in_ok-lock_all.ensures.many ∙ s.many;
      opening = s.«opening»;
      over = λ l f run. over-locked code l f x ks c.lock_all.new.workers (s.crew l f run) (c.none_goes.ensures c.if-none_goes.true)
          (c.is_stopped.ensures.no c.if-is_stopped.false) c.in_ok-lock_all.ensures;
    }

pub loop-preserved : goal.loop-preserved
loop-preserved g c =
    stays-then c.args.code.now c.args.run.now c.loop.run c.bring_all.new.run c.args.workers.now c.loop.workers c.bring_all.new.workers
    c.loop.invariant c.in_ok-bring_all.ensures.running
