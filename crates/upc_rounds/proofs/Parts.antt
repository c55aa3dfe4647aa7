-- A thread's part in a round, step by step.
use Rattle.std.proofs.Common.{◌≡◌, ◌++◌, List, [], ◌∷◌, length, None, Some, is_some, refl, sym, ap, subst, ◌∙◌, true, append_assoc}
use mathlib.Core.List.{IsPrefix}
use Rattle.upc_values.specs.declared.record.Item.{Item}
use Rattle.upc_values.specs.declared.record.Item.TheVariants.{Did}
use Rattle.upc_values.specs.Openings.{Opening}
use Rattle.upc_values.specs.Records.{last_item, is_beat_item}
use Rattle.upc_values.proofs.Records.{last-push}
use Rattle.stack_code.specs.layer.Codes.{Codes}
use Rattle.turn_cell.specs.layer.Seats.{TableId, seen_of}
use Rattle.upc_task.specs.layer.Kept.{Worker}
use Rattle.upc_task.specs.declared.worker.Pause.{Pause}
use Rattle.upc_task.specs.declared.worker.Pause.TheVariants as pauses
use Rattle.upc_task.specs.declared.seated.Task.{Task}
use Rattle.upc_task.specs.layer.Sources.{Outcomes}
use Rattle.upc_task.specs.layer.Kept.{IsSame, StaysKept, Paused, Adds, Leaves, Waits}
use Rattle.upc_task.specs.layer.Seated.{IsTask, StaysTask, Gained}
use Rattle.upc_task.proofs.Options.{none-some}
use Rattle.upc_task.proofs.Workers.{kept-seen}
use Rattle.upc_rounds_teams.specs.layer.Course.{Steps}
use Rattle.upc_rounds_teams.specs.layer.Runs.{Rested, standing_of}
use Rattle.upc_rounds_teams.specs.layer.Played.{TurnedSeen, SoFar}
use Rattle.upc_rounds_teams.specs.layer.Places.{Moved, Took, RestsWith}
use Rattle.upc_rounds_teams.proofs.Prefixes.{prefix-self, prefix-then}
use Rattle.upc_rounds_teams.proofs.Gains.{turned-step, turned-work}
use Rattle.upc_rounds.proofs.Running.{paused-own}
use Rattle.upc_rounds.proofs.Standings.{idle-of, steps-of, Going, going-new, going-more, part-of}
use Rattle.upc_rounds.proofs.Playing.{far-start, far-going, far-acted, IsPause}

-- What private work leaves as it was.
pub record Worked (c : Codes) (k l : Task) : Type 0 where
  pub stays : StaysTask c k l
  pub kept : StaysKept c k.worker l.worker
  pub same : IsSame k.worker l.worker
  pub opened : l.worker.«end» ≡ None
  pub items : l.worker.items ≡ k.worker.items
  pub seat : l.seat ≡ k.seat

-- What a step does.
pub record Stepped (z : TableId) (o : Opening) (c : Codes) (p : Pause) (l m : Task) : Type 0 where
  pub kept : (f : Outcomes) → IsTask z o c f l → IsTask z o c f m
  pub same : IsSame l.worker m.worker
  pub gained : Gained l.worker.thread (seen_of l.seat) (seen_of m.seat)
  pub pause : Paused p m.worker
  pub adds : Adds p l.worker.wish l.worker.items.items m.worker.items.items
  pub leaves : Leaves p l.worker.wish m.worker.wish
  pub waits : Waits p o (seen_of m.seat) m.worker
  pub full : length l.worker.items.items ≡ l.worker.limits.actions → p ≡ pauses.Finished

-- Work and a step.
pub turned-of : (z : TableId) (o : Opening) (c : Codes) (f : Outcomes) (p : Pause) (k l m : Task) → IsTask z o c f k → Worked c k l → Stepped z o c p l m
    → TurnedSeen o f p k.worker.thread (seen_of k.seat) (seen_of m.seat) k.worker m.worker
turned-of z o c f p k l m h w s =
    let hl = w.stays z o f h in let hm = s.kept f hl in let g = s.gained in
    let kept = kept-seen o c f (seen_of l.seat) g.others l.worker g.none hl.kept in
    let turned = turned-step o c f p (seen_of l.seat ++ g.others) (seen_of m.seat) l.worker m.worker kept w.opened hm.kept s.same g.grew s.pause s.adds s.waits in
    let moved = turned-work o f p l.worker.thread (seen_of l.seat ++ g.others) (seen_of m.seat) k.worker l.worker m.worker w.same.thread (ap (λ v. v.items) w.items) turned in
    subst (λ t. TurnedSeen o f p t (seen_of k.seat) (seen_of m.seat) k.worker m.worker) w.same.thread
    (subst (λ e. TurnedSeen o f p l.worker.thread (seen_of e) (seen_of m.seat) k.worker m.worker) w.seat
    (record { others = g.others; none = g.none; turned = moved }))

pub same-then : (k l m : Worker) → IsSame k l → IsSame l m → IsSame k m
same-then k l m s e = record { thread = e.thread ∙ s.thread; limits = e.limits ∙ s.limits }

adds-from : (z : TableId) (o : Opening) (c : Codes) (p : Pause) (k l m : Task) → Worked c k l → Stepped z o c p l m
    → Adds p l.worker.wish k.worker.items.items m.worker.items.items
adds-from z o c p k l m w s = subst (λ xs. Adds p l.worker.wish xs.items m.worker.items.items) w.items s.adds

-- What a step and the work before it let the seat see.
sees-more : (z : TableId) (o : Opening) (c : Codes) (p : Pause) (k l m : Task) → Worked c k l → Stepped z o c p l m → IsPrefix (seen_of k.seat) (seen_of m.seat)
sees-more z o c p k l m w s =
    let g = s.gained in (
      g.others ++ g.grew.more,
      sym (append_assoc (seen_of k.seat) g.others g.grew.more) ∙ ap (λ e. (seen_of e ++ g.others) ++ g.grew.more) (sym w.seat) ∙ sym g.grew.is,
    )

-- Work and a step, of a task without an end.
pub moved-of : (z : TableId) (o : Opening) (c : Codes) (p : Pause) (k l m : Task) → Worked c k l → Stepped z o c p l m → Moved z o c k m
moved-of z o c p k l m w s = record {
  same = same-then k.worker l.worker m.worker w.same s.same;
  own = λ h. paused-own p m.worker s.pause;
  idle = λ h. idle-of p o (seen_of m.seat) l.worker.wish m.worker s.pause s.leaves s.waits;
  fine = λ f h. s.kept f (w.stays z o f h);
  sees = sees-more z o c p k l m w s;
}

pub steps-from : (z : TableId) (o : Opening) (c : Codes) (p : Pause) (k l m : Task) → k.worker.«end» ≡ None → Worked c k l → Stepped z o c p l m
    → Steps (standing_of k.worker) (standing_of m.worker)
steps-from z o c p k l m opened w s =
    steps-of p o (seen_of m.seat) l.worker.wish k.worker m.worker opened s.pause (adds-from z o c p k l m w s) s.waits

-- How far a task has gone in its part of a round.
pub record Far (z : TableId) (o : Opening) (c : Codes) (first k : Task) : Type 0 where
  pub kept : (f : Outcomes) → IsTask z o c f first → IsTask z o c f k
  pub same : IsSame first.worker k.worker
  pub is_open : k.worker.«end» ≡ None
  pub far : (f : Outcomes) → IsTask z o c f first
      → SoFar f first.worker.thread (seen_of first.seat) (seen_of k.seat) first.worker k.worker
  pub going : Going (standing_of first.worker) (standing_of k.worker)
  pub sees : IsPrefix (seen_of first.seat) (seen_of k.seat)
  pub full : length first.worker.items.items ≡ first.worker.limits.actions → k.worker.items.items ≡ first.worker.items.items

pub far-begins : (z : TableId) (o : Opening) (c : Codes) (k : Task) → k.worker.«end» ≡ None → Far z o c k k
far-begins z o c k opened = record {
  kept = λ f h. h;
  same = record { thread = refl; limits = refl };
  is_open = opened;
  far = λ f h. far-start f k.worker.thread (seen_of k.seat) k.worker;
  going = going-new k.worker opened;
  sees = prefix-self (seen_of k.seat);
  full = λ q. refl;
}

-- A full record ends in the next step.
full-ends : (z : TableId) (o : Opening) (c : Codes) (p : Pause) (first k l m : Task) → Far z o c first k → Worked c k l → Stepped z o c p l m
    → length first.worker.items.items ≡ first.worker.limits.actions → p ≡ pauses.Finished
full-ends z o c p first k l m h w s q =
    s.full (ap (λ v. length v.items) w.items ∙ ap length (h.full q) ∙ q ∙ sym (ap (λ v. v.actions) (w.same.limits ∙ h.same.limits)))

turned-first : (z : TableId) (o : Opening) (c : Codes) (f : Outcomes) (p : Pause) (first k l m : Task) → Far z o c first k → Worked c k l → Stepped z o c p l m
    → IsTask z o c f first → TurnedSeen o f p first.worker.thread (seen_of k.seat) (seen_of m.seat) k.worker m.worker
turned-first z o c f p first k l m h w s t =
    subst (λ i. TurnedSeen o f p i (seen_of k.seat) (seen_of m.seat) k.worker m.worker) h.same.thread
    (turned-of z o c f p k l m (h.kept f t) w s)

pub far-goes : (z : TableId) (o : Opening) (c : Codes) (first k l m : Task) → Far z o c first k → Worked c k l → Stepped z o c pauses.Going l m → Far z o c first m
far-goes z o c first k l m h w s = record {
  kept = λ f t. s.kept f (w.stays z o f (h.kept f t));
  same = same-then first.worker l.worker m.worker (same-then first.worker k.worker l.worker h.same w.same) s.same;
  is_open = s.pause;
  far = λ f t. far-going o f first.worker.thread (seen_of first.seat) (seen_of k.seat) (seen_of m.seat) first.worker k.worker m.worker (h.far f t)
      (turned-first z o c f pauses.Going first k l m h w s t);
  going = going-more first.worker k.worker m.worker l.worker.wish h.going (adds-from z o c pauses.Going k l m w s) s.pause;
  sees = prefix-then (seen_of first.seat) (seen_of k.seat) (seen_of m.seat) h.sees (sees-more z o c pauses.Going k l m w s);
  full = λ q. let bad : pauses.Going ≡ pauses.Finished = full-ends z o c pauses.Going first k l m h w s q in absurd cc;
}

rested-of : (p : Pause) (k : Worker) → Paused p k → IsPause p → Rested k
rested-of pauses.Going k h y = absurd y
rested-of pauses.Beat k h y = λ q. h.1
rested-of pauses.Stalled k h y = λ q. h.1
rested-of pauses.Finished k h y = λ q. absurd (none-some k.«end» h.0 q h.1)

-- The last step of a part in a round.
pub far-took : (z : TableId) (o : Opening) (c : Codes) (p : Pause) (first k l m : Task) → Far z o c first k → first.worker.«end» ≡ None → Worked c k l → Stepped z o c p l m
    → IsPause p → Took z o c first m
far-took z o c p first k l m h opened w s y = record {
  moved = record {
    same = same-then first.worker l.worker m.worker (same-then first.worker k.worker l.worker h.same w.same) s.same;
    own = λ q. paused-own p m.worker s.pause;
    idle = λ q. idle-of p o (seen_of m.seat) l.worker.wish m.worker s.pause s.leaves s.waits;
    fine = λ f t. s.kept f (w.stays z o f (h.kept f t));
    sees = prefix-then (seen_of first.seat) (seen_of k.seat) (seen_of m.seat) h.sees (sees-more z o c p k l m w s);
  };
  rested = rested-of p m.worker s.pause y;
  takes = part-of first.worker k.worker m.worker opened h.going (steps-from z o c p k l m h.is_open w s) (rested-of p m.worker s.pause y);
  full = λ q. let e = subst (λ r. Paused r m.worker) (full-ends z o c p first k l m h w s q) s.pause in ap is_some e.1;
  acted = λ f t. far-acted o f first.worker.thread (seen_of first.seat) (seen_of k.seat) (seen_of m.seat) first.worker k.worker m.worker p (h.far f t)
      (turned-first z o c f p first k l m h w s t) s.pause l.worker.wish k.worker.items.items (adds-from z o c p k l m w s) y;
}

beat-last : (xs ys : List Item) (x : Item) → ys ≡ xs ++ x ∷ [] → is_beat_item (Some x) ≡ true → is_beat_item (last_item ys) ≡ true
beat-last xs ys x is h = ap (λ l. is_beat_item (last_item l)) is ∙ ap is_beat_item (last-push xs x) ∙ h

pub rests-with : (z : TableId) (o : Opening) (c : Codes) (p : Pause) (k l m : Task) → Worked c k l → Stepped z o c p l m → IsPause p → RestsWith p o m
rests-with z o c pauses.Going k l m w s y = absurd y
rests-with z o c pauses.Beat k l m w s y = let a = s.adds in
    (s.pause.0, beat-last l.worker.items.items m.worker.items.items (Did a.0 a.1) a.4 a.2)
rests-with z o c pauses.Stalled k l m w s y = (s.pause.0, s.waits)
rests-with z o c pauses.Finished k l m w s y = ap is_some s.pause.1
