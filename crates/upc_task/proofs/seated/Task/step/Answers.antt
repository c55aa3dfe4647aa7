use Rattle.std.proofs.Common.{rules, ℕ, ◌≡◌, ◌<◌, None, Some, is_some, true, List, refl, sym, subst, ap, ◌∙◌, arith}
use mathlib.Core.List.{IsPrefix}
use Rattle.upc_values.specs.Openings.{Opening}
use Rattle.upc_values.specs.Drain.{drain, entries_of}
use Rattle.turn_cell.specs.layer.Seats.{id_of, number_of, seen_of, started}
use Rattle.upc_task.specs.declared.worker.Pause.TheVariants.{Going}
use Rattle.upc_task.specs.layer.Kept.{IsKept, Grew, Keeps, Leaves, Adds}
use Rattle.upc_task.specs.layer.Seated.{IsLawful, Gained}
use Rattle.upc_task.proofs.Workers.{kept-room}
use Rattle.upc_task.proofs.Seen.{kept-turn, kept-front, kept-out, task-ordered, ordered-same, front-moved, either-way, same-but, adds-room, leaves-room, added-own, gained-entered, gained-same, lawful-of, ok-map, err-map, err-both}
use Rattle.upc_task.proofs.seated.Task.step.Goals as goal

-- where there is no room

pub returns-in_err-reserve-clause-order : goal.returns-in_err-reserve-clause-order
returns-in_err-reserve-clause-order g c =
    let k = c.args.self.now in let h = c.requires.kept in let r = c.in_err-reserve.ensures in
    let o : Opening = (started c.args.cell.now).0 in
    ordered-same o k _ (task-ordered (id_of c.args.cell.now) o c.args.code.now h.0 k h.1) refl (ap (λ z. z.thread) r.is) r.items

-- before the turn

pub step_alone-requires-clause-kept : goal.step_alone-requires-clause-kept
step_alone-requires-clause-kept g c =
    let k = c.args.self.now in let h = c.requires.kept in let r = c.in_ok-reserve.ensures in
    let o : Opening = (started c.args.cell.now).0 in
    (o, c.args.code.now, h.0, seen_of k.seat, kept-room o c.args.code.now h.0 (seen_of k.seat) k.worker c.reserve.new.self r.is r.items h.1.kept)

pub step_alone-requires-clause-ready : goal.step_alone-requires-clause-ready
step_alone-requires-clause-ready g c =
    let r = c.in_ok-reserve.ensures in let q = c.requires.ready in
    (ap (λ z. z.«end») r.is ∙ q.0, ap (λ z. is_some z.wish) r.is ∙ q.1)

pub returns-then-step_alone-clause-kept : goal.returns-then-step_alone-clause-kept
returns-then-step_alone-clause-kept g c = λ f h.
    let k = c.args.self.now in let r = c.in_ok-reserve.ensures in let s = c.step_alone.ensures in
    let o : Opening = (started c.args.cell.now).0 in let p = c.args.code.now in let seen = seen_of k.seat in
    record {
      cell = h.cell;
      opened = h.opened;
      number = h.number ∙ sym (s.same.thread ∙ ap (λ z. z.thread) r.is);
      lawful = h.lawful;
      kept = s.kept c.if-step_alone.true o p f seen h.lawful.opening h.lawful.legal h.lawful.formed
          (kept-room o p f seen k.worker c.reserve.new.self r.is r.items h.kept);
    }

pub returns-then-step_alone-clause-order : goal.returns-then-step_alone-clause-order
returns-then-step_alone-clause-order g c =
    let k = c.args.self.now in let h = c.requires.kept in
    let r = c.in_ok-reserve.ensures in let s = c.step_alone.ensures in
    let o : Opening = (started c.args.cell.now).0 in let p = c.args.code.now in let seen = seen_of k.seat in
    let kept = s.kept c.if-step_alone.true o p h.0 seen h.1.lawful.opening h.1.lawful.legal h.1.lawful.formed
    (kept-room o p h.0 seen k.worker c.reserve.new.self r.is r.items h.1.kept) in
    let number = h.1.number ∙ sym (s.same.thread ∙ ap (λ z. z.thread) r.is) in
    record {
      free = k.free;
      number = number;
      front = subst (λ es. IsPrefix es (drain c.step_alone.new.self.thread c.step_alone.new.self.items.items))
          (sym (k.free.0.2 ∙ ap (λ n. entries_of n seen) number))
          (kept-out o p h.0 seen c.step_alone.new.self kept);
      lawful = h.1.lawful;
    }

pub returns-then-step_alone-clause-gained : goal.returns-then-step_alone-clause-gained
returns-then-step_alone-clause-gained g c = gained-same c.args.self.now.worker.thread (seen_of c.args.self.now.seat)

pub returns-then-step_alone-clause-adds : goal.returns-then-step_alone-clause-adds
returns-then-step_alone-clause-adds g c =
    let r = c.in_ok-reserve.ensures in
    adds-room Going c.args.self.now.worker c.reserve.new.self c.step_alone.new.self.items.items r.is r.items
    (c.step_alone.ensures.adds c.if-step_alone.true)

pub returns-then-step_alone-clause-full : goal.returns-then-step_alone-clause-full
returns-then-step_alone-clause-full g c = λ full.
    let r = c.in_ok-reserve.ensures in let room = c.step_alone.ensures.room c.if-step_alone.true in
    let many = ap (λ xs. Rattle.std.proofs.Common.length xs) r.items in
    let most = ap (λ z. z.limits.actions) r.is in
    absurd (omega arith)

-- where there is no room for the copy

pub returns-in_err-copy-clause-gained : goal.returns-in_err-copy-clause-gained
returns-in_err-copy-clause-gained g c = gained-same c.args.self.now.worker.thread (seen_of c.args.self.now.seat)

pub returns-in_err-copy-clause-order : goal.returns-in_err-copy-clause-order
returns-in_err-copy-clause-order g c =
    let k = c.args.self.now in let h = c.requires.kept in let r = c.in_ok-reserve.ensures in
    let o : Opening = (started c.args.cell.now).0 in
    let is = same-but k.worker c.reserve.new.self c.step_alone.new.self (c.step_alone.ensures.none c.if-step_alone.false) r.is r.items in
    ordered-same o k _ (task-ordered (id_of c.args.cell.now) o c.args.code.now h.0 k h.1) refl (ap (λ z. z.thread) is.0) is.1

-- in the turn

pub step-pause-requires-clause-kept : goal.step-pause-requires-clause-kept
step-pause-requires-clause-kept g c =
    let k = c.args.self.now in let h = c.requires.kept in let e = c.enter-turn.ensures in let o : Opening = (started c.args.cell.now).0 in
    let r = c.in_ok-reserve.ensures in
    let is = same-but k.worker c.reserve.new.self c.step_alone.new.self (c.step_alone.ensures.none c.if-step_alone.false) r.is r.items in (
      c.args.code.now,
      h.0,
      kept-turn o c.enter-turn.result.world.0 c.args.code.now h.0 (number_of k.seat) (seen_of k.seat) c.enter-turn.result.world.1 k.worker c.step_alone.new.self
          is.0 is.1 e.begins.0 (sym e.own.1 ∙ e.own.0 ∙ k.free.0.2) (sym h.1.number) (e.opening o h.1.opened) h.1.kept,
    )

pub step-pause-requires-clause-ready : goal.step-pause-requires-clause-ready
step-pause-requires-clause-ready g c =
    let r = c.in_ok-reserve.ensures in let q = c.requires.ready in
    let is = same-but c.args.self.now.worker c.reserve.new.self c.step_alone.new.self (c.step_alone.ensures.none c.if-step_alone.false) r.is r.items in
    (ap (λ z. z.«end») is.0 ∙ q.0, ap (λ z. is_some z.wish) is.0 ∙ q.1)

pub leave-requires-clause-added : goal.leave-requires-clause-added
leave-requires-clause-added g c =
    let h = c.requires.kept in let e = c.enter-turn.ensures in let t = number_of c.enter-turn.new.seat in
    let r = c.in_ok-reserve.ensures in
    let is = same-but c.args.self.now.worker c.reserve.new.self c.step_alone.new.self (c.step_alone.ensures.none c.if-step_alone.false) r.is r.items in
    let thread : c.step_alone.new.self.thread ≡ t = ap (λ z. z.thread) is.0 ∙ sym h.1.number ∙ sym e.turn.1.1 in
    added-own t (seen_of c.enter-turn.new.seat) c.enter-turn.result.world.1 c.step-pause.new.world.1 e.seen
    (subst (λ j. Grew j c.enter-turn.result.world.1 c.step-pause.new.world.1) thread c.step-pause.ensures.grew)

pub returns-clause-gained : goal.returns-clause-gained
returns-clause-gained g c =
    let k = c.args.self.now in let h = c.requires.kept in let e = c.enter-turn.ensures in
    let r = c.in_ok-reserve.ensures in
    let is = same-but k.worker c.reserve.new.self c.step_alone.new.self (c.step_alone.ensures.none c.if-step_alone.false) r.is r.items in
    let grew : Grew k.worker.thread c.enter-turn.result.world.1 c.step-pause.new.world.1 =
    subst (λ j. Grew j c.enter-turn.result.world.1 c.step-pause.new.world.1) (ap (λ z. z.thread) is.0) c.step-pause.ensures.grew in
    let own = sym e.own.1 ∙ e.own.0 ∙ k.free.0.2 in
    subst (λ l. Gained k.worker.thread (seen_of k.seat) l) (sym c.leave.ensures.seen)
    (subst (λ t. Gained t (seen_of k.seat) c.step-pause.new.world.1) h.1.number
    (gained-entered (number_of k.seat) (seen_of k.seat) c.enter-turn.result.world.1 c.step-pause.new.world.1 e.begins.0 own
    (subst (λ t. Grew t c.enter-turn.result.world.1 c.step-pause.new.world.1) (sym h.1.number) grew)))

pub returns-clause-kept : goal.returns-clause-kept
returns-clause-kept g c =
    let k = c.args.self.now in let e = c.enter-turn.ensures in let l = c.leave.ensures in let o : Opening = (started c.args.cell.now).0 in
    let w = c.enter-turn.result.world in let v = c.step-pause.new.world in let code = c.args.code.now in let law = c.keeps.ensures in
    let s = c.step-pause.ensures in let r = c.in_ok-reserve.ensures in
    let is = same-but k.worker c.reserve.new.self c.step_alone.new.self (c.step_alone.ensures.none c.if-step_alone.false) r.is r.items in
    ok-map c.step-pause.result (λ _. Keeps w c.step_alone.new.self v c.step-pause.new.self) _ (λ x keeps f h.
    let opens : w.0 ≡ o = e.opening o h.opened in
    let was : IsKept w.0 code f w.1 c.step_alone.new.self =
    kept-turn o w.0 code f (number_of k.seat) (seen_of k.seat) w.1 k.worker c.step_alone.new.self is.0 is.1 e.begins.0
    (sym e.own.1 ∙ e.own.0 ∙ k.free.0.2) (sym h.number) opens h.kept in
    let now : IsKept v.0 code f v.1 c.step-pause.new.self = keeps code f was in
    let lawful : IsLawful o v.1 = lawful-of v.0 o v.1 (s.opening ∙ opens) law.opening law.legal law.formed law.below in
    record {
      cell = l.free.1.0 ∙ e.turn.1.0 ∙ h.cell;
      opened = l.free.1.2 ∙ e.turn.1.2 ∙ h.opened;
      number = l.free.1.1 ∙ e.turn.1.1 ∙ h.number ∙ sym (s.same.thread ∙ ap (λ z. z.thread) is.0);
      lawful = subst (IsLawful o) (sym l.seen) lawful;
      kept = subst (λ q. IsKept o code f q c.step-pause.new.self) (sym l.seen)
          (subst (λ z. IsKept z code f v.1 c.step-pause.new.self) (s.opening ∙ opens) now);
    }) s.kept

pub returns-clause-adds : goal.returns-clause-adds
returns-clause-adds g c =
    let r = c.in_ok-reserve.ensures in let k = c.args.self.now.worker in let v = c.step_alone.new.self in
    let is = same-but k c.reserve.new.self v (c.step_alone.ensures.none c.if-step_alone.false) r.is r.items in
    ok-map c.step-pause.result (λ p. Adds p v.wish v.items.items c.step-pause.new.self.items.items) _
    (λ p. adds-room p k v c.step-pause.new.self.items.items is.0 is.1) c.step-pause.ensures.adds

pub returns-clause-leaves : goal.returns-clause-leaves
returns-clause-leaves g c =
    let r = c.in_ok-reserve.ensures in let k = c.args.self.now.worker in let v = c.step_alone.new.self in
    let is = same-but k c.reserve.new.self v (c.step_alone.ensures.none c.if-step_alone.false) r.is r.items in
    ok-map c.step-pause.result (λ p. Leaves p v.wish c.step-pause.new.self.wish) _
    (λ p. leaves-room p k v c.step-pause.new.self.wish is.0) c.step-pause.ensures.leaves

pub returns-clause-lacks : goal.returns-clause-lacks
returns-clause-lacks g c =
    let r = c.in_ok-reserve.ensures in let k = c.args.self.now.worker in let v = c.step_alone.new.self in
    let is = same-but k c.reserve.new.self v (c.step_alone.ensures.none c.if-step_alone.false) r.is r.items in
    err-map c.step-pause.result _ _ (λ q. q ∙ is.1) c.step-pause.ensures.lacks

pub returns-clause-order : goal.returns-clause-order
returns-clause-order g c =
    let k = c.args.self.now in let h = c.requires.kept in let e = c.enter-turn.ensures in let l = c.leave.ensures in
    let o : Opening = (started c.args.cell.now).0 in let code = c.args.code.now in let law = c.keeps.ensures in
    let w = c.enter-turn.result.world in let x = c.step-pause.new.world in let v = c.step_alone.new.self in
    let m = c.step-pause.new.self in let s = c.step-pause.ensures in let r = c.in_ok-reserve.ensures in
    let is = same-but k.worker c.reserve.new.self v (c.step_alone.ensures.none c.if-step_alone.false) r.is r.items in
    let opens : w.0 ≡ o = e.opening o h.1.opened in
    let was : IsKept w.0 code h.0 w.1 v =
    kept-turn o w.0 code h.0 (number_of k.seat) (seen_of k.seat) w.1 k.worker v is.0 is.1 e.begins.0
    (sym e.own.1 ∙ e.own.0 ∙ k.free.0.2) (sym h.1.number) opens h.1.kept in
    let number : number_of c.leave.new.seat ≡ m.thread =
    l.free.1.1 ∙ e.turn.1.1 ∙ h.1.number ∙ sym (s.same.thread ∙ ap (λ z. z.thread) is.0) in
    let front : IsPrefix (entries_of m.thread x.1) (drain m.thread m.items.items) =
    either-way c.step-pause.result (IsPrefix (entries_of m.thread x.1) (drain m.thread m.items.items))
    (ok-map c.step-pause.result (λ _. Keeps w v x m) _ (λ _ keeps. kept-out x.0 code h.0 x.1 m (keeps code h.0 was)) s.kept)
    (err-map c.step-pause.result _ _ (λ q. front-moved v.thread m.thread v.items.items m.items.items x.1
    (sym s.same.thread) (sym q.0) (kept-front w.0 code h.0 w.1 x.1 v (ap (λ z. z.«end») is.0 ∙ c.requires.ready.0) was q.1))
    (err-both c.step-pause.result _ _ s.lacks s.front)) in
    record {
      free = l.free.0;
      number = number;
      front = subst (λ es. IsPrefix es (drain m.thread m.items.items))
          (sym (l.free.0.0.2 ∙ ap (λ n. entries_of n (seen_of c.leave.new.seat)) number ∙ ap (entries_of m.thread) l.seen))
          front;
      lawful = subst (IsLawful o) (sym l.seen)
          (lawful-of x.0 o x.1 (s.opening ∙ opens) law.opening law.legal law.formed law.below);
    }
