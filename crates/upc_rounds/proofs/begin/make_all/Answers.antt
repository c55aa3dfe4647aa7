use Rattle.std.proofs.Common.{ℕ, ◌≡◌, ◌+◌, ◌++◌, [], ◌∷◌, List, length, None, is_some, false, sym, ap, subst, ◌∙◌, arith, append_assoc, length-append}
use Rattle.std.specs.Vec.Iter.{into_iter_items}
use Rattle.std.proofs.lemmas.Grind.{common_steps}
use Rattle.std.proofs.lemmas.Bool.{false≢true}
use Rattle.upc_values.specs.Lists.{Numbered}
use Rattle.upc_values.specs.Openings.{Opening}
use Rattle.turn_cell.specs.layer.Seats.{TableId, AreNew, IsNew, cell_of, seen_of}
use Rattle.upc_task.specs.layer.Kept.{Worker}
use Rattle.upc_task.specs.layer.Seated.{IsTask}
use Rattle.upc_task.proofs.Lists.{numbered-push}
use Rattle.upc_task.proofs.Options.{none-some}
use Rattle.upc_rounds_teams.specs.declared.place.Place.{Place}
use Rattle.upc_rounds_teams.specs.layer.Course.{Standing}
use Rattle.upc_rounds_teams.specs.layer.Runs.{standing_of}
use Rattle.upc_rounds_teams.specs.layer.Teams.{IsMember}
use Rattle.upc_rounds.proofs.Beginnings.{OurSeat, new-at, new-free, new-number, new-seen, new-opening, seen-none}
use Rattle.upc_rounds_teams.proofs.Crews.{numbered-workers}
use Rattle.upc_rounds.proofs.begin.make_all.Goals as goal

-- The seat at hand is new.
split : (z : TableId) (o : Opening) (n : ℕ) (all xs rest : List OurSeat) (s : OurSeat) (its : List OurSeat) → xs ++ its ≡ all → its ≡ s ∷ rest → n ≡ length xs → AreNew z o 0 all → IsNew z o n s
split z o n all xs rest s its is steps many new =
    let e : 0 + length xs ≡ n = omega (arith, many) in
    subst (λ k. IsNew z o k s) e (new-at z o 0 xs s rest (subst (AreNew z o 0) (sym is ∙ ap (λ l. xs ++ l) steps) new))

fresh-is : (k : Worker) → k.items.items ≡ [] → k.«end» ≡ None → standing_of k ≡ record { items = []; «end» = None }
fresh-is k e q = ap (λ z. let s : Standing = record { items = z; «end» = k.«end» } in s) e ∙ ap (λ z. let s : Standing = record { items = []; «end» = z } in s) q

pub make-requires-clause-free : goal.make-requires-clause-free
make-requires-clause-free c =
    let t = c.requires.seats in let inv = c.loop-seat.invariant in
    new-free t.0 t.1 c.loop-seat.number c.in-Some.seat (split t.0 t.1 c.loop-seat.number c.args.seats.items c.loop-seat.yielded (into_iter_items c.next.new.self) c.in-Some.seat (into_iter_items c.loop-seat.seat-iterator) inv.all c.in-Some.ensures.steps.0 inv.number t.2)

pub make-requires-clause-seat : goal.make-requires-clause-seat
make-requires-clause-seat c =
    let t = c.requires.seats in let inv = c.loop-seat.invariant in
    let new = split t.0 t.1 c.loop-seat.number c.args.seats.items c.loop-seat.yielded (into_iter_items c.next.new.self) c.in-Some.seat (into_iter_items c.loop-seat.seat-iterator) inv.all c.in-Some.ensures.steps.0 inv.number t.2 in
    (new-number t.0 t.1 c.loop-seat.number c.in-Some.seat new, new-seen t.0 t.1 c.loop-seat.number c.in-Some.seat new)

pub loop-seat-preserved : goal.loop-seat-preserved
loop-seat-preserved c =
    let inv = c.loop-seat.invariant in let xs = c.loop-seat.yielded in let s = c.in-Some.seat in let rest : List OurSeat = into_iter_items c.next.new.self in
    let steps : into_iter_items c.loop-seat.seat-iterator ≡ s ∷ rest = c.in-Some.ensures.steps.0 in
    let ps = c.loop-seat.places.items in let k = c.in_ok-task.task in let p : Place = record { task = k; failed = false } in let e = c.in_ok-task.ensures in
    let is : c.push.new.self.items ≡ ps ++ p ∷ [] = c.in_ok-push.ensures.items in
    let n : c.loop-seat.number ≡ length ps = inv.number ∙ sym inv.count in
    record {
      all = append_assoc xs (s ∷ []) rest ∙ ap (λ l. xs ++ l) (sym steps) ∙ inv.all;
      count = ap length is ∙ length-append ps (p ∷ []) ∙ ap (λ m. m + 1) inv.count ∙ sym (length-append xs (s ∷ []));
      number = ap (λ m. m + 1) inv.number ∙ sym (length-append xs (s ∷ []));
      limits = subst (Numbered (λ i (q : Place). q.task.worker.limits ≡ c.args.limits)) (sym is) (numbered-push (λ i (q : Place). q.task.worker.limits ≡ c.args.limits) ps p inv.limits e.new.1);
      fresh = subst (Numbered (λ i (q : Place). standing_of q.task.worker ≡ record { items = []; «end» = None })) (sym is)
          (numbered-push (λ i (q : Place). standing_of q.task.worker ≡ record { items = []; «end» = None }) ps p inv.fresh (fresh-is k.worker e.fresh.0 e.new.2));
      members = λ z o f new opening has.
          let here = split z o c.loop-seat.number c.args.seats.items xs rest s (into_iter_items c.loop-seat.seat-iterator) inv.all steps inv.number new in
          let kept : IsTask (cell_of s) o c.args.code.now f k = e.kept o f (new-opening z o c.loop-seat.number s here) opening has in
          let member : IsMember z o c.args.code.now f [] (length ps) p = record {
            kept = subst (λ y. IsTask y o c.args.code.now f k) here.0 kept;
            thread = e.new.0 ∙ n;
            seen_is = ap seen_of e.new.3 ∙ new-seen z o c.loop-seat.number s here;
            own = λ y q. absurd (none-some k.worker.«end» y e.new.2 q);
            idle = λ q w. absurd (false≢true (ap is_some (sym e.fresh.1) ∙ w));
          } in
          subst (Numbered (IsMember z o c.args.code.now f [])) (sym is) (numbered-push (IsMember z o c.args.code.now f []) ps p (inv.members z o f new opening has) member);
    }

pub returns-clause-crew : goal.returns-clause-crew
returns-clause-crew c = λ z o f new opening has.
    let inv = c.loop-seat.invariant in let ks = c.loop-seat.places.items in
    let st = c.in-None.ensures.steps in
    let all : c.loop-seat.yielded ≡ c.args.seats.items = grind (arith, common_steps, inv.all, st.0) in
    let many : length ks ≡ c.args.limits.threads = inv.count ∙ ap length all ∙ c.requires.many in
    let members = inv.members z o f new opening has in
    let none = seen-none z o c.args.code.now f ks members in
    (record { many = many ∙ sym has.threads; members = subst (λ l. Numbered (IsMember z o c.args.code.now f l) ks) (sym none) members }, none)

pub returns-clause-limits : goal.returns-clause-limits
returns-clause-limits c = numbered-workers (λ i k. k.limits ≡ c.args.limits) c.loop-seat.places.items c.loop-seat.invariant.limits

pub returns-clause-fresh : goal.returns-clause-fresh
returns-clause-fresh c = numbered-workers (λ i k. standing_of k ≡ record { items = []; «end» = None }) c.loop-seat.places.items c.loop-seat.invariant.fresh
