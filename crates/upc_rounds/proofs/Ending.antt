-- A run that is over: ends were given where tasks had none.
use Rattle.std.proofs.Common.{◌≡◌, ℕ, ◌<◌, true, List, length, Option, Some, None, is_some, refl, sym, ap, subst, ◌∙◌, get_or}
use Rattle.std.proofs.lemmas.Bool.{false≢true}
use Rattle.turn_cell.specs.layer.Seats.{TableId, cell_of, number_of, seen_of}
use Rattle.upc_values.specs.declared.action.Action.{Action}
use Rattle.upc_values.specs.declared.record.End.{End}
use Rattle.upc_values.specs.declared.record.End.TheVariants.{Halted, Deadlocked}
use Rattle.upc_values.specs.declared.journal.Entry.{Entry}
use Rattle.upc_values.specs.Lists.{Numbered}
use Rattle.upc_values.specs.Openings.{Opening}
use Rattle.stack_code.specs.layer.Codes.{Codes}
use Rattle.stack_machine.specs.declared.wish.Wish.TheVariants.{Act}
use Rattle.upc_task.specs.layer.Kept.{Worker}
use Rattle.upc_task.specs.layer.Sources.{Outcomes}
use Rattle.upc_rounds_teams.specs.declared.place.Place.{Place}
use Rattle.upc_rounds_teams.specs.layer.Runs.{IsOver, AreEach, AreSame, Rested, StopsAt, NoneStops, Wanting, halted, halted_end, locked, locked_end}
use Rattle.upc_rounds_teams.specs.layer.Played.{GoneByRounds, IsEnded}
use Rattle.upc_rounds_teams.specs.layer.Teams.{seen_among, workers_of, SameSeats, IsSeated, IsCrew, IsDone, HasEnded}
use Rattle.upc_rounds.proofs.Running.{over-halted, over-locked, over-ended}
use Rattle.upc_rounds_teams.proofs.Crews.{some-place, among-at, crew-running}

-- ---- seats

pub seats-self : (ks : List Place) → SameSeats ks ks
seats-self ks = record { many = refl; each = λ i d lt. refl }

pub among-same : (ks ms : List Place) → 0 < length ks → SameSeats ks ms → seen_among ms ≡ seen_among ks
among-same ks ms some s =
    let d = some-place ks 0 some in
    among-at ms d (subst (λ n. 0 < n) (sym s.many) some) ∙ ap seen_of (s.each 0 d some) ∙ sym (among-at ks d some)

seated-same : (z : TableId) (o : Opening) (c : Codes) (f : Outcomes) (ks ms : List Place) → 0 < length ks → SameSeats ks ms → IsCrew z o c f ks
    → Numbered (IsSeated z (seen_among ms)) ms
seated-same z o c f ks ms some s t = λ i d lt.
    let l : i < length ks = subst (λ n. i < n) s.many lt in let h = t.members i d l in let e = s.each i d l in
    record {
      cell = ap cell_of e ∙ h.kept.cell;
      number = ap number_of e ∙ h.kept.number ∙ h.thread;
      seen_is = ap seen_of e ∙ h.seen_is ∙ sym (among-same ks ms some s);
    }

-- ---- ends

pub ended-self : (k : Worker) → is_some k.«end» ≡ true → IsEnded k k
ended-self k h = record {
  thread = refl;
  limits = refl;
  items = refl;
  own = λ e q. q;
  given = λ q. absurd (false≢true (sym (ap is_some q) ∙ h));
}

pub ended-halted : (k : Worker) → IsEnded k (halted k)
ended-halted k = record {
  thread = refl;
  limits = refl;
  items = refl;
  own = λ e q. ap halted_end q;
  given = λ q. (Halted, ap halted_end q, refl);
}

locked-some : (k : Worker) (e : End) → k.«end» ≡ Some e → (locked k).«end» ≡ Some e
locked-some k e q = ap (locked_end k.wish) q ∙ go k.wish
  where
    go : (w : Option _) → locked_end w (Some e) ≡ Some e
    go None = refl
    go (Some w) = refl

pub ended-locked : (k : Worker) → (k.«end» ≡ None → (a : Action) × (k.wish ≡ Some (Act a))) → IsEnded k (locked k)
ended-locked k h = record {
  thread = refl;
  limits = refl;
  items = refl;
  own = λ e q. locked-some k e q;
  given = λ q. let a = h q in (Deadlocked a.0, ap (locked_end k.wish) q ∙ ap (λ w. locked_end w None) a.1, refl);
}

-- ---- a run that is over

module _ (z : TableId) (o : Opening) (c : Codes) (f : Outcomes) (ks ms : List Place) (some : 0 < length ks) (s : SameSeats ks ms) (t : IsCrew z o c f ks) where
  at-end : IsOver o c f (seen_among ks) (workers_of ms) → IsDone z o c f ms
  at-end over = record {
    seats = seated-same z o c f ks ms some s t;
    over = subst (λ l. IsOver o c f l (workers_of ms)) (sym (among-same ks ms some s)) over;
  }

  pub done-halted : (u : ℕ) → Numbered (λ i k. Rested k) (workers_of ks) → StopsAt (workers_of ks) u → AreEach halted (workers_of ks) (workers_of ms) → IsDone z o c f ms
  done-halted u rested stop e =
      at-end (over-halted o c f (seen_among ks) (workers_of ks) (workers_of ms) u (crew-running z o c f ks t) rested stop.0 stop.1 e)

  pub done-locked : Numbered (λ i k. k.«end» ≡ None → Wanting o (seen_among ks) k) (workers_of ks) → NoneStops (workers_of ks) → AreEach locked (workers_of ks) (workers_of ms) → IsDone z o c f ms
  done-locked want quiet e =
      at-end (over-locked o c f (seen_among ks) (workers_of ks) (workers_of ms) (crew-running z o c f ks t) want quiet e)

  -- A history that had gone by rounds has ended.
  pub ended-gone : length (workers_of ms) ≡ length (workers_of ks)
      → ((i : ℕ) (d : Worker) → i < length (workers_of ks) → IsEnded (get_or (workers_of ks) i d) (get_or (workers_of ms) i d))
      → GoneByRounds o f (seen_among ks) (workers_of ks) → HasEnded o f ms
  ended-gone many ends g = record {
    last = workers_of ks;
    gone = subst (λ l. GoneByRounds o f l (workers_of ks)) (sym (among-same ks ms some s)) g;
    many = many;
    ends = ends;
  }

pub done-ended : (z : TableId) (o : Opening) (c : Codes) (f : Outcomes) (ks : List Place) → 0 < length ks → IsCrew z o c f ks
    → Numbered (λ i k. is_some k.«end» ≡ true) (workers_of ks) → IsDone z o c f ks
done-ended z o c f ks some t ended = record {
  seats = seated-same z o c f ks ks some (seats-self ks) t;
  over = over-ended o c f (seen_among ks) (workers_of ks) (crew-running z o c f ks t) ended;
}

same-ended : (ks ms : List Worker) → length ms ≡ length ks → ((i : ℕ) (d : Worker) → i < length ks → IsEnded (get_or ks i d) (get_or ms i d)) → AreSame ks ms
same-ended ks ms many h = record { many = many; each = λ i d lt. record { thread = (h i d lt).thread; limits = (h i d lt).limits } }

pub ends-halted : (ks ms : List Worker) → AreEach halted ks ms → (i : ℕ) (d : Worker) → i < length ks → IsEnded (get_or ks i d) (get_or ms i d)
ends-halted ks ms e i d lt = subst (IsEnded (get_or ks i d)) (sym (e.each i d lt)) (ended-halted (get_or ks i d))

pub ends-locked : (o : Opening) (seen : List Entry) (ks ms : List Worker) → Numbered (λ i k. k.«end» ≡ None → Wanting o seen k) ks → AreEach locked ks ms
    → (i : ℕ) (d : Worker) → i < length ks → IsEnded (get_or ks i d) (get_or ms i d)
ends-locked o seen ks ms want e i d lt =
    subst (IsEnded (get_or ks i d)) (sym (e.each i d lt)) (ended-locked (get_or ks i d) (λ q. let v = want i d lt q in (v.action, v.wish_is)))

pub same-halted : (ks ms : List Worker) → AreEach halted ks ms → AreSame ks ms
same-halted ks ms e = same-ended ks ms e.many (ends-halted ks ms e)

pub same-locked : (o : Opening) (seen : List Entry) (ks ms : List Worker) → Numbered (λ i k. k.«end» ≡ None → Wanting o seen k) ks → AreEach locked ks ms → AreSame ks ms
same-locked o seen ks ms want e = same-ended ks ms e.many (ends-locked o seen ks ms want e)
