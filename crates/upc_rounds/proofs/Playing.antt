-- What the steps of one thread make of its part in a round.
use Rattle.std.proofs.Common.{◌≡◌, ℕ, true, false, List, [], ◌∷◌, ◌++◌, Option, Some, is_some, refl, sym, ap, subst, ◌∙◌, append-nil, append_assoc, inl, inr}
use Rattle.upc_values.specs.declared.action.Action.{Action}
use Rattle.upc_values.specs.declared.action.Reply.{Reply}
use Rattle.upc_values.specs.declared.record.Item.{Item}
use Rattle.upc_values.specs.declared.record.Item.TheVariants.{Did}
use Rattle.upc_values.specs.declared.journal.Entry.{Entry}
use Rattle.upc_values.specs.Openings.{Opening}
use Rattle.upc_values.specs.Drain.{entries_of}
use Rattle.upc_values.specs.Records.{last_item, is_stall, is_beat}
use Rattle.upc_values.proofs.Records.{last-push}
use Rattle.upc_values.proofs.Walks.{entries_of-append, entries-all}
use Rattle.stack_machine.specs.declared.wish.Wish.{Wish}
use Rattle.upc_task.specs.layer.Kept.{Worker}
use Rattle.upc_task.specs.declared.worker.Pause.{Pause}
use Rattle.upc_task.specs.declared.worker.Pause.TheVariants as pauses
use Rattle.upc_task.specs.declared.worker.Pause.TheVariants.{Going, Stalled, Finished}
use Rattle.upc_task.specs.layer.Sources.{Outcomes}
use Rattle.upc_task.specs.layer.Kept.{AllOf, Paused, Adds}
use Rattle.upc_rounds_teams.specs.Rounds.{BeatsLast, ends_with_beat}
use Rattle.upc_rounds_teams.specs.layer.Played.{Quiet, TurnedSeen, SoFar, Acted}
use Rattle.upc_rounds_teams.proofs.Gains.{quiet-append, keeps-self, keeps-then}

pub quiet-beats : (xs : List Entry) → Quiet xs → BeatsLast xs
quiet-beats [] h = tt
quiet-beats (x ∷ []) h = tt
quiet-beats (x ∷ y ∷ ys) h = (h.0, quiet-beats (y ∷ ys) h.1)

pub quiet-ends : (xs : List Entry) → Quiet xs → ends_with_beat xs ≡ false
quiet-ends [] h = refl
quiet-ends (x ∷ []) h = h.0
quiet-ends (x ∷ y ∷ ys) h = quiet-ends (y ∷ ys) h.1

pub beats-quiet_and : (xs : List Entry) (e : Entry) → Quiet xs → BeatsLast (xs ++ e ∷ [])
beats-quiet_and [] e h = tt
beats-quiet_and (x ∷ []) e h = (h.0, tt)
beats-quiet_and (x ∷ y ∷ ys) e h = (h.0, beats-quiet_and (y ∷ ys) e h.1)

pub ends-with : (xs : List Entry) (e : Entry) → is_beat e.action ≡ true → ends_with_beat (xs ++ e ∷ []) ≡ true
ends-with [] e h = h
ends-with (x ∷ []) e h = h
ends-with (x ∷ y ∷ ys) e h = ends-with (y ∷ ys) e h

-- The pause ends a part in a round.
abbrev pub IsPause : Pause → Type 0
IsPause Going = ⊥
IsPause p = Unit {0}

own-gained : (t : ℕ) (gained others more : List Entry) → entries_of t others ≡ [] → AllOf t more → entries_of t (gained ++ (others ++ more)) ≡ entries_of t gained ++ more
own-gained t gained others more none own = entries_of-append t gained (others ++ more) ∙ ap (λ l. entries_of t gained ++ l) (entries_of-append t others more ∙ ap (λ l. l ++ entries_of t more) none ∙ entries-all t more own)

longer-is : (old seen new gained others more : List Entry) → seen ≡ old ++ gained → new ≡ (seen ++ others) ++ more → new ≡ old ++ (gained ++ (others ++ more))
longer-is old seen new gained others more a b = b ∙ append_assoc seen others more ∙ ap (λ l. l ++ (others ++ more)) a ∙ append_assoc old gained (others ++ more)

pub far-start : (f : Outcomes) (t : ℕ) (seen : List Entry) (k : Worker) → SoFar f t seen seen k k
far-start f t seen k = record { gained = []; is = sym (append-nil seen); quiet = tt; keeps = keeps-self f k }

pub far-going : (o : Opening) (f : Outcomes) (t : ℕ) (old seen new : List Entry) (k m n : Worker) → SoFar f t old seen k m → TurnedSeen o f Going t seen new m n → SoFar f t old new k n
far-going o f t old seen new k m n s d = record {
  gained = s.gained ++ (d.others ++ d.turned.more);
  is = longer-is old seen new s.gained d.others d.turned.more s.is d.turned.is;
  quiet = subst Quiet (sym (own-gained t s.gained d.others d.turned.more d.none d.turned.all_own)) (quiet-append (entries_of t s.gained) d.turned.more s.quiet d.turned.quiet);
  keeps = keeps-then f k m n s.keeps d.turned.keeps;
}

beat-no_stall : (a : Action) (r : Reply) → is_stall (Some (Did a r)) ≡ false
beat-no_stall a r = refl

-- The last step of a thread's part.
pub far-acted : (o : Opening) (f : Outcomes) (t : ℕ) (old seen new : List Entry) (k m n : Worker) (p : Pause) → SoFar f t old seen k m → TurnedSeen o f p t seen new m n → Paused p n
    → (wish : Option Wish) (xs : List Item) → Adds p wish xs n.items.items → IsPause p → Acted o f t old new k n
far-acted o f t old seen new k m n Going s d q wish xs a y = absurd y
far-acted o f t old seen new k m n pauses.Beat s d q wish xs a y =
    let z = d.turned.quiet in let g = own-gained t s.gained d.others d.turned.more d.none d.turned.all_own in
    let is : entries_of t (s.gained ++ (d.others ++ d.turned.more)) ≡ (entries_of t s.gained ++ z.0) ++ z.1 ∷ [] = g ∙ ap (λ l. entries_of t s.gained ++ l) z.2 ∙ sym (append_assoc (entries_of t s.gained) z.0 (z.1 ∷ [])) in
    record {
      gained = s.gained ++ (d.others ++ d.turned.more);
      is = longer-is old seen new s.gained d.others d.turned.more s.is d.turned.is;
      beats = subst BeatsLast (sym is) (beats-quiet_and (entries_of t s.gained ++ z.0) z.1 (quiet-append (entries_of t s.gained) z.0 s.quiet z.3));
      keeps = keeps-then f k m n s.keeps d.turned.keeps;
      rests = inl (
        ap ends_with_beat is ∙ ends-with (entries_of t s.gained ++ z.0) z.1 z.4,
        ap (λ l. is_stall (last_item l)) a.4 ∙ ap is_stall (last-push xs (Did a.0 a.1)),
      );
    }
far-acted o f t old seen new k m n Stalled s d q wish xs a y =
    let g = own-gained t s.gained d.others d.turned.more d.none d.turned.all_own in
    let quiet : Quiet (entries_of t s.gained ++ d.turned.more) = quiet-append (entries_of t s.gained) d.turned.more s.quiet d.turned.quiet in
    record {
      gained = s.gained ++ (d.others ++ d.turned.more);
      is = longer-is old seen new s.gained d.others d.turned.more s.is d.turned.is;
      beats = subst BeatsLast (sym g) (quiet-beats (entries_of t s.gained ++ d.turned.more) quiet);
      keeps = keeps-then f k m n s.keeps d.turned.keeps;
      rests = inr (inr (q.0, ap ends_with_beat g ∙ quiet-ends (entries_of t s.gained ++ d.turned.more) quiet, d.turned.waits));
    }
far-acted o f t old seen new k m n Finished s d q wish xs a y =
    let g = own-gained t s.gained d.others d.turned.more d.none d.turned.all_own in
    record {
      gained = s.gained ++ (d.others ++ d.turned.more);
      is = longer-is old seen new s.gained d.others d.turned.more s.is d.turned.is;
      beats = subst BeatsLast (sym g) (quiet-beats (entries_of t s.gained ++ d.turned.more) (quiet-append (entries_of t s.gained) d.turned.more s.quiet d.turned.quiet));
      keeps = keeps-then f k m n s.keeps d.turned.keeps;
      rests = inr (inl (ap is_some q.1));
    }
