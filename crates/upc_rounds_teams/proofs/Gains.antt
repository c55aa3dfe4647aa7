-- What a step adds to the history, and that each Stall of a record stays one.
use Rattle.std.proofs.Common.{◌≡◌, ℕ, nat_lt, Bool, true, false, List, [], ◌∷◌, ◌++◌, map, length, Option, Some, None, refl, sym, ap, subst, ◌∙◌, append-nil, append_assoc, inl, inr}
use Rattle.std.proofs.lemmas.Bool.{cond_both}
use Rattle.std.proofs.lemmas.List.{append_cancel_left, map-append}
use Rattle.block_layout.specs.declared.place.Loc.{Loc}
use Rattle.upc_values.specs.declared.scalar.Scalar.{Scalar}
use Rattle.upc_values.specs.declared.action.Action.{Action}
use Rattle.upc_values.specs.declared.action.Action.TheVariants.{Read, Write, Print, Beat}
use Rattle.upc_values.specs.declared.action.Reply.{Reply}
use Rattle.upc_values.specs.declared.record.Item.{Item}
use Rattle.upc_values.specs.declared.record.Item.TheVariants.{Did, Stall}
use Rattle.upc_values.specs.declared.journal.Entry.{Entry}
use Rattle.upc_values.specs.Openings.{Opening}
use Rattle.upc_values.specs.Drain.{Commit, commit_of, entries_in, Walk, emptied, oldest_out, with_room, passed, put_pending, looked_up, stepped, walked, pending_value, entry_of, entries_of}
use Rattle.upc_values.specs.Outcomes.{wanted}
use Rattle.upc_values.specs.Records.{replies_of, is_beat, is_beat_item}
use Rattle.upc_values.specs.Strands.{next_action}
use Rattle.upc_values.proofs.Walks.{walked-push, entries_of-append, entries-all}
use Rattle.upc_values.proofs.Records.{next-did, next-stall, replies-stall}
use Rattle.stack_machine.specs.declared.wish.Wish.TheVariants.{Act}
use Rattle.stack_code.specs.layer.Codes.{Codes}
use Rattle.write_buffer.specs.declared.pending.Pending.{Pending}
use Rattle.write_buffer.specs.layer.Buffer.{committed}
use Rattle.upc_task.specs.layer.Kept.{Worker}
use Rattle.upc_task.specs.declared.worker.Pause.{Pause}
use Rattle.upc_task.specs.declared.worker.Pause.TheVariants as pauses
use Rattle.upc_task.specs.declared.worker.Pause.TheVariants.{Going, Stalled, Finished}
use Rattle.upc_task.specs.layer.Sources.{Outcomes}
use Rattle.upc_task.specs.layer.Kept.{AllOf, Grew, Holds, settled, IsKept, IsSame, Paused, Adds, Waits}
use Rattle.upc_rounds_teams.specs.layer.Played.{want_of, Quiet, QuietBut, KeepsStalls, Turned}

pub quiet-append : (xs ys : List Entry) → Quiet xs → Quiet ys → Quiet (xs ++ ys)
quiet-append [] ys h k = k
quiet-append (x ∷ xs) ys h k = (h.0, quiet-append xs ys h.1 k)

-- Pending writes are no Beats.
pending-quiet : (t : ℕ) (ps : List Pending) → Quiet (map (committed t) ps)
pending-quiet t [] = tt
pending-quiet t (p ∷ ps) = (refl, pending-quiet t ps)

-- From the one walk to the other these entries are emitted.
abbrev Emits : Walk → Walk → Bool → Type 0
Emits w v b = (extra : List Entry) × (entries_in v.emitted ≡ entries_in w.emitted ++ extra) × QuietBut b extra

emits-none : (w v : Walk) → v.emitted ≡ w.emitted → Emits w v false
emits-none w v h = ([], ap entries_in h ∙ sym (append-nil (entries_in w.emitted)), tt)

both-in : (cs ds : List Commit) → entries_in (cs ++ ds) ≡ entries_in cs ++ entries_in ds
both-in cs ds = map-append (λ c. c.entry) cs ds

emits-emptied : (w : Walk) → Quiet (entries_in w.pending) → Emits w (emptied w) false
emits-emptied w h = (entries_in w.pending, both-in w.emitted w.pending, h)

room-emits : (w : Walk) → Quiet (entries_in w.pending) → Emits w (with_room w) false
room-emits w h = cond_both (nat_lt (length w.pending) 64) w (oldest_out w.pending w) (λ v. Emits w v false)
    (λ e. emits-none w w refl)
    (λ e. let P : List Commit → Type 0 = λ ps. Quiet (entries_in ps) → Emits w (oldest_out ps w) false in
    let go : (ps : List Commit) → P ps = λ ps. elim ps as P [
      | [] ↦ λ s. emits-none w w refl
      | x ∷ xs ↦ λ s. (x.entry ∷ [], both-in w.emitted (x ∷ []), (s.0, tt))
    ] in go w.pending h)

put-emits : (l : Loc) (e : Entry) (f : Option Scalar) (w : Walk) → Quiet (entries_in w.pending) → Emits w (put_pending l e f w) false
put-emits l e None w h = room-emits w h
put-emits l e (Some v) w h = emits-none w (put_pending l e (Some v) w) refl

looked-emits : (t i : ℕ) (l : Loc) (r : Reply) (f : Option Scalar) (w : Walk) → Emits w (looked_up l (entry_of t i (Read l false) r) f w) false
looked-emits t i l r None w =
    (entry_of t i (Read l false) r ∷ [], both-in w.emitted (commit_of (entry_of t i (Read l false) r) ∷ []), (refl, tt))
looked-emits t i l r (Some v) w = emits-none w (looked_up l (entry_of t i (Read l false) r) (Some v) w) refl

passed-in : (e : Entry) (w : Walk) → entries_in (passed e (emptied w)).emitted ≡ entries_in w.emitted ++ (entries_in w.pending ++ e ∷ [])
passed-in e w =
    both-in (w.emitted ++ w.pending) (commit_of e ∷ []) ∙ ap (λ l. l ++ e ∷ []) (both-in w.emitted w.pending)
    ∙ append_assoc (entries_in w.emitted) (entries_in w.pending) (e ∷ [])

after-emptied : (t : ℕ) (w : Walk) (a : Action) (r : Reply) → Quiet (entries_in w.pending) → is_beat a ≡ false → Emits w (passed (entry_of t w.next a r) (emptied w)) false
after-emptied t w a r h b =
    let e = entry_of t w.next a r in
    (entries_in w.pending ++ e ∷ [], passed-in e w, quiet-append (entries_in w.pending) (e ∷ []) h (b, tt))

pub stepped-emits : (t : ℕ) (w : Walk) (x : Item) → Quiet (entries_in w.pending) → Emits w (stepped t w x) (is_beat_item (Some x))
stepped-emits t w Stall h = emits-emptied w h
stepped-emits t w (Did (Write false l v) r) h = put-emits l (entry_of t w.next (Write false l v) r) (pending_value l w.pending) w h
stepped-emits t w (Did (Write true l v) r) h = after-emptied t w (Write true l v) r h refl
stepped-emits t w (Did (Read l false) r) h = looked-emits t w.next l r (pending_value l w.pending) w
stepped-emits t w (Did (Read l true) r) h = after-emptied t w (Read l true) r h refl
stepped-emits t w (Did (Print x) r) h =
    (entry_of t w.next (Print x) r ∷ [], both-in w.emitted (commit_of (entry_of t w.next (Print x) r) ∷ []), (refl, tt))
stepped-emits t w (Did Beat r) h =
    let e = entry_of t w.next Beat r in
    (entries_in w.pending ++ e ∷ [], passed-in e w, (entries_in w.pending, e, refl, h, refl))
stepped-emits t w (Did a r) h = after-emptied t w a r h refl

grew-extra : (t : ℕ) (seen later more es extra : List Entry) → later ≡ seen ++ more → AllOf t more → entries_of t seen ≡ es → entries_of t later ≡ es ++ extra → more ≡ extra
grew-extra t seen later more es extra is own a b = append_cancel_left es more extra
    (sym (ap (λ l. entries_of t l) is ∙ entries_of-append t seen more ∙ ap (λ l. entries_of t seen ++ l) (entries-all t more own) ∙ ap (λ l. l ++ more) a) ∙ b)

-- ---- Stalls stay

same-want : (f : Outcomes) (k m : Worker) → m.thread ≡ k.thread → replies_of m.items.items ≡ replies_of k.items.items → want_of f m ≡ want_of f k
same-want f k m t r = ap (λ j. wanted (f j (replies_of m.items.items)).«end») t ∙ ap (λ rs. wanted (f k.thread rs).«end») r

pub keeps-self : (f : Outcomes) (k : Worker) → KeepsStalls f k k
keeps-self f k = λ ahead behind a is next. (behind, is, next)

pub keeps-then : (f : Outcomes) (k l m : Worker) → KeepsStalls f k l → KeepsStalls f l m → KeepsStalls f k m
keeps-then f k l m h g = λ ahead behind a is next. let s = h ahead behind a is next in g ahead s.0 a s.1 s.2

pub keeps-same : (f : Outcomes) (k m : Worker) → m.thread ≡ k.thread → m.items.items ≡ k.items.items → KeepsStalls f k m
keeps-same f k m same items = λ ahead behind a is next.
    (behind, items ∙ is, ap (λ w. next_action w behind) (same-want f k m same (ap replies_of items)) ∙ next)

keeps-did : (f : Outcomes) (k m : Worker) (a : Action) (r : Reply) → want_of f k ≡ Some a → m.items.items ≡ k.items.items ++ Did a r ∷ [] → KeepsStalls f k m
keeps-did f k m a r w items = λ ahead behind b is next. (
  behind ++ Did a r ∷ [],
  items ∙ ap (λ l. l ++ Did a r ∷ []) is ∙ append_assoc ahead (Stall ∷ behind) (Did a r ∷ []),
  next-did (want_of f m) behind a r ∙ ap (λ z. next_action z behind) (sym w) ∙ next,
)

keeps-stall : (f : Outcomes) (k m : Worker) → m.thread ≡ k.thread → m.items.items ≡ k.items.items ++ Stall ∷ [] → KeepsStalls f k m
keeps-stall f k m same items = λ ahead behind b is next. (
  behind ++ Stall ∷ [],
  items ∙ ap (λ l. l ++ Stall ∷ []) is ∙ append_assoc ahead (Stall ∷ behind) (Stall ∷ []),
  next-stall (want_of f m) behind
      ∙ ap (λ z. next_action z behind) (same-want f k m same (ap replies_of items ∙ replies-stall k.items.items)) ∙ next,
)

beat-item : (a : Action) (r : Reply) → is_beat_item (Some (Did a r)) ≡ is_beat a
beat-item a r = refl

-- What a step emits.
pub turned-step : (o : Opening) (c : Codes) (f : Outcomes) (p : Pause) (seen later : List Entry) (k m : Worker) → IsKept o c f seen k → k.«end» ≡ None → IsKept o c f later m → IsSame k m → Grew k.thread seen later → Paused p m
    → Adds p k.wish k.items.items m.items.items → Waits p o later m → Turned o f p k.thread seen later k m
turned-step o c f p seen later k m h opened hm same g paused adds waits =
    let t = k.thread in let w = walked t k.items.items in
    let hw : Holds o t seen k.buffer k.next w = subst (λ e. Holds o t seen k.buffer k.next (settled e w)) opened h.holds in
    let stores : Quiet (entries_in w.pending) = subst Quiet hw.inside (pending-quiet t k.buffer) in
    let hm' : entries_of t later ≡ entries_in (settled m.«end» (walked t m.items.items)).emitted =
    subst (λ j. entries_of j later ≡ entries_in (settled m.«end» (walked j m.items.items)).emitted) same.thread hm.holds.out in
    let by : (b : Bool) (v : Walk) → settled m.«end» (walked t m.items.items) ≡ v → Emits w v b → QuietBut b g.more =
    λ b v q e. subst (QuietBut b) (sym (grew-extra t seen later g.more (entries_in w.emitted) e.0 g.is g.all_own hw.out (hm' ∙ ap (λ z. entries_in z.emitted) q ∙ e.1))) e.2 in
    let P : Pause → Type 0 = λ p. Paused p m → Adds p k.wish k.items.items m.items.items → Waits p o later m → Turned o f p t seen later k m in
    let did : (a : Action) (r : Reply) → m.«end» ≡ None → m.items.items ≡ k.items.items ++ Did a r ∷ [] → settled m.«end» (walked t m.items.items) ≡ stepped t w (Did a r) =
    λ a r q is. ap (λ e. settled e (walked t m.items.items)) q ∙ ap (walked t) is ∙ walked-push t k.items.items (Did a r) in
    let wanting : (a : Action) → k.wish ≡ Some (Act a) → want_of f k ≡ Some a = λ a q. ap wanted (sym (h.recorded.goes.wished (Act a) q).1) in
    let go : (p : Pause) → P p = λ p. elim p as P [
      | Going ↦ λ q a v. record {
        more = g.more;
        is = g.is;
        all_own = g.all_own;
        quiet = by false (stepped t w (Did a.0 a.1)) (did a.0 a.1 q a.4) (subst (Emits w (stepped t w (Did a.0 a.1))) (beat-item a.0 a.1 ∙ a.2) (stepped-emits t w (Did a.0 a.1) stores));
        keeps = keeps-did f k m a.0 a.1 (wanting a.0 a.3) a.4;
        waits = v;
      }
      | pauses.Beat ↦ λ q a v. record {
        more = g.more;
        is = g.is;
        all_own = g.all_own;
        quiet = by true (stepped t w (Did a.0 a.1)) (did a.0 a.1 q.0 a.4) (subst (Emits w (stepped t w (Did a.0 a.1))) (beat-item a.0 a.1 ∙ a.2) (stepped-emits t w (Did a.0 a.1) stores));
        keeps = keeps-did f k m a.0 a.1 (wanting a.0 a.3) a.4;
        waits = v;
      }
      | Stalled ↦ λ q a v. elim a as (λ z. Turned o f Stalled t seen later k m) [
        | inl is ↦ record {
          more = g.more;
          is = g.is;
          all_own = g.all_own;
          quiet = by false w (ap (λ e. settled e (walked t m.items.items)) q.0 ∙ ap (walked t) is) (emits-none w w refl);
          keeps = keeps-same f k m same.thread is;
          waits = v;
        }
        | inr is ↦ record {
          more = g.more;
          is = g.is;
          all_own = g.all_own;
          quiet = by false (emptied w) (ap (λ e. settled e (walked t m.items.items)) q.0 ∙ ap (walked t) is ∙ walked-push t k.items.items Stall) (emits-emptied w stores);
          keeps = keeps-stall f k m same.thread is;
          waits = v;
        }
      ]
      | Finished ↦ λ q is v. record {
        more = g.more;
        is = g.is;
        all_own = g.all_own;
        quiet = by false (emptied w) (ap (λ e. settled e (walked t m.items.items)) q.1 ∙ ap (λ l. emptied (walked t l)) is) (emits-emptied w stores);
        keeps = keeps-same f k m same.thread is;
        waits = v;
      }
    ] in go p paused adds waits

pub turned-work : (o : Opening) (f : Outcomes) (p : Pause) (t : ℕ) (seen later : List Entry) (k l m : Worker) → l.thread ≡ k.thread → l.items.items ≡ k.items.items → Turned o f p t seen later l m → Turned o f p t seen later k m
turned-work o f p t seen later k l m same is d = record { more = d.more; is = d.is; all_own = d.all_own; quiet = d.quiet; keeps = keeps-then f k l m (keeps-same f k l same is) d.keeps; waits = d.waits }
