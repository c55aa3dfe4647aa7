-- A part of a run: what it began with, and what a turn adds to it.
use Rattle.std.proofs.Common.{◌≡◌, ℕ, ◌≤◌, ◌==◌, List, [], ◌∷◌, ◌++◌, length, take, drop, sym, ap, subst, ◌∙◌, arith, append-nil, append_assoc}
use Rattle.std.proofs.lemmas.List.{append_cancel_left, drop-append-le, length-take, take-append-drop, take-append-le}
use Rattle.std.proofs.lemmas.List.Elements.{filter-append}
use Rattle.std.proofs.Math.Seq.{drop-append_seam}
use mathlib.Core.List.{IsPrefix}
use Rattle.turn_cell.specs.layer.Members.{Every}
use Rattle.upc_values.specs.Openings.{Opening}
use Rattle.stack_code.specs.layer.Codes.{Codes}
use Rattle.replica_space.specs.declared.event.Event.{Event}
use Rattle.upc_task.specs.layer.Sources.{Outcomes}
use Rattle.replica_space_tasks.specs.declared.worker.ReplicaWorker.{ReplicaWorker}
use Rattle.replica_space_tasks.specs.layer.Kept.{IsKept, AllOf, events_of}
use Rattle.replica_space_tasks.proofs.Keeping.{kept-seen}
use Rattle.replica_space_parts.specs.declared.part.Part.{Part}
use Rattle.replica_space_parts.specs.layer.Parts.{begun_of, added_in}

abbrev part_with : Opening → List Event → ℕ → Part
part_with o es n = record { run = (o, es); before = n }

-- It has at least the events that it began with.
pub begun-within : (x p : Part) → begun_of p ≡ x → length x.run.1 ≡ x.before → p.before ≤ length p.run.1
begun-within x p is whole =
    let number : p.before ≡ x.before = ap (λ (q : Part). q.before) is in
    let events : take p.before p.run.1 ≡ x.run.1 = ap (λ (q : Part). q.run.1) is in
    let many : length (take p.before p.run.1) ≡ p.before = ap length events ∙ whole ∙ sym number in
    let least = length-take p.before p.run.1 in omega (arith, many, least)

-- Its events are those that it began with and those that were added.
pub begun-events : (x p : Part) → begun_of p ≡ x → p.run.1 ≡ x.run.1 ++ added_in p
begun-events x p is =
    sym (take-append-drop p.before p.run.1) ∙ ap (λ l. l ++ added_in p) (ap (λ (q : Part). q.run.1) is)

module _ (p : Part) (v : Opening × List Event) (more : List Event) (within : p.before ≤ length p.run.1)
    (is : v.1 ≡ p.run.1 ++ more) where
  -- With further events it began with the same.
  pub begun-grown : v.0 ≡ p.run.0 → begun_of (record { run = v; before = p.before }) ≡ begun_of p
  begun-grown opens =
      ap (λ o. part_with o (take p.before v.1) p.before) opens
      ∙ ap (λ l. part_with p.run.0 l p.before) (ap (take p.before) is ∙ take-append-le p.before p.run.1 more within)

  -- These were added.
  pub added-grown : added_in (record { run = v; before = p.before }) ≡ added_in p ++ more
  added-grown = ap (drop p.before) is ∙ drop-append-le p.before p.run.1 more within

-- ---- what a turn adds

-- It stands after what the seat had seen.
pub added-behind : (seen now more : List Event) → now ≡ seen ++ more → now ≡ seen ++ drop (length seen) now
added-behind seen now more is =
    is ∙ ap (λ l. seen ++ l) (sym (drop-append_seam seen more) ∙ ap (drop (length seen)) (sym is))

all-every : (t : ℕ) (es : List Event) → AllOf t es → Every (λ (e : Event). e.by ≡ t) es
all-every t [] h = tt
all-every t (e ∷ es) h = (h.0, all-every t es h.1)

-- It is the seat's own.
pub added-own : (t : ℕ) (seen now more : List Event) → now ≡ seen ++ more → AllOf t more
    → Every (λ (e : Event). e.by ≡ t) (drop (length seen) now)
added-own t seen now more is own =
    subst (Every (λ (e : Event). e.by ≡ t)) (sym (ap (drop (length seen)) is ∙ drop-append_seam seen more)) (all-every t more own)

-- ---- what a seat has not seen

pub of-append : (t : ℕ) (xs ys : List Event) → events_of t (xs ++ ys) ≡ events_of t xs ++ events_of t ys
of-append t xs ys = filter-append (λ e. e.by == t) xs ys

-- It has no event of its own.
pub none-behind : (t : ℕ) (seen more : List Event) → events_of t (seen ++ more) ≡ events_of t seen → events_of t more ≡ []
none-behind t seen more h =
    append_cancel_left (events_of t seen) (events_of t more) []
    (sym (of-append t seen more) ∙ h ∙ sym (append-nil (events_of t seen)))

-- So a worker that was kept over what its seat had seen is kept over all that was added.
pub kept-entered : (o : Opening) (p : Codes) (f : Outcomes) (t : ℕ) (before seen all : List Event) (k : ReplicaWorker)
    → IsPrefix seen all → events_of t all ≡ events_of t seen → k.recorder.thread ≡ t → IsKept o p f (before ++ seen) k
    → IsKept o p f (before ++ all) k
kept-entered o p f t before seen all k b own thread h =
    let none : events_of k.recorder.thread b.0 ≡ [] =
    subst (λ j. events_of j b.0 ≡ []) (sym thread) (none-behind t seen b.0 (ap (events_of t) b.1 ∙ own)) in
    subst (λ l. IsKept o p f l k) (append_assoc before seen b.0 ∙ ap (λ l. before ++ l) b.1)
    (kept-seen o p f (before ++ seen) b.0 k none h)
