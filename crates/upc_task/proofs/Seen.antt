-- From what a seat has seen to the list under the turn.
use Rattle.std.proofs.Common.{◌≡◌, ℕ, nat_lt, List, [], ◌∷◌, ◌++◌, length, drop, map, Option, None, Some, refl, sym, ap, subst, ◌∙◌, append-nil}
use Rattle.std.specs.Prelude.{Result, Ok, Err, IfOk, OnErr}
use Rattle.std.proofs.lemmas.Bool.{cond_both}
use Rattle.std.proofs.lemmas.List.{append_cancel_left}
use mathlib.Core.List.{IsPrefix}
use Rattle.turn_cell.specs.layer.Members.{Every, longer, added_to}
use Rattle.turn_cell.specs.layer.Seats.{TableId, IsFree, number_of, own_of, seen_of}
use Rattle.upc_values.specs.declared.record.Item.{Item}
use Rattle.upc_values.specs.declared.journal.Entry.{Entry}
use Rattle.upc_values.specs.declared.record.End.{End}
use Rattle.upc_values.specs.Drain.{drain, entries_of, walked, emptied}
use Rattle.upc_values.specs.Openings.{Opening, IsOpening}
use Rattle.upc_values.specs.History.{IsLegal, EachBelow}
use Rattle.upc_values.specs.Formed.{AreWellFormed}
use Rattle.upc_values.proofs.Walks.{entries_of-append}
use Rattle.stack_code.specs.layer.Codes.{Codes}
use Rattle.write_buffer.specs.layer.Buffer.{committed}
use Rattle.stack_machine.specs.declared.wish.Wish.{Wish}
use Rattle.upc_task.specs.declared.worker.Pause.{Pause}
use Rattle.upc_task.specs.layer.Sources.{Outcomes}
use Rattle.upc_task.specs.layer.Kept.{Worker, IsKept, Holds, settled, AllOf, Grew, Adds, Leaves}
use Rattle.upc_task.specs.declared.seated.Task.{Task}
use Rattle.upc_task.specs.layer.Seated.{IsLawful, IsTask, Gained, IsInOrder}
use Rattle.upc_task.proofs.Buffers.{grew-same, front-own}
use Rattle.upc_task.proofs.Workers.{kept-seen, kept-room}

-- what a seat has not seen has no entry of its own
pub none-behind : (t : ℕ) (seen more : List Entry) → entries_of t (seen ++ more) ≡ entries_of t seen → entries_of t more ≡ []
none-behind t seen more h =
    append_cancel_left (entries_of t seen) (entries_of t more) []
    (sym (entries_of-append t seen more) ∙ h ∙ sym (append-nil (entries_of t seen)))

-- so of the list under the turn
pub unseen-none : (t : ℕ) (seen all : List Entry) (b : IsPrefix seen all) → entries_of t all ≡ entries_of t seen
    → entries_of t b.0 ≡ []
unseen-none t seen all b own = none-behind t seen b.0 (ap (entries_of t) b.1 ∙ own)

-- a worker that was kept over what its seat had seen is kept over the list under the turn
pub kept-entered : (o m : Opening) (p : Codes) (f : Outcomes) (t : ℕ) (seen all : List Entry) (k : Worker) → IsPrefix seen all
    → entries_of t all ≡ entries_of t seen → k.thread ≡ t → m ≡ o → IsKept o p f seen k → IsKept m p f all k
kept-entered o m p f t seen all k b own thread opens h =
    let none : entries_of k.thread b.0 ≡ [] =
    subst (λ j. entries_of j b.0 ≡ []) (sym thread) (unseen-none t seen all b own) in
    subst (λ z. IsKept z p f all k) (sym opens) (subst (λ l. IsKept o p f l k) b.1 (kept-seen o p f seen b.0 k none h))

-- and so once it has taken room for an item
pub kept-turn : (o m : Opening) (p : Codes) (f : Outcomes) (t : ℕ) (seen all : List Entry) (k v : Worker)
    → v ≡ record k { items = v.items } → v.items.items ≡ k.items.items → IsPrefix seen all
    → entries_of t all ≡ entries_of t seen → k.thread ≡ t → m ≡ o → IsKept o p f seen k → IsKept m p f all v
kept-turn o m p f t seen all k v is items b own thread opens h =
    kept-entered o m p f t seen all v b own (ap (λ z. z.thread) is ∙ thread) opens (kept-room o p f seen k v is items h)

-- a worker that is the same but for the room of its record
pub same-but : (k w v : Worker) → v ≡ w → w ≡ record k { items = w.items } → w.items.items ≡ k.items.items
    → (v ≡ record k { items = v.items }) × (v.items.items ≡ k.items.items)
same-but k w v same is items =
    (subst (λ z. z ≡ record k { items = z.items }) (sym same) is, ap (λ z. z.items.items) same ∙ items)

-- what such a worker adds and leaves
pub adds-room : (p : Pause) (k v : Worker) (ys : List Item) → v ≡ record k { items = v.items } → v.items.items ≡ k.items.items
    → Adds p v.wish v.items.items ys → Adds p k.wish k.items.items ys
adds-room p k v ys is items h =
    subst (λ z. Adds p z k.items.items ys) (ap (λ z. z.wish) is) (subst (λ xs. Adds p v.wish xs ys) items h)

pub leaves-room : (p : Pause) (k v : Worker) (left : Option Wish) → v ≡ record k { items = v.items } → Leaves p v.wish left
    → Leaves p k.wish left
leaves-room p k v left is h = subst (λ z. Leaves p z left) (ap (λ z. z.wish) is) h

drop-front : (xs ys : List Entry) → drop (length xs) (xs ++ ys) ≡ ys
drop-front [] ys = refl
drop-front (x ∷ xs) ys = drop-front xs ys

all-every : (t : ℕ) (es : List Entry) → AllOf t es → Every (λ (e : Entry). e.thread ≡ t) es
all-every t [] h = tt
all-every t (e ∷ es) h = (h.0, all-every t es h.1)

-- what was added in a turn is the seat's own
pub added-own : (t : ℕ) (seen before after : List Entry) → seen ≡ before → Grew t before after
    → Every (λ (e : Entry). e.thread ≡ t) (added_to seen after)
added-own t seen before after s g =
    subst (λ l. Every (λ (e : Entry). e.thread ≡ t) (drop (length l) after)) (sym s)
    (subst (λ l. Every (λ (e : Entry). e.thread ≡ t) (drop (length before) l)) (sym g.is)
    (subst (Every (λ (e : Entry). e.thread ≡ t)) (sym (drop-front before g.more)) (all-every t g.more g.all_own)))

-- and stands after what the seat had seen
pub added-behind : (t : ℕ) (seen before after : List Entry) → seen ≡ before → Grew t before after
    → after ≡ seen ++ added_to seen after
added-behind t seen before after s g =
    let is : after ≡ seen ++ g.more = g.is ∙ ap (λ l. l ++ g.more) (sym s) in
    is ∙ ap (λ l. seen ++ l) (sym (drop-front seen g.more) ∙ ap (λ l. drop (length seen) l) (sym is))

pub gained-entered : (t : ℕ) (seen all later : List Entry) (b : IsPrefix seen all) → entries_of t all ≡ entries_of t seen
    → Grew t all later → Gained t seen later
gained-entered t seen all later b own g = record {
  others = b.0;
  none = unseen-none t seen all b own;
  grew = subst (λ l. Grew t l later) (sym b.1) g;
}

pub gained-same : (t : ℕ) (seen : List Entry) → Gained t seen seen
gained-same t seen =
    record { others = []; none = refl; grew = grew-same t (seen ++ []) seen (sym (append-nil seen)) }

-- a result under weaker words
pub ok-map : {X E : Type 0} (r : Result X E) (P Q : X → Type 0) → ((x : X) → P x → Q x) → IfOk r P → IfOk r Q
ok-map (Ok x) P Q h k = h x k
ok-map (Err e) P Q h k = tt

pub err-map : {X E : Type 0} (r : Result X E) (P Q : Type 0) → (P → Q) → OnErr r P → OnErr r Q
err-map (Ok x) P Q h k = tt
err-map (Err e) P Q h k = h k

pub err-both : {X E : Type 0} (r : Result X E) (P Q : Type 0) → OnErr r P → OnErr r Q → OnErr r (P × Q)
err-both (Ok x) P Q h k = tt
err-both (Err e) P Q h k = (h, k)

pub lawful-of : (m o : Opening) (es : List Entry) → m ≡ o → IsOpening m → IsLegal m es → AreWellFormed m es
    → EachBelow m.threads es → IsLawful o es
lawful-of m o es same opening legal formed below =
    subst (λ z. IsLawful z es) same (record { opening = opening; legal = legal; formed = formed; below = below })

-- what holds of both lists holds of the longer
pub longer-holds : (P : List Entry → Type 0) (xs ys : List Entry) → P xs → P ys → P (longer xs ys)
longer-holds P xs ys h k = cond_both (nat_lt (length xs) (length ys)) ys xs P (λ e. k) (λ e. h)

-- what a worker without an end has out, after want of memory, is a front of what its record emits
pub kept-front : (o : Opening) (p : Codes) (f : Outcomes) (seen later : List Entry) (k : Worker) → k.«end» ≡ None
    → IsKept o p f seen k → IsPrefix later (seen ++ map (committed k.thread) k.buffer)
    → IsPrefix (entries_of k.thread later) (drain k.thread k.items.items)
kept-front o p f seen later k opened h b =
    let w = walked k.thread k.items.items in
    let hw : Holds o k.thread seen k.buffer k.next w =
    subst (λ e. Holds o k.thread seen k.buffer k.next (settled e w)) opened h.holds in
    front-own o k.thread k.next seen later k.buffer w hw b

-- what a worker has out is one too, and all of it where it has its end
kept-ended : (o : Opening) (p : Codes) (f : Outcomes) (seen : List Entry) (k : Worker) (e : Option End) → k.«end» ≡ e
    → IsKept o p f seen k → IsPrefix (entries_of k.thread seen) (drain k.thread k.items.items)
kept-ended o p f seen k None q h =
    kept-front o p f seen seen k q h (map (committed k.thread) k.buffer, refl)
kept-ended o p f seen k (Some e) q h =
    let w = walked k.thread k.items.items in
    let hw : Holds o k.thread seen k.buffer k.next (emptied w) =
    subst (λ e. Holds o k.thread seen k.buffer k.next (settled e w)) q h.holds in
    ([], append-nil (entries_of k.thread seen) ∙ hw.out)

pub kept-out : (o : Opening) (p : Codes) (f : Outcomes) (seen : List Entry) (k : Worker) → IsKept o p f seen k
    → IsPrefix (entries_of k.thread seen) (drain k.thread k.items.items)
kept-out o p f seen k h = kept-ended o p f seen k k.«end» refl h

-- a front stays one under other names of its thread and its record
pub front-moved : (t u : ℕ) (xs ys : List Item) (later : List Entry) → t ≡ u → xs ≡ ys
    → IsPrefix (entries_of t later) (drain t xs) → IsPrefix (entries_of u later) (drain u ys)
front-moved t u xs ys later a b h =
    subst (λ n. IsPrefix (entries_of n later) (drain n ys)) a
    (subst (λ zs. IsPrefix (entries_of t later) (drain t zs)) b h)

-- what holds on each answer
pub either-way : {X E : Type 0} (r : Result X E) (P : Type 0) → IfOk r (λ _. P) → OnErr r P → P
either-way (Ok x) P h k = h
either-way (Err e) P h k = k

-- a seat with a lawful list, of which what is its own is such a front
pub ordered : (o : Opening) (k : Task) → IsFree (λ (e : Entry). e.thread) k.seat → number_of k.seat ≡ k.worker.thread
    → IsLawful o (seen_of k.seat)
    → IsPrefix (entries_of k.worker.thread (seen_of k.seat)) (drain k.worker.thread k.worker.items.items) → IsInOrder o k
ordered o k free number lawful front = record {
  free = free;
  number = number;
  front = subst (λ es. IsPrefix es (drain k.worker.thread k.worker.items.items))
      (sym (free.0.2 ∙ ap (λ n. entries_of n (seen_of k.seat)) number)) front;
  lawful = lawful;
}

-- a task is in order
pub task-ordered : (z : TableId) (o : Opening) (p : Codes) (f : Outcomes) (k : Task) → IsTask z o p f k → IsInOrder o k
task-ordered z o p f k h =
    ordered o k k.free h.number h.lawful (kept-out o p f (seen_of k.seat) k.worker h.kept)

-- and so is one with the same seat, thread and items
pub ordered-same : (o : Opening) (k m : Task) → IsInOrder o k → m.seat ≡ k.seat → m.worker.thread ≡ k.worker.thread
    → m.worker.items.items ≡ k.worker.items.items → IsInOrder o m
ordered-same o k m h seat thread items = record {
  free = m.free;
  number = ap number_of seat ∙ h.number ∙ sym thread;
  front = subst (λ s. IsPrefix (own_of s) (drain m.worker.thread m.worker.items.items)) (sym seat)
      (subst (λ t. IsPrefix (own_of k.seat) (drain t m.worker.items.items)) (sym thread)
      (subst (λ xs. IsPrefix (own_of k.seat) (drain k.worker.thread xs)) (sym items) h.front));
  lawful = subst (λ s. IsLawful o (seen_of s)) (sym seat) h.lawful;
}
