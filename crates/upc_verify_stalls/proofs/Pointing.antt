-- The search for the Stalls of a record.
use Rattle.std.proofs.Common.{◌≡◌, ℕ, ◌+◌, ◌<◌, Bool, true, false, List, [], ◌∷◌, ◌++◌, length, map, Option, Some, None, refl, sym, ap, subst, ◌∙◌, append_assoc, append-nil, arith, ◌↔◌}
use Rattle.std.proofs.lemmas.Bool.{false≢true}
use Rattle.std.proofs.lemmas.List.{length-append, map-append}
use Rattle.upc_values.specs.declared.action.Action.{Action}
use Rattle.upc_values.specs.declared.action.Reply.{Reply}
use Rattle.upc_values.specs.declared.record.Item.{Item}
use Rattle.upc_values.specs.declared.record.Item.TheVariants.{Did, Stall}
use Rattle.upc_values.specs.declared.journal.Entry.{Entry}
use Rattle.upc_values.specs.Lists.{Each, Pairwise}
use Rattle.upc_values.specs.Drain.{drain}
use Rattle.upc_values.specs.Openings.{Opening}
use Rattle.upc_values.specs.Records.{actions_of}
use Rattle.upc_values.specs.Strands.{MayWait, next_action, StallsStand, IsJustified, AreJustified}
use Rattle.upc_values.proofs.Records.{actions-did, actions-stall}
use Rattle.upc_verify_stalls.specs.declared.points.Point.{Point}
use Rattle.upc_verify_stalls.specs.code.Points.{Waiting, waiting_of, waitings, WaitsOnce, AreBelow}
use Rattle.upc_verify_stalls.specs.declared.points.Search.{Search}
use Rattle.upc_verify_stalls.specs.code.Searches.{IsFound, IsAt}
use Rattle.upc_verify_stalls.specs.code.Watches.{ArePoints}
use Rattle.upc_verify_stalls.proofs.Parting.{parts-at, below-front, waitings-ascend}

-- ---- the search

pub found-none : (t : ℕ) (want : Option Action) (items : List Item) → StallsStand want items → IsFound t want items items false 0 []
found-none t want items h = record { before = []; parts = refl; counted = refl; stand = h; all = refl }

-- a Stall
pub found-stall : (t : ℕ) (want : Option Action) (items left : List Item) (b : Bool) (n : ℕ) (ws : List Waiting)
    → IsFound t want items (Stall ∷ left) b n ws → IsFound t want items left true n ws
found-stall t want items left false n ws f =
    record { before = f.before; parts = f.parts; counted = f.counted; stand = f.stand; all = f.all }
found-stall t want items left true n ws f = absurd (false≢true (sym f.stand.0))

-- an action, with no Stall right before
pub found-did : (t : ℕ) (want : Option Action) (items left : List Item) (a : Action) (r : Reply) (n : ℕ) (ws : List Waiting)
    → IsFound t want items (Did a r ∷ left) false n ws → IsFound t want items left false (n + 1) ws
found-did t want items left a r n ws f =
    record {
      before = f.before ++ Did a r ∷ [];
      parts = append_assoc f.before (Did a r ∷ []) left ∙ f.parts;
      counted =
          let k = f.counted in
          omega (arith, ap length (actions-did f.before a r), length-append (actions_of f.before) (a ∷ []));
      stand = f.stand;
      all = f.all;
    }

-- the Stall right before these items is added
pub found-add : (t : ℕ) (want : Option Action) (items left : List Item) (entries : List Entry) (a : Action) (n k : ℕ) (ws : List Waiting)
    → next_action want left ≡ Some a → entries ≡ drain t items → AreBelow entries n k → IsFound t want items left true n ws
    → IsFound t want items left false n (ws ++ record { entries = k; next = Some a } ∷ [])
found-add t want items left entries a n k ws next out b f =
    let p = parts-at t f.before left in
    let m = length (actions_of f.before) in
    let below : AreBelow entries m k = subst (λ z. AreBelow entries z k) f.counted b in
    let is : entries ≡ drain t f.before ++ p.more = out ∙ ap (drain t) (sym f.parts) ∙ p.is in
    let place : k ≡ length (drain t f.before) = below-front entries (drain t f.before) p.more m k is p.under p.from below in
    let rest = waitings t want (f.before ++ Stall ∷ []) left in
    let here : Waiting = record { entries = k; next = Some a } in
    let there : Waiting = record { entries = length (drain t f.before); next = next_action want left } in
    let same : here ≡ there =
    ap (λ (z : ℕ). let w : Waiting = record { entries = z; next = Some a } in w) place
    ∙ ap (λ (z : Option Action). let w : Waiting = record { entries = length (drain t f.before); next = z } in w) (sym next) in
    record {
      before = f.before ++ Stall ∷ [];
      parts = append_assoc f.before (Stall ∷ []) left ∙ f.parts;
      counted = f.counted ∙ ap length (sym (actions-stall f.before));
      stand = f.stand.2;
      all = append_assoc ws (here ∷ []) rest ∙ ap (λ w. ws ++ w ∷ rest) same ∙ f.all;
    }

-- no item is left
pub found-all : (t : ℕ) (want : Option Action) (items : List Item) (n : ℕ) (ws : List Waiting) → IsFound t want items [] false n ws
    → ws ≡ waitings t want [] items
found-all t want items n ws f = sym (append-nil ws) ∙ f.all

-- a Stall is last where an action is wanted
pub found-wants : (t : ℕ) (want : Option Action) (items : List Item) (n : ℕ) (ws : List Waiting) → IsFound t want items [] true n ws
    → want ≡ None → ⊥
found-wants t want items n ws f e = subst MayWait e f.stand.1

found-same : (t : ℕ) (want : Option Action) (items left : List Item) (b c : Bool) (n m : ℕ) (ws vs : List Waiting)
    → b ≡ c → n ≡ m → ws ≡ vs → IsFound t want items left b n ws → IsFound t want items left c m vs
found-same t want items left b c n m ws vs p q r f =
    subst (λ z. IsFound t want items left z m vs) p
    (subst (λ z. IsFound t want items left b z vs) q (subst (λ z. IsFound t want items left b n z) r f))

-- ---- the same of the program's search

-- before the first item
pub at-start : (t : ℕ) (want : Option Action) (items left : List Item) (s : Search) → left ≡ items → s.stalled ≡ false
    → s.number ≡ 0 → s.points.items ≡ [] → StallsStand want items → IsAt t want items left s
at-start t want items left s is b n p h =
    subst (λ l. IsFound t want items l s.stalled s.number (map waiting_of s.points.items)) (sym is)
    (found-same t want items items false s.stalled 0 s.number [] (map waiting_of s.points.items) (sym b) (sym n)
    (ap (map waiting_of) (sym p)) (found-none t want items h))

pub at-stalled : (t : ℕ) (want : Option Action) (items left : List Item) (s v : Search) → v.stalled ≡ true → v.number ≡ s.number
    → v.points.items ≡ s.points.items → IsAt t want items (Stall ∷ left) s → IsAt t want items left v
at-stalled t want items left s v b n p f =
    found-same t want items left true v.stalled s.number v.number (map waiting_of s.points.items) (map waiting_of v.points.items)
    (sym b) (sym n) (ap (map waiting_of) (sym p))
    (found-stall t want items left s.stalled s.number (map waiting_of s.points.items) f)

pub at-counted : (t : ℕ) (want : Option Action) (items left : List Item) (a : Action) (r : Reply) (s v : Search) → s.stalled ≡ false
    → v.stalled ≡ s.stalled → v.number ≡ s.number + 1 → v.points.items ≡ s.points.items
    → IsAt t want items (Did a r ∷ left) s → IsAt t want items left v
at-counted t want items left a r s v b c n p f =
    found-same t want items left false v.stalled (s.number + 1) v.number (map waiting_of s.points.items)
    (map waiting_of v.points.items) (sym (c ∙ b)) (sym n) (ap (map waiting_of) (sym p))
    (found-did t want items left a r s.number (map waiting_of s.points.items)
    (subst (λ z. IsFound t want items (Did a r ∷ left) z s.number (map waiting_of s.points.items)) b f))

pub at-settled : (t : ℕ) (want : Option Action) (items left : List Item) (entries : List Entry) (a : Action) (k : ℕ) (s v : Search)
    → s.stalled ≡ true → v.stalled ≡ false → v.number ≡ s.number
    → map waiting_of v.points.items ≡ map waiting_of s.points.items ++ record { entries = k; next = Some a } ∷ []
    → AreBelow entries s.number k → entries ≡ drain t items → next_action want left ≡ Some a
    → IsAt t want items left s → IsAt t want items left v
at-settled t want items left entries a k s v b c n p below out next f =
    let ws = map waiting_of s.points.items in
    let more : List Waiting = ws ++ record { entries = k; next = Some a } ∷ [] in
    found-same t want items left false v.stalled s.number v.number more (map waiting_of v.points.items) (sym c) (sym n) (sym p)
    (found-add t want items left entries a s.number k ws next out below
    (subst (λ z. IsFound t want items left z s.number ws) b f))

-- no item is left
pub at-done : (t : ℕ) (want : Option Action) (items : List Item) (s : Search) → s.stalled ≡ false → IsAt t want items [] s
    → map waiting_of s.points.items ≡ waitings t want [] items
at-done t want items s b f =
    found-all t want items s.number (map waiting_of s.points.items)
    (subst (λ z. IsFound t want items [] z s.number (map waiting_of s.points.items)) b f)

done-by : (t : ℕ) (want : Option Action) (items : List Item) (b : Bool) (n : ℕ) (ws : List Waiting) → want ≡ None
    → IsFound t want items [] b n ws → ws ≡ waitings t want [] items
done-by t want items true n ws e f = absurd (found-wants t want items n ws f e)
done-by t want items false n ws e f = found-all t want items n ws f

-- and no action is wanted
pub at-none : (t : ℕ) (want : Option Action) (items : List Item) (s : Search) → want ≡ None → IsAt t want items [] s
    → map waiting_of s.points.items ≡ waitings t want [] items
at-none t want items s e f = done-by t want items s.stalled s.number (map waiting_of s.points.items) e f

-- one more point
pub points-push : (ps qs : List Point) (p : Point) → qs ≡ ps ++ p ∷ [] → map waiting_of qs ≡ map waiting_of ps ++ waiting_of p ∷ []
points-push ps qs p e = ap (map waiting_of) e ∙ map-append waiting_of ps (p ∷ [])

-- ---- what is known of the Stalls that were found

waitings-wait : (t : ℕ) (want : Option Action) (before items : List Item) → StallsStand want items
    → Each (λ w. MayWait w.next) (waitings t want before items)
waitings-wait t want before [] h = tt
waitings-wait t want before (Did a r ∷ items) h = waitings-wait t want (before ++ Did a r ∷ []) items h
waitings-wait t want before (Stall ∷ items) h = (h.1, waitings-wait t want (before ++ Stall ∷ []) items h.2)

each-unmap : {X Y : Type 0} (f : X → Y) (P : Y → Type 0) (xs : List X) → Each P (map f xs) → Each (λ x. P (f x)) xs
each-unmap f P [] h = tt
each-unmap f P (x ∷ xs) h = (h.0, each-unmap f P xs h.1)

pairs-unmap : {X Y : Type 0} (f : X → Y) (R : Y → Y → Type 0) (xs : List X) → Pairwise R (map f xs) → Pairwise (λ x y. R (f x) (f y)) xs
pairs-unmap f R [] h = tt
pairs-unmap f R (x ∷ xs) h = (each-unmap f (R (f x)) xs h.0, pairs-unmap f R xs h.1)

pub points-are : (t : ℕ) (want : Option Action) (items : List Item) (points : List Point) → StallsStand want items
    → map waiting_of points ≡ waitings t want [] items → ArePoints points
points-are t want items points h e =
    record {
      ascend =
          pairs-unmap waiting_of (λ (v : Waiting) (w : Waiting). v.entries < w.entries) points
          (subst (Pairwise (λ (v : Waiting) (w : Waiting). v.entries < w.entries)) (sym e) (waitings-ascend t want [] items h));
      wait =
          each-unmap waiting_of (λ (w : Waiting). MayWait w.next) points
          (subst (Each (λ (w : Waiting). MayWait w.next)) (sym e) (waitings-wait t want [] items h));
    }

-- ---- the Stalls are justified where each waits once

justified-waits : (o : Opening) (t : ℕ) (history : List Entry) (before : List Item) (next : Option Action)
    → IsJustified o t history before next ↔ WaitsOnce o t history (record { entries = length (drain t before); next = next })
justified-waits o t history before next = (
  λ j. record {
    front = j.front;
    rest = j.rest;
    is = j.is;
    waits = record { many = j.many; action = j.action; wants = j.wants; none = j.none };
  },
  λ w. record {
    front = w.front;
    rest = w.rest;
    is = w.is;
    many = w.waits.many;
    action = w.waits.action;
    wants = w.waits.wants;
    none = w.waits.none;
  },
)

pub justified-each : (o : Opening) (t : ℕ) (history : List Entry) (want : Option Action) (before items : List Item)
    → AreJustified o t history want before items ↔ Each (WaitsOnce o t history) (waitings t want before items)
justified-each o t history want before [] = (λ h. h, λ h. h)
justified-each o t history want before (Did a r ∷ items) = justified-each o t history want (before ++ Did a r ∷ []) items
justified-each o t history want before (Stall ∷ items) =
    let one = justified-waits o t history before (next_action want items) in
    let rest = justified-each o t history want (before ++ Stall ∷ []) items in
    (λ h. (one.0 h.0, rest.0 h.1), λ h. (one.1 h.0, rest.1 h.1))
