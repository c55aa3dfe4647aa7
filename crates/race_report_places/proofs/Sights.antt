-- The sights show the races.
use Rattle.std.proofs.Common.{◌≡◌, ◌≢◌, ◌≤◌, ◌==◌, nat_le, not, Bool, true, false, ◌&&◌, ◌||◌, List, [], ◌∷◌, ◌++◌, map, flat_map, refl, sym, ap, ◌∙◌, subst, inl, inr, append_assoc, eq-eqb}
use Rattle.std.proofs.lemmas.Bool.{false≢true, and_from, and_parts, leb-true, le-leb, ne_eqb}
use Rattle.std.proofs.lemmas.List.{map-append}
use Rattle.upc_values.specs.declared.journal.Entry.{Entry}
use Rattle.upc_values.specs.declared.journal.Journal.{Journal}
use Rattle.upc_values.specs.Lists.{Has, Precedes}
use Rattle.upc_values.specs.Operations.{Operation}
use Rattle.upc_values.specs.Orders.{placed, global_order}
use Rattle.upc_values.specs.Consistent.{same_place}
use Rattle.upc_values.proofs.Membership.{has-cases, precedes-has}
use Rattle.race_report.specs.Races.{AreRacing}
use Rattle.race_report.specs.Serial.{IsRun}
use Rattle.race_report.proofs.Lists.{has-map}
use Rattle.race_report_clocks.specs.layer.Clocks.{Clock, Clocks, known, silent, advanced, clocks}
use Rattle.race_report_clocks.proofs.Pushed.{clocks-push}
use Rattle.race_report_bridge.specs.layer.Telling.{MightRace}
use Rattle.race_report_bridge.proofs.Racing.{all-shown}
use Rattle.race_report_places.specs.layer.Sights.{Sight, seen_with, sights_from, sights, might_race, shows_race, SightsShowRaces}

-- where a sight stands
record Standing (j : Journal) (all : List Entry) (s : Sight) : Type 0 where
  front : List Entry
  entry : Entry
  rest : List Entry
  is : all ≡ front ++ entry ∷ rest
  has : Has (placed j entry) s.operation
  knows : s.known ≡ known front (clocks front) entry

standing : (j : Journal) (before : List Entry) (c : Clocks) (es : List Entry) (s : Sight) → c ≡ clocks before → Has (sights_from j before c es) s → Standing j (before ++ es) s
standing j before c [] s q h = absurd h
standing j before c (e ∷ es) s q h =
    elim (has-cases (seen_with (known before c e) (placed j e)) (sights_from j (before ++ e ∷ []) (advanced before c e) es) s h) [
      | inl m ↦
          let k = has-map (λ o. record { operation = o; known = known before c e }) (placed j e) s m in
          record {
            front = before;
            entry = e;
            rest = es;
            is = refl;
            has = subst (λ z. Has (placed j e) z) (ap (λ (z : Sight). z.operation) k.2) k.1;
            knows = sym (ap (λ (z : Sight). z.known) k.2) ∙ ap (λ z. known before z e) q;
          }
      | inr m ↦
          subst (λ z. Standing j z s) (append_assoc before (e ∷ []) es)
          (standing j (before ++ e ∷ []) (advanced before c e) es s (ap (λ z. advanced before z e) q ∙ sym (clocks-push before e)) m)
    ]

-- the operations of the sights
seen-operations : (k : Clock) (os : List Operation) → map (λ (s : Sight). s.operation) (seen_with k os) ≡ os
seen-operations k [] = refl
seen-operations k (o ∷ os) = ap (λ z. o ∷ z) (seen-operations k os)

sight-operations : (j : Journal) (before : List Entry) (c : Clocks) (es : List Entry) → map (λ (s : Sight). s.operation) (sights_from j before c es) ≡ flat_map (placed j) es
sight-operations j before c [] = refl
sight-operations j before c (e ∷ es) =
    let more = sights_from j (before ++ e ∷ []) (advanced before c e) es in
    map-append (λ (s : Sight). s.operation) (seen_with (known before c e) (placed j e)) more
    ∙ ap (λ z. z ++ map (λ (s : Sight). s.operation) more) (seen-operations (known before c e) (placed j e))
    ∙ ap (λ z. placed j e ++ z) (sight-operations j (before ++ e ∷ []) (advanced before c e) es)

pub map-has : {X Y : Type 0} (f : X → Y) (xs : List X) (x : X) → Has xs x → Has (map f xs) (f x)
map-has f [] x h = absurd h
map-has f (y ∷ xs) x (inl e) = inl (ap f e)
map-has f (y ∷ xs) x (inr h) = inr (map-has f xs x h)

map-precedes : {X Y : Type 0} (f : X → Y) (xs : List X) (a b : X) → Precedes xs a b → Precedes (map f xs) (f a) (f b)
map-precedes f [] a b p = absurd p
map-precedes f (x ∷ xs) a b (inl q) = inl (ap f q.0, map-has f xs b q.1)
map-precedes f (x ∷ xs) a b (inr p) = inr (map-precedes f xs a b p)

-- the test and what it says
not-false : (b : Bool) → not b ≡ true → b ≡ false
not-false true h = absurd (false≢true h)
not-false false h = refl

not-from : (b : Bool) → b ≡ false → not b ≡ true
not-from b h = ap not h

pub might : (a b : Operation) → might_race a b ≡ true → MightRace a b
might a b h =
    let p = and_parts (not (a.thread == b.thread)) (same_place a.place b.place && ((a.write || b.write) && not (a.strict && b.strict))) h in
    let q = and_parts (same_place a.place b.place) ((a.write || b.write) && not (a.strict && b.strict)) p.1 in
    let r = and_parts (a.write || b.write) (not (a.strict && b.strict)) q.1 in
    record {
      threads = λ e. false≢true (sym (not-false (a.thread == b.thread) p.0) ∙ eq-eqb a.thread b.thread e);
      place = q.0;
      writes = r.0;
      relaxed = not-false (a.strict && b.strict) r.1;
    }

might-be : (a b : Operation) → MightRace a b → might_race a b ≡ true
might-be a b m =
    and_from (not (a.thread == b.thread)) (same_place a.place b.place && ((a.write || b.write) && not (a.strict && b.strict)))
    (not-from (a.thread == b.thread) (ne_eqb a.thread b.thread m.threads))
    (and_from (same_place a.place b.place) ((a.write || b.write) && not (a.strict && b.strict)) m.place
    (and_from (a.write || b.write) (not (a.strict && b.strict)) m.writes (not-from (a.strict && b.strict) m.relaxed)))

module _ (j : Journal) (run : IsRun j) where
  sights-precede : (a b : Sight) → Precedes (sights j) a b → Precedes (global_order j) a.operation b.operation
  sights-precede a b p =
      subst (λ l. Precedes l a.operation b.operation) (sight-operations j [] silent j.history)
      (map-precedes (λ (s : Sight). s.operation) (sights j) a b p)

  shown : (a b : Sight) → Precedes (sights j) a b → AreRacing j a.operation b.operation → shows_race a b ≡ true
  shown a b p r =
      let s = standing j [] silent j.history b refl (precedes-has (sights j) a b p).1 in
      let k = (all-shown j s.front s.rest s.entry a.operation b.operation run s.is s.has (sights-precede a b p)).0 r in
      let u = a.operation.thread in
      let le : b.known u ≤ a.operation.index = subst (λ z. z ≤ a.operation.index) (sym (ap (λ (f : Clock). f u) s.knows)) k.1 in
      and_from (might_race a.operation b.operation) (nat_le (b.known u) a.operation.index)
      (might-be a.operation b.operation k.0) (le-leb (b.known u) a.operation.index le)

  races : (a b : Sight) → Precedes (sights j) a b → shows_race a b ≡ true → AreRacing j a.operation b.operation
  races a b p t =
      let s = standing j [] silent j.history b refl (precedes-has (sights j) a b p).1 in
      let u = a.operation.thread in
      let q = and_parts (might_race a.operation b.operation) (nat_le (b.known u) a.operation.index) t in
      let le : known s.front (clocks s.front) s.entry u ≤ a.operation.index =
      subst (λ z. z ≤ a.operation.index) (ap (λ (f : Clock). f u) s.knows) (leb-true (b.known u) a.operation.index q.1) in
      (all-shown j s.front s.rest s.entry a.operation b.operation run s.is s.has (sights-precede a b p)).1
      (might a.operation b.operation q.0, le)

pub all-sights : SightsShowRaces
all-sights j run =
    record {
      whole = sight-operations j [] silent j.history;
      exact = λ a b p. (shown j run a b p, races j run a b p);
    }
