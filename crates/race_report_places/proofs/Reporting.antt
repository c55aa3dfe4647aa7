-- What the sights show first is reported.
use Rattle.std.proofs.Common.{◌≡◌, ℕ, ◌≤◌, true, cond, List, [], ◌∷◌, ◌++◌, map, refl, sym, ap, ◌∙◌, subst, inl, inr, arith}
use Rattle.std.proofs.lemmas.Bool.{cases_order, cond_both, false≢true}
use Rattle.std.proofs.lemmas.List.{map-append}
use Rattle.block_layout.specs.declared.place.Loc.{Loc}
use Rattle.upc_values.specs.declared.journal.Journal.{Journal}
use Rattle.upc_values.specs.Lists.{Has, Precedes}
use Rattle.upc_values.specs.Operations.{Operation, Place, Cell, Sync}
use Rattle.upc_values.specs.Orders.{rank, record_of, operations_from}
use Rattle.upc_values.specs.Consistent.{same_place}
use Rattle.upc_values.proofs.Membership.{has-left, has-right}
use Rattle.upc_values.proofs.Sameness.{same_loc-true}
use Rattle.race_report.specs.Races.{AreRacing}
use Rattle.race_report.specs.Serial.{IsRun}
use Rattle.race_report.proofs.Lists.{has-map}
use Rattle.race_report_bridge.proofs.Knowing.{one-action}
use Rattle.race_report_places.specs.layer.Sights.{Sight, sights, shows_race, ShowRaces}
use Rattle.race_report_places.specs.Report.{IsFirstRace, IsFirstShown, ShownIsReported}
use Rattle.race_report_places.proofs.Sights.{all-sights, map-has}

module _ {X Y : Type 0} (f : X → Y) where
  pub record Behind (xs : List X) (y z : Y) : Type 0 where
    pub first : X
    pub second : X
    pub precedes : Precedes xs first second
    pub first_is : f first ≡ y
    pub second_is : f second ≡ z

  pub behind : (xs : List X) (y z : Y) → Precedes (map f xs) y z → Behind xs y z
  behind [] y z p = absurd p
  behind (x ∷ xs) y z (inl q) =
      let k = has-map f xs z q.1 in
      record { first = x; second = k.0; precedes = inl (refl, k.1); first_is = q.0; second_is = k.2 }
  behind (x ∷ xs) y z (inr p) =
      let k = behind xs y z p in
      record {
        first = k.first;
        second = k.second;
        precedes = inr k.precedes;
        first_is = k.first_is;
        second_is = k.second_is;
      }

precedes-left : {X : Type 0} (xs ys : List X) (a b : X) → Precedes xs a b → Precedes (xs ++ ys) a b
precedes-left [] ys a b p = absurd p
precedes-left (x ∷ xs) ys a b (inl q) = inl (q.0, has-left xs ys b q.1)
precedes-left (x ∷ xs) ys a b (inr p) = inr (precedes-left xs ys a b p)

front-precedes : {X : Type 0} (front : List X) (r : X) (rest : List X) (o : X) → Has front o → Precedes (front ++ r ∷ rest) o r
front-precedes [] r rest o h = absurd h
front-precedes (x ∷ front) r rest o (inl e) = inl (e, has-right front (r ∷ rest) r (inl refl))
front-precedes (x ∷ front) r rest o (inr h) = inr (front-precedes front r rest o h)

rank-low : (o : Operation) → cond {A = ℕ} o.write 0 1 ≤ 1
rank-low o = cond_both {A = ℕ} o.write 0 1 (λ z. z ≤ 1) (λ e. omega arith) (λ e. omega arith)

pub cell-of : (p : Place) (l : Loc) → same_place p (Cell l) ≡ true → p ≡ Cell l
cell-of (Cell k) l h = ap Cell (same_loc-true k l h)
cell-of Sync l h = absurd (false≢true h)

module _ (j : Journal) (l : Loc) (a b : Sight) (run : IsRun j) (s : IsFirstShown (sights j) l a b) where
  seen : ShowRaces j
  seen = all-sights j run

  in-front : (x : Sight) → Has s.front x → Precedes (sights j) x b
  in-front x h = subst (λ z. Precedes z x b) (sym s.is) (front-precedes s.front b s.rest x h)

  within : (x y : Sight) → Precedes s.front x y → Precedes (sights j) x y
  within x y p = subst (λ z. Precedes z x y) (sym s.is) (precedes-left s.front (b ∷ s.rest) x y p)

  race : AreRacing j a.operation b.operation
  race = (seen.exact a b (in-front a s.before)).1 s.race

  shows : (x : Sight) → Has s.front x → (o : Operation) → x.operation ≡ o → AreRacing j o b.operation → shows_race x b ≡ true
  shows x h o e r = (seen.exact x b (in-front x h)).0 (subst (λ z. AreRacing j z b.operation) (sym e) r)

  none : (x y : Operation) → Precedes (map (λ (z : Sight). z.operation) s.front) x y → y.place ≡ Cell l → AreRacing j x y → ⊥
  none x y p q r =
      let k = behind (λ (z : Sight). z.operation) s.front x y p in
      let no = s.none k.first k.second k.precedes (ap (λ (z : Operation). z.place) k.second_is ∙ q) in
      let here = subst (λ z. AreRacing j z k.second.operation) (sym k.first_is) (subst (λ z. AreRacing j x z) (sym k.second_is) r) in
      false≢true (sym no ∙ (seen.exact k.first k.second (within k.first k.second k.precedes)).0 here)

  lowest : (x : Operation) → Has (map (λ (z : Sight). z.operation) s.front) x → AreRacing j x b.operation → a.operation.thread ≤ x.thread
  lowest x h r =
      let k = has-map (λ (z : Sight). z.operation) s.front x h in
      subst (λ z. a.operation.thread ≤ z) (ap (λ (z : Operation). z.thread) k.2) (s.lowest k.0 k.1 (shows k.0 k.1 x k.2 r))

  last : (x : Operation) → Has (map (λ (z : Sight). z.operation) s.front) x → AreRacing j x b.operation → x.thread ≡ a.operation.thread → rank x ≤ rank a.operation
  last x h r t =
      let k = has-map (λ (z : Sight). z.operation) s.front x h in
      let y = a.operation in
      let e : k.0.operation.thread ≡ x.thread = ap (λ (z : Operation). z.thread) k.2 in
      let i : k.0.operation.index ≡ x.index = ap (λ (z : Operation). z.index) k.2 in
      let le : k.0.operation.index ≤ y.index = s.last k.0 k.1 (shows k.0 k.1 x k.2 r) (e ∙ t) in
      let cell : x.place ≡ Cell l = cell-of x.place l (subst (λ z. same_place x.place z ≡ true) s.place r.place) in
      elim (cases_order x.index y.index) [
        | inl q ↦
            let same : x ≡ y =
            one-action x.thread 0 (record_of j x.thread) l x y r.first.1
            (subst (λ z. Has (operations_from z 0 (record_of j z)) y) (sym t) race.first.1) q cell in
            let n : rank x ≡ rank y = ap rank same in omega arith
        | inr q ↦ elim q [
          | inl lt ↦ let low = rank-low x in omega arith
          | inr gt ↦ absurd (omega arith)
        ]
      ]

  pub reported : IsFirstRace j l a.operation b.operation
  reported =
      record {
        front = map (λ (z : Sight). z.operation) s.front;
        rest = map (λ (z : Sight). z.operation) s.rest;
        is =
            sym seen.whole ∙ ap (map (λ (z : Sight). z.operation)) s.is
            ∙ map-append (λ (z : Sight). z.operation) s.front (b ∷ s.rest);
        place = s.place;
        before = map-has (λ (z : Sight). z.operation) s.front a s.before;
        race = race;
        none = none;
        lowest = lowest;
        last = last;
      }

pub all-reported : ShownIsReported
all-reported j l a b run s = reported j l a b run s
