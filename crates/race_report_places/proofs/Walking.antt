-- One more sight: what it shows, and what stays.
use Rattle.std.proofs.Common.{◌≡◌, ◌≢◌, Bool, true, false, ◌&&◌, ◌||◌, List, [], ◌∷◌, ◌++◌, ◌⊎◌, refl, sym, ap, ◌∙◌, subst, inl, inr, append_assoc}
use Rattle.std.proofs.lemmas.Bool.{false≢true}
use Rattle.block_layout.specs.declared.place.Loc.{Loc}
use Rattle.upc_values.specs.declared.journal.Journal.{Journal}
use Rattle.upc_values.specs.Lists.{Has, Precedes}
use Rattle.upc_values.specs.Operations.{Operation, Place, Cell, Sync}
use Rattle.upc_values.specs.Orders.{global_order}
use Rattle.upc_values.specs.Consistent.{same_place}
use Rattle.upc_values.proofs.Membership.{precedes-total}
use Rattle.upc_values.proofs.Sameness.{same_loc-true, same_loc-itself}
use Rattle.race_report.specs.Races.{AreRacing}
use Rattle.race_report.specs.Serial.{IsRun}
use Rattle.upc_values.proofs.Consistency.{global-has}
use Rattle.race_report_places.specs.layer.Sights.{Sight, sights, shows_race, ShowRaces}
use Rattle.race_report_places.specs.Report.{IsFirstShown, IsQuiet}
use Rattle.race_report_places.proofs.Sights.{all-sights}
use Rattle.race_report_places.proofs.Reporting.{behind}

last-cases : {X : Type 0} (xs : List X) (b y : X) → Has (xs ++ b ∷ []) y → Has xs y ⊎ (b ≡ y)
last-cases [] b y (inl e) = inr e
last-cases [] b y (inr h) = absurd h
last-cases (x ∷ xs) b y (inl e) = inl (inl e)
last-cases (x ∷ xs) b y (inr h) = elim (last-cases xs b y h) [ inl m ↦ inl (inr m) | inr e ↦ inr e ]

-- the last of a list and one before it
precedes-last : {X : Type 0} (xs : List X) (b x y : X) → Precedes (xs ++ b ∷ []) x y → Precedes xs x y ⊎ (Has xs x × (b ≡ y))
precedes-last [] b x y (inl q) = absurd q.1
precedes-last [] b x y (inr p) = absurd p
precedes-last (z ∷ xs) b x y (inl q) =
    elim (last-cases xs b y q.1) [ inl m ↦ inl (inl (q.0, m)) | inr e ↦ inr (inl q.0, e) ]
precedes-last (z ∷ xs) b x y (inr p) =
    elim (precedes-last xs b x y p) [ inl m ↦ inl (inr m) | inr k ↦ inr (inr k.0, k.1) ]

pub quiet-none : (l : Loc) → IsQuiet l []
quiet-none l x y p q = absurd p

pub quiet-next : (l : Loc) (before : List Sight) (b : Sight) → IsQuiet l before
    → (b.operation.place ≡ Cell l → (x : Sight) → Has before x → shows_race x b ≡ false) → IsQuiet l (before ++ b ∷ [])
quiet-next l before b h k x y p q =
    elim (precedes-last before b x y p) [
      | inl m ↦ h x y m q
      | inr m ↦
          subst (λ z. shows_race x z ≡ false) m.1 (k (subst (λ z. z.operation.place ≡ Cell l) (sym m.1) q) x m.0)
    ]

pub shown-more : (l : Loc) (before more : List Sight) (a b : Sight) → IsFirstShown before l a b → IsFirstShown (before ++ more) l a b
shown-more l before more a b s =
    record {
      front = s.front;
      rest = s.rest ++ more;
      is = ap (λ z. z ++ more) s.is ∙ append_assoc s.front (b ∷ s.rest) more;
      place = s.place;
      before = s.before;
      race = s.race;
      none = s.none;
      lowest = s.lowest;
      last = s.last;
    }

place-is : (p q : Place) → same_place p q ≡ true → p ≡ q
place-is (Cell l) (Cell k) h = ap Cell (same_loc-true l k h)
place-is (Cell l) Sync h = absurd (false≢true h)
place-is Sync (Cell k) h = absurd (false≢true h)
place-is Sync Sync h = refl

place-itself : (p : Place) → same_place p p ≡ true
place-itself (Cell l) = same_loc-itself l
place-itself Sync = refl

swap_or : (x y : Bool) → (x || y) ≡ true → (y || x) ≡ true
swap_or true true h = refl
swap_or true false h = refl
swap_or false true h = refl
swap_or false false h = h

swap_and : (x y : Bool) → (x && y) ≡ false → (y && x) ≡ false
swap_and true true h = h
swap_and true false h = refl
swap_and false true h = refl
swap_and false false h = refl

-- a race the other way round
turned : (j : Journal) (a b : Operation) → AreRacing j a b → AreRacing j b a
turned j a b r =
    record {
      first = r.second;
      second = r.first;
      threads = λ e. r.threads (sym e);
      place = subst (λ z. same_place b.place z ≡ true) (sym (place-is a.place b.place r.place)) (place-itself b.place);
      writes = swap_or a.write b.write r.writes;
      relaxed = swap_and a.strict b.strict r.relaxed;
      not_before = r.not_after;
      not_after = r.not_before;
    }

-- where nothing is shown at a location, nothing races there
pub quiet-all : (j : Journal) (l : Loc) (run : IsRun j) → IsQuiet l (sights j) → (a b : Operation) → AreRacing j a b → a.place ≡ Cell l → ⊥
quiet-all j l run quiet a b r q =
    let seen : ShowRaces j = all-sights j run in
    let ne : a ≢ b = λ e. r.threads (ap (λ (z : Operation). z.thread) e) in
    let either = precedes-total (global_order j) a b ne (global-has j run.follows a r.first) (global-has j run.follows b r.second) in
    let found : (x y : Operation) → y.place ≡ Cell l → AreRacing j x y → Precedes (global_order j) x y → ⊥ =
    λ x y e w p.
    let k = behind (λ (z : Sight). z.operation) (sights j) x y (subst (λ z. Precedes z x y) (sym seen.whole) p) in
    let here = subst (λ z. AreRacing j z k.second.operation) (sym k.first_is) (subst (λ z. AreRacing j x z) (sym k.second_is) w) in
    let no = quiet k.first k.second k.precedes (ap (λ (z : Operation). z.place) k.second_is ∙ e) in
    false≢true (sym no ∙ (seen.exact k.first k.second k.precedes).0 here) in
    elim either [
      | inl p ↦ found a b (sym (place-is a.place b.place r.place) ∙ q) r p
      | inr p ↦ found b a q (turned j a b r) p
    ]
