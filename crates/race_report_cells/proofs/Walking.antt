-- One more operation is seen.
use Rattle.std.proofs.Common.{◌≡◌, ℕ, ◌+◌, ◌<◌, ◌≤◌, ◌==◌, nat_le, Bool, true, false, not, ◌&&◌, ◌||◌, cond, List, [], ◌∷◌, ◌++◌, map, length, get_or, take, Option, Some, None, is_some, slice_index, refl, sym, ap, ◌∙◌, subst, inl, inr, append_assoc, arith}
use Rattle.std.proofs.lemmas.Bool.{cases_Bool, false≢true, false_from_ne_true, and_from, and_parts, leb-true, le-leb, cond-true, cond-false}
use Rattle.std.proofs.lemmas.List.{length-map, get_or-map, map_more}
use Rattle.block_layout.specs.declared.place.Loc.{Loc}
use Rattle.upc_values.specs.Lists.{Each, Has}
use Rattle.upc_values.specs.Scalars.{same_loc, zero}
use Rattle.upc_values.specs.Operations.{Operation, Place, Cell, Sync}
use Rattle.upc_values.specs.Orders.{name_of}
use Rattle.upc_values.specs.Consistent.{same_place}
use Rattle.upc_values.proofs.Membership.{has-left, has-right, has-cases, each-has}
use Rattle.upc_values.proofs.Sameness.{same_loc-true, same_loc-itself}
use Rattle.order_builder.specs.declared.names.Named.{Named}
use Rattle.order_builder.specs.layer.Commits.{named}
use Rattle.race_report_clocks.specs.layer.Clocks.{Clock}
use Rattle.race_report_places.specs.declared.report.Race.{Race}
use Rattle.race_report_places.specs.layer.Sights.{Sight, seen_with, might_race, shows_race}
use Rattle.race_report_places.specs.Report.{IsQuiet}
use Rattle.race_report_places.proofs.Reporting.{cell-of}
use Rattle.race_report_places.proofs.Walking.{quiet-next, shown-more}
use Rattle.race_report_cells.specs.declared.cell.Cell as program
use Rattle.race_report_cells.specs.declared.cells.Cells.{Cells}
use Rattle.race_report_cells.specs.code.Lasts.{IsUpTo, AreNoted, IsFirst, IsFound, races_by}
use Rattle.race_report_cells.specs.layer.Found.{races_in, ArePut}
use Rattle.race_report_cells.proofs.Noting.{get-has}
use Rattle.race_report_cells.specs.layer.Cells.{IsOn, cell_at, Keeps, IsShown, IsKept, IsWalked}

up-trans : (a b c : Named) → IsUpTo a b → IsUpTo b c → IsUpTo a c
up-trans a b c p q =
    let x = p.index in
    let y = q.index in
    record {
      kind = record {
        thread = p.kind.thread ∙ q.kind.thread;
        write = p.kind.write ∙ q.kind.write;
        strict = p.kind.strict ∙ q.kind.strict;
      };
      index = omega arith;
    }

-- on another place
module _ (l : Loc) (before : List Sight) (b : Sight) (apart : IsOn l b.operation → ⊥) where
  pub quiet-apart : IsQuiet l before → IsQuiet l (before ++ b ∷ [])
  quiet-apart h = quiet-next l before b h (λ q x m. absurd (apart q))

  pub keeps-apart : (lasts : List Named) → Keeps l lasts before → Keeps l lasts (before ++ b ∷ [])
  keeps-apart lasts h =
      record {
        only = λ n m. let k = h.only n m in (k.0, has-left before (b ∷ []) k.0 k.1, k.2, k.3);
        all = λ a m q.
            elim (has-cases before (b ∷ []) a m) [
              | inl t ↦ h.all a t q
              | inr (inl e) ↦ absurd (apart (subst (λ z. IsOn l z.operation) (sym e) q))
              | inr (inr t) ↦ absurd t
            ];
      }

pub shown-later : (before : List Sight) (b : Sight) (r : Race) → IsShown before r → IsShown (before ++ b ∷ []) r
shown-later before b r s =
    record {
      first = s.first;
      second = s.second;
      shown = shown-more r.loc before (b ∷ []) s.first s.second s.shown;
      first_name = s.first_name;
      second_name = s.second_name;
    }

-- at the place
module _ (l : Loc) (before : List Sight) (b : Sight) (on : IsOn l b.operation) (lasts : List Named) (keeps : Keeps l lasts before) where
  -- what races with an operation races with a later one of its thread and kind
  races : (x : Sight) (n : Named) → IsUpTo (named x.operation) n → shows_race x b ≡ true → races_by b.known (named b.operation) n ≡ true
  races x n up t =
      let p = and_parts (might_race x.operation b.operation) (nat_le (b.known x.operation.thread) x.operation.index) t in
      let q = and_parts (not (x.operation.thread == b.operation.thread)) (same_place x.operation.place b.operation.place && ((x.operation.write || b.operation.write) && not (x.operation.strict && b.operation.strict))) p.0 in
      let r = and_parts (same_place x.operation.place b.operation.place) ((x.operation.write || b.operation.write) && not (x.operation.strict && b.operation.strict)) q.1 in
      let s = and_parts (x.operation.write || b.operation.write) (not (x.operation.strict && b.operation.strict)) r.1 in
      let low : b.known x.operation.thread ≤ x.operation.index = leb-true (b.known x.operation.thread) x.operation.index p.1 in
      let low' : b.known n.name.thread ≤ x.operation.index = subst (λ z. b.known z ≤ x.operation.index) up.kind.thread low in
      let high : x.operation.index ≤ n.name.index = up.index in
      and_from (not (n.name.thread == b.operation.thread)) ((n.name.write || b.operation.write) && (not (n.strict && b.operation.strict) && nat_le (b.known n.name.thread) n.name.index))
      (sym (ap (λ z. not (z == b.operation.thread)) up.kind.thread) ∙ q.0)
      (and_from (n.name.write || b.operation.write) (not (n.strict && b.operation.strict) && nat_le (b.known n.name.thread) n.name.index)
      (sym (ap (λ z. z || b.operation.write) up.kind.write) ∙ s.0)
      (and_from (not (n.strict && b.operation.strict)) (nat_le (b.known n.name.thread) n.name.index)
      (sym (ap (λ z. not (z && b.operation.strict)) up.kind.strict) ∙ s.1)
      (le-leb (b.known n.name.thread) n.name.index (omega arith))))

  -- what races with b is on its place
  placed : (x : Sight) → shows_race x b ≡ true → IsOn l x.operation
  placed x t =
      let p = and_parts (might_race x.operation b.operation) (nat_le (b.known x.operation.thread) x.operation.index) t in
      let q = and_parts (not (x.operation.thread == b.operation.thread)) (same_place x.operation.place b.operation.place && ((x.operation.write || b.operation.write) && not (x.operation.strict && b.operation.strict))) p.0 in
      let r = and_parts (same_place x.operation.place b.operation.place) ((x.operation.write || b.operation.write) && not (x.operation.strict && b.operation.strict)) q.1 in
      cell-of x.operation.place l (sym (ap (λ z. same_place x.operation.place z) on) ∙ r.0)

  -- an operation that is kept races with b where its name does
  shows : (x : Sight) → IsOn l x.operation → races_by b.known (named b.operation) (named x.operation) ≡ true → shows_race x b ≡ true
  shows x q t =
      let o = x.operation in
      let c = b.operation in
      let p = and_parts (not (o.thread == c.thread)) ((o.write || c.write) && (not (o.strict && c.strict) && nat_le (b.known o.thread) o.index)) t in
      let r = and_parts (o.write || c.write) (not (o.strict && c.strict) && nat_le (b.known o.thread) o.index) p.1 in
      let s = and_parts (not (o.strict && c.strict)) (nat_le (b.known o.thread) o.index) r.1 in
      let same : same_place o.place c.place ≡ true =
      ap (λ z. same_place z c.place) q ∙ ap (λ z. same_place (Cell l) z) on ∙ same_loc-itself l in
      and_from (might_race o c) (nat_le (b.known o.thread) o.index)
      (and_from (not (o.thread == c.thread)) (same_place o.place c.place && ((o.write || c.write) && not (o.strict && c.strict))) p.0
      (and_from (same_place o.place c.place) ((o.write || c.write) && not (o.strict && c.strict)) same
      (and_from (o.write || c.write) (not (o.strict && c.strict)) r.0 s.0)))
      s.1

  -- where none races, the place stays quiet
  pub quiet-more : IsQuiet l before → IsFound (races_by b.known (named b.operation)) lasts None → IsQuiet l (before ++ b ∷ [])
  quiet-more h none =
      quiet-next l before b h
      (λ q x m. false_from_ne_true (shows_race x b)
      (λ t.
      let k = keeps.all x m (placed x t) in
      false≢true (sym (none k.0 k.1) ∙ races x k.0 k.2 t)))

  -- and b is kept
  pub keeps-more : (more : List Named) → AreNoted (named b.operation) lasts more → Keeps l more (before ++ b ∷ [])
  keeps-more more noted =
      record {
        only = λ n m.
            elim (noted.only n m) [
              | inl t ↦ let k = keeps.only n t in (k.0, has-left before (b ∷ []) k.0 k.1, k.2, k.3)
              | inr e ↦ (b, has-right before (b ∷ []) b (inl refl), on, e)
            ];
        all = λ a m q.
            elim (has-cases before (b ∷ []) a m) [
              | inl t ↦
                  let k = keeps.all a t q in
                  let w = noted.kept k.0 k.1 in
                  (w.0, w.1, up-trans (named a.operation) k.0 w.0 k.2 w.2)
              | inr (inl e) ↦
                  let w = noted.noted in
                  (w.0, w.1, subst (λ z. IsUpTo (named z.operation) w.0) e w.2)
              | inr (inr t) ↦ absurd t
            ];
      }

  -- where one races, b shows the first race of the place
  pub shown-now : IsQuiet l before → (f : Named) → IsFirst (races_by b.known (named b.operation)) lasts f
      → IsShown (before ++ b ∷ []) (record { loc = l; first = f.name; second = name_of b.operation })
  shown-now h f first =
      let k = keeps.only f first.has in
      let a = k.0 in
      let is : named a.operation ≡ f = k.3 in
      let thread : a.operation.thread ≡ f.name.thread = ap (λ (z : Named). z.name.thread) is in
      let index : a.operation.index ≡ f.name.index = ap (λ (z : Named). z.name.index) is in
      record {
        first = a;
        second = b;
        first_name = ap (λ (z : Named). z.name) is;
        second_name = refl;
        shown = record {
          front = before;
          rest = [];
          is = refl;
          place = on;
          before = k.1;
          race = shows a k.2 (subst (λ z. races_by b.known (named b.operation) z ≡ true) (sym is) first.race);
          none = h;
          lowest = λ x m t.
              let n = keeps.all x m (placed x t) in
              let low : f.name.thread ≤ n.0.name.thread = first.lowest n.0 n.1 (races x n.0 n.2 t) in
              let same : x.operation.thread ≡ n.0.name.thread = n.2.kind.thread in
              omega arith;
          last = λ x m t e.
              let n = keeps.all x m (placed x t) in
              let same : n.0.name.thread ≡ f.name.thread = sym n.2.kind.thread ∙ e ∙ thread in
              let low : n.0.name.index ≤ f.name.index = first.last n.0 n.1 (races x n.0 n.2 t) same in
              let high : x.operation.index ≤ n.0.name.index = n.2.index in
              omega arith;
        };
      }

none-some : (f : Named) → ◌≡◌ {A = Option Named} None (Some f) → ⊥
none-some f e = absurd cc

on-same : (l k : Loc) (o : Operation) → IsOn l o → IsOn k o → same_loc l k ≡ true
on-same l k o p q =
    subst (λ z. same_place z (Cell k) ≡ true) p (subst (λ z. same_place o.place z ≡ true) q (same-self o.place l p))
  where
    same-self : (p : Place) (l : Loc) → p ≡ Cell l → same_place p p ≡ true
    same-self p l e = subst (λ z. same_place z z ≡ true) (sym e) (same_loc-itself l)

-- what stands at one location is changed
pub record IsLooked (old new : Cells) (l : Loc) (cell : program.Cell) : Type 0 where
  pub kept : IsKept new
  pub at : (k : Loc) → cell_at new k ≡ cond (same_loc l k) cell (cell_at old k)

module _ (old new : Cells) (l : Loc) (cell : program.Cell) (before : List Sight) (b : Sight) (on : IsOn l b.operation)
    (look : IsLooked old new l cell) (walked : IsWalked old before) where
  here : (k : Loc) → same_loc l k ≡ true → cell_at new k ≡ cell
  here k t = look.at k ∙ cond-true (same_loc l k) cell (cell_at old k) t

  there : (k : Loc) → same_loc l k ≡ false → cell_at new k ≡ cell_at old k
  there k t = look.at k ∙ cond-false (same_loc l k) cell (cell_at old k) t

  others : (k : Loc) → same_loc l k ≡ false → (cell_at new k).raced ≡ false
      → IsQuiet k (before ++ b ∷ []) × Keeps k (cell_at new k).lasts (before ++ b ∷ [])
  others k t f =
      let e = there k t in
      let w = walked.quiet k (sym (ap (λ z. z.raced) e) ∙ f) in
      let apart : IsOn k b.operation → ⊥ = λ q. false≢true (sym t ∙ on-same l k b.operation on q) in (
        quiet-apart k before b apart w.0,
        keeps-apart k before b apart (cell_at new k).lasts (subst (λ z. Keeps k z.lasts before) (sym e) w.1),
      )

  -- where no race is found
  pub walked-quiet : new.found ≡ old.found
      → (cell.raced ≡ true → (cell_at old l).raced ≡ true)
      → (cell.raced ≡ false → IsQuiet l (before ++ b ∷ []) × Keeps l cell.lasts (before ++ b ∷ []))
      → IsWalked new (before ++ b ∷ [])
  walked-quiet same over settled =
      record {
        kept = look.kept;
        quiet = λ k f. elim (cases_Bool (same_loc l k)) [
          | inl t ↦
              let w = settled (sym (ap (λ z. z.raced) (here k t)) ∙ f) in
              let q = same_loc-true l k t in (
                subst (λ z. IsQuiet z (before ++ b ∷ [])) q w.0,
                subst (λ z. Keeps k z.lasts (before ++ b ∷ [])) (sym (here k t)) (subst (λ z. Keeps z cell.lasts (before ++ b ∷ [])) q w.1),
              )
          | inr t ↦ others k t f
        ];
        raced = λ k f. elim (cases_Bool (same_loc l k)) [
          | inl t ↦
              let q = same_loc-true l k t in
              let r = over (sym (ap (λ z. z.raced) (here k t)) ∙ f) in
              let w = walked.raced k (subst (λ z. (cell_at old z).raced ≡ true) q r) in
              (w.0, subst (λ z. Has (races_in z) w.0) (sym same) w.1, w.2)
          | inr t ↦
              let w = walked.raced k (sym (ap (λ z. z.raced) (there k t)) ∙ f) in
              (w.0, subst (λ z. Has (races_in z) w.0) (sym same) w.1, w.2)
        ];
        found = λ r h. shown-later before b r (walked.found r (subst (λ z. Has (races_in z) r) same h));
      }

  -- where one is found
  pub walked-raced : (race : Race) → race.loc ≡ l → ArePut race (races_in old.found) (races_in new.found)
      → cell.raced ≡ true → IsShown (before ++ b ∷ []) race → IsWalked new (before ++ b ∷ [])
  walked-raced race at put over shown =
      record {
        kept = look.kept;
        quiet = λ k f. elim (cases_Bool (same_loc l k)) [
          | inl t ↦ absurd (false≢true (sym f ∙ ap (λ z. z.raced) (here k t) ∙ over))
          | inr t ↦ others k t f
        ];
        raced = λ k f. elim (cases_Bool (same_loc l k)) [
          | inl t ↦ (race, put.has, at ∙ same_loc-true l k t)
          | inr t ↦
              let w = walked.raced k (sym (ap (λ z. z.raced) (there k t)) ∙ f) in
              let m = put.kept w.0 w.1 in
              (m.0, m.1, m.2 ∙ w.2)
        ];
        found = λ r h. elim (put.only r h) [
          | inl t ↦ shown-later before b r (walked.found r t)
          | inr e ↦ subst (IsShown (before ++ b ∷ [])) e shown
        ];
      }

-- tests that say the same find the same
found-same : (test again : Named → Bool) → ((n : Named) → test n ≡ again n) → (xs : List Named) (o : Option Named) → IsFound test xs o → IsFound again xs o
found-same test again e xs None h = λ n m. sym (e n) ∙ h n m
found-same test again e xs (Some a) h =
    record {
      has = h.has;
      race = sym (e a) ∙ h.race;
      lowest = λ n m t. h.lowest n m (e n ∙ t);
      last = λ n m t q. h.last n m (e n ∙ t) q;
    }

races-same : (f g : Clock) (now then : Named) → now ≡ then → ((u : ℕ) → f u ≡ g u) → (n : Named) → races_by f now n ≡ races_by g then n
races-same f g now then q e n =
    ap (λ z. races_by f z n) q
    ∙ ap (λ z. not (n.name.thread == then.name.thread) && ((n.name.write || then.name.write) && (not (n.strict && then.strict) && nat_le z n.name.index))) (e n.name.thread)

-- what the program's look at a location gives
module _ (old new : Cells) (l : Loc) (cell : program.Cell) (before : List Sight) (b : Sight) (on : IsOn l b.operation)
    (look : IsLooked old new l cell) (walked : IsWalked old before) (row : List ℕ) (now : Named) (is : named b.operation ≡ now)
    (knows : (u : ℕ) → slice_index row u ≡ b.known u) (o : Option Named)
    (over : (cell_at old l).raced ≡ true → (cell.raced ≡ true) × (o ≡ None))
    (found : (cell_at old l).raced ≡ false → IsFound (races_by (λ u. slice_index row u) now) (cell_at old l).lasts o)
    (raced : (cell_at old l).raced ≡ false → cell.raced ≡ is_some o)
    (noted : cell.raced ≡ false → AreNoted now (cell_at old l).lasts cell.lasts) where
  finds : (cell_at old l).raced ≡ false → IsFound (races_by b.known (named b.operation)) (cell_at old l).lasts o
  finds f =
      found-same (races_by (λ u. slice_index row u) now) (races_by b.known (named b.operation))
      (races-same (λ u. slice_index row u) b.known now (named b.operation) (sym is) knows) (cell_at old l).lasts o (found f)

  pub looked-none : o ≡ None → new.found ≡ old.found → IsWalked new (before ++ b ∷ [])
  looked-none e same =
      walked-quiet old new l cell before b on look walked same
      (λ t. elim (cases_Bool (cell_at old l).raced) [
        | inl k ↦ k
        | inr f ↦ absurd (false≢true (sym (raced f ∙ ap is_some e) ∙ t))
      ])
      (λ t. elim (cases_Bool (cell_at old l).raced) [
        | inl k ↦ absurd (false≢true (sym t ∙ (over k).0))
        | inr f ↦
            let w = walked.quiet l f in
            let none = subst (IsFound (races_by b.known (named b.operation)) (cell_at old l).lasts) e (finds f) in (
              quiet-more l before b on (cell_at old l).lasts w.1 w.0 none,
              keeps-more l before b on (cell_at old l).lasts w.1 cell.lasts
                  (subst (λ z. AreNoted z (cell_at old l).lasts cell.lasts) (sym is) (noted t)),
            )
      ])

  pub looked-some : (f : Named) → o ≡ Some f
      → ArePut (record { loc = l; first = f.name; second = now.name }) (races_in old.found) (races_in new.found)
      → IsWalked new (before ++ b ∷ [])
  looked-some f e put =
      elim (cases_Bool (cell_at old l).raced) [
        | inl k ↦ absurd (none-some f (sym (over k).1 ∙ e))
        | inr q ↦
            let w = walked.quiet l q in
            let race : Race = record { loc = l; first = f.name; second = now.name } in
            let first = subst (IsFound (races_by b.known (named b.operation)) (cell_at old l).lasts) e (finds q) in
            let shown = shown-now l before b on (cell_at old l).lasts w.1 w.0 f first in
            walked-raced old new l cell before b on look walked race refl put (raced q ∙ ap is_some e)
            (subst (λ (z : Named). IsShown (before ++ b ∷ []) (record { loc = l; first = f.name; second = z.name })) is shown)
      ]

-- one more of these operations on a location
pub walked-seen : (c : Cells) (before : List Sight) (k : Clock) (os : List Operation) (l : Loc) (names : List Named) (i : ℕ) (d : Named)
    → names ≡ map named os → Each (IsOn l) os → i < length names
    → ((o : Operation) → IsOn l o → named o ≡ get_or names i d → IsWalked c ((before ++ seen_with k (take i os)) ++ record { operation = o; known = k } ∷ []))
    → IsWalked c (before ++ seen_with k (take (i + 1) os))
walked-seen c before k os l names i d q each lt go =
    let e : Operation = record { thread = 0; index = 0; write = false; strict = false; place = Sync; value = zero } in
    let o = get_or os i e in
    let many : length names ≡ length os = ap length q ∙ length-map os named in
    let below : i < length os = omega arith in
    let see : Operation → Sight = λ z. record { operation = z; known = k } in
    let name : named o ≡ get_or names i d = sym (ap (λ z. get_or z i d) q ∙ get_or-map named os i e d below) in
    subst (IsWalked c)
    (append_assoc before (seen_with k (take i os)) (see o ∷ []) ∙ ap (λ z. before ++ z) (sym (map_more see os i e below)))
    (go o (each-has (IsOn l) os each o (get-has os i e below)) name)

-- an operation that is on no location
pub walked-skip : (c : Cells) (before : List Sight) (b : Sight) → ((l : Loc) → IsOn l b.operation → ⊥) → IsWalked c before → IsWalked c (before ++ b ∷ [])
walked-skip c before b apart w =
    record {
      kept = w.kept;
      quiet = λ k f.
          let o = w.quiet k f in
          (quiet-apart k before b (apart k) o.0, keeps-apart k before b (apart k) (cell_at c k).lasts o.1);
      raced = w.raced;
      found = λ r h. shown-later before b r (w.found r h);
    }
