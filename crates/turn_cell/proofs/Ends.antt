-- The first seats and the last.
use Rattle.std.proofs.Common.{◌≡◌, ◌≢◌, ℕ, zero, suc, ◌+◌, ◌-◌, ◌<◌, ◌≤◌, Bool, true, false, true≢false, List, [], ◌∷◌, ◌++◌, map, length, length-append, take, drop, Some, refl, ap, sym, subst, ◌∙◌, arith}
use mathlib.Core.List.{IsPrefix}
use mathlib.Core.Option.{some, some-injective, some-ne-none}
use mathlib.Core.Logic.{dite}
use native.Mathlib.Decide.{ℕ_discrete}
use lib.ListN.{get_elem?}
use Rattle.turn_cell.proofs.Beginnings.{all_map, prefix_trans}
use Rattle.std.specs.Prelude.{Option}
use Rattle.atomic_table.specs.Seated.{TableId}
use Rattle.atomic_table.specs.Table.{State, Me, Seen, Final, opening}
use Rattle.turn_cell.specs.declared.view.View.{View}
use Rattle.turn_cell.specs.declared.view.Part.{Part}
use Rattle.turn_cell.specs.declared.seat.Seat.{Seat}
use Rattle.turn_cell.specs.layer.Members.{of, Every}
use Rattle.turn_cell.specs.layer.Seats.{part, seated, AreNew, IsNew, AreFree, IsFree, HasAll, cell_of, number_of, first_own}
use Rattle.turn_cell.specs.code.Rule.{blanks, starting, without_first, first_alone, Fits, Turned, left_view, collect}

pub blanks_above : (M : Type 0) (k n j : ℕ) → j < k → Every (λ (q : Part M). q.number ≢ j) (blanks k n)
blanks_above M k zero j lt = tt
blanks_above M k (suc n) j lt = ((λ e. omega arith), blanks_above M (suc k) n j (omega arith))

pub blanks_next : (M : Type 0) (k n : ℕ) → k < n → blanks {M = M} k (n - k) ≡ part k [] ∷ blanks (suc k) (n - suc k)
blanks_next M k n lt = let e : n - k ≡ suc (n - suc k) = omega arith in ap (blanks {M = M} k) e

module _ (M : Type 0) {O : Type 0} (o : O) where
  pub goes_on : (i n : ℕ) → i < n → without_first (starting {M = M} o i (n - i)) ≡ starting o (i + 1) (n - (i + 1))
  goes_on i n lt = let up : suc i ≡ i + 1 = omega arith in
      ap (λ ps. let v : View M O = record { holds = false; seen = []; parts = drop 1 ps; olds = []; opening = Some o } in v) (blanks_next M i n lt) ∙ ap (λ k. starting {M = M} o k (n - k)) up

  pub goes_out : (i n : ℕ) → i < n → first_alone (starting {M = M} o i (n - i)) ≡ seated (Some o) i [] []
  goes_out i n lt = ap (λ ps. let v : View M O = record { holds = false; seen = []; parts = take 1 ps; olds = []; opening = Some o } in v) (blanks_next M i n lt)

module _ {M : Type 0} (number : M → ℕ) (all : List M) (owner : ℕ → ℕ) (id : ℕ) (n : ℕ) where
  -- what the rule says of a number that a view has
  abbrev pub Keeps : Part M → Type 0
  Keeps p = (p.number < n) × (owner p.number ≡ id) × (p.own ≡ of number p.number all)

  parts_split : (ps qs : List (Part M)) → Every Keeps (ps ++ qs) → Every Keeps ps × Every Keeps qs
  parts_split [] qs h = (tt, h)
  parts_split (p ∷ ps) qs h = let r = parts_split ps qs h.1 in ((h.0, r.0), r.1)

not_held : (b : Bool) → (b ≡ true → ⊥) → b ≡ false
not_held true f = absurd (f refl)
not_held false f = refl

module _ {W M O : Type 0} (members : W → List M) (number : M → ℕ) where
  -- what the seat has added, after a turn
  pub left_own : (v : View M O) (w : W) (n : ℕ) (own : List M) → v.parts ≡ part n own ∷ [] → first_own (left_view members number v w).parts ≡ of number n (members w)
  left_own v w n own has = ap (λ (ps : List (Part M)). first_own (map (λ p. part p.number (of number p.number (members w))) ps)) has

module _ {W M O : Type 0} where
  pub new_snoc : (z : TableId) (o : O) (k j : ℕ) (ss : List (Seat W M O)) (s : Seat W M O) → AreNew z o k ss → k + length ss ≡ j → IsNew z o j s → AreNew z o k (ss ++ s ∷ [])
  new_snoc z o k j [] s h e new = let e' : j ≡ k = omega (arith, e) in (subst (λ (n : ℕ). IsNew z o n s) e' new, tt)
  new_snoc z o k j (t ∷ ss) s h e new = (h.0, new_snoc z o (suc k) j ss s h.1 (omega (arith, e)) new)

  module _ (members : W → List M) (opened : W → O) (number : M → ℕ) where
    parts_fit : (k n all : ℕ) → k + n ≡ all → Every (λ (p : Part M). (p.number < all) × (let z : ℕ = 0 in z ≡ z) × (p.own ≡ of number p.number []) × (p.own ≡ of number p.number [])) (blanks k n)
    parts_fit k zero all e = tt
    parts_fit k (suc n) all e = ((omega (arith, e), refl, refl, refl), parts_fit (suc k) n all (omega (arith, e)))

    first_fits : (w : W) (seats j : ℕ) (v : View M O) → get_elem? (starting (opened w) 0 seats ∷ []) j ≡ some v → Fits number false 0 (λ _. 0) [] (opened w) seats j v
    first_fits w seats zero v e = subst (λ (u : View M O). Fits number false 0 (λ _. 0) [] (opened w) seats 0 u) (some-injective _ _ e) record {
      seen = ([], refl);
      parts = parts_fit 0 seats seats (omega arith);
      olds = tt;
      holder = λ e. absurd (true≢false (sym e));
      opened = λ x e. cc e;
    }
    first_fits w seats (suc j) v e = absurd (some-ne-none v (sym e))

    pub starts : (w : W) (seats : ℕ) (slots : List (Option W)) → slots ≡ Some w ∷ [] → members w ≡ [] → Turned members opened number (opened w) seats (opening (0 ∷ []) slots (starting (opened w) 0 seats))
    starts w seats slots one none_yet = subst (λ (xs : List (Option W)). Turned members opened number (opened w) seats (opening (0 ∷ []) xs (starting (opened w) 0 seats))) (sym one) record {
      all = [];
      held = false;
      writer = 0;
      owner = λ _. 0;
      words = refl;
      deep = refl;
      short = omega arith;
      named = tt;
      home = λ _. (w, refl, none_yet, refl);
      taken = λ e. absurd (true≢false (sym e));
      each = first_fits w seats;
    }

  pub free_there : (number : M → ℕ) (z : TableId) (k : ℕ) (xs : List (Seat W M O)) (s : Seat W M O) (ys : List (Seat W M O)) → AreFree number z k (xs ++ s ∷ ys) → (cell_of s ≡ z) × IsFree number s
  free_there number z k [] s ys h = (h.0.0, h.0.2)
  free_there number z k (x ∷ xs) s ys h = free_there number z (suc k) xs s ys h.1

  module _ (number : M → ℕ) (all : List M) (owner : ℕ → ℕ) (id : ℕ) (n : ℕ) where
    -- what the seats' views as one say of each seat
    pub closes : (z : TableId) (k : ℕ) (ss : List (Seat W M O)) (last : Seat W M O) → AreFree number z k (ss ++ last ∷ []) → IsPrefix (collect last.place.me.0 ss).seen all
        → Every (λ old. IsPrefix old all) (collect last.place.me.0 ss).olds → Every (Keeps number all owner id n) (collect last.place.me.0 ss).parts
        → HasAll number all (ss ++ last ∷ []) × ((j : ℕ) → k ≤ j → j < k + suc (length ss) → owner j ≡ id) × ((collect last.place.me.0 ss).holds ≡ false)
    closes z k [] last free seen olds parts =
        let f = free.0.2 in let one = subst (Every (Keeps number all owner id n)) f.0.0 parts in (
          ((seen, sym one.0.2), tt),
          (λ j low high. let e : j ≡ number_of last = omega (arith, free.0.1) in ap owner e ∙ one.0.1),
          f.1,
        )
    closes z k (s ∷ ss) last free seen olds parts =
        let cut = parts_split number all owner id n (collect last.place.me.0 ss).parts s.place.me.0.parts parts in
        let f = free.0.2 in let one = subst (Every (Keeps number all owner id n)) f.0.0 cut.1 in
        let more = closes z (suc k) ss last free.1 olds.0 olds.1.1 cut.0 in (
          ((olds.1.0, sym one.0.2), more.0),
          (λ j low high. dite (ℕ_discrete j k)
              (λ e. let e' : j ≡ number_of s = omega (arith, free.0.1) in ap owner e' ∙ one.0.1)
              (λ ne. more.1 j (omega arith) (omega arith))),
          more.2,
        )

  module _ (members : W → List M) (opened : W → O) (number : M → ℕ) (o : O) (seats : ℕ) where
    -- the last state, seen by the seat that has all numbers
    pub ends : (z : TableId) (s : State (Option W) (View M O)) (id : ℕ) (ss : List (Seat W M O)) (last : Seat W M O) → AreFree number z 0 (ss ++ last ∷ []) → suc (length ss) ≡ seats
        → Turned members opened number o seats s → get_elem? s.views id ≡ some (collect last.place.me.0 ss)
        → (w : W) × (get_elem? s.homes 0 ≡ some (some (Some w))) × (opened w ≡ o) × HasAll number (members w) (ss ++ last ∷ []) × Every (λ m. number m < seats) (members w)
    ends z s id ss last free count r at =
        let v : View M O = collect last.place.me.0 ss in let fits = r.each id v at in
        let c = closes number r.all r.owner id seats z 0 ss last free fits.seen (all_map _ _ (λ l k. prefix_trans l v.seen r.all k fits.seen) v.olds fits.olds) (all_map _ _ (λ p k. (k.0, k.1, k.2)) v.parts fits.parts) in
        let free_of : r.held ≡ false = not_held r.held (λ h. let t = r.taken h in let mine = c.1 t.0 (omega arith) (omega (arith, count)) in
        true≢false (sym t.5 ∙ (ap (λ (x : View M O). x.holds) (some-injective _ _ (sym t.4 ∙ (ap (get_elem? s.views) (sym t.3 ∙ mine) ∙ at))) ∙ c.2))) in
        let h = r.home free_of in (h.0, ap (λ hs. get_elem? hs 0) h.1, h.3, subst (λ l. HasAll number l (ss ++ last ∷ [])) (sym h.2) c.0, subst (Every (λ m. number m < seats)) (sym h.2) r.named)

    pub closed_with : (z : TableId) (id : ℕ) (me : Me (Option W) (View M O)) (items ss : List (Seat W M O)) (last : Seat W M O) (ws : List ℕ) (xs : List (Option W)) (slot : Option W)
        → AreFree number z 0 items → length items ≡ seats → items ≡ ss ++ last ∷ [] → me ≡ (collect last.place.me.0 ss, [])
        → Final (Seen (Turned members opened number o seats) id me.0) ws xs → get_elem? xs 0 ≡ some slot
        → (w : W) × (slot ≡ Some w) × (opened w ≡ o) × HasAll number (members w) items × Every (λ m. number m < seats) (members w)
    closed_with z id me items ss last ws xs slot free count is all final at =
        let s = final.0 in
        let e = ends z s id ss last (subst (AreFree number z 0) is free) (omega (arith, count, ap length is, length-append ss (last ∷ []))) final.1.0 (final.1.1 ∙ ap (λ m. some m.0) all) in
        (e.0, some-injective _ _ (sym at ∙ final.4 0 (Some e.0) e.1), e.2, subst (HasAll number (members e.0)) (sym is) e.3, e.4)
