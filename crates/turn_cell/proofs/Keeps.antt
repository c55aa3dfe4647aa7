-- Each step keeps the rule of the turn cell.
use Rattle.std.proofs.Common.{◌≡◌, ◌≢◌, ℕ, ◌+◌, ◌*◌, ◌%◌, ◌^◌, ◌<◌, eqb, cond, Bool, true, false, true≢false, List, [], ◌∷◌, ◌++◌, map, length, get_or, set, take, drop, Some, refl, ap, sym, subst, ◌∙◌, ⊎_elim, arith, length-set, append-nil, eq-eqb, ne_eqb}
use mathlib.Core.Logic.{dite}
use mathlib.Core.List.{IsPrefix}
use mathlib.Core.Option.{some, none, some-injective, some-ne-none}
use mathlib.Core.Option as maybe
use native.Mathlib.Decide.{ℕ_discrete}
use lib.ListN.{get_elem?}
use lib.Seq.{set-get_or}
use prog.Atomic.{either}
use Rattle.std.specs.Prelude.{Option}
use Rattle.atomic_table.specs.Table.{State, Me, step, keeps, takes, gives, put_back, rest, stepped, Allows, Splits, Joins}
use Rattle.atomic_table.proofs.Lists.{at_set, set_here, set_again, set_else, at_snoc, at_longer}
use Rattle.turn_cell.specs.declared.view.View.{View}
use Rattle.turn_cell.specs.declared.view.Part.{Part}
use Rattle.turn_cell.specs.layer.Members.{of, Every, longer}
use Rattle.turn_cell.specs.layer.Seats.{part}
use Rattle.turn_cell.specs.code.Rule.{Fits, Turned, bit, entered, left, left_view, joined, note, met, spent, without_first, first_alone}
use Rattle.turn_cell.proofs.Beginnings.{inside, prefix_self, prefix_trans, prefix_whole, prefix_length, all_map, all_append, of-append, of-none, of-between, longer_of, at_end, all_both}

abbrev redirect : ℕ → ℕ → ℕ → ℕ
redirect other id k = cond (eqb k other) id k

redirect_here : (other id : ℕ) → redirect other id other ≡ id
redirect_here other id = ap (λ b. cond b id other) (eq-eqb other other refl)

redirect_else : (other id k : ℕ) → k ≢ other → redirect other id k ≡ k
redirect_else other id k ne = ap (λ b. cond b id k) (ne_eqb k other ne)

abbrev redirected : ℕ → ℕ → ℕ → ℕ → ℕ
redirected p new old n = cond (eqb n p) new old

redirected_here : (p new old : ℕ) → redirected p new old p ≡ new
redirected_here p new old = ap (λ b. cond b new old) (eq-eqb p p refl)

redirected_else : (p new old n : ℕ) → n ≢ p → redirected p new old n ≡ old
redirected_else p new old n ne = ap (λ b. cond b new old) (ne_eqb n p ne)

-- what begins the whole and begins with the whole is the whole
ends : {A : Type 0} (xs ys zs : List A) → IsPrefix xs ys → IsPrefix ys zs → xs ≡ zs → ys ≡ zs
ends xs ys zs p q e = prefix_whole ys zs q (let a = prefix_length xs ys p in let b = ap length e in omega arith)

module _ {W M O : Type 0} (members : W → List M) (opening : W → O) (number : M → ℕ) (o : O) (seats : ℕ) where
  abbrev V : Type 0
  V = View M O

  abbrev St : Type 0
  St = State (Option W) V

  abbrev Rule : St → Type 0
  Rule = Turned members opening number o seats

  -- a change of one view, where the words, the slot and the list stay
  revised : (s : St) (r : Rule s) (id : ℕ) (v w : V) → get_elem? s.views id ≡ some v → (v.holds ≡ true → w.holds ≡ true) → Fits number r.held r.writer r.owner r.all o seats id w
      → Rule record { words = s.words; homes = s.homes; views = set s.views id w }
  revised s r id v w at still fits = record {
    all = r.all;
    held = r.held;
    writer = r.writer;
    owner = r.owner;
    words = r.words;
    deep = r.deep;
    short = r.short;
    named = r.named;
    home = r.home;
    taken = λ h. let t = r.taken h in dite (ℕ_discrete r.writer id)
        (λ e. (t.0, w, t.2, t.3, ap (get_elem? (set s.views id w)) e ∙ set_here s.views id w (inside s.views id v at), still (ap (λ (x : V). x.holds) (some-injective _ _ (sym at ∙ (ap (get_elem? s.views) (sym e) ∙ t.4))) ∙ t.5)))
        (λ ne. (t.0, t.1, t.2, t.3, set_else s.views id r.writer w ne ∙ t.4, t.5));
    each = λ j x h. ⊎_elim (λ (t : (j ≡ id) × (w ≡ x)). subst (λ (p : ℕ × V). Fits number r.held r.writer r.owner r.all o seats p.0 p.1) (λ i. (sym t.0 i, t.1 i)) fits)
        (λ (t : (j ≢ id) × (get_elem? s.views j ≡ some x)). r.each j x t.1) (at_set s.views id j w x h);
  }

  -- a step that changes no word
  unmoved : (s : St) (r : Rule s) (i id : ℕ) (cs : List (ℕ × Option W)) (v w : V) → get_elem? s.views id ≡ some v → (v.holds ≡ true → w.holds ≡ true)
      → Fits number r.held r.writer r.owner r.all o seats id w → Rule (stepped s i (get_or s.words i 0) id cs w keeps)
  unmoved s r i id cs v w at still fits = subst (λ (ws : List ℕ). Rule record { words = ws; homes = s.homes; views = set s.views id w }) (sym (set-get_or s.words i 0)) (revised s r id v w at still fits)

  word_is : (s : St) (r : Rule s) → get_or s.words 0 0 ≡ 2 * length r.all + bit members opening number o seats r.held
  word_is s r = ap (λ (ws : List ℕ). get_or ws 0 0) r.words

  free_if_even : (b : Bool) (n : ℕ) → (2 * n + bit members opening number o seats b) % 2 ≡ 0 → b ≡ false
  free_if_even true n e = absurd (omega arith)
  free_if_even false n e = refl

  pub enters : (slots id : ℕ) (me : Me (Option W) V) (old new : ℕ) (said : maybe.Option (Option W)) (p : Part M) (ps : List (Part M)) → me.0.parts ≡ p ∷ ps → old % 2 ≡ 0 → new ≡ old + 1
      → Allows Rule slots id me 0 (λ x. either (eqb x old) new x) (entered members opening number (step slots 0 old new said) me)
  enters slots id me old new said p ps has even up s r _ at _ = let x : ℕ = get_or s.words 0 0 in let fits = r.each id me.0 at in dite (ℕ_discrete x old)
      (λ hit.
      let free : r.held ≡ false = free_if_even r.held (length r.all) (ap (λ (z : ℕ). z % 2) (sym (word_is s r) ∙ hit) ∙ even) in
      let h = r.home free in let w = h.0 in let v : V = record me.0 { holds = true; seen = members w } in
      let mine = subst (λ (q : List (Part M)). Every (λ (p : Part M). (p.number < seats) × (r.owner p.number ≡ id) × (p.own ≡ of number p.number r.all) × (p.own ≡ of number p.number me.0.seen)) q) has fits.parts in
      let begins : IsPrefix me.0.seen (members w) = subst (IsPrefix me.0.seen) (sym h.2) fits.seen in (
        v,
        takes 0 (Some w),
        ap (λ (hs : List (maybe.Option (Option W))). get_elem? hs 0) h.1,
        subst (λ b. Rule (stepped s 0 (either b new x) id me.1 v (takes 0 (Some w)))) (sym (eq-eqb x old hit)) record {
          all = r.all;
          held = true;
          writer = id;
          owner = r.owner;
          words = ap (λ (ws : List ℕ). set ws 0 new) r.words ∙ ap (λ (k : ℕ). k ∷ []) (let e = word_is s r in let f = ap (λ (b : Bool). 2 * length r.all + bit members opening number o seats b) free in omega arith);
          deep = length-set s.homes 0 _ ∙ r.deep;
          short = r.short;
          named = r.named;
          home = λ e. absurd (true≢false e);
          taken = λ _. (p.number, v, mine.0.0, mine.0.1, set_here s.views id v (inside s.views id me.0 at), refl);
          each = λ j y g. ⊎_elim
              (λ (t : (j ≡ id) × (v ≡ y)). subst (λ (q : ℕ × V). Fits number true id r.owner r.all o seats q.0 q.1) (λ i. (sym t.0 i, t.1 i)) record {
                seen = subst (λ (l : List M). IsPrefix l r.all) (sym h.2) (prefix_self r.all);
                parts = all_map _ _ (λ q k. (k.0, k.1, k.2, k.2 ∙ ap (of number q.number) (sym h.2))) me.0.parts fits.parts;
                olds = all_map _ _ (λ l k. prefix_trans l me.0.seen (members w) k begins) me.0.olds fits.olds;
                holder = λ _. (refl, refl, h.2);
                opened = fits.opened;
              })
              (λ (t : (j ≢ id) × (get_elem? s.views j ≡ some y)). let k = r.each j y t.1 in record {
                seen = k.seen;
                parts = k.parts;
                olds = k.olds;
                holder = λ e. absurd (true≢false (sym (k.holder e).0 ∙ free));
                opened = k.opened;
              }) (at_set s.views id j v y g);
        },
        (
          λ _. (
            w,
            refl,
            begins,
            subst (λ (l : List M). length l < 2 ^ 62) (sym h.2) r.short,
            (λ y e. h.3 ∙ sym (fits.opened y e)),
            all_map _ _ (λ q k. (k.2 ∙ ap (of number q.number) (sym h.2), k.3)) me.0.parts fits.parts,
          ),
          λ ne. absurd (ne hit),
        ),
      ))
      (λ miss. (
        me.0,
        keeps,
        tt,
        subst (λ b. Rule (stepped s 0 (either b new x) id me.1 me.0 keeps)) (sym (ne_eqb x old miss)) (unmoved s r 0 id me.1 me.0 me.0 at (λ e. e) fits),
        ((λ hit. absurd (miss hit)), λ _. refl),
      ))

  -- what is in the slot, if it is in hand
  abbrev in_hand : W → List (ℕ × Option W) → W
  in_hand d ((k, Some w) ∷ cs) = w
  in_hand d _ = d

  set_one : {A : Type 0} (l : List A) (a : A) → length l ≡ 1 → set l 0 a ≡ a ∷ []
  set_one [] a e = absurd (omega arith)
  set_one (x ∷ []) a e = refl
  set_one (x ∷ y ∷ l) a e = absurd (omega arith)

  pub leaves : (slots id : ℕ) (me : Me (Option W) V) (w : W) (n : ℕ) (own added : List M) (new : ℕ) → me.0.holds ≡ true → me.0.parts ≡ part n own ∷ [] → me.0.opening ≡ Some (opening w)
      → me.1 ≡ (0, Some w) ∷ [] → members w ≡ me.0.seen ++ added → Every (λ m. number m ≡ n) added → length (members w) < 2 ^ 62 → new ≡ 2 * length (members w)
      → Allows Rule slots id me 0 (λ _. new) (λ _. left members number (step slots 0 new 0 none) me new)
  leaves slots id me w n own added new holds has opens carried grows named short up s r _ at _ =
      let fits = r.each id me.0 at in let h = fits.holder holds in
      let mine = subst (λ (q : List (Part M)). Every (λ (p : Part M). (p.number < seats) × (r.owner p.number ≡ id) × (p.own ≡ of number p.number r.all) × (p.own ≡ of number p.number me.0.seen)) q) has fits.parts in
      let v : V = left_view members number me.0 w in
      let seen_more : IsPrefix me.0.seen (members w) = (added, sym grows) in
      let more : IsPrefix r.all (members w) = subst (λ (l : List M). IsPrefix l (members w)) h.2 seen_more in (
        v,
        gives,
        tt,
        record {
          all = members w;
          held = false;
          writer = 0;
          owner = r.owner;
          words = ap (λ (ws : List ℕ). set ws 0 new) r.words ∙ ap (λ (k : ℕ). k ∷ []) (omega (arith, up));
          deep = ap (λ (cs : List (ℕ × Option W)). length (put_back s.homes cs)) carried ∙ (length-set s.homes 0 _ ∙ r.deep);
          short = short;
          named = subst (Every (λ m. number m < seats)) (sym grows) (all_append _ me.0.seen added (subst (Every (λ m. number m < seats)) (sym h.2) r.named)
              (all_map _ _ (λ m e. subst (λ (k : ℕ). k < seats) (sym e) mine.0.0) added named));
          home = λ _. (w, ap (λ (cs : List (ℕ × Option W)). put_back s.homes cs) carried ∙ set_one s.homes (some (Some w)) r.deep, refl, fits.opened (opening w) opens);
          taken = λ e. absurd (true≢false (sym e));
          each = λ j y g. ⊎_elim
              (λ (t : (j ≡ id) × (v ≡ y)). subst (λ (q : ℕ × V). Fits number false 0 r.owner (members w) o seats q.0 q.1) (λ i. (sym t.0 i, t.1 i)) record {
                seen = prefix_self (members w);
                parts = subst (λ (q : List (Part M)). Every (λ (p : Part M). (p.number < seats) × (r.owner p.number ≡ id) × (p.own ≡ of number p.number (members w)) × (p.own ≡ of number p.number (members w))) (map (λ (p : Part M). part p.number (of number p.number (members w))) q)) (sym has)
                    ((mine.0.0, mine.0.1, refl, refl), tt);
                olds = all_map _ _ (λ l k. prefix_trans l me.0.seen (members w) k seen_more) me.0.olds fits.olds;
                holder = λ e. absurd (true≢false (sym e));
                opened = fits.opened;
              })
              (λ (t : (j ≢ id) × (get_elem? s.views j ≡ some y)). let k = r.each j y t.1 in record {
                seen = prefix_trans y.seen r.all (members w) k.seen more;
                parts = all_map _ _ (λ q f. let ne : q.number ≢ n = (λ e. t.0 (sym f.1 ∙ (ap r.owner e ∙ mine.0.1))) in
                    (f.0, f.1, f.2 ∙ sym (ap (of number q.number) grows ∙ (of-append number q.number me.0.seen added ∙ (ap (λ (l : List M). of number q.number me.0.seen ++ l) (of-none number n q.number added ne named) ∙ (append-nil (of number q.number me.0.seen) ∙ ap (of number q.number) h.2)))), f.3)) y.parts k.parts;
                olds = k.olds;
                holder = λ e. absurd (t.0 ((k.holder e).1 ∙ sym h.1));
                opened = k.opened;
              }) (at_set s.views id j v y g);
        },
        λ u c. ap (λ (z : W × List (ℕ × Option W)). let m : Me (Option W) V = (left_view members number me.0 z.0, z.1) in m) (λ i. (ap (in_hand w) (sym carried ∙ c) i, ap rest carried i)),
      )

  module _ (id : ℕ) (v : V) where
    -- a note has no number
    pub notes : Splits Rule id v v (note v)
    notes s r at = let fits = r.each id v at in let vs : List V = set s.views id v in let same : vs ≡ s.views = set_again s.views id v at in
        subst (λ (l : List V). Rule record { words = s.words; homes = s.homes; views = l ++ note v ∷ [] }) (sym same) record {
          all = r.all;
          held = r.held;
          writer = r.writer;
          owner = r.owner;
          words = r.words;
          deep = r.deep;
          short = r.short;
          named = r.named;
          home = r.home;
          taken = λ h. let t = r.taken h in (t.0, t.1, t.2, t.3, at_longer s.views (note v ∷ []) r.writer t.1 t.4, t.5);
          each = λ j y g. ⊎_elim (r.each j y) (λ (t : note v ≡ y). subst (λ (z : V). Fits number r.held r.writer r.owner r.all o seats j z) t record {
            seen = fits.seen;
            parts = tt;
            olds = tt;
            holder = λ e. absurd (true≢false (sym e));
            opened = fits.opened;
          }) (at_snoc s.views (note v) y j g);
        }

    -- what a look tells of the joined lists
    pub meets : (slots : ℕ) (cs : List (ℕ × Option W)) → Allows Rule slots id (v, cs) 0 (λ n. n) (met {W = W} number (step slots 0 0 0 none) (v, cs))
    meets slots cs s r _ at _ = let fits = r.each id v at in let w : V = record v { olds = [] } in (
      w,
      keeps,
      tt,
      unmoved s r 0 id cs v w at (λ e. e) record {
        seen = fits.seen;
        parts = fits.parts;
        olds = tt;
        holder = fits.holder;
        opened = fits.opened;
      },
      (refl, fits.olds, all_map _ _ (λ q k. k.3) v.parts fits.parts),
    )

    -- a seat that is free of a turn takes in another
    pub joins : (other : ℕ) (w : V) → w.holds ≡ false → Joins Rule id v other w (joined v w) spent
    joins other w free s r at apart there =
        let b : V = joined v w in
        let there' : get_elem? s.views other ≡ some w = sym (set_else s.views id other b apart) ∙ there in
        let fits = r.each id v at in let gits = r.each other w there' in let long = longer_of number v.seen w.seen r.all fits.seen gits.seen in
        let own : ℕ → ℕ = λ n. redirect other id (r.owner n) in
        let stays : (j : ℕ) → j ≢ other → (n : ℕ) → r.owner n ≡ j → own n ≡ j = λ j ne n e. redirect_else other id (r.owner n) (λ h. ne (sym e ∙ h)) ∙ e in
        let away : id ≢ other = λ e. apart (sym e) in
        let still : r.held ≡ true → r.writer ≢ other = (λ h e. let t = r.taken h in
        true≢false (sym t.5 ∙ (ap (λ (x : V). x.holds) (some-injective _ _ (sym t.4 ∙ (ap (get_elem? s.views) e ∙ there'))) ∙ free))) in record {
          all = r.all;
          held = r.held;
          writer = r.writer;
          owner = own;
          words = r.words;
          deep = r.deep;
          short = r.short;
          named = r.named;
          home = r.home;
          taken = λ h. let t = r.taken h in let ne = still h in
              let now = set_else (set s.views id b) other r.writer spent ne in dite (ℕ_discrete r.writer id)
              (λ e. (
                t.0,
                b,
                t.2,
                stays r.writer ne t.0 t.3,
                now ∙ (ap (get_elem? (set s.views id b)) e ∙ set_here s.views id b (inside s.views id v at)),
                ap (λ (x : V). x.holds) (some-injective _ _ (sym at ∙ (ap (get_elem? s.views) (sym e) ∙ t.4))) ∙ t.5,
              ))
              (λ not. (t.0, t.1, t.2, stays r.writer ne t.0 t.3, now ∙ (set_else s.views id r.writer b not ∙ t.4), t.5));
          each = λ j y g. ⊎_elim
              (λ (t : (j ≡ other) × (spent ≡ y)). subst (λ (z : V). Fits number r.held r.writer own r.all o seats j z) t.1 record {
                seen = (r.all, refl);
                parts = tt;
                olds = tt;
                holder = λ e. absurd (true≢false (sym e));
                opened = λ x e. absurd cc;
              })
              (λ (t : (j ≢ other) × (get_elem? (set s.views id b) j ≡ some y)). ⊎_elim
              (λ (u : (j ≡ id) × (b ≡ y)). subst (λ (q : ℕ × V). Fits number r.held r.writer own r.all o seats q.0 q.1) (λ i. (sym u.0 i, u.1 i)) record {
                seen = long.0;
                parts = all_append _ v.parts w.parts
                    (all_map _ _ (λ q k. (k.0, stays id away q.number k.1, k.2, k.2 ∙ sym (of-between number q.number v.seen (longer v.seen w.seen) r.all long.1 long.0 (sym k.3 ∙ k.2)))) v.parts fits.parts)
                    (all_map _ _ (λ q k. (k.0, ap (redirect other id) k.1 ∙ redirect_here other id, k.2, k.2 ∙ sym (of-between number q.number w.seen (longer v.seen w.seen) r.all long.2 long.0 (sym k.3 ∙ k.2)))) w.parts gits.parts);
                olds = (long.1, (long.2, all_map _ _ (λ l k. prefix_trans l v.seen (longer v.seen w.seen) k long.1) v.olds fits.olds));
                holder = λ e. let h = fits.holder e in (h.0, h.1, ends v.seen (longer v.seen w.seen) r.all long.1 long.0 h.2);
                opened = fits.opened;
              })
              (λ (u : (j ≢ id) × (get_elem? s.views j ≡ some y)). let k = r.each j y u.1 in record {
                seen = k.seen;
                parts = all_map _ _ (λ q f. (f.0, stays j t.0 q.number f.1, f.2, f.3)) y.parts k.parts;
                olds = k.olds;
                holder = k.holder;
                opened = k.opened;
              })
              (at_set s.views id j b y t.1))
              (at_set (set s.views id b) other j spent y g);
        }

    -- the first number goes to a new seat
    pub deals : (p : Part M) (ps : List (Part M)) → v.parts ≡ p ∷ ps → Every (λ q. q.number ≢ p.number) ps → v.holds ≡ false → Splits Rule id v (without_first v) (first_alone v)
    deals p ps has others free s r at =
        let fits = r.each id v at in let a : V = without_first v in let b : V = first_alone v in let vs : List V = set s.views id a in
        let many : length vs ≡ length s.views = length-set s.views id a in
        let own : ℕ → ℕ = λ n. redirected p.number (length s.views) (r.owner n) n in
        let mine = subst (λ (q : List (Part M)). Every (λ (p : Part M). (p.number < seats) × (r.owner p.number ≡ id) × (p.own ≡ of number p.number r.all) × (p.own ≡ of number p.number v.seen)) q) has fits.parts in
        let stays : (n : ℕ) → n ≢ p.number → (k : ℕ) → r.owner n ≡ k → own n ≡ k = λ n ne k e. redirected_else p.number (length s.views) (r.owner n) n ne ∙ e in record {
          all = r.all;
          held = r.held;
          writer = r.writer;
          owner = own;
          words = r.words;
          deep = r.deep;
          short = r.short;
          named = r.named;
          home = r.home;
          taken = λ h. let t = r.taken h in
              let ne : r.writer ≢ id = (λ e. true≢false (sym t.5 ∙ (ap (λ (x : V). x.holds) (some-injective _ _ (sym t.4 ∙ (ap (get_elem? s.views) e ∙ at))) ∙ free))) in
              (t.0, t.1, t.2, stays t.0 (λ e. ne (sym t.3 ∙ (ap r.owner e ∙ mine.0.1))) r.writer t.3, at_longer vs (b ∷ []) r.writer t.1 (set_else s.views id r.writer a ne ∙ t.4), t.5);
          each = λ j y g. ⊎_elim
              (λ (t : get_elem? vs j ≡ some y). ⊎_elim
              (λ (u : (j ≡ id) × (a ≡ y)). subst (λ (q : ℕ × V). Fits number r.held r.writer own r.all o seats q.0 q.1) (λ i. (sym u.0 i, u.1 i)) record {
                seen = fits.seen;
                parts = subst (λ (q : List (Part M)). Every (λ (p : Part M). (p.number < seats) × (own p.number ≡ id) × (p.own ≡ of number p.number r.all) × (p.own ≡ of number p.number v.seen)) (drop 1 q)) (sym has)
                    (all_both _ _ _ (λ q ne k. (k.0, stays q.number ne id k.1, k.2, k.3)) ps others mine.1);
                olds = fits.olds;
                holder = λ e. absurd (true≢false (sym e ∙ free));
                opened = fits.opened;
              })
              (λ (u : (j ≢ id) × (get_elem? s.views j ≡ some y)). let k = r.each j y u.1 in record {
                seen = k.seen;
                parts = all_map _ _ (λ q f. (f.0, stays q.number (λ e. u.0 (sym f.1 ∙ (ap r.owner e ∙ mine.0.1))) j f.1, f.2, f.3)) y.parts k.parts;
                olds = k.olds;
                holder = k.holder;
                opened = k.opened;
              })
              (at_set s.views id j a y t))
              (λ (t : (j ≡ length vs) × (b ≡ y)). subst (λ (q : ℕ × V). Fits number r.held r.writer own r.all o seats q.0 q.1) (λ i. (sym t.0 i, t.1 i)) record {
                seen = fits.seen;
                parts = subst (λ (q : List (Part M)). Every (λ (p : Part M). (p.number < seats) × (own p.number ≡ length vs) × (p.own ≡ of number p.number r.all) × (p.own ≡ of number p.number v.seen)) (take 1 q)) (sym has)
                    ((mine.0.0, redirected_here p.number (length s.views) (r.owner p.number) ∙ sym many, mine.0.2, mine.0.3), tt);
                olds = tt;
                holder = λ e. absurd (true≢false (sym e));
                opened = fits.opened;
              })
              (at_end vs b y j g);
        }
