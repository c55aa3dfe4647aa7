-- The names that stand for the objects of a call one by one.
use Rattle.std.proofs.Common.{◌≡◌, inl, inr, ℕ, ◌+◌, ◌-◌, ◌<◌, ◌≤◌, ◌^◌, pos, Result, true, false, nat_le, cond, List, [], ◌∷◌, ◌++◌, length, get_or, set, take, drop, reverse, Option, Some, None, option_map, refl, sym, subst, ap, ◌∙◌, arith, length-append}
use Rattle.std.specs.List.{find}
use Rattle.std.proofs.lemmas.Bool.{cases_lt}
use Rattle.std.proofs.lemmas.Bool.Decides.{nat_tests}
use Rattle.std.proofs.lemmas.List.{drop-append-le, get_or_append_left, get_or-append_right, get_or_default, get_or-set_same, get_or-take, length-set, length-take, reverse-append, take-append-le, take-take, take_all}
use Rattle.std.proofs.lemmas.Option.{slice_get-get_or}
use Rattle.std.proofs.lemmas.List.Elements.{All-append, All-cons, All-nil}
use Rattle.std.proofs.lemmas.List.Quantifiers.{all_pairs_push}
use Rattle.block_layout.specs.declared.kind.Shape.{Shape}
use Rattle.private_store.specs.declared.frame.Block.{Block}
use Rattle.private_store.specs.declared.frame.Call.{Call}
use Rattle.private_store.specs.declared.marks.Mark.{Mark}
use Rattle.block_layout.specs.declared.kind.Kind.{Kind}
use Rattle.block_layout.specs.declared.place.LocalPtr.TheVariants as local
use Rattle.upc_values.specs.declared.scalar.Value.{Value}
use Rattle.private_store.specs.Cells.{loaded}
use Rattle.private_store.specs.Live.{Live, Thing, blank_things, blocks_before, bytes_in, thing_bytes, local_number, recounted, recounted_from, youngest}
use Rattle.private_store.specs.code.Locals.{IsStored, IsStoredBy}
use Rattle.private_store.specs.code.Straight.{AreMarked, IsBack, IsNamed, IsNames, IsStanding, IsStraight, IsWithin, here, name_in, recounted_calls}
use Rattle.private_store.proofs.Keeping.{blank_length, blank_number, few_objects, kept_entered, kept_set, kept_taken, renumbered}

-- ---- a mark stays right

pub straight_more : (objects os : List Thing) (blocks bs : List Block) (m : Mark) → IsWithin (length objects) (length blocks) m
    → IsStraight objects blocks m → IsStraight (objects ++ os) (blocks ++ bs) m
straight_more objects os blocks bs m within h n lt =
    let p = h n lt in (
      p.0,
      λ d. ap (λ l. name_in n (drop m.before l)) (take-append-le m.blocks blocks bs within.1) ∙ p.1 d
          ∙ ap (λ (x : Thing). some x.number) (sym (get_or_append_left objects os d (m.base + n) (omega (arith, p.0, within.0)))),
    )
  where
    some : ℕ → Option ℕ
    some k = Some k

pub straight_taken : (objects : List Thing) (blocks : List Block) (m : Mark) (i j : ℕ) → m.objects ≤ i → m.blocks ≤ j
    → IsStraight objects blocks m → IsStraight (take i objects) (take j blocks) m
straight_taken objects blocks m i j few lower h n lt =
    let p = h n lt in (
      p.0,
      λ d. ap (λ l. name_in n (drop m.before l)) (take-take m.blocks j blocks lower) ∙ p.1 d
          ∙ ap (λ (x : Thing). some x.number) (sym (get_or-take i objects (m.base + n) d (omega (arith, p.0)))),
    )
  where
    some : ℕ → Option ℕ
    some k = Some k

pub straight_same : (objects os : List Thing) (blocks : List Block) (m : Mark) → ((k : ℕ) (d : Thing) → (get_or os k d).number ≡ (get_or objects k d).number)
    → IsStraight objects blocks m → IsStraight os blocks m
straight_same objects os blocks m same h n lt =
    let p = h n lt in (p.0, λ d. p.1 d ∙ ap (λ k. some k) (sym (same (m.base + n) d)))
  where
    some : ℕ → Option ℕ
    some k = Some k

pub none_straight : (objects : List Thing) (blocks : List Block) (m : Mark) → m.names ≡ 0 → IsStraight objects blocks m
none_straight objects blocks m e n lt = absurd (omega arith)

-- ---- the marks of a store

module _ (objects : List Thing) (blocks : List Block) (marks : List Mark) (h : AreMarked objects blocks marks) where
  pub marked_more : (os : List Thing) (bs : List Block) → AreMarked (objects ++ os) (blocks ++ bs) marks
  marked_more os bs =
      let a = length-append objects os in
      let b = length-append blocks bs in
      record {
        within = λ k d lt. (let w = h.within k d lt in (omega (arith, w.0), omega (arith, w.1)));
        rise = h.rise;
        straight = λ k d lt. straight_more objects os blocks bs (get_or marks k d) (h.within k d lt) (h.straight k d lt);
      }

  pub marked_same : (os : List Thing) → length os ≡ length objects → ((k : ℕ) (d : Thing) → (get_or os k d).number ≡ (get_or objects k d).number)
      → AreMarked os blocks marks
  marked_same os e same =
      record {
        within = λ k d lt. (let w = h.within k d lt in (omega (arith, w.0), w.1));
        rise = h.rise;
        straight = λ k d lt. straight_same objects os blocks (get_or marks k d) same (h.straight k d lt);
      }

  -- one more mark, made here
  pub marked_here : (m : Mark) → m.objects ≡ length objects → m.blocks ≡ length blocks → IsStraight objects blocks m → AreMarked objects blocks (marks ++ m ∷ [])
  marked_here m e f straight =
      record {
        within = All-append (IsWithin (length objects) (length blocks)) marks (m ∷ []) h.within
            (All-cons (IsWithin (length objects) (length blocks)) m [] (omega arith, omega arith) (All-nil (IsWithin (length objects) (length blocks))));
        rise = all_pairs_push (λ (x y : Mark). IsWithin y.objects y.blocks x) marks m h.rise (λ k d lt. (let w = h.within k d lt in (omega (arith, w.0), omega (arith, w.1))));
        straight = All-append (IsStraight objects blocks) marks (m ∷ []) h.straight (All-cons (IsStraight objects blocks) m [] straight (All-nil (IsStraight objects blocks)));
      }

  -- back at a mark, with the objects and blocks that there were
  module _ (after : List Mark) (i j : ℕ) (m : Mark)
      (back : (length after < length marks) × (take (length after) marks ≡ after) × (m ≡ get_or marks (length after) m)
      × (m.objects ≡ length (take i objects)) × (m.blocks ≡ length (take j blocks))) where
    abbrev n : ℕ
    n = length after

    m_at : (d : Mark) → m ≡ get_or marks n d
    m_at d = back.2 ∙ get_or_default marks n m d back.0

    m_within : IsWithin (length objects) (length blocks) m
    m_within = subst (IsWithin (length objects) (length blocks)) (sym (m_at m)) (h.within n m back.0)

    few : (m.objects ≤ i) × (m.blocks ≤ j)
    few =
        let a = length-take i objects in
        let b = length-take j blocks in
        (omega (arith, back.3), omega (arith, back.4))

    pub straight_back : IsStraight (take i objects) (take j blocks) m
    straight_back = straight_taken objects blocks m i j few.0 few.1 (subst (IsStraight objects blocks) (sym (m_at m)) (h.straight n m back.0))

    at_after : (k : ℕ) (d : Mark) → k < n → get_or after k d ≡ get_or marks k d
    at_after k d lt = ap (λ l. get_or l k d) (sym back.1) ∙ get_or-take n marks k d lt

    older : (k : ℕ) (d : Mark) → k < n → IsWithin m.objects m.blocks (get_or marks k d)
    older k d lt = subst (λ (y : Mark). IsWithin y.objects y.blocks (get_or marks k d)) (sym (m_at d)) (h.rise k n d lt back.0)

    pub marked_back : AreMarked (take i objects) (take j blocks) after
    marked_back =
        record {
          within = λ k d lt. subst (IsWithin (length (take i objects)) (length (take j blocks))) (sym (at_after k d lt))
              (let o = older k d lt in (omega (arith, o.0, back.3), omega (arith, o.1, back.4)));
          rise = λ a b d l lt. (let r = h.rise a b d l (omega (arith, back.0)) in rw (at_after a d (omega arith), at_after b d lt) r);
          straight = λ k d lt. subst (IsStraight (take i objects) (take j blocks)) (sym (at_after k d lt))
              (let o = older k d lt in straight_taken objects blocks (get_or marks k d) i j (omega (arith, o.0, few.0)) (omega (arith, o.1, few.1)) (h.straight k d (omega (arith, back.0))));
        }

pub none_marked : (objects : List Thing) (blocks : List Block) → AreMarked objects blocks []
none_marked objects blocks =
    record {
      within = All-nil (IsWithin (length objects) (length blocks));
      rise = λ i j d l lt. absurd (omega arith);
      straight = All-nil (IsStraight objects blocks);
    }

-- ---- entering a block

has : (a b : ℕ) → a ≤ b → nat_le a b ≡ true
has a b h = grind (arith, nat_tests)

lacks : (a b : ℕ) → b < a → nat_le a b ≡ false
lacks a b h = grind (arith, nat_tests)

newer_name : (n : ℕ) (blocks : List Block) (b : Block) → b.from ≤ n → name_in n (blocks ++ b ∷ []) ≡ Some (b.first + (n - b.from))
newer_name n blocks b le =
    ap (λ l. option_map (λ (x : Block). x.first + (n - x.from)) (find (λ (x : Block). nat_le x.from n) l)) (reverse-append blocks (b ∷ []))
    ∙ ap (λ t. option_map (λ (x : Block). x.first + (n - x.from)) (cond t (Some b) (find (λ (x : Block). nat_le x.from n) (reverse blocks)))) (has b.from n le)

older_name : (n : ℕ) (blocks : List Block) (b : Block) → n < b.from → name_in n (blocks ++ b ∷ []) ≡ name_in n blocks
older_name n blocks b lt =
    ap (λ l. option_map (λ (x : Block). x.first + (n - x.from)) (find (λ (x : Block). nat_le x.from n) l)) (reverse-append blocks (b ∷ []))
    ∙ ap (λ t. option_map (λ (x : Block). x.first + (n - x.from)) (cond t (Some b) (find (λ (x : Block). nat_le x.from n) (reverse blocks)))) (lacks b.from n lt)

module _ (objects : List Thing) (blocks : List Block) (calls : List Call) (names base next : ℕ) (shapes : List Shape) (b : Block)
    (old : IsStraight objects blocks (here names base objects blocks calls)) (first : b.first ≡ next) (inner : blocks_before (youngest calls) ≤ length blocks) where
  opened : drop (blocks_before (youngest calls)) (take (length (blocks ++ b ∷ [])) (blocks ++ b ∷ [])) ≡ drop (blocks_before (youngest calls)) blocks ++ b ∷ []
  opened =
      ap (drop (blocks_before (youngest calls))) (take_all (length (blocks ++ b ∷ [])) (blocks ++ b ∷ []) (omega arith))
      ∙ drop-append-le (blocks_before (youngest calls)) blocks (b ∷ []) inner

  abbrev some : ℕ → Option ℕ
  some k = Some k

  abbrev Right : ℕ → Type 0
  Right n =
      (base + n < length (objects ++ blank_things next shapes))
      × ((d : Thing) → name_in n (drop (blocks_before (youngest calls)) (take (length (blocks ++ b ∷ [])) (blocks ++ b ∷ []))) ≡ Some (get_or (objects ++ blank_things next shapes) (base + n) d).number)

  of_before : (n : ℕ) → n < names → n < b.from → Right n
  of_before n lt below =
      let p = old n lt in
      let l = length-append objects (blank_things next shapes) in (
        omega (arith, p.0),
        λ d. ap (name_in n) opened ∙ older_name n (drop (blocks_before (youngest calls)) blocks) b below
            ∙ ap (λ l. name_in n (drop (blocks_before (youngest calls)) l)) (sym (take_all (length blocks) blocks (omega arith))) ∙ p.1 d
            ∙ ap (λ (x : Thing). some x.number) (sym (get_or_append_left objects (blank_things next shapes) d (base + n) p.0)),
      )

  of_block : (n : ℕ) → b.from ≤ n → n < b.from + length shapes → length objects ≡ base + b.from → Right n
  of_block n le lt e =
      let l = length-append objects (blank_things next shapes) in
      let m = blank_length next shapes in (
        omega arith,
        λ d. ap (name_in n) opened ∙ newer_name n (drop (blocks_before (youngest calls)) blocks) b le
            ∙ ap some (
            let at : base + n - length objects ≡ n - b.from = omega arith in
            let number = blank_number shapes next (n - b.from) d (omega arith) in
            let place = get_or-append_right objects (blank_things next shapes) (length objects) (base + n) d refl (omega arith) in
            ap (λ k. k + (n - b.from)) first ∙ sym number ∙ ap (λ k. (get_or (blank_things next shapes) k d).number) (sym at) ∙ ap (λ (x : Thing). x.number) (sym place)
            ),
      )

  -- all names of the call are straight
  pub straight_wide : (m : ℕ) → names ≡ b.from → length objects ≡ base + b.from → m ≡ b.from + length shapes
      → IsStraight (objects ++ blank_things next shapes) (blocks ++ b ∷ []) (here m base (objects ++ blank_things next shapes) (blocks ++ b ∷ []) calls)
  straight_wide m all e many n lt =
      elim (cases_lt n b.from) [
        | inl l ↦ of_before n (omega arith) l
        | inr g ↦ of_block n g (omega arith) e
      ]

  -- those stay straight that were
  pub straight_low : (m : ℕ) → m ≤ names → m ≤ b.from
      → IsStraight (objects ++ blank_things next shapes) (blocks ++ b ∷ []) (here m base (objects ++ blank_things next shapes) (blocks ++ b ∷ []) calls)
  straight_low m le few n lt = of_before n (omega arith) (omega arith)

pub straight_entered : (objects : List Thing) (blocks : List Block) (calls : List Call) (names base next : ℕ) (shapes : List Shape) (b : Block) (m : ℕ)
    → IsStraight objects blocks (here names base objects blocks calls) → b.first ≡ next → IsNames (here names base objects blocks calls) b.from (length shapes) m
    → IsStraight (objects ++ blank_things next shapes) (blocks ++ b ∷ []) (here m base (objects ++ blank_things next shapes) (blocks ++ b ∷ []) calls)
straight_entered objects blocks calls names base next shapes b m old first (inl none) =
    none_straight (objects ++ blank_things next shapes) (blocks ++ b ∷ []) (here m base (objects ++ blank_things next shapes) (blocks ++ b ∷ []) calls) none
straight_entered objects blocks calls names base next shapes b m old first (inr h) =
    elim h.1 [
      | inl low ↦ straight_low objects blocks calls names base next shapes b old first h.0 m low.0 low.1
      | inr all ↦ straight_wide objects blocks calls names base next shapes b old first h.0 m all.0 all.1 all.2
    ]

-- ---- going back

pub marked_left : (objects : List Thing) (blocks : List Block) (marks after : List Mark) (i j outer : ℕ) (m : Mark) → AreMarked objects blocks marks
    → IsBack marks after (length (take i objects)) (length (take j blocks)) outer m → AreMarked (take i objects) (take j blocks) after
marked_left objects blocks marks after i j outer m h (inl none) =
    subst (AreMarked (take i objects) (take j blocks)) (sym none.0) (none_marked (take i objects) (take j blocks))
marked_left objects blocks marks after i j outer m h (inr b) = marked_back objects blocks marks h after i j m (b.0, b.1, b.2, b.3, b.4)

pub straight_left : (objects : List Thing) (blocks : List Block) (calls : List Call) (marks after : List Mark) (i j : ℕ) (m : Mark) → AreMarked objects blocks marks
    → IsBack marks after (length (take i objects)) (length (take j blocks)) (blocks_before (youngest calls)) m
    → IsStraight (take i objects) (take j blocks) (here m.names m.base (take i objects) (take j blocks) calls)
straight_left objects blocks calls marks after i j m h (inl none) =
    none_straight (take i objects) (take j blocks) (here m.names m.base (take i objects) (take j blocks) calls) none.1
straight_left objects blocks calls marks after i j m h (inr b) =
    subst (IsStraight (take i objects) (take j blocks)) same (straight_back objects blocks marks h after i j m (b.0, b.1, b.2, b.3, b.4))
  where
    made : ℕ → ℕ → ℕ → Mark
    made objects blocks before = record { names = m.names; base = m.base; before = before; blocks = blocks; objects = objects }

    same : m ≡ here m.names m.base (take i objects) (take j blocks) calls
    same = ap (λ k. made k m.blocks m.before) b.3 ∙ ap (λ k. made (length (take i objects)) k m.before) b.4 ∙ ap (made (length (take i objects)) (length (take j blocks))) b.5

pub named_is : (s : Live) (space names base n : ℕ) (marks : List Mark) → IsStanding s space names base marks → n < names → IsNamed s n (base + n)
named_is s space names base n marks h lt =
    let p = h.straight n lt in
    record {
      there = p.0;
      is = λ d. ap (λ l. name_in n (drop (blocks_before (youngest s.calls)) l)) (sym (take_all (length s.blocks) s.blocks (omega arith))) ∙ p.1 d;
    }

-- ---- a store through its operations

module _ (s : Live) (space names base : ℕ) (marks : List Mark) (h : IsStanding s space names base marks) where
  pub standing_marked : (m : Mark) → m ≡ here names base s.objects s.blocks s.calls → IsStanding s space names base (marks ++ m ∷ [])
  standing_marked m is =
      record {
        kept = h.kept;
        marked = marked_here s.objects s.blocks marks h.marked m (ap (λ (k : Mark). k.objects) is) (ap (λ (k : Mark). k.blocks) is)
            (subst (IsStraight s.objects s.blocks) (sym is) h.straight);
        straight = h.straight;
      }

  pub standing_entered : (shapes : List Shape) (b : Block) (m : Mark) (k : ℕ) → s.next + length shapes ≤ 2 ^ 63 → space + bytes_in shapes ≤ 1048576
      → b.first ≡ s.next → m ≡ here names base s.objects s.blocks s.calls → IsNames m b.from (length shapes) k
      → IsStanding (record s { objects = s.objects ++ blank_things s.next shapes; blocks = s.blocks ++ b ∷ []; next = s.next + length shapes })
      (space + bytes_in shapes) k base (marks ++ m ∷ [])
  standing_entered shapes b m k few room first is these =
      let marked = standing_marked m is in
      record {
        kept = kept_entered s.objects s.blocks s.next space shapes b h.kept few room first;
        marked = marked_more s.objects s.blocks (marks ++ m ∷ []) marked.marked (blank_things s.next shapes) (b ∷ []);
        straight = straight_entered s.objects s.blocks s.calls names base s.next shapes b k h.straight first
            (subst (λ (q : Mark). IsNames q b.from (length shapes) k) is these);
      }

  pub standing_called : (c : Call) (m : Mark) (n : ℕ) → m ≡ here names base s.objects s.blocks s.calls
      → IsStanding (record s { calls = s.calls ++ c ∷ [] }) space 0 n (marks ++ m ∷ [])
  standing_called c m n is =
      record {
        kept = h.kept;
        marked = (standing_marked m is).marked;
        straight = none_straight s.objects s.blocks (here 0 n s.objects s.blocks (s.calls ++ c ∷ [])) refl;
      }

  pub standing_left : (after : List Mark) (i j ended : ℕ) (m : Mark) (os : List Thing) (bs : List Block) (calls : List Call) (few opens before : ℕ)
      → os ≡ take i s.objects → bs ≡ take j s.blocks → thing_bytes os + ended ≡ thing_bytes s.objects → few ≡ length os → opens ≡ length bs
      → before ≡ blocks_before (youngest calls) → IsBack marks after few opens before m
      → IsStanding (record { objects = os; blocks = bs; calls = calls; next = s.next }) (space - ended) m.names m.base after
  standing_left after i j ended m os bs calls few opens before e f bytes a b c back =
      let there : IsBack marks after (length (take i s.objects)) (length (take j s.blocks)) (blocks_before (youngest calls)) m =
      rw (← e, ← f, ← a, ← b, ← c) back in
      let left : thing_bytes (take i s.objects) + ended ≡ thing_bytes s.objects = rw (← e) bytes in
      rw (e, f)
      record {
        kept = kept_taken s.objects s.blocks s.next space i j ended h.kept left;
        marked = marked_left s.objects s.blocks marks after i j (blocks_before (youngest calls)) m h.marked there;
        straight = straight_left s.objects s.blocks calls marks after i j m h.marked there;
      }

  pub standing_set : (os : List Thing) (at place : ℕ) (v : Value) → at < length s.objects
      → ((d : Thing) → let x = get_or s.objects at d in os ≡ set s.objects at (record x { values = set x.values place v }))
      → IsStanding (record s { objects = os }) space names base marks
  standing_set os at place v lt is = by s.objects refl
    where
      by : (things : List Thing) → things ≡ s.objects → IsStanding (record s { objects = os }) space names base marks
      by [] e = absurd (let l = ap length e in omega arith)
      by (d ∷ ds) e =
          let x = get_or s.objects at d in
          let z : Thing = record x { values = set x.values place v } in
          let long : length os ≡ length s.objects = ap length (is d) ∙ length-set s.objects at z in
          let same : (k : ℕ) (c : Thing) → (get_or os k c).number ≡ (get_or s.objects k c).number =
          λ k c. ap (λ l. (get_or l k c).number) (is d) ∙ renumbered s.objects at z k c lt (ap (λ (y : Thing). y.number) (get_or_default s.objects at d c lt)) in
          record {
            kept = kept_set s.objects os s.blocks s.next space at place v h.kept lt is;
            marked = marked_same s.objects s.blocks marks h.marked os long same;
            straight = subst (λ n. IsStraight os s.blocks (record { names = names; base = base; before = blocks_before (youngest s.calls); blocks = length s.blocks; objects = n }))
                (sym long) (straight_same s.objects os s.blocks (here names base s.objects s.blocks s.calls) same h.straight);
          }

  pub standing_recounted : (calls : List Call) → blocks_before (youngest calls) ≡ blocks_before (youngest s.calls)
      → IsStanding (record s { calls = calls }) space names base marks
  standing_recounted calls e =
      record {
        kept = h.kept;
        marked = h.marked;
        straight = subst (λ n. IsStraight s.objects s.blocks (record { names = names; base = base; before = n; blocks = length s.blocks; objects = length s.objects }))
            (sym e) h.straight;
      }

  pub place_fits : (n : ℕ) → n < names → base + n < 2 ^ 63
  place_fits n lt =
      let p = h.straight n lt in
      let few = few_objects s.objects s.next h.kept.numbered h.kept.below in omega (arith, p.0, h.kept.few)

-- ---- calls that are recounted

pub recounted_is : (n : ℕ) (s : Live) → record s { calls = recounted_calls (youngest s.calls) n s.calls } ≡ recounted n s
recounted_is n s = by (youngest s.calls)
  where
    by : (o : Option Call) → record s { calls = recounted_calls o n s.calls } ≡ recounted_from o n s
    by None = refl
    by (Some c) = refl

last_is : (calls : List Call) (d : Call) → 0 < length calls → youngest calls ≡ Some (get_or calls (length calls - 1) d)
last_is calls d some = slice_get-get_or calls (length calls - 1) d (omega arith)

pub recounted_before : (calls : List Call) (n : ℕ) → blocks_before (youngest (recounted_calls (youngest calls) n calls)) ≡ blocks_before (youngest calls)
recounted_before [] n = refl
recounted_before (c ∷ cs) n =
    let calls = c ∷ cs in
    let x = get_or calls (length calls - 1) c in
    let z : Call = record x { controls = n } in
    let l = length-set calls (length calls - 1) z in
    let some : 0 < length calls = omega arith in
    let old = last_is calls c some in
    let new : youngest (set calls (length calls - 1) z) ≡ Some z =
    last_is (set calls (length calls - 1) z) c (omega arith)
    ∙ ap (λ k. Some (get_or (set calls (length calls - 1) z) (k - 1) c)) l ∙ ap Some (get_or-set_same calls (length calls - 1) z c (omega arith)) in
    ap (λ o. blocks_before (youngest (recounted_calls o n calls))) old ∙ ap blocks_before new ∙ ap blocks_before (sym old)

-- ---- what a name gives

module _ (s : Live) (n at : ℕ) (named : IsNamed s n at) where
  pub named_number : (k : ℕ) → ((d : Thing) → k ≡ (get_or s.objects at d).number) → Some k ≡ local_number n s
  named_number k is = by s.objects refl
    where
      by : (things : List Thing) → things ≡ s.objects → Some k ≡ local_number n s
      by [] e = absurd (let l = ap length e in omega (arith, named.there))
      by (d ∷ ds) e = ap some (is d) ∙ sym (named.is d)
        where
          some : ℕ → Option ℕ
          some j = Some j

  pub named_load : (r : Result Value ℕ) (k : Kind) → ((d : Thing) → r ≡ loaded (local.Private (get_or s.objects at d).number (pos 0)) k s)
      → Some r ≡ option_map (λ object. loaded (local.Private object (pos 0)) k s) (local_number n s)
  named_load r k is = by s.objects refl
    where
      by : (things : List Thing) → things ≡ s.objects → Some r ≡ option_map (λ object. loaded (local.Private object (pos 0)) k s) (local_number n s)
      by [] e = absurd (let l = ap length e in omega (arith, named.there))
      by (d ∷ ds) e = rw (named.is d) (ap some (is d))
        where
          some : Result Value ℕ → Option (Result Value ℕ)
          some j = Some j

  pub named_store : {X : Type 0} (r : Result X ℕ) (k : Kind) (v : Value) (t : Live)
      → ((d : Thing) → IsStored r (local.Private (get_or s.objects at d).number (pos 0)) k v s t) → IsStoredBy (Some r) (local_number n s) k v s t
  named_store r k v t is = by s.objects refl
    where
      by : (things : List Thing) → things ≡ s.objects → IsStoredBy (Some r) (local_number n s) k v s t
      by [] e = absurd (let l = ap length e in omega (arith, named.there))
      by (d ∷ ds) e = rw (named.is d) (is d)
