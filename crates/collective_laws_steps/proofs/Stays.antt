-- Each step of the work of a collective call writes to its destination, or reads its source or its permutation.
use Rattle.std.proofs.Common.{◌≡◌, ℕ, zero, suc, ◌+◌, ◌*◌, ◌<◌, ◌==◌, Bool, true, false, not, ◌&&◌, ◌||◌, cond, List}
use Rattle.std.proofs.Common.{[], ◌∷◌, ◌++◌, map, length, Option, Some, None, inl, inr, refl, sym, ap, ◌∙◌, subst}
use Rattle.std.proofs.Common.{arith}
use Rattle.std.specs.Prelude.{ℤ, pos, Result, Ok, Err}
use Rattle.std.specs.List.{list_any, range_with_len, position_or_len}
use Rattle.std.specs.Ordering.{int_eq}
use Rattle.std.proofs.lemmas.Bool.{not-false, false≢true}
use Rattle.std.proofs.lemmas.List.FromFn.{length-map-range_with_len}
use Rattle.block_layout.specs.declared.place.SharedPtr.{SharedPtr}
use Rattle.block_layout.specs.declared.kind.Kind.{Kind}
use Rattle.block_layout.specs.declared.kind.Kind.TheVariants as kind
use Rattle.block_layout.specs.declared.kind.Shape.{Shape}
use Rattle.block_layout.specs.declared.run_error.TheConstants.{OUT_OF_OBJECT, POINTER_RANGE, CELL_TYPE, LIBRARY_ARGS}
use Rattle.block_layout.specs.Pointers.{location}
use Rattle.block_layout.specs.Shapes.{kind_size}
use Rattle.block_layout.proofs.Numbers.{row-below}
use Rattle.upc_values.specs.declared.scalar.Scalar.{Scalar}
use Rattle.upc_values.specs.layer.Parts.{outside, permutation, is_at, operand}
use Rattle.upc_values.specs.declared.scalar.Scalar.TheVariants.{Int}
use Rattle.upc_values.specs.declared.action.Action.TheVariants as act
use Rattle.upc_values.specs.Calls.{Copies, Permutes, Reduces, Reduces_prefixes, Way}
use Rattle.upc_values.specs.Lists.{Each, Has}
use Rattle.upc_values.specs.History.{each_thread}
use Rattle.upc_values.specs.Expansion.{Expansion, Reads, Gives, nothing, bind, does, gathered, refused_by}
use Rattle.upc_values.specs.Expansions.{Part, part, parts, copied, cells, cut, some_bytes, move, permute}
use Rattle.upc_values.specs.Expansions.{chosen, operands, paired, are_cells, number_at}
use Rattle.upc_values.specs.Expansions.{number_put, outcome, total, totals, reduce, reduce_prefixes, work}
use Rattle.upc_values.specs.Reductions.{Reduction, reduction, element_kind, step}
use Rattle.upc_values.specs.Views.{destination, source, byte_at, element, from_phase_0, location_behind, shape_at}
use Rattle.upc_values.specs.Views.{leaves_range, is_cell}
use Rattle.upc_values.proofs.Membership.{each-append}
use Rattle.collective_laws_words.specs.layer.Steps.{Step, Performs}
use Rattle.collective_laws_words.specs.layer.Interface.{IsOfCall, WorkStays}
use Rattle.collective_laws_steps.proofs.Lists.{map_from, range_below}
use Rattle.collective_laws_steps.proofs.Rows.{byte_location}
use Rattle.collective_laws_steps.proofs.Performing.{does_one, passes, passes_three, split, each_turn}
use Rattle.collective_laws_steps.proofs.Moving.{PartPasses, moves, cell_below}
use Rattle.collective_laws_steps.proofs.Numbers.{each_at, reads_one}
use Rattle.collective_laws_steps.proofs.Ways.{part_into, part_from, part_at, parts_from, fits_all, in_block}
use Rattle.collective_laws_steps.proofs.Copied.{some_performs}
use Rattle.collective_laws_steps.proofs.Reduced.{at_home}
use Rattle.collective_laws_steps.proofs.Folds.{paired_maps}

-- ---- places in a list

below_step : (b t : Bool) (r n : ℕ) → (b || t) ≡ true → (t ≡ true → r < n) → cond (not b) (1 + r) 0 < suc n
below_step true t r n h go = omega arith
below_step false t r n h go = let less = go h in omega arith

position_below : {X : Type 0} (p : X → Bool) (xs : List X) → list_any p xs ≡ true → position_or_len p xs < length xs
position_below p [] h = absurd (false≢true h)
position_below p (x ∷ xs) h =
    below_step (p x) (list_any p xs) (position_or_len p xs) (length xs) h (position_below p xs)

-- ---- parts of a call

module _ (P : Step → Type 0) where
  -- Each step of what comes first and of what follows.
  both_so : {A B : Type 0} (e : Expansion A) (go : A → Expansion B) (did : List Step) (w : B)
      → Performs (bind e go) did w
      → ((v : A) (first : List Step) → Performs e first v → Each P first)
      → ((v : A) (first rest : List Step) → Performs e first v → Performs (go v) rest w → Each P rest) → Each P did
  both_so e go did w h f g =
      let q = split go e did w h in
      subst (Each P) (sym q.is)
      (each-append P q.first q.rest (f q.value q.first q.begins) (g q.value q.first q.rest q.begins q.goes))

  both : {A B : Type 0} (e : Expansion A) (go : A → Expansion B) (did : List Step) (w : B) → Performs (bind e go) did w
      → ((v : A) (first : List Step) → Performs e first v → Each P first)
      → ((v : A) (rest : List Step) → Performs (go v) rest w → Each P rest) → Each P did
  both {A} {B} e go did w h f g = both_so e go did w h f (λ (v : A) (first rest : List Step) x y. g v rest y)

  none : (did : List Step) → did ≡ [] → Each P did
  none did e = subst (Each P) (sym e) tt

  module _ (threads : ℕ) (shapes : List Shape) (me : ℕ) where
    reads : (k : Kind) (p : SharedPtr) → ((s : Step) → s.action ≡ act.Read (location p) false → P s)
        → (v : ℤ) (did : List Step) → Performs (number_at threads shapes me k p) did v → Each P did
    reads k p f v did h =
        let one = reads_one threads shapes me k p did v h in
        subst (Each P) (sym one.is) (f one.step one.action, tt)

    puts : (p : SharedPtr) (v : ℤ) → ((s : Step) → s.action ≡ act.Write false (location p) (Int v) → P s)
        → (u : Unit {0}) (did : List Step) → Performs (number_put threads shapes me p v) did u → Each P did
    puts p v f u did h =
        let one = does_one (act.Write false (location p) (Int v)) did u h in
        subst (Each P) (sym one.is) (f one.step one.action, tt)

    gathers_each : (k : Kind) (ps : List SharedPtr)
        → ((p : SharedPtr) → Has ps p → (s : Step) → s.action ≡ act.Read (location p) false → P s)
        → (vs : List ℤ) (did : List Step) → Performs (gathered (number_at threads shapes me k) ps) did vs → Each P did
    gathers_each k [] f vs did h = none did h.0
    gathers_each k (p ∷ ps) f vs did h =
        both (number_at threads shapes me k p)
        (λ y. bind (gathered (number_at threads shapes me k) ps) (λ (ys : List ℤ). Gives (y ∷ ys))) did vs h
        (reads k p (f p (inl refl)))
        (λ y rest g.
        both (gathered (number_at threads shapes me k) ps) (λ (ys : List ℤ). Gives (y ∷ ys)) rest vs g
        (gathers_each k ps (λ q m. f q (inr m))) (λ ys last x. none last x.0))

    total_each : (op : Reduction) (k : Kind) (dst : SharedPtr) (ps : List SharedPtr)
        → ((p : SharedPtr) → Has ps p → (s : Step) → s.action ≡ act.Read (location p) false → P s)
        → ((v : Scalar) (s : Step) → s.action ≡ act.Write false (location dst) v → P s)
        → (a : ℤ) (did : List Step) → Performs (total threads shapes me op k a dst ps) did tt → Each P did
    total_each op k dst [] f g a did h = puts dst a (g (Int a)) tt did h
    total_each op k dst (p ∷ ps) f g a did h =
        both (number_at threads shapes me k p)
        (λ v. bind (outcome threads shapes me (step op k a v)) (λ b. total threads shapes me op k b dst ps)) did tt h
        (reads k p (f p (inl refl)))
        (λ v rest x.
        both (outcome threads shapes me (step op k a v)) (λ b. total threads shapes me op k b dst ps) rest tt x
        (λ b first y. outcome_none (step op k a v) b first y)
        (λ b last y. total_each op k dst ps (λ q m. f q (inr m)) g b last y))
      where
        outcome_none : (o : Result ℤ ℕ) (b : ℤ) (first : List Step) → Performs (outcome threads shapes me o) first b
            → Each P first
        outcome_none (Ok v) b first y = none first y.0
        outcome_none (Err c) b first y = absurd y

    reduce_each : (ro : Option Reduction) (k : Kind) (dst : SharedPtr) (ps : List SharedPtr)
        → ((p : SharedPtr) → Has ps p → (s : Step) → s.action ≡ act.Read (location p) false → P s)
        → ((v : Scalar) (s : Step) → s.action ≡ act.Write false (location dst) v → P s)
        → (did : List Step) → Performs (reduce threads shapes me ro k dst ps) did tt → Each P did
    reduce_each (Some op) k dst (p ∷ ps) f g did h =
        both (number_at threads shapes me k p) (λ v. total threads shapes me op k v dst ps) did tt h
        (reads k p (f p (inl refl))) (total_each op k dst ps (λ q m. f q (inr m)) g)
    reduce_each (Some op) k dst [] f g did h = none did h.0
    reduce_each None k dst ps f g did h = none did h.0

    -- The reads and the writes of parts.
    abbrev PartSteps : Part → Type 0
    PartSteps x =
        ((s : Step) → s.action ≡ act.Read (location x.from) false → P s)
        × ((v : Scalar) (s : Step) → s.action ≡ act.Write false (location x.into) v → P s)

    totals_each : (op : Reduction) (k : Kind) (xs : List Part) → ((x : Part) → Has xs x → PartSteps x)
        → (a : ℤ) (did : List Step) → Performs (totals threads shapes me op k a xs) did tt → Each P did
    totals_each op k [] f a did h = none did h.0
    totals_each op k (x ∷ xs) f a did h =
        both (number_at threads shapes me k x.from)
        (λ v. bind (outcome threads shapes me (step op k a v)) (λ b.
        bind (number_put threads shapes me x.into b) (λ u. totals threads shapes me op k b xs))) did tt h
        (reads k x.from (f x (inl refl)).0)
        (λ v rest y.
        both (outcome threads shapes me (step op k a v)) (λ b.
        bind (number_put threads shapes me x.into b) (λ u. totals threads shapes me op k b xs)) rest tt y
        (λ b first z. outcome_none (step op k a v) b first z)
        (λ b last z.
        both (number_put threads shapes me x.into b) (λ u. totals threads shapes me op k b xs) last tt z
        (puts x.into b ((f x (inl refl)).1 (Int b)))
        (λ u end e. totals_each op k xs (λ q m. f q (inr m)) b end e)))
      where
        outcome_none : (o : Result ℤ ℕ) (b : ℤ) (first : List Step) → Performs (outcome threads shapes me o) first b
            → Each P first
        outcome_none (Ok v) b first y = none first y.0
        outcome_none (Err c) b first y = absurd y

    prefixes_each : (ro : Option Reduction) (k : Kind) (xs : List Part) → ((x : Part) → Has xs x → PartSteps x)
        → (did : List Step) → Performs (reduce_prefixes threads shapes me ro k xs) did tt → Each P did
    prefixes_each (Some op) k (x ∷ xs) f did h =
        both (number_at threads shapes me k x.from)
        (λ v. bind (number_put threads shapes me x.into v) (λ u. totals threads shapes me op k v xs)) did tt h
        (reads k x.from (f x (inl refl)).0)
        (λ v rest y.
        both (number_put threads shapes me x.into v) (λ u. totals threads shapes me op k v xs) rest tt y
        (puts x.into v ((f x (inl refl)).1 (Int v)))
        (λ u end e. totals_each op k xs (λ q m. f q (inr m)) v end e))
    prefixes_each (Some op) k [] f did h = none did h.0
    prefixes_each None k xs f did h = none did h.0

    -- The copy of a part.
    copied_each : (n : ℕ) (x : Part)
        → ((r : ℕ) → r < n → (s : Step) → s.action ≡ act.Read (location_behind x.from r) false → P s)
        → ((r : ℕ) → r < n → (v : Scalar) (s : Step) → s.action ≡ act.Write false (location_behind x.into r) v → P s)
        → (did : List Step) → Performs (copied threads shapes me n x) did tt → Each P did
    copied_each n x f g did h =
        each_turn
        (λ (c : ℕ × Kind). Reads (location_behind x.from c.0) c.1
        (λ v. does (act.Write false (location_behind x.into c.0) v)))
        P (cells threads shapes me n x.into)
        (λ c own m y. one c.0 (cell_below (shape_at shapes x.into) _ n c m) c.1 own y) did h
      where
        one : (r : ℕ) → r < n → (k : Kind) (own : List Step)
            → Performs (Reads (location_behind x.from r) k
            (λ v. does (act.Write false (location_behind x.into r) v))) own tt
            → Each P own
        one r less k [] y = absurd y
        one r less k (s ∷ own) y =
            let w = does_one (act.Write false (location_behind x.into r) y.1) own tt y.3 in
            (f r less s y.0, subst (Each P) (sym w.is) (g r less y.1 w.step w.action, tt))

    -- Work that is done where there is at least one byte.
    some_each : (n : ℕ) (e : Expansion (Unit {0})) (did : List Step)
        → Performs (some_bytes threads shapes me n e) did tt
        → (0 < n → Performs e did tt → Each P did) → Each P did
    some_each zero e did h go = none did h.0
    some_each (suc m) e did h go =
        go (omega arith) (some_performs threads shapes me (suc m) e did (omega arith) h)

    -- What one thread alone does.
    home_each : (b : Bool) (e : Expansion (Unit {0})) (did : List Step) → Performs (cond b e nothing) did tt
        → (Performs e did tt → Each P did) → Each P did
    home_each b e did h go = elim (at_home b e did h) [ inl g ↦ go g | inr q ↦ none did q ]

    -- What is done with elements that have passed the tests.
    cells_each : (k : Kind) (ps : List SharedPtr) (e : Expansion (Unit {0})) (did : List Step)
        → Performs (are_cells threads shapes me k ps e) did tt → (Performs e did tt → Each P did) → Each P did
    cells_each k ps e did h go =
        let size = kind_size k in
        go
        (passes_three (list_any (leaves_range size) ps) (list_any (outside threads shapes me size) ps)
        (list_any (λ p. not (is_cell shapes k p)) ps) POINTER_RANGE OUT_OF_OBJECT CELL_TYPE e did tt h).goes

-- As many numbers are gathered as there are pointers.
gathered_length : (threads : ℕ) (shapes : List Shape) (me : ℕ) (k : Kind) (ps : List SharedPtr) (vs : List ℤ)
    → (did : List Step) → Performs (gathered (number_at threads shapes me k) ps) did vs → length vs ≡ length ps
gathered_length threads shapes me k [] vs did h = ap length (sym h.1)
gathered_length threads shapes me k (p ∷ ps) vs did h =
    let q = split (λ y. bind (gathered (number_at threads shapes me k) ps) (λ (ys : List ℤ). Gives (y ∷ ys)))
    (number_at threads shapes me k p) did vs h in
    let r = split (λ (ys : List ℤ). Gives (q.value ∷ ys))
    (gathered (number_at threads shapes me k) ps) q.rest vs q.goes in
    let rest : length r.value ≡ length ps = gathered_length threads shapes me k ps r.value r.first r.begins in
    ap length (sym r.goes.1) ∙ (let e : length (q.value ∷ r.value) ≡ length (p ∷ ps) = omega arith in e)

-- ---- the calls

module _ (threads : ℕ) (shapes : List Shape) (me : ℕ) (some : 0 < threads) (lt : me < threads) where
  module _ (w : Way) (dst src : SharedPtr) (n : ℕ) (f : ℤ) where
    -- The tests of a part of the call.
    abbrev Passes : Part → Type 0
    Passes x = PartPasses threads shapes n 0 (λ y. dst) (λ y. src) (λ t. parts threads shapes t w dst src n) x

    abbrev PartStays : Part → Type 0
    PartStays x =
        Passes x → (did : List Step) → Performs (copied threads shapes me n x) did tt
        → Each (IsOfCall threads (Copies w dst src n f)) did

    part_stays : (i : ℕ) → i < threads → PartStays (part_at threads shapes me w dst src n i)
    part_stays i below ok did h =
        let x = part_into w threads n me i in
        let y = part_from w threads n me i in
        let bd = (destination w threads n).block in
        let bs = (source w threads n).block in
        let fits = fits_all w threads n me i lt below in
        copied_each (IsOfCall threads (Copies w dst src n f)) threads shapes me n
        (part_at threads shapes me w dst src n i)
        (λ r less s e.
        inr (
          location_behind (byte_at src bs threads y) r,
          e,
          (y + r, fits.reads r less, byte_location src bs threads y r some (fits.from_block r less) ok.from_zero),
        ))
        (λ r less v s e.
        inl (
          location_behind (byte_at dst bd threads x) r,
          v,
          e,
          (x + r, fits.fits r less, byte_location dst bd threads x r some (fits.into_block r less) ok.into_zero),
        ))
        did h

    copies_stay : (did : List Step) → Performs (work threads shapes me (Copies w dst src n f)) did tt
        → Each (IsOfCall threads (Copies w dst src n f)) did
    copies_stay did h =
        let xs = parts threads shapes me w dst src n in
        some_each (IsOfCall threads (Copies w dst src n f)) threads shapes me n (move threads shapes me n xs) did h
        (λ many g.
        let m = moves threads shapes n 0 (λ y. dst) (λ y. src) (λ t. parts threads shapes t w dst src n) me did g in
        each_turn (copied threads shapes me n) (IsOfCall threads (Copies w dst src n f)) xs
        (λ x own has y.
        let i = parts_from threads shapes me dst src n w x some has in
        subst PartStays i.is (part_stays i.index i.below) (m.passes x has) own y) did m.goes)

  module _ (dst src perm : SharedPtr) (n : ℕ) (f : ℤ) where
    abbrev PermuteStays : List Step → Type 0
    PermuteStays did = Each (IsOfCall threads (Permutes dst src perm n f)) did

    abbrev chosen_part : List ℤ → Part
    chosen_part vs = chosen threads shapes me dst src n vs

    abbrev BlockStays : List ℤ → Part → Type 0
    BlockStays vs x =
        PartPasses threads shapes n 0 (λ y. dst) (λ y. src) (λ t. chosen_part vs ∷ []) x → (did : List Step)
        → Performs (copied threads shapes me n x) did tt → PermuteStays did

    chosen_stays : (vs : List ℤ) → position_or_len (λ v. int_eq v (pos me)) vs < threads
        → BlockStays vs (chosen_part vs)
    chosen_stays vs below ok did h =
        let b = position_or_len (λ v. int_eq v (pos me)) vs in
        copied_each (IsOfCall threads (Permutes dst src perm n f)) threads shapes me n (chosen_part vs)
        (λ r less s e.
        inr (
          location_behind (byte_at src n threads (b * n)) r,
          e,
          inl (
            b * n + r,
            row-below b r n threads below less,
            byte_location src n threads (b * n) r some
                (λ z. in_block b 0 n r (b * n) (omega arith) (omega arith)) ok.from_zero,
          ),
        ))
        (λ r less v s e.
        inl (
          location_behind (byte_at dst n threads (me * n)) r,
          v,
          e,
          (
            me * n + r,
            row-below me r n threads lt less,
            byte_location dst n threads (me * n) r some
                (λ z. in_block me 0 n r (me * n) (omega arith) (omega arith)) ok.into_zero,
          ),
        ))
        did h

    one_block : (vs : List ℤ) (x : Part) → Has (chosen_part vs ∷ []) x → BlockStays vs (chosen_part vs)
        → BlockStays vs x
    one_block vs x (inl e) h = subst (BlockStays vs) e h
    one_block vs x (inr m) h = absurd m

    block_stays : (vs : List ℤ) → position_or_len (λ v. int_eq v (pos me)) vs < threads → (did : List Step)
        → Performs (some_bytes threads shapes me n (move threads shapes me n (chosen_part vs ∷ []))) did tt
        → PermuteStays did
    block_stays vs below did h =
        let P = IsOfCall threads (Permutes dst src perm n f) in
        some_each P threads shapes me n (move threads shapes me n (chosen_part vs ∷ [])) did h (λ many g.
        let m = moves threads shapes n 0 (λ y. dst) (λ y. src) (λ t. chosen_part vs ∷ []) me did g in
        each_turn (copied threads shapes me n) P (chosen_part vs ∷ [])
        (λ x own has y. one_block vs x has (chosen_stays vs below) (m.passes x has) own y) did m.goes)

    abbrev goes_on : List ℤ → Expansion (Unit {0})
    goes_on vs =
        refused_by ((not (each_thread threads (λ u. is_at threads shapes me u vs)), LIBRARY_ARGS) ∷ [])
        (some_bytes threads shapes me n (move threads shapes me n (chosen_part vs ∷ [])))

    rest_stays : (vs : List ℤ) → length vs ≡ threads → (did : List Step) → Performs (goes_on vs) did tt
        → PermuteStays did
    rest_stays vs len did h =
        let each = each_thread threads (λ u. is_at threads shapes me u vs) in
        let p = passes (not each) LIBRARY_ARGS
        (some_bytes threads shapes me n (move threads shapes me n (chosen_part vs ∷ []))) did tt h in
        let there = each_at threads (λ u. is_at threads shapes me u vs) me (not-false each p.0) lt in
        let less = position_below (λ v. int_eq v (pos me)) vs there in
        block_stays vs (omega arith) did p.1

    permute_stays : (did : List Step) → Performs (permute threads shapes me dst src perm n) did tt → PermuteStays did
    permute_stays did h =
        let P = IsOfCall threads (Permutes dst src perm n f) in
        let ps = permutation threads shapes me perm in
        let own = byte_at dst n threads (me * n) in
        let some_byte = not (n == 0) in
        let gathering = gathered (number_at threads shapes me kind.Int) ps in
        let q = passes_three
        (list_any (leaves_range 4) ps || (some_byte && leaves_range n own))
        (list_any (outside threads shapes me 4) ps || (some_byte && outside threads shapes me n own))
        (list_any (λ p. not (is_cell shapes kind.Int p)) ps || (some_byte && cut threads shapes me n own))
        POINTER_RANGE OUT_OF_OBJECT CELL_TYPE (bind gathering goes_on) did tt h in
        both_so P gathering goes_on did tt q.goes
        (gathers_each P threads shapes me kind.Int ps (λ p m s e.
        let c = map_from (λ (i : ℕ). element (from_phase_0 perm) 1 4 threads i) (range_with_len 0 threads) p m in
        let below = (range_below 0 threads c.from c.has).1 in
        inr (location p, e, inr (c.from, omega arith, ap location (sym c.is)))))
        (λ vs first rest x y.
        rest_stays vs
        (gathered_length threads shapes me kind.Int ps vs first x
        ∙ length-map-range_with_len (λ i. element (from_phase_0 perm) 1 4 threads i) 0 threads)
        rest y)

  module _ (dst src : SharedPtr) (op : ℤ) (n blk k : ℕ) (f : ℤ) where
    -- A pointer to an element of an operand.
    record IsElement (p q : SharedPtr) : Type 0 where
      index : ℕ
      below : index < n
      is : operand threads shapes me p blk k index ≡ q

    is_element : (p q : SharedPtr) → Has (operands threads shapes me p blk k n) q → IsElement p q
    is_element p q m =
        let c = map_from (operand threads shapes me p blk k) (range_with_len 0 n) q m in
        let below = (range_below 0 n c.from c.has).1 in
        record { index = c.from; below = omega arith; is = c.is }

    reduce_stays : (did : List Step) → Performs (work threads shapes me (Reduces dst src op n blk k f)) did tt
        → Each (IsOfCall threads (Reduces dst src op n blk k f)) did
    reduce_stays did h =
        let P = IsOfCall threads (Reduces dst src op n blk k f) in
        let from = operands threads shapes me src blk k n in
        let go = reduce threads shapes me (reduction op) (element_kind k) dst from in
        home_each P threads shapes me (dst.thread == me)
        (are_cells threads shapes me (element_kind k) (dst ∷ from) go) did h (λ x.
        cells_each P threads shapes me (element_kind k) (dst ∷ from) go did x (λ y.
        reduce_each P threads shapes me (reduction op) (element_kind k) dst from
        (λ q m s e.
        let i = is_element src q m in
        inr (location q, e, (i.index, i.below, ap location (sym i.is))))
        (λ v s e. inl (location dst, v, e, refl))
        did y))

    prefix_stays : (did : List Step) → Performs (work threads shapes me (Reduces_prefixes dst src op n blk k f)) did tt
        → Each (IsOfCall threads (Reduces_prefixes dst src op n blk k f)) did
    prefix_stays did h =
        let P = IsOfCall threads (Reduces_prefixes dst src op n blk k f) in
        let into = operands threads shapes me dst blk k n in
        let from = operands threads shapes me src blk k n in
        let element = λ (i : ℕ). part (operand threads shapes me dst blk k i) (operand threads shapes me src blk k i) in
        let go = λ (xs : List Part). reduce_prefixes threads shapes me (reduction op) (element_kind k) xs in
        home_each P threads shapes me (dst.thread == me)
        (are_cells threads shapes me (element_kind k) (into ++ from) (go (paired threads shapes me into from))) did h
        (λ x.
        cells_each P threads shapes me (element_kind k) (into ++ from) (go (paired threads shapes me into from)) did x
        (λ y.
        prefixes_each P threads shapes me (reduction op) (element_kind k) (map element (range_with_len 0 n))
        (λ z m.
        let c = map_from element (range_with_len 0 n) z m in
        let least = (range_below 0 n c.from c.has).1 in
        let below : c.from < n = omega arith in
        subst (PartSteps P threads shapes me) c.is (
          (λ s e. inr (location (element c.from).from, e, (c.from, below, refl))),
          (λ v s e. inl (location (element c.from).into, v, e, (c.from, below, refl))),
        ))
        did
        (subst (λ xs. Performs (go xs) did tt)
        (paired_maps threads shapes me (operand threads shapes me dst blk k) (operand threads shapes me src blk k)
        (range_with_len 0 n))
        y)))

pub work_stays : WorkStays
work_stays threads shapes (Copies w dst src n f) me did some lt formed passed h =
    copies_stay threads shapes me some lt w dst src n f did h
work_stays threads shapes (Permutes dst src perm n f) me did some lt formed passed h =
    permute_stays threads shapes me some lt dst src perm n f did h
work_stays threads shapes (Reduces dst src op n blk k f) me did some lt formed passed h =
    reduce_stays threads shapes me some lt dst src op n blk k f did h
work_stays threads shapes (Reduces_prefixes dst src op n blk k f) me did some lt formed passed h =
    prefix_stays threads shapes me some lt dst src op n blk k f did h
work_stays threads shapes call me did some lt formed passed h = none (IsOfCall threads call) did h.0
