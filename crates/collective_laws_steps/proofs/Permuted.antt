-- The call upc_all_permute leaves its value.
use Rattle.std.proofs.Common.{◌≡◌, ℕ, ◌+◌, ◌*◌, ◌/◌, ◌%◌, ◌<◌, ◌==◌, not, ◌&&◌, ◌||◌, List, [], ◌∷◌, map, inl, inr}
use Rattle.std.proofs.Common.{refl, sym, ap, ◌∙◌, subst, arith, get_or}
use Rattle.std.specs.Prelude.{ℤ, pos}
use Rattle.std.specs.List.{list_any, range_with_len, position_or_len}
use Rattle.std.specs.Ordering.{int_eq}
use Rattle.std.proofs.lemmas.Bool.{not-false}
use Rattle.std.proofs.lemmas.Nat.{div-mul-add, mod-mul-add}
use Rattle.std.proofs.lemmas.List.FromFn.{length-map-range_with_len, get_or-map-range_with_len}
use Rattle.block_layout.specs.declared.place.Loc.{Loc}
use Rattle.block_layout.specs.declared.place.SharedPtr.{SharedPtr}
use Rattle.block_layout.specs.declared.kind.Kind.TheVariants as kind
use Rattle.block_layout.specs.declared.kind.Shape.{Shape}
use Rattle.block_layout.specs.declared.run_error.TheConstants.{OUT_OF_OBJECT, POINTER_RANGE, CELL_TYPE, LIBRARY_ARGS}
use Rattle.block_layout.specs.Pointers.{location}
use Rattle.block_layout.proofs.Numbers.{row-below}
use Rattle.upc_values.specs.declared.scalar.Scalar.{Scalar}
use Rattle.upc_values.specs.layer.Parts.{permutation, is_at, outside}
use Rattle.upc_values.specs.Calls.Call.{Permutes}
use Rattle.upc_values.specs.History.{each_thread}
use Rattle.upc_values.specs.Expansion.{Expansion, bind, gathered, refused_by}
use Rattle.upc_values.specs.Expansions.{Part, permute, chosen, number_at, some_bytes, move}
use Rattle.upc_values.specs.Expansions.{cut}
use Rattle.upc_values.specs.Views.{byte_at, element, from_phase_0, leaves_range, is_cell}
use Rattle.upc_values.specs.Collective.{Holding, ArePermuted, number_in}
use Rattle.collective_laws_words.specs.layer.Steps.{Step, Performs}
use Rattle.collective_laws_words.specs.layer.Interface.{AreDone, Wrote}
use Rattle.collective_laws_steps.proofs.Lists.{map_twice}
use Rattle.collective_laws_steps.proofs.Rows.{IsBehind, byte_behind, one_element}
use Rattle.collective_laws_steps.proofs.Firsts.{HasAll, first_place}
use Rattle.collective_laws_steps.proofs.Performing.{passes, passes_three, split, IsOf, is_front, is_back, wrote_cases}
use Rattle.collective_laws_steps.proofs.Moving.{IsPart, AreLaid, AllCopy, thread_copies, values_move}
use Rattle.collective_laws_steps.proofs.Numbers.{each_at, any_has, Reads, reads_within, held_number, gathers}
use Rattle.collective_laws_steps.proofs.Ways.{in_block, by_row}
use Rattle.collective_laws_steps.proofs.Copied.{some_performs, object_of_byte}

module _ (threads : ℕ) (shapes : List Shape) (dst src perm : SharedPtr) (n : ℕ) (before : Holding) where
  -- The pointer to element i of the permutation, and the number that it held.
  abbrev choice : ℕ → SharedPtr
  choice i = element (from_phase_0 perm) 1 4 threads i

  -- The numbers of the permutation before the call.
  abbrev choices : List ℤ
  choices = map (λ i. number_in (before (location (choice i)))) (range_with_len 0 threads)

  -- The block that goes to a thread.
  abbrev block_for : ℕ → ℕ
  block_for t = position_or_len (λ v. int_eq v (pos t)) choices

  abbrev byte_into : ℕ → SharedPtr
  byte_into x = byte_at dst n threads x

  abbrev byte_from : ℕ → SharedPtr
  byte_from x = byte_at src n threads (block_for (x / n) * n + x % n)

  abbrev parts_of : ℕ → List Part
  parts_of t = chosen threads shapes t dst src n choices ∷ []

  -- What a thread does: it finds each number, and copies its block.
  record Chooses (t : ℕ) (did : List Step) : Type 0 where
    all_there : HasAll threads choices
    own : List Step
    within : IsOf own did
    all : (l : Loc) (v : Scalar) → Wrote l v did → Wrote l v own
    goes : Performs (some_bytes threads shapes t n (move threads shapes t n (parts_of t))) own tt

  abbrev goes_on : ℕ → List ℤ → Expansion (Unit {0})
  goes_on t vs =
      refused_by ((not (each_thread threads (λ u. is_at threads shapes t u vs)), LIBRARY_ARGS) ∷ [])
      (some_bytes threads shapes t n (move threads shapes t n (chosen threads shapes t dst src n vs ∷ [])))

  same_choices : (t : ℕ) → map (held_number threads shapes t kind.Int before)
      (permutation threads shapes t perm) ≡ choices
  same_choices t = map_twice choice (held_number threads shapes t kind.Int before) (range_with_len 0 threads)

  chooses : (t : ℕ) (did : List Step) → Reads threads shapes t kind.Int before did
      → Performs (permute threads shapes t dst src perm n) did tt → Chooses t did
  chooses t did reads h =
      let ps = permutation threads shapes t perm in
      let own = byte_at dst n threads (t * n) in
      let some = not (n == 0) in
      let q = passes_three
      (list_any (leaves_range 4) ps || (some && leaves_range n own))
      (list_any (outside threads shapes t 4) ps || (some && outside threads shapes t n own))
      (list_any (λ p. not (is_cell shapes kind.Int p)) ps || (some && cut threads shapes t n own))
      POINTER_RANGE OUT_OF_OBJECT CELL_TYPE
      (bind (gathered (number_at threads shapes t kind.Int) ps) (goes_on t)) did tt h in
      let r = split (goes_on t) (gathered (number_at threads shapes t kind.Int) ps) did tt q.goes in
      let g = gathers threads shapes t kind.Int before ps r.first r.value
      (reads_within threads shapes t kind.Int before r.first did (is_front did r.first r.rest r.is) reads) r.begins in
      let same : r.value ≡ choices = g.is ∙ same_choices t in
      let later = subst (λ vs. Performs (goes_on t vs) r.rest tt) same r.goes in
      let p = passes (not (each_thread threads (λ u. is_at threads shapes t u choices))) LIBRARY_ARGS
      (some_bytes threads shapes t n (move threads shapes t n (parts_of t))) r.rest tt later in
      record {
        all_there = λ u lt.
            any_has choices (pos u)
            (each_at threads (λ x. is_at threads shapes t x choices) u
            (not-false (each_thread threads (λ x. is_at threads shapes t x choices)) p.0) lt);
        own = r.rest;
        within = is_back did r.first r.rest r.is;
        all = λ l v w. elim (wrote_cases l v r.first r.rest (subst (Wrote l v) r.is w)) [
          | inl m ↦ absurd (g.only l v m)
          | inr m ↦ m
        ];
        goes = p.1;
      }

  from_is : (t r : ℕ) → r < n → block_for ((t * n + r) / n) * n + (t * n + r) % n ≡ block_for t * n + r
  from_is t r lt =
      ap (λ q. block_for q * n + (t * n + r) % n) (div-mul-add t n r lt)
      ∙ ap (λ m. block_for t * n + m) (mod-mul-add t n r lt)

  part_is : 0 < threads → (t : ℕ) → t < threads
      → IsPart threads shapes n (n * threads) byte_into byte_from parts_of (chosen threads shapes t dst src n choices)
  part_is some t ht = record {
    first = t * n;
    fits = λ r lt. row-below t r n threads ht lt;
    into_goes = λ r lt.
        byte_behind dst n threads (t * n) r some (λ b. in_block t 0 n r (t * n) (omega arith) (omega arith));
    from_goes = λ r lt.
        subst (λ z. IsBehind (byte_at src n threads (block_for t * n)) (byte_at src n threads z) r)
        (sym (from_is t r lt))
        (byte_behind src n threads (block_for t * n) r some
        (λ b. in_block (block_for t) 0 n r (block_for t * n) (omega arith) (omega arith)));
  }

  laid : 0 < threads → 0 < n → AreLaid threads shapes n (n * threads) byte_into byte_from parts_of
  unfolding part_is
  laid some many = record {
    each = λ t lt x m. elim m [
      | inl e ↦ subst (IsPart threads shapes n (n * threads) byte_into byte_from parts_of) e (part_is some t lt)
      | inr k ↦ absurd k
    ];
    covered = λ x lt.
        let row = by_row n threads x many lt in
        record {
          thread = x / n;
          below = row.0;
          part = chosen threads shapes (x / n) dst src n choices;
          has = inl refl;
          is = part_is some (x / n) row.0;
          rest = x % n;
          less = row.1;
          sum = row.2;
        };
    one = λ x y h k e. one_element (from_phase_0 dst) n 1 threads x y (omega arith) some h k e;
  }

  module _ (f : ℤ) (after : Holding) where
    thread_chooses : (a : AreDone threads shapes (Permutes dst src perm n f) before after) (t : ℕ) → t < threads
        → Chooses t (a.dids t)
    thread_chooses a t lt = chooses t (a.dids t) (λ l v m. a.reads t l v lt m) (a.performs t lt)

    all_copy : (a : AreDone threads shapes (Permutes dst src perm n f) before after) → 0 < n
        → AllCopy threads shapes n (n * threads) byte_into byte_from parts_of before after a.dids
    all_copy a many = record {
      laid = laid a.some many;
      copies = λ t lt.
          let c = thread_chooses a t lt in
          thread_copies threads shapes n (n * threads) byte_into byte_from parts_of t c.own (a.dids t)
          (some_performs threads shapes t n (move threads shapes t n (parts_of t)) c.own many c.goes) c.within c.all;
      reads = a.reads;
      writes = a.writes;
      into_empty = λ x e. (a.empty dst (byte_into x) (inl refl) (object_of_byte dst n threads x) e).1;
      from_empty = λ x e.
          (a.empty src (byte_from x) (inr (inl refl))
          (object_of_byte src n threads (block_for (x / n) * n + x % n)) e).0;
    }

    -- Block i of the source goes to the thread whose number element i of the permutation held.
    pub permutes_hold : AreDone threads shapes (Permutes dst src perm n f) before after
        → ArePermuted threads dst src perm n before after
    permutes_hold a i t r hi ht hr e =
        let there = (thread_chooses a t ht).all_there in
        let at : get_or choices i (pos 0) ≡ pos t =
        get_or-map-range_with_len (λ j. number_in (before (location (choice j)))) 0 threads i i (pos 0) hi (omega arith)
        ∙ ap number_in e in
        let place = first_place threads choices i t there
        (length-map-range_with_len (λ j. number_in (before (location (choice j)))) 0 threads) hi at in
        values_move threads shapes n (n * threads) byte_into byte_from parts_of before after a.dids
        (all_copy a (omega arith)) (t * n + r) (row-below t r n threads ht hr)
        ∙ ap (λ x. before (location (byte_at src n threads x)))
        (from_is t r hr ∙ ap (λ b. b * n + r) place)
