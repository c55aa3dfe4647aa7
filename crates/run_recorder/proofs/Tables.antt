-- Where the actions of a record stand.
use Rattle.std.proofs.Common.{◌≡◌, ◌∙◌, ◌<◌, ◌≤◌, ◌-◌, ◌+◌, ℕ, zero, suc, List, [], ◌∷◌, ◌++◌, length, take, drop}
use Rattle.std.proofs.Common.{subst, Option, Some, None, refl, sym, ap, arith, add-one, drop-cons, inl, inr}
use Rattle.std.proofs.Common.{length-append, add-zero, append_assoc}
use Rattle.std.specs.Prelude.{slice_get}
use Rattle.std.specs.List.{slice_index_or}
use Rattle.std.proofs.lemmas.Bool.{cases_lt}
use Rattle.std.proofs.lemmas.List.{drop_all, append-nil}
use Rattle.std.proofs.lemmas.Option.{slice_get_past, slice_get_read}
use Rattle.std.proofs.lemmas.List.{take_more}
use Rattle.std.specs.Prelude.{Vec}
use Rattle.std.specs.declared.alloc.Global.{Global}
use Rattle.upc_values.specs.declared.record.Item.TheVariants.{Did, Stall}
use Rattle.upc_values.specs.declared.journal.Entry.{Entry}
use Rattle.run_recorder_parts.specs.declared.fail.Fail.{Fail}
use Rattle.run_recorder_parts.specs.declared.fail.Fail.TheVariants.{Bad, Memory}
use Rattle.upc_values.specs.declared.action.Action.{Action}
use Rattle.upc_values.specs.declared.action.Reply.{Reply}
use Rattle.upc_values.specs.declared.record.Item.{Item}
use Rattle.upc_values.specs.declared.journal.Strand.{Strand}
use Rattle.run_recorder_parts.specs.declared.names.Name.{Name}
use Rattle.run_recorder_parts.specs.layer.Readers.{bind, Fails}
use Rattle.run_recorder.specs.code.Finding.{did_at, entry_of, entries_of, did_of_item, did_in, IsTable, after}
use Rattle.run_recorder.specs.code.Finding.{AreTables}
use Rattle.run_recorder.proofs.Forms.{some_is}

-- The places so far are those of the first actions; the others stand from `at` on.
pub record IsSoFar (is : List Item) (at : ℕ) (places : List ℕ) : Type 0 where
  pub first : (n : ℕ) → n < length places → did_at is n ≡ did_in is (slice_get places n)
  pub others : (n : ℕ) → did_at is (length places + n) ≡ did_at (drop at is) n

kept : (xs ys : List ℕ) (n : ℕ) → n < length xs → slice_get (xs ++ ys) n ≡ slice_get xs n
kept [] ys n lt = absurd (omega arith)
kept (x ∷ xs) ys zero lt = refl
kept (x ∷ xs) ys (suc n) lt = kept xs ys n (omega arith)

last : (xs : List ℕ) (y : ℕ) → slice_get (xs ++ y ∷ []) (length xs) ≡ Some y
last [] y = refl
last (x ∷ xs) y = last xs y

pub begun : (is : List Item) → IsSoFar is 0 []
begun is = record {
  first = λ n lt. absurd (omega arith);
  others = λ n. let k : 0 + n ≡ n = omega arith in
      ap (did_at is) k ∙ ap (λ xs. did_at xs n) (sym (drop_none is));
}
  where
    drop_none : (xs : List Item) → drop 0 xs ≡ xs
    drop_none [] = refl
    drop_none (x ∷ xs) = refl

found : (is : List Item) (at n : ℕ) (places : List ℕ) (a : Action) (r : Reply) → n ≡ length places
    → IsSoFar is at places → drop at is ≡ Did a r ∷ drop (at + 1) is → slice_get is at ≡ Some (Did a r)
    → did_at is n ≡ did_in is (slice_get (places ++ at ∷ []) n)
found is at n places a r here h rest there =
    ap (did_at is) (here ∙ sym (add-zero (length places))) ∙ h.others 0 ∙ ap (λ xs. did_at xs 0) rest
    ∙ sym (ap (λ k. did_in is (slice_get (places ++ at ∷ []) k)) here ∙ ap (did_in is) (last places at)
    ∙ ap (λ o. bind o did_of_item) there)

pub step : (is : List Item) (at : ℕ) (x : Item) (places : List ℕ) → at < length is → x ≡ slice_index_or is at x
    → IsSoFar is at places → IsSoFar is (at + 1) (after at x places)
step is at Stall places lt here h =
    let rest = drop-cons is at Stall lt ∙ ap (λ (y : Item). y ∷ drop (suc at) is) (sym here)
    ∙ ap (λ k. Stall ∷ drop k is) (sym (add-one at)) in
    record { first = h.first; others = λ n. h.others n ∙ ap (λ xs. did_at xs n) rest }
step is at (Did a r) places lt here h =
    let rest = drop-cons is at (Did a r) lt ∙ ap (λ (y : Item). y ∷ drop (suc at) is) (sym here)
    ∙ ap (λ k. Did a r ∷ drop k is) (sym (add-one at)) in
    let there : slice_get is at ≡ Some (Did a r) = slice_get_read is (length is) at (Did a r) refl lt here in
    let more : length (places ++ at ∷ []) ≡ length places + 1 = omega (arith, length-append places (at ∷ [])) in
    record {
      first = λ n low. elim (cases_lt n (length places)) [
        | inl below ↦ h.first n below ∙ ap (did_in is) (sym (kept places (at ∷ []) n below))
        | inr above ↦ found is at n places a r (omega arith) h rest there
      ];
      others = λ n.
          let k : length (places ++ at ∷ []) + n ≡ length places + suc n = omega (arith, more) in
          ap (did_at is) k ∙ h.others (suc n) ∙ ap (λ xs. did_at xs (suc n)) rest;
    }

pub done : (is : List Item) (at : ℕ) (places : List ℕ) → length is ≤ at → IsSoFar is at places → IsTable is places
done is at places le h n = elim (cases_lt n (length places)) [
  | inl below ↦ h.first n below
  | inr above ↦
      let k : n ≡ length places + (n - length places) = omega arith in
      ap (did_at is) k ∙ h.others (n - length places) ∙ ap (λ xs. did_at xs (n - length places)) (drop_all at is le)
      ∙ sym (ap (did_in is) (slice_get_past places n above))
]

-- What was found before, and what is still found.
abbrev pub behind : List Entry → Option (List Entry) → Option (List Entry)
behind front found = bind found (λ es. Some (front ++ es))

-- ---- a table for each thread

tables_append : (ss : List Strand) (vs : List (Vec ℕ Global)) (s : Strand) (v : Vec ℕ Global) → AreTables ss vs
    → IsTable s.items v.items → AreTables (ss ++ s ∷ []) (vs ++ v ∷ [])
tables_append [] [] s v h t = (t, tt)
tables_append [] (w ∷ ws) s v h t = absurd h
tables_append (r ∷ rs) [] s v h t = absurd h
tables_append (r ∷ rs) (w ∷ ws) s v h t = (h.0, tables_append rs ws s v h.1 t)

pub tables_more : (ss : List Strand) (i : ℕ) (vs : List (Vec ℕ Global)) (s : Strand) (v : Vec ℕ Global)
    → i < length ss → s ≡ slice_index_or ss i s → AreTables (take i ss) vs → IsTable s.items v.items
    → AreTables (take (i + 1) ss) (vs ++ v ∷ [])
tables_more ss i vs s v lt is h t =
    subst (λ xs. AreTables xs (vs ++ v ∷ [])) (sym (take_more ss i s lt ∙ ap (λ x. take i ss ++ x ∷ []) (sym is)))
    (tables_append (take i ss) vs s v h t)

pub tables_at : (ss : List Strand) (vs : List (Vec ℕ Global)) (t : ℕ) (s : Strand) (v : Vec ℕ Global)
    → AreTables ss vs → Some s ≡ slice_get ss t → Some v ≡ slice_get vs t → IsTable s.items v.items
tables_at [] vs t s v h a b = absurd cc
tables_at (r ∷ rs) [] t s v h a b = absurd h
tables_at (r ∷ rs) (w ∷ ws) zero s v h a b =
    let e = some_is s r a in
    let f = some_is v w b in
    subst (λ (x : Strand). IsTable x.items v.items) (sym e)
    (subst (λ (y : Vec ℕ Global). IsTable r.items y.items) (sym f) h.0)
tables_at (r ∷ rs) (w ∷ ws) (suc t) s v h a b = tables_at rs ws t s v h.1 a b

pub tables_none : (ss : List Strand) (vs : List (Vec ℕ Global)) (t : ℕ) → AreTables ss vs → None ≡ slice_get vs t
    → slice_get ss t ≡ None
tables_none [] vs t h b = refl
tables_none (r ∷ rs) [] t h b = absurd h
tables_none (r ∷ rs) (w ∷ ws) zero h b = absurd cc
tables_none (r ∷ rs) (w ∷ ws) (suc t) h b = tables_none rs ws t h.1 b

-- ---- entries one after the other

regroup : (front : List Entry) (e : Entry) (found : Option (List Entry))
    → behind front (bind found (λ es. Some (e ∷ es))) ≡ behind (front ++ e ∷ []) found
regroup front e (Some es) = ap (λ vs. Some vs) (simp append_assoc)
regroup front e None = refl

pub goes_on : (ss : List Strand) (front : List Entry) (ns : List Name) (i : ℕ) (n : Name) (e : Entry)
    (total : Option (List Entry)) → i < length ns → n ≡ slice_index_or ns i n
    → entry_of ss n ≡ Some e → behind front (entries_of ss (drop i ns)) ≡ total
    → behind (front ++ e ∷ []) (entries_of ss (drop (i + 1) ns)) ≡ total
goes_on ss front ns i n e total lt is read so_far =
    let here : drop i ns ≡ n ∷ drop (i + 1) ns = drop-cons ns i n lt ∙ ap (λ (y : Name). y ∷ drop (suc i) ns) (sym is)
    ∙ ap (λ k. n ∷ drop k ns) (sym (add-one i)) in
    sym (ap (λ xs. behind front (entries_of ss xs)) here
    ∙ ap (λ (o : Option Entry).
    behind front (bind o (λ e. bind (entries_of ss (drop (i + 1) ns)) (λ es. Some (e ∷ es))))) read
    ∙ regroup front e (entries_of ss (drop (i + 1) ns))) ∙ so_far

pub ends : (f : Fail) (ss : List Strand) (front : List Entry) (ns : List Name) (i : ℕ) (n : Name)
    (total : Option (List Entry)) → i < length ns → n ≡ slice_index_or ns i n
    → Fails f (entry_of ss n) → behind front (entries_of ss (drop i ns)) ≡ total → Fails f total
ends Memory ss front ns i n total lt is h so_far = tt
ends Bad ss front ns i n total lt is h so_far =
    let here : drop i ns ≡ n ∷ drop (i + 1) ns = drop-cons ns i n lt ∙ ap (λ (y : Name). y ∷ drop (suc i) ns) (sym is)
    ∙ ap (λ k. n ∷ drop k ns) (sym (add-one i)) in
    sym so_far ∙ ap (λ xs. behind front (entries_of ss xs)) here
    ∙ ap (λ (o : Option Entry).
    behind front (bind o (λ e. bind (entries_of ss (drop (i + 1) ns)) (λ es. Some (e ∷ es))))) h

pub all_found : (ss : List Strand) (front : List Entry) (ns : List Name) (i : ℕ) (total : Option (List Entry))
    → length ns ≤ i → behind front (entries_of ss (drop i ns)) ≡ total → total ≡ Some front
all_found ss front ns i total le so_far = sym so_far ∙ ap (λ xs. behind front (entries_of ss xs)) (drop_all i ns le)
    ∙ ap (λ vs. Some vs) (append-nil front)
