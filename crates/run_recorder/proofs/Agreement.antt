-- An entry agrees with the records exactly where its name finds it.
use Rattle.std.proofs.Common.{◌≡◌, ◌∙◌, ℕ, suc, zero, List, [], ◌∷◌, map, Option, Some, refl, sym, ap, subst, arith}
use Rattle.upc_values.specs.Lists.{Each}
use Rattle.upc_values.specs.declared.journal.Entry.{Entry}
use Rattle.std.specs.Prelude.{slice_get, All}
use Rattle.upc_values.specs.Records.{actions_of, replies_of}
use Rattle.upc_values.specs.Agrees.{IsOf}
use Rattle.upc_values.specs.declared.record.Item.TheVariants.{Did, Stall}
use Rattle.upc_values.specs.declared.action.Action.{Action}
use Rattle.upc_values.specs.declared.action.Reply.{Reply}
use Rattle.upc_values.specs.declared.record.Item.{Item}
use Rattle.upc_values.specs.declared.journal.Strand.{Strand}
use Rattle.run_recorder_parts.specs.declared.names.Name.{Name}
use Rattle.run_recorder_parts.specs.layer.Readers.{bind}
use Rattle.run_recorder.specs.code.Finding.{did_at, entry_name, entry_by, entry_of, entries_of}
use Rattle.upc_values.proofs.Lists.{each-at}
use Rattle.run_recorder.proofs.Forms.{some, some_is, bind_some}

did_from : (items : List Item) (n : ℕ) (a : Action) (r : Reply) → slice_get (actions_of items) n ≡ Some a
    → slice_get (replies_of items) n ≡ Some r → did_at items n ≡ Some (a, r)
did_from [] n a r p q = absurd cc
did_from (Stall ∷ items) n a r p q = did_from items n a r p q
did_from (Did b s ∷ items) zero a r p q =
    ap (λ x. some (x, s)) (some_is b a p) ∙ ap (λ y. some (a, y)) (some_is s r q)
did_from (Did b s ∷ items) (suc n) a r p q = did_from items n a r p q

did_parts : (items : List Item) (n : ℕ) (d : Action × Reply) → did_at items n ≡ Some d
    → (slice_get (actions_of items) n ≡ Some d.0) × (slice_get (replies_of items) n ≡ Some d.1)
did_parts [] n d e = absurd cc
did_parts (Stall ∷ items) n d e = did_parts items n d e
did_parts (Did b s ∷ items) zero d e =
    let same = some_is (b, s) d e in
    (ap (λ x. some x.0) same, ap (λ x. some x.1) same)
did_parts (Did b s ∷ items) (suc n) d e = did_parts items n d e

pub found_again : (strands : List Strand) (e : Entry) → IsOf strands e → entry_of strands (entry_name e) ≡ Some e
found_again strands e h =
    ap (λ (o : Option Strand). bind o (λ s. entry_by (entry_name e) (did_at s.items e.index))) h.thread
    ∙ ap (entry_by (entry_name e)) (did_from h.strand.items e.index e.action e.reply h.item.action h.item.reply)

pub is_of : (strands : List Strand) (e : Entry) → entry_of strands (entry_name e) ≡ Some e → IsOf strands e
is_of strands e h =
    let n = entry_name e in
    let s = bind_some (slice_get strands e.thread) (λ s. entry_by n (did_at s.items e.index)) e h in
    let d = bind_some (did_at s.0.items e.index)
    (λ d. some (record { thread = e.thread; index = e.index; action = d.0; reply = d.1 })) e s.2 in
    let same = some_is (record { thread = e.thread; index = e.index; action = d.0.0; reply = d.0.1 }) e d.2 in
    let parts = did_parts s.0.items e.index d.0 d.1 in
    record {
      strand = s.0;
      thread = s.1;
      item = record {
        action = parts.0 ∙ ap (λ (x : Entry). some x.action) same;
        reply = parts.1 ∙ ap (λ (x : Entry). some x.reply) same;
      };
    }

entry_takes : (strands : List Strand) (n : Name) (e : Entry) → entry_of strands n ≡ Some e → n ≡ entry_name e
entry_takes strands n e h =
    let s = bind_some (slice_get strands n.thread) (λ s. entry_by n (did_at s.items n.index)) e h in
    let d = bind_some (did_at s.0.items n.index)
    (λ d. some (record { thread = n.thread; index = n.index; action = d.0; reply = d.1 })) e s.2 in
    ap entry_name (some_is (record { thread = n.thread; index = n.index; action = d.0.0; reply = d.0.1 }) e d.2)

abbrev AreFound : List Strand → List Name → List Entry → Type 0
AreFound strands ns es = (ns ≡ map entry_name es) × Each (IsOf strands) es

each_takes : (strands : List Strand) (ns : List Name) (es : List Entry) → entries_of strands ns ≡ Some es
    → AreFound strands ns es
each_takes strands [] es h = subst (AreFound strands []) (some_is [] es h) (refl, tt)
each_takes strands (n ∷ ns) es h =
    let b = bind_some (entry_of strands n) (λ e. bind (entries_of strands ns) (λ es. Some (e ∷ es))) es h in
    let d = bind_some (entries_of strands ns) (λ es. Some (b.0 ∷ es)) es b.2 in
    let first = entry_takes strands n b.0 b.1 in
    let others = each_takes strands ns d.0 d.1 in
    subst (AreFound strands (n ∷ ns)) (some_is (b.0 ∷ d.0) es d.2) (
      ap (λ m. m ∷ ns) first ∙ ap (λ ms. entry_name b.0 ∷ ms) others.0,
      (is_of strands b.0 (ap (entry_of strands) (sym first) ∙ b.1), others.1),
    )

each_again : (strands : List Strand) (es : List Entry) → Each (IsOf strands) es
    → entries_of strands (map entry_name es) ≡ Some es
each_again strands [] h = refl
each_again strands (e ∷ es) h =
    ap (λ (o : Option Entry). bind o (λ e. bind (entries_of strands (map entry_name es)) (λ es. Some (e ∷ es))))
    (found_again strands e h.0)
    ∙ ap (λ (o : Option (List Entry)). bind o (λ es. Some (e ∷ es))) (each_again strands es h.1)

-- A fact of each member by its number is one of each member.
each_of_all : {A : Type 0} (P : A → Type 0) (xs : List A) → All P xs → Each P xs
each_of_all P [] h = tt
each_of_all P (x ∷ xs) h = (h 0 x (omega arith), each_of_all P xs (λ k d lt. h (suc k) d (omega arith)))

pub entries_takes : (strands : List Strand) (ns : List Name) (es : List Entry) → entries_of strands ns ≡ Some es
    → (ns ≡ map entry_name es) × All (IsOf strands) es
entries_takes strands ns es h =
    let found = each_takes strands ns es h in
    (found.0, λ i d lt. each-at (IsOf strands) es i d found.1 lt)

pub entries_again : (strands : List Strand) (es : List Entry) → All (IsOf strands) es
    → entries_of strands (map entry_name es) ≡ Some es
entries_again strands es h = each_again strands es (each_of_all (IsOf strands) es h)
