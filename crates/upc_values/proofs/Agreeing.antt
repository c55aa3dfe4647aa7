-- A history agrees with the records where each thread's entries are in its record.
use Rattle.std.proofs.Common.{◌≡◌, ℕ, ◌<◌, ◌≤◌, List, length, get_or, All, refl, subst, inl, inr, arith}
use Rattle.std.proofs.lemmas.Option.{slice_get_cases}
use Rattle.upc_values.specs.declared.journal.Entry.{Entry}
use Rattle.upc_values.specs.declared.journal.Strand.{Strand}
use Rattle.upc_values.specs.Agrees.{IsIn, IsOf}

pub agrees-each : (strands : List Strand) (history : List Entry) (n : ℕ) → All (λ e. e.thread < length strands) history
    → length strands ≤ n
    → ((t : ℕ) (d : Strand) → t < n → All (λ e. e.thread ≡ t → IsIn (get_or strands t d).items e) history)
    → All (IsOf strands) history
agrees-each strands history n below le each k d lt =
    let e = get_or history k d in
    let b : e.thread < length strands = below k d lt in
    elim (slice_get_cases strands e.thread).1 [
      | inl f ↦ record {
        strand = f.0;
        thread = f.2;
        item = subst (λ s. IsIn s.items e) f.3 (each e.thread f.0 (omega arith) k d lt refl);
      }
      | inr g ↦ let past = g.0 in absurd (omega arith)
    ]
