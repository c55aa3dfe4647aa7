-- The pending write of a location, looking back from the youngest, and what is changed there.
use Rattle.std.proofs.Common.{◌≡◌, ℕ, suc, ◌+◌, ◌-◌, ◌<◌, ◌≤◌, List, [], ◌∷◌, length, drop, get_or, set, Some, None, is_some, sym, ap, ◌∙◌, arith}
use Rattle.std.proofs.lemmas.Bool.{cond-true, cond-false}
use Rattle.std.proofs.lemmas.List.{drop_more, length-map, get_or_default}
use Rattle.block_layout.specs.declared.place.Loc.{Loc}
use Rattle.upc_values.specs.declared.scalar.Scalar.{Scalar}
use Rattle.upc_values.specs.declared.journal.Entry.{Entry}
use Rattle.upc_values.specs.Drain.{Commit, entries_in, written, or_else, last_written, pending_value, changed}
use Rattle.order_builder.specs.declared.entry.KeptCommit.{KeptCommit}
use Rattle.order_builder.specs.code.Views.{entry_in, kept_entries, IsLast}

-- one more entry, looking back
pub one-back : (l : Loc) (es : List Entry) (n : ℕ) (e : Entry) → 0 < n → n ≤ length es → e ≡ get_or es (n - 1) e
    → last_written l (drop n es) ≡ None → last_written l (drop (n - 1) es) ≡ written l e.action
one-back l es n e some within is none =
    ap (last_written l) (drop_more es (n - 1) e (omega arith))
    ∙ ap (λ m. or_else (last_written l (drop m es)) (written l (get_or es (n - 1) e).action)) (let q : n - 1 + 1 ≡ n = omega arith in q)
    ∙ ap (λ o. or_else o (written l (get_or es (n - 1) e).action)) none
    ∙ ap (λ z. written l z.action) (sym is)

entry-at : (ks : List KeptCommit) (n : ℕ) (k : KeptCommit) → n < length ks → k ≡ get_or ks n k → entry_in k.entry ≡ get_or (kept_entries ks) n (entry_in k.entry)
entry-at [] n k lt is = absurd (omega arith)
entry-at (x ∷ ks) ℕ.zero k lt is = ap (λ z. entry_in z.entry) is
entry-at (x ∷ ks) (ℕ.suc n) k lt is = entry-at ks n k (omega arith) is

-- it writes another location, or none
pub passed-by : (l : Loc) (ks : List KeptCommit) (n : ℕ) (k : KeptCommit) → 0 < n → n ≤ length ks → k ≡ get_or ks (n - 1) k
    → written l k.entry.action.now ≡ None → last_written l (drop n (kept_entries ks)) ≡ None → last_written l (drop (n - 1) (kept_entries ks)) ≡ None
passed-by l ks n k some within is other none =
    let many : length (kept_entries ks) ≡ length ks = length-map ks (λ z. entry_in z.entry) in
    one-back l (kept_entries ks) n (entry_in k.entry) some (omega arith) (entry-at ks (n - 1) k (omega arith) is) none ∙ other

-- it writes the location
pub found-at : (l : Loc) (ks : List KeptCommit) (n : ℕ) (k : KeptCommit) (v : Scalar) → 0 < n → n ≤ length ks → k ≡ get_or ks (n - 1) k
    → written l k.entry.action.now ≡ Some v → last_written l (drop n (kept_entries ks)) ≡ None → IsLast l (kept_entries ks) (n - 1) v
found-at l ks n k v some within is here none =
    let es = kept_entries ks in
    let many : length es ≡ length ks = length-map ks (λ z. entry_in z.entry) in
    let lt : n - 1 < length es = omega arith in
    let at : entry_in k.entry ≡ get_or es (n - 1) (entry_in k.entry) = entry-at ks (n - 1) k (omega arith) is in
    record {
      within = lt;
      writes = λ d. ap (λ z. written l z.action) (sym (at ∙ get_or_default es (n - 1) (entry_in k.entry) d lt)) ∙ here;
      last = ap (λ m. last_written l (drop m es)) (let q : n - 1 + 1 ≡ n = omega arith in q) ∙ none;
    }

-- what a change of the pending write of the location changes
pub record IsPlace (l : Loc) (cs : List Commit) (k : ℕ) (v : Scalar) : Type 0 where
  pub value : pending_value l cs ≡ Some v
  pub changed : (f : Commit → Commit) (d : Commit) → changed l f cs ≡ set cs k (f (get_or cs k d))

pub is-place : (l : Loc) (cs : List Commit) (k : ℕ) (v : Scalar) → IsLast l (entries_in cs) k v → IsPlace l cs k v
is-place l [] k v s = absurd (let w = s.within in omega arith)
is-place l (c ∷ cs) ℕ.zero v s =
    let none : pending_value l cs ≡ None = s.last in
    record {
      value = ap (λ o. or_else o (written l c.entry.action)) none ∙ s.writes c.entry;
      changed = λ f d. cond-false (is_some (pending_value l cs)) (c ∷ changed l f cs) (f c ∷ cs) (ap is_some none);
    }
is-place l (c ∷ cs) (ℕ.suc k) v s =
    let last : last_written l (drop (k + 1) (entries_in cs)) ≡ None =
    ap (λ m. last_written l (drop m (entries_in (c ∷ cs)))) (let q : suc (k + 1) ≡ suc k + 1 = omega arith in q) ∙ s.last in
    let rest = is-place l cs k v (record { within = let w = s.within in omega arith; writes = λ d. s.writes d; last = last }) in
    record {
      value = ap (λ o. or_else o (written l c.entry.action)) rest.value;
      changed = λ f d.
          cond-true (is_some (pending_value l cs)) (c ∷ changed l f cs) (f c ∷ cs) (ap is_some rest.value)
          ∙ ap (λ z. c ∷ z) (rest.changed f d);
    }
