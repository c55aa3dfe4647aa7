-- The entries of commits, and those of a thread in the history.
use Rattle.std.proofs.Common.{◌≡◌, ℕ, ◌==◌, List, [], ◌∷◌, ◌++◌, length, is_some, Some, slice_get, refl, sym, ap, ◌∙◌, eq-eqb}
use Rattle.std.proofs.lemmas.Bool.{cond_both, cond-true}
use Rattle.std.proofs.lemmas.List.Elements.{filter-append}
use Rattle.block_layout.specs.declared.place.Loc.{Loc}
use Rattle.upc_values.specs.declared.journal.Entry.{Entry}
use Rattle.upc_values.specs.Drain.{Commit, entries_in, pending_value, changed, with_read, entries_of}

-- A write that answers a read stays the entry that it is.
pub read-entries : (l : Loc) (e : Entry) (cs : List Commit) → entries_in (changed l (with_read e) cs) ≡ entries_in cs
read-entries l e [] = refl
read-entries l e (c ∷ cs) =
    cond_both (is_some (pending_value l cs)) (c ∷ changed l (with_read e) cs) (with_read e c ∷ cs)
    (λ z. entries_in z ≡ entries_in (c ∷ cs)) (λ h. ap (λ z. c.entry ∷ z) (read-entries l e cs)) (λ h. refl)

-- what a list has after a front
get-behind : {X : Type 0} (xs : List X) (x : X) (ys : List X) → slice_get (xs ++ x ∷ ys) (length xs) ≡ Some x
get-behind [] x ys = refl
get-behind (y ∷ xs) x ys = get-behind xs x ys

-- the k-th entry of a thread in the history is that of its k-th commit
pub entry-at : (t : ℕ) (before after : List Entry) (e : Entry) (cs : List Commit) → e.thread ≡ t → entries_of t (before ++ e ∷ after) ≡ entries_in cs → slice_get (entries_in cs) (length (entries_of t before)) ≡ Some e
entry-at t before after e cs h q =
    ap (λ z. slice_get z (length (entries_of t before)))
    (sym q ∙ filter-append (λ x. x.thread == t) before (e ∷ after)
    ∙ ap (λ z. entries_of t before ++ z) (cond-true (e.thread == t) (e ∷ entries_of t after) (entries_of t after) (eq-eqb e.thread t h)))
    ∙ get-behind (entries_of t before) e (entries_of t after)
