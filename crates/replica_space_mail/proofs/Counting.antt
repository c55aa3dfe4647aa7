-- How many actions of a thread there are in parts of a list of events.
use Rattle.std.proofs.Common.{◌≡◌, ℕ, zero, suc, ◌+◌, ◌<◌, ◌≤◌, ◌==◌, List, [], ◌∷◌, ◌++◌, length, take, get_or, Vec, append-nil, take-suc, sym, ap, ◌∙◌, arith}
use Rattle.std.proofs.lemmas.List.{length-append}
use Rattle.std.proofs.lemmas.List.Elements.{filter-append, filter_map-append}
use Rattle.std.specs.declared.alloc.Global.{Global}
use Rattle.upc_values.specs.layer.Chunks.{joined}
use Rattle.upc_values.proofs.Joining.{joined-behind, joined-push}
use Rattle.upc_values.specs.declared.journal.Entry.{Entry}
use Rattle.upc_values.specs.Drain.{entries_of}
use Rattle.replica_space.specs.declared.event.Event.{Event}
use Rattle.replica_space.specs.Events.{entry_by, history_in}
use Rattle.replica_space.specs.Runs.{next_index}

-- the actions of a thread, one list after another
pub next-append : (t : ℕ) (xs ys : List Event) → next_index t (xs ++ ys) ≡ next_index t xs + next_index t ys
next-append t xs ys =
    ap (λ h. length (entries_of t h)) (filter_map-append (λ (e : Event). entry_by e.by e.deed) xs ys)
    ∙ ap length (filter-append (λ (e : Entry). e.thread == t) (history_in xs) (history_in ys))
    ∙ length-append (entries_of t (history_in xs)) (entries_of t (history_in ys))

-- one more event
pub taken-more : {X : Type 0} (xs : List X) (i : ℕ) (x : X) → i < length xs → x ≡ get_or xs i x → take (i + 1) xs ≡ take i xs ++ x ∷ []
taken-more xs i x lt e =
    ap (λ n. take n xs) (let next : i + 1 ≡ suc i = omega arith in next) ∙ take-suc xs i x lt ∙ ap (λ y. take i xs ++ y ∷ []) (sym e)

pub counted-more : (t : ℕ) (xs : List Event) (i : ℕ) (x : Event) → i < length xs → x ≡ get_or xs i x
    → next_index t (take (i + 1) xs) ≡ next_index t (take i xs) + next_index t (x ∷ [])
counted-more t xs i x lt e = ap (next_index t) (taken-more xs i x lt e) ∙ next-append t (take i xs) (x ∷ [])

-- one more part
pub joined-more : (cs : List (Vec Event Global)) (i : ℕ) (c : Vec Event Global) → i < length cs → c ≡ get_or cs i c
    → joined (take (i + 1) cs) [] ≡ joined (take i cs) [] ++ c.items
joined-more cs i c lt e =
    ap (λ l. joined l []) (taken-more cs i c lt e)
    ∙ joined-push (take i cs) c [] ∙ ap (joined (take i cs)) (append-nil c.items) ∙ joined-behind (take i cs) [] c.items

pub parts-more : (t : ℕ) (cs : List (Vec Event Global)) (i : ℕ) (c : Vec Event Global) → i < length cs → c ≡ get_or cs i c
    → next_index t (joined (take (i + 1) cs) []) ≡ next_index t (joined (take i cs) []) + next_index t c.items
parts-more t cs i c lt e = ap (next_index t) (joined-more cs i c lt e) ∙ next-append t (joined (take i cs) []) c.items

pub length-more : (cs : List (Vec Event Global)) (i : ℕ) (c : Vec Event Global) → i < length cs → c ≡ get_or cs i c
    → length (joined (take (i + 1) cs) []) ≡ length (joined (take i cs) []) + length c.items
length-more cs i c lt e = ap length (joined-more cs i c lt e) ∙ length-append (joined (take i cs) []) c.items

-- all parts but the last, and the last
pub parts-last : (t : ℕ) (cs : List (Vec Event Global)) (ys : List Event)
    → next_index t (joined cs ys) ≡ next_index t (joined cs []) + next_index t ys
parts-last t cs ys = ap (next_index t) (joined-behind cs [] ys) ∙ next-append t (joined cs []) ys

pub length-last : (cs : List (Vec Event Global)) (ys : List Event) → length (joined cs ys) ≡ length (joined cs []) + length ys
length-last cs ys = ap length (joined-behind cs [] ys) ∙ length-append (joined cs []) ys

-- no more events than all
pub joined-most : (cs : List (Vec Event Global)) (i : ℕ) → length (joined (take i cs) []) ≤ length (joined cs [])
joined-most cs zero = omega arith
joined-most [] (suc i) = omega arith
joined-most (c ∷ cs) (suc i) =
    omega (arith, length-append c.items (joined (take i cs) []), length-append c.items (joined cs []), joined-most cs i)
