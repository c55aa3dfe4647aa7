-- What is held of structs, once more is held.
use Rattle.std.proofs.Common.{◌≡◌, ℕ, ◌<◌, Bool, true, false, nat_eq, List, length, get_or, set, Option, Some, None, refl, sym, subst}
use Rattle.std.proofs.lemmas.Bool.{eqb-true, eqb-false}
use Rattle.std.proofs.lemmas.List.{get_or-set_same, get_or-set_other}
use Rattle.std.specs.Option.{ForSome}
use Rattle.block_layout.specs.declared.kind.Kind.{Kind}
use Rattle.upc_types.specs.declared.layout.Layout.{Layout}
use Rattle.upc_types.specs.declared.structs.Held.{Held}
use Rattle.upc_types.specs.code.KeptCells.{IsHeld, AreHeld}

-- Room for more changes nothing of what is held.
pub held_room : (layouts : ℕ → Layout) (cells_of : ℕ → List (ℕ × Kind)) (old more : List (Option Held)) → ((n : ℕ) → get_or more n None ≡ get_or old n None) →
    AreHeld layouts cells_of old → AreHeld layouts cells_of more
held_room layouts cells_of old more same h n = subst (λ o. ForSome o (IsHeld layouts cells_of n)) (sym (same n)) (h n)

one_by : (layouts : ℕ → Layout) (cells_of : ℕ → List (ℕ × Kind)) (list : List (Option Held)) (k n : ℕ) (x : Held) (b : Bool) → nat_eq n k ≡ b → k < length list →
    AreHeld layouts cells_of list → IsHeld layouts cells_of k x → ForSome (get_or (set list k (Some x)) n None) (IsHeld layouts cells_of n)
one_by layouts cells_of list k n x true e r h i =
    let q : k ≡ n = sym (eqb-true n k e) in
    let at : ForSome (get_or (set list k (Some x)) k None) (IsHeld layouts cells_of k) =
    subst (λ o. ForSome o (IsHeld layouts cells_of k)) (sym (get_or-set_same list k (Some x) None r)) (λ y f. let p : x ≡ y = cc in subst (IsHeld layouts cells_of k) p i) in
    subst (λ m. ForSome (get_or (set list k (Some x)) m None) (IsHeld layouts cells_of m)) q at
one_by layouts cells_of list k n x false e r h i =
    subst (λ o. ForSome o (IsHeld layouts cells_of n)) (sym (get_or-set_other list k n (Some x) None (eqb-false n k e))) (h n)

-- One more that is held.
pub held_one : (layouts : ℕ → Layout) (cells_of : ℕ → List (ℕ × Kind)) (list : List (Option Held)) (k : ℕ) (x : Held) → k < length list →
    AreHeld layouts cells_of list → IsHeld layouts cells_of k x → AreHeld layouts cells_of (set list k (Some x))
held_one layouts cells_of list k x r h i n = one_by layouts cells_of list k n x (nat_eq n k) refl r h i
