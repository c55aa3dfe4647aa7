-- Reading parts one after the other, as a loop does.
use Rattle.std.proofs.Common.{◌≡◌, ◌∙◌, ◌-◌, ◌+◌, ◌<◌, ℕ, suc, List, [], ◌∷◌, ◌++◌, Option, Some, None, refl, sym, ap}
use Rattle.std.proofs.Common.{arith, append_assoc}
use Rattle.run_recorder_parts.specs.declared.fail.Fail.{Fail}
use Rattle.run_recorder_parts.specs.declared.fail.Fail.TheVariants.{Bad, Memory}
use Rattle.run_recorder_text.specs.Words.{Text}
use Rattle.run_recorder_parts.specs.layer.Readers.{bind, Fails, Reader, many}

-- What was read before, and what is still read.
abbrev pub with_front : {A : Type 0} → List A → Option (List A × List Text) → Option (List A × List Text)
with_front front read = bind read (λ x. Some (front ++ x.0, x.1))

regroup : {A : Type 0} (front : List A) (a : A) (read : Option (List A × List Text))
    → with_front front (bind read (λ x. Some (a ∷ x.0, x.1))) ≡ with_front (front ++ a ∷ []) read
regroup front a (Some x) = ap (λ vs. Some (vs, x.1)) (simp append_assoc)
regroup front a None = refl

pub goes_on : {A : Type 0} (r : ℕ → Reader A) (front : List A) (count i : ℕ) (ws rest : List Text) (a : A)
    (total : Option (List A × List Text)) → i < count
    → r i ws ≡ Some (a, rest) → with_front front (many i (count - i) r ws) ≡ total
    → with_front (front ++ a ∷ []) (many (i + 1) (count - (i + 1)) r rest) ≡ total
goes_on {A} r front count i ws rest a total lt is so_far =
    let k : count - i ≡ suc (count - (i + 1)) = omega arith in
    sym (ap (λ n. with_front front (many i n r ws)) k
    ∙ ap (λ (o : Option (A × List Text)).
    with_front front (bind o (λ x. bind (many (i + 1) (count - (i + 1)) r x.1) (λ y. Some (x.0 ∷ y.0, y.1))))) is
    ∙ regroup front a (many (i + 1) (count - (i + 1)) r rest)) ∙ so_far

pub ends : {A : Type 0} (e : Fail) (r : ℕ → Reader A) (front : List A) (count i : ℕ) (ws : List Text)
    (total : Option (List A × List Text)) → i < count
    → Fails e (r i ws) → with_front front (many i (count - i) r ws) ≡ total → Fails e total
ends Memory r front count i ws total lt h so_far = tt
ends {A} Bad r front count i ws total lt h so_far =
    let k : count - i ≡ suc (count - (i + 1)) = omega arith in
    sym so_far ∙ ap (λ n. with_front front (many i n r ws)) k
    ∙ ap (λ (o : Option (A × List Text)).
    with_front front (bind o (λ x. bind (many (i + 1) (count - (i + 1)) r x.1) (λ y. Some (x.0 ∷ y.0, y.1))))) h
