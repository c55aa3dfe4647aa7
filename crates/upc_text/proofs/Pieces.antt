-- Pieces that follow one another.
use Rattle.std.proofs.Common.{◌≡◌, ℕ, ◌+◌, ◌-◌, ◌≤◌, Option, None, Some, List, ◌++◌, length, take, drop, refl, subst, sym, ◌∙◌, ap, append_assoc, arith}
use Rattle.std.proofs.Math.Seq.{take-add}
use Rattle.std.proofs.lemmas.List.{take_all, length-append, length-drop}
use Rattle.upc_text.specs.Outside.{StandsAt, taken_with}

-- two pieces, one after the other, are one
pub taken_with-twice :
    (told : Option (List ℕ)) (a b : List ℕ) → taken_with (taken_with told a) b ≡ taken_with told (a ++ b)
taken_with-twice None a b = refl
taken_with-twice (Some bytes) a b = ap (λ b. Some b) (append_assoc bytes a b)

-- the first pieces of a list, one after the other, are its first piece
pub taken_with-more :
    (told : Option (List ℕ)) (n m : ℕ) (bytes : List ℕ) →
    taken_with (taken_with told (take n bytes)) (take m (drop n bytes)) ≡ taken_with told (take (n + m) bytes)
taken_with-more told n m bytes =
    taken_with-twice told (take n bytes) (take m (drop n bytes)) ∙ ap (taken_with told) (sym (take-add n m bytes))

-- what stands after the first bytes makes more first bytes of them
pub StandsAt-more :
    (told : Option (List ℕ)) (xs piece : List ℕ) → StandsAt told 0 xs → StandsAt told (length xs) piece →
    StandsAt told 0 (xs ++ piece)
StandsAt-more None xs piece front behind = front
StandsAt-more (Some bytes) xs piece front behind =
    ap (λ p. p ++ piece) front
    ∙ ap (λ p. take (length xs) bytes ++ p) behind
    ∙ sym (take-add (length xs) (length piece) bytes)
    ∙ ap (λ n. take n bytes) (sym (length-append xs piece))

-- a slice from a place on is what stands after that place
pub rest_from : (bytes : List ℕ) (done : ℕ) → take (length bytes - done) (drop done bytes) ≡ drop done bytes
rest_from bytes done =
    let short : length (drop done bytes) ≤ length bytes - done = omega (arith, length-drop done bytes) in
    take_all (length bytes - done) (drop done bytes) short

-- a sink that took the first bytes, and then more of the rest, took more first bytes
pub taken_with-next :
    (start before after : Option (List ℕ)) (bytes : List ℕ) (done n : ℕ) →
    before ≡ taken_with start (take done bytes) →
    after ≡ taken_with before (take n (take (length bytes - done) (drop done bytes))) →
    after ≡ taken_with start (take (done + n) bytes)
taken_with-next start before after bytes done n first next =
    next
    ∙ ap (λ rest. taken_with before (take n rest)) (rest_from bytes done)
    ∙ ap (λ told. taken_with told (take n (drop done bytes))) first
    ∙ taken_with-more start done n bytes

-- a piece that was read after the first bytes makes more first bytes of them
pub StandsAt-next :
    (told later : Option (List ℕ)) (xs piece ys : List ℕ) (at : ℕ) → StandsAt told 0 xs → later ≡ told →
    StandsAt later at piece → at ≡ length xs → ys ≡ xs ++ piece → StandsAt told 0 ys
StandsAt-next told later xs piece ys at front same behind seam joined =
    let here : StandsAt told at piece = subst (λ t. StandsAt t at piece) same behind in
    let there : StandsAt told (length xs) piece = subst (λ n. StandsAt told n piece) seam here in
    subst (λ l. StandsAt told 0 l) (sym joined) (StandsAt-more told xs piece front there)
