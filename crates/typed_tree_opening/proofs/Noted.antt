-- Targets that have numbers keep them.
use Rattle.std.proofs.Common.{◌≡◌, ℕ, ◌+◌, ◌<◌, suc, Bool, true, false, if◌then◌else◌, List, [], ◌∷◌, ◌++◌}
use Rattle.typed_tree.specs.layer.Parts.{with_noted}
use Rattle.std.proofs.Common.{length, refl, ap, ◌∙◌, arith}
use Rattle.std.proofs.lemmas.Bool.{ltb-true, ltb-false, lt-ltb}
use Rattle.std.proofs.lemmas.List.{length-append}
use Rattle.upc_types.specs.Types.{CType, Structs}
use Rattle.upc_types.specs.layer.Parts.{is_noted}
use Rattle.upc_types.specs.Cells.{alike, number_of}
use Rattle.upc_types.proofs.Numbers.{most, last}
use Rattle.typed_tree_opening.specs.code.Pending.{AreNoted}
use Rattle.typed_tree_opening.proofs.Pointed.{noted_append}

before_one : (b : Bool) (n m count : ℕ) → (n < count → m ≡ n) → (if b then 0 else n + 1) < suc count →
    (if b then 0 else m + 1) ≡ (if b then 0 else n + 1)
before_one true n m count f h = refl
before_one false n m count f h = ap (λ k. k + 1) (f (omega arith))

-- A target has the same number where more stand after it.
number_before : (ts us : List CType) (t : CType) → number_of ts t < length ts → number_of (ts ++ us) t ≡ number_of ts t
number_before [] us t h = absurd (omega arith)
number_before (x ∷ ts) us t h =
    before_one (alike x t) (number_of ts t) (number_of (ts ++ us) t) (length ts) (number_before ts us t) h

still_one : (ts : List CType) (u t : CType) (b : Bool) → is_noted ts t ≡ true →
    is_noted (if b then ts else ts ++ (u ∷ [])) t ≡ true
still_one ts u t true h = h
still_one ts u t false h =
    let below = ltb-true (number_of ts t) (length ts) h in
    lt-ltb (number_of (ts ++ (u ∷ [])) t) (length (ts ++ (u ∷ [])))
    (omega (arith, below, number_before ts (u ∷ []) t below, length-append ts (u ∷ [])))

itself_one : (ts : List CType) (t : CType) (b : Bool) → is_noted ts t ≡ b →
    is_noted (if b then ts else ts ++ (t ∷ [])) t ≡ true
itself_one ts t true e = e
itself_one ts t false e =
    let above = ltb-false (number_of ts t) (length ts) e in
    let same : number_of ts t ≡ length ts = omega (arith, above, most ts t) in
    lt-ltb (number_of (ts ++ (t ∷ [])) t) (length (ts ++ (t ∷ [])))
    (omega (arith, last ts t same, length-append ts (t ∷ [])))

-- ---- structs

still_noted : (s : Structs) (ts : List CType) (t : CType) → is_noted s.targets t ≡ true →
    is_noted (with_noted s ts).targets t ≡ true
still_noted s [] t h = h
still_noted s (u ∷ ts) t h =
    still_noted (with_noted s (u ∷ [])) ts t (still_one s.targets u t (is_noted s.targets u) h)

-- Targets that have numbers have them once others got theirs.
pub still : (s : Structs) (ts us : List CType) → AreNoted s us → AreNoted (with_noted s ts) us
still s ts [] h = tt
still s ts (u ∷ us) h = (still_noted s ts u h.0, still s ts us h.1)

-- Targets that got numbers have them.
pub themselves : (s : Structs) (ts : List CType) → AreNoted (with_noted s ts) ts
themselves s [] = tt
themselves s (t ∷ ts) =
    let n = with_noted s (t ∷ []) in (
      still_noted n ts t (itself_one s.targets t (is_noted s.targets t) refl),
      themselves n ts,
    )

abbrev with_targets_of : Structs → List CType → Structs
with_targets_of s ts = record { declared = s.declared; completed = s.completed; targets = ts }

-- So they get none again.
pub unchanged : (s : Structs) (ts : List CType) → AreNoted s ts → with_noted s ts ≡ s
unchanged s [] h = refl
unchanged s (t ∷ ts) h =
    let one : with_noted s (t ∷ []) ≡ s =
    ap (λ (b : Bool). with_targets_of s (if b then s.targets else s.targets ++ (t ∷ []))) h.0 in
    ap (λ (x : Structs). with_noted x ts) one ∙ unchanged s ts h.1

-- Some targets, and then others.
pub noted_both : (s : Structs) (a b : List CType) → with_noted s (a ++ b) ≡ with_noted (with_noted s a) b
noted_both s a b = ap (with_targets_of s) (noted_append s.targets a b)
