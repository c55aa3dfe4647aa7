-- Fronts of lists of entries.
use Rattle.std.proofs.Common.{◌≡◌, nat_lt, List, [], ◌∷◌, ◌++◌, length, refl, sym, ap, ◌∙◌, append-nil, append_assoc, arith}
use Rattle.std.proofs.lemmas.Bool.{cond_both, ltb-false}
use Rattle.std.proofs.lemmas.List.{length-append}
use mathlib.Core.List.{IsPrefix}
use Rattle.turn_cell.specs.layer.Members.{longer}
use Rattle.upc_values.specs.declared.journal.Entry.{Entry}

pub prefix-self : (xs : List Entry) → IsPrefix xs xs
prefix-self xs = ([], append-nil xs)

pub prefix-then : (xs ys zs : List Entry) → IsPrefix xs ys → IsPrefix ys zs → IsPrefix xs zs
prefix-then xs ys zs p q = (p.0 ++ q.0, sym (append_assoc xs p.0 q.0) ∙ ap (λ l. l ++ q.0) p.1 ∙ q.1)

no-length : (xs : List Entry) → length xs ≡ 0 → xs ≡ []
no-length [] h = refl
no-length (x ∷ xs) h = absurd (omega arith)

-- Of a beginning and the whole the longer is the whole.
pub longer-whole : (xs ys : List Entry) → IsPrefix xs ys → longer xs ys ≡ ys
longer-whole xs ys p = cond_both (nat_lt (length xs) (length ys)) ys xs (λ l. l ≡ ys) (λ e. refl)
    (λ e. let le = ltb-false (length xs) (length ys) e in let many = ap length p.1 in let two = length-append xs p.0 in
    sym (append-nil xs) ∙ ap (λ l. xs ++ l) (sym (no-length p.0 (omega arith))) ∙ p.1)

-- Two lists that begin each other are one.
pub prefix-both : (xs ys : List Entry) → IsPrefix xs ys → IsPrefix ys xs → xs ≡ ys
prefix-both xs ys p q =
    let a = ap length p.1 in let b = ap length q.1 in let c = length-append xs p.0 in let d = length-append ys q.0 in
    sym (append-nil xs) ∙ ap (λ l. xs ++ l) (sym (no-length p.0 (omega arith))) ∙ p.1
