-- Lines that are written one after the other are the text.
use Rattle.std.proofs.Common.{◌≡◌, ◌∙◌, ◌<◌, ◌+◌, ℕ, suc, List, [], ◌∷◌, ◌++◌, length, drop}
use Rattle.std.proofs.Common.{drop-cons, add-one, sym, ap, refl, append_assoc, codes}
use Rattle.std.specs.List.{flat_map, slice_index_or}
use Rattle.run_recorder_text.specs.Words.{Text}
use Rattle.run_recorder_text.specs.Lines.{numbered_lines}
use Rattle.run_recorder_text.specs.code.Rows.{rows}

pub lines_rows : (ls : List Text) → flat_map (λ l. l ++ codes "\n") ls ≡ rows ls
lines_rows [] = refl
lines_rows (l ∷ ls) =
    append_assoc l (codes "\n") (flat_map (λ l. l ++ codes "\n") ls) ∙ ap (λ u. l ++ (10 ∷ u)) (lines_rows ls)

pub rows_append : (xs ys : List Text) → rows (xs ++ ys) ≡ rows xs ++ rows ys
rows_append [] ys = refl
rows_append (x ∷ xs) ys = ap (λ u. x ++ (10 ∷ u)) (rows_append xs ys) ∙ sym (append_assoc x (10 ∷ rows xs) (rows ys))

-- One more of what is numbered.
pub numbered_step : {A : Type 0} (lines : ℕ → A → List Text) (out new total : Text) (t : ℕ) (xs : List A) (x : A)
    → t < length xs → x ≡ slice_index_or xs t x → new ≡ out ++ rows (lines t x)
    → out ++ rows (numbered_lines lines t (drop t xs)) ≡ total
    → new ++ rows (numbered_lines lines (t + 1) (drop (t + 1) xs)) ≡ total
numbered_step {A} lines out new total t xs x lt is now so_far =
    let here : drop t xs ≡ x ∷ drop (t + 1) xs =
    drop-cons xs t x lt ∙ ap (λ (y : A). y ∷ drop (suc t) xs) (sym is)
    ∙ ap (λ k. x ∷ drop k xs) (sym (add-one t)) in
    let others = numbered_lines lines (t + 1) (drop (t + 1) xs) in
    ap (λ o. o ++ rows others) now
    ∙ append_assoc out (rows (lines t x)) (rows others)
    ∙ ap (λ u. out ++ u) (sym (rows_append (lines t x) others)
    ∙ ap (λ ys. rows (numbered_lines lines t ys)) (sym here))
    ∙ so_far

regrouped : (a b c d e x : Text) → (((((([] ++ a) ++ b) ++ c) ++ d) ++ e) ++ x) ≡ a ++ (b ++ (c ++ (d ++ (e ++ x))))
regrouped a b c d e x = simp append_assoc

rows_five : (f s h t o last : List Text)
    → rows (f ++ (s ++ (h ++ (t ++ (o ++ last))))) ≡ rows f ++ (rows s ++ (rows h ++ (rows t ++ (rows o ++ rows last))))
rows_five f s h t o last =
    rows_append f (s ++ (h ++ (t ++ (o ++ last))))
    ∙ ap (λ u. rows f ++ u) (rows_append s (h ++ (t ++ (o ++ last)))
    ∙ ap (λ u. rows s ++ u) (rows_append h (t ++ (o ++ last))
    ∙ ap (λ u. rows h ++ u) (rows_append t (o ++ last)
    ∙ ap (λ u. rows t ++ u) (rows_append o last))))

-- The first lines, the strands, the history, the strict order, the threads' orders, and the last line.
pub whole_text : (o0 o1 o2 o3 o4 o5 new : Text) (f s h t o : List Text)
    → o0 ≡ [] → o1 ≡ o0 ++ rows f → o2 ≡ o1 ++ rows s → o3 ≡ o2 ++ rows h → o4 ≡ o3 ++ rows t → o5 ≡ o4 ++ rows o
    → new ≡ o5 ++ codes "end\n"
    → new ≡ flat_map (λ l. l ++ codes "\n") (f ++ (s ++ (h ++ (t ++ (o ++ codes "end" ∷ [])))))
whole_text o0 o1 o2 o3 o4 o5 new f s h t o p0 p1 p2 p3 p4 p5 p6 =
    p6 ∙ ap (λ x. x ++ codes "end\n") (p5 ∙ ap (λ x. x ++ rows o) (p4 ∙ ap (λ x. x ++ rows t)
    (p3 ∙ ap (λ x. x ++ rows h) (p2 ∙ ap (λ x. x ++ rows s) (p1 ∙ ap (λ x. x ++ rows f) p0)))))
    ∙ regrouped (rows f) (rows s) (rows h) (rows t) (rows o) (codes "end\n")
    ∙ sym (lines_rows (f ++ (s ++ (h ++ (t ++ (o ++ codes "end" ∷ [])))))
    ∙ rows_five f s h t o (codes "end" ∷ []))
