-- Words that are written one after the other are joined.
use Rattle.std.proofs.Common.{◌≡◌, ◌∙◌, ◌<◌, ℕ, List, [], ◌∷◌, ◌++◌, length}
use Rattle.std.proofs.Common.{sym, ap, refl, arith, append_assoc, codes}
use Rattle.std.specs.List.{join_with_byte}
use Rattle.std.proofs.lemmas.List.{append-nil}
use Rattle.run_recorder_text.specs.Words.{Text, with_blanks, with_colons}
use Rattle.run_recorder_text.specs.code.Rows.{after_blanks}

-- The first word, and the others with a blank before each.
pub join_after : (w : Text) (ws : List Text) → with_blanks (w ∷ ws) ≡ w ++ after_blanks ws
join_after w [] = sym (append-nil w)
join_after w (v ∷ ws) = ap (λ u. w ++ (32 ∷ u)) (join_after v ws)

-- Some words, and some after them.
pub join_append : (mark : ℕ) (xs ys : List Text) → 0 < length xs → 0 < length ys
    → join_with_byte mark (xs ++ ys) ≡ join_with_byte mark xs ++ (mark ∷ join_with_byte mark ys)
join_append mark [] ys h k = absurd (omega arith)
join_append mark (x ∷ []) [] h k = absurd (omega arith)
join_append mark (x ∷ []) (y ∷ ys) h k = refl
join_append mark (x ∷ v ∷ xs) ys h k =
    ap (λ u. x ++ (mark ∷ u)) (join_append mark (v ∷ xs) ys (omega arith) k)
    ∙ sym (append_assoc x (mark ∷ join_with_byte mark (v ∷ xs)) (mark ∷ join_with_byte mark ys))

-- The words after the first one.
pub last_joined : (k : Text) (ws : List Text) → 0 < length ws → with_blanks (k ∷ ws) ≡ k ++ (32 ∷ with_blanks ws)
last_joined k ws h = join_append 32 (k ∷ []) ws (omega arith) h

meet_regrouped : (old call k rest : Text)
    → ((((old ++ codes "meet ") ++ call) ++ codes " ") ++ k) ++ rest
    ≡ old ++ (codes "meet " ++ (call ++ (32 ∷ (k ++ rest))))
meet_regrouped old call k rest = simp append_assoc

pub meet_joined : (old o1 o2 o3 o4 new call k : Text) (vs : List Text)
    → o1 ≡ old ++ codes "meet " → o2 ≡ o1 ++ call → o3 ≡ o2 ++ codes " " → o4 ≡ o3 ++ k → new ≡ o4 ++ after_blanks vs
    → new ≡ old ++ with_blanks (codes "meet" ∷ call ∷ k ∷ vs)
meet_joined old o1 o2 o3 o4 new call k vs a b c d e =
    e ∙ ap (λ o. o ++ after_blanks vs) (d ∙ ap (λ o. o ++ k) (c ∙ ap (λ o. o ++ codes " ") (b ∙ ap (λ o. o ++ call) a)))
    ∙ meet_regrouped old call k (after_blanks vs)
    ∙ ap (λ u. old ++ (codes "meet " ++ (call ++ (32 ∷ u)))) (sym (join_after k vs))

did_regrouped : (old x y : Text) → ((old ++ x) ++ codes " -> ") ++ y ≡ old ++ (x ++ (32 ∷ (codes "->" ++ (32 ∷ y))))
did_regrouped old x y = simp append_assoc

pub did_joined : (old o1 o2 new : Text) (xs ys : List Text) → 0 < length xs → 0 < length ys
    → o1 ≡ old ++ with_blanks xs → o2 ≡ o1 ++ codes " -> " → new ≡ o2 ++ with_blanks ys
    → new ≡ old ++ with_blanks (xs ++ codes "->" ∷ ys)
did_joined old o1 o2 new xs ys h k a b c =
    c ∙ ap (λ o. o ++ with_blanks ys) (b ∙ ap (λ o. o ++ codes " -> ") a)
    ∙ did_regrouped old (with_blanks xs) (with_blanks ys)
    ∙ ap (λ u. old ++ (with_blanks xs ++ (32 ∷ u))) (sym (join_append 32 (codes "->" ∷ []) ys (omega arith) k))
    ∙ ap (λ u. old ++ u) (sym (join_append 32 xs (codes "->" ∷ ys) h (omega arith)))

pointer_regrouped : (o a b c d e f x : Text)
    → ((((((o ++ (a ++ 58 ∷ [])) ++ (b ++ 58 ∷ [])) ++ (c ++ 58 ∷ [])) ++ (d ++ 58 ∷ [])) ++ (e ++ 58 ∷ []))
    ++ (f ++ 58 ∷ [])) ++ x
    ≡ o ++ (a ++ (58 ∷ (b ++ (58 ∷ (c ++ (58 ∷ (d ++ (58 ∷ (e ++ (58 ∷ (f ++ (58 ∷ x))))))))))))
pointer_regrouped o a b c d e f x = simp append_assoc

pub pointer_joined : (o0 o1 o2 o3 o4 o5 o6 o7 a b c d e f g h i : Text)
    → o1 ≡ o0 ++ (a ++ 58 ∷ []) → o2 ≡ o1 ++ (b ++ 58 ∷ []) → o3 ≡ o2 ++ (c ++ 58 ∷ [])
    → o4 ≡ o3 ++ (d ++ 58 ∷ []) → o5 ≡ o4 ++ (e ++ 58 ∷ []) → o6 ≡ o5 ++ (f ++ 58 ∷ [])
    → o7 ≡ o6 ++ with_colons (g ∷ h ∷ i ∷ [])
    → o7 ≡ o0 ++ with_colons (a ∷ b ∷ c ∷ d ∷ e ∷ f ∷ g ∷ h ∷ i ∷ [])
pointer_joined o0 o1 o2 o3 o4 o5 o6 o7 a b c d e f g h i p1 p2 p3 p4 p5 p6 p7 =
    p7 ∙ ap (λ o. o ++ with_colons (g ∷ h ∷ i ∷ []))
    (p6 ∙ ap (λ o. o ++ (f ++ 58 ∷ [])) (p5 ∙ ap (λ o. o ++ (e ++ 58 ∷ []))
    (p4 ∙ ap (λ o. o ++ (d ++ 58 ∷ [])) (p3 ∙ ap (λ o. o ++ (c ++ 58 ∷ []))
    (p2 ∙ ap (λ o. o ++ (b ++ 58 ∷ [])) p1)))))
    ∙ pointer_regrouped o0 a b c d e f (with_colons (g ∷ h ∷ i ∷ []))

thread_regrouped : (o t m k e : Text)
    → (((((((o ++ codes "thread ") ++ t) ++ codes " items ") ++ m) ++ codes " ticks ") ++ k) ++ codes " ") ++ e
    ≡ o ++ (codes "thread " ++ (t ++ (codes " items " ++ (m ++ (codes " ticks " ++ (k ++ (32 ∷ e)))))))
thread_regrouped o t m k e = simp append_assoc

pub thread_joined : (o0 o1 o2 o3 o4 o5 o6 o7 o8 t m k : Text) (ws : List Text) → 0 < length ws
    → o1 ≡ o0 ++ codes "thread " → o2 ≡ o1 ++ t → o3 ≡ o2 ++ codes " items " → o4 ≡ o3 ++ m
    → o5 ≡ o4 ++ codes " ticks " → o6 ≡ o5 ++ k → o7 ≡ o6 ++ codes " " → o8 ≡ o7 ++ with_blanks ws
    → o8 ≡ o0 ++ with_blanks (codes "thread" ∷ t ∷ codes "items" ∷ m ∷ codes "ticks" ∷ k ∷ ws)
thread_joined o0 o1 o2 o3 o4 o5 o6 o7 o8 t m k ws some p1 p2 p3 p4 p5 p6 p7 p8 =
    p8 ∙ ap (λ o. o ++ with_blanks ws) (p7 ∙ ap (λ o. o ++ codes " ") (p6 ∙ ap (λ o. o ++ k)
    (p5 ∙ ap (λ o. o ++ codes " ticks ") (p4 ∙ ap (λ o. o ++ m) (p3 ∙ ap (λ o. o ++ codes " items ")
    (p2 ∙ ap (λ o. o ++ t) p1))))))
    ∙ thread_regrouped o0 t m k (with_blanks ws)
    ∙ ap (λ u. o0 ++ (codes "thread " ++ (t ++ (codes " items " ++ (m ++ (codes " ticks " ++ u))))))
    (sym (last_joined k ws some))
