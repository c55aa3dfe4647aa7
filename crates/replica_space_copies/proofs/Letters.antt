-- The messages that wait of those that one thread has sent.
use Rattle.std.proofs.Common.{◌≡◌, ℕ, ◌+◌, ◌<◌, ◌≤◌, ◌==◌, cond, List, [], ◌∷◌, ◌++◌, length, map, drop, get_or, set, replicate, slice_get, Some, refl, sym, ap, ◌∙◌, inl, inr, arith, eq-eqb, zero, suc}
use Rattle.std.proofs.lemmas.Bool.{cases_eq, ne_eqb, cond-true, cond-false}
use Rattle.std.proofs.lemmas.Option.{slice_get-get_or}
use Rattle.std.proofs.lemmas.List.{get_or-drop, length-drop, get_or-map, map-set, get_or-set_same, get_or-set_other, drop-drop, drop_all, drop-append-le, length-map, length-set, length_push}
use Rattle.replica_space.specs.declared.message.Message.{Message}
use Rattle.replica_space_copies.specs.layer.Copies.{letters}
use Rattle.replica_space_copies.specs.code.Taken.{AreTaken}

-- what waits for each thread, where each has taken so many
abbrev pub waits : List Message → List ℕ → List (List Message)
waits ms taken = map (λ n. drop n ms) taken

pub letters-at : (ms : List Message) (taken : List ℕ) (u : ℕ) → u < length taken → letters u (waits ms taken) ≡ drop (get_or taken u 0) ms
letters-at ms taken u h = get_or-map (λ n. drop n ms) taken u 0 [] h

-- a thread that has taken all has no mail
pub no-letters : (ms : List Message) (taken : List ℕ) (u : ℕ) → u < length taken → get_or taken u 0 ≡ length ms → letters u (waits ms taken) ≡ []
no-letters ms taken u h e = letters-at ms taken u h ∙ drop_all (get_or taken u 0) ms (omega arith)

-- where none waits, taking one changes nothing
pub none-taken : (box : List (List Message)) (to u : ℕ) → letters to box ≡ [] → letters u box ≡ cond (u == to) (drop 1 (letters u box)) (letters u box)
none-taken box to u e =
    elim (cases_eq u to) [
      | inl h ↦
          let here : letters u box ≡ [] = ap (λ k. letters k box) h ∙ e in
          here ∙ sym (ap (drop 1) here) ∙ sym (cond-true (u == to) (drop 1 (letters u box)) (letters u box) (eq-eqb u to h))
      | inr h ↦ sym (cond-false (u == to) (drop 1 (letters u box)) (letters u box) (ne_eqb u to h))
    ]

-- one more is taken
pub one-taken : (ms : List Message) (taken : List ℕ) (to n u : ℕ) → to < length taken → n ≡ get_or taken to 0
    → letters u (waits ms (set taken to (n + 1))) ≡ cond (u == to) (drop 1 (letters u (waits ms taken))) (letters u (waits ms taken))
one-taken ms taken to n u h e =
    let f : ℕ → List Message = λ k. drop k ms in
    let was = letters u (waits ms taken) in
    ap (λ l. get_or l u []) (map-set f taken to (n + 1))
    ∙ elim (cases_eq u to) [
      | inl k ↦
          ap (λ j. get_or (set (map f taken) to (f (n + 1))) j []) k
          ∙ get_or-set_same (map f taken) to (f (n + 1)) [] (rw length-map h)
          ∙ sym (drop-drop 1 n ms)
          ∙ ap (λ j. drop 1 (drop j ms)) e
          ∙ ap (drop 1) (sym (letters-at ms taken to h))
          ∙ ap (λ j. drop 1 (letters j (waits ms taken))) (sym k)
          ∙ sym (cond-true (u == to) (drop 1 was) was (eq-eqb u to k))
      | inr k ↦
          get_or-set_other (map f taken) to u (f (n + 1)) [] k
          ∙ sym (cond-false (u == to) (drop 1 was) was (ne_eqb u to k))
    ]

-- a message is sent to all but one, who has none
pub one-sent : (ms : List Message) (taken : List ℕ) (own to : ℕ) (m : Message) → AreTaken ms taken → own < length taken → to < length taken
    → letters to (waits (ms ++ m ∷ []) (set taken own (length (ms ++ m ∷ [])))) ≡ cond (to == own) [] (letters to (waits ms taken) ++ m ∷ [])
one-sent ms taken own to m a h k =
    let all = ms ++ m ∷ [] in
    let after = set taken own (length all) in
    let within : to < length after = rw length-set k in
    let was = letters to (waits ms taken) ++ m ∷ [] in
    letters-at all after to within
    ∙ elim (cases_eq to own) [
      | inl e ↦
          drop_all (get_or after to 0) all (omega (arith, ap (λ j. get_or after j 0) e ∙ get_or-set_same taken own (length all) 0 h))
          ∙ sym (cond-true (to == own) [] was (eq-eqb to own e))
      | inr e ↦
          ap (λ j. drop j all) (get_or-set_other taken own to (length all) 0 e)
          ∙ drop-append-le (get_or taken to 0) ms (m ∷ []) (a to k)
          ∙ ap (λ l. l ++ m ∷ []) (sym (letters-at ms taken to k))
          ∙ sym (cond-false (to == own) [] was (ne_eqb to own e))
    ]

pub taken-more : (ms : List Message) (taken : List ℕ) (to n : ℕ) → AreTaken ms taken → n ≤ length ms → AreTaken ms (set taken to n)
taken-more ms taken to n a h =
    λ u k. let within : u < length taken = rw length-set at k in
    elim (cases_eq u to) [
      | inl e ↦ let there : to < length taken = omega arith in omega (arith, ap (λ j. get_or (set taken to n) j 0) e ∙ get_or-set_same taken to n 0 there)
      | inr e ↦ omega (arith, get_or-set_other taken to u n 0 e, a u within)
    ]

pub taken-longer : (ms : List Message) (taken : List ℕ) (m : Message) → AreTaken ms taken → AreTaken (ms ++ m ∷ []) taken
taken-longer ms taken m a = λ u k. omega (arith, a u k, length_push ms m)

-- nothing is sent
pub nothing-waits : (taken : List ℕ) (u : ℕ) → letters u (waits [] taken) ≡ []
nothing-waits [] u = refl
nothing-waits (n ∷ taken) zero = drop_all n [] (omega arith)
nothing-waits (n ∷ taken) (suc u) = nothing-waits taken u

-- a message is sent, in the words of the code
pub one-sent-as : (ms all : List Message) (taken : List ℕ) (own n to : ℕ) (m : Message) → AreTaken ms taken → own < length taken → to < length taken
    → all ≡ ms ++ m ∷ [] → n ≡ length all
    → letters to (waits all (set taken own n)) ≡ cond (to == own) [] (letters to (waits ms taken) ++ m ∷ [])
one-sent-as ms all taken own n to m a h k e q =
    ap (λ j. letters to (waits all (set taken own j))) (q ∙ ap length e)
    ∙ ap (λ l. letters to (waits l (set taken own (length (ms ++ m ∷ []))))) e
    ∙ one-sent ms taken own to m a h k

none_sent-yet : (n : ℕ) → waits [] (replicate n 0) ≡ replicate n []
none_sent-yet zero = refl
none_sent-yet (suc n) = ap (λ l. [] ∷ l) (none_sent-yet n)

pub none_sent : (ms : List Message) (taken : List ℕ) (n : ℕ) → ms ≡ [] → taken ≡ replicate n 0 → waits ms taken ≡ replicate n []
none_sent ms taken n e k = ap (λ l. waits l taken) e ∙ ap (waits []) k ∙ none_sent-yet n

slice_get-drop : {X : Type 0} (xs : List X) (k i : ℕ) → k + i < length xs → slice_get xs (k + i) ≡ slice_get (drop k xs) i
slice_get-drop [] k i h = absurd (omega (arith, h))
slice_get-drop (x ∷ xs) k i h =
    slice_get-get_or (x ∷ xs) (k + i) x h
    ∙ ap Some (sym (get_or-drop k (x ∷ xs) i x))
    ∙ sym (slice_get-get_or (drop k (x ∷ xs)) i x (omega (arith, length-drop k (x ∷ xs), h)))

-- a message that waits, by its number
pub letter-at : (ms : List Message) (taken : List ℕ) (to number : ℕ) → to < length taken → get_or taken to 0 + number < length ms
    → slice_get ms (get_or taken to 0 + number) ≡ slice_get (letters to (waits ms taken)) number
letter-at ms taken to number h lt =
    slice_get-drop ms (get_or taken to 0) number lt ∙ ap (λ (l : List Message). slice_get l number) (sym (letters-at ms taken to h))
