-- When a lock is given up and when it is freed, by one more entry.
use Rattle.std.proofs.Common.{◌≡◌, ℕ, ◌<◌, ◌==◌, nat_lt, Bool, true, false, not, cond, ◌&&◌, ◌||◌, ◌⊎◌, inl, inr, List, [], ◌∷◌, ◌++◌, length, Option, Some, None, is_none, slice_get, refl, sym, ap, ◌∙◌, arith, lt-ltb, eqb-true, eq-eqb, ne_eqb}
use mathlib.Core.Bool.{and-true, and-false, or-true, or-false}
use Rattle.std.proofs.lemmas.Bool.{cases_eq, cases_Bool, false≢true, and_parts, and_from}
use Rattle.upc_values.specs.declared.action.Action.{Action}
use Rattle.upc_values.specs.declared.action.Action.TheVariants as act
use Rattle.upc_values.specs.declared.action.Reply.{Reply}
use Rattle.upc_values.specs.declared.journal.Entry.{Entry}
use Rattle.upc_values.specs.Calls.{Other}
use Rattle.upc_values.specs.Openings.{Opening}
use Rattle.upc_values.specs.History.{picked_from, is_meet, meets, is_meet_of, Lead, leader_from, leader, asked, led, gives_up, is_given_up, is_done, each_thread, all_met, is_freed}
use Rattle.memory_history.proofs.Growing.{any-push}
use Rattle.memory_history.proofs.Leaders.{led-other, leader-stays, leader-new, leader-none, done-other, done-own}

absorbed : (g m : Bool) → g ≡ (g || (g && m))
absorbed true m = refl
absorbed false m = refl

-- ---- whether some entry passes

abbrev pub any_from : (List Entry → Entry → Bool) → List Entry → List Entry → Bool
any_from test before es = nat_lt 0 (length (picked_from test before es))

pub any-next : (test : List Entry → Entry → Bool) (before es : List Entry) (e : Entry)
    → any_from test before (e ∷ es) ≡ (test before e || any_from test (before ++ e ∷ []) es)
any-next test before es e =
    let rest = picked_from test (before ++ e ∷ []) es in
    elim (test before e) as (λ b. nat_lt 0 (length (cond b (e ∷ rest) rest)) ≡ (b || nat_lt 0 (length rest)))
    [ true ↦ lt-ltb 0 (length (e ∷ rest)) (omega arith) | false ↦ refl ]

shuffled : (a b c d : Bool) → ((a || b) || (c || d)) ≡ ((a || c) || (b || d))
shuffled true b c d = refl
shuffled false true true d = refl
shuffled false true false d = refl
shuffled false false c d = refl

pub any-or : (p q r : List Entry → Entry → Bool) → ((l : List Entry) (e : Entry) → r l e ≡ (p l e || q l e)) → (before es : List Entry)
    → any_from r before es ≡ (any_from p before es || any_from q before es)
any-or p q r same before [] = refl
any-or p q r same before (e ∷ es) =
    any-next r before es e
    ∙ ap (λ b. b || any_from r (before ++ e ∷ []) es) (same before e)
    ∙ ap (λ b. (p before e || q before e) || b) (any-or p q r same (before ++ e ∷ []) es)
    ∙ shuffled (p before e) (q before e) (any_from p (before ++ e ∷ []) es) (any_from q (before ++ e ∷ []) es)
    ∙ ap (λ b. b || (q before e || any_from q (before ++ e ∷ []) es)) (sym (any-next p before es e))
    ∙ ap (λ b. any_from p before (e ∷ es) || b) (sym (any-next q before es e))

pub any-same : (p q : List Entry → Entry → Bool) → ((l : List Entry) (e : Entry) → p l e ≡ q l e) → (before es : List Entry)
    → any_from p before es ≡ any_from q before es
any-same p q same before [] = refl
any-same p q same before (e ∷ es) =
    any-next p before es e
    ∙ ap (λ b. b || any_from p (before ++ e ∷ []) es) (same before e)
    ∙ ap (λ b. q before e || b) (any-same p q same (before ++ e ∷ []) es)
    ∙ sym (any-next q before es e)

pub any-false : (p : List Entry → Entry → Bool) → ((l : List Entry) (e : Entry) → p l e ≡ false) → (before es : List Entry)
    → any_from p before es ≡ false
any-false p none before [] = refl
any-false p none before (e ∷ es) =
    any-next p before es e ∙ ap (λ b. b || any_from p (before ++ e ∷ []) es) (none before e) ∙ any-false p none (before ++ e ∷ []) es

any-and : (c : Bool) (p : List Entry → Entry → Bool) (before es : List Entry) → any_from (λ l e. c && p l e) before es ≡ (c && any_from p before es)
any-and true p before es = refl
any-and false p before es = any-false (λ l e. false) (λ l e. refl) before es

-- ---- what the leader of a call gives up

-- the entry gives the lock up
abbrev pub gives : ℕ → List Entry → Entry → Bool
gives l before e = gives_up l e.action (led before e) e.reply

-- so does the leader, if there is one
abbrev pub leader_gives : ℕ → Option Lead → Bool
leader_gives l None = false
leader_gives l (Some w) = gives_up l w.entry.action (asked w.entry.action) w.entry.reply

meet-other : (l : ℕ) (a : Action) (r : Reply) → is_meet a ≡ true → gives_up l a Other r ≡ false
meet-other l (act.Meet c args) r h = refl
meet-other l a r h = absurd (false≢true h)

-- an entry that is the j-th Meet of its thread
abbrev gives_in : ℕ → ℕ → List Entry → Entry → Bool
gives_in l j before e = gives l before e && is_meet_of j before e

-- where its call has a leader before it, it gives up nothing
led-gives_in : (l j : ℕ) (before : List Entry) (e : Entry) (w : Lead) → leader j before ≡ Some w → gives_in l j before e ≡ false
led-gives_in l j before e w h = go (cases_Bool (is_meet_of j before e))
  where
    go : (is_meet_of j before e ≡ true) ⊎ (is_meet_of j before e ≡ false) → gives_in l j before e ≡ false
    go (inl m) =
        let p = and_parts (is_meet e.action) (length (meets e.thread before) == j) m in
        let q : length (meets e.thread before) ≡ j = eqb-true (length (meets e.thread before)) j p.1 in
        let nothing : led before e ≡ Other = ap (λ o. cond (is_none o) (asked e.action) Other) (ap (λ n. leader n before) q ∙ h) in
        ap (λ c. gives_up l e.action c e.reply && is_meet_of j before e) nothing
        ∙ ap (λ b. b && is_meet_of j before e) (meet-other l e.action e.reply p.0)
    go (inr n) = ap (λ b. gives l before e && b) n ∙ and-false (gives l before e)

-- where it has none, it leads
new-gives_in : (l j : ℕ) (before : List Entry) (e : Entry) → leader j before ≡ None → is_meet_of j before e ≡ true
    → gives_in l j before e ≡ gives_up l e.action (asked e.action) e.reply
new-gives_in l j before e h m =
    let p = and_parts (is_meet e.action) (length (meets e.thread before) == j) m in
    let q : length (meets e.thread before) ≡ j = eqb-true (length (meets e.thread before)) j p.1 in
    let leads : led before e ≡ asked e.action = ap (λ o. cond (is_none o) (asked e.action) Other) (ap (λ n. leader n before) q ∙ h) in
    ap (λ c. gives_up l e.action c e.reply && is_meet_of j before e) leads
    ∙ ap (λ b. gives_up l e.action (asked e.action) e.reply && b) m ∙ and-true (gives_up l e.action (asked e.action) e.reply)

any-led : (l j : ℕ) (before es : List Entry) (w : Lead) → leader j before ≡ Some w → any_from (gives_in l j) before es ≡ false
any-led l j before [] w h = refl
any-led l j before (e ∷ es) w h =
    any-next (gives_in l j) before es e
    ∙ ap (λ b. b || any_from (gives_in l j) (before ++ e ∷ []) es) (led-gives_in l j before e w h)
    ∙ any-led l j (before ++ e ∷ []) es w (leader-stays j before e w h)

-- in all that follow, the leader of the call alone may give the lock up
any-leader : (l j : ℕ) (before es : List Entry) → leader j before ≡ None
    → any_from (gives_in l j) before es ≡ leader_gives l (leader_from j before es)
any-leader l j before [] h = refl
any-leader l j before (e ∷ es) h =
    any-next (gives_in l j) before es e ∙ go (cases_Bool (is_meet_of j before e)) (λ k. any-leader l j (before ++ e ∷ []) es k)
  where
    go : (is_meet_of j before e ≡ true) ⊎ (is_meet_of j before e ≡ false)
        → (leader j (before ++ e ∷ []) ≡ None → any_from (gives_in l j) (before ++ e ∷ []) es ≡ leader_gives l (leader_from j (before ++ e ∷ []) es))
        → (gives_in l j before e || any_from (gives_in l j) (before ++ e ∷ []) es) ≡ leader_gives l (leader_from j before (e ∷ es))
    go (inl m) later =
        let w : Lead = record { before = before; entry = e } in
        let g = gives_up l e.action (asked e.action) e.reply in
        ap (λ b. b || any_from (gives_in l j) (before ++ e ∷ []) es) (new-gives_in l j before e h m)
        ∙ ap (λ b. g || b) (any-led l j (before ++ e ∷ []) es w (leader-new j before e h m))
        ∙ or-false g
        ∙ sym (ap (λ b. leader_gives l (cond b (Some w) (leader_from j (before ++ e ∷ []) es))) m)
    go (inr n) later =
        let w : Lead = record { before = before; entry = e } in
        ap (λ b. (gives l before e && b) || any_from (gives_in l j) (before ++ e ∷ []) es) n
        ∙ ap (λ b. b || any_from (gives_in l j) (before ++ e ∷ []) es) (and-false (gives l before e))
        ∙ later (leader-none j before e h n)
        ∙ sym (ap (λ b. leader_gives l (cond b (Some w) (leader_from j (before ++ e ∷ []) es))) n)

pub gave-leader : (l j : ℕ) (es : List Entry) → any_from (gives_in l j) [] es ≡ leader_gives l (leader j es)
gave-leader l j es = any-leader l j [] es refl

-- what a leader gives up is given up
pub leader-given_up : (l j : ℕ) (es : List Entry) → leader_gives l (leader j es) ≡ true → is_given_up l es ≡ true
leader-given_up l j es h =
    any-or (gives l) (gives_in l j) (gives l) (λ b e. absorbed (gives l b e) (is_meet_of j b e)) [] es
    ∙ ap (λ b. is_given_up l es || b) (gave-leader l j es ∙ h) ∙ or-true (is_given_up l es)

-- ---- freed

-- given up by an entry whose call, if it is one, passes
abbrev freed_by : (ℕ → Bool) → ℕ → List Entry → Entry → Bool
freed_by all l before e = gives l before e && (not (is_meet e.action) || all (length (meets e.thread before)))

either : (g m n c t : Bool) → (g && (not m || (n || (c && t)))) ≡ ((g && (not m || n)) || (c && (g && (m && t))))
either false m n true t = refl
either false m n false t = refl
either true false n c t = refl
either true true true c t = refl
either true true false true t = refl
either true true false false t = refl

-- one call more passes
freed-more : (l j : ℕ) (c : Bool) (all now : ℕ → Bool) (es : List Entry) → ((i : ℕ) → now i ≡ (all i || (c && (i == j))))
    → any_from (freed_by now l) [] es ≡ (any_from (freed_by all l) [] es || (c && leader_gives l (leader j es)))
freed-more l j c all now es same =
    any-or (freed_by all l) (λ b e. c && gives_in l j b e) (freed_by now l)
    (λ b e. ap (λ x. gives l b e && (not (is_meet e.action) || x)) (same (length (meets e.thread b)))
    ∙ either (gives l b e) (is_meet e.action) (all (length (meets e.thread b))) c (length (meets e.thread b) == j)) [] es
    ∙ ap (λ x. any_from (freed_by all l) [] es || x) (any-and c (gives_in l j) [] es ∙ ap (λ x. c && x) (gave-leader l j es))

each-same : (n : ℕ) (f g : ℕ → Bool) → ((u : ℕ) → f u ≡ g u) → each_thread n f ≡ each_thread n g
each-same ℕ.zero f g same = refl
each-same (ℕ.suc n) f g same = ap (λ b. b && each_thread n f) (same n) ∙ ap (λ b. g n && b) (each-same n f g same)

each-not : (n t : ℕ) (f : ℕ → Bool) → t < n → f t ≡ false → each_thread n f ≡ false
each-not ℕ.zero t f lt h = absurd (omega arith)
each-not (ℕ.suc n) t f lt h =
    elim (cases_eq t n) [
      | inl e ↦ ap (λ b. b && each_thread n f) (ap f (sym e) ∙ h)
      | inr ne ↦ ap (λ b. f n && b) (each-not n t f (omega arith) h) ∙ and-false (f n)
    ]

-- all threads have met, or not, as before
all_met-other : (o : Opening) (j : ℕ) (es : List Entry) (e : Entry) → is_meet_of j es e ≡ false → all_met o j (es ++ e ∷ []) ≡ all_met o j es
all_met-other o j es e none =
    each-same o.threads (λ u. is_done (slice_get (meets u (es ++ e ∷ [])) j)) (λ u. is_done (slice_get (meets u es) j))
    (λ u. ap is_done (done-other u j es e (elim (e.thread == u) as (λ b. (b && is_meet_of j es e) ≡ false) [ true ↦ none | false ↦ refl ])))

-- an entry that is no Meet
pub freed-other : (o : Opening) (l : ℕ) (es : List Entry) (e : Entry) → is_meet e.action ≡ false
    → is_freed o l (es ++ e ∷ []) ≡ (is_freed o l es || gives_up l e.action Other e.reply)
freed-other o l es e none =
    let all : ℕ → Bool = λ j. all_met o j es in
    let now : ℕ → Bool = λ j. all_met o j (es ++ e ∷ []) in
    let same : (j : ℕ) → now j ≡ all j =
    λ j. all_met-other o j es e (ap (λ b. b && (length (meets e.thread es) == j)) none) in
    any-push (freed_by now l) es e
    ∙ ap (λ b. b || freed_by now l es e)
    (any-same (freed_by now l) (freed_by all l)
    (λ b x. ap (λ y. gives l b x && (not (is_meet x.action) || y)) (same (length (meets x.thread b)))) [] es)
    ∙ ap (λ m. is_freed o l es || (gives l es e && (not m || now (length (meets e.thread es))))) none
    ∙ ap (λ b. is_freed o l es || b) (and-true (gives l es e))
    ∙ ap (λ c. is_freed o l es || gives_up l e.action c e.reply) (led-other es e none)

joined-freed : (f c g : Bool) → ((f || (c && g)) || (false && (false || c))) ≡ (f || (c && g))
joined-freed true c g = refl
joined-freed false true true = refl
joined-freed false true false = refl
joined-freed false false g = refl

led-freed : (f c g : Bool) → ((f || (c && false)) || (g && (false || c))) ≡ (f || (c && g))
led-freed true c g = refl
led-freed false true true = refl
led-freed false true false = refl
led-freed false false true = refl
led-freed false false false = refl

-- a Meet frees what the leader of its call gave up, once all threads have met in it
pub freed-meet : (o : Opening) (l : ℕ) (es : List Entry) (e : Entry) → is_meet e.action ≡ true → e.thread < o.threads
    → is_freed o l (es ++ e ∷ [])
    ≡ (is_freed o l es
    || (all_met o (length (meets e.thread es)) (es ++ e ∷ []) && leader_gives l (leader (length (meets e.thread es)) (es ++ e ∷ []))))
freed-meet o l es e m b =
    any-push (freed_by now l) es e
    ∙ ap (λ x. x || freed_by now l es e) (freed-more l j c all now es step)
    ∙ ap (λ x. (is_freed o l es || (c && leader_gives l (leader j es))) || (gives l es e && (not x || c))) m
    ∙ go (leader j es) refl
  where
    j : ℕ
    j = length (meets e.thread es)

    all : ℕ → Bool
    all i = all_met o i es

    now : ℕ → Bool
    now i = all_met o i (es ++ e ∷ [])

    c : Bool
    c = all_met o j (es ++ e ∷ [])

    own : is_meet_of j es e ≡ true
    own = and_from (is_meet e.action) (j == j) m (eq-eqb j j refl)

    step : (i : ℕ) → now i ≡ (all i || (c && (i == j)))
    step i = elim (cases_eq i j) [
      | inl q ↦
          let before : all i ≡ false =
          each-not o.threads e.thread (λ u. is_done (slice_get (meets u es) i)) b
          (ap is_done (ap (slice_get (meets e.thread es)) q ∙ (done-own j es e own).0)) in
          ap now q ∙ sym (and-true c) ∙ ap (λ x. c && x) (sym (eq-eqb i j q)) ∙ ap (λ x. x || (c && (i == j))) (sym before)
      | inr ne ↦
          let other : is_meet_of i es e ≡ false =
          ap (λ x. is_meet e.action && x) (ne_eqb j i (λ q. ne (sym q))) ∙ and-false (is_meet e.action) in
          all_met-other o i es e other ∙ sym (or-false (all i))
          ∙ ap (λ x. all i || x) (sym (ap (λ y. c && y) (ne_eqb i j ne) ∙ and-false c))
    ]

    go : (w : Option Lead) → leader j es ≡ w
        → ((is_freed o l es || (c && leader_gives l (leader j es))) || (gives l es e && (false || c)))
        ≡ (is_freed o l es || (c && leader_gives l (leader j (es ++ e ∷ []))))
    go None q =
        ap (λ w. (is_freed o l es || (c && leader_gives l w)) || (gives_up l e.action (cond (is_none w) (asked e.action) Other) e.reply && (false || c))) q
        ∙ led-freed (is_freed o l es) c (gives_up l e.action (asked e.action) e.reply)
        ∙ ap (λ w. is_freed o l es || (c && leader_gives l w)) (sym (leader-new j es e q own))
    go (Some w) q =
        ap (λ v. (is_freed o l es || (c && leader_gives l v)) || (gives_up l e.action (cond (is_none v) (asked e.action) Other) e.reply && (false || c))) q
        ∙ ap (λ g. (is_freed o l es || (c && leader_gives l (Some w))) || (g && (false || c))) (meet-other l e.action e.reply m)
        ∙ joined-freed (is_freed o l es) c (leader_gives l (Some w))
        ∙ ap (λ v. is_freed o l es || (c && leader_gives l v)) (sym (leader-stays j es e w q))
