-- What one more entry changes in what a history says.
use Rattle.std.proofs.Common.{◌≡◌, ℕ, ◌+◌, ◌==◌, nat_lt, Bool, true, false, cond, ◌&&◌, ◌||◌, List, [], ◌∷◌, ◌++◌, length, filter, Option, Some, None, refl, sym, ap, ◌∙◌, append_assoc, append-nil, arith, lt-ltb, length-append}
use Rattle.std.specs.List.{filter_map, cons_option, fold, count_by, last_or}
use Rattle.std.specs.Option.{option_or}
use Rattle.std.proofs.lemmas.List.Elements.{filter-append, filter_map-append}
use Rattle.block_layout.specs.declared.place.Loc.{Loc}
use Rattle.upc_values.specs.declared.journal.Entry.{Entry}
use Rattle.upc_values.specs.Openings.{Opening}
use Rattle.upc_values.specs.Drain.{or_else, written, last_written, entries_of}
use Rattle.upc_values.specs.History.{picked, is_any, is_meet, meets, is_meet_of, Lead, leader_from, leader, led, makes, object_of, objects, releases, is_released, pointer_of, allocated, asked, makes_lock, locks, gives_up, is_given_up, turns, left_with, holder, mark_of, marks, is_notify, is_wait, notifies, waits}
use Rattle.upc_values.proofs.Beginnings.{picked-append}
use Rattle.memory_history.proofs.Looking.{last_written-append}

-- the entry alone where the test holds, else nothing
abbrev pub one_if : Bool → Entry → List Entry
one_if b e = cond b (e ∷ []) []

pub picked-push : (test : List Entry → Entry → Bool) (es : List Entry) (e : Entry) → picked test (es ++ e ∷ []) ≡ picked test es ++ one_if (test es e) e
picked-push test es e = picked-append test [] es (e ∷ [])

some-or : (xs : List Entry) (b : Bool) (e : Entry) → nat_lt 0 (length (xs ++ one_if b e)) ≡ (nat_lt 0 (length xs) || b)
some-or [] true e = refl
some-or [] false e = refl
some-or (x ∷ xs) b e =
    lt-ltb 0 (length (x ∷ xs ++ one_if b e)) (omega arith)
    ∙ ap (λ c. c || b) (sym (lt-ltb 0 (length (x ∷ xs)) (omega arith)))

pub any-push : (test : List Entry → Entry → Bool) (es : List Entry) (e : Entry) → is_any test (es ++ e ∷ []) ≡ (is_any test es || test es e)
any-push test es e = ap (λ z. nat_lt 0 (length z)) (picked-push test es e) ∙ some-or (picked test es) (test es e) e

pub length-one : (b : Bool) (e : Entry) → length (one_if b e) ≡ cond b 1 0
length-one true e = refl
length-one false e = refl

-- how many are picked
pub picked_count-push : (test : List Entry → Entry → Bool) (es : List Entry) (e : Entry) → length (picked test (es ++ e ∷ [])) ≡ length (picked test es) + cond (test es e) 1 0
picked_count-push test es e =
    ap length (picked-push test es e) ∙ length-append (picked test es) (one_if (test es e) e)
    ∙ ap (λ n. length (picked test es) + n) (length-one (test es e) e)

-- ---- of one thread

pub entries_of-push : (t : ℕ) (es : List Entry) (e : Entry) → entries_of t (es ++ e ∷ []) ≡ entries_of t es ++ one_if (e.thread == t) e
entries_of-push t es e = filter-append (λ x. x.thread == t) es (e ∷ [])

both-filter : (own test : Entry → Bool) (e : Entry) → filter test (one_if (own e) e) ≡ one_if (own e && test e) e
both-filter own test e = elim (own e) as (λ b. filter test (one_if b e) ≡ one_if (b && test e) e) [ true ↦ refl | false ↦ refl ]

pub meets-push : (t : ℕ) (es : List Entry) (e : Entry) → meets t (es ++ e ∷ []) ≡ meets t es ++ one_if ((e.thread == t) && is_meet e.action) e
meets-push t es e =
    ap (filter (λ x. is_meet x.action)) (entries_of-push t es e)
    ∙ filter-append (λ x. is_meet x.action) (entries_of t es) (one_if (e.thread == t) e)
    ∙ ap (λ z. meets t es ++ z) (both-filter (λ x. x.thread == t) (λ x. is_meet x.action) e)

mapped-if : {X : Type 0} (f : Entry → Option X) (b : Bool) (e : Entry) → filter_map f (one_if b e) ≡ cond b (cons_option (f e) []) []
mapped-if f true e = refl
mapped-if f false e = refl

pub marks-push : (t : ℕ) (es : List Entry) (e : Entry) → marks t (es ++ e ∷ []) ≡ marks t es ++ cond (e.thread == t) (cons_option (mark_of e) []) []
marks-push t es e =
    ap (filter_map mark_of) (entries_of-push t es e)
    ∙ filter_map-append mark_of (entries_of t es) (one_if (e.thread == t) e)
    ∙ ap (λ z. marks t es ++ z) (mapped-if mark_of (e.thread == t) e)

folded-push : (f : ℕ → Entry → ℕ) (n : ℕ) (es : List Entry) (e : Entry) → fold f n (es ++ e ∷ []) ≡ f (fold f n es) e
folded-push f n [] e = refl
folded-push f n (x ∷ es) e = folded-push f (f n x) es e

pub count-push : (test : Entry → Bool) (es : List Entry) (e : Entry) → count_by test (es ++ e ∷ []) ≡ count_by test es + cond (test e) 1 0
count-push test es e = folded-push (λ n x. n + cond (test x) 1 0) 0 es e

pub notifies-push : (t : ℕ) (es : List Entry) (e : Entry) → notifies t (es ++ e ∷ []) ≡ notifies t es + cond ((e.thread == t) && is_notify e.action) 1 0
notifies-push t es e = count-push (λ x. (x.thread == t) && is_notify x.action) es e

pub waits-push : (t : ℕ) (es : List Entry) (e : Entry) → waits t (es ++ e ∷ []) ≡ waits t es + cond ((e.thread == t) && is_wait e.action) 1 0
waits-push t es e = count-push (λ x. (x.thread == t) && is_wait x.action) es e

-- ---- collective calls

leader_from-push : (j : ℕ) (before es : List Entry) (e : Entry)
    → leader_from j before (es ++ e ∷ [])
    ≡ option_or (leader_from j before es) (cond (is_meet_of j (before ++ es) e) (Some (record { before = before ++ es; entry = e })) None)
leader_from-push j before [] e =
    ap (λ z. cond (is_meet_of j z e) (Some (record { before = z; entry = e })) None) (sym (append-nil before))
leader_from-push j before (x ∷ es) e =
    let last : Option Lead = cond (is_meet_of j (before ++ x ∷ es) e) (Some (record { before = before ++ x ∷ es; entry = e })) None in
    let next : leader_from j (before ++ x ∷ []) (es ++ e ∷ []) ≡ option_or (leader_from j (before ++ x ∷ []) es) last =
    leader_from-push j (before ++ x ∷ []) es e
    ∙ ap (λ z. option_or (leader_from j (before ++ x ∷ []) es) (cond (is_meet_of j z e) (Some (record { before = z; entry = e })) None)) (append_assoc before (x ∷ []) es) in
    let this : Option Lead = Some (record { before = before; entry = x }) in
    elim (is_meet_of j before x)
    as (λ b. cond b this (leader_from j (before ++ x ∷ []) (es ++ e ∷ [])) ≡ option_or (cond b this (leader_from j (before ++ x ∷ []) es)) last)
    [ true ↦ refl | false ↦ next ]

pub leader-push : (j : ℕ) (es : List Entry) (e : Entry)
    → leader j (es ++ e ∷ []) ≡ option_or (leader j es) (cond (is_meet_of j es e) (Some (record { before = es; entry = e })) None)
leader-push j es e = leader_from-push j [] es e

-- ---- objects

pub objects-push : (o : Opening) (es : List Entry) (e : Entry)
    → objects o (es ++ e ∷ []) ≡ objects o es ++ cond (makes e.action (led es e)) (cons_option (object_of e) []) []
objects-push o es e =
    let test : List Entry → Entry → Bool = λ b x. makes x.action (led b x) in
    let more = cond (makes e.action (led es e)) (cons_option (object_of e) []) [] in
    ap (λ z. o.declared ++ filter_map object_of z) (picked-push test es e)
    ∙ ap (λ z. o.declared ++ z)
    (filter_map-append object_of (picked test es) (one_if (test es e) e)
    ∙ ap (λ z. filter_map object_of (picked test es) ++ z) (mapped-if object_of (test es e) e))
    ∙ sym (append_assoc o.declared (filter_map object_of (picked test es)) more)

pub released-push : (n : ℕ) (es : List Entry) (e : Entry) → is_released n (es ++ e ∷ []) ≡ (is_released n es || releases n e.action (led es e) e.reply)
released-push n es e = any-push (λ b x. releases n x.action (led b x) x.reply) es e

pub allocated-push : (es : List Entry) (e : Entry)
    → allocated (es ++ e ∷ []) ≡ allocated es ++ cond (makes e.action (asked e.action)) (cons_option (pointer_of e.reply) []) []
allocated-push es e =
    let test : Entry → Bool = λ x. makes x.action (asked x.action) in
    ap (filter_map (λ x. pointer_of x.reply)) (filter-append test es (e ∷ []))
    ∙ filter_map-append (λ x. pointer_of x.reply) (filter test es) (one_if (test e) e)
    ∙ ap (λ z. allocated es ++ z) (mapped-if (λ x. pointer_of x.reply) (test e) e)

pub last_written-push : (l : Loc) (es : List Entry) (e : Entry) → last_written l (es ++ e ∷ []) ≡ or_else (written l e.action) (last_written l es)
last_written-push l es e = last_written-append l es (e ∷ [])

-- ---- locks

pub locks-push : (es : List Entry) (e : Entry) → locks (es ++ e ∷ []) ≡ locks es + cond (makes_lock e.action (led es e)) 1 0
locks-push es e = picked_count-push (λ b x. makes_lock x.action (led b x)) es e

pub given_up-push : (l : ℕ) (es : List Entry) (e : Entry) → is_given_up l (es ++ e ∷ []) ≡ (is_given_up l es || gives_up l e.action (led es e) e.reply)
given_up-push l es e = any-push (λ b x. gives_up l x.action (led b x) x.reply) es e

last-more : (test : Entry → Bool) (o : Option Entry) (xs : List Entry) (x : Entry)
    → last_or o (filter test (xs ++ x ∷ [])) ≡ cond (test x) (Some x) (last_or o (filter test xs))
last-more test o [] x = elim (test x) as (λ b. last_or o (one_if b x) ≡ cond b (Some x) o) [ true ↦ refl | false ↦ refl ]
last-more test o (y ∷ xs) x =
    elim (test y) as (λ b. last_or o (cond b (y ∷ filter test (xs ++ x ∷ [])) (filter test (xs ++ x ∷ [])))
    ≡ cond (test x) (Some x) (last_or o (cond b (y ∷ filter test xs) (filter test xs)))) [
      | true ↦ last-more test (Some y) xs x
      | false ↦ last-more test o xs x
    ]

pub holder-push : (l : ℕ) (es : List Entry) (e : Entry) → holder l (es ++ e ∷ []) ≡ cond (turns l e.action e.reply) (left_with (Some e)) (holder l es)
holder-push l es e =
    ap left_with (last-more (λ f. turns l f.action f.reply) None es e)
    ∙ (elim (turns l e.action e.reply)
    as (λ b. left_with (cond b (Some e) (last_or None (filter (λ f. turns l f.action f.reply) es)))
    ≡ cond b (left_with (Some e)) (holder l es)) [ true ↦ refl | false ↦ refl ])
