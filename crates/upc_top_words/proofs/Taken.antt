-- What follows for the values that were given, and where there are none.
use Rattle.std.proofs.Common.{◌≡◌, ◌∙◌, ◌≤◌, ◌*◌, ℕ, true, List, is_some, Option, Some, None, refl, sym, ap, subst, arith, codes, true≢false, div-le_self}
use Rattle.std.specs.Prelude.{IfSome, option_and_then, unwrap_or}
use Rattle.std.proofs.lemmas.Nat.{le-div, mul-le}
use Rattle.std.proofs.Math.Nat.{le-mul_of_pos_right, mul-le-mul_right}
use Rattle.clap.specs.Words.{Row, Text, first_of}
use Rattle.upc_top_words.specs.declared.call.Mode.{Mode}
use Rattle.upc_top_words.specs.declared.call.Mode.TheVariants.{Run, Record, Check, Layout, Sample, Verify, Races, Replica}
use Rattle.upc_top_words.specs.Line.{found_in}
use Rattle.upc_top_words.specs.Values.{Asked, Asks, AsksNothing, IsAllowed, IsInRange, asked_by, asked_from, copies, mode_in, mode_named, no_mode, not_allowed, number_in, number_of, refused_by_clap, share}
use Rattle.upc_top_words.specs.code.Given.{IsGiven, IsNumber}

abbrev IsItems : ℕ → Type 0
IsItems n = (1 ≤ n) × (n ≤ 8388608)

-- the items of one thread are multiplied by the number of threads at least, and by 1,024 at most
pub copies-range : (m : Mode) (t : ℕ) → 1 ≤ t → t ≤ 32 → (t ≤ copies m t) × (copies m t ≤ 1024)
copies-range Run t least most = (omega arith, omega arith)
copies-range Record t least most = (omega arith, omega arith)
copies-range Check t least most = (omega arith, omega arith)
copies-range Layout t least most = (omega arith, omega arith)
copies-range Sample t least most = (omega arith, omega arith)
copies-range Verify t least most = (omega arith, omega arith)
copies-range Races t least most = (omega arith, omega arith)
copies-range Replica t least most = (le-mul_of_pos_right t least, mul-le t t 32 32 most most)

-- the items of all threads are among those that are limited
pub all-items : (m : Mode) (t n : ℕ) → 1 ≤ t → t ≤ 32 → t * n ≤ copies m t * n
all-items m t n least most = mul-le-mul_right n (copies-range m t least most).0

items : (a : Option ℕ) (m : Mode) (t : ℕ) → 1 ≤ t → t ≤ 32 → IfSome a IsItems → IsItems (unwrap_or a (share m t))
items None m t least most h =
    let many = copies-range m t least most in
    let low : t ≤ copies m t = many.0 in
    let high : copies m t ≤ 1024 = many.1 in
    (le-div 1 4194304 (copies m t) (omega arith) (omega arith), omega (arith, div-le_self 4194304 (copies m t)))
items (Some n) m t least most h = h

abbrev some : Asked → Option Asked
some w = Some w

is_value : (v w : Asked) → some v ≡ some w → v ≡ w
is_value v w e = cc

value_is : (o : Option ℕ) (n : ℕ) (most : ℕ) → o ≡ Some n → IsNumber o most → (1 ≤ n) × (n ≤ most)
value_is None n most e h = absurd cc
value_is (Some k) n most e h =
    let same : h.n ≡ n = let both = sym h.is ∙ e in cc in
    (rw (← same) h.least, rw (← same) h.no_more)

range_from : (mode : Option Mode) (threads budget actions : Option ℕ) (file recording : Option Text) (w : Asked) → IsNumber threads 32 → IsNumber budget 1000000000000 → IfSome actions IsItems
    → asked_from mode threads budget actions file recording ≡ Some w → IsInRange w
range_from None t b a f g w ht hb ha e = absurd cc
range_from (Some m) None b a f g w ht hb ha e = absurd cc
range_from (Some m) (Some t) None a f g w ht hb ha e = absurd cc
range_from (Some m) (Some t) (Some b) a None g w ht hb ha e = absurd cc
range_from (Some m) (Some t) (Some b) a (Some f) g w ht hb ha e =
    let tr = value_is (Some t) t 32 refl ht in
    let br = value_is (Some b) b 1000000000000 refl hb in
    let ar = items a m t tr.0 tr.1 ha in
    let made : Asked = record { mode = m; threads = t; budget = b; actions = unwrap_or a (share m t); file = f; recording = g } in
    subst IsInRange (is_value made w e) (record { one_thread = tr.0; threads = tr.1; one_tick = br.0; ticks = br.1; one_item = ar.0; items = ar.1 })

items_in : (o : Option Text) → IfSome o (λ t. IsNumber (number_of t) 8388608) → IfSome (option_and_then number_of o) IsItems
items_in None h = tt
items_in (Some t) h = go (number_of t) h
  where
    go : (o : Option ℕ) → IsNumber o 8388608 → IfSome o IsItems
    go None h = tt
    go (Some n) h = value_is (Some n) n 8388608 refl h

pub in_range : (rows : List Row) (w : Asked) → IsGiven rows → asked_by rows ≡ Some w → IsInRange w
in_range rows w h e = range_from (mode_in rows) (number_in rows (codes "threads")) (number_in rows (codes "budget")) (number_in rows (codes "actions")) (first_of (codes "FILE") rows) (first_of (codes "RECORD") rows) w
    h.threads h.budget (items_in (first_of (codes "actions") rows) h.actions) e

no_mode_from : (mode : Option Mode) (threads budget actions : Option ℕ) (file recording : Option Text) → IsNumber threads 32 → IsNumber budget 1000000000000 → is_some file ≡ true
    → asked_from mode threads budget actions file recording ≡ None → mode ≡ None
no_mode_from None t b a f g ht hb hf e = refl
no_mode_from (Some m) None b a f g ht hb hf e = let bad = ht.is in absurd cc
no_mode_from (Some m) (Some t) None a f g ht hb hf e = let bad = hb.is in absurd cc
no_mode_from (Some m) (Some t) (Some b) a None g ht hb hf e = absurd (true≢false (sym hf))
no_mode_from (Some m) (Some t) (Some b) a (Some f) g ht hb hf e = absurd cc

word_of : (o : Option Text) → is_some o ≡ true → option_and_then mode_named o ≡ None → (t : Text) × (o ≡ Some t) × (mode_named t ≡ None)
word_of None s e = absurd (true≢false (sym s))
word_of (Some t) s e = (t, refl, e)

pub nothing_by_mode : (words : List Text) (rows : List Row) → rows ≡ found_in words → IsGiven rows → asked_by rows ≡ None → AsksNothing words
nothing_by_mode words rows is h e =
    let none = no_mode_from (mode_in rows) (number_in rows (codes "threads")) (number_in rows (codes "budget")) (number_in rows (codes "actions")) (first_of (codes "FILE") rows) (first_of (codes "RECORD") rows) h.threads h.budget h.file e in
    let word = word_of (first_of (codes "MODE") rows) h.mode none in
    no_mode word.0 (ap (first_of (codes "MODE")) (sym is) ∙ word.1) word.2

pub nothing_allowed : (words : List Text) (rows : List Row) (w : Asked) → rows ≡ found_in words → asked_by rows ≡ Some w → (IsAllowed w → ⊥) → AsksNothing words
nothing_allowed words rows w is e fails = not_allowed w (ap asked_by (sym is) ∙ e) fails

-- words ask for one thing at most
pub one_asked : (words : List Text) (a b : Asked) → Asks words a → Asks words b → a ≡ b
one_asked words a b h k = is_value a b (sym h.values ∙ k.values)

none_without_mode : (mode : Option Mode) (threads budget actions : Option ℕ) (file recording : Option Text) (a : Asked) → mode ≡ None → asked_from mode threads budget actions file recording ≡ Some a → ⊥
none_without_mode None t b f g x a h e = absurd cc
none_without_mode (Some m) t b f g x a h e = absurd cc

-- where there is a reason, they ask for nothing
pub nothing : (words : List Text) → AsksNothing words → (a : Asked) → Asks words a → ⊥
nothing words (refused_by_clap fails) a h = fails h.taken
nothing words (no_mode word given names) a h =
    let rows = found_in words in
    let none : mode_in rows ≡ None = ap (option_and_then mode_named) given ∙ names in
    none_without_mode (mode_in rows) (number_in rows (codes "threads")) (number_in rows (codes "budget")) (number_in rows (codes "actions")) (first_of (codes "FILE") rows) (first_of (codes "RECORD") rows) a none h.values
nothing words (not_allowed b e fails) a h = fails (subst IsAllowed (is_value a b (sym h.values ∙ e)) h.allowed)
