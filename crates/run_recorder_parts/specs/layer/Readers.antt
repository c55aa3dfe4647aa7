-- Reading a run's text part by part: a reader takes parts from the front of a list, and gives a value and the rest.
use Rattle.std.specs.Prelude.{ℕ, ℤ, zero, suc, negsuc, pos, ◌≡◌, ◌+◌, ◌==◌, ◌&&◌, nat_le, Bool}
use Rattle.std.specs.Prelude.{List, [], ◌∷◌, length, map, drop, slice_index, if◌then◌else◌, decimal}
use Rattle.std.specs.Prelude.{Option, Some, None, Result, Ok, Err}
use Rattle.std.specs.List.{slice_split}
use Rattle.std.specs.Str.{bytes_eq}
use Rattle.std.specs.Str.Parse.{digits_value}
use Rattle.std.specs.Borrow.{Bor}
use Rattle.run_recorder_parts.specs.declared.fail.Fail.{Fail}
use Rattle.run_recorder_parts.specs.declared.fail.Fail.TheVariants.{Bad, Memory}
use Rattle.run_recorder_text.specs.Words.{Text}

-- The texts that are lent.
abbrev pub texts : List (Bor Text) → List Text
texts lent = map (λ t. t.now) lent

-- First the one, then what its value leads to.
abbrev pub bind : {A B : Type 0} → Option A → (A → Option B) → Option B
bind (Some x) f = f x
bind None f = None

-- A value is not read where no memory was left, or where there is none.
abbrev pub Fails : {Y : Type 0} → Fail → Option Y → Type 0
Fails Memory read = Unit {0}
Fails Bad read = read ≡ None

-- What a function returned, seen by the view, is what is read, unless no memory was left.
abbrev pub Gives : {X Y : Type 0} → (X → Y) → Result X Fail → Option Y → Type 0
Gives view (Ok x) read = read ≡ Some (view x)
Gives view (Err e) read = Fails e read

-- The same of a function that moves on over parts, to the new ones.
abbrev pub Reads : {X Y : Type 0} → (X → Y) → Option (Y × List Text) → Result X Fail → List Text → Type 0
Reads view read (Ok x) new = read ≡ Some (view x, new)
Reads view read (Err e) new = Fails e read

-- The value itself.
abbrev pub same : {X : Type 0} → X → X
same x = x

-- A reader gives a value and the parts after it, where the parts begin with one.
abbrev pub Reader : Type 0 → Type 0
Reader A = List Text → Option (A × List Text)

-- The first part.
abbrev pub next : Reader Text
next [] = None
next (w ∷ ws) = Some (w, ws)

-- A value that takes no part.
abbrev pub give : {A : Type 0} → A → Reader A
give a ws = Some (a, ws)

-- First the one reader, then the one that its value leads to.
infixl 10 ◌>>=◌
abbrev pub ◌>>=◌ : {A B : Type 0} → Reader A → (A → Reader B) → Reader B
r >>= k = λ ws. bind (r ws) (λ x. k x.0 x.1)

-- One part, read as a value.
abbrev pub field : {A : Type 0} → (Text → Option A) → Reader A
field of ws = bind (next ws) (λ x. bind (of x.0) (λ a. Some (a, x.1)))

-- So many values, numbered from i on.
abbrev pub many : {A : Type 0} → ℕ → ℕ → (ℕ → Reader A) → Reader (List A)
many i zero r ws = Some ([], ws)
many i (suc n) r ws = bind (r i ws) (λ x. bind (many (i + 1) n r x.1) (λ y. Some (x.0 ∷ y.0, y.1)))

-- One part for each number.
abbrev pub each : {A : Type 0} → (Text → Option A) → ℕ → Reader A
each of i = field of

-- The reader beside the tag in a table.
abbrev pub choose : {A : Type 0} → List (Text × Reader A) → Text → Reader A
choose [] tag ws = None
choose (row ∷ rows) tag ws = if bytes_eq tag row.0 then row.1 ws else choose rows tag ws

-- A value by its first part.
abbrev pub tagged : {A : Type 0} → List (Text × Reader A) → Reader A
tagged rows ws = bind (next ws) (λ x. choose rows x.0 x.1)

-- The value where the part is this text.
abbrev pub constant : {A : Type 0} → Text → A → Text → Option A
constant text a t = if bytes_eq t text then Some a else None

-- A part that is this text.
abbrev pub expect : Text → Reader (Unit {0})
expect t = field (constant t tt)

-- A test that takes no part.
abbrev pub check : Bool → Reader (Unit {0})
check b ws = if b then Some (tt, ws) else None

-- The value, where the test holds.
abbrev pub guarded : {A : Type 0} → Bool → A → Option A
guarded b a = if b then Some a else None

-- A value that takes no part, where there is one.
abbrev pub lift : {A : Type 0} → Option A → Reader A
lift o ws = bind o (λ a. Some (a, ws))

-- The value, where no part is left.
abbrev pub ended : {A : Type 0} → A × List Text → Option A
ended x = if length x.1 == 0 then Some x.0 else None

-- A text that is made of parts with this byte between them.
abbrev pub whole : {A : Type 0} → ℕ → Reader A → Text → Option A
whole mark r t = bind (r (slice_split (λ b. b == mark) t)) ended

-- The text without the bytes that it begins with.
abbrev pub strip : Text → Text → Option Text
strip [] t = Some t
strip (x ∷ xs) [] = None
strip (x ∷ xs) (y ∷ ys) = if y == x then strip xs ys else None

-- The text begins with the byte.
abbrev pub begins : ℕ → Text → Bool
begins c t = slice_index t 0 == c

-- The number of at most `most` that the word writes in decimal, without leading zeros.
abbrev pub number_of : ℕ → Text → Option ℕ
number_of most word =
    let n = digits_value 10 word in
    if nat_le n most && bytes_eq (decimal n) word then Some n else None

-- The negative of a number that is not 0.
abbrev pub negative : ℕ → Option ℤ
negative zero = None
negative (suc n) = Some (negsuc n)

-- The number from - (most + 1) to `most` that the word writes.
abbrev pub int_of : ℕ → Text → Option ℤ
int_of most t =
    if begins 45 t then bind (number_of (most + 1) (drop 1 t)) negative
    else bind (number_of most t) (λ n. Some (pos n))
