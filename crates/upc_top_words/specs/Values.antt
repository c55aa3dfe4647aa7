-- What the words ask for, and when they ask for nothing.
use Rattle.std.specs.Prelude.{◌≡◌, ◌≤◌, ◌*◌, ◌/◌, ◌-◌, ◌^◌, ℕ, Bool, true, false, List, Option, Some, None, codes}
use Rattle.std.specs.Prelude.{decimal, is_some, option_and_then, option_map, unwrap_or, if◌then◌else◌}
use Rattle.std.specs.Str.{bytes_eq}
use Rattle.std.specs.Str.Parse.{digits_value, without_leading_plus}
use Rattle.clap.specs.Words.{Row, Text, first_of}
use Rattle.clap.specs.ValueTests.{is_unsigned_in}
use Rattle.upc_top_words.specs.Line.{IsTakenByClap, found_in}
use Rattle.upc_top_words.specs.declared.call.Call.{Call}
use Rattle.upc_top_words.specs.declared.call.Mode.{Mode}
use Rattle.upc_top_words.specs.declared.call.Mode.TheVariants.{Run, Record, Check, Layout, Sample, Verify, Races}
use Rattle.upc_top_words.specs.declared.call.Mode.TheVariants.{Replica}

-- What the words ask for: a mode, the number of threads, the ticks and the items of each thread, the FILE word, and
-- the RECORD word, if there is one.
pub record Asked : Type 0 where
  pub mode : Mode
  pub threads : ℕ
  pub budget : ℕ
  pub actions : ℕ
  pub file : Text
  pub recording : Option Text

-- What the words ask for, by the call that the program has made of them.
abbrev pub view_call : Call → Asked
view_call call =
    record {
      mode = call.mode;
      threads = call.threads;
      budget = call.budget;
      actions = call.actions;
      file = call.file.now;
      recording = option_map (λ s. s.now) call.recording;
    }

-- The mode that a word names.
abbrev pub mode_named : Text → Option Mode
mode_named text =
    if bytes_eq text (codes "run") then Some Run
    else (if bytes_eq text (codes "record") then Some Record
    else (if bytes_eq text (codes "check") then Some Check
    else (if bytes_eq text (codes "layout") then Some Layout
    else (if bytes_eq text (codes "sample") then Some Sample
    else (if bytes_eq text (codes "verify") then Some Verify
    else (if bytes_eq text (codes "races") then Some Races
    else (if bytes_eq text (codes "replica") then Some Replica else None)))))))

-- The number that a text writes in decimal, where it fits 64 bits; `clap` takes a leading plus and leading zeros.
abbrev pub number_of : Text → Option ℕ
number_of text =
    if is_unsigned_in 0 (2 ^ 64 - 1) text then Some (digits_value 10 (without_leading_plus text)) else None

-- The first number that was given for a name.
abbrev pub number_in : List Row → Text → Option ℕ
number_in rows id = option_and_then number_of (first_of id rows)

-- The mode that was given for MODE, if it is one.
abbrev pub mode_in : List Row → Option Mode
mode_in rows = option_and_then mode_named (first_of (codes "MODE") rows)

-- By how much the items of one thread are multiplied where they are limited: the number of threads, and in mode
-- `replica`, in which each thread has mail from every other, its square.
abbrev pub copies : Mode → ℕ → ℕ
copies Replica threads = threads * threads
copies mode threads = threads

-- The items that each thread's record may have where the words give no number: 4,194,304 over all threads, in mode
-- `replica` over all pairs of threads.
abbrev pub share : Mode → ℕ → ℕ
share mode threads = 4194304 / copies mode threads

-- In mode `verify` a record is judged.
abbrev pub judges : Mode → Bool
judges Verify = true
judges mode = false

-- First a value, and then, where there is one, what it leads to.
infixl 10 ◌>>=◌
abbrev pub ◌>>=◌ : {A B : Type 0} → Option A → (A → Option B) → Option B
None >>= f = None
(Some x) >>= f = f x

-- What these values ask for, where each that has to be there is.
abbrev pub asked_from : Option Mode → Option ℕ → Option ℕ → Option ℕ → Option Text → Option Text → Option Asked
asked_from mode threads budget actions file recording = do
  m ← mode
  t ← threads
  b ← budget
  f ← file
  Some (record {
    mode = m;
    threads = t;
    budget = b;
    actions = unwrap_or actions (share m t);
    file = f;
    recording = recording;
  })

-- What the values found in the words ask for, where each that has to be there is.
abbrev pub asked_by : List Row → Option Asked
asked_by rows =
    asked_from (mode_in rows) (number_in rows (codes "threads")) (number_in rows (codes "budget"))
    (number_in rows (codes "actions")) (first_of (codes "FILE") rows) (first_of (codes "RECORD") rows)

-- The text is the plain decimal text of a number from 1 to 1,000.
pub record IsSampleNumber (text : Text) : Type 0 where
  pub stages : ℕ
  pub least : 1 ≤ stages
  pub most : stages ≤ 1000
  pub plain : text ≡ decimal stages

-- The conditions of the command's own: all threads together, in mode `replica` all pairs of threads, have at most
-- 8,388,608 items, in mode `sample` the FILE word is a number of stages, and the RECORD word is there exactly in mode
-- `verify`.
pub record IsAllowed (a : Asked) : Type 0 where
  pub items : copies a.mode a.threads * a.actions ≤ 8388608
  pub sample : a.mode ≡ Sample → IsSampleNumber a.file
  pub recording : is_some a.recording ≡ judges a.mode

-- Each value that is asked for lies in its range.
pub record IsInRange (a : Asked) : Type 0 where
  pub one_thread : 1 ≤ a.threads
  pub threads : a.threads ≤ 32
  pub one_tick : 1 ≤ a.budget
  pub ticks : a.budget ≤ 1000000000000
  pub one_item : 1 ≤ a.actions
  pub items : a.actions ≤ 8388608

-- The words ask for this: `clap` takes them, these are their values, and the conditions hold.
pub record Asks (words : List Text) (a : Asked) : Type 0 where
  pub taken : IsTakenByClap words
  pub values : asked_by (found_in words) ≡ Some a
  pub allowed : IsAllowed a

-- Why the words ask for nothing: `clap` refuses them, the MODE word names no mode, or one of the conditions fails.
pub data AsksNothing (words : List Text) : Type 0 where
  refused_by_clap : (IsTakenByClap words → ⊥) → AsksNothing words
  no_mode : (word : Text) → first_of (codes "MODE") (found_in words) ≡ Some word → mode_named word ≡ None
      → AsksNothing words
  not_allowed : (a : Asked) → asked_by (found_in words) ≡ Some a → (IsAllowed a → ⊥) → AsksNothing words
