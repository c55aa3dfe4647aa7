-- What the words ask for, and when they ask for nothing.
use Rattle.std.specs.Prelude.{◌≡◌, ◌≤◌, ◌+◌, ◌*◌, ℕ, zero, suc, Bool, true, false, ◌||◌, cond, is_some, List, Option}
use Rattle.std.specs.Prelude.{Some, None, codes, unwrap_or, option_map}
use Rattle.std.specs.Str.{bytes_eq}
use Rattle.clap.specs.Words.{Row, Text, first_of}
use Rattle.upc_top_words.specs.Values.{number_in, ◌>>=◌}
use Rattle.upc_outcomes_words.specs.Line.{IsTakenByClap, found_in}
use Rattle.upc_outcomes_words.specs.Picks.{picks_in}

-- Which lists of picks a program is run by: so many made from a seed, every one of at most so many picks, this one, or
-- this one with the record of its run.
pub data Wanted : Type 0 where
  seeded : ℕ → ℕ → Wanted
  every : ℕ → Wanted
  given : List ℕ → Wanted
  recorded : List ℕ → Wanted

-- What the words ask for: the number of threads, the ticks and the items of each thread, the FILE word and the lists.
pub record Asked : Type 0 where
  pub threads : ℕ
  pub budget : ℕ
  pub actions : ℕ
  pub file : Text
  pub wanted : Wanted

-- `--record` is given.
abbrev pub is_true : Option Text → Bool
is_true None = false
is_true (Some text) = bytes_eq text (codes "true")

-- `--record` is among what was found.
abbrev pub wants_record : List Row → Bool
wants_record rows = is_true (first_of (codes "record") rows)

-- Lists from a seed, where no record is asked for: 1,000 from the seed 1 where nothing else is said.
abbrev pub seeded_plan : Bool → Option ℕ → Option ℕ → Option Wanted
seeded_plan true many seed = None
seeded_plan false many seed = Some (seeded (unwrap_or many 1000) (unwrap_or seed 1))

-- Every list, where neither a record nor lists from a seed are asked for.
abbrev pub every_plan : ℕ → Bool → Option ℕ → Option ℕ → Option Wanted
every_plan most recording many seed = cond (recording || is_some many || is_some seed) None (Some (every most))

-- One list, with its record or without.
abbrev pub one_list : Bool → List ℕ → Wanted
one_list true picks = recorded picks
one_list false picks = given picks

-- One list, where no lists from a seed are asked for.
abbrev pub given_plan : Text → Bool → Option ℕ → Option ℕ → Option Wanted
given_plan text recording many seed =
    cond (is_some many || is_some seed) None (option_map (one_list recording) (picks_in text))

-- The lists that are asked for; `--all` and `--picks` exclude each other.
abbrev pub plan_by : Option ℕ → Option Text → Bool → Option ℕ → Option ℕ → Option Wanted
plan_by None None recording many seed = seeded_plan recording many seed
plan_by (Some most) None recording many seed = every_plan most recording many seed
plan_by None (Some text) recording many seed = given_plan text recording many seed
plan_by (Some most) (Some text) recording many seed = None

-- The lists that the values found in the words ask for.
abbrev pub plan_in : List Row → Option Wanted
plan_in rows =
    plan_by (number_in rows (codes "all")) (first_of (codes "picks") rows) (wants_record rows)
    (number_in rows (codes "schedules")) (number_in rows (codes "seed"))

-- What these values ask for, where each that has to be there is.
abbrev pub asked_from : Option ℕ → Option Text → Option Wanted → Option ℕ → Option ℕ → Option Asked
asked_from threads file wanted budget actions = do
  t ← threads
  f ← file
  w ← wanted
  Some (record {
    threads = t;
    budget = unwrap_or budget 100000;
    actions = unwrap_or actions 16384;
    file = f;
    wanted = w;
  })

-- What the values found in the words ask for: 100,000 ticks and 16,384 items where nothing else is said.
abbrev pub asked_by : List Row → Option Asked
asked_by rows =
    asked_from (number_in rows (codes "threads")) (first_of (codes "FILE") rows) (plan_in rows)
    (number_in rows (codes "budget")) (number_in rows (codes "actions"))

-- How many lists of at most so many picks there are, each pick below the number of threads.
abbrev pub lists_count : ℕ → ℕ → ℕ
lists_count threads zero = 1
lists_count threads (suc most) = 1 + threads * lists_count threads most

-- There are at most 100,000 lists, and of every one at most 64 picks are asked for.
abbrev pub IsFit : ℕ → Wanted → Type 0
IsFit threads (seeded many seed) = (1 ≤ many) × (many ≤ 100000)
IsFit threads (every most) = (most ≤ 64) × (lists_count threads most ≤ 100000)
IsFit threads (given picks) = Unit {0}
IsFit threads (recorded picks) = Unit {0}

-- Each value that is asked for lies in its range; all threads together have at most 8,388,608 items.
pub record IsAllowed (a : Asked) : Type 0 where
  pub one_thread : 1 ≤ a.threads
  pub threads : a.threads ≤ 32
  pub one_tick : 1 ≤ a.budget
  pub ticks : a.budget ≤ 1000000000000
  pub one_item : 1 ≤ a.actions
  pub items : a.actions ≤ 8388608
  pub all_items : a.threads * a.actions ≤ 8388608
  pub fit : IsFit a.threads a.wanted

-- The words ask for this: `clap` takes them, these are their values, and they lie in their ranges.
pub record Asks (words : List Text) (a : Asked) : Type 0 where
  pub taken : IsTakenByClap words
  pub values : asked_by (found_in words) ≡ Some a
  pub allowed : IsAllowed a
