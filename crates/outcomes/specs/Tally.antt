-- What runs of a program show, and the list of it with how often each came.
use Rattle.std.specs.Prelude.{ℕ, ◌≡◌, ◌==◌, ◌&&◌, Bool, false, List, length, map}
use Rattle.std.specs.List.{count_by, sum_by}
use Rattle.std.specs.Str.{bytes_eq}
use Rattle.upc_values.specs.declared.journal.Journal.{Journal}
use Rattle.upc_values.specs.Lists.{Each, Has, Pairwise}
use Rattle.upc_top_output.specs.Output.{output, status_of, run_line}
use Rattle.outcomes.specs.declared.row.Row.{Row}

-- What a run shows: its status, what it prints, and its line on the error output.
pub record Shown : Type 0 where
  pub status : ℕ
  pub text : List ℕ
  pub line : List ℕ

-- What the run of a journal shows.
abbrev pub shown_by : Journal → Shown
shown_by j = record { status = status_of j; text = output j.history; line = run_line j }

-- Whether two runs show the same.
abbrev pub is_same : Shown → Shown → Bool
is_same a b = a.status == b.status && (bytes_eq a.text b.text && bytes_eq a.line b.line)

-- A run: the picks that it went by, and its journal.
pub record Trial : Type 0 where
  pub picks : List ℕ
  pub journal : Journal

-- What a run shows, by its journal.
abbrev pub shows : Trial → Shown
shows t = shown_by t.journal

-- What is listed: what runs show, how many do, and the picks of one of these.
pub record Listed : Type 0 where
  pub count : ℕ
  pub picks : List ℕ
  pub shown : Shown

-- What a row of the program lists.
abbrev pub listed : Row → Listed
listed row =
    record {
      count = row.count;
      picks = row.picks.items;
      shown = record { status = row.status; text = row.text.items; line = row.line.items };
    }

-- Among the runs is one by the listed picks, and it shows what is listed.
pub record IsGivenBy (trials : List Trial) (l : Listed) : Type 0 where
  pub trial : Trial
  pub among : Has trials trial
  pub picks : trial.picks ≡ l.picks
  pub shown : shows trial ≡ l.shown

-- How many of the runs show this.
abbrev pub how_many : List Trial → Shown → ℕ
how_many trials shown = count_by (λ t. is_same shown (shows t)) trials

-- The list says what the runs show: no two of its members show the same, each shows what some run by its picks shows,
-- its count is that of all runs which show it, what each run shows is listed, and the counts sum to the number of runs.
pub record IsTally (trials : List Trial) (list : List Listed) : Type 0 where
  pub distinct : Pairwise (λ a b. is_same a.shown b.shown ≡ false) list
  pub given : Each (IsGivenBy trials) list
  pub counts : Each (λ l. l.count ≡ how_many trials l.shown) list
  pub complete : Each (λ t. Has (map (λ l. l.shown) list) (shows t)) trials
  pub sum : sum_by (λ l. l.count) list ≡ length trials
