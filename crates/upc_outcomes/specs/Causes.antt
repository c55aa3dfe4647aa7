-- The causes of the verdicts of the top call.
use Rattle.std.specs.Prelude.{ℕ, ◌≡◌, true, false, List, length, map}
use Rattle.upc_text.specs.Outside.{Rose, IsLonger}
use Rattle.upc_values.specs.declared.journal.Journal.{Journal}
use Rattle.upc_values.specs.declared.order.Orders.{Orders}
use Rattle.typed_tree.specs.Programs.{Checked}
use Rattle.upc_task.specs.declared.limits.Limits.{Limits}
use Rattle.program_runs.specs.Picked.{IsRunByPicks}
use Rattle.order_builder.specs.Named.{orders_of}
use Rattle.run_recorder_text.specs.Short.{HasText, is_short}
use Rattle.upc_top.specs.Sources.{IsAccepted, IsRefused}
use Rattle.upc_top.specs.Verdicts.{Reading, IsFile}
use Rattle.outcomes.specs.Tally.{Listed, listed}
use Rattle.outcomes.specs.Found.{IsFound}
use Rattle.upc_outcomes_words.specs.Values.{Asked, Asks, recorded}
use Rattle.upc_outcomes.specs.declared.verdict.Verdict.{Verdict}
use Rattle.upc_outcomes.specs.declared.verdict.Verdict.TheVariants.{Usage, ReadFault, TooLong, Refused, Found, Recorded}
use Rattle.upc_outcomes.specs.declared.verdict.Verdict.TheVariants.{Overlong, NoMemory}
use Rattle.upc_outcomes.specs.Plans.{IsPlanned, is_listing}

-- What a run is limited to by what was asked for.
abbrev pub limits_of : Asked → Limits
limits_of a = record { threads = a.threads; budget = a.budget; actions = a.actions }

-- What runs show was asked for, the bytes are accepted as a program, there are the lists of picks that were asked for,
-- so many of them, and the list says what the program's runs by them show, within what was asked for.
pub record FoundFrom (a : Asked) (bytes : List ℕ) (many : ℕ) (list : List Listed) : Type 0 where
  pub listing : is_listing a.wanted ≡ true
  pub checked : Checked
  pub accepted : IsAccepted a.threads bytes checked
  pub schedules : List (List ℕ)
  pub planned : IsPlanned a.wanted a.threads schedules
  pub counted : many ≡ length schedules
  pub found : IsFound checked (limits_of a) schedules list

-- The record of the run by one list of picks was asked for, the bytes are accepted as a program, and the journal is of
-- such a run of it, within what was asked for.
pub record RanBy (a : Asked) (bytes : List ℕ) (j : Journal) : Type 0 where
  pub picks : List ℕ
  pub wanted : a.wanted ≡ recorded picks
  pub checked : Checked
  pub accepted : IsAccepted a.threads bytes checked
  pub run : IsRunByPicks checked (limits_of a) picks j

-- Such a run, and its orders, with which it has a text.
pub record RecordedFrom (a : Asked) (bytes : List ℕ) (j : Journal) (o : Orders) : Type 0 where
  pub run : RanBy a bytes j
  pub orders : o ≡ orders_of j
  pub has : HasText j o

-- Such a run that is too long for a text.
pub record OverlongFrom (a : Asked) (bytes : List ℕ) : Type 0 where
  pub journal : Journal
  pub run : RanBy a bytes journal
  pub long : is_short journal ≡ false

-- What each verdict says of the bytes of a source that was read whole.
abbrev pub ComesFrom : Asked → List ℕ → Verdict → Type 0
ComesFrom a bytes (Refused r) = IsRefused a.threads bytes r
ComesFrom a bytes (Found many rows) = FoundFrom a bytes many (map listed rows.items)
ComesFrom a bytes (Recorded j o) = RecordedFrom a bytes j o
ComesFrom a bytes Overlong = OverlongFrom a bytes
ComesFrom a bytes NoMemory = Unit {0}
ComesFrom a bytes v = ⊥

-- The words were taken, and P holds of what they ask for.
pub record Taken (words : List (List ℕ)) (P : Asked → Type 0) : Type 0 where
  pub asked : Asked
  pub asks : Asks words asked
  pub holds : P asked

-- These are the bytes of the file, and P holds of them.
pub record Holds (r : Reading) (file : List ℕ) (P : List ℕ → Type 0) : Type 0 where
  pub bytes : List ℕ
  pub source : IsFile (r.told file) bytes
  pub holds : P bytes

-- The cause of a verdict; want of memory needs none.
abbrev pub Caused : List (List ℕ) → Reading → Verdict → Type 0
Caused words r Usage = (a : Asked) → Asks words a → ⊥
Caused words r ReadFault = Taken words (λ a. Rose (r.before a.file) (r.after a.file))
Caused words r TooLong = Taken words (λ a. IsLonger (r.told a.file) 1048576)
Caused words r NoMemory = Unit {0}
Caused words r v = Taken words (λ a. Holds r a.file (λ bytes. ComesFrom a bytes v))
