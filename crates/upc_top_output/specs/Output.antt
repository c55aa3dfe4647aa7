-- What a journal's run writes, its status, and the line of a status.
use Rattle.std.specs.Prelude.{ℕ, ℤ, pos, negsuc, ◌+◌, nat_lt, Bool, true, false, cond, List, [], ◌∷◌, ◌++◌, Option}
use Rattle.std.specs.Prelude.{Some, None, codes, decimal}
use Rattle.std.specs.List.{flat_map, list_all}
use Rattle.upc_text.specs.declared.place.Place.{Place}
use Rattle.upc_text.specs.declared.place.Code.{Code}
use Rattle.upc_text.specs.declared.place.Code.TheVariants.{Lex, Directive, Profile, Syntax, Typing, Limit}
use Rattle.upc_text.specs.declared.place.Refusal.{Refusal}
use Rattle.upc_values.specs.declared.action.Action.{Action}
use Rattle.upc_values.specs.declared.action.Action.TheVariants.{Print}
use Rattle.upc_values.specs.declared.record.End.{End}
use Rattle.upc_values.specs.declared.record.End.TheVariants.{Ended, Fault, Budget, ActionsFull, Exit}
use Rattle.upc_values.specs.declared.journal.Entry.{Entry}
use Rattle.upc_values.specs.declared.journal.Strand.{Strand}
use Rattle.upc_values.specs.declared.journal.Journal.{Journal}
use Rattle.upc_values.specs.Ends.{stops}

-- The text of a Print; any other action has none.
abbrev pub printed : Action → List ℕ
printed (Print text) = text
printed a = []

-- The texts of all Prints, in the order of the history.
abbrev pub output : List Entry → List ℕ
output history = flat_map (λ e. printed e.action) history

-- A value as a status: itself from 0 to 99, else 99.
abbrev pub clipped : ℤ → ℕ
clipped (pos n) = cond (nat_lt n 100) n 99
clipped (negsuc n) = 99

-- A thread and its end.
pub record Ending : Type 0 where
  pub thread : ℕ
  pub «end» : End

-- The lowest thread whose end ends the run, with that end.
abbrev pub first_stop : ℕ → List Strand → Option Ending
first_stop t [] = None
first_stop t (s ∷ strands) =
    cond (stops s.«end») (Some record { thread = t; «end» = s.«end» }) (first_stop (t + 1) strands)

-- The end is Ended.
abbrev pub is_ended : End → Bool
is_ended (Ended v) = true
is_ended e = false

-- All threads are Ended.
abbrev pub all_ended : List Strand → Bool
all_ended strands = list_all (λ s. is_ended s.«end») strands

-- What the main of thread 0 returned; 0 where thread 0 is not Ended.
abbrev pub first_value : List Strand → ℤ
first_value (s ∷ strands) = elim s.«end» [ Ended v ↦ v | _ ↦ pos 0 ]
first_value [] = pos 0

-- The status of an end that ends the run.
abbrev pub stop_status : End → ℕ
stop_status (Fault c p) = 105
stop_status Budget = 107
stop_status ActionsFull = 108
stop_status (Exit v) = clipped v
stop_status e = 106

-- The status of a run by the end that ends it, if there is one: without one it is the value of thread 0 where all are
-- Ended, else 106.
abbrev pub status_by : Option Ending → List Strand → ℕ
status_by (Some s) strands = stop_status s.«end»
status_by None strands = cond (all_ended strands) (clipped (first_value strands)) 106

-- The status of a journal: where some end ends the run, that of the lowest such thread decides; else where all are
-- Ended, the value of thread 0; else the run is deadlocked.
abbrev pub status_of : Journal → ℕ
status_of j = status_by (first_stop 0 j.strands) j.strands

-- A place as its line, a colon and its column, in decimal.
abbrev pub place_text : Place → List ℕ
place_text p = decimal p.line ++ codes ":" ++ decimal p.column

-- The code of a refusal in words.
abbrev pub code_text : Code → List ℕ
code_text Lex = codes "lex"
code_text Directive = codes "directive"
code_text (Profile n) = codes "profile " ++ decimal n
code_text Syntax = codes "syntax"
code_text (Typing n) = codes "typing " ++ decimal n
code_text (Limit n) = codes "limit " ++ decimal n

-- The line of a refused source.
abbrev pub refusal_line : Refusal → List ℕ
refusal_line r = codes "upc: refused at " ++ place_text r.place ++ codes ": " ++ code_text r.code ++ codes "\n"

-- The line of a record that is no run's text, with the place where that shows.
abbrev pub bad_record_line : Place → List ℕ
bad_record_line p = codes "upc: bad record at " ++ place_text p ++ codes "\n"

-- The line of a record that is not sound, with the part that fails and the thread of which it does.
abbrev pub broken_line : (part thread : ℕ) → List ℕ
broken_line part thread =
    codes "upc: not sound: part " ++ decimal part ++ codes " on thread " ++ decimal thread ++ codes "\n"

-- The line of an end that ends the run.
abbrev pub stop_line : ℕ → End → List ℕ
stop_line t (Fault c p) =
    codes "upc: run error E" ++ decimal c ++ codes " at " ++ place_text p ++ codes " on thread " ++ decimal t
    ++ codes "\n"
stop_line t Budget = codes "upc: budget on thread " ++ decimal t ++ codes "\n"
stop_line t ActionsFull = codes "upc: actions full on thread " ++ decimal t ++ codes "\n"
stop_line t e = []

-- The line of a run by the end that ends it, if there is one: without one it is empty where all are Ended, else that of
-- a deadlock.
abbrev pub line_by : Option Ending → List Strand → List ℕ
line_by (Some s) strands = stop_line s.thread s.«end»
line_by None strands = cond (all_ended strands) [] (codes "upc: deadlock\n")

-- The line of a journal's status.
abbrev pub run_line : Journal → List ℕ
run_line j = line_by (first_stop 0 j.strands) j.strands
