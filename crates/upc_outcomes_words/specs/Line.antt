-- The command line of the second program, as `clap` reads it: `outcomes -T n [--budget n] [--actions n] [--schedules k]
-- [--seed s] [--all n] [--picks LIST] [--record] FILE`.
use Rattle.std.specs.Prelude.{◌≡◌, ◌-◌, ◌^◌, ℕ, true, List, [], Some, codes}
use Rattle.clap.specs.Words.{App, Row, Rule, Text, matches_of, new_app, new_rule, with_rule}
use Rattle.clap.specs.Faults.{fault_of}
use Rattle.clap.specs.Simple.{on_top}
use Rattle.clap.specs.declared.builder.action.ArgAction.TheVariants.{Set, SetTrue}
use Rattle.clap.specs.declared.builder.value_parser.ValueParser.TheVariants.{Unsigned}
use Rattle.upc_top_words.specs.Line.{word_rule, threads_rule}

-- The rule of an option `--NAME n` that is a number from `least` to `most`.
abbrev pub range_rule : Text → ℕ → ℕ → Rule
range_rule id least most =
    record (new_rule id) { long = Some id; action = Some Set; parser = Some (Unsigned least most) }

-- The rule of `--picks LIST`, one list of picks.
abbrev pub picks_rule : Rule
picks_rule = record (new_rule (codes "picks")) { long = Some (codes "picks"); action = Some Set }

-- The rule of `--record`, a flag.
abbrev pub record_rule : Rule
record_rule = record (new_rule (codes "record")) { long = Some (codes "record"); action = Some SetTrue }

-- The command `outcomes`, which is given the words after the program's name and has no flag for help or a version.
abbrev pub bare_app : App
bare_app =
    on_top (λ s. record s { no_binary_name = true; disable_help_flag = true; disable_version_flag = true })
    (new_app (codes "outcomes"))

-- The command with the threads and what a run is limited to.
abbrev pub counted_app : App
counted_app =
    with_rule
    (with_rule (with_rule bare_app threads_rule) (range_rule (codes "budget") 1 1000000000000))
    (range_rule (codes "actions") 1 8388608)

-- The command with how many lists of picks there are, from which seed, or of which length all.
abbrev pub chosen_app : App
chosen_app =
    with_rule
    (with_rule
    (with_rule counted_app (range_rule (codes "schedules") 1 100000))
    (range_rule (codes "seed") 0 (2 ^ 64 - 1)))
    (range_rule (codes "all") 0 64)

-- The whole command.
abbrev pub outcomes_app : App
outcomes_app = with_rule (with_rule (with_rule chosen_app picks_rule) record_rule) (word_rule (codes "FILE"))

-- `clap` takes the words.
abbrev pub IsTakenByClap : List Text → Type 0
IsTakenByClap words = fault_of outcomes_app words ≡ []

-- What `clap` finds in the words: for each name, the texts that were given for it.
abbrev pub found_in : List Text → List Row
found_in words = matches_of outcomes_app words
