-- The command line `upc MODE -T n [--budget n] [--actions n] FILE [RECORD]`, as `clap` reads it.
use Rattle.std.specs.Prelude.{◌≡◌, ℕ, true, List, [], ◌∷◌, Some, codes}
use Rattle.clap.specs.Words.{App, Row, Rule, Text, matches_of, new_app, new_rule, with_rule}
use Rattle.clap.specs.Faults.{fault_of}
use Rattle.clap.specs.Simple.{on_top}
use Rattle.clap.specs.declared.builder.action.ArgAction.TheVariants.{Set}
use Rattle.clap.specs.declared.builder.value_parser.ValueParser.TheVariants.{Unsigned}

-- The rule of a word that has to be there, known by its place.
abbrev pub word_rule : Text → Rule
word_rule id = record (new_rule id) { required = true; action = Some Set }

-- The rule of the word that may stand after all others.
abbrev pub record_rule : Rule
record_rule = record (new_rule (codes "RECORD")) { action = Some Set }

-- The rule of an option that is a number from 1 to `most`.
abbrev pub number_rule : Text → ℕ → Rule
number_rule id most = record (new_rule id) { action = Some Set; parser = Some (Unsigned 1 most) }

-- The rule of `-T n`, the number of threads, which has to be there.
abbrev pub threads_rule : Rule
threads_rule = record (number_rule (codes "threads") 32) { short = Some 84; required = true }

-- The rule of `--budget n`, the ticks that each thread is allowed.
abbrev pub budget_rule : Rule
budget_rule =
    record (number_rule (codes "budget") 1000000000000) {
      long = Some (codes "budget");
      defaults = codes "100000000" ∷ [];
    }

-- The rule of `--actions n`, the items that each thread's record may have.
abbrev pub actions_rule : Rule
actions_rule = record (number_rule (codes "actions") 8388608) { long = Some (codes "actions") }

-- The command `upc`, which is given the words after the program's name and has no flag for help or a version.
abbrev pub bare_app : App
bare_app =
    on_top (λ s. record s { no_binary_name = true; disable_help_flag = true; disable_version_flag = true })
    (new_app (codes "upc"))

-- The command `upc MODE -T n [--budget n] [--actions n] FILE [RECORD]`.
abbrev pub upc_app : App
upc_app =
    with_rule
    (with_rule
    (with_rule
    (with_rule (with_rule (with_rule bare_app (word_rule (codes "MODE"))) threads_rule) budget_rule)
    actions_rule)
    (word_rule (codes "FILE")))
    record_rule

-- `clap` takes the words.
abbrev pub IsTakenByClap : List Text → Type 0
IsTakenByClap words = fault_of upc_app words ≡ []

-- What `clap` finds in the words: for each name, the texts that were given for it.
abbrev pub found_in : List Text → List Row
found_in words = matches_of upc_app words
