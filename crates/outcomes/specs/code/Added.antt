-- A list of what runs show, with one run more.
use Rattle.std.specs.Prelude.{◌+◌, List, [], ◌∷◌, length, cond, nat_lt}
use Rattle.outcomes.specs.Tally.{Listed, is_same}

-- What is listed, where one run more shows it: the shorter one of the two lists of picks stays.
abbrev pub merged : Listed → Listed → Listed
merged new l =
    record {
      count = l.count + 1;
      picks = cond (nat_lt (length new.picks) (length l.picks)) new.picks l.picks;
      shown = l.shown;
    }

-- The list with what a run shows: merged with the first that shows it, else at the end.
abbrev pub added : Listed → List Listed → List Listed
added new [] = new ∷ []
added new (l ∷ list) = cond (is_same l.shown new.shown) (merged new l ∷ list) (l ∷ added new list)
