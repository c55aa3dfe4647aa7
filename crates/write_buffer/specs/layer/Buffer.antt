-- What a write buffer holds: relaxed writes that other threads do not see yet (UPC 5.1.2.3), oldest first.
use Rattle.std.specs.Prelude.{ℕ, ◌≡◌, ◌+◌, Bool, true, false, cond, List, [], ◌∷◌, map, Option, Some, None, is_some}
use Rattle.std.specs.Option.{option_or}
use Rattle.block_layout.specs.declared.place.Loc.{Loc}
use Rattle.upc_values.specs.declared.action.Action.TheVariants.{Write}
use Rattle.upc_values.specs.declared.action.Reply.TheVariants.{Done}
use Rattle.upc_values.specs.declared.journal.Entry.{Entry}
use Rattle.upc_values.specs.Lists.{Each}
use Rattle.upc_values.specs.Scalars.{same_loc}
use Rattle.upc_values.specs.Drain.{entry_of}
use Rattle.write_buffer.specs.declared.pending.Pending.{Pending}

-- The youngest pending write of the location, if there is one.
abbrev pub youngest : Loc → List Pending → Option Pending
youngest l [] = None
youngest l (p ∷ ps) = option_or (youngest l ps) (cond (same_loc p.loc l) (Some p) None)

-- The entry of thread t that a pending write becomes when it is committed.
abbrev pub committed : ℕ → Pending → Entry
committed t p = entry_of t p.index (Write Bool.false p.loc p.value) Done

-- The write stands in the place of the youngest pending write of its location.
abbrev pub replaced : Pending → List Pending → List Pending
replaced q [] = []
replaced q (p ∷ ps) = cond (is_some (youngest q.loc ps)) (p ∷ replaced q ps) (q ∷ ps)

-- One place further, where there is one; else the first, where the test holds.
abbrev pub after_first : Option ℕ → Bool → Option ℕ
after_first (Some k) b = Some (k + 1)
after_first None true = Some 0
after_first None false = None

-- The place of the youngest pending write of the location.
abbrev pub last_place : Loc → List Pending → Option ℕ
last_place l [] = None
last_place l (p ∷ ps) = after_first (last_place l ps) (same_loc p.loc l)

-- No two of the locations are one.
abbrev pub AreDifferent : List Loc → Type 0
AreDifferent [] = Unit {0}
AreDifferent (l ∷ ls) = Each (λ k. same_loc k l ≡ false) ls × AreDifferent ls

-- No two of the writes have one location.
abbrev pub AreApart : List Pending → Type 0
AreApart ps = AreDifferent (map (λ p. p.loc) ps)
