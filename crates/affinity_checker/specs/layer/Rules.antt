-- Where `break`, `continue` and `return` may stand (C99 6.8.6.2, 6.8.6.3; UPC 6.6.2).
use Rattle.std.specs.Prelude.{ℕ, Bool, true, false, ◌&&◌, ◌||◌, not, if◌then◌else◌, List, [], ◌∷◌, ◌++◌, Option, Some}
use Rattle.std.specs.Prelude.{None}
use Rattle.upc_text.specs.declared.place.Place.{Place}
use Rattle.upc_text.specs.declared.place.Refusal.{Refusal}
use Rattle.upc_text.specs.declared.place.Code.TheVariants.{Typing}
use Rattle.affinity_checker.specs.declared.around.Around.{Around}

-- What stands around the body of a `while`, `do` or `for`: one loop more, inside the innermost upc_forall if there is
-- one (C99 6.8.5).
abbrev pub in_loop : Around → Around
in_loop a = record { looped = true; switched = a.switched; shared = a.shared; inside = true }

-- What stands around the body of a switch: one switch more, inside the innermost upc_forall if there is one
-- (C99 6.8.4.2).
abbrev pub in_switch : Around → Around
in_switch a = record { looped = a.looped; switched = true; shared = a.shared; inside = true }

-- What stands around the body of a upc_forall: it is a loop, and nothing stands inside it yet (UPC 6.6.2).
abbrev pub in_forall : Around → Around
in_forall a = record { looped = true; switched = a.switched; shared = true; inside = false }

-- Nothing stands around the body of a function (C99 6.9.1).
abbrev pub nothing : Around
nothing = record { looped = false; switched = false; shared = false; inside = false }

-- One refusal, by the typing rule with this number, at this place.
abbrev pub refused : Place → ℕ → List Refusal
refused place rule = record { place = place; code = Typing rule } ∷ []

-- The refusals where the test holds, else none.
abbrev pub where_true : Bool → List Refusal → List Refusal
where_true b rs = if b then rs else []

-- The breaches of a break: of rule 23 outside every loop and switch, of rule 24 where it leaves the body of a
-- upc_forall (C99 6.8.6.3, UPC 6.6.2).
abbrev pub at_break : Around → Place → List Refusal
at_break a place = where_true (not (a.looped || a.switched)) (refused place 23)
    ++ where_true (a.shared && not a.inside) (refused place 24)

-- The breach of a continue: of rule 23 outside every loop (C99 6.8.6.2).
abbrev pub at_continue : Around → Place → List Refusal
at_continue a place = where_true (not a.looped) (refused place 23)

-- The breach of a return: of rule 24 where it leaves the body of a upc_forall (C99 6.8.6.4, UPC 6.6.2).
abbrev pub at_return : Around → Place → List Refusal
at_return a place = where_true a.shared (refused place 24)

-- The first of some refusals, if there is one.
abbrev pub first : List Refusal → Option Refusal
first [] = None
first (r ∷ rs) = Some r
