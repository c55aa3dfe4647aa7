-- Where the last item of a record is a Stall, the thread wants a Lock or a Wait.
use Rattle.std.proofs.Common.{◌≡◌, ℕ, true, List, [], ◌∷◌, Option, Some, ap, subst}
use Rattle.std.proofs.lemmas.Bool.{false≢true}
use Rattle.upc_values.specs.declared.action.Action.{Action}
use Rattle.upc_values.specs.declared.record.Item.{Item}
use Rattle.upc_values.specs.declared.record.Item.TheVariants.{Did, Stall}
use Rattle.upc_values.specs.declared.record.ToldEnd.{ToldEnd}
use Rattle.upc_values.specs.declared.record.End.{End}
use Rattle.upc_values.specs.declared.record.End.TheVariants.{Deadlocked}
use Rattle.upc_values.specs.Records.{last_from, last_item, is_stall}
use Rattle.upc_values.specs.Outcomes.{wanted}
use Rattle.upc_values.specs.Strands.{MayWait, StallsStand}
use Rattle.upc_values.specs.Ends.{OwnEnd}
use Rattle.upc_verify_history.specs.code.Waiting.{MayWaitAt}

stand-rest : (want : Option Action) (x : Item) (xs : List Item) → StallsStand want (x ∷ xs) → StallsStand want xs
stand-rest want (Did a r) xs h = h
stand-rest want Stall xs h = h.2

last-wants : (want : Option Action) (x : Item) (xs : List Item) → StallsStand want (x ∷ xs)
    → is_stall (last_from (Some x) xs) ≡ true → MayWait want
last-wants want (Did a r) [] h s = absurd (false≢true s)
last-wants want Stall [] h s = h.1
last-wants want x (y ∷ ys) h s = last-wants want y ys (stand-rest want x (y ∷ ys) h) s

stall-wants : (want : Option Action) (items : List Item) → StallsStand want items → is_stall (last_item items) ≡ true → MayWait want
stall-wants want [] h s = absurd (false≢true s)
stall-wants want (x ∷ xs) h s = last-wants want x xs h s

-- so a deadlocked thread does
pub own-waits : (actions : ℕ) (e : ToldEnd) (items : List Item) (end : End) → OwnEnd actions e items end
    → StallsStand (wanted e) items → MayWaitAt end
own-waits actions e items (Deadlocked a) own h =
    subst MayWait (ap wanted own.0) (stall-wants (wanted e) items h own.1)
own-waits actions e items end own h = tt
