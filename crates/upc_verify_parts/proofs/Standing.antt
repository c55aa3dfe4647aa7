-- Stalls that stand where they may, one item after another.
use Rattle.std.proofs.Common.{◌≡◌, ◌↔◌, Bool, true, false, List, [], ◌∷◌, Option, Some, refl, sym}
use Rattle.std.proofs.lemmas.Bool.{false≢true}
use Rattle.upc_values.specs.declared.action.Action.{Action}
use Rattle.upc_values.specs.declared.record.Item.{Item}
use Rattle.upc_values.specs.declared.record.Item.TheVariants.{Did, Stall}
use Rattle.upc_values.specs.Records.{is_stall}
use Rattle.upc_values.specs.Strands.{MayWait}
use Rattle.upc_verify_parts.specs.code.Stalls.{FollowsStall, StandFrom}

-- one more item, which may follow a Stall where one is before it
pub stand-next : (b : Bool) (want : Option Action) (x : Item) (xs : List Item) → (b ≡ true → FollowsStall x)
    → StandFrom (is_stall (Some x)) want xs ↔ StandFrom b want (x ∷ xs)
stand-next false want Stall xs h = (λ k. k, λ k. k)
stand-next false want (Did a r) xs h = (λ k. k, λ k. k)
stand-next true want Stall xs h = absurd (h refl)
stand-next true want (Did a r) xs h = (λ k. (refl, h refl, k), λ k. k.2)

-- an item after a Stall may follow it
pub stand-first : (want : Option Action) (x : Item) (xs : List Item) → StandFrom true want (x ∷ xs) → FollowsStall x
stand-first want Stall xs k = false≢true (sym k.0)
stand-first want (Did a r) xs k = k.1

-- a Stall is last where what is wanted may wait
pub stand-last : (want : Option Action) → MayWait want ↔ StandFrom true want []
stand-last want = (λ h. (refl, h, tt), λ k. k.1)
