use Rattle.std.proofs.Common.{rules, ◌≡◌, ◌++◌, [], ◌∷◌, false, is_some, refl, ap, ◌∙◌, inr}
use Rattle.upc_values.specs.declared.record.Item.TheVariants.{Stall}
use Rattle.upc_values.specs.Records.{is_stall, last_item}
use Rattle.upc_values.proofs.Records.{last-push}
use Rattle.upc_task.proofs.Recorders.{recorded-stall}
use Rattle.upc_task.proofs.recorder.Recorder.stall.Goals as goal

pub returns-then-not-ends_with_stall-clause-recorded : goal.returns-then-not-ends_with_stall-clause-recorded
returns-then-not-ends_with_stall-clause-recorded g c = λ o p f a h wants waits.
    let k = c.args.self.now in let xs = c.push_reserved.new.self in
    let is : xs.items ≡ k.items.items ++ Stall ∷ [] = search rules in
    let still : is_stall (last_item k.items.items) ≡ false = search rules in
    recorded-stall o p f k xs a h c.requires.«open» wants c.requires.few waits still is

pub returns-then-not-ends_with_stall-clause-last : goal.returns-then-not-ends_with_stall-clause-last
returns-then-not-ends_with_stall-clause-last g c =
    let k = c.args.self.now in
    let is : c.push_reserved.new.self.items ≡ k.items.items ++ Stall ∷ [] = search rules in
    ap is_stall (ap last_item is ∙ last-push k.items.items Stall)

pub returns-then-not-ends_with_stall-clause-pause : goal.returns-then-not-ends_with_stall-clause-pause
returns-then-not-ends_with_stall-clause-pause g c =
    let k = c.args.self.now in
    let is : c.push_reserved.new.self.items ≡ k.items.items ++ Stall ∷ [] = search rules in
    (refl, (c.requires.«open», inr (ap is_stall (ap last_item is ∙ last-push k.items.items Stall), ap is_some c.requires.wants.1)))
