use Rattle.std.proofs.Common.{rules, ◌≡◌, ◌+◌, ◌++◌, [], ◌∷◌, Some, None, true, sym, subst, ap, ◌∙◌, inl}
use Rattle.upc_values.specs.declared.record.Item.TheVariants.{Did}
use Rattle.upc_values.specs.Records.{is_beat, is_beat_item, last_item}
use Rattle.upc_values.proofs.Records.{last-push}
use Rattle.stack_machine.specs.declared.wish.Wish.TheVariants.{Act}
use Rattle.upc_task.specs.declared.recorder.Recorder.{Recorder}
use Rattle.upc_task.specs.layer.Recorded.{IsRecorded, Paused}
use Rattle.upc_task.proofs.Recorders.{recorded-did}
use Rattle.upc_task.proofs.recorder.Recorder.did.Goals as goal
use Rattle.upc_task.proofs.recorder.Recorder.did.Goals.{then-is_beat, else-is_beat}

pub returns-clause-recorded : goal.returns-clause-recorded
returns-clause-recorded g c = λ o p f h suits.
    let k = c.args.self.now in let a = c.in-Some-Act.action in let r = c.args.reply in let xs = c.push_reserved.new.self in
    let wants : k.wish ≡ Some (Act a) = search rules in
    let is : xs.items ≡ k.items.items ++ Did a r ∷ [] = search rules in
    let y : Recorder g.row.B.Denot = record k { items = xs; next = k.next + 1; answer = Some r; wish = None } in
    subst (λ w. let x : Recorder g.row.B.Denot = record y { wish = w } in IsRecorded o p f x) (sym c.in-Some-Act.ensures.after)
    (recorded-did o p f k xs a r h c.requires.«open» wants c.requires.few suits is)

pub returns-clause-pause : goal.returns-clause-pause
returns-clause-pause g c =
    let k = c.args.self.now in let a = c.in-Some-Act.action in let r = c.args.reply in let xs = c.push_reserved.new.self in
    let z : Recorder g.row.B.Denot = record k { items = xs; next = k.next + 1; answer = Some r; wish = c.take.new.self } in
    elim c.if-is_beat.branch [
      | then-is_beat w ↦
          let is : xs.items ≡ k.items.items ++ Did a r ∷ [] = search rules in
          let b : is_beat a ≡ true = sym c.is_beat.ensures ∙ w.if-is_beat.true in
          subst (λ q. Paused q z) (sym w.pause-is)
          (c.requires.«open», inl (ap is_beat_item (ap last_item is ∙ last-push k.items.items (Did a r)) ∙ b, c.in-Some-Act.ensures.after))
      | else-is_beat w ↦ subst (λ q. Paused q z) (sym w.pause-is) c.requires.«open»
    ]
