use Rattle.std.proofs.Common.{None, sym, ap, ◌∙◌, subst}
use Rattle.std.specs.HashMap.{get}
use Rattle.replica_space_orders.specs.layer.Finding.{Ascend}
use Rattle.replica_space_marks.specs.layer.Marks.{IsFound}
use Rattle.replica_space_marks.specs.layer.Index.{same_key, marks_or_none, marks_at}
use Rattle.replica_space_marks.proofs.Keys.{none-found}
use Rattle.replica_space_marks.proofs.index.Index.find.Goals as goal

pub find-requires : goal.find-requires
unfolding marks_at
find-requires c =
    subst (λ m. Ascend m.stamps)
    (ap (λ z. marks_or_none (get same_key c.args.self.now.map z)) (sym c.key_of.ensures) ∙ ap marks_or_none (sym c.in-Some.ensures.value)) c.requires

pub returns-in-Some : goal.returns-in-Some
unfolding marks_at
returns-in-Some c =
    subst (λ m. IsFound m c.args.stamp.now c.find.result)
    (ap marks_or_none c.in-Some.ensures.value ∙ ap (λ z. marks_or_none (get same_key c.args.self.now.map z)) c.key_of.ensures) c.find.ensures

pub returns-in-None : goal.returns-in-None
unfolding marks_at
returns-in-None c =
    subst (λ m. IsFound m c.args.stamp.now None)
    (ap marks_or_none c.in-None.ensures.value ∙ ap (λ z. marks_or_none (get same_key c.args.self.now.map z)) c.key_of.ensures)
    (none-found c.args.stamp.now)
