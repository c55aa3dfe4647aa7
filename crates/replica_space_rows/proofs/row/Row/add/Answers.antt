use Rattle.std.proofs.Common.{◌∷◌, ◌++◌, [], refl, ap, ◌∙◌}
use Rattle.replica_space_marks.specs.layer.Index.{marks_at}
use Rattle.replica_space_rows.specs.layer.Rows.{other}
use Rattle.replica_space_rows.proofs.Steps.{added-placed, added-members}
use Rattle.replica_space_rows.proofs.row.Row.add.Goals as goal

pub invariant_of-self-2 : goal.invariant_of-self-2
invariant_of-self-2 c =
    let i = c.self.inside in
    added-placed i.members.items c.push.new.self.items i.slots (marks_at i.index) c.self.invariant (other c.args.thread c.args.index c.args.write) refl
    c.in_ok-push.ensures.items

pub returns : goal.returns
returns c =
    let i = c.self.inside in
    added-members i.members.items c.push.new.self.items i.slots (marks_at i.index) c.self.invariant (other c.args.thread c.args.index c.args.write)
    c.in_ok-push.ensures.items
    ∙ ap (λ l. l ++ other c.args.thread c.args.index c.args.write ∷ []) c.self.view_is
