use Rattle.std.proofs.Common.{◌∷◌, ◌++◌, [], sym, ap, ◌∙◌, subst}
use Rattle.replica_space_marks.specs.layer.Index.{marks_at}
use Rattle.replica_space_rows.specs.layer.Rows.{with_member}
use Rattle.replica_space_rows.specs.code.Places.{placed_all, ArePlaced}
use Rattle.replica_space_rows.proofs.Opening.{placed-same}
use Rattle.replica_space_rows.proofs.Steps.{found-row, found-list, end-row, end-list}
use Rattle.replica_space_rows.proofs.row.Row.put.Goals as goal

pub invariant_of-self-in-Some : goal.invariant_of-self-in-Some
invariant_of-self-in-Some c =
    let i = c.self.inside in
    found-row i.members.items c.push.new.self.items i.slots (marks_at i.index) c.self.invariant c.args.message.now c.find.result c.find.ensures c.in-Some.slot c.in-Some.is
    (c.in_ok-push.ensures.items ∙ ap (λ y. i.members.items ++ record { member = y; slot = c.in-Some.slot } ∷ []) c.member_of-member.ensures)

pub returns-in-Some : goal.returns-in-Some
returns-in-Some c =
    let i = c.self.inside in
    found-list i.members.items c.push.new.self.items i.slots (marks_at i.index) c.self.invariant c.args.message.now c.find.result c.find.ensures c.in-Some.slot c.in-Some.is
    (c.in_ok-push.ensures.items ∙ ap (λ y. i.members.items ++ record { member = y; slot = c.in-Some.slot } ∷ []) c.member_of-member.ensures)
    ∙ ap (with_member c.args.message.now) c.self.view_is

pub invariant_of-self-in_err-add : goal.invariant_of-self-in_err-add
invariant_of-self-in_err-add c =
    let i = c.self.inside in
    placed-same (placed_all c.reserve.new.self.items) i.slots (marks_at i.index)
    (subst (λ l. ArePlaced (placed_all l) i.slots (marks_at i.index)) (sym c.reserve.ensures.items) c.self.invariant)
    (marks_at c.add.new.self) c.in_err-add.ensures.kept

pub invariant_of-self-2 : goal.invariant_of-self-2
invariant_of-self-2 c =
    let i = c.self.inside in
    end-row i.members.items c.push_reserved.new.self.items i.slots (marks_at i.index) c.self.invariant c.args.message.now c.find.result c.find.ensures c.in_default.is
    (c.push_reserved.ensures.items ∙ ap (λ l. l ++ record { member = c.member_of-member.result; slot = i.slots } ∷ []) c.reserve.ensures.items
    ∙ ap (λ y. i.members.items ++ record { member = y; slot = i.slots } ∷ []) c.member_of-member.ensures)
    (marks_at c.add.new.self) c.in_ok-add.ensures.added

pub returns : goal.returns
returns c =
    let i = c.self.inside in
    end-list i.members.items c.push_reserved.new.self.items i.slots (marks_at i.index) c.self.invariant c.args.message.now c.find.result c.find.ensures c.in_default.is
    (c.push_reserved.ensures.items ∙ ap (λ l. l ++ record { member = c.member_of-member.result; slot = i.slots } ∷ []) c.reserve.ensures.items
    ∙ ap (λ y. i.members.items ++ record { member = y; slot = i.slots } ∷ []) c.member_of-member.ensures)
    (marks_at c.add.new.self) c.in_ok-add.ensures.added
    ∙ ap (with_member c.args.message.now) c.self.view_is
