use Rattle.std.proofs.Common.{◌≡◌, cond, Option, Some, refl, ap, ◌∙◌, subst}
use Rattle.std.specs.HashMap.{get}
use Rattle.std.specs.Map.{lookup}
use Rattle.std.specs.Option.{IsSome}
use Rattle.std.proofs.lemmas.Result.{on_ok_weaker, on_err_weaker}
use Rattle.block_layout.specs.declared.place.Loc.{Loc}
use Rattle.replica_space_marks.specs.layer.Marks.{MarksState, with_mark}
use Rattle.replica_space_marks.specs.layer.Index.{key_of, same_key, marks_or_none, marks_at}
use Rattle.replica_space_marks.proofs.Keys.{always, marked, unmarked}
use Rattle.replica_space_marks.proofs.index.Index.add.Goals as goal

pub returns-in-Some-clause-added : goal.returns-in-Some-clause-added
unfolding marks_at
returns-in-Some-clause-added c =
    let old = c.args.self.now.map in
    let f : Loc → Option MarksState = λ l. get same_key old (key_of l) in
    let w = c.add.new.self in
    let at = c.in-Some.ensures.value ∙ ap (get same_key old) c.key_of-key.ensures in
    let u = (c.get_mut.follows.holds w).3 (subst IsSome c.in-Some.ensures.value refl) in
    on_ok_weaker c.add.result
    (λ e. marked f (λ l. get same_key (c.get_mut.follows.lender w) (key_of l)) c.args.loc w
    (λ l. u.0 (key_of l) ∙ ap (λ z. cond (same_key z (key_of l)) (Some w) (f l)) c.key_of-key.ensures)
    c.args.stamp c.args.slot (e ∙ ap (with_mark c.args.stamp c.args.slot) (ap marks_or_none at)))
    c.add.ensures.added

pub returns-in-Some-clause-kept : goal.returns-in-Some-clause-kept
unfolding marks_at
returns-in-Some-clause-kept c =
    let old = c.args.self.now.map in
    let f : Loc → Option MarksState = λ l. get same_key old (key_of l) in
    let w = c.add.new.self in
    let at = c.in-Some.ensures.value ∙ ap (get same_key old) c.key_of-key.ensures in
    let u = (c.get_mut.follows.holds w).3 (subst IsSome c.in-Some.ensures.value refl) in
    on_err_weaker c.add.result
    (λ e. unmarked f (λ l. get same_key (c.get_mut.follows.lender w) (key_of l)) c.args.loc w
    (λ l. u.0 (key_of l) ∙ ap (λ z. cond (same_key z (key_of l)) (Some w) (f l)) c.key_of-key.ensures)
    (e ∙ ap marks_or_none at))
    c.add.ensures.kept

pub returns-in_err-insert-clause-kept : goal.returns-in_err-insert-clause-kept
unfolding marks_at
returns-in_err-insert-clause-kept c =
    let entries = c.in_err-insert.ensures.err ∙ ap (λ m. m.entries) c.get_mut.follows.holds-at-none in
    always c.from_residual-in_err-insert.result
    ((l : Loc) → marks_or_none (lookup (same_key (key_of l)) c.insert.new.self.entries) ≡ marks_or_none (lookup (same_key (key_of l)) c.args.self.now.map.entries))
    (λ l. ap (λ es. marks_or_none (lookup (same_key (key_of l)) es)) entries)

pub returns-clause-added : goal.returns-clause-added
unfolding marks_at
returns-clause-added c =
    let old = c.args.self.now.map in
    let f : Loc → Option MarksState = λ l. get same_key old (key_of l) in
    let w = c.add-2.new.self in
    let same = c.get_mut.follows.holds-at-none in
    let at = c.in_default.ensures.value ∙ ap (get same_key old) c.key_of-key.ensures in
    marked f (λ l. get same_key c.insert.new.self (key_of l)) c.args.loc w
    (λ l. c.in_ok-insert.ensures.updates.0 (key_of l)
    ∙ ap (λ z. cond (same_key z (key_of l)) (Some w) (get same_key c.get_mut.follows.lender-at-none (key_of l))) c.key_of-key.ensures
    ∙ ap (λ m. cond (same_key (key_of c.args.loc) (key_of l)) (Some w) (get same_key m (key_of l))) same)
    c.args.stamp c.args.slot
    (c.in_ok-add.ensures.added ∙ ap (with_mark c.args.stamp c.args.slot) (c.new-marks.ensures ∙ ap marks_or_none at))
