use Rattle.std.proofs.Common.{sym, ap, ◌∙◌}
use Rattle.typed_tree.specs.declared.tree.Head.{Head}
use Rattle.typed_tree.specs.Tree.{For, Forall}
use Rattle.typed_tree.specs.ViewStatements.{view_affinity, view_head, view_statement, view_statement_kind}
use Rattle.upc_meaning_settings.specs.layer.Settings.{running_seen}
use Rattle.upc_meaning_work.specs.layer.ViewItems.{view_standing}
use Rattle.upc_meaning_work.specs.layer.Evaluations.{seen}
use Rattle.upc_meaning_statements.proofs.Heads.{for_enters, forall_enters}
use Rattle.upc_meaning_statements.proofs.declarations.headed.Goals as goal

pub returns-in-For : goal.returns-in-For
returns-in-For c =
    let body = view_statement c.in-For.field-1.value in
    for_enters (running_seen c.args.setting) (view_standing c.args.standing) (seen c.args.evaluation.now) c.args.place
    (view_statement_kind c.args.kind.now) (view_head c.deref.result.now) c.enter_loop.new.evaluation body
    (ap view_statement_kind c.in-For.is ∙ ap (λ (h : Head). For (view_head h) body) (sym c.deref.ensures))
    c.enter_loop.result c.enter_loop.ensures

pub returns-in-Forall : goal.returns-in-Forall
returns-in-Forall c =
    let whose = view_affinity c.in-Forall.field-1 in
    let body = view_statement c.in-Forall.field-2.value in
    forall_enters (running_seen c.args.setting) (view_standing c.args.standing) (seen c.args.evaluation.now)
    c.args.place
    (view_statement_kind c.args.kind.now) (view_head c.deref-in-Forall.result.now) c.enter_loop-in-Forall.new.evaluation
    whose body
    (ap view_statement_kind c.in-Forall.is
    ∙ ap (λ (h : Head). Forall (view_head h) whose body) (sym c.deref-in-Forall.ensures))
    c.enter_loop-in-Forall.result c.enter_loop-in-Forall.ensures
