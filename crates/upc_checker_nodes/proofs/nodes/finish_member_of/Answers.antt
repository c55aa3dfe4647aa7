use Rattle.std.proofs.Common.{ap, ◌∙◌, subst, Ok, Err}
use Rattle.std.proofs.lemmas.Result.{err_from_is_err_and}
use Rattle.typing_rules.specs.Attributes.{Facts, found_index, member_named}
use Rattle.typing_rules.specs.Nodes as n
use Rattle.typing_rules.specs.Nodes.{view_attr}
use Rattle.typed_tree.specs.declared.tree.Expr.{Expr}
use Rattle.typed_tree.specs.Tree as k
use Rattle.typed_tree.specs.ViewTree.{view_expr}
use Rattle.upc_checker_nodes.specs.code.ViewJudged.{JudgesMember}
use Rattle.upc_checker_scopes.specs.layer.Views.{facts_of}
use Rattle.upc_checker_nodes.proofs.Finished.{unbuilt, built}
use Rattle.upc_checker_nodes.proofs.nodes.finish_member_of.Goals as goal

pub returns-in_err-member : goal.returns-in_err-member
returns-in_err-member c =
    let φ : Facts = facts_of c.args.setting c.args.known.now in
    let a = c.args.a.value in
    let x : n.Node = n.MemberOf (view_attr a.attr) c.args.name.now in
    let index = λ (e : Expr). found_index (member_named φ.structs (view_attr e.attr).ctype c.args.name.now) in
    let kind = k.Member (view_expr a) (index a) in
    let e = c.in_err-member.field-0.0 in
    let p = err_from_is_err_and c.from_residual.result c.from_residual.ensures.1 in
    unbuilt φ a.place x kind c.from_residual.result e p.0 p.1 p.2
    (subst (λ (b : Expr). JudgesMember φ b.place (n.MemberOf (view_attr b.attr) c.args.name.now) (index b) (Err e)) c.deref-2.ensures c.in_err-member.ensures)

pub returns : goal.returns
returns c =
    let φ : Facts = facts_of c.args.setting c.args.known.now in
    let a = c.args.a.value in
    let x : n.Node = n.MemberOf (view_attr a.attr) c.args.name.now in
    let index = λ (e : Expr). found_index (member_named φ.structs (view_attr e.attr).ctype c.args.name.now) in
    let kind = k.Member (view_expr a) (index a) in
    let m = c.in_ok-member.member in
    let h = subst (λ (b : Expr). JudgesMember φ b.place (n.MemberOf (view_attr b.attr) c.args.name.now) (index b) (Ok m)) c.deref-2.ensures c.in_ok-member.ensures in
    built φ a.place x kind m.attr c.in_ok-member-2.field-0 (h.0, h.1)
    ((rw c.deref.ensures at c.in_ok-member-2.ensures) ∙ ap (λ i. k.Is a.place (view_attr m.attr) (k.Member (view_expr a) i)) h.2)
