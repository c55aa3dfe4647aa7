use Rattle.std.proofs.Common.{◌∙◌, List, [], length, map, ap, sym, arith}
use Rattle.typed_tree.specs.declared.tree.Expr.{Expr}
use Rattle.typed_tree.specs.declared.tree.Object.{Object}
use Rattle.typed_tree.specs.declared.tree.Statement.{Statement}
use Rattle.typed_tree.specs.declared.tree.SwitchItem.{SwitchItem}
use Rattle.typed_tree.specs.Tree.{Switch}
use Rattle.source_meaning.specs.Statements.{with_objects}
use Rattle.gen_expr.specs.layer.Codes.{value_code}
use Rattle.gen_stmt.specs.code.Parts.{arm_code, do_code}
use Rattle.typed_tree.specs.ViewTree.{view_expr}
use Rattle.typed_tree.specs.ViewStatements.{view_statement_kind, view_statement, view_object, view_head}
use Rattle.typed_tree.specs.ViewStatements.{view_affinity, view_last}
use Rattle.typed_tree.specs.ViewStatements.{view_switch_items}
use Rattle.typed_tree.proofs.StatementRows.{block_is, if_is, switch_is}
use Rattle.gen_expr.specs.layer.ViewSource.{view_source}
use Rattle.gen_stmt.specs.layer.Codes.{kind_code, loop_code, statement_code}
use Rattle.gen_stmt.specs.code.Views.{view_exits, view_labelled, view_standing}
use Rattle.gen_stmt.proofs.Steps.{count_back}
use Rattle.gen_stmt.proofs.Behind.{on_ok, instead, behind, items_back, arms_back, parts_back, within_whole, if_whole}
use Rattle.gen_stmt.proofs.Behind.{arm_whole}
use Rattle.gen_stmt.proofs.Behind.{switch_whole, while_whole, do_whole, for_whole, forall_whole}
use Rattle.gen_stmt.proofs.statements.+statements.Goals as goal

pub items_of-overflow_sub-count : goal.items_of-overflow_sub-count
items_of-overflow_sub-count t c =
    (count_back c.args.items.now c.loop-i.i c.index-items-i.result c.loop-i.count c.args.standing.count
    c.count_in-count.result c.loop-i-test.true (omega arith) c.index-items-i.is c.count_in-count.ensures
    c.loop-i.invariant.scope).0

pub items_of-loop-i-preserved : goal.items_of-loop-i-preserved
items_of-loop-i-preserved t c =
    let counted = count_back c.args.items.now c.loop-i.i c.index-items-i.result c.loop-i.count c.args.standing.count
    c.count_in-count.result c.loop-i-test.true (omega arith) c.index-items-i.is c.count_in-count.ensures
    c.loop-i.invariant.scope in
    record {
      scope = counted.1;
      told =
          items_back (view_source c.args.source) (view_standing c.args.standing) (view_standing c.with_count.result)
          (view_exits c.args.exits) c.args.items.now c.loop-i.i c.index-items-i.result c.loop-i.count
          c.count_in-count.result c.loop-i.out c.put_item.new.out c.loop-i-test.true (omega arith) c.index-items-i.is
          c.count_in-count.ensures counted.0 c.loop-i.invariant.told c.with_count.ensures c.in_ok-put_item.ensures;
    }

pub put_arms-loop-i-preserved : goal.put_arms-loop-i-preserved
put_arms-loop-i-preserved t c =
    arms_back (view_source c.args.source) (view_standing c.args.standing) (view_exits c.args.exits) c.args.place
    c.args.arms.now c.loop-i.i c.index-arms-i.result c.args.out.now c.loop-i.out c.put_arm.new.out c.loop-i-test.true
    (omega arith) c.index-arms-i.is c.loop-i.invariant c.in_ok-put_arm.ensures

pub labelled_of-loop-i-preserved : goal.labelled_of-loop-i-preserved
labelled_of-loop-i-preserved t c =
    parts_back (view_source c.args.source) (view_standing c.args.standing) (view_exits c.args.exits) c.args.items.now
    c.loop-i.i c.index-items-i.result (view_labelled c.loop-i.body) (view_labelled c.put_part.new.body)
    c.loop-i-test.true (omega arith) c.index-items-i.is c.loop-i.invariant c.in_ok-put_part.ensures

pub put_arm-returns : goal.put_arm-returns
put_arm-returns t c =
    let ς = view_source c.args.source in
    let κ = view_standing c.args.standing in
    let arm = c.args.arm.now in
    let old = c.args.out.now in
    let body = c.in_ok-body.body.items in
    on_ok c.put_tested.result _ _
    (instead c.put_tested.new.out _ _
    (ap (λ (e : Expr). arm_code c.args.place (value_code ς κ.strict (view_expr e)) body (length body) old (length old))
    c.deref.ensures
    ∙ arm_whole ς κ (view_exits c.args.exits) (view_exits c.in_ok-exits.exits) c.args.place (view_expr arm.test.value)
    (view_statement arm.body) c.len.result c.in_ok-sum.field-0 body old c.len.ensures c.in_ok-sum.ensures
    c.in_ok-exits.ensures c.in_ok-body.ensures))
    c.put_tested.ensures

pub put_for-returns : goal.put_for-returns
put_for-returns t c =
    let ς = view_source c.args.source in
    let κ = view_standing c.args.standing in
    let ω = view_exits c.args.exits in
    let old = c.args.code.now.items in
    let within = c.in_ok-within.ensures
    ∙ ap (λ (xs : List Object). with_objects (map view_object xs) κ) c.as_slice.ensures.value in
    on_ok c.put_headed.result _ _
    (behind old c.put_headed.new.code.items _ _
    (for_whole ς κ (view_standing c.in_ok-within.within) ω (view_exits c.in_ok-inner.inner)
    (view_exits c.in_ok-exits.exits) c.args.place (view_head c.args.head.now) (view_statement c.args.body.now)
    c.len.result c.in_ok-step.step.items c.in_ok-inside.inside.items c.in_ok-step.ensures within
    c.in_ok-inner.ensures (omega (arith, c.in_ok-step.step.ok.0)) c.in_ok-exits.ensures c.in_ok-inside.ensures))
    c.put_headed.ensures

pub put_forall-returns : goal.put_forall-returns
put_forall-returns t c =
    let ς = view_source c.args.source in
    let κ = view_standing c.args.standing in
    let ω = view_exits c.args.exits in
    let old = c.args.code.now.items in
    let within = c.in_ok-within.ensures
    ∙ ap (λ (xs : List Object). with_objects (map view_object xs) κ) c.as_slice.ensures.value in
    on_ok c.put_controlled.result _ _
    (behind old c.put_controlled.new.code.items _ _
    (forall_whole ς κ (view_standing c.in_ok-within.within) ω (view_exits c.in_ok-inner.inner)
    (view_exits c.in_forall.result) c.args.place (view_head c.args.head.now) (view_affinity c.args.whose.now)
    (view_statement c.args.body.now) c.in_ok-inside.inside.items within c.in_ok-inner.ensures
    c.in_forall.ensures c.in_ok-inside.ensures))
    c.put_controlled.ensures

pub put_switch-returns : goal.put_switch-returns
put_switch-returns t c =
    let ς = view_source c.args.source in
    let κ = view_standing c.args.standing in
    let ω = view_exits c.args.exits in
    let old = c.args.code.now.items in
    on_ok c.put_switched.result _ _
    (behind old c.put_switched.new.code.items _ _
    (switch_whole ς κ ω (view_exits c.in_switch.result) c.args.place (view_expr c.args.e.now)
    (view_switch_items c.args.items.now) (view_labelled c.in_ok-body.body) c.in_switch.ensures c.in_ok-body.ensures))
    c.put_switched.ensures

pub put_statement-returns-in-Block : goal.put_statement-returns-in-Block
put_statement-returns-in-Block t c =
    let s = c.in-Block in
    let ς = view_source c.args.source in
    let κ = view_standing c.args.standing in
    let ω = view_exits c.args.exits in
    let at = c.args.s.now.place in
    let old = c.args.code.now.items in
    let v = ap (kind_code ς κ ω at) (ap view_statement_kind s.is ∙ block_is s.strict s.items) in
    on_ok c.put_block.result _ _
    (behind old c.put_block.new.code.items _ _
    (within_whole ς κ (view_standing c.with_strict-within.result) ω at s.strict c.as_slice.result.now s.items.items
    c.with_strict-within.ensures c.as_slice.ensures.value
    ∙ sym v))
    c.put_block.ensures

pub put_statement-returns-in_ok-behind-in-If : goal.put_statement-returns-in_ok-behind-in-If
put_statement-returns-in_ok-behind-in-If t c =
    let s = c.in-If in
    let ς = view_source c.args.source in
    let κ = view_standing c.args.standing in
    let ω = view_exits c.args.exits in
    let at = c.args.s.now.place in
    let v = ap (kind_code ς κ ω at) (ap view_statement_kind s.is ∙ if_is s.arms s.last) in
    let last = c.in_ok-behind-in-If in
    on_ok c.put_if.result _ _
    (behind c.args.code.now.items c.put_if.new.code.items _ _
    (if_whole ς κ ω at c.as_slice-arms.result.now s.arms.items (view_last s.last) last.behind.items last.ensures
    c.as_slice-arms.ensures.value
    ∙ sym v))
    c.put_if.ensures

pub put_statement-returns-in-Switch : goal.put_statement-returns-in-Switch
put_statement-returns-in-Switch t c =
    let s = c.in-Switch in
    let items = c.as_slice-items in
    let code = kind_code (view_source c.args.source) (view_standing c.args.standing) (view_exits c.args.exits)
    c.args.s.now.place in
    let v = ap code (ap view_statement_kind s.is ∙ switch_is s.e s.items) in
    on_ok c.put_switch.result _ _
    (behind c.args.code.now.items c.put_switch.new.code.items _ _
    (ap (λ (e : Expr). code (Switch (view_expr e) (view_switch_items items.result.now))) c.deref.ensures
    ∙ ap (λ (xs : List SwitchItem). code (Switch (view_expr s.e.value) (view_switch_items xs))) items.ensures.value
    ∙ sym v))
    c.put_switch.ensures

pub put_statement-returns-in_ok-inside-in-While : goal.put_statement-returns-in_ok-inside-in-While
put_statement-returns-in_ok-inside-in-While t c =
    let s = c.in-While in
    let ς = view_source c.args.source in
    let κ = view_standing c.args.standing in
    let ω = view_exits c.args.exits in
    let at = c.args.s.now.place in
    let v = ap (kind_code ς κ ω at) (ap view_statement_kind s.is) in
    let inner = c.in_ok-inner-in-While in
    let inside = c.in_ok-inside-in-While in
    let body = inside.inside.items in
    on_ok c.put_while.result _ _
    (behind c.args.code.now.items c.put_while.new.code.items _ _
    (ap (λ (e : Expr). loop_code at (value_code ς κ.strict (view_expr e)) body [] (length body))
    c.deref-in-While-2.ensures
    ∙ while_whole ς κ ω (view_exits inner.inner) at (view_expr s.test.value) (view_statement s.body.value) body
    inner.ensures
    (inside.ensures
    ∙ ap (λ (b : Statement). statement_code ς κ (view_exits inner.inner) (view_statement b)) c.deref-in-While.ensures)
    ∙ sym v))
    c.put_while.ensures

pub put_statement-returns-in_ok-inside-in-DoWhile : goal.put_statement-returns-in_ok-inside-in-DoWhile
put_statement-returns-in_ok-inside-in-DoWhile t c =
    let s = c.in-DoWhile in
    let ς = view_source c.args.source in
    let κ = view_standing c.args.standing in
    let ω = view_exits c.args.exits in
    let at = c.args.s.now.place in
    let v = ap (kind_code ς κ ω at) (ap view_statement_kind s.is) in
    let inner = c.in_ok-inner-in-DoWhile in
    let inside = c.in_ok-inside-in-DoWhile in
    let body = inside.inside.items in
    on_ok c.put_do.result _ _
    (behind c.args.code.now.items c.put_do.new.code.items _ _
    (ap (λ (e : Expr). do_code ς κ.strict at (view_expr e) body) c.deref-in-DoWhile-2.ensures
    ∙ do_whole ς κ ω (view_exits inner.inner) at (view_expr s.test.value) (view_statement s.body.value) body
    inner.ensures
    (inside.ensures
    ∙ ap (λ (b : Statement). statement_code ς κ (view_exits inner.inner) (view_statement b))
    c.deref-in-DoWhile.ensures)
    ∙ sym v))
    c.put_do.ensures
