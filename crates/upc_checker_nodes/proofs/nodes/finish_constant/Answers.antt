use Rattle.std.proofs.Common.{refl, sym, ap, ◌∙◌, subst, Ok}
use Rattle.typed_tree.specs.Tree as k
use Rattle.upc_checker_scopes.specs.layer.Finishes.{Finishes}
use Rattle.upc_checker_nodes.specs.Parts as walks
use Rattle.upc_checker_scopes.specs.layer.Views.{view_setting}
use Rattle.upc_checker_nodes.proofs.nodes.finish_constant.Goals as goal

pub returns-in_ok-mythread-in-Mythread : goal.returns-in_ok-mythread-in-Mythread
returns-in_ok-mythread-in-Mythread c = λ φ.
    let ξ = view_setting c.args.setting in
    subst (λ w. Finishes φ c.args.at (walks.constant_node ξ w) (walks.constant_kind w) (Ok c.in_ok-mythread-in-Mythread.field-0)) (sym c.in-Mythread.is)
    (refl, c.in_ok-mythread-in-Mythread.ensures ∙ ap (λ a. k.Is c.args.at a k.Mythread) (c.mythread.ensures φ))

pub returns-in_ok-literal-in-Threads : goal.returns-in_ok-literal-in-Threads
returns-in_ok-literal-in-Threads c = λ φ.
    let ξ = view_setting c.args.setting in
    subst (λ w. Finishes φ c.args.at (walks.constant_node ξ w) (walks.constant_kind w) (Ok c.in_ok-literal-in-Threads.field-0)) (sym c.in-Threads.is)
    (refl, c.in_ok-literal-in-Threads.ensures ∙ ap (λ a. k.Is c.args.at a k.Literal) (c.threads.ensures φ))

pub returns-in_ok-literal-in-MaxBlockSize : goal.returns-in_ok-literal-in-MaxBlockSize
returns-in_ok-literal-in-MaxBlockSize c = λ φ.
    let ξ = view_setting c.args.setting in
    subst (λ w. Finishes φ c.args.at (walks.constant_node ξ w) (walks.constant_kind w) (Ok c.in_ok-literal-in-MaxBlockSize.field-0)) (sym c.in-MaxBlockSize.is)
    (refl, c.in_ok-literal-in-MaxBlockSize.ensures ∙ ap (λ a. k.Is c.args.at a k.Literal) (c.max_block_size.ensures φ))
