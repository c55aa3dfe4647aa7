use Rattle.std.proofs.Common.{nat_eq, if◌then◌else◌, Some, sym, ap, ◌∙◌}
use Rattle.std.specs.Cmp.Lexicographic.{pointwise}
use Rattle.upc_types.specs.layer.Named.{at_name}
use Rattle.upc_types.proofs.Naming.{put, stays, comes}
use Rattle.upc_types.proofs.member_names.keep_first.Goals as goal

pub returns-then-contains_key : goal.returns-then-contains_key
returns-then-contains_key c =
    stays c.args.names.now (λ k. k.items) c.args.name.now c.args.number (sym c.contains_key.ensures ∙ c.if-contains_key.true)

pub returns : goal.returns
returns c = λ q.
    let old = c.args.names.now in
    put old c.insert.new.self (λ k. k.items) c.in_ok-key.key.items (Some c.args.number) c.in_ok-insert.ensures.updates q
    ∙ ap (λ name. if pointwise nat_eq name q then Some c.args.number else at_name old (λ k. k.items) q) c.in_ok-key.ensures.items
    ∙ comes old (λ k. k.items) c.args.name.now c.args.number (sym c.contains_key.ensures ∙ c.if-contains_key.false) q
