use Rattle.std.proofs.Common.{ℕ, nat_eq, if◌then◌else◌, List, map, take, Some, None, sym, ap, ◌∙◌, arith}
use Rattle.std.proofs.lemmas.List.{take_all}
use Rattle.std.specs.Cmp.Lexicographic.{pointwise}
use Rattle.upc_types.specs.View.{view_member}
use Rattle.upc_types.specs.layer.Named.{first_named, first_or}
use Rattle.upc_types.proofs.Naming.{first_step}
use Rattle.upc_types.proofs.member_names.first_members.Goals as goal

pub loop-member-preserved : goal.loop-member-preserved
loop-member-preserved c =
    let xs = c.args.members.now in
    let i = c.loop-member.member-index in
    let x = c.member-item.result in
    let old = first_named (map view_member (take i xs)) in
    record {
      index = omega (arith, c.loop-member.invariant.index);
      first = λ q. c.in_ok-keep_first.ensures q
          ∙ ap (λ o. first_or o (if pointwise nat_eq c.as_slice.result.now q then Some c.loop-member.number else None)) (c.loop-member.invariant.first q)
          ∙ ap (λ (name : List ℕ). first_or (old q) (if pointwise nat_eq name q then Some c.loop-member.number else None)) c.as_slice.ensures
          ∙ ap (λ k. first_or (old q) (if pointwise nat_eq x.name q then Some k else None)) c.loop-member.invariant.index
          ∙ sym (first_step xs i x c.loop-member-test.true c.member-item.is q);
    }

pub returns : goal.returns
returns c = λ q.
    let xs = c.args.members.now in
    c.loop-member.invariant.first q ∙ ap (λ l. first_named (map view_member l) q) (take_all c.loop-member.member-index xs (omega arith))
