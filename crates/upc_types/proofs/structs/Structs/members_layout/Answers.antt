use Rattle.std.proofs.Common.{◌≡◌, ◌<◌, ◌+◌, map, drop, reverse, max, None, Some, ap, sym, ◌∙◌, arith}
use Rattle.upc_types.specs.View.{view_completed, view_base, view_member}
use Rattle.upc_types.specs.Layout.{base_within, members_from, most_bytes, aligned}
use Rattle.upc_types.proofs.Members.{next, from_more, from_none, from_large}
use Rattle.upc_types.proofs.structs.Structs.members_layout.Goals as goal

pub returns-in_err-part-clause-value : goal.returns-in_err-part-clause-value
returns-in_err-part-clause-value c =
    let cs = reverse (map view_completed c.args.self.now.completed.items) in
    let i = c.loop-member.member-index in
    let m = view_member c.member-item.result in
    let rest = map view_member (drop (i + 1) c.args.members.now) in
    let n = next view_member c.args.members.now i c.member-item.result (omega arith) c.member-item.is in
    let none : base_within cs (view_base c.member-item.result.ctype.base) ≡ None = sym c.in_err-part.ensures.value in
    let f = from_none cs c.loop-member.end c.loop-member.align m rest c.loop-member.invariant.low none in
    c.from_residual.ensures ∙ sym (sym c.loop-member.invariant.rest ∙ ap (members_from cs c.loop-member.end c.loop-member.align) n ∙ f)

pub returns-then-end-gt-MOST_BYTES-clause-value : goal.returns-then-end-gt-MOST_BYTES-clause-value
returns-then-end-gt-MOST_BYTES-clause-value c =
    let cs = reverse (map view_completed c.args.self.now.completed.items) in
    let i = c.loop-member.member-index in
    let m = view_member c.member-item.result in
    let p = c.in_ok-part.part in
    let rest = map view_member (drop (i + 1) c.args.members.now) in
    let n = next view_member c.args.members.now i c.member-item.result (omega arith) c.member-item.is in
    let some : base_within cs (view_base c.member-item.result.ctype.base) ≡ Some p = sym c.in_ok-part.ensures.value in
    let f = from_more cs c.loop-member.end c.loop-member.align m rest p some in
    let large : most_bytes < aligned c.loop-member.end p.align + p.size = omega arith in
    let none = from_large cs (aligned c.loop-member.end p.align + p.size) (max c.loop-member.align p.align) rest (omega arith) large in
    sym (sym c.loop-member.invariant.rest ∙ ap (members_from cs c.loop-member.end c.loop-member.align) n ∙ f ∙ none)

pub loop-member-preserved : goal.loop-member-preserved
loop-member-preserved c =
    let cs = reverse (map view_completed c.args.self.now.completed.items) in
    let i = c.loop-member.member-index in
    let m = view_member c.member-item.result in
    let p = c.in_ok-part.part in
    let rest = map view_member (drop (i + 1) c.args.members.now) in
    let n = next view_member c.args.members.now i c.member-item.result (omega arith) c.member-item.is in
    let some : base_within cs (view_base c.member-item.result.ctype.base) ≡ Some p = sym c.in_ok-part.ensures.value in
    let f = from_more cs c.loop-member.end c.loop-member.align m rest p some in
    let e = sym f ∙ sym (ap (members_from cs c.loop-member.end c.loop-member.align) n) ∙ c.loop-member.invariant.rest in
    let fine = c.in_ok-part.ensures.fine in
    record {
      rest = rw (c.aligned.ensures.value, c.wider-align.ensures) e;
      near = omega arith;
      some = λ _. omega (arith, fine.some);
      low = omega (arith, c.wider-align.ensures);
      high = omega (arith, c.wider-align.ensures, fine.high);
    }
