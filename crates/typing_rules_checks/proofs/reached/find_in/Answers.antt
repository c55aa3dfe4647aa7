use Rattle.std.proofs.Common.{◌≡◌, ◌+◌, false, [], map, reverse, length, get_or, None, sym, ap, ◌∙◌, arith}
use Rattle.std.proofs.lemmas.List.{length-map}
use Rattle.std.proofs.Math.ListN.{get_or-map}
use Rattle.upc_types.specs.declared.ctype.Access.TheVariants as a
use Rattle.upc_types.specs.Types.{Qualified, Void, Member, members_of}
use Rattle.upc_types.specs.Layout.{member_offset}
use Rattle.upc_types.specs.View.{view_completed, view_member}
use Rattle.upc_types.specs.ViewStructs.{view_structs}
use Rattle.upc_types.proofs.Naming.{first_below}
use Rattle.typing_rules_checks.proofs.Finding.{found_with, found_at, find_is, complete_with}
use Rattle.typing_rules_checks.proofs.reached.find_in.Goals as goal

pub member_offset-offset-requires : goal.member_offset-offset-requires
member_offset-offset-requires c =
    let cs = reverse (map view_completed c.args.structs.now.completed.items) in
    record { complete = complete_with cs c.args.number c.args.name.now c.in-Some.index (sym c.in-Some.ensures) }

pub bounds-members-index : goal.bounds-members-index
bounds-members-index c =
    let xs = c.members-members.result.now in
    let ms = members_of (view_structs c.args.structs.now) c.args.number in
    let below = first_below ms c.args.name.now c.in-Some.index (sym c.in-Some.ensures) in
    let n : length ms ≡ length xs = ap length (sym c.members-members.ensures) ∙ length-map xs view_member in
    omega (arith, below, n)

pub returns-in-Some : goal.returns-in-Some
returns-in-Some c =
    let s = view_structs c.args.structs.now in
    let xs = c.members-members.result.now in
    let ms = members_of s c.args.number in
    let n = c.args.number in
    let i = c.in-Some.index in
    let r = c.index-members-index.result in
    let x = view_member r in
    let one : get_or ms i x ≡ x = ap (λ ys. get_or ys i x) (sym c.members-members.ensures) ∙ get_or-map view_member xs i r
    ∙ ap view_member (sym c.index-members-index.is) in
    let e : 0 + i ≡ i = omega arith in
    ap (λ m. found_with i c.member_offset-offset.result (view_member m).ctype) (sym c.index-members-index.is)
    ∙ sym (find_is s n 0 ms x c.args.name.now ∙ ap (found_at s n 0 ms x) (sym c.in-Some.ensures)
    ∙ ap (λ (m : Member). found_with (0 + i) (member_offset s n (0 + i)) m.ctype) one
    ∙ ap (λ k. found_with k (member_offset s n k) x.ctype) e
    ∙ ap (λ o. found_with i o x.ctype) (sym c.member_offset-offset.ensures.value))

pub returns-in-None : goal.returns-in-None
returns-in-None c =
    let s = view_structs c.args.structs.now in
    let ms = members_of s c.args.number in
    let d : Member = record { name = []; ctype = Qualified Void false None a.Unsaid } in
    sym (find_is s c.args.number 0 ms d c.args.name.now ∙ ap (found_at s c.args.number 0 ms d) (sym c.in-None.ensures))
