use Rattle.std.proofs.Common.{◌≡◌, get_or, slice_get, Some, sym, ap, ◌∙◌}
use Rattle.std.specs.Option.{option_copied}
use Rattle.std.proofs.lemmas.Bool.{false≢true}
use Rattle.std.proofs.lemmas.Option.{slice_get_within, get_or_from_slice_get}
use Rattle.upc_values.proofs.Joining.{past-none}
use Rattle.upc_values.proofs.Places.{in-from_place, in-at_place, in-past}
use Rattle.upc_values.proofs.agree.is_at.Goals as goal

pub returns-in-Some : goal.returns-in-Some
returns-in-Some c =
    let items = c.args.items.now in
    let e = c.args.entry.now in
    let p = c.args.place in
    let x = c.in-Some.item.now in
    let found : slice_get items p.at ≡ Some x = sym c.get.ensures ∙ ap option_copied c.in-Some.is in
    let lt = slice_get_within items p.at x found in
    let is : x ≡ get_or items p.at x = sym (get_or_from_slice_get items p.at x x found) in (
      λ h. in-from_place items e p.at p.number x c.requires lt is (c.is_did_as.ensures.0 h),
      λ q. c.is_did_as.ensures.1 (in-at_place items e p.at p.number x c.requires lt is q),
    )

pub returns-in-None : goal.returns-in-None
returns-in-None c =
    let items = c.args.items.now in
    let p = c.args.place in
    let past = past-none items p.at (sym c.get.ensures ∙ ap option_copied c.in-None.is) in
    (λ h. absurd (false≢true h), λ q. absurd (in-past items c.args.entry.now p.at p.number c.requires past q))
