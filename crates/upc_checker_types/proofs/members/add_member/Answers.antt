use Rattle.std.proofs.Common.{◌≡◌, List, map, sym, ap, ◌∙◌}
use Rattle.upc_types.specs.View.{view_member}
use Rattle.upc_checker_types.specs.Members.{has_member}
use Rattle.upc_checker_types.proofs.members.add_member.Goals as goal

pub invariant_of-members-in-Break-branch-4 : goal.invariant_of-members-in-Break-branch-4
invariant_of-members-in-Break-branch-4 c =
    record { named = λ q. c.in_err-note.ensures.err q ∙ c.args.members.now.named q ∙ ap (λ xs. has_member (map view_member xs) q) (sym c.reserve.ensures.items) }
