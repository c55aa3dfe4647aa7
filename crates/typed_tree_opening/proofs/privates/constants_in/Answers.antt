use Rattle.std.proofs.Common.{◌≡◌, map, take, IfOk, ap, subst, ◌∙◌}
use Rattle.typing_rules.specs.Attributes.{constant_of}
use Rattle.typed_tree.specs.ViewTree.{attr_seen}
use Rattle.typed_tree_opening.proofs.Listing.{listed_is}
use Rattle.typed_tree_opening.proofs.privates.constants_in.Goals as goal

pub returns-in-Array-List-clause-value : goal.returns-in-Array-List-clause-value
returns-in-Array-List-clause-value c =
    let n = c.in-Array-List.count in
    let p = ap (λ es. map (λ e. constant_of (attr_seen e)) (take n es)) c.as_slice.ensures.value
    ∙ listed_is n c.in-Array-List.values.items in
    rw (c.in-Array-List.is-0, c.in-Array-List.is-1)
    (subst (λ ys. IfOk c.listed.result (λ xs. xs.items ≡ ys)) p c.listed.ensures.value)
