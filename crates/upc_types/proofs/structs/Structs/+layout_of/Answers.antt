use Rattle.std.proofs.Common.{◌≡◌, ℕ, List, map, reverse, ap, sym, ◌∙◌}
use Rattle.upc_types.specs.Types.{CType, Qualified, Array, Completed, base_of}
use Rattle.upc_types.specs.View.{view_completed, view_base}
use Rattle.upc_types.specs.Layout.{base_complete, base_layout, complete_in, layout_in, base_within, many}
use Rattle.upc_types.proofs.Sizes.{many_is}
use Rattle.upc_types.proofs.structs.Structs.+layout_of.Goals as goal

-- The layout of an array is that of its elements, so many times.
whole : (cs : List Completed) (t : CType) (count : ℕ) → many (base_within cs (base_of t)) count ≡ base_within cs (Array t count)
whole cs (Qualified b c s x) count = many_is (base_complete (complete_in cs) b) (base_layout (layout_in cs) b) count

pub returns-in-Array-clause-value : goal.returns-in-Array-clause-value
returns-in-Array-clause-value t c =
    let cs = reverse (map view_completed c.args.self.now.completed.items) in
    let inner : c.layout_of.result ≡ base_within cs (base_of c.in-Array.element) = c.layout_of.ensures.value ∙ ap (λ x. base_within cs (base_of x)) c.deref.ensures in
    c.many.ensures.value ∙ ap (λ o. many o c.in-Array.count) inner ∙ whole cs c.in-Array.element c.in-Array.count ∙ ap (λ b. base_within cs (view_base b)) (sym c.in-Array.is)
