use Rattle.std.proofs.Common.{◌≡◌, w64, ℕ, Vec, Global, Err, to_z, of_z, sym, subst, ap, ◌∙◌}
use Rattle.std.proofs.Math.Facts.{to_z-of_z}
use Rattle.block_layout.specs.declared.kind.Kind.{Kind}
use Rattle.block_layout.specs.declared.kind.Shape.{Shape}
use Rattle.block_layout.specs.Shapes.{IsShape}
use Rattle.block_layout.proofs.Found.{kind_is}
use Rattle.private_store.specs.declared.object.Form.{Form}
use Rattle.private_store.specs.declared.object.Form.TheVariants.{Listed}
use Rattle.private_store.specs.code.Kept.{IsPlace}
use Rattle.private_store.specs.code.Laid.{IsForm, form_shape, row_shape}
use Rattle.private_store.proofs.Places.{Rise, rise_within}
use Rattle.private_store.proofs.object.Object.place.Goals as goal

listed : (form : Form) (count : ℕ) (own : Shape) (cells : Vec (ℕ × Kind) Global) → form ≡ Listed own cells → IsForm form (form_shape form count)
    → IsShape (form_shape form count) → (cells.items ≡ own.cells) × (form_shape form count ≡ own) × IsShape own
listed form count own cells is has is_shape =
    let known : IsForm (Listed own cells) own = subst (λ f. IsForm f (form_shape f count)) is has in
    (known.1, ap (λ f. form_shape f count) is, subst (λ f. IsShape (form_shape f count)) is is_shape)

pub place_among-requires : goal.place_among-requires
place_among-requires c =
    let o = c.args.self.now in
    let l = listed o.form o.count c.in-Listed.field-0 c.in-Listed.cells c.in-Listed.is c.requires.form c.requires.is_shape in
    subst Rise (sym (c.as_slice.ensures.value ∙ l.0)) (rise_within c.in-Listed.field-0.cells 0 c.in-Listed.field-0.size l.2.1)

pub returns-in-Listed : goal.returns-in-Listed
returns-in-Listed c x e =
    let o = c.args.self.now in
    let l = listed o.form o.count c.in-Listed.field-0 c.in-Listed.cells c.in-Listed.is c.requires.form c.requires.is_shape in
    let got : IsPlace x (to_z w64 (of_z w64 c.args.offset)) c.args.kind c.place_among.result =
    c.place_among.ensures x (ap (λ (s : Shape). s.cells) (e ∙ l.1) ∙ sym (c.as_slice.ensures.value ∙ l.0)) (c.requires.size ∙ ap (λ (s : Shape). s.size) (sym e)) in
    rw (to_z-of_z {w = w64} c.ranges.offset) at got

pub returns-then-is : goal.returns-then-is
returns-then-is c x e =
    let o = c.args.self.now in
    let row : x.shape ≡ row_shape c.args.kind o.count =
    e ∙ ap (λ f. form_shape f o.count) c.in-Row.is
    ∙ ap (λ k. row_shape k o.count) (kind_is c.in-Row.own c.args.kind (sym c.is.ensures.value ∙ c.if-is.true)) in
    let got : IsPlace x (to_z w64 (of_z w64 c.args.offset)) c.args.kind c.place_in_row.result =
    c.place_in_row.ensures x o.count row (c.requires.size ∙ ap (λ (s : Shape). s.size) (sym e)) in
    rw (to_z-of_z {w = w64} c.ranges.offset) at got

pub returns-else-is : goal.returns-else-is
returns-else-is c x e =
    let o = c.args.self.now in
    let got : IsPlace x (to_z w64 (of_z w64 c.args.offset)) c.args.kind (Err c.code_in_other_row.result) =
    c.code_in_other_row.ensures x c.in-Row.own o.count (e ∙ ap (λ f. form_shape f o.count) c.in-Row.is)
    (c.requires.size ∙ ap (λ (s : Shape). s.size) (sym e)) (sym c.is.ensures.value ∙ c.if-is.false) in
    rw (to_z-of_z {w = w64} c.ranges.offset) at got
