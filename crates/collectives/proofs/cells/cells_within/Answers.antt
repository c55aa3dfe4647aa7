use Rattle.std.proofs.Common.{ℕ, ◌≡◌, ◌+◌, ◌<◌, [], ◌∷◌, ◌++◌, Some, None, Vec, Global, sym, ap, ◌∙◌, subst}
use Rattle.std.specs.List.{All}
use Rattle.std.specs.Option.{option_copied}
use Rattle.std.proofs.lemmas.List.Elements.{All-append, All-cons, All-nil}
use Rattle.block_layout.specs.declared.kind.Kind.{Kind}
use Rattle.upc_values.specs.Shapes.{kind_at}
use Rattle.collectives.proofs.Ranges.{cells-none, cells-some}
use Rattle.collectives.proofs.cells.cells_within.Goals as goal
use Rattle.collectives.proofs.cells.cells_within.Goals.{in-Some+in_ok-push, in_default}

pub loop-i-preserved : goal.loop-i-preserved
loop-i-preserved c =
    let s = option_copied c.args.shape in
    let x = c.args.byte in
    let i = c.loop-i.i in
    let P : ℕ × Kind → Type 0 = λ d. d.0 < c.args.bytes in
    elim c.match-kind_at.branch [
      | in-Some+in_ok-push w ↦
          let k = w.in-Some.kind in
          let e : kind_at s (x + i) ≡ Some k = cc in
          let q : c.match-kind_at.cells.items ≡ c.loop-i.cells.items ++ (i, k) ∷ [] = ap (λ (v : Vec (ℕ × Kind) Global). v.items) w.cells-is ∙ w.in_ok-push.ensures.items in
          record {
            cells = q ∙ cells-some s x i k c.loop-i.cells.items e c.loop-i.invariant.cells;
            within = subst (All P) (sym q) (All-append P _ _ c.loop-i.invariant.within (All-cons P (i, k) [] c.loop-i-test.true (All-nil P)));
          }
      | in_default w ↦
          let e : kind_at s (x + i) ≡ None = cc in
          let q : c.match-kind_at.cells.items ≡ c.loop-i.cells.items = ap (λ (v : Vec (ℕ × Kind) Global). v.items) w.cells-is in
          record {
            cells = q ∙ cells-none s x i c.loop-i.cells.items e c.loop-i.invariant.cells;
            within = subst (All P) (sym q) c.loop-i.invariant.within;
          }
    ]
