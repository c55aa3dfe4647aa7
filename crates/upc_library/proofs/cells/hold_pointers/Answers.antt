use Rattle.std.proofs.Common.{ℕ, ◌≡◌, ◌+◌, ◌%◌, Some, not, false, sym, ap, ◌∙◌, subst, arith}
use Rattle.std.specs.List.{list_any}
use Rattle.block_layout.specs.Lists.{under}
use Rattle.upc_values.specs.Shapes.{kind_at, is_integer}
use Rattle.upc_values.specs.Views.{cells_within}
use Rattle.upc_library.specs.code.Ranges.{is_no_integer}
use Rattle.upc_library.proofs.Cursors.{one_further}
use Rattle.upc_library.proofs.Compared.{no_more, one_here}
use Rattle.upc_library.proofs.cells.hold_pointers.Goals as goal

pub returns : goal.returns
returns c =
    let s = c.args.shape.now in
    let all : c.loop-i.i ≡ c.args.bytes = omega arith in
    sym (subst (λ n. list_any (λ x. not (is_integer x.1)) (cells_within (Some s) c.args.byte n) ≡ false) all c.loop-i.invariant.none)

pub returns-then-holds_pointer : goal.returns-then-holds_pointer
returns-then-holds_pointer c =
    let s = c.args.shape.now in
    let i = c.loop-i.i in
    let here : c.pass.result ≡ kind_at (Some s) (c.args.byte + i) =
    c.pass.ensures.passes.kind_is ∙ ap (λ p. under p s.cells) c.loop-i.invariant.place in
    sym (one_here (Some s) c.args.byte i c.args.bytes c.loop-i-test.true
    (sym (ap is_no_integer here) ∙ sym c.holds_pointer.ensures ∙ c.if-holds_pointer.true))

pub loop-i-preserved : goal.loop-i-preserved
loop-i-preserved c =
    let s = c.args.shape.now in
    let i = c.loop-i.i in
    let here : c.pass.result ≡ kind_at (Some s) (c.args.byte + i) =
    c.pass.ensures.passes.kind_is ∙ ap (λ p. under p s.cells) c.loop-i.invariant.place in
    record {
      place = c.pass.ensures.passes.after_is ∙ ap (λ p. (p + 1) % s.size) c.loop-i.invariant.place ∙ one_further c.args.byte i s.size;
      cursor = c.pass.ensures.cursor;
      none = no_more (Some s) c.args.byte i (sym (ap is_no_integer here) ∙ sym c.holds_pointer.ensures ∙ c.if-holds_pointer.false)
          c.loop-i.invariant.none;
    }
