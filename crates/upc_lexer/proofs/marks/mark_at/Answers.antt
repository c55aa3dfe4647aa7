use Rattle.std.proofs.Common.{◌≡◌, inl, inr, ◌<◌, length, take, ap, sym, subst, arith}
use Rattle.std.proofs.lemmas.Bool.{cases_lt}
use Rattle.upc_lexer.specs.declared.token.Punct.{Punct as Mark}
use Rattle.upc_lexer.specs.Marks.{mark_bytes}
use Rattle.upc_lexer.proofs.MarkTable as table
use Rattle.upc_lexer.proofs.marks.mark_at.Goals as goal

pub returns-then-starts_with-clause-longest : goal.returns-then-starts_with-clause-longest
returns-then-starts_with-clause-longest c = λ q e.
    let P = λ (x : Mark). take (length (mark_bytes x)) c.args.bytes.now ≡ mark_bytes x in
    elim (cases_lt (table.place q) c.loop-mark.mark-index) [
      | inl lt ↦ absurd (c.loop-mark.invariant (table.place q) lt (subst P (sym (table.found q)) e))
      | inr le ↦ omega (arith, table.no_longer c.loop-mark.mark-index q le, ap length c.spelling-spelled.ensures)
    ]

pub returns-clause-none : goal.returns-clause-none
returns-clause-none c = λ q e.
    let lt : table.place q < c.loop-mark.mark-index = omega (arith, table.within q) in
    c.loop-mark.invariant (table.place q) lt
    (subst (λ x. take (length (mark_bytes x)) c.args.bytes.now ≡ mark_bytes x) (sym (table.found q)) e)
