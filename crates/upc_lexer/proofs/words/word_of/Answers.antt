use Rattle.std.proofs.Common.{◌<◌, ap, sym, ◌∙◌, arith}
use Rattle.upc_lexer.specs.Words.{word_bytes}
use Rattle.upc_lexer.proofs.WordTable as table
use Rattle.upc_lexer.proofs.words.word_of.Goals as goal

pub returns-clause-none : goal.returns-clause-none
returns-clause-none c = λ word e.
    let lt : table.place word < c.loop-word.word-index = omega (arith, table.within word) in
    c.loop-word.invariant (table.place word) lt (e ∙ sym (ap word_bytes (table.found word)))
