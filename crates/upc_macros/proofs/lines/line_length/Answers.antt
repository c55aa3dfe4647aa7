use Rattle.std.proofs.Common.{eqb, ◌∙◌, sym, ap}
use Rattle.std.specs.List.{prefix_len}
use Rattle.std.proofs.lemmas.List.Sums.{prefix_len-le-length}
use Rattle.upc_lexer.specs.declared.token.Token.{Token}
use Rattle.upc_macros.proofs.LineLemmas.{line_is}
use Rattle.upc_macros.proofs.lines.line_length.Goals as goal

pub returns-clause-within : goal.returns-clause-within
returns-clause-within c = rw c.count_on_line.ensures (prefix_len-le-length _ c.args.rest.now)

pub returns-clause-lines : goal.returns-clause-lines
returns-clause-lines c =
    line_is c.args.rest.now c.index-rest-0.result c.count_on_line.result c.requires c.index-rest-0.is
    (c.count_on_line.ensures ∙ ap (λ n. prefix_len (λ (x : Token). eqb x.place.line n) c.args.rest.now) (sym (ap (λ (t : Token). t.place.line) c.index-rest-0.is)))
