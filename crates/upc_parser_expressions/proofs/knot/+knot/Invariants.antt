use Rattle.upc_parser_expressions.proofs.knot.+knot.Given as goal

abbrev pub decreases-expr : goal.decreases-expr
decreases-expr l = l.height

abbrev pub decreases-structure : goal.decreases-structure
decreases-structure l = l.height
