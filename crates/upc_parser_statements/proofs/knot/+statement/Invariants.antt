use Rattle.upc_parser_statements.proofs.knot.+statement.Given as goal

abbrev pub decreases-statement : goal.decreases-statement
decreases-statement l = l.height
