use Rattle.std.proofs.Common.{◌≡◌, ◌∙◌, true, false, sym, refl, rules}
use Rattle.upc_tree.specs.layer.Lists.{specs_of}
use Rattle.upc_tree.specs.layer.View.{view_spec}
use Rattle.upc_parser_ground.specs.layer.Outcome.{starts}
use Rattle.upc_parser_ground.specs.layer.Tables.{is_spec}
use Rattle.upc_parser_types.specs.layer.Expression.{at_height, specs, spec}
use Rattle.upc_parser_ground.proofs.Ran.{ran_listed}
use Rattle.upc_parser_types.proofs.grammar.Grammar.specs.Goals as goal

pub returns : goal.returns
unfolding specs
returns g c =
    let on : starts (is_spec c.args.local) c.args.tokens.now.rest.now ≡ true = sym c.starts.ensures ∙ c.if-not-starts.false in
    rw on (ran_listed view_spec (starts (is_spec c.args.local)) (spec (at_height c.args.n)) _ (λ old new r p. search rules) specs_of c.args.tokens.now.rest.now c.many.result c.many.new.tokens.rest.now c.many.ensures)

pub returns-then-not-starts : goal.returns-then-not-starts
unfolding specs
returns-then-not-starts g c =
    let off : starts (is_spec c.args.local) c.args.tokens.now.rest.now ≡ false = sym c.starts.ensures ∙ c.if-not-starts.true in
    rw off refl
