use Rattle.std.proofs.Common.{IfOk, subst}
use Rattle.upc_lexer.specs.code.Found.{Finds}
use Rattle.upc_lexer.specs.declared.lexemes.Found.TheVariants.{Name, Token}
use Rattle.upc_lexer.proofs.FoundLemmas.{took_name, took_token}
use Rattle.upc_lexer.proofs.lexing.take_token.Goals as goal

pub returns-in_ok-push_token-in-Ok-Name-clause-ok : goal.returns-in_ok-push_token-in-Ok-Name-clause-ok
returns-in_ok-push_token-in-Ok-Name-clause-ok c =
    let found : Finds c.args.bytes.now (Name c.in-Ok-Name.length) =
    subst (Finds c.args.bytes.now) c.in-Ok-Name.field-0-is (subst (λ r. IfOk r (Finds c.args.bytes.now)) c.in-Ok-Name.is c.in_ok-length.ensures.ok) in
    let pushed = c.in_ok-push_token-in-Ok-Name.ensures in
    let named = c.in_ok-number-in-Ok-Name.ensures in
    rw pushed.names (took_name c.args.bytes.now c.in-Ok-Name.length c.args.at c.in_ok-number-in-Ok-Name.number c.args.place c.args.lexed.now.tokens.items c.push_token.new.lexed.tokens.items c.args.lexed.now.names c.insert.new.self found.0 found.1 found.2 found.3 named.number named.names pushed.tokens)

pub returns-in_ok-push_token-in-Ok-Token-clause-ok : goal.returns-in_ok-push_token-in-Ok-Token-clause-ok
returns-in_ok-push_token-in-Ok-Token-clause-ok c =
    let found : Finds c.args.bytes.now (Token c.in-Ok-Token.kind c.in-Ok-Token.length) =
    subst (Finds c.args.bytes.now) c.in-Ok-Token.field-0-is (subst (λ r. IfOk r (Finds c.args.bytes.now)) c.in-Ok-Token.is c.in_ok-length.ensures.ok) in
    let pushed = c.in_ok-push_token-in-Ok-Token.ensures in
    rw pushed.names (took_token c.args.bytes.now c.in-Ok-Token.length c.args.at c.in-Ok-Token.kind c.args.place c.args.lexed.now.tokens.items c.push_token-in-Ok-Token.new.lexed.tokens.items c.args.lexed.now.names found.0 found.1 found.2 pushed.tokens)
