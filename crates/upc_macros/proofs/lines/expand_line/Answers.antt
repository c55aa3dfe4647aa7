use Rattle.std.proofs.lemmas.Result.{on_ok_weaker}
use Rattle.std.proofs.Common.{◌<◌, ◌∙◌, sym, ap, length, arith}
use Rattle.upc_lexer.specs.declared.token.Token.{Token}
use Rattle.upc_macros.specs.Expansion.{is_hash}
use Rattle.upc_macros.proofs.DirectiveLemmas.{part_first}
use Rattle.upc_macros.proofs.KnownLemmas.{known_along}
use Rattle.upc_macros.proofs.LineLemmas.{text_done_if, hash_done_if, text_stopped_if, hash_stopped_if}
use Rattle.upc_macros.proofs.lines.expand_line.Goals as goal

pub returns-then-is_hash-clause-ok : goal.returns-then-is_hash-clause-ok
returns-then-is_hash-clause-ok c =
    let lt : c.args.begin < length c.args.tokens.now = omega (arith, c.requires.forward, c.requires.within) in
    let line = part_first c.args.tokens.now c.args.begin c.args.end c.index-tokens-begin.result c.requires.forward c.requires.within c.index-tokens-begin.is in
    hash_done_if c.directive_line.result c.args.source.now c.args.tokens.now _ c.args.macros.now.items _ c.args.expanded.now.items _ c.args.begin c.args.end c.index-tokens-begin.result line (ap (λ (t : Token). is_hash t.kind) c.index-tokens-begin.is ∙ sym c.is_hash.ensures ∙ c.if-is_hash.true) lt c.index-tokens-begin.is c.directive_line.ensures.length c.directive_line.ensures.bodies c.directive_line.ensures.macros c.directive_line.ensures.ok

pub returns-then-is_hash-clause-err : goal.returns-then-is_hash-clause-err
returns-then-is_hash-clause-err c =
    let lt : c.args.begin < length c.args.tokens.now = omega (arith, c.requires.forward, c.requires.within) in
    let line = part_first c.args.tokens.now c.args.begin c.args.end c.index-tokens-begin.result c.requires.forward c.requires.within c.index-tokens-begin.is in
    hash_stopped_if c.directive_line.result c.args.source.now c.args.tokens.now _ c.args.macros.now.items c.args.expanded.now.items c.args.begin c.args.end c.index-tokens-begin.result line (ap (λ (t : Token). is_hash t.kind) c.index-tokens-begin.is ∙ sym c.is_hash.ensures ∙ c.if-is_hash.true) lt c.index-tokens-begin.is c.directive_line.ensures.err

pub returns-else-is_hash-clause-ok : goal.returns-else-is_hash-clause-ok
returns-else-is_hash-clause-ok c =
    let line = part_first c.args.tokens.now c.args.begin c.args.end c.index-tokens-begin.result c.requires.forward c.requires.within c.index-tokens-begin.is in
    text_done_if c.text_line.result c.args.source.now c.args.tokens.now _ c.args.macros.now.items _ c.args.expanded.now.items _ c.index-tokens-begin.result _ line (ap (λ (t : Token). is_hash t.kind) c.index-tokens-begin.is ∙ sym c.is_hash.ensures ∙ c.if-is_hash.false) c.requires.bodies c.text_line.ensures.macros c.text_line.ensures.ok

pub returns-else-is_hash-clause-err : goal.returns-else-is_hash-clause-err
returns-else-is_hash-clause-err c =
    let line = part_first c.args.tokens.now c.args.begin c.args.end c.index-tokens-begin.result c.requires.forward c.requires.within c.index-tokens-begin.is in
    text_stopped_if c.text_line.result c.args.source.now c.args.tokens.now _ c.args.macros.now.items c.args.expanded.now.items c.index-tokens-begin.result _ line (ap (λ (t : Token). is_hash t.kind) c.index-tokens-begin.is ∙ sym c.is_hash.ensures ∙ c.if-is_hash.false) c.text_line.ensures.err

pub returns-else-is_hash-clause-since : goal.returns-else-is_hash-clause-since
returns-else-is_hash-clause-since c = on_ok_weaker c.text_line.result (λ e. omega (arith, c.requires.since, c.requires.forward)) c.text_line.ensures.since

pub returns-else-is_hash-clause-known : goal.returns-else-is_hash-clause-known
returns-else-is_hash-clause-known c =
    known_along c.text_line.result c.args.source.now c.args.tokens.now c.args.macros.now.items c.text_line.new.macros.items c.text_line.new.expanded.items c.text_line.new.known c.text_line.ensures.macros c.text_line.ensures.known
