use Rattle.std.specs.Prelude.{replicate}
use Rattle.upc_macros.specs.declared.table.Body.{Body}
use Rattle.upc_macros.specs.declared.known.Gift.{Gift}
use Rattle.std.proofs.Common.{Bool, false, Option, None, rules, ◌≡◌, ◌+◌, ◌-◌, ◌≤◌, ℕ, List, ◌∷◌, ◌∙◌, sym, ap, subst, length, take, drop, arith}
use Rattle.std.proofs.lemmas.Result.{err_from_is_err_and}
use Rattle.upc_lexer.specs.declared.token.Token.{Token}
use Rattle.upc_lexer.specs.Numbers.{NumbersFit}
use Rattle.upc_lexer.proofs.Fitting.{numbers_fit}
use Rattle.upc_macros.specs.Expansion.{lines_of, StopsExpansion}
use Rattle.upc_macros.specs.code.Lines.{LineDone, LineStops}
use Rattle.upc_macros.proofs.Order.{tokens_in_order}
use Rattle.upc_macros.proofs.DirectiveLemmas.{rest_is}
use Rattle.upc_macros.proofs.KnownLemmas.{none_known}
use Rattle.upc_macros.proofs.LineLemmas.{start, line_more, line_refused}
use Rattle.upc_macros.proofs.Fitting.{expanded_fits}
use Rattle.upc_macros.proofs.lines.expand.Goals as goal

pub loop-at-init : goal.loop-at-init
loop-at-init c =
    let same : c.in_ok-macros.macros.items ≡ replicate c.len.result None = c.in_ok-macros.ensures.items_if_clones_equal (λ y h. search rules) in
    let none = same ∙ ap (λ (n : ℕ). replicate {A = Option Body} n None) c.len.ensures in
    let lines = start c.args.source.now c.as_slice-tokens.result.now (length c.args.lexed.now.names) c.in_ok-macros.macros.items none in
    record {
      lines = rw c.new-expanded.ensures.items lines;
      since = omega (arith, c.in_ok-known.ensures.since);
      known = none_known c.args.source.now c.as_slice-tokens.result.now c.in_ok-macros.macros.items c.new-expanded.result.items c.in_ok-known.known (length c.args.lexed.now.names) none (c.in_ok-known.ensures.defined ∙ ap (λ (n : ℕ). replicate {A = Bool} n false) c.len-2.ensures) (c.in_ok-known.ensures.gifts ∙ ap (λ (n : ℕ). replicate {A = Option Gift} n None) c.len-2.ensures);
    }

pub expand_line-requires-clause-tokens : goal.expand_line-requires-clause-tokens
expand_line-requires-clause-tokens c =
    rw (c.as_slice-tokens.ensures.value, c.loop-at.invariant.lines.same_length) (tokens_in_order c.args.source.now c.args.lexed.now.tokens.items c.args.lexed.now.names c.requires)

pub returns-in_err-expand_line-clause-refused : goal.returns-in_err-expand_line-clause-refused
returns-in_err-expand_line-clause-refused c =
    let n = c.line_length.result in
    let tokens = c.as_slice-tokens.result.now in
    let stop = c.in_err-expand_line.field-0.0 in
    let p = err_from_is_err_and c.from_residual-in_err-expand_line.result c.from_residual-in_err-expand_line.ensures.1 in
    let lines = subst (λ (l : List Token). lines_of l ≡ take n l ∷ lines_of (drop n l)) (rest_is c.loop-at.at tokens) c.line_length.ensures.lines in
    let count : c.loop-at.at + n - c.loop-at.at ≡ n = omega arith in
    let stops = subst (λ k. LineStops c.args.source.now tokens (take k (drop c.loop-at.at tokens)) c.loop-at.macros.items c.loop-at.expanded.items stop) count c.in_err-expand_line.ensures.err in
    let refused = line_refused c.args.source.now tokens (length c.args.lexed.now.names) c.loop-at.at n c.loop-at.macros.items c.loop-at.expanded.items stop c.loop-at.invariant.lines lines stops in
    rw (p.1, p.2) (subst (λ (ts : List Token). StopsExpansion c.args.source.now ts (length c.args.lexed.now.names) stop) c.as_slice-tokens.ensures.value refused)

pub loop-at-preserved : goal.loop-at-preserved
loop-at-preserved c =
    let n = c.line_length.result in
    let tokens = c.as_slice-tokens.result.now in
    let lines = subst (λ (l : List Token). lines_of l ≡ take n l ∷ lines_of (drop n l)) (rest_is c.loop-at.at tokens) c.line_length.ensures.lines in
    let within = subst (λ (l : List Token). n ≤ length l) (rest_is c.loop-at.at tokens) c.line_length.ensures.within in
    let count : c.loop-at.at + n - c.loop-at.at ≡ n = omega arith in
    let done = subst (λ k. LineDone c.args.source.now tokens (take k (drop c.loop-at.at tokens)) c.loop-at.macros.items c.expand_line.new.macros.items c.loop-at.expanded.items c.expand_line.new.expanded.items) count c.in_ok-expand_line.ensures.ok in
    record {
      lines = line_more c.args.source.now tokens (length c.args.lexed.now.names) c.loop-at.at n c.loop-at.macros.items c.expand_line.new.macros.items c.loop-at.expanded.items c.expand_line.new.expanded.items c.loop-at.invariant.lines within lines done;
      since = c.in_ok-expand_line.ensures.since;
      known = c.in_ok-expand_line.ensures.known;
    }

pub returns-clause-numbers : goal.returns-clause-numbers
returns-clause-numbers c =
    let fit = subst NumbersFit (sym c.as_slice-tokens.ensures.value) (numbers_fit c.args.source.now c.args.lexed.now.tokens.items c.args.lexed.now.names c.requires) in
    expanded_fits c.args.source.now c.as_slice-tokens.result.now (length c.args.lexed.now.names) c.loop-at.at c.loop-at.macros.items c.loop-at.expanded.items fit c.loop-at.invariant.lines
