use Rattle.std.proofs.Common.{sym, map, string_bytes, true≢false}
use Rattle.clap.specs.Words.{found_of, rows_of}
use Rattle.upc_top_words.specs.Values.{view_call}
use Rattle.upc_top_words.proofs.Taken.{in_range, nothing, nothing_allowed, nothing_by_mode}
use Rattle.upc_top_words.proofs.words.read_words.Goals as goal

pub returns-in_default-clause-reason : goal.returns-in_default-clause-reason
returns-in_default-clause-reason c = λ _. nothing_by_mode (map string_bytes c.args.words.now) (rows_of (found_of c.in_ok-matches.matches)) c.in_ok-matches.ensures.found c.in_ok-matches.ensures.given (sym c.in_default.ensures)

pub returns-in_default-clause-usage : goal.returns-in_default-clause-usage
returns-in_default-clause-usage c = λ _. nothing (map string_bytes c.args.words.now) (nothing_by_mode (map string_bytes c.args.words.now) (rows_of (found_of c.in_ok-matches.matches)) c.in_ok-matches.ensures.found c.in_ok-matches.ensures.given (sym c.in_default.ensures))

pub is_allowed-requires : goal.is_allowed-requires
is_allowed-requires c = in_range (rows_of (found_of c.in_ok-matches.matches)) (view_call c.in-Some.call) c.in_ok-matches.ensures.given (sym c.in-Some.ensures)

pub returns-then-not-is_allowed-clause-reason : goal.returns-then-not-is_allowed-clause-reason
returns-then-not-is_allowed-clause-reason c = λ _. nothing_allowed (map string_bytes c.args.words.now) (rows_of (found_of c.in_ok-matches.matches)) (view_call c.in-Some.call) c.in_ok-matches.ensures.found (sym c.in-Some.ensures) (λ allowed. true≢false (sym (c.if-not-is_allowed.ensures.1 allowed)))

pub returns-then-not-is_allowed-clause-usage : goal.returns-then-not-is_allowed-clause-usage
returns-then-not-is_allowed-clause-usage c = λ _. nothing (map string_bytes c.args.words.now) (nothing_allowed (map string_bytes c.args.words.now) (rows_of (found_of c.in_ok-matches.matches)) (view_call c.in-Some.call) c.in_ok-matches.ensures.found (sym c.in-Some.ensures) (λ allowed. true≢false (sym (c.if-not-is_allowed.ensures.1 allowed))))

pub returns-clause-range : goal.returns-clause-range
returns-clause-range c = in_range (rows_of (found_of c.in_ok-matches.matches)) (view_call c.in-Some.call) c.in_ok-matches.ensures.given (sym c.in-Some.ensures)
