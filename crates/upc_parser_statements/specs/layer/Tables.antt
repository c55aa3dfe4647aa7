-- What a statement begins with.
use Rattle.upc_lexer.specs.declared.token.TokenKind.{TokenKind}
use Rattle.upc_lexer.specs.declared.token.TokenKind.TheVariants as tokens
use Rattle.upc_lexer.specs.declared.token.Punct.TheVariants as punct
use Rattle.upc_lexer.specs.declared.token.Word.TheVariants as words
use Rattle.upc_tree.specs.declared.mark.BarrierWord.TheVariants as barrier_word
use Rattle.upc_parser_statements.specs.declared.start.StatementStart.{StatementStart}
use Rattle.upc_parser_statements.specs.declared.start.StatementStart.TheVariants as statement_start_variant

-- What a statement is, by its first token: a compound statement, one that begins with a word, or an expression
-- statement (C99 6.8, UPC 6.6).
abbrev pub statement_start : TokenKind → StatementStart
statement_start (tokens.Punct punct.LBrace) = statement_start_variant.Block
statement_start (tokens.Word words.If) = statement_start_variant.If
statement_start (tokens.Word words.Switch) = statement_start_variant.Switch
statement_start (tokens.Word words.While) = statement_start_variant.While
statement_start (tokens.Word words.Do) = statement_start_variant.Do
statement_start (tokens.Word words.For) = statement_start_variant.For
statement_start (tokens.Word words.UpcForall) = statement_start_variant.Forall
statement_start (tokens.Word words.Break) = statement_start_variant.Break
statement_start (tokens.Word words.Continue) = statement_start_variant.Continue
statement_start (tokens.Word words.Return) = statement_start_variant.Return
statement_start (tokens.Word words.UpcNotify) = statement_start_variant.Barrier barrier_word.Notify
statement_start (tokens.Word words.UpcWait) = statement_start_variant.Barrier barrier_word.Wait
statement_start (tokens.Word words.UpcBarrier) = statement_start_variant.Barrier barrier_word.Barrier
statement_start (tokens.Word words.UpcFence) = statement_start_variant.Fence
statement_start _ = statement_start_variant.Value
