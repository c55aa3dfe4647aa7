-- Directives (C99 6.10, without conditions and macros with parameters; UPC 6.7, 7.1).
use Rattle.std.specs.Prelude.{ℕ, Bool, true, false, ◌||◌, ◌&&◌, ◌==◌, List, [], ◌∷◌, Option, Some, None, option_map}
use Rattle.std.specs.Prelude.{slice_index_or, drop, codes, if◌then◌else◌, nat_eq}
use Rattle.std.specs.Cmp.Lexicographic.{pointwise}
use Rattle.upc_lexer.specs.declared.token.Token.{Token}
use Rattle.upc_lexer.specs.declared.token.TokenKind.{TokenKind}
use Rattle.upc_lexer.specs.declared.token.TokenKind.TheVariants.{Punct}
use Rattle.upc_lexer.specs.declared.token.Punct.TheVariants.{LParen}
use Rattle.upc_macros.specs.Spelling.{between, is_spelled, are_alike, last_end}
use Rattle.upc_macros.specs.Replacing.{Macros, name_number}
use Rattle.upc_macros.specs.declared.continuation.Reading.TheVariants.{Blank}
use Rattle.upc_macros.specs.Continuation.{goes_on}

-- What a directive does (C99 6.10; UPC 6.7, 7.1).
pub data Effect : Type 0 where
  nothing : Effect
  -- It is a pragma, strict or relaxed.
  pragma : Bool → Effect
  -- The name of this number becomes a macro for these tokens.
  define : ℕ → List Token → Effect
  -- The name of this number is no macro any more.
  undefine : ℕ → Effect

-- What an `#include` of a header does; it is no directive where the header is not accepted (C99 6.10.2, UPC 7.1).
abbrev pub header_effect : List ℕ → Option Effect
header_effect text =
    if pointwise nat_eq text (codes "<upc_strict.h>") then Some (pragma true) else (
    if pointwise nat_eq text (codes "<upc_relaxed.h>") then Some (pragma false) else (
    if pointwise nat_eq text (codes "<upc.h>") || pointwise nat_eq text (codes "<upc_collective.h>")
    || pointwise nat_eq text (codes "<stdio.h>") || pointwise nat_eq text (codes "<stddef.h>")
    then Some nothing else None))

-- What `#include` does, where all that stands after it, from the first byte to the last, is the header (C99 6.10.2).
abbrev pub include_effect : List ℕ → List Token → Option Effect
include_effect source [] = None
include_effect source (t ∷ ts) = header_effect (between source t.start (last_end t ts))

-- The number of the name that `#define` or `#undef` is given; none where the token is `NULL` or no name (C99 6.10.3).
abbrev pub macro_name : List ℕ → Token → Option ℕ
macro_name source t = if is_spelled source t (codes "NULL") then None else name_number t.kind

-- Whether a token is `(` (C99 6.4.6).
abbrev pub is_left_paren : TokenKind → Bool
is_left_paren (Punct LParen) = true
is_left_paren kind = false

-- Whether a `(` stands directly after the name of a macro, where its parameters would begin (C99 6.10.3).
abbrev pub has_parameters : Token → List Token → Bool
has_parameters name [] = false
has_parameters name (t ∷ ts) = is_left_paren t.kind && t.start == name.end

-- What a definition of a name does: a first one makes the name a macro, one more with tokens that are spelled alike
-- does nothing, and any other is no directive (C99 6.10.3).
abbrev pub define_name : List ℕ → Option (List Token) → ℕ → List Token → Option Effect
define_name source None n body = Some (define n body)
define_name source (Some old) n body = if are_alike source old body then Some nothing else None

-- What a definition of a name does, by the number of the name; without one it is no directive (C99 6.10.3).
abbrev pub define_number : List ℕ → Macros → Option ℕ → List Token → Option Effect
define_number source macros None body = None
define_number source macros (Some n) body = define_name source (slice_index_or macros n None) n body

-- What `#define NAME tokens` does; without a name, or with parameters, it is no directive (C99 6.10.3).
abbrev pub define_effect : List ℕ → Macros → List Token → Option Effect
define_effect source macros [] = None
define_effect source macros (name ∷ body) =
    if has_parameters name body
    then None
    else define_number source macros (macro_name source name) body

-- What `#undef NAME` does; without a name, or with more tokens, it is no directive (C99 6.10.3.5).
abbrev pub undefine_effect : List ℕ → List Token → Option Effect
undefine_effect source [] = None
undefine_effect source (name ∷ []) = option_map undefine (macro_name source name)
undefine_effect source (name ∷ t ∷ ts) = None

-- What `#pragma upc` does by the tokens after it, of which only `strict` alone and `relaxed` alone make a directive
-- (UPC 6.7).
abbrev pub access_effect : List ℕ → List Token → Option Effect
access_effect source [] = None
access_effect source (t ∷ []) =
    if is_spelled source t (codes "strict")
    then Some (pragma true)
    else (if is_spelled source t (codes "relaxed") then Some (pragma false) else None)
access_effect source (t ∷ u ∷ us) = None

-- What `#pragma` does by the tokens after it: one that is not of UPC does nothing, and one without tokens is no
-- directive (C99 6.10.6, UPC 6.7).
abbrev pub pragma_effect : List ℕ → List Token → Option Effect
pragma_effect source [] = None
pragma_effect source (t ∷ ts) = if is_spelled source t (codes "upc") then access_effect source ts else Some nothing

-- What the tokens after a `#` do; none where they are no directive (C99 6.10; UPC 6.7, 7.1).
abbrev pub effect_of : List ℕ → Macros → List Token → Option Effect
effect_of source macros [] = Some nothing
effect_of source macros (t ∷ ts) =
    if is_spelled source t (codes "include") then include_effect source ts else (
    if is_spelled source t (codes "define") then define_effect source macros ts else (
    if is_spelled source t (codes "undef") then undefine_effect source ts else (
    if is_spelled source t (codes "pragma") then pragma_effect source ts else None)))

-- What the directive of this `#` and of the tokens behind it does: nothing is known where they are none, or where C99
-- goes on with it past a comment that its line does not end (C99 5.1.1.2).
abbrev pub directive_effect : List ℕ → Macros → Token → List Token → Option Effect
directive_effect source macros hash ts =
    if goes_on Blank (drop (last_end hash ts) source) then None else effect_of source macros ts
