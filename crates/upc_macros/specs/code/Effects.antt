-- What the code says that a directive does.
use Rattle.std.specs.Prelude.{◌≡◌, ℕ, ◌<◌, true, false, codes, List}
use Rattle.upc_lexer.specs.declared.token.Token.{Token}
use Rattle.upc_macros.specs.declared.directives.Effect.{Effect as Change}
use Rattle.upc_macros.specs.declared.directives.Effect.TheVariants.{Nothing, Pragma, Define, Undefine}
use Rattle.upc_macros.specs.declared.directives.Keyword.{Keyword}
use Rattle.upc_macros.specs.declared.directives.Keyword.TheVariants as key
use Rattle.upc_macros.specs.declared.directives.Keyword.TheVariants.{Include, Undef, Other}
use Rattle.upc_macros.specs.Spelling.{is_spelled}
use Rattle.upc_macros.specs.Directives.{Effect, nothing, pragma, define, undefine}
use Rattle.upc_macros.specs.code.Table.{body_tokens, IsBody}

-- What a directive does as the code holds it, with the tokens of a macro from those of the source.
abbrev pub effect_seen : List Token → Change → Effect
effect_seen tokens Nothing = nothing
effect_seen tokens (Pragma strict) = pragma strict
effect_seen tokens (Define n b) = define n (body_tokens tokens b)
effect_seen tokens (Undefine n) = undefine n

-- What a directive does as the code holds it names a name of the source, and tokens of it.
abbrev pub IsChange : List Token → ℕ → Change → Type 0
IsChange tokens names Nothing = Unit {0}
IsChange tokens names (Pragma strict) = Unit {0}
IsChange tokens names (Define n b) = (n < names) × IsBody tokens b
IsChange tokens names (Undefine n) = n < names

-- The word with which a directive begins is this one, or is none of those that the profile has (C99 6.10).
abbrev pub IsKeyword : List ℕ → Token → Keyword → Type 0
IsKeyword source t Include = is_spelled source t (codes "include") ≡ true
IsKeyword source t key.Define = (is_spelled source t (codes "include") ≡ false)
    × (is_spelled source t (codes "define") ≡ true)
IsKeyword source t Undef = (is_spelled source t (codes "include") ≡ false)
    × (is_spelled source t (codes "define") ≡ false) × (is_spelled source t (codes "undef") ≡ true)
IsKeyword source t key.Pragma = (is_spelled source t (codes "include") ≡ false)
    × (is_spelled source t (codes "define") ≡ false) × (is_spelled source t (codes "undef") ≡ false)
    × (is_spelled source t (codes "pragma") ≡ true)
IsKeyword source t Other = (is_spelled source t (codes "include") ≡ false)
    × (is_spelled source t (codes "define") ≡ false) × (is_spelled source t (codes "undef") ≡ false)
    × (is_spelled source t (codes "pragma") ≡ false)
