-- The numbers of an expansion are in the range of their types where those of the source are.
use Rattle.std.proofs.Common.{◌≡◌, ℕ, zero, suc, Bool, true, false, if◌then◌else◌, List, [], ◌∷◌, ◌++◌, length, drop, map, set, Option, Some, None, option_map, refl, sym, subst, arith}
use Rattle.std.specs.Prelude.{flat_map, replicate, codes, ◌||◌, nat_eq}
use Rattle.std.specs.List.{slice_index_or}
use Rattle.std.specs.Cmp.Lexicographic.{pointwise}
use Rattle.upc_text.specs.declared.place.Place.{Place}
use Rattle.upc_lexer.specs.declared.token.Token.{Token}
use Rattle.upc_lexer.specs.declared.token.TokenKind.{TokenKind}
use Rattle.upc_lexer.specs.declared.token.TokenKind.TheVariants.{Name, Word, Number, Character, Str, Punct, Pragma}
use Rattle.upc_lexer.specs.declared.token.NumberKind.TheVariants.{Int}
use Rattle.upc_lexer.specs.Numbers.{NumberFits, NumbersFit}
use Rattle.upc_macros.specs.Spelling.{between, is_spelled, are_alike, last_end}
use Rattle.upc_macros.specs.Replacing.{Macros, body_of, without, plain, or_replaced, replaced, placed}
use Rattle.upc_macros.specs.Directives.{Effect, nothing, pragma, define, undefine, header_effect, include_effect, macro_name, has_parameters, define_name, define_number, define_effect, undefine_effect, access_effect, pragma_effect, effect_of, directive_effect}
use Rattle.upc_macros.specs.declared.continuation.Reading.TheVariants.{Blank}
use Rattle.upc_macros.specs.Continuation.{goes_on}
use Rattle.upc_macros.specs.declared.table.Body.{Body}
use Rattle.upc_macros.specs.Expansion.{Item, given, bad, onto, lines_of, is_hash, token_items, text_items, effect_items, macros_after, items}
use Rattle.upc_macros.specs.code.Lines.{IsExpandedTo}

fits_append : (xs ys : List Token) → NumbersFit xs → NumbersFit ys → NumbersFit (xs ++ ys)
fits_append [] ys h i = i
fits_append (x ∷ xs) ys h i = (h.0, fits_append xs ys h.1 i)

flat_fits : (f : Token → List Token) → ((t : Token) → NumberFits t.kind → NumbersFit (f t)) → (ts : List Token) → NumbersFit ts → NumbersFit (flat_map f ts)
flat_fits f k [] h = tt
flat_fits f k (t ∷ ts) h = fits_append (f t) (flat_map f ts) (k t h.0) (flat_fits f k ts h.1)

-- ---- macros

abbrev MacrosFit : Macros → Type 0
MacrosFit [] = Unit {0}
MacrosFit (None ∷ macros) = MacrosFit macros
MacrosFit (Some body ∷ macros) = NumbersFit body × MacrosFit macros

none_fit : (names : ℕ) → MacrosFit (replicate names None)
none_fit zero = tt
none_fit (suc names) = none_fit names

set_none : (macros : Macros) (n : ℕ) → MacrosFit macros → MacrosFit (set macros n None)
set_none [] n h = tt
set_none (None ∷ macros) zero h = h
set_none (Some body ∷ macros) zero h = h.1
set_none (None ∷ macros) (suc n) h = set_none macros n h
set_none (Some body ∷ macros) (suc n) h = (h.0, set_none macros n h.1)

set_some : (macros : Macros) (n : ℕ) (body : List Token) → NumbersFit body → MacrosFit macros → MacrosFit (set macros n (Some body))
set_some [] n body b h = tt
set_some (None ∷ macros) zero body b h = (b, h)
set_some (Some old ∷ macros) zero body b h = (b, h.1)
set_some (None ∷ macros) (suc n) body b h = set_some macros n body b h
set_some (Some old ∷ macros) (suc n) body b h = (h.0, set_some macros n body b h.1)

at_fits : (macros : Macros) (n : ℕ) (body : List Token) → MacrosFit macros → slice_index_or macros n None ≡ Some body → NumbersFit body
at_fits [] n body h e = absurd cc
at_fits (None ∷ macros) zero body h e = absurd cc
at_fits (Some old ∷ macros) zero body h e = let same : old ≡ body = cc in subst NumbersFit same h.0
at_fits (None ∷ macros) (suc n) body h e = at_fits macros n body h e
at_fits (Some old ∷ macros) (suc n) body h e = at_fits macros n body h.1 e

body_fits : (macros : Macros) (t : Token) (k : TokenKind) (body : List Token) → t.kind ≡ k → MacrosFit macros → body_of macros t ≡ Some body → NumbersFit body
body_fits macros t (Name n) body k h e = at_fits macros n body h (rw k at e)
body_fits macros t (Word w) body k h e = let f = rw k at e in absurd cc
body_fits macros t (Number v l) body k h e = let f = rw k at e in absurd cc
body_fits macros t (Character v) body k h e = let f = rw k at e in absurd cc
body_fits macros t (Str v) body k h e = let f = rw k at e in absurd cc
body_fits macros t (Punct m) body k h e = let f = rw k at e in absurd cc
body_fits macros t (Pragma b) body k h e = let f = rw k at e in absurd cc

without_fits : (macros : Macros) (k : TokenKind) → MacrosFit macros → MacrosFit (without macros k)
without_fits macros (Name n) h = set_none macros n h
without_fits macros (Word w) h = h
without_fits macros (Number v l) h = h
without_fits macros (Character v) h = h
without_fits macros (Str v) h = h
without_fits macros (Punct m) h = h
without_fits macros (Pragma b) h = h

null_fits : (b : Bool) (t : Token) → NumberFits t.kind → NumberFits (if b then record t { kind = Number 0 Int } else t).kind
null_fits true t h = omega arith
null_fits false t h = h

plain_fits : (source : List ℕ) (t : Token) → NumberFits t.kind → NumberFits (plain source t).kind
plain_fits source t h = null_fits (is_spelled source t (codes "NULL")) t h

or_fits : (o : Option (List Token)) (t : Token) (replace : Token → List Token) → NumberFits t.kind → ((body : List Token) → o ≡ Some body → NumbersFit body) →
    ((u : Token) → NumberFits u.kind → NumbersFit (replace u)) → NumbersFit (or_replaced o t replace)
or_fits None t replace h b k = (h, tt)
or_fits (Some body) t replace h b k = flat_fits replace k body (b body refl)

replaced_fits : (depth : ℕ) (source : List ℕ) (macros : Macros) (t : Token) → MacrosFit macros → NumberFits t.kind → NumbersFit (replaced depth source macros t)
replaced_fits zero source macros t m h = (plain_fits source t h, tt)
replaced_fits (suc depth) source macros t m h =
    or_fits (body_of macros t) (plain source t) (replaced depth source (without macros t.kind)) (plain_fits source t h) (λ body e. body_fits macros t t.kind body refl m e)
    (λ u i. replaced_fits depth source (without macros t.kind) u (without_fits macros t.kind m) i)

-- ---- directives

abbrev EffectFits : Option Effect → Type 0
EffectFits (Some (define n body)) = NumbersFit body
EffectFits effect = Unit {0}

if_fits : (b : Bool) (x y : Option Effect) → EffectFits x → EffectFits y → EffectFits (if b then x else y)
if_fits true x y h i = h
if_fits false x y h i = i

header_fits : (text : List ℕ) → EffectFits (header_effect text)
header_fits text =
    if_fits (pointwise nat_eq text (codes "<upc_strict.h>")) _ _ tt
    (if_fits (pointwise nat_eq text (codes "<upc_relaxed.h>")) _ _ tt
    (if_fits (pointwise nat_eq text (codes "<upc.h>") || pointwise nat_eq text (codes "<upc_collective.h>")
    || pointwise nat_eq text (codes "<stdio.h>") || pointwise nat_eq text (codes "<stddef.h>")) (Some nothing) None tt tt))

include_fits : (source : List ℕ) (ts : List Token) → EffectFits (include_effect source ts)
include_fits source [] = tt
include_fits source (t ∷ ts) = header_fits (between source t.start (last_end t ts))

define_name_fits : (source : List ℕ) (old : Option (List Token)) (n : ℕ) (body : List Token) → NumbersFit body → EffectFits (define_name source old n body)
define_name_fits source None n body h = h
define_name_fits source (Some old) n body h = if_fits (are_alike source old body) (Some nothing) None tt tt

define_number_fits : (source : List ℕ) (macros : Macros) (n : Option ℕ) (body : List Token) → NumbersFit body → EffectFits (define_number source macros n body)
define_number_fits source macros None body h = tt
define_number_fits source macros (Some n) body h = define_name_fits source (slice_index_or macros n None) n body h

define_fits : (source : List ℕ) (macros : Macros) (ts : List Token) → NumbersFit ts → EffectFits (define_effect source macros ts)
define_fits source macros [] h = tt
define_fits source macros (name ∷ body) h =
    if_fits (has_parameters name body) None (define_number source macros (macro_name source name) body) tt (define_number_fits source macros (macro_name source name) body h.1)

undefine_name_fits : (n : Option ℕ) → EffectFits (option_map undefine n)
undefine_name_fits None = tt
undefine_name_fits (Some n) = tt

undefine_fits : (source : List ℕ) (ts : List Token) → EffectFits (undefine_effect source ts)
undefine_fits source [] = tt
undefine_fits source (name ∷ []) = undefine_name_fits (macro_name source name)
undefine_fits source (name ∷ t ∷ ts) = tt

access_fits : (source : List ℕ) (ts : List Token) → EffectFits (access_effect source ts)
access_fits source [] = tt
access_fits source (t ∷ []) =
    if_fits (is_spelled source t (codes "strict")) _ _ tt (if_fits (is_spelled source t (codes "relaxed")) (Some (pragma false)) None tt tt)
access_fits source (t ∷ u ∷ us) = tt

pragma_fits : (source : List ℕ) (ts : List Token) → EffectFits (pragma_effect source ts)
pragma_fits source [] = tt
pragma_fits source (t ∷ ts) = if_fits (is_spelled source t (codes "upc")) (access_effect source ts) (Some nothing) (access_fits source ts) tt

effect_fits : (source : List ℕ) (macros : Macros) (ts : List Token) → NumbersFit ts → EffectFits (effect_of source macros ts)
effect_fits source macros [] h = tt
effect_fits source macros (t ∷ ts) h =
    if_fits (is_spelled source t (codes "include")) (include_effect source ts) _ (include_fits source ts)
    (if_fits (is_spelled source t (codes "define")) (define_effect source macros ts) _ (define_fits source macros ts h.1)
    (if_fits (is_spelled source t (codes "undef")) (undefine_effect source ts) _ (undefine_fits source ts)
    (if_fits (is_spelled source t (codes "pragma")) (pragma_effect source ts) None (pragma_fits source ts) tt)))

directive_fits : (source : List ℕ) (macros : Macros) (hash : Token) (ts : List Token) → NumbersFit ts → EffectFits (directive_effect source macros hash ts)
directive_fits source macros hash ts h =
    if_fits (goes_on Blank (drop (last_end hash ts) source)) None (effect_of source macros ts) tt (effect_fits source macros ts h)

after_fits : (macros : Macros) (effect : Option Effect) → EffectFits effect → MacrosFit macros → MacrosFit (macros_after macros effect)
after_fits macros None e h = h
after_fits macros (Some nothing) e h = h
after_fits macros (Some (pragma strict)) e h = h
after_fits macros (Some (define n body)) e h = set_some macros n body e h
after_fits macros (Some (undefine n)) e h = set_none macros n h

-- ---- items

abbrev ItemFits : Item → Type 0
ItemFits (given t) = NumberFits t.kind
ItemFits (bad place) = Unit {0}

abbrev ItemsFit : List Item → Type 0
ItemsFit [] = Unit {0}
ItemsFit (x ∷ xs) = ItemFits x × ItemsFit xs

items_append : (xs ys : List Item) → ItemsFit xs → ItemsFit ys → ItemsFit (xs ++ ys)
items_append [] ys h i = i
items_append (x ∷ xs) ys h i = (h.0, items_append xs ys h.1 i)

if_items : (b : Bool) (xs ys : List Item) → ItemsFit xs → ItemsFit ys → ItemsFit (if b then xs else ys)
if_items true xs ys h i = h
if_items false xs ys h i = i

placed_fit : (place : Place) (ts : List Token) → NumbersFit ts → ItemsFit (map (λ u. given (placed place u)) ts)
placed_fit place [] h = tt
placed_fit place (t ∷ ts) h = (h.0, placed_fit place ts h.1)

token_fits : (source : List ℕ) (macros : Macros) (t : Token) → MacrosFit macros → NumberFits t.kind → ItemsFit (token_items source macros t)
token_fits source macros t m h =
    if_items (is_hash t.kind) (bad t.place ∷ []) _ (tt, tt) (placed_fit t.place (replaced (length macros) source macros t) (replaced_fits (length macros) source macros t m h))

text_fits : (source : List ℕ) (macros : Macros) (ts : List Token) → MacrosFit macros → NumbersFit ts → ItemsFit (text_items source macros ts)
text_fits source macros [] m h = tt
text_fits source macros (t ∷ ts) m h =
    items_append (token_items source macros t) (text_items source macros ts) (token_fits source macros t m h.0) (text_fits source macros ts m h.1)

effect_items_fit : (hash : Token) (ts : List Token) (effect : Option Effect) → ItemsFit (effect_items hash ts effect)
effect_items_fit hash ts None = (tt, tt)
effect_items_fit hash ts (Some nothing) = tt
effect_items_fit hash ts (Some (pragma strict)) = (tt, tt)
effect_items_fit hash ts (Some (define n body)) = tt
effect_items_fit hash ts (Some (undefine n)) = tt

-- ---- lines

abbrev LinesFit : List (List Token) → Type 0
LinesFit [] = Unit {0}
LinesFit (line ∷ lines) = NumbersFit line × LinesFit lines

if_lines : (b : Bool) (xs ys : List (List Token)) → LinesFit xs → LinesFit ys → LinesFit (if b then xs else ys)
if_lines true xs ys h i = h
if_lines false xs ys h i = i

onto_fits : (t : Token) (lines : List (List Token)) → NumberFits t.kind → LinesFit lines → LinesFit (onto t lines)
onto_fits t [] h i = ((h, tt), tt)
onto_fits t ([] ∷ lines) h i = ((h, tt), i.1)
onto_fits t ((u ∷ us) ∷ lines) h i = if_lines _ ((t ∷ u ∷ us) ∷ lines) ((t ∷ []) ∷ (u ∷ us) ∷ lines) ((h, i.0), i.1) ((h, tt), i)

lines_fit : (ts : List Token) → NumbersFit ts → LinesFit (lines_of ts)
lines_fit [] h = tt
lines_fit (t ∷ ts) h = onto_fits t (lines_of ts) h.0 (lines_fit ts h.1)

items_fit : (source : List ℕ) (macros : Macros) (lines : List (List Token)) → MacrosFit macros → LinesFit lines → ItemsFit (items source macros lines)
items_fit source macros [] m h = tt
items_fit source macros ([] ∷ lines) m h = items_fit source macros lines m h.1
items_fit source macros ((t ∷ ts) ∷ lines) m h =
    let effect = directive_effect source macros t ts in
    let after = after_fits macros effect (directive_fits source macros t ts h.0.1) m in
    if_items (is_hash t.kind) (effect_items t ts effect ++ items source (macros_after macros effect) lines) (text_items source macros (t ∷ ts) ++ items source macros lines)
    (items_append (effect_items t ts effect) (items source (macros_after macros effect) lines) (effect_items_fit t ts effect) (items_fit source (macros_after macros effect) lines after h.1))
    (items_append (text_items source macros (t ∷ ts)) (items source macros lines) (text_fits source macros (t ∷ ts) m h.0) (items_fit source macros lines m h.1))

given_fit : (ts : List Token) → ItemsFit (map given ts) → NumbersFit ts
given_fit [] h = tt
given_fit (t ∷ ts) h = (h.0, given_fit ts h.1)

items_left : (xs ys : List Item) → ItemsFit (xs ++ ys) → ItemsFit xs
items_left [] ys h = tt
items_left (x ∷ xs) ys h = (h.0, items_left xs ys h.1)

-- The numbers of what is expanded so far.
pub expanded_fits : (source : List ℕ) (tokens : List Token) (names at : ℕ) (table : List (Option Body)) (out : List Token) → NumbersFit tokens → IsExpandedTo source tokens names at table out → NumbersFit out
expanded_fits source tokens names at table out h e =
    let all = items_fit source (replicate names None) (lines_of tokens) (none_fit names) (lines_fit tokens h) in
    let its = items_left e.its _ (subst ItemsFit e.whole all) in
    subst NumbersFit (sym e.taken.new_is) (given_fit e.taken.tokens (subst ItemsFit e.taken.items_are its))
