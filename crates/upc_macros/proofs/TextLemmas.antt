-- What tokens and lines of text become.
use Rattle.std.proofs.Common.{◌≡◌, ℕ, ◌+◌, ◌-◌, ◌<◌, ◌≤◌, suc, true, false, List, [], ◌∷◌, ◌++◌, length, get_or, take, drop, set, append-nil, append_assoc, add-one, Option, Some, None, refl, sym, ap, ◌∙◌, subst, arith}
use Rattle.std.specs.List.{slice_get}
use Rattle.std.proofs.Math.Seq.{drop-cons, take-suc}
use Rattle.std.proofs.Math.ListN.{length-set}
use Rattle.std.proofs.lemmas.List.{length-map, take-append-drop, take_all}
use Rattle.upc_text.specs.declared.place.Code.TheVariants.{Directive}
use Rattle.upc_text.specs.declared.faults.Stop.{Stop}
use Rattle.upc_text.specs.declared.faults.Stop.TheVariants.{Refused}
use Rattle.upc_lexer.specs.declared.token.Token.{Token}
use Rattle.upc_lexer.specs.declared.token.TokenKind.TheVariants.{Name}
use Rattle.upc_macros.specs.declared.table.Body.{Body}
use Rattle.upc_macros.specs.Replacing.{Macros, plain, replaced}
use Rattle.upc_macros.specs.Expansion.{Item, bad, is_hash, token_items, text_items, first_refusal}
use Rattle.upc_macros.specs.code.Table.{seen, NamesNoMacro, macro_count, Takes, StopsIn}
use Rattle.upc_macros.specs.code.Walk.{placed_items, pending}
use Rattle.upc_macros.proofs.Tables.{names_none, names_some, seen-taken, taken_count, count_within}
use Rattle.upc_macros.proofs.Refusals.{takes_append, stops_later, stops_before}
use Rattle.upc_macros.proofs.WalkLemmas.{entered, replaced_plain, replaced_macro}

-- the whole of a macro that was taken out of the table
pub whole_macro : (source : List ℕ) (tokens : List Token) (before : ℕ) (table taken : List (Option Body)) (t : Token) (n : ℕ) (b : Body) → t.kind ≡ Name n → slice_get table n ≡ Some (Some b) → taken ≡ set table n None → pending source tokens (length taken - 1) taken (entered n before b ∷ []) ≡ replaced (length table) source (seen tokens table) t
whole_macro source tokens before table taken t n b k e f =
    let one : length table ≡ suc (length taken - 1) = omega (arith, ap length f, length-set table n None, taken_count table n b e, count_within table) in
    let macros : seen tokens taken ≡ _ = ap (seen tokens) f ∙ seen-taken tokens table n in
    rw (one, replaced_macro (length taken - 1) source (seen tokens table) t n _ k (names_some tokens table t n b k e), macros) (append-nil _)

pub some_left : (table taken : List (Option Body)) (n : ℕ) (b : Body) → slice_get table n ≡ Some (Some b) → taken ≡ set table n None → macro_count taken + 1 ≤ length taken
some_left table taken n b e f = omega (arith, ap length f, ap macro_count f, length-set table n None, taken_count table n b e, count_within table)

pub whole_plain : (source : List ℕ) (tokens : List Token) (table : List (Option Body)) (t : Token) → NamesNoMacro table t.kind → replaced (length table) source (seen tokens table) t ≡ plain source t ∷ []
whole_plain source tokens table t none = replaced_plain (length table) source (seen tokens table) t (names_none tokens table t t.kind refl none)

-- ---- a line of text

pub text_items-append : (source : List ℕ) (macros : Macros) (xs ys : List Token) → text_items source macros (xs ++ ys) ≡ text_items source macros xs ++ text_items source macros ys
text_items-append source macros [] ys = refl
text_items-append source macros (x ∷ xs) ys = ap (λ l. token_items source macros x ++ l) (text_items-append source macros xs ys) ∙ sym (append_assoc (token_items source macros x) (text_items source macros xs) (text_items source macros ys))

no_hash_items : (source : List ℕ) (tokens : List Token) (table : List (Option Body)) (t : Token) → is_hash t.kind ≡ false → token_items source (seen tokens table) t ≡ placed_items t.place (replaced (length table) source (seen tokens table) t)
no_hash_items source tokens table t h = rw (h, length-map table _) refl

hash_items : (source : List ℕ) (macros : Macros) (t : Token) → is_hash t.kind ≡ true → token_items source macros t ≡ bad t.place ∷ []
hash_items source macros t h = rw h refl

front_more : (line : List Token) (i : ℕ) (t : Token) → i < length line → t ≡ get_or line i t → take (i + 1) line ≡ take i line ++ t ∷ []
front_more line i t lt e = rw add-one (take-suc line i t lt ∙ ap (λ x. take i line ++ x ∷ []) (sym e))

split_at : (line : List Token) (i : ℕ) (t : Token) → i < length line → t ≡ get_or line i t → line ≡ take i line ++ t ∷ drop (suc i) line
split_at line i t lt e = sym (take-append-drop i line) ∙ ap (λ l. take i line ++ l) (drop-cons line i t lt ∙ ap (λ x. x ∷ drop (suc i) line) (sym e))

one_item : (source : List ℕ) (macros : Macros) (t : Token) → text_items source macros (t ∷ []) ≡ token_items source macros t
one_item source macros t = append-nil (token_items source macros t)

-- one token more
pub text_more : (source : List ℕ) (tokens : List Token) (table : List (Option Body)) (line : List Token) (i : ℕ) (t : Token) (old mid new : List Token) → i < length line → t ≡ get_or line i t → is_hash t.kind ≡ false → Takes old mid (text_items source (seen tokens table) (take i line)) → Takes mid new (placed_items t.place (replaced (length table) source (seen tokens table) t)) → Takes old new (text_items source (seen tokens table) (take (i + 1) line))
text_more source tokens table line i t old mid new lt e h k l =
    let items : text_items source (seen tokens table) (take (i + 1) line) ≡ text_items source (seen tokens table) (take i line) ++ placed_items t.place (replaced (length table) source (seen tokens table) t) =
    ap (text_items source (seen tokens table)) (front_more line i t lt e) ∙ text_items-append source (seen tokens table) (take i line) (t ∷ []) ∙ ap (λ l. text_items source (seen tokens table) (take i line) ++ l) (one_item source (seen tokens table) t ∙ no_hash_items source tokens table t h) in
    subst (Takes old new) (sym items) (takes_append old mid new _ _ k l)

-- a token that stops it
stops_at : (source : List ℕ) (macros : Macros) (line : List Token) (i : ℕ) (t : Token) (old mid : List Token) (its : List Item) (stop : Stop) → i < length line → t ≡ get_or line i t → token_items source macros t ≡ its → Takes old mid (text_items source macros (take i line)) → StopsIn (length mid) its stop → StopsIn (length old) (text_items source macros line) stop
stops_at source macros line i t old mid its stop lt e f k s =
    let items : text_items source macros line ≡ text_items source macros (take i line) ++ (its ++ text_items source macros (drop (suc i) line)) =
    ap (text_items source macros) (split_at line i t lt e) ∙ text_items-append source macros (take i line) (t ∷ drop (suc i) line) ∙ ap (λ l. text_items source macros (take i line) ++ (l ++ text_items source macros (drop (suc i) line))) f in
    subst (λ l. StopsIn (length old) l stop) (sym items) (stops_later old mid _ _ stop k (stops_before (length mid) its _ stop s))

pub text_stops : (source : List ℕ) (tokens : List Token) (table : List (Option Body)) (line : List Token) (i : ℕ) (t : Token) (old mid : List Token) (stop : Stop) → i < length line → t ≡ get_or line i t → is_hash t.kind ≡ false → Takes old mid (text_items source (seen tokens table) (take i line)) → StopsIn (length mid) (placed_items t.place (replaced (length table) source (seen tokens table) t)) stop → StopsIn (length old) (text_items source (seen tokens table) line) stop
text_stops source tokens table line i t old mid stop lt e h k s = stops_at source (seen tokens table) line i t old mid _ stop lt e (no_hash_items source tokens table t h) k s

pub text_hash : (source : List ℕ) (macros : Macros) (line : List Token) (i : ℕ) (t : Token) (old mid : List Token) → i < length line → t ≡ get_or line i t → is_hash t.kind ≡ true → Takes old mid (text_items source macros (take i line)) → first_refusal (length old) (text_items source macros line) ≡ Some (record { place = t.place; code = Directive })
text_hash source macros line i t old mid lt e h k = stops_at source macros line i t old mid (bad t.place ∷ []) (Refused (record { place = t.place; code = Directive })) lt e (hash_items source macros t h) k refl

pub text_all : (source : List ℕ) (macros : Macros) (line : List Token) (i : ℕ) (old new : List Token) → length line ≤ i → Takes old new (text_items source macros (take i line)) → Takes old new (text_items source macros line)
text_all source macros line i old new le k = subst (λ l. Takes old new (text_items source macros l)) (take_all i line le) k
