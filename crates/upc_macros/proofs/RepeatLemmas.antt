-- Tokens that are put out once more.
use Rattle.std.proofs.Common.{◌≡◌, ℕ, ◌+◌, ◌<◌, ◌≤◌, suc, List, [], ◌∷◌, ◌++◌, length, get_or, take, drop, add-one, length-take, length-drop, sym, ap, ◌∙◌, subst, arith}
use Rattle.std.proofs.Math.Seq.{drop-cons, take-suc}
use Rattle.std.proofs.lemmas.List.{map-append, take-append-drop, take-take, get_or-take, get_or-drop, get_or_append_left}
use Rattle.upc_text.specs.declared.place.Place.{Place}
use Rattle.upc_text.specs.declared.faults.Stop.{Stop}
use Rattle.upc_lexer.specs.declared.token.Token.{Token}
use Rattle.upc_lexer.specs.declared.token.TokenKind.{TokenKind}
use Rattle.upc_macros.specs.Replacing.{placed}
use Rattle.upc_macros.specs.Expansion.{given}
use Rattle.upc_macros.specs.code.Table.{Takes, StopsIn}
use Rattle.upc_macros.specs.code.Walk.{placed_items}
use Rattle.upc_macros.proofs.Refusals.{takes_append, stops_later, stops_before}

-- a token made of the parts of another one
pub one_given : (place : Place) (t : Token) (k : TokenKind) → k ≡ t.kind → given (record { kind = k; start = t.start; end = t.end; place = place }) ∷ [] ≡ given (placed place t) ∷ []
one_given place t k e = ap (λ (x : TokenKind). given (record { kind = x; start = t.start; end = t.end; place = place }) ∷ []) e

-- the token is still there after others that came
there : (old mid ts : List Token) (from i : ℕ) (t : Token) → from + i < length old → mid ≡ old ++ ts → t ≡ get_or mid (from + i) t → get_or (drop from old) i t ≡ t
there old mid ts from i t lt e k = get_or-drop from old i t ∙ sym (get_or_append_left old ts t (from + i) lt) ∙ ap (λ l. get_or l (from + i) t) (sym e) ∙ sym k

one_more : (old : List Token) (from i : ℕ) (t : Token) → from + i < length old → get_or (drop from old) i t ≡ t → take (i + 1) (drop from old) ≡ take i (drop from old) ++ t ∷ []
one_more old from i t lt e =
    let small : i < length (drop from old) = omega (arith, length-drop from old) in
    rw add-one (take-suc (drop from old) i t small ∙ ap (λ x. take i (drop from old) ++ x ∷ []) e)

pub repeat_more : (place : Place) (old mid new : List Token) (from i : ℕ) (t : Token) → from + i < length old → t ≡ get_or mid (from + i) t → Takes old mid (placed_items place (take i (drop from old))) → Takes mid new (given (placed place t) ∷ []) → Takes old new (placed_items place (take (i + 1) (drop from old)))
repeat_more place old mid new from i t lt e h k =
    let more = one_more old from i t lt (there old mid h.tokens from i t lt h.new_is e) in
    let items : placed_items place (take (i + 1) (drop from old)) ≡ placed_items place (take i (drop from old)) ++ (given (placed place t) ∷ []) = ap (placed_items place) more ∙ map-append (λ t. given (placed place t)) (take i (drop from old)) (t ∷ []) in
    subst (Takes old new) (sym items) (takes_append old mid new _ _ h k)

pub repeat_stops : (place : Place) (old mid : List Token) (from count i : ℕ) (t : Token) (stop : Stop) → i < count → from + count ≤ length old → t ≡ get_or mid (from + i) t → Takes old mid (placed_items place (take i (drop from old))) → StopsIn (length mid) (given (placed place t) ∷ []) stop → StopsIn (length old) (placed_items place (take count (drop from old))) stop
repeat_stops place old mid from count i t stop lt le e h s =
    let some = take count (drop from old) in
    let inside : from + i < length old = omega arith in
    let all : some ≡ take i some ++ drop i some = sym (take-append-drop i some) in
    let front : take i some ≡ take i (drop from old) = take-take i count (drop from old) (omega arith) in
    let here : get_or some i t ≡ t = get_or-take count (drop from old) i t lt ∙ there old mid h.tokens from i t inside h.new_is e in
    let small : i < length some = omega (arith, length-take count (drop from old), length-drop from old) in
    let behind : drop i some ≡ t ∷ drop (suc i) some = drop-cons some i t small ∙ ap (λ x. x ∷ drop (suc i) some) here in
    let items : placed_items place some ≡ placed_items place (take i (drop from old)) ++ (given (placed place t) ∷ placed_items place (drop (suc i) some)) =
    ap (placed_items place) (all ∙ ap (λ l. l ++ drop i some) front ∙ ap (λ l. take i (drop from old) ++ l) behind) ∙ map-append (λ t. given (placed place t)) (take i (drop from old)) (t ∷ drop (suc i) some) in
    subst (λ l. StopsIn (length old) l stop) (sym items) (stops_later old mid _ _ stop h (stops_before (length mid) (given (placed place t) ∷ []) _ stop s))
