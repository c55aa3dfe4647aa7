-- The first refusal among items.
use Rattle.std.proofs.Common.{◌≡◌, ℕ, ◌+◌, suc, List, [], ◌∷◌, ◌++◌, length, map, append-nil, append_assoc, length-append, Option, Some, None, refl, sym, ap, ◌∙◌, arith}
use Rattle.std.proofs.lemmas.List.{map-append, length-map}
use Rattle.upc_text.specs.declared.place.Refusal.{Refusal}
use Rattle.upc_text.specs.declared.faults.Stop.{Stop}
use Rattle.upc_text.specs.declared.faults.Stop.TheVariants.{Refused, Memory}
use Rattle.upc_lexer.specs.declared.token.Token.{Token}
use Rattle.upc_macros.specs.Expansion.{Item, given, bad, token_refusal, first_refusal}
use Rattle.upc_macros.specs.code.Table.{Takes, StopsIn}
use Rattle.std.specs.Option.{option_or}

or_first_twice : (a b c : Option Refusal) → option_or a (option_or b c) ≡ option_or (option_or a b) c
or_first_twice None b c = refl
or_first_twice (Some r) b c = refl

-- of two lists of items: the first refusal of the one, else of the other
pub first_refusal-append : (n : ℕ) (xs ys : List Item) → first_refusal n (xs ++ ys) ≡ option_or (first_refusal n xs) (first_refusal (n + length xs) ys)
first_refusal-append n [] ys = let k : n + 0 ≡ n = omega arith in rw k refl
first_refusal-append n (bad p ∷ xs) ys = refl
first_refusal-append n (given t ∷ xs) ys =
    let k : n + suc (length xs) ≡ 1 + n + length xs = omega arith in
    rw (first_refusal-append (1 + n) xs ys, k) (or_first_twice (token_refusal n t) (first_refusal (1 + n) xs) (first_refusal (1 + n + length xs) ys))

pub takes_nothing : (old : List Token) → Takes old old []
takes_nothing old = record { tokens = []; new_is = sym (append-nil old); items_are = refl; passes = refl }

pub takes_append : (old mid new : List Token) (xs ys : List Item) → Takes old mid xs → Takes mid new ys → Takes old new (xs ++ ys)
takes_append old mid new xs ys h g =
    let n : length mid ≡ length old + length xs = ap length h.new_is ∙ length-append old h.tokens ∙ ap (λ k. length old + k) (sym (length-map h.tokens given) ∙ ap length (sym h.items_are)) in
    record {
      tokens = h.tokens ++ g.tokens;
      new_is = g.new_is ∙ ap (λ l. l ++ g.tokens) h.new_is ∙ append_assoc old h.tokens g.tokens;
      items_are = ap (λ l. l ++ ys) h.items_are ∙ ap (λ l. map given h.tokens ++ l) g.items_are ∙ sym (map-append given h.tokens g.tokens);
      passes = first_refusal-append (length old) xs ys ∙ rw h.passes (ap (λ k. first_refusal k ys) (sym n) ∙ g.passes);
    }

-- a refusal is the first if what is before it passes
pub stops_later : (old mid : List Token) (xs ys : List Item) (stop : Stop) → Takes old mid xs → StopsIn (length mid) ys stop → StopsIn (length old) (xs ++ ys) stop
stops_later old mid xs ys Memory h g = tt
stops_later old mid xs ys (Refused r) h g =
    let n : length mid ≡ length old + length xs = ap length h.new_is ∙ length-append old h.tokens ∙ ap (λ k. length old + k) (sym (length-map h.tokens given) ∙ ap length (sym h.items_are)) in
    first_refusal-append (length old) xs ys ∙ rw h.passes (ap (λ k. first_refusal k ys) (sym n) ∙ g)

-- and stays so whatever is after it
pub stops_before : (n : ℕ) (xs ys : List Item) (stop : Stop) → StopsIn n xs stop → StopsIn n (xs ++ ys) stop
stops_before n xs ys Memory h = tt
stops_before n xs ys (Refused r) h = first_refusal-append n xs ys ∙ rw h refl
