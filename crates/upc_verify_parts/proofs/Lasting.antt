-- The last item of a record, by its number.
use Rattle.std.proofs.Common.{◌≡◌, ◌-◌, List, [], ◌∷◌, length, Option, Some, None, slice_get, refl, sym, ap, ◌∙◌, arith}
use Rattle.upc_values.specs.declared.record.Item.{Item}
use Rattle.upc_values.specs.Records.{last_from, last_item}

last-from_get : (o : Option Item) (x : Item) (xs : List Item) → last_from o (x ∷ xs) ≡ slice_get (x ∷ xs) (length xs)
last-from_get o x [] = refl
last-from_get o x (y ∷ ys) = last-from_get (Some x) y ys

pub last-get : (xs : List Item) → last_item xs ≡ slice_get xs (length xs - 1)
last-get [] = refl
last-get (x ∷ xs) =
    last-from_get None x xs ∙ ap (slice_get (x ∷ xs)) (let e : length xs ≡ length (x ∷ xs) - 1 = omega arith in e)
