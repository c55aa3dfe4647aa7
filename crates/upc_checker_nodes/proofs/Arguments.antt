-- Arguments and parameters, side by side.
use Rattle.std.proofs.Common.{◌≡◌, ℕ, zero, suc, ◌+◌, nat_le, Bool, true, false, arith, List, [], ◌∷◌, length, map}
use Rattle.std.proofs.Common.{drop, Option, Some, None, refl, sym, ap, ◌∙◌}
use Rattle.std.proofs.lemmas.List.{drop-drop, drop-map, drop_all}
use Rattle.std.proofs.lemmas.Bool.{le-leb, lt-leb, leb-true, leb-false}
use Rattle.upc_types.specs.Types.{CType, Base}
use Rattle.typing_rules.specs.declared.library.LibraryParameter.{LibraryParameter}
use Rattle.typing_rules.specs.declared.format.Awaits.{Awaits}
use Rattle.typing_rules.specs.declared.format.Awaits.TheVariants.{Anything, AfterPercent, AfterZero, AfterDigit}
use Rattle.typing_rules.specs.declared.format.Awaits.TheVariants.{AfterDigits, AfterL}
use Rattle.typing_rules.specs.declared.format.Printed.{Printed}
use Rattle.typing_rules.specs.declared.format.FormatStep.TheVariants.{Goes, Prints}
use Rattle.typing_rules.specs.Nodes.{Attr}
use Rattle.typing_rules.specs.Rules.{first_converts, all_convert, first_taken, all_taken, first_is_no_function}
use Rattle.typing_rules.specs.Rules.{no_functions}
use Rattle.typing_rules.specs.Format.{step, go_on, one_more, conversions, takes, is_anything, all_printed, prints_by}

-- What is left after one more part.
pub one_less : {X Y : Type 0} (f : X → Y) (xs : List X) (i : ℕ) → drop 1 (map f (drop i xs)) ≡ map f (drop (i + 1) xs)
one_less f xs i = drop-map f 1 (drop i xs) ∙ ap (map f) (drop-drop 1 i xs)

pub all_convert_more : (args : List Attr) (t : CType) (ts : List CType) → first_converts args t ≡ true →
    all_convert args (t ∷ ts) ≡ all_convert (drop 1 args) ts
all_convert_more [] t ts h = refl
all_convert_more (a ∷ args) t ts h = rw h refl

pub all_convert_end : (args : List Attr) → all_convert args [] ≡ true
all_convert_end [] = refl
all_convert_end (a ∷ args) = refl

pub all_taken_more : (args : List Attr) (x : LibraryParameter) (xs : List LibraryParameter) → first_taken args x
    ≡ true → all_taken args (x ∷ xs) ≡ all_taken (drop 1 args) xs
all_taken_more [] x xs h = refl
all_taken_more (a ∷ args) x xs h = rw h refl

pub all_taken_end : (args : List Attr) → all_taken args [] ≡ true
all_taken_end [] = refl
all_taken_end (a ∷ args) = refl

pub no_functions_more : (args : List Attr) (x : LibraryParameter) (xs : List LibraryParameter) →
    first_is_no_function args x ≡ true → no_functions args (x ∷ xs) ≡ no_functions (drop 1 args) xs
no_functions_more [] x xs h = refl
no_functions_more (a ∷ args) x xs h = rw h refl

pub no_functions_end : (args : List Attr) → no_functions args [] ≡ true
no_functions_end [] = refl
no_functions_end (a ∷ args) = refl

-- ---- formats

more_by : (p : Printed) (o : Option (List Printed)) (bs : List Base) → takes p bs ≡ true →
    prints_by (one_more p o) bs ≡ prints_by o (drop 1 bs)
more_by p None [] h = absurd cc
more_by p (Some ps) [] h = absurd cc
more_by p None (b ∷ bs) h = refl
more_by p (Some ps) (b ∷ bs) h = rw h refl

less_by : (p : Printed) (o : Option (List Printed)) (bs : List Base) → takes p bs ≡ false →
    prints_by (one_more p o) bs ≡ false
less_by p None bs h = refl
less_by p (Some ps) [] h = refl
less_by p (Some ps) (b ∷ bs) h = rw h refl

at_byte : (s : Awaits) (b : ℕ) (rest : List ℕ) → conversions s (b ∷ rest)
    ≡ go_on (step s b) (λ state. conversions state rest)
at_byte Anything b rest = refl
at_byte AfterPercent b rest = refl
at_byte AfterZero b rest = refl
at_byte AfterDigit b rest = refl
at_byte AfterDigits b rest = refl
at_byte AfterL b rest = refl

-- A byte that goes on.
pub goes : (s t : Awaits) (b : ℕ) (rest : List ℕ) (bs : List Base) → step s b ≡ Goes t →
    prints_by (conversions s (b ∷ rest)) bs ≡ prints_by (conversions t rest) bs
goes s t b rest bs h =
    ap (λ o. prints_by o bs) (at_byte s b rest ∙ ap (λ x. go_on x (λ state. conversions state rest)) h)

-- A byte that ends a conversion, with a value that fits.
pub printed : (s : Awaits) (p : Printed) (b : ℕ) (rest : List ℕ) (bs : List Base) → step s b ≡ Prints p →
    takes p bs ≡ true → prints_by (conversions s (b ∷ rest)) bs ≡ prints_by (conversions Anything rest) (drop 1 bs)
printed s p b rest bs h k =
    ap (λ o. prints_by o bs) (at_byte s b rest ∙ ap (λ x. go_on x (λ state. conversions state rest)) h)
    ∙ more_by p (conversions Anything rest) bs k

-- So with none that fits.
pub unprinted : (s : Awaits) (p : Printed) (b : ℕ) (rest : List ℕ) (bs : List Base) → step s b ≡ Prints p →
    takes p bs ≡ false → prints_by (conversions s (b ∷ rest)) bs ≡ false
unprinted s p b rest bs h k =
    ap (λ o. prints_by o bs) (at_byte s b rest ∙ ap (λ x. go_on x (λ state. conversions state rest)) h)
    ∙ less_by p (conversions Anything rest) bs k

pub anything_is : (s : Awaits) → is_anything s ≡ true → s ≡ Anything
anything_is Anything h = refl
anything_is AfterPercent h = absurd cc
anything_is AfterZero h = absurd cc
anything_is AfterDigit h = absurd cc
anything_is AfterDigits h = absurd cc
anything_is AfterL h = absurd cc

both_more : (a b : ℕ) (c : Bool) → nat_le a b ≡ c → nat_le (suc a) (suc b) ≡ c
both_more a b true h = le-leb (suc a) (suc b) (omega (arith, leb-true a b h))
both_more a b false h = lt-leb (suc a) (suc b) (omega (arith, leb-false a b h))

-- At the end no value is left.
pub used_up : {X Y : Type 0} (f : Y → Base) (g : X → Y) (xs : List X) (u : ℕ) →
    all_printed [] (map f (map g (drop u xs))) ≡ nat_le (length xs) u
used_up {X} f g [] u =
    ap (λ (l : List X). all_printed [] (map f (map g l))) (drop_all u [] (omega arith))
    ∙ sym (le-leb 0 u (omega arith))
used_up f g (x ∷ xs) zero = sym (lt-leb (length (x ∷ xs)) 0 (omega arith))
used_up f g (x ∷ xs) (suc u) = used_up f g xs u ∙ sym (both_more (length xs) u (nat_le (length xs) u) refl)
