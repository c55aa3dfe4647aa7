-- What a string literal's bytes stand for.
use Rattle.std.proofs.Common.{◌≡◌, ℕ, ◌+◌, ◌<◌, ◌≤◌, zero, suc, Bool, true, false, eqb, List, [], ◌∷◌, ◌++◌, length, get_or, take, drop, append-nil, append_assoc, Option, Some, None, refl, sym, ap, ◌∙◌, subst, inl, inr, arith}
use Rattle.std.proofs.lemmas.Bool.Decides.{nat_tests}
use Rattle.std.proofs.Math.Seq.{take-add, take-suc}
use Rattle.std.proofs.lemmas.List.{take-append-drop}
use Rattle.std.specs.Option.{option_map, option_and_then}
use Rattle.upc_lexer.specs.Gaps.{StopsAt}
use Rattle.upc_lexer.specs.Strings.{escape, is_plain_string, string_value, spelled_at, is_read_otherwise, IsStringBody, IsString}
use Rattle.upc_lexer.proofs.Lists.{fronts, head_is}

no_plain : (a : ℕ) → eqb a 92 ≡ true → is_plain_string a ≡ false
no_plain a h = grind (arith, nat_tests)

plain_no_escape : (a : ℕ) → is_plain_string a ≡ true → eqb a 92 ≡ false
plain_no_escape a h = grind (arith, nat_tests)

map_nothing : (r : Option (List ℕ)) → r ≡ option_map (λ w. [] ++ w) r
map_nothing None = refl
map_nothing (Some w) = refl

map_twice : (c : ℕ) (v : List ℕ) (r : Option (List ℕ)) → option_map (λ w. c ∷ w) (option_map (λ w. v ++ w) r) ≡ option_map (λ w. c ∷ (v ++ w)) r
map_twice c v None = refl
map_twice c v (Some w) = refl

mapped : (c : ℕ) (r : Option (List ℕ)) (w : List ℕ) → option_map (λ v. c ∷ v) r ≡ Some w → (v : List ℕ) × (r ≡ Some v) × (w ≡ c ∷ v)
mapped c None w e = absurd cc
mapped c (Some v) w e = (v, refl, cc)

-- the value of two texts together is that of the one with that of the other after it
one_append : (a : ℕ) (ys v : List ℕ) → is_plain_string a ≡ true → string_value (a ∷ ys) ≡ option_map (λ w. a ∷ w) (string_value ys)
one_append a [] v p = rw p refl
one_append a (y ∷ ys) v p = rw p refl

escape_append : (a b c : ℕ) (ys : List ℕ) → is_plain_string a ≡ false → eqb a 92 ≡ true → escape b ≡ Some c → string_value (a ∷ b ∷ ys) ≡ option_map (λ w. c ∷ w) (string_value ys)
escape_append a b c ys p e s = rw (p, e, s) refl

-- how a text with a value begins
data Starts (a : ℕ) (rest v : List ℕ) : Type 0 where
  plain : (w : List ℕ) → is_plain_string a ≡ true → string_value rest ≡ Some w → v ≡ a ∷ w → Starts a rest v
  escaped : (b c : ℕ) (more w : List ℕ) → is_plain_string a ≡ false → eqb a 92 ≡ true → rest ≡ b ∷ more → escape b ≡ Some c → string_value more ≡ Some w → v ≡ c ∷ w → Starts a rest v

starts_escape : (a b : ℕ) (more v : List ℕ) (c : Option ℕ) → is_plain_string a ≡ false → eqb a 92 ≡ true → escape b ≡ c → option_and_then (λ c. option_map (λ v. c ∷ v) (string_value more)) c ≡ Some v → Starts a (b ∷ more) v
starts_escape a b more v None p e s h = absurd cc
starts_escape a b more v (Some c) p e s h = let m = mapped c (string_value more) v h in escaped b c more m.0 p e refl s m.1 m.2

starts_two : (a b : ℕ) (more v : List ℕ) (p e : Bool) → is_plain_string a ≡ p → eqb a 92 ≡ e → string_value (a ∷ b ∷ more) ≡ Some v → Starts a (b ∷ more) v
starts_two a b more v true e p s h = let m = mapped a (string_value (b ∷ more)) v (rw p at h) in plain m.0 p m.1 m.2
starts_two a b more v false true p s h = starts_escape a b more v (escape b) p s refl (rw (p, s) at h)
starts_two a b more v false false p s h = let f = rw (p, s) at h in absurd cc

starts_one : (a : ℕ) (v : List ℕ) (p : Bool) → is_plain_string a ≡ p → string_value (a ∷ []) ≡ Some v → Starts a [] v
starts_one a v true p h = let f = rw p at h in plain [] p refl cc
starts_one a v false p h = let f = rw p at h in absurd cc

starts : (a : ℕ) (rest v : List ℕ) → string_value (a ∷ rest) ≡ Some v → Starts a rest v
starts a [] v h = starts_one a v _ refl h
starts a (b ∷ more) v h = starts_two a b more v _ _ refl refl h

append_by : (n : ℕ) (xs ys v : List ℕ) → length xs ≤ n → string_value xs ≡ Some v → string_value (xs ++ ys) ≡ option_map (λ w. v ++ w) (string_value ys)
append_by n [] ys v le e = let v_is : [] ≡ v = cc in rw (← v_is) (map_nothing (string_value ys))
append_by zero (a ∷ xs) ys v le e = absurd (omega arith)
append_by (suc n) (a ∷ xs) ys v le e = elim (starts a xs v e) [
  | plain w p f is ↦ rw is (one_append a (xs ++ ys) v p ∙ ap (option_map (λ w. a ∷ w)) (append_by n xs ys w (omega arith) f) ∙ map_twice a w (string_value ys))
  | escaped b c more w p s r f g is ↦
      let short : length more ≤ n = omega (arith, ap length r) in
      rw (is, r) (escape_append a b c (more ++ ys) p s f ∙ ap (option_map (λ w. c ∷ w)) (append_by n more ys w short g) ∙ map_twice c w (string_value ys))
]

pub value_append : (xs ys v : List ℕ) → string_value xs ≡ Some v → string_value (xs ++ ys) ≡ option_map (λ w. v ++ w) (string_value ys)
value_append xs ys v e = append_by (length xs) xs ys v (omega arith) e

-- what one plain byte or one escape stands for
pub record Spells (bytes : List ℕ) (byte n : ℕ) : Type 0 where
  pub within : n ≤ length bytes
  pub some : 0 < n
  pub value_is : string_value (take n bytes) ≡ Some (byte ∷ [])

abbrev first_of : Option (ℕ × ℕ) → ℕ
first_of None = 0
first_of (Some p) = p.0

abbrev second_of : Option (ℕ × ℕ) → ℕ
second_of None = 0
second_of (Some p) = p.1

spells_plain : (a : ℕ) (rest : List ℕ) (byte n : ℕ) → is_plain_string a ≡ true → ◌≡◌ {A = Option (ℕ × ℕ)} (Some (a, 1)) (Some (byte, n)) → Spells (a ∷ rest) byte n
spells_plain a rest byte n p h =
    let b : byte ≡ a = sym (ap first_of h) in
    let m : n ≡ 1 = sym (ap second_of h) in
    record { within = omega arith; some = omega arith; value_is = rw (b, m, p) refl }

spells_escape : (a b : ℕ) (rest : List ℕ) (byte n : ℕ) (c : Option ℕ) → eqb a 92 ≡ true → escape b ≡ c → option_map {U = ℕ × ℕ} (λ c. (c, 2)) c ≡ Some (byte, n) → Spells (a ∷ b ∷ rest) byte n
spells_escape a b rest byte n None e s h = absurd cc
spells_escape a b rest byte n (Some c) e s h =
    let k : byte ≡ c = sym (ap first_of h) in
    let m : n ≡ 2 = sym (ap second_of h) in
    record { within = omega arith; some = omega arith; value_is = rw (k, m) (escape_append a b c [] (no_plain a e) e s) }

spells_two : (a b : ℕ) (rest : List ℕ) (byte n : ℕ) (p e : Bool) → is_plain_string a ≡ p → eqb a 92 ≡ e → spelled_at (a ∷ b ∷ rest) ≡ Some (byte, n) → Spells (a ∷ b ∷ rest) byte n
spells_two a b rest byte n p true f e h = spells_escape a b rest byte n (escape b) e refl (rw e at h)
spells_two a b rest byte n true false p e h = spells_plain a (b ∷ rest) byte n p (rw (p, e) at h)
spells_two a b rest byte n false false p e h = let f = rw (p, e) at h in absurd cc

spells_one : (a : ℕ) (byte n : ℕ) (p : Bool) → is_plain_string a ≡ p → spelled_at (a ∷ []) ≡ Some (byte, n) → Spells (a ∷ []) byte n
spells_one a byte n true p h = spells_plain a [] byte n p (rw p at h)
spells_one a byte n false p h = let f = rw p at h in absurd cc

pub spells : (bytes : List ℕ) (byte n : ℕ) → spelled_at bytes ≡ Some (byte, n) → Spells bytes byte n
spells [] byte n h = absurd cc
spells (a ∷ []) byte n h = spells_one a byte n _ refl h
spells (a ∷ b ∷ rest) byte n h = spells_two a b rest byte n _ _ refl refl h

-- one more byte of the value
pub value_more : (at n : ℕ) (inside value : List ℕ) (byte : ℕ) → at ≤ length inside → string_value (take at inside) ≡ Some value → spelled_at (drop at inside) ≡ Some (byte, n) → string_value (take (at + n) inside) ≡ Some (value ++ byte ∷ [])
value_more at n inside value byte le e h =
    let s = spells (drop at inside) byte n h in
    rw take-add (value_append (take at inside) (take n (drop at inside)) value e ∙ rw s.value_is refl)

spelled_plain : (a : ℕ) (rest : List ℕ) → is_plain_string a ≡ true → spelled_at (a ∷ rest) ≡ None → ⊥
spelled_plain a [] p n = let f = rw p at n in cc
spelled_plain a (b ∷ rest) p n = let e = plain_no_escape a p in let f = rw (p, e) at n in cc

spelled_escape : (a b c : ℕ) (rest : List ℕ) → is_plain_string a ≡ false → eqb a 92 ≡ true → escape b ≡ Some c → spelled_at (a ∷ b ∷ rest) ≡ None → ⊥
spelled_escape a b c rest p e s n = let f = rw (p, e, s) at n in cc

-- a text with a value begins with a plain byte or an escape, whatever is after it
some_spelled : (a : ℕ) (rest v more : List ℕ) → string_value (a ∷ rest) ≡ Some v → spelled_at (a ∷ (rest ++ more)) ≡ None → ⊥
some_spelled a rest v more h n = elim (starts a rest v h) [
  | plain w p f is ↦ spelled_plain a (rest ++ more) p n
  | escaped b c tail w p s r f g is ↦ spelled_escape a b c (tail ++ more) p s f (subst (λ xs. spelled_at (a ∷ (xs ++ more)) ≡ None) r n)
]

some_of_map : (v : List ℕ) (r : Option (List ℕ)) (w : List ℕ) → option_map (λ x. v ++ x) r ≡ Some w → (x : List ℕ) × (r ≡ Some x)
some_of_map v None w e = absurd cc
some_of_map v (Some x) w e = (x, refl)

pub none_of_map : (v : List ℕ) (r : Option (List ℕ)) (w : List ℕ) → r ≡ None → option_map (λ x. v ++ x) r ≡ Some w → ⊥
none_of_map v r w n e = let f = rw n at e in cc

pub quote_no_value : (ms : List ℕ) → string_value (34 ∷ ms) ≡ None
quote_no_value [] = refl
quote_no_value (m ∷ ms) = refl

longer_value : (inside value other p r rest : List ℕ) (more : List ℕ) → string_value p ≡ Some value → spelled_at r ≡ None → StopsAt (λ b. eqb b 34) r → string_value inside ≡ Some other → inside ≡ p ++ more → r ≡ more ++ 34 ∷ rest → ⊥
longer_value inside value other p r rest [] v n st h e f = let g : true ≡ false = subst (StopsAt (λ b. eqb b 34)) f st in cc
longer_value inside value other p r rest (m ∷ more) v n st h e f =
    let whole : option_map (λ w. value ++ w) (string_value (m ∷ more)) ≡ Some other = sym (value_append p (m ∷ more) value v) ∙ ap string_value (sym e) ∙ h in
    let x = some_of_map value (string_value (m ∷ more)) other whole in
    some_spelled m more x.0 (34 ∷ rest) x.1 (ap spelled_at (sym f) ∙ n)

shorter_value : (inside value other p r rest : List ℕ) (more : List ℕ) → string_value p ≡ Some value → StopsAt (λ b. eqb b 34) r → string_value inside ≡ Some other → p ≡ inside ++ more → 34 ∷ rest ≡ more ++ r → ⊥
shorter_value inside value other p r rest [] v st h e f = let g : true ≡ false = subst (StopsAt (λ b. eqb b 34)) (sym f) st in cc
shorter_value inside value other p r rest (m ∷ more) v st h e f =
    let quote : 34 ≡ m = cc in
    let none : string_value (m ∷ more) ≡ None = subst (λ q. string_value (q ∷ more) ≡ None) quote (quote_no_value more) in
    none_of_map other (string_value (m ∷ more)) value none (sym (value_append inside (m ∷ more) other h) ∙ ap string_value (sym e) ∙ v)

-- no string stands where the bytes that may stand in it are followed by no quote
pub no_string : (at : ℕ) (inside value text rest other : List ℕ) → IsStringBody inside value at → StopsAt (λ b. eqb b 34) (drop at inside) → 34 ∷ inside ≡ text ++ rest → IsString text other → ⊥
no_string at inside value text rest other body st e h =
    let whole : 34 ∷ inside ≡ 34 ∷ (h.inside ++ 34 ∷ []) ++ rest = e ∙ ap (λ t. t ++ rest) h.quoted in
    let same : inside ≡ h.inside ++ 34 ∷ rest = (head_is {x = 34} {y = 34} whole).1 ∙ append_assoc h.inside (34 ∷ []) rest in
    elim (fronts (take at inside) (drop at inside) h.inside (34 ∷ rest) (take-append-drop at inside ∙ same)) [
      | inl l ↦ longer_value h.inside value other (take at inside) (drop at inside) rest l.more body.value_is body.stops st h.spelled l.front l.back
      | inr l ↦ shorter_value h.inside value other (take at inside) (drop at inside) rest l.more body.value_is st h.spelled l.front l.back
    ]

-- the string that ends after the bytes that may stand in it
pub a_string : (at : ℕ) (inside value : List ℕ) → IsStringBody inside value at → at < length inside → get_or inside at 0 ≡ 34 → is_read_otherwise (take at inside) ≡ false → IsString (34 ∷ take (suc at) inside) value
a_string at inside value body lt q so = record {
  inside = take at inside;
  quoted = ap (λ xs. 34 ∷ xs) (take-suc inside at 0 lt ∙ rw q refl);
  spelled = body.value_is;
  only_so = so;
}

pub stops_past : (p : ℕ → Bool) (n : ℕ) (xs : List ℕ) → length xs ≤ n → StopsAt p (drop n xs)
stops_past p zero [] le = tt
stops_past p (suc n) [] le = tt
stops_past p zero (x ∷ xs) le = absurd (omega arith)
stops_past p (suc n) (x ∷ xs) le = stops_past p n xs (omega arith)

pub stops_here : (p : ℕ → Bool) (n : ℕ) (xs : List ℕ) → n < length xs → p (get_or xs n 0) ≡ false → StopsAt p (drop n xs)
stops_here p n [] lt h = absurd (omega arith)
stops_here p zero (x ∷ xs) lt h = h
stops_here p (suc n) (x ∷ xs) lt h = stops_here p n xs (omega arith) h

-- what the code finds
pub string_found : (bytes inside value : List ℕ) (at : ℕ) → 1 ≤ length bytes → get_or bytes 0 0 ≡ 34 → inside ≡ drop 1 bytes → IsStringBody inside value at → at < length inside → get_or inside at 0 ≡ 34 → is_read_otherwise (take at inside) ≡ false → IsString (take (at + 2) bytes) value
string_found [] inside value at le q r body lt e so = absurd (omega arith)
string_found (b ∷ bytes) inside value at le q r body lt e so =
    let k : at + 2 ≡ suc (suc at) = omega arith in
    rw (k, q, ← r) (a_string at inside value body lt e so)

pub string_absent : (bytes inside value : List ℕ) (at : ℕ) → 1 ≤ length bytes → get_or bytes 0 0 ≡ 34 → inside ≡ drop 1 bytes → IsStringBody inside value at → StopsAt (λ b. eqb b 34) (drop at inside) → (text rest other : List ℕ) → bytes ≡ text ++ rest → IsString text other → ⊥
string_absent [] inside value at le q r body st text rest other e h = omega arith
string_absent (b ∷ bytes) inside value at le q r body st text rest other e h =
    let front : 34 ∷ inside ≡ b ∷ bytes = cc in
    no_string at inside value text rest other body st (front ∙ e) h

-- the bytes between the quotes are the only ones that may stand there
more_inside : (other p r rest : List ℕ) (inside value : List ℕ) (more : List ℕ) → string_value p ≡ Some value → string_value inside ≡ Some other → inside ≡ p ++ more → 34 ∷ r ≡ more ++ 34 ∷ rest → p ≡ inside
more_inside other p r rest inside value [] v h e f = sym (append-nil p) ∙ sym e
more_inside other p r rest inside value (m ∷ more) v h e f =
    let quote : 34 ≡ m = (head_is f).0 in
    let none : string_value (m ∷ more) ≡ None = subst (λ q. string_value (q ∷ more) ≡ None) quote (quote_no_value more) in
    absurd (none_of_map value (string_value (m ∷ more)) other none (sym (value_append p (m ∷ more) value v) ∙ ap string_value (sym e) ∙ h))

drop_quote : (at : ℕ) (inside : List ℕ) → at < length inside → get_or inside at 0 ≡ 34 → drop at inside ≡ 34 ∷ drop (suc at) inside
drop_quote at [] lt q = absurd (omega arith)
drop_quote zero (x ∷ inside) lt q = rw q refl
drop_quote (suc at) (x ∷ inside) lt q = drop_quote at inside (omega arith) q

-- a string whose bytes C99 reads in another way is none
otherwise_here : (at : ℕ) (inside value text rest other : List ℕ) → IsStringBody inside value at → at < length inside → get_or inside at 0 ≡ 34 → is_read_otherwise (take at inside) ≡ true → 34 ∷ inside ≡ text ++ rest → IsString text other → ⊥
otherwise_here at inside value text rest other body lt q so e h =
    let whole : 34 ∷ inside ≡ 34 ∷ (h.inside ++ 34 ∷ []) ++ rest = e ∙ ap (λ t. t ++ rest) h.quoted in
    let same : inside ≡ h.inside ++ 34 ∷ rest = (head_is {x = 34} {y = 34} whole).1 ∙ append_assoc h.inside (34 ∷ []) rest in
    let parts : take at inside ++ 34 ∷ drop (suc at) inside ≡ h.inside ++ 34 ∷ rest = ap (λ r. take at inside ++ r) (sym (drop_quote at inside lt q)) ∙ take-append-drop at inside ∙ same in
    let one : take at inside ≡ h.inside = elim (fronts (take at inside) (34 ∷ drop (suc at) inside) h.inside (34 ∷ rest) parts) [
      | inl l ↦ more_inside other (take at inside) (drop (suc at) inside) rest h.inside value l.more body.value_is h.spelled l.front l.back
      | inr l ↦ sym (more_inside value h.inside rest (drop (suc at) inside) (take at inside) other l.more h.spelled body.value_is l.front l.back)
    ] in
    let f : true ≡ false = sym so ∙ ap is_read_otherwise one ∙ h.only_so in
    cc

pub string_otherwise : (bytes inside value : List ℕ) (at : ℕ) → 1 ≤ length bytes → get_or bytes 0 0 ≡ 34 → inside ≡ drop 1 bytes → IsStringBody inside value at → at < length inside → get_or inside at 0 ≡ 34 → is_read_otherwise (take at inside) ≡ true → (text rest other : List ℕ) → bytes ≡ text ++ rest → IsString text other → ⊥
string_otherwise [] inside value at le q r body lt e so text rest other f h = omega arith
string_otherwise (b ∷ bytes) inside value at le q r body lt e so text rest other f h =
    let front : 34 ∷ inside ≡ b ∷ bytes = cc in
    otherwise_here at inside value text rest other body lt e so (front ∙ f) h
