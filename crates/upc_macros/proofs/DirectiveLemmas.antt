-- What directives do.
use Rattle.std.proofs.Common.{◌≡◌, ℕ, ◌+◌, ◌-◌, ◌<◌, ◌≤◌, zero, suc, Bool, true, false, cond, not, ◌&&◌, List, [], ◌∷◌, length, get_or, take, drop, add-one, length-take, length-drop, Option, Some, None, refl, sym, ap, ◌∙◌, subst, arith}
use Rattle.std.specs.Prelude.{nat_eq, codes}
use Rattle.std.specs.List.{slice_get, slice_index_or}
use Rattle.std.proofs.lemmas.Option.{slice_get-get_or}
use Rattle.std.proofs.Math.Seq.{drop-cons}
use Rattle.upc_lexer.specs.declared.token.TokenKind.{TokenKind}
use Rattle.upc_lexer.specs.declared.token.TokenKind.TheVariants.{Name, Word, Number, Character, Str, Punct, Pragma}
use Rattle.upc_macros.specs.declared.table.Body.{Body}
use Rattle.upc_macros.specs.Replacing.{Macros, name_number}
use Rattle.std.specs.Cmp.Lexicographic.{pointwise}
use Rattle.upc_lexer.specs.declared.token.Token.{Token}
use Rattle.upc_macros.specs.Spelling.{between, spelling, is_spelled, are_alike, last_end}
use Rattle.std.proofs.lemmas.List.{get_or-take, get_or-drop, take_all}
use Rattle.upc_macros.specs.code.Table.{IsNumbered, IsWithin, AreInOrder}
use Rattle.upc_macros.specs.Directives.{header_effect, include_effect, macro_name, has_parameters, define_name, define_effect, undefine_effect, access_effect, pragma_effect, effect_of}
use Rattle.upc_lexer.proofs.Lists.{and_left, and_right}
use Rattle.std.proofs.Math.Bool.{and-false}

and_true : (a : Bool) → a ≡ true → (a && true) ≡ true
and_true a h = rw h refl

abbrev alike : List ℕ → Token → Token → Bool
alike source x y = pointwise nat_eq (spelling source x) (spelling source y)

pub alike_more : (source : List ℕ) (xs ys : List Token) (i : ℕ) (x y : Token) → i < length xs → i < length ys → x ≡ get_or xs i x → y ≡ get_or ys i y → pointwise nat_eq (spelling source x) (spelling source y) ≡ true → are_alike source (take i xs) (take i ys) ≡ true → are_alike source (take (suc i) xs) (take (suc i) ys) ≡ true
alike_more source [] ys i x y lt le e f h k = absurd (omega arith)
alike_more source (a ∷ xs) [] i x y lt le e f h k = absurd (omega arith)
alike_more source (a ∷ xs) (b ∷ ys) zero x y lt le e f h k = rw (← e, ← f, h) refl
alike_more source (a ∷ xs) (b ∷ ys) (suc i) x y lt le e f h k =
    let rest = alike_more source xs ys i x y (omega arith) (omega arith) e f h (and_right (alike source a b) _ k) in
    rw rest (and_true (alike source a b) (and_left (alike source a b) _ k))

pub alike_no : (source : List ℕ) (xs ys : List Token) (i : ℕ) (x y : Token) → i < length xs → i < length ys → x ≡ get_or xs i x → y ≡ get_or ys i y → pointwise nat_eq (spelling source x) (spelling source y) ≡ false → are_alike source xs ys ≡ false
alike_no source [] ys i x y lt le e f h = absurd (omega arith)
alike_no source (a ∷ xs) [] i x y lt le e f h = absurd (omega arith)
alike_no source (a ∷ xs) (b ∷ ys) zero x y lt le e f h = rw (← e, ← f, h) refl
alike_no source (a ∷ xs) (b ∷ ys) (suc i) x y lt le e f h = rw (alike_no source xs ys i x y (omega arith) (omega arith) e f h) (and-false (alike source a b))

-- the last of some tokens
pub last_is : (t : Token) (ts : List Token) (x : Token) → x ≡ get_or (t ∷ ts) (length ts) x → last_end t ts ≡ x.end
last_is t [] x e = ap (λ (y : Token). y.end) (sym e)
last_is t (u ∷ us) x e = last_is u us x e

pub include_is : (source : List ℕ) (line : List Token) (first last : Token) → 1 ≤ length line → first ≡ get_or line 0 first → last ≡ get_or line (length line - 1) last → header_effect (between source first.start last.end) ≡ include_effect source line
include_is source [] first last le e f = absurd (omega arith)
include_is source (t ∷ ts) first last le e f =
    let k : suc (length ts) - 1 ≡ length ts = omega arith in
    let end : last_end t ts ≡ last.end = last_is t ts last (f ∙ ap (λ n. get_or (t ∷ ts) n last) k) in
    ap (λ n. header_effect (between source n last.end)) (ap (λ (y : Token). y.start) e) ∙ ap (λ n. header_effect (between source t.start n)) (sym end)

-- tokens in order stay so in a part
pub part_ordered : (limit names : ℕ) (ts : List Token) (a n : ℕ) → AreInOrder limit names ts → a + n ≤ length ts → AreInOrder limit names (take n (drop a ts))
part_ordered limit names ts a n h le = record {
  each = λ k d lt. subst (IsWithin limit names) (at k d lt) (h.each (a + k) d (inside k lt));
  order = λ j k d le' lt.
      let first : (get_or ts (a + j) d).start ≡ (get_or (take n (drop a ts)) j d).start = ap (λ (t : Token). t.start) (at j d (omega arith)) in
      let last : (get_or ts (a + k) d).end ≡ (get_or (take n (drop a ts)) k d).end = ap (λ (t : Token). t.end) (at k d lt) in
      omega (arith, first, last, h.order (a + j) (a + k) d (omega arith) (inside k lt));
}
  where
    size : length (take n (drop a ts)) ≡ n
    size = omega (arith, length-take n (drop a ts), length-drop a ts)

    inside : (k : ℕ) → k < length (take n (drop a ts)) → a + k < length ts
    inside k lt = omega (arith, size)

    at : (k : ℕ) (d : Token) → k < length (take n (drop a ts)) → get_or ts (a + k) d ≡ get_or (take n (drop a ts)) k d
    at k d lt = let small : k < n = omega (arith, size) in sym (get_or-take n (drop a ts) k d small ∙ get_or-drop a ts k d)

pub slice_ordered : (limit names : ℕ) (ts : List Token) (a b : ℕ) → AreInOrder limit names ts → a ≤ b → b ≤ length ts → AreInOrder limit names (take (b - a) (drop a ts))
slice_ordered limit names ts a b h le within = part_ordered limit names ts a (b - a) h (omega arith)

pub not_true : (v : Bool) → true ≡ not v → v ≡ false
not_true true h = h
not_true false h = refl

pub not_false : (v : Bool) → false ≡ not v → v ≡ true
not_false true h = refl
not_false false h = h

-- a part of the tokens, by its first
pub part_first : (ts : List Token) (a b : ℕ) (t : Token) → a < b → b ≤ length ts → t ≡ get_or ts a t → take (b - a) (drop a ts) ≡ t ∷ take (b - (a + 1)) (drop (a + 1) ts)
part_first ts a b t lt le e =
    let k : b - a ≡ suc (b - (a + 1)) = omega arith in
    let here : drop a ts ≡ get_or ts a t ∷ drop (suc a) ts = drop-cons ts a t (omega arith) in
    rw (k, here, add-one) (ap (λ x. x ∷ take (b - suc a) (drop (suc a) ts)) (sym e))

pub define_parameters : (source : List ℕ) (macros : Macros) (line : List Token) (name : Token) (body : List Token) → line ≡ name ∷ body → has_parameters name body ≡ true → define_effect source macros line ≡ None
define_parameters source macros line name body e h = rw (e, h) refl

pub define_none : (source : List ℕ) (macros : Macros) (line : List Token) (name : Token) (body : List Token) → line ≡ name ∷ body → has_parameters name body ≡ false → macro_name source name ≡ None → define_effect source macros line ≡ None
define_none source macros line name body e h n = rw (e, h, n) refl

pub define_some : (source : List ℕ) (macros : Macros) (line : List Token) (name : Token) (body : List Token) (n : ℕ) → line ≡ name ∷ body → has_parameters name body ≡ false → macro_name source name ≡ Some n → define_effect source macros line ≡ define_name source (slice_index_or macros n None) n body
define_some source macros line name body n e h f = rw (e, h, f) refl

pub at_index : (table : List (Option Body)) (n : ℕ) → n < length table → slice_get table n ≡ Some (get_or table n None)
at_index table n lt = slice_get-get_or table n None lt

name_is : (source : List ℕ) (t : Token) (n : ℕ) (v : Bool) → cond v None (name_number t.kind) ≡ Some n → name_number t.kind ≡ Some n
name_is source t n true h = absurd cc
name_is source t n false h = h

number_below : (names n : ℕ) (k : TokenKind) → name_number k ≡ Some n → IsNumbered names k → n < names
number_below names n (Name m) e h = let same : m ≡ n = some_is e in omega (arith, same, h)
  where
    some_is : Some m ≡ Some n → m ≡ n
    some_is f = cc
number_below names n (Word w) e h = absurd cc
number_below names n (Number v k) e h = absurd cc
number_below names n (Character v) e h = absurd cc
number_below names n (Str v) e h = absurd cc
number_below names n (Punct m) e h = absurd cc
number_below names n (Pragma b) e h = absurd cc

-- the number of a name is one of the source's
pub macro_below : (source : List ℕ) (names : ℕ) (t : Token) (n : ℕ) → macro_name source t ≡ Some n → IsNumbered names t.kind → n < names
macro_below source names t n e h = number_below names n t.kind (name_is source t n (is_spelled source t (codes "NULL")) e) h

pub rest_is : (n : ℕ) (ts : List Token) → take (length ts - n) (drop n ts) ≡ drop n ts
rest_is n ts = take_all (length ts - n) (drop n ts) (omega (arith, length-drop n ts))

pub pragma_upc : (source : List ℕ) (line : List Token) (first : Token) → 1 ≤ length line → first ≡ get_or line 0 first → is_spelled source first (codes "upc") ≡ true → access_effect source (take (length line - 1) (drop 1 line)) ≡ pragma_effect source line
pragma_upc source [] first le e h = absurd (omega arith)
pragma_upc source (t ∷ ts) first le e h =
    let here : is_spelled source t (codes "upc") ≡ true = subst (λ x. is_spelled source x (codes "upc") ≡ true) e h in
    rw (rest_is 1 (t ∷ ts), here) refl

-- the words of directives, one after another
pub effect_include : (source : List ℕ) (macros : Macros) (line : List Token) (t : Token) (ts : List Token) → line ≡ t ∷ ts → is_spelled source t (codes "include") ≡ true → include_effect source ts ≡ effect_of source macros line
effect_include source macros line t ts e a = rw (e, a) refl

pub effect_define : (source : List ℕ) (macros : Macros) (line : List Token) (t : Token) (ts : List Token) → line ≡ t ∷ ts → is_spelled source t (codes "include") ≡ false → is_spelled source t (codes "define") ≡ true → define_effect source macros ts ≡ effect_of source macros line
effect_define source macros line t ts e a b = rw (e, a, b) refl

pub effect_undef : (source : List ℕ) (macros : Macros) (line : List Token) (t : Token) (ts : List Token) → line ≡ t ∷ ts → is_spelled source t (codes "include") ≡ false → is_spelled source t (codes "define") ≡ false → is_spelled source t (codes "undef") ≡ true → undefine_effect source ts ≡ effect_of source macros line
effect_undef source macros line t ts e a b c = rw (e, a, b, c) refl

pub effect_pragma : (source : List ℕ) (macros : Macros) (line : List Token) (t : Token) (ts : List Token) → line ≡ t ∷ ts → is_spelled source t (codes "include") ≡ false → is_spelled source t (codes "define") ≡ false → is_spelled source t (codes "undef") ≡ false → is_spelled source t (codes "pragma") ≡ true → pragma_effect source ts ≡ effect_of source macros line
effect_pragma source macros line t ts e a b c d = rw (e, a, b, c, d) refl

pub effect_none : (source : List ℕ) (macros : Macros) (line : List Token) (t : Token) (ts : List Token) → line ≡ t ∷ ts → is_spelled source t (codes "include") ≡ false → is_spelled source t (codes "define") ≡ false → is_spelled source t (codes "undef") ≡ false → is_spelled source t (codes "pragma") ≡ false → None ≡ effect_of source macros line
effect_none source macros line t ts e a b c d = rw (e, a, b, c, d) refl
