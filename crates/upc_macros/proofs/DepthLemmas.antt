-- The bound on depth bounds nothing.
use Rattle.std.proofs.Common.{◌≡◌, ℕ, ◌+◌, ◌≤◌, zero, suc, List, [], ◌∷◌, ◌++◌, length, set, Option, Some, None, refl, sym, ap, ◌∙◌, arith}
use Rattle.std.specs.Prelude.{flat_map}
use Rattle.std.specs.List.{slice_index_or}
use Rattle.upc_lexer.specs.declared.token.Token.{Token}
use Rattle.upc_lexer.specs.declared.token.TokenKind.{TokenKind}
use Rattle.upc_lexer.specs.declared.token.TokenKind.TheVariants.{Name, Word, Number, Character, Str, Punct, Pragma}
use Rattle.upc_macros.specs.Replacing.{Macros, body_of, without, replaced, defined_count}
use Rattle.upc_macros.proofs.WalkLemmas.{replaced_plain}

flat_same : (f g : Token → List Token) → ((t : Token) → f t ≡ g t) → (ts : List Token) → flat_map f ts ≡ flat_map g ts
flat_same f g e [] = refl
flat_same f g e (t ∷ ts) = ap (λ l. l ++ flat_map f ts) (e t) ∙ ap (λ l. g t ++ l) (flat_same f g e ts)

taken : (macros : Macros) (n : ℕ) (body : List Token) → slice_index_or macros n None ≡ Some body → defined_count (set macros n None) + 1 ≡ defined_count macros
taken [] n body e = absurd cc
taken (None ∷ macros) zero body e = absurd cc
taken (Some b ∷ macros) zero body e = omega arith
taken (None ∷ macros) (suc n) body e = taken macros n body e
taken (Some b ∷ macros) (suc n) body e = omega (arith, taken macros n body e)

one_less_by : (macros : Macros) (t : Token) (k : TokenKind) (body : List Token) → t.kind ≡ k → body_of macros t ≡ Some body → defined_count (without macros k) + 1 ≡ defined_count macros
one_less_by macros t (Name n) body k e = taken macros n body (rw k at e)
one_less_by macros t (Word w) body k e = let f = rw k at e in absurd cc
one_less_by macros t (Number v l) body k e = let f = rw k at e in absurd cc
one_less_by macros t (Character v) body k e = let f = rw k at e in absurd cc
one_less_by macros t (Str v) body k e = let f = rw k at e in absurd cc
one_less_by macros t (Punct m) body k e = let f = rw k at e in absurd cc
one_less_by macros t (Pragma b) body k e = let f = rw k at e in absurd cc

macro_at : (d : ℕ) (source : List ℕ) (macros : Macros) (t : Token) (body : List Token) → body_of macros t ≡ Some body → replaced (suc d) source macros t ≡ flat_map (replaced d source (without macros t.kind)) body
macro_at d source macros t body e = rw e refl

at_zero : (e : ℕ) (source : List ℕ) (macros : Macros) (t : Token) (body : Option (List Token)) → body_of macros t ≡ body → defined_count macros ≤ 0 → replaced zero source macros t ≡ replaced e source macros t
at_zero e source macros t None h le = sym (replaced_plain e source macros t h)
at_zero e source macros t (Some b) h le = absurd (omega (arith, one_less_by macros t t.kind b refl h))

at_more : (d e : ℕ) (source : List ℕ) (macros : Macros) (t : Token) (body : Option (List Token)) → body_of macros t ≡ body → ((k : ℕ) (m : Macros) (u : Token) → defined_count m ≤ d → defined_count m ≤ k → replaced d source m u ≡ replaced k source m u) → defined_count macros ≤ suc d → defined_count macros ≤ e → replaced (suc d) source macros t ≡ replaced e source macros t
at_more d e source macros t None h rest le within = replaced_plain (suc d) source macros t h ∙ sym (replaced_plain e source macros t h)
at_more d zero source macros t (Some b) h rest le within = absurd (omega (arith, one_less_by macros t t.kind b refl h))
at_more d (suc e) source macros t (Some b) h rest le within =
    let less = one_less_by macros t t.kind b refl h in
    macro_at d source macros t b h
    ∙ flat_same (replaced d source (without macros t.kind)) (replaced e source (without macros t.kind)) (λ u. rest e (without macros t.kind) u (omega (arith, less)) (omega (arith, less))) b
    ∙ sym (macro_at e source macros t b h)

-- as much depth as there are macros is as good as any more
pub depth_free : (d e : ℕ) (source : List ℕ) (macros : Macros) (t : Token) → defined_count macros ≤ d → defined_count macros ≤ e → replaced d source macros t ≡ replaced e source macros t
depth_free zero e source macros t le within = at_zero e source macros t (body_of macros t) refl le
depth_free (suc d) e source macros t le within = at_more d e source macros t (body_of macros t) refl (λ k m u. depth_free d k source m u) le within

count_within : (macros : Macros) → defined_count macros ≤ length macros
count_within [] = omega arith
count_within (None ∷ macros) = omega (arith, count_within macros)
count_within (Some b ∷ macros) = omega (arith, count_within macros)

pub depth_enough : (depth : ℕ) (source : List ℕ) (macros : Macros) (t : Token) → length macros ≤ depth → replaced depth source macros t ≡ replaced (length macros) source macros t
depth_enough depth source macros t le = depth_free depth (length macros) source macros t (omega (arith, count_within macros)) (count_within macros)
