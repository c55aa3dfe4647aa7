-- Parsers one after the other, in both directions.
use Rattle.std.proofs.Common.{◌≡◌, ℕ, ◌<◌, ◌≤◌, Bool, true, false, cond, List, [], ◌∷◌, Ok, Err, refl, sym, ap, ◌∙◌, subst, ◌⊎◌, inl, inr}
use Rattle.std.specs.Prelude.{nat_le, ◌&&◌}
use Rattle.std.proofs.lemmas.Bool.{leb-true, leb-false}
use Rattle.upc_lexer.specs.declared.token.TokenKind.{TokenKind}
use Rattle.upc_lexer.specs.declared.token.TokenKind.TheVariants as k
use Rattle.upc_lexer.specs.declared.token.Token.{Token}
use Rattle.upc_lexer.specs.declared.token.Punct.{Punct}
use Rattle.upc_lexer.specs.declared.token.Word.{Word}
use Rattle.upc_tree.specs.declared.span.Span.{Span}
use Rattle.upc_tree.specs.declared.span.Name.{Name}
use Rattle.upc_tree.specs.declared.span.StringLiteral.{StringLiteral}
use Rattle.upc_tree.specs.Tokens.{token, punct, word, name_token, string_token}
use Rattle.upc_parser_ground.specs.declared.cursor.Fault.{Fault}
use Rattle.upc_parser_ground.specs.declared.cursor.Fault.TheVariants.{NoTree, TooHigh}
use Rattle.upc_parser_ground.specs.layer.Outcome.{Outcome, ◌>>=◌, span_of, is_punct, is_word, starts, starts_two, expect, expect_punct, expect_word}
use Rattle.upc_parser_ground.specs.layer.Outcome.{name, name_by, string, string_by}
use Rattle.upc_parser_ground.proofs.TableFacts.{is_punct_is, is_word_is}

-- ---- what is read: the tree, unless it is too high

pub data Gets {A : Type 0} (n h : ℕ) (r : Outcome A) (x : A × List Token) : Type 0 where
  gets : r ≡ Ok x → Gets n h r x
  high : n < h → r ≡ Err TooHigh → Gets n h r x

pub got : {A : Type 0} (n h : ℕ) {r : Outcome A} {x : A × List Token} → r ≡ Ok x → Gets n h r x
got n h e = gets e

pub step : {A B : Type 0} {n h m h' : ℕ} {r : Outcome A} {x : A × List Token} {y : B × List Token} (f : A × List Token → Outcome B)
    → Gets n h r x → (n < h → m < h') → Gets m h' (f x) y → Gets m h' (r >>= f) y
step {m = m} {h' = h'} {y = y} f (gets e) up g = subst (λ (q : Outcome _). Gets m h' (q >>= f) y) (sym e) g
step f (high l e) up g = high (up l) (ap (λ (q : Outcome _). q >>= f) e)

pub raise : {A : Type 0} {n h m h' : ℕ} {r : Outcome A} {x : A × List Token} → Gets n h r x → (n < h → m < h') → Gets m h' r x
raise (gets e) up = gets e
raise (high l e) up = high (up l) e

pub along : {A : Type 0} {n h : ℕ} {r s : Outcome A} {x : A × List Token} → s ≡ r → Gets n h r x → Gets n h s x
along e (gets g) = gets (e ∙ g)
along e (high l g) = high l (e ∙ g)

-- ---- steps that did not fail

pub bind_ok : {A B : Type 0} (r : Outcome A) (f : A × List Token → Outcome B) (y : B × List Token) → (r >>= f) ≡ Ok y → (x : A × List Token) × (r ≡ Ok x) × (f x ≡ Ok y)
bind_ok (Ok x) f y e = (x, refl, e)
bind_ok (Err d) f y e = absurd cc

abbrev pub done : {A : Type 0} → A × List Token → Outcome A
done x = Ok x

pub ok_is : {A : Type 0} (x y : A × List Token) → done x ≡ done y → x ≡ y
ok_is x y e = cc

pub if_ok : {A : Type 0} (b : Bool) (x : Outcome A) (d : Fault) (y : A × List Token) → cond b x (Err d) ≡ Ok y → (b ≡ true) × (x ≡ Ok y)
if_ok true x d y e = (refl, e)
if_ok false x d y e = absurd cc

pub either : {A : Type 0} (b : Bool) (p q z : A) → cond b p q ≡ z → ((b ≡ true) × (p ≡ z)) ⊎ ((b ≡ false) × (q ≡ z))
either true p q z e = inl (refl, e)
either false p q z e = inr (refl, e)

pub no_both : (b : Bool) → b ≡ true → b ≡ false → ⊥
no_both true p q = cc
no_both false p q = cc

pub both_true : (a b : Bool) → (a && b) ≡ true → (a ≡ true) × (b ≡ true)
both_true true b h = (refl, h)
both_true false b h = absurd cc

pub cases_le : (a b : ℕ) → ((nat_le a b ≡ true) × (a ≤ b)) ⊎ ((nat_le a b ≡ false) × (b < a))
cases_le a b = elim (nat_le a b) as (λ v. (nat_le a b ≡ v) → ((v ≡ true) × (a ≤ b)) ⊎ ((v ≡ false) × (b < a))) [
  | true ↦ λ e. inl (refl, leb-true a b e)
  | false ↦ λ e. inr (refl, leb-false a b e)
] refl

-- the same token before the same tokens
pub behind : (t : Token) {r s : List Token} → r ≡ s → t ∷ r ≡ t ∷ s
behind t e = ap (λ l. t ∷ l) e

-- ---- fixed tokens

expect_ok : (test : TokenKind → Bool) (kind : TokenKind) (ts : List Token) (c : Span × List Token) → ((x : TokenKind) → test x ≡ true → x ≡ kind) → expect test ts ≡ Ok c → ts ≡ token kind c.0 ∷ c.1
expect_ok test kind [] c known e = absurd cc
expect_ok test kind (x ∷ ts) c known e =
    let g = if_ok (test x.kind) (Ok (span_of x, ts)) NoTree c e in
    let same = ok_is (span_of x, ts) c g.1 in
    subst (λ (q : Span × List Token). x ∷ ts ≡ token kind q.0 ∷ q.1) same (ap (λ q. token q (span_of x) ∷ ts) (known x.kind g.0))

pub punct_ok : (mark : Punct) (ts : List Token) (c : Span × List Token) → expect_punct mark ts ≡ Ok c → ts ≡ punct mark c.0 ∷ c.1
punct_ok mark ts c e = expect_ok (is_punct mark) (k.Punct mark) ts c (is_punct_is mark) e

pub word_ok : (w : Word) (ts : List Token) (c : Span × List Token) → expect_word w ts ≡ Ok c → ts ≡ word w c.0 ∷ c.1
word_ok w ts c e = expect_ok (is_word w) (k.Word w) ts c (is_word_is w) e

name_ok_by : (kind : TokenKind) (span : Span) (ts : List Token) (c : Name × List Token) → name_by kind span ts ≡ Ok c → token kind span ∷ ts ≡ name_token c.0 ∷ c.1
name_ok_by (k.Name number) span ts c e = subst (λ (q : Name × List Token). token (k.Name number) span ∷ ts ≡ name_token q.0 ∷ q.1) (ok_is (record { number = number; span = span }, ts) c e) refl
name_ok_by _ span ts c e = absurd cc

pub name_ok : (ts : List Token) (c : Name × List Token) → name ts ≡ Ok c → ts ≡ name_token c.0 ∷ c.1
name_ok [] c e = absurd cc
name_ok (x ∷ ts) c e = name_ok_by x.kind (span_of x) ts c e

string_ok_by : (kind : TokenKind) (span : Span) (ts : List Token) (c : StringLiteral × List Token) → string_by kind span ts ≡ Ok c → token kind span ∷ ts ≡ string_token c.0 ∷ c.1
string_ok_by (k.Str bytes) span ts c e = subst (λ (q : StringLiteral × List Token). token (k.Str bytes) span ∷ ts ≡ string_token q.0 ∷ q.1) (ok_is (record { bytes = bytes; span = span }, ts) c e) refl
string_ok_by _ span ts c e = absurd cc

pub string_ok : (ts : List Token) (c : StringLiteral × List Token) → string ts ≡ Ok c → ts ≡ string_token c.0 ∷ c.1
string_ok [] c e = absurd cc
string_ok (x ∷ ts) c e = string_ok_by x.kind (span_of x) ts c e

-- ---- what comes first

pub apart : (a b : TokenKind → Bool) (ts : List Token) → ((x : TokenKind) → a x ≡ true → b x ≡ false) → starts a ts ≡ true → starts b ts ≡ false
apart a b [] off h = refl
apart a b (x ∷ ts) off h = off x.kind h

pub unlike : (a b : TokenKind → Bool) (ts : List Token) → ((x : TokenKind) → a x ≡ false → b x ≡ false) → starts a ts ≡ false → starts b ts ≡ false
unlike a b [] off h = refl
unlike a b (x ∷ ts) off h = off x.kind h

pub not_two : (a b : TokenKind → Bool) (ts : List Token) → starts a ts ≡ false → starts_two a b ts ≡ false
not_two a b [] h = refl
not_two a b (x ∷ ts) h = rw h refl
