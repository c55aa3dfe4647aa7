-- Macros that meet none that is being replaced: what they stand for is the same wherever they stand.
use Rattle.std.proofs.Common.{◌≡◌, ℕ, ◌+◌, ◌≤◌, ◌<◌, zero, suc, List, [], ◌∷◌, ◌++◌, length, set, Option, Some, None, refl, sym, ap, ◌∙◌, subst, ◌⊎◌, inl, inr, arith}
use Rattle.std.specs.Prelude.{flat_map}
use Rattle.std.specs.List.{slice_get, slice_index_or, All}
use Rattle.upc_lexer.specs.declared.token.Token.{Token}
use Rattle.upc_lexer.specs.declared.token.TokenKind.{TokenKind}
use Rattle.upc_lexer.specs.declared.token.TokenKind.TheVariants.{Name, Word, Number, Character, Str, Punct, Pragma}
use Rattle.upc_macros.specs.declared.table.Body.{Body}
use Rattle.upc_macros.specs.Replacing.{Macros, body_of, without, plain, or_replaced, replaced, defined_count}
use Rattle.upc_macros.specs.code.Table.{seen, body_tokens, macro_count}
use Rattle.upc_macros.specs.code.Known.{FreeBody, IsFree, Leads}
use Rattle.upc_macros.proofs.Tables.{found_at, names_some, count_within}
use Rattle.upc_macros.proofs.WalkLemmas.{replaced_plain, replaced_macro}
use Rattle.upc_macros.proofs.DepthLemmas.{depth_free}

-- ---- what is free

body_weaker : (o : Option (List Token)) (p q : Token → Type 0) → ((t : Token) → p t → q t) → FreeBody o p → FreeBody o q
body_weaker None p q f h = tt
body_weaker (Some body) p q f h = λ k d lt. f (slice_index_or body k d) (h k d lt)

pub free_more : (d e : ℕ) (macros : Macros) (kind : TokenKind) → d ≤ e → IsFree d macros kind → IsFree e macros kind
free_more zero e macros kind le h = absurd h
free_more (suc d) zero macros kind le h = absurd (omega arith)
free_more (suc d) (suc e) macros (Name n) le h = body_weaker (slice_index_or macros n None) (λ t. IsFree d macros t.kind) (λ t. IsFree e macros t.kind) (λ t g. free_more d e macros t.kind (omega arith) g) h
free_more (suc d) (suc e) macros (Word w) le h = tt
free_more (suc d) (suc e) macros (Number v l) le h = tt
free_more (suc d) (suc e) macros (Character v) le h = tt
free_more (suc d) (suc e) macros (Str v) le h = tt
free_more (suc d) (suc e) macros (Punct m) le h = tt
free_more (suc d) (suc e) macros (Pragma b) le h = tt

pub free_body : (depth : ℕ) (macros : Macros) (n : ℕ) (body : List Token) → slice_index_or macros n None ≡ Some body → IsFree (suc depth) macros (Name n) → All (λ t. IsFree depth macros t.kind) body
free_body depth macros n body e h = subst (λ o. FreeBody o (λ t. IsFree depth macros t.kind)) e h

pub body_free : (depth : ℕ) (macros : Macros) (n : ℕ) (body : List Token) → slice_index_or macros n None ≡ Some body → All (λ t. IsFree depth macros t.kind) body → IsFree (suc depth) macros (Name n)
body_free depth macros n body e h = subst (λ o. FreeBody o (λ t. IsFree depth macros t.kind)) (sym e) h

-- what is no macro is free
pub plain_free : (macros : Macros) (kind : TokenKind) → ((n : ℕ) → kind ≡ Name n → slice_index_or macros n None ≡ None) → IsFree 1 macros kind
plain_free macros (Name n) h = subst (λ o. FreeBody o (λ t. IsFree 0 macros t.kind)) (sym (h n refl)) tt
plain_free macros (Word w) h = tt
plain_free macros (Number v l) h = tt
plain_free macros (Character v) h = tt
plain_free macros (Str v) h = tt
plain_free macros (Punct m) h = tt
plain_free macros (Pragma b) h = tt

pub leads_twice : (macros : Macros) (a b c : TokenKind) → Leads macros a b → Leads macros b c → Leads macros a c
leads_twice macros a b c f g zero h = absurd (f 0 h)
leads_twice macros a b c f g (suc d) h = free_more d (suc d) macros c (omega arith) (g d (f (suc d) h))

pub leads_in : (macros : Macros) (n : ℕ) (body : List Token) → slice_index_or macros n None ≡ Some body → (k : ℕ) (d : Token) → k < length body → Leads macros (Name n) (slice_index_or body k d).kind
leads_in macros n body e k d lt depth h = free_body depth macros n body e h k d lt

-- no such macro leads to itself
never : (depth : ℕ) (macros : Macros) (kind : TokenKind) → Leads macros kind kind → IsFree depth macros kind → ⊥
never zero macros kind f h = h
never (suc d) macros kind f h = never d macros kind f (f d h)

-- ---- it gives the same where others are hidden, too, that lead to it

-- what it stands for where nothing is hidden
abbrev pub unhidden : ℕ → List ℕ → Macros → Token → List Token
unhidden zero source macros t = plain source t ∷ []
unhidden (suc depth) source macros t = or_replaced (body_of macros t) (plain source t) (unhidden depth source macros)

unhidden_plain : (depth : ℕ) (source : List ℕ) (macros : Macros) (t : Token) → body_of macros t ≡ None → unhidden (suc depth) source macros t ≡ plain source t ∷ []
unhidden_plain depth source macros t e = rw e refl

unhidden_macro : (depth : ℕ) (source : List ℕ) (macros : Macros) (t : Token) (body : List Token) → body_of macros t ≡ Some body → unhidden (suc depth) source macros t ≡ flat_map (unhidden depth source macros) body
unhidden_macro depth source macros t body e = rw e refl

-- each macro of the whole is there, or leads to the token
abbrev pub Passes : Macros → Macros → TokenKind → Type 0
Passes macros some kind = (n : ℕ) (body : List Token) → slice_index_or macros n None ≡ Some body → (slice_index_or some n None ≡ Some body) ⊎ Leads macros (Name n) kind

-- and each that is there is one of the whole
abbrev pub LiesIn : Macros → Macros → Type 0
LiesIn macros some = (n : ℕ) (body : List Token) → slice_index_or some n None ≡ Some body → slice_index_or macros n None ≡ Some body

index_kept : {X : Type 0} (xs : List (Option X)) (m n : ℕ) (b : X) → slice_index_or xs n None ≡ Some b → (slice_index_or (set xs m None) n None ≡ Some b) ⊎ (n ≡ m)
index_kept [] m n b e = inl e
index_kept (x ∷ xs) zero zero b e = inr refl
index_kept (x ∷ xs) zero (suc n) b e = inl e
index_kept (x ∷ xs) (suc m) zero b e = inl e
index_kept (x ∷ xs) (suc m) (suc n) b e = elim (index_kept xs m n b e) [
  | inl f ↦ inl f
  | inr f ↦ inr (ap (λ k. suc k) f)
]

index_was : {X : Type 0} (xs : List (Option X)) (m n : ℕ) (b : X) → slice_index_or (set xs m None) n None ≡ Some b → slice_index_or xs n None ≡ Some b
index_was [] m n b e = e
index_was (x ∷ xs) zero zero b e = absurd cc
index_was (x ∷ xs) zero (suc n) b e = e
index_was (x ∷ xs) (suc m) zero b e = e
index_was (x ∷ xs) (suc m) (suc n) b e = index_was xs m n b e

passes_in : (macros some : Macros) (n : ℕ) (body : List Token) → slice_index_or macros n None ≡ Some body → Passes macros some (Name n) → (k : ℕ) (d : Token) → k < length body → Passes macros (set some n None) (slice_index_or body k d).kind
passes_in macros some n body e p k d lt m other f = elim (p m other f) [
  | inl g ↦ elim (index_kept some n m other g) [
    | inl h ↦ inl h
    | inr h ↦ inr (subst (λ x. Leads macros (Name x) (slice_index_or body k d).kind) (sym h) (leads_in macros n body e k d lt))
  ]
  | inr g ↦ inr (leads_twice macros (Name m) (Name n) (slice_index_or body k d).kind g (leads_in macros n body e k d lt))
]

flat_same : (f g : Token → List Token) (ts : List Token) → All (λ t. f t ≡ g t) ts → flat_map f ts ≡ flat_map g ts
flat_same f g [] h = refl
flat_same f g (t ∷ ts) h = ap (λ l. l ++ flat_map f ts) (h 0 t (omega arith)) ∙ ap (λ l. g t ++ l) (flat_same f g ts (λ k d lt. h (suc k) d (omega arith)))

abbrev IsSame : ℕ → List ℕ → Macros → Type 0
IsSame depth source macros = (some : Macros) (u : Token) → LiesIn macros some → Passes macros some u.kind → IsFree depth macros u.kind → replaced depth source some u ≡ unhidden depth source macros u

none_there : (macros some : Macros) (n : ℕ) (o : Option (List Token)) → slice_index_or some n None ≡ o → LiesIn macros some → slice_index_or macros n None ≡ None → o ≡ None
none_there macros some n None e l none = refl
none_there macros some n (Some b) e l none = absurd (some_none (sym (l n b e) ∙ none))
  where
    some_none : Some b ≡ None → ⊥
    some_none g = cc

both_plain : (depth : ℕ) (source : List ℕ) (macros some : Macros) (t : Token) → body_of some t ≡ None → body_of macros t ≡ None → replaced (suc depth) source some t ≡ unhidden (suc depth) source macros t
both_plain depth source macros some t e f = replaced_plain (suc depth) source some t e ∙ sym (unhidden_plain depth source macros t f)

same_by : (depth : ℕ) (source : List ℕ) (macros some : Macros) (t : Token) (n : ℕ) (body : Option (List Token)) → IsSame depth source macros → t.kind ≡ Name n → slice_index_or macros n None ≡ body → LiesIn macros some → Passes macros some (Name n) → FreeBody body (λ u. IsFree depth macros u.kind) → replaced (suc depth) source some t ≡ unhidden (suc depth) source macros t
same_by depth source macros some t n None rest k e l p h = both_plain depth source macros some t (rw k (none_there macros some n (slice_index_or some n None) refl l e)) (rw k e)
same_by depth source macros some t n (Some body) rest k e l p h = elim (p n body e) [
  | inl f ↦ replaced_macro depth source some t n body k (rw k f) ∙ flat_same (replaced depth source (without some (Name n))) (unhidden depth source macros) body (λ j d lt. rest (set some n None) (slice_index_or body j d) (λ m b g. l m b (index_was some n m b g)) (passes_in macros some n body e p j d lt) (h j d lt)) ∙ sym (unhidden_macro depth source macros t body (rw k e))
  | inr f ↦ absurd (never (suc depth) macros (Name n) f (body_free depth macros n body e h))
]

same_of : (depth : ℕ) (source : List ℕ) (macros some : Macros) (t : Token) (kind : TokenKind) → IsSame depth source macros → t.kind ≡ kind → LiesIn macros some → Passes macros some kind → IsFree (suc depth) macros kind → replaced (suc depth) source some t ≡ unhidden (suc depth) source macros t
same_of depth source macros some t (Name n) rest k l p h = same_by depth source macros some t n (slice_index_or macros n None) rest k refl l p h
same_of depth source macros some t (Word w) rest k l p h = both_plain depth source macros some t (rw k refl) (rw k refl)
same_of depth source macros some t (Number v x) rest k l p h = both_plain depth source macros some t (rw k refl) (rw k refl)
same_of depth source macros some t (Character v) rest k l p h = both_plain depth source macros some t (rw k refl) (rw k refl)
same_of depth source macros some t (Str v) rest k l p h = both_plain depth source macros some t (rw k refl) (rw k refl)
same_of depth source macros some t (Punct m) rest k l p h = both_plain depth source macros some t (rw k refl) (rw k refl)
same_of depth source macros some t (Pragma b) rest k l p h = both_plain depth source macros some t (rw k refl) (rw k refl)

same_at : (depth : ℕ) (source : List ℕ) (macros : Macros) → IsSame depth source macros
same_at zero source macros some t l p h = absurd h
same_at (suc depth) source macros some t l p h = same_of depth source macros some t t.kind (same_at depth source macros) refl l p h

count_seen : (tokens : List Token) (table : List (Option Body)) → defined_count (seen tokens table) ≡ macro_count table
count_seen tokens [] = refl
count_seen tokens (None ∷ table) = count_seen tokens table
count_seen tokens (Some b ∷ table) = ap (λ n. suc n) (count_seen tokens table)

-- at each depth that is enough for the macros that are not hidden
pub unhidden_here : (depth more : ℕ) (source : List ℕ) (tokens : List Token) (macros : Macros) (table : List (Option Body)) (t : Token) → macro_count table ≤ depth → depth ≤ more → LiesIn macros (seen tokens table) → Passes macros (seen tokens table) t.kind → IsFree more macros t.kind → replaced depth source (seen tokens table) t ≡ unhidden more source macros t
unhidden_here depth more source tokens macros table t few le l p h =
    let count = count_seen tokens table in
    depth_free depth more source (seen tokens table) t (omega (arith, count)) (omega (arith, count))
    ∙ same_at more source macros (seen tokens table) t l p h

-- and where nothing is hidden
pub unhidden_whole : (more : ℕ) (source : List ℕ) (tokens : List Token) (table : List (Option Body)) (t : Token) → length table ≤ more → IsFree more (seen tokens table) t.kind → replaced (length table) source (seen tokens table) t ≡ unhidden more source (seen tokens table) t
unhidden_whole more source tokens table t le h = unhidden_here (length table) more source tokens (seen tokens table) table t (count_within table) le (λ n body e. e) (λ n body e. inl e) h

-- the token gives here what it gives where nothing is hidden
pub same_here : (depth level : ℕ) (source : List ℕ) (tokens : List Token) (whole table : List (Option Body)) (t : Token) → macro_count table ≤ depth → LiesIn (seen tokens whole) (seen tokens table) → Passes (seen tokens whole) (seen tokens table) t.kind → IsFree level (seen tokens whole) t.kind → replaced depth source (seen tokens table) t ≡ replaced (length whole) source (seen tokens whole) t
same_here depth level source tokens whole table t few l p h =
    let more = level + depth + length whole in
    let free = free_more level more (seen tokens whole) t.kind (omega arith) h in
    unhidden_here depth more source tokens (seen tokens whole) table t few (omega arith) l p free
    ∙ sym (unhidden_whole more source tokens whole t (omega arith) free)

-- the tokens of a macro give here what the macro gives where nothing is hidden
pub body_gives : (depth level : ℕ) (source : List ℕ) (tokens : List Token) (whole table : List (Option Body)) (n : ℕ) (b : Body) (t : Token) → macro_count table ≤ depth → LiesIn (seen tokens whole) (seen tokens table) → ((k : ℕ) (d : Token) → k < length (body_tokens tokens b) → Passes (seen tokens whole) (seen tokens table) (slice_index_or (body_tokens tokens b) k d).kind) → IsFree level (seen tokens whole) (Name n) → slice_get whole n ≡ Some (Some b) → t.kind ≡ Name n → flat_map (replaced depth source (seen tokens table)) (body_tokens tokens b) ≡ replaced (length whole) source (seen tokens whole) t
body_gives depth level source tokens whole table n b t few l p h e k =
    let macros = seen tokens whole in
    let body = body_tokens tokens b in
    let more = level + depth + length whole in
    let free = free_more level (suc more) macros (Name n) (omega arith) h in
    let at = found_at tokens whole n (Some b) e in
    flat_same (replaced depth source (seen tokens table)) (unhidden more source macros) body (λ j d lt. unhidden_here depth more source tokens macros table (slice_index_or body j d) few (omega arith) l (p j d lt) (free_body more macros n body at free j d lt))
    ∙ sym (unhidden_macro more source macros t body (names_some tokens whole t n b k e))
    ∙ sym (unhidden_whole (suc more) source tokens whole t (omega arith) (subst (IsFree (suc more) macros) (sym k) free))
