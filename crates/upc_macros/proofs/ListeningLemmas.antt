-- What a walk knows of the macros that lie in one another.
use Rattle.std.proofs.Common.{◌≡◌, ℕ, ◌+◌, ◌-◌, ◌<◌, ◌≤◌, zero, suc, Bool, true, false, cond, List, [], ◌∷◌, ◌++◌, length, get_or, take, drop, set, length-take, length-drop, Option, Some, None, refl, sym, ap, ◌∙◌, subst, ◌⊎◌, inl, inr, arith}
use Rattle.std.specs.List.{slice_get, slice_index_or, All}
use Rattle.std.proofs.Math.Seq.{take-suc}
use Rattle.std.proofs.lemmas.List.{get_or-take, get_or-drop}
use Rattle.std.proofs.lemmas.List.Elements.{All-append, All-cons, All-nil}
use Rattle.upc_lexer.specs.declared.token.Token.{Token}
use Rattle.upc_lexer.specs.declared.token.TokenKind.{TokenKind}
use Rattle.upc_lexer.specs.declared.token.TokenKind.TheVariants.{Name}
use Rattle.upc_macros.specs.declared.table.Body.{Body}
use Rattle.upc_macros.specs.declared.walk.Frame.{Frame}
use Rattle.upc_macros.specs.Replacing.{replaced}
use Rattle.upc_macros.specs.code.Table.{seen, body_tokens, macro_count}
use Rattle.upc_macros.specs.code.Walk.{put_back, all_back}
use Rattle.upc_macros.specs.code.Known.{IsFree, Leads, front_of, IsFreeSoFar, IsEntered, AreOuter, IsListening}
use Rattle.upc_macros.proofs.Tables.{found_at}
use Rattle.upc_macros.proofs.WalkLemmas.{next_frame, entered}
use Rattle.upc_macros.proofs.FreeLemmas.{free_more, body_free, leads_twice, leads_in, Passes, LiesIn, same_here}

-- ---- the macros that a token lies in lead to it

seen_some : (tokens : List Token) (table : List (Option Body)) (n : ℕ) (body : List Token) → slice_index_or (seen tokens table) n None ≡ Some body → (b : Body) × (slice_get table n ≡ Some (Some b)) × (body_tokens tokens b ≡ body)
seen_some tokens [] n body e = absurd cc
seen_some tokens (None ∷ table) zero body e = absurd cc
seen_some tokens (Some b ∷ table) zero body e = (b, refl, cc)
seen_some tokens (c ∷ table) (suc n) body e = seen_some tokens table n body e

get_cases : {X : Type 0} (xs : List X) (n m : ℕ) (x y : X) → slice_get (set xs n x) m ≡ Some y → (slice_get xs m ≡ Some y) ⊎ ((m ≡ n) × (x ≡ y))
get_cases [] n m x y e = inl e
get_cases (z ∷ xs) zero zero x y e = inr (refl, cc)
get_cases (z ∷ xs) zero (suc m) x y e = inl e
get_cases (z ∷ xs) (suc n) zero x y e = inl e
get_cases (z ∷ xs) (suc n) (suc m) x y e = elim (get_cases xs n m x y e) [
  | inl f ↦ inl f
  | inr f ↦ inr (ap (λ k. suc k) f.0, f.1)
]

hidden : (tokens : List Token) (whole table : List (Option Body)) (out bound : ℕ) (f : Frame) (fs : List Frame) (kind : TokenKind) (n : ℕ) (b : Body) → Leads (seen tokens whole) (Name f.name) kind → AreOuter tokens whole out bound f.name f.before fs → slice_get (all_back table (f ∷ fs)) n ≡ Some (Some b) → (slice_get table n ≡ Some (Some b)) ⊎ Leads (seen tokens whole) (Name n) kind
hidden tokens whole table out bound f [] kind n b l o e = elim (get_cases table f.name n (Some f.body) (Some b) e) [
  | inl g ↦ inl g
  | inr g ↦ inr (subst (λ x. Leads (seen tokens whole) (Name x) kind) (sym g.0) l)
]
hidden tokens whole table out bound f (g ∷ gs) kind n b l o e =
    elim (hidden tokens whole (put_back table f) out bound g gs kind n b (leads_twice (seen tokens whole) (Name g.name) (Name f.name) kind o.0.leads l) o.1 e) [
      | inl h ↦ elim (get_cases table f.name n (Some f.body) (Some b) h) [
        | inl k ↦ inl k
        | inr k ↦ inr (subst (λ x. Leads (seen tokens whole) (Name x) kind) (sym k.0) l)
      ]
      | inr h ↦ inr h
    ]

passes : (tokens : List Token) (whole table : List (Option Body)) (out bound : ℕ) (f : Frame) (fs : List Frame) (kind : TokenKind) → all_back table (f ∷ fs) ≡ whole → Leads (seen tokens whole) (Name f.name) kind → AreOuter tokens whole out bound f.name f.before fs → Passes (seen tokens whole) (seen tokens table) kind
passes tokens whole table out bound f fs kind same l o n body e =
    let s = seen_some tokens whole n body e in
    elim (hidden tokens whole table out bound f fs kind n s.0 l o (ap (λ x. slice_get x n) same ∙ s.1)) [
      | inl g ↦ inl (found_at tokens table n (Some s.0) g ∙ ap Some s.2)
      | inr g ↦ inr g
    ]

-- the macros that are not hidden are some of all
pub lies_in : (tokens : List Token) (whole table : List (Option Body)) → ((n : ℕ) (b : Body) → slice_get table n ≡ Some (Some b) → slice_get whole n ≡ Some (Some b)) → LiesIn (seen tokens whole) (seen tokens table)
lies_in tokens whole table within n body e =
    let s = seen_some tokens table n body e in
    found_at tokens whole n (Some s.0) (within n s.0 s.1) ∙ ap Some s.2

-- a token of a macro, by its index
body_at : (tokens : List Token) (b : Body) (i : ℕ) (d : Token) → b.begin ≤ i → i < b.end → b.end ≤ length tokens → get_or (body_tokens tokens b) (i - b.begin) d ≡ get_or tokens i d
body_at tokens b i d le lt within =
    let k : b.begin + (i - b.begin) ≡ i = omega arith in
    get_or-take (b.end - b.begin) (drop b.begin tokens) (i - b.begin) d (omega arith) ∙ get_or-drop b.begin tokens (i - b.begin) d ∙ ap (λ n. get_or tokens n d) k

body_size : (tokens : List Token) (b : Body) → b.begin ≤ b.end → b.end ≤ length tokens → length (body_tokens tokens b) ≡ b.end - b.begin
body_size tokens b le within = omega (arith, length-take (b.end - b.begin) (drop b.begin tokens), length-drop b.begin tokens)

leads_next : (tokens : List Token) (whole : List (Option Body)) (out : ℕ) (f : Frame) (t : Token) → IsEntered tokens whole out f → f.next < f.body.end → f.body.end ≤ length tokens → t ≡ get_or tokens f.next t → Leads (seen tokens whole) (Name f.name) t.kind
leads_next tokens whole out f t w lt le e =
    let small : f.next - f.body.begin < length (body_tokens tokens f.body) = omega (arith, w.begun, body_size tokens f.body (omega (arith, w.begun)) le) in
    let same : get_or (body_tokens tokens f.body) (f.next - f.body.begin) t ≡ t = body_at tokens f.body f.next t w.begun lt le ∙ sym e in
    subst (λ (u : Token). Leads (seen tokens whole) (Name f.name) u.kind) same (leads_in (seen tokens whole) f.name (body_tokens tokens f.body) (found_at tokens whole f.name (Some f.body) w.entry) (f.next - f.body.begin) t small)

-- a token that meets no macro that is being replaced gives here what it gives anywhere
pub known_here : (source : List ℕ) (tokens : List Token) (whole table : List (Option Body)) (out bound depth level : ℕ) (f : Frame) (fs : List Frame) (t : Token) → IsListening tokens whole table out bound f fs → all_back table (f ∷ fs) ≡ whole → f.next < f.body.end → f.body.end ≤ length tokens → t ≡ get_or tokens f.next t → macro_count table ≤ depth → IsFree level (seen tokens whole) t.kind → replaced depth source (seen tokens table) t ≡ replaced (length whole) source (seen tokens whole) t
known_here source tokens whole table out bound depth level f fs t w same lt le e few h =
    let l = leads_next tokens whole out f t w.entered lt le e in
    same_here depth level source tokens whole table t few (lies_in tokens whole table w.within) (passes tokens whole table out bound f fs t.kind same l w.outer) h

-- so does each token of a macro of all
pub body_passes : (tokens : List Token) (whole table : List (Option Body)) (out bound : ℕ) (f : Frame) (fs : List Frame) → IsListening tokens whole table out bound f fs → all_back table (f ∷ fs) ≡ whole → (k : ℕ) (d : Token) → k < length (body_tokens tokens f.body) → Passes (seen tokens whole) (seen tokens table) (slice_index_or (body_tokens tokens f.body) k d).kind
body_passes tokens whole table out bound f fs w same k d lt =
    let l = leads_in (seen tokens whole) f.name (body_tokens tokens f.body) (found_at tokens whole f.name (Some f.body) w.entered.entry) k d lt in
    passes tokens whole table out bound f fs (slice_index_or (body_tokens tokens f.body) k d).kind same l w.outer

-- ---- steps

front_more : (tokens : List Token) (f : Frame) (t : Token) → f.body.begin ≤ f.next → f.next < length tokens → t ≡ get_or tokens f.next t → front_of tokens (next_frame f) ≡ front_of tokens f ++ t ∷ []
front_more tokens f t le lt e =
    let i = f.next - f.body.begin in
    let k : f.next + 1 - f.body.begin ≡ suc i = omega arith in
    let small : i < length (drop f.body.begin tokens) = omega (arith, length-drop f.body.begin tokens) in
    let at : f.body.begin + i ≡ f.next = omega arith in
    let same : get_or (drop f.body.begin tokens) i t ≡ t = get_or-drop f.body.begin tokens i t ∙ ap (λ n. get_or tokens n t) at ∙ sym e in
    ap (λ n. take n (drop f.body.begin tokens)) k ∙ take-suc (drop f.body.begin tokens) i t small ∙ ap (λ x. front_of tokens f ++ x ∷ []) same

free_so_far_more : (tokens : List Token) (whole : List (Option Body)) (f : Frame) (t : Token) (level : ℕ) → f.body.begin ≤ f.next → f.next < length tokens → t ≡ get_or tokens f.next t → IsFree level (seen tokens whole) t.kind → IsFreeSoFar tokens whole f → IsFreeSoFar tokens whole (next_frame f)
free_so_far_more tokens whole f t level le lt e h w =
    let macros = seen tokens whole in
    let depth = w.0 in
    let q = w.1 in
    let old : All (λ (u : Token). IsFree (level + depth) macros u.kind) (front_of tokens f) = λ k d l. free_more depth (level + depth) macros (slice_index_or (front_of tokens f) k d).kind (omega arith) (q k d l) in
    let one : All (λ (u : Token). IsFree (level + depth) macros u.kind) (t ∷ []) = All-cons (λ (u : Token). IsFree (level + depth) macros u.kind) t [] (free_more level (level + depth) macros t.kind (omega arith) h) (All-nil (λ (u : Token). IsFree (level + depth) macros u.kind)) in
    (level + depth, subst (All (λ (u : Token). IsFree (level + depth) macros u.kind)) (sym (front_more tokens f t le lt e)) (All-append (λ (u : Token). IsFree (level + depth) macros u.kind) (front_of tokens f) (t ∷ []) old one))

entered_more : (tokens : List Token) (whole : List (Option Body)) (out new : ℕ) (f : Frame) → out ≤ new → IsEntered tokens whole out f → IsEntered tokens whole new f
entered_more tokens whole out new f le w = record { begun = w.begun; entry = w.entry; before = omega (arith, w.before) }

entered_next : (tokens : List Token) (whole : List (Option Body)) (out : ℕ) (f : Frame) → IsEntered tokens whole out f → IsEntered tokens whole out (next_frame f)
entered_next tokens whole out f w = record { begun = omega (arith, w.begun); entry = w.entry; before = w.before }

outer_more : (tokens : List Token) (whole : List (Option Body)) (out new bound name before : ℕ) (fs : List Frame) → out ≤ new → AreOuter tokens whole out bound name before fs → AreOuter tokens whole new bound name before fs
outer_more tokens whole out new bound name before [] le o = tt
outer_more tokens whole out new bound name before (f ∷ fs) le o = (
  record { entered = entered_more tokens whole out new f le o.0.entered; leads = o.0.leads; earlier = o.0.earlier; free = o.0.free },
  outer_more tokens whole out new bound f.name f.before fs le o.1,
)

outer_bound : (tokens : List Token) (whole : List (Option Body)) (out new bound name before : ℕ) (fs : List Frame) → out < new → AreOuter tokens whole out bound name before fs → AreOuter tokens whole new new name before fs
outer_bound tokens whole out new bound name before [] lt o = tt
outer_bound tokens whole out new bound name before (f ∷ fs) lt o = (
  record {
    entered = entered_more tokens whole out new f (omega arith) o.0.entered;
    leads = o.0.leads;
    earlier = o.0.earlier;
    free = λ le depth h. absurd (omega (arith, o.0.entered.before));
  },
  outer_bound tokens whole out new bound f.name f.before fs lt o.1,
)

-- a token that meets no macro that is being replaced
pub listen_free : (tokens : List Token) (whole table : List (Option Body)) (out new bound level : ℕ) (f : Frame) (fs : List Frame) (t : Token) → IsListening tokens whole table out bound f fs → out ≤ new → f.next < length tokens → t ≡ get_or tokens f.next t → IsFree level (seen tokens whole) t.kind → IsListening tokens whole table new bound (next_frame f) fs
listen_free tokens whole table out new bound level f fs t w more lt e h = record {
  entered = entered_next tokens whole new f (entered_more tokens whole out new f more w.entered);
  free = λ le. free_so_far_more tokens whole f t level w.entered.begun lt e h (w.free le);
  outer = outer_more tokens whole out new bound f.name f.before fs more w.outer;
  within = w.within;
}

-- a macro that is being replaced
pub listen_bound : (tokens : List Token) (whole table : List (Option Body)) (out new bound : ℕ) (f : Frame) (fs : List Frame) → IsListening tokens whole table out bound f fs → out < new → IsListening tokens whole table new new (next_frame f) fs
listen_bound tokens whole table out new bound f fs w lt = record {
  entered = entered_next tokens whole new f (entered_more tokens whole out new f (omega arith) w.entered);
  free = λ le. absurd (omega (arith, w.entered.before));
  outer = outer_bound tokens whole out new bound f.name f.before fs lt w.outer;
  within = w.within;
}

-- a token that is no macro here, by whether it is one that is being replaced
pub listen_put : (tokens : List Token) (whole table : List (Option Body)) (out new bound later : ℕ) (f : Frame) (fs : List Frame) (t : Token) (b : Bool) → IsListening tokens whole table out bound f fs → out < new → f.next < length tokens → t ≡ get_or tokens f.next t → (b ≡ false → IsFree 1 (seen tokens whole) t.kind) → later ≡ cond b new bound → IsListening tokens whole table new later (next_frame f) fs
listen_put tokens whole table out new bound later f fs t true w more lt e h same = subst (λ k. IsListening tokens whole table new k (next_frame f) fs) (sym same) (listen_bound tokens whole table out new bound f fs w more)
listen_put tokens whole table out new bound later f fs t false w more lt e h same = subst (λ k. IsListening tokens whole table new k (next_frame f) fs) (sym same) (listen_free tokens whole table out new bound 1 f fs t w (omega arith) lt e (h refl))

no_front : (tokens : List Token) (whole : List (Option Body)) (f : Frame) → f.next ≡ f.body.begin → IsFreeSoFar tokens whole f
no_front tokens whole f e =
    let k : f.next - f.body.begin ≡ 0 = omega arith in
    (0, subst (λ n. All (λ (t : Token). IsFree 0 (seen tokens whole) t.kind) (take n (drop f.body.begin tokens))) (sym k) (All-nil (λ (t : Token). IsFree 0 (seen tokens whole) t.kind)))

-- a macro that is entered
pub listen_enter : (tokens : List Token) (whole table : List (Option Body)) (out before bound : ℕ) (f : Frame) (fs : List Frame) (t : Token) (n : ℕ) (b : Body) → IsListening tokens whole table out bound f fs → f.next < f.body.end → f.body.end ≤ length tokens → t ≡ get_or tokens f.next t → t.kind ≡ Name n → slice_get table n ≡ Some (Some b) → before ≡ out → IsListening tokens whole (set table n None) out bound (entered n before b) (next_frame f ∷ fs)
listen_enter tokens whole table out before bound f fs t n b w lt le e k m count = record {
  entered = record { begun = omega arith; entry = w.within n b m; before = omega arith };
  free = λ same. no_front tokens whole (entered n before b) refl;
  outer = (
    record {
      entered = entered_next tokens whole out f w.entered;
      leads = subst (Leads (seen tokens whole) (Name f.name)) k (leads_next tokens whole out f t w.entered lt le e);
      earlier = omega (arith, w.entered.before);
      free = λ less depth h. free_so_far_more tokens whole f t depth w.entered.begun (omega arith) e (subst (IsFree depth (seen tokens whole)) (sym k) h) (w.free less);
    },
    w.outer,
  );
  within = λ i c g. elim (get_cases table n i None (Some c) g) [
    | inl h ↦ w.within i c h
    | inr h ↦ absurd (none_some h.1)
  ];
}
  where
    none_some : {c : Body} → None ≡ Some c → ⊥
    none_some g = cc

-- a macro of which all was walked, and no macro that was being replaced was met
pub whole_free : (tokens : List Token) (whole table : List (Option Body)) (out bound : ℕ) (f : Frame) (fs : List Frame) → IsListening tokens whole table out bound f fs → f.next ≡ f.body.end → bound ≤ f.before → (depth : ℕ) × IsFree depth (seen tokens whole) (Name f.name)
whole_free tokens whole table out bound f fs w e le =
    let q = w.free le in
    let all : All (λ (t : Token). IsFree q.0 (seen tokens whole) t.kind) (body_tokens tokens f.body) = subst (λ n. All (λ (t : Token). IsFree q.0 (seen tokens whole) t.kind) (take (n - f.body.begin) (drop f.body.begin tokens))) e q.1 in
    (suc q.0, body_free q.0 (seen tokens whole) f.name (body_tokens tokens f.body) (found_at tokens whole f.name (Some f.body) w.entered.entry) all)

-- the end of a macro
pub listen_leave : (tokens : List Token) (whole table : List (Option Body)) (out bound : ℕ) (f g : Frame) (fs : List Frame) → IsListening tokens whole table out bound f (g ∷ fs) → f.next ≡ f.body.end → IsListening tokens whole (put_back table f) out bound g fs
listen_leave tokens whole table out bound f g fs w e = record {
  entered = w.outer.0.entered;
  free = λ le. let h = whole_free tokens whole table out bound f (g ∷ fs) w e (omega (arith, w.outer.0.earlier)) in w.outer.0.free le h.0 h.1;
  outer = w.outer.1;
  within = λ i c k. elim (get_cases table f.name i (Some f.body) (Some c) k) [
    | inl h ↦ w.within i c h
    | inr h ↦ ap (slice_get whole) h.0 ∙ w.entered.entry ∙ ap Some h.1
  ];
}

pub get_same : {X : Type 0} (xs : List X) (n : ℕ) (x : X) → n < length xs → slice_get (set xs n x) n ≡ Some x
get_same [] n x lt = absurd (omega arith)
get_same (y ∷ xs) zero x lt = refl
get_same (y ∷ xs) (suc n) x lt = get_same xs n x (omega arith)

get_kept : {X : Type 0} (xs : List X) (n m : ℕ) (x y z : X) → slice_get xs n ≡ Some z → slice_get xs m ≡ Some y → (slice_get (set xs n x) m ≡ Some y) ⊎ (y ≡ z)
get_kept [] n m x y z e f = inl f
get_kept (w ∷ xs) zero zero x y z e f = inr cc
get_kept (w ∷ xs) zero (suc m) x y z e f = inl f
get_kept (w ∷ xs) (suc n) zero x y z e f = inl f
get_kept (w ∷ xs) (suc n) (suc m) x y z e f = get_kept xs n m x y z e f

-- the outermost macro
pub listen_start : (tokens : List Token) (table : List (Option Body)) (out bound : ℕ) (f : Frame) → slice_get table f.name ≡ Some None → f.name < length table → f.next ≡ f.body.begin → f.before ≡ out → IsListening tokens (put_back table f) table out bound f []
listen_start tokens table out bound f taken lt e same = record {
  entered = record { begun = omega arith; entry = get_same table f.name (Some f.body) lt; before = omega arith };
  free = λ k. no_front tokens (put_back table f) f e;
  outer = tt;
  within = λ n b k. elim (get_kept table f.name n (Some f.body) (Some b) None taken k) [
    | inl h ↦ h
    | inr h ↦ absurd (some_none h)
  ];
}
  where
    some_none : {c : Body} → Some c ≡ None → ⊥
    some_none g = cc
