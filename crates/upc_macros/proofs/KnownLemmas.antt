-- What is known of the macros.
use Rattle.std.proofs.Common.{◌≡◌, ℕ, ◌+◌, ◌-◌, ◌<◌, ◌≤◌, zero, suc, Bool, true, false, cond, eqb, leb, List, [], ◌∷◌, ◌++◌, length, map, get_or, take, drop, set, append_assoc, length-append, length-drop, Option, Some, None, Result, Ok, Err, OnOk, refl, sym, ap, ◌∙◌, subst, ◌⊎◌, inl, inr, arith}
use Rattle.std.specs.Prelude.{flat_map, replicate, option_map}
use Rattle.std.specs.List.{slice_get, slice_index_or}
use Rattle.std.proofs.Math.Seq.{drop-append_seam}
use Rattle.std.proofs.Math.ListN.{length-set}
use Rattle.std.proofs.lemmas.Bool.{eqb-true, leb-true}
use Rattle.std.proofs.lemmas.List.{map-append, length-map, take_all, take-append-le, drop-append-le, append_cancel_right}
use Rattle.upc_text.specs.declared.place.Place.{Place}
use Rattle.upc_lexer.specs.declared.token.Token.{Token}
use Rattle.upc_lexer.specs.declared.token.TokenKind.{TokenKind}
use Rattle.upc_lexer.specs.declared.token.TokenKind.TheVariants.{Name, Word, Number, Character, Str, Punct, Pragma}
use Rattle.upc_macros.specs.declared.table.Body.{Body}
use Rattle.upc_macros.specs.declared.walk.Frame.{Frame}
use Rattle.upc_macros.specs.declared.known.Gift.{Gift}
use Rattle.upc_macros.specs.declared.known.Known.{Known}
use Rattle.upc_macros.specs.Replacing.{replaced, placed}
use Rattle.upc_macros.specs.Expansion.{Item, given}
use Rattle.upc_macros.specs.code.Table.{seen, body_tokens, macro_count, IsNumbered, Takes}
use Rattle.upc_macros.specs.code.Walk.{placed_items, put_back, pending, all_back, IsWalk}
use Rattle.upc_macros.specs.code.Known.{IsFree, current, gift_of, is_defined, IsGift, AreKnown, IsListening, IsBegun, AreBegun}
use Rattle.upc_macros.proofs.Tables.{set-back, map-set}
use Rattle.upc_macros.proofs.WalkLemmas.{next_frame, entered, rest_end}
use Rattle.upc_macros.proofs.FreeLemmas.{plain_free, body_gives}
use Rattle.upc_macros.proofs.ListeningLemmas.{lies_in, known_here, body_passes, whole_free}

-- ---- how a walk stood when each macro was entered

pub begun_start : (source : List ℕ) (tokens : List Token) (first : ℕ) (table : List (Option Body)) (f : Frame) → f.next ≡ f.body.begin → f.before ≡ first → AreBegun source tokens (pending source tokens (length table - 1) table (f ∷ [])) first (length table - 1) table (f ∷ [])
begun_start source tokens first table f e same = (
  record {
    head = [];
    before = omega (arith, same);
    whole_is = ap (λ n. flat_map (replaced (length table - 1) source (seen tokens table)) (take (f.body.end - n) (drop n tokens)) ++ []) e;
  },
  tt,
)

pub begun_next : (source : List ℕ) (tokens whole : List Token) (first depth : ℕ) (table : List (Option Body)) (f : Frame) (fs : List Frame) → AreBegun source tokens whole first depth table (f ∷ fs) → AreBegun source tokens whole first depth table (next_frame f ∷ fs)
begun_next source tokens whole first depth table f fs b = (record { head = b.0.head; before = b.0.before; whole_is = b.0.whole_is }, b.1)

pub begun_enter : (source : List ℕ) (tokens : List Token) (place : Place) (first whole : List Token) (old table : List (Option Body)) (f : Frame) (fs : List Frame) (out : List Token) (n before : ℕ) (b : Body) → IsWalk source tokens place first whole old (set table n None) (entered n before b ∷ next_frame f ∷ fs) out → before ≡ length out → slice_get table n ≡ Some (Some b) → length table - suc (length fs) ≡ suc (length (set table n None) - suc (suc (length fs))) → AreBegun source tokens whole (length first) (length table - suc (length fs)) table (f ∷ fs) → AreBegun source tokens whole (length first) (length (set table n None) - suc (suc (length fs))) (set table n None) (entered n before b ∷ next_frame f ∷ fs)
begun_enter source tokens place first whole old table f fs out n before b w same e d g = (
  record {
    head = w.done;
    before = omega (arith, same, ap length w.out_is, length-append first (map (placed place) w.done), length-map w.done (placed place));
    whole_is = w.whole_is;
  },
  rw (set-back table n (Some b) None e, ← d) (begun_next source tokens whole (length first) (length table - suc (length fs)) table f fs g),
)

pub begun_leave : (source : List ℕ) (tokens whole : List Token) (first : ℕ) (table : List (Option Body)) (f : Frame) (fs : List Frame) → length (put_back table f) - length fs ≡ suc (length table - suc (length fs)) → AreBegun source tokens whole first (length table - suc (length fs)) table (f ∷ fs) → AreBegun source tokens whole first (length (put_back table f) - length fs) (put_back table f) fs
begun_leave source tokens whole first table f fs d g = subst (λ k. AreBegun source tokens whole first k (put_back table f) fs) (sym d) g.1

-- ---- what a macro gave that was walked whole

-- the tokens since it was entered
since_entered : (source : List ℕ) (tokens : List Token) (place : Place) (first whole : List Token) (old table : List (Option Body)) (f : Frame) (fs : List Frame) (out : List Token) → IsWalk source tokens place first whole old table (f ∷ fs) out → IsBegun source tokens whole (length first) (length table - suc (length fs)) table f fs → f.body.end ≤ f.next → take (length out - f.before) (drop f.before out) ≡ map (placed place) (flat_map (replaced (length table - suc (length fs)) source (seen tokens table)) (body_tokens tokens f.body))
since_entered source tokens place first whole old table f fs out w b le =
    let d = length table - suc (length fs) in
    let gave = flat_map (replaced d source (seen tokens table)) (body_tokens tokens f.body) in
    let rest = pending source tokens (suc d) (put_back table f) fs in
    let now : whole ≡ w.done ++ rest = w.whole_is ∙ ap (λ l. w.done ++ l) (rw (rest_end tokens f le) refl) in
    let done : w.done ≡ b.head ++ gave = append_cancel_right w.done (b.head ++ gave) rest (sym now ∙ b.whole_is ∙ sym (append_assoc b.head gave rest)) in
    let front = first ++ map (placed place) b.head in
    let all : out ≡ front ++ map (placed place) gave = w.out_is ∙ ap (λ l. first ++ map (placed place) l) done ∙ ap (λ l. first ++ l) (map-append (placed place) b.head gave) ∙ sym (append_assoc first (map (placed place) b.head) (map (placed place) gave)) in
    let size : length front ≡ f.before = length-append first (map (placed place) b.head) ∙ ap (λ n. length first + n) (length-map b.head (placed place)) ∙ sym b.before in
    let behind : drop f.before out ≡ map (placed place) gave = ap (λ n. drop n out) (sym size) ∙ ap (drop (length front)) all ∙ drop-append_seam front (map (placed place) gave) in
    take_all (length out - f.before) (drop f.before out) (omega (arith, length-drop f.before out)) ∙ behind

again : (place other : Place) (ts : List Token) → placed_items place (map (placed other) ts) ≡ placed_items place ts
again place other [] = refl
again place other (t ∷ ts) = ap (λ l. given (placed place t) ∷ l) (again place other ts)

pub gift_is : (source : List ℕ) (tokens : List Token) (place : Place) (first all : List Token) (whole table : List (Option Body)) (f : Frame) (fs : List Frame) (out : List Token) (bound since : ℕ) → IsWalk source tokens place first all whole table (f ∷ fs) out → AreBegun source tokens all (length first) (length table - suc (length fs)) table (f ∷ fs) → IsListening tokens whole table (length out) bound f fs → f.body.end ≤ f.next → bound ≤ f.before → IsGift source tokens whole out f.name (record { since = since; from = f.before; count = length out - f.before })
gift_is source tokens place first all whole table f fs out bound since w b l le less =
    let end : f.next ≡ f.body.end = omega (arith, le, w.frames_are.0.forward) in
    let free = whole_free tokens whole table (length out) bound f fs l end less in
    let d = length table - suc (length fs) in
    record {
      free = free;
      within = omega (arith, l.entered.before);
      gives = λ t p k.
          ap (placed_items p) (since_entered source tokens place first all whole table f fs out w b.0 le)
          ∙ again p place (flat_map (replaced d source (seen tokens table)) (body_tokens tokens f.body))
          ∙ ap (placed_items p) (body_gives d free.0 source tokens whole table f.name f.body t (omega (arith, w.few)) (lies_in tokens whole table l.within) (body_passes tokens whole table (length out) bound f fs l w.old_is) free.1 l.entered.entry k);
    }

-- ---- what is known

some_gift : {g h : Gift} → Some g ≡ Some h → g ≡ h
some_gift e = cc

current_is : (o : Option Gift) (since : ℕ) (g : Gift) → current o since ≡ Some g → (o ≡ Some g) × (g.since ≡ since)
current_is None since g e = absurd cc
current_is (Some h) since g e = by_time (eqb h.since since) refl e
  where
    by_time : (b : Bool) → eqb h.since since ≡ b → cond b (Some h) None ≡ Some g → (Some h ≡ Some g) × (g.since ≡ since)
    by_time true f i = (i, ap (λ (x : Gift). x.since) (sym (some_gift i)) ∙ eqb-true h.since since f)
    by_time false f i = absurd cc

-- the gift of a token
pub known_gift : (source : List ℕ) (tokens : List Token) (table : List (Option Body)) (out : List Token) (k : Known) (kind : TokenKind) (g : Gift) → AreKnown source tokens table out k → gift_of k kind ≡ Some g → (n : ℕ) × (kind ≡ Name n) × IsGift source tokens table out n g
known_gift source tokens table out k (Name n) g w e =
    let c = current_is (slice_index_or k.gifts.items n None) k.since g e in
    (n, refl, w.gifts n g c.0 c.1)
known_gift source tokens table out k (Word x) g w e = absurd cc
known_gift source tokens table out k (Number v l) g w e = absurd cc
known_gift source tokens table out k (Character v) g w e = absurd cc
known_gift source tokens table out k (Str v) g w e = absurd cc
known_gift source tokens table out k (Punct m) g w e = absurd cc
known_gift source tokens table out k (Pragma b) g w e = absurd cc

-- what a token that is known gives in a walk
pub record IsCopied (source : List ℕ) (tokens : List Token) (place : Place) (whole table : List (Option Body)) (depth : ℕ) (out : List Token) (t : Token) (g : Gift) : Type 0 where
  pub level : ℕ
  pub free : IsFree level (seen tokens whole) t.kind
  pub here : replaced depth source (seen tokens table) t ≡ replaced (length whole) source (seen tokens whole) t
  pub gives : placed_items place (take g.count (drop g.from out)) ≡ placed_items place (replaced (length whole) source (seen tokens whole) t)

pub copied : (source : List ℕ) (tokens : List Token) (place : Place) (whole table : List (Option Body)) (out : List Token) (bound depth : ℕ) (f : Frame) (fs : List Frame) (t : Token) (k : Known) (g : Gift) → AreKnown source tokens whole out k → IsListening tokens whole table (length out) bound f fs → all_back table (f ∷ fs) ≡ whole → f.next < f.body.end → f.body.end ≤ length tokens → t ≡ get_or tokens f.next t → macro_count table ≤ depth → gift_of k t.kind ≡ Some g → IsCopied source tokens place whole table depth out t g
copied source tokens place whole table out bound depth f fs t k g w l same lt le e few found =
    let x = known_gift source tokens whole out k t.kind g w found in
    let free = subst (IsFree x.2.free.0 (seen tokens whole)) (sym x.1) x.2.free.1 in
    record {
      level = x.2.free.0;
      free = free;
      here = known_here source tokens whole table (length out) bound depth x.2.free.0 f fs t l same lt le e few free;
      gives = x.2.gives t place x.1;
    }

-- what is said to be no macro is free
pub undefined_free : (source : List ℕ) (tokens : List Token) (table : List (Option Body)) (out : List Token) (k : Known) (kind : TokenKind) → AreKnown source tokens table out k → is_defined k kind ≡ false → IsFree 1 (seen tokens table) kind
undefined_free source tokens table out k kind w e = plain_free (seen tokens table) kind (λ n same. w.defined n (subst (λ x. is_defined k x ≡ false) same e))

gift_more : (source : List ℕ) (tokens : List Token) (table : List (Option Body)) (out xs : List Token) (n : ℕ) (g : Gift) → IsGift source tokens table out n g → IsGift source tokens table (out ++ xs) n g
gift_more source tokens table out xs n g w =
    let here : take g.count (drop g.from (out ++ xs)) ≡ take g.count (drop g.from out) =
    ap (take g.count) (drop-append-le g.from out xs (omega (arith, w.within))) ∙ take-append-le g.count (drop g.from out) xs (omega (arith, w.within, length-drop g.from out)) in
    record {
      free = w.free;
      within = omega (arith, w.within, length-append out xs);
      gives = λ t p k. ap (placed_items p) here ∙ w.gives t p k;
    }

-- it stays so when more is put out
pub known_more : (source : List ℕ) (tokens : List Token) (table : List (Option Body)) (out new : List Token) (its : List Item) (k : Known) → Takes out new its → AreKnown source tokens table out k → AreKnown source tokens table new k
known_more source tokens table out new its k t w = record {
  size = w.size;
  defined_size = w.defined_size;
  past = w.past;
  gifts = λ n g e f. subst (λ l. IsGift source tokens table l n g) (sym t.new_is) (gift_more source tokens table out t.tokens n g (w.gifts n g e f));
  defined = w.defined;
}

index_cases : (xs : List (Option Gift)) (n m : ℕ) (x y : Option Gift) → slice_index_or (set xs n x) m None ≡ y → (slice_index_or xs m None ≡ y) ⊎ ((m ≡ n) × (x ≡ y))
index_cases [] n m x y e = inl e
index_cases (z ∷ xs) zero zero x y e = inr (refl, e)
index_cases (z ∷ xs) zero (suc m) x y e = inl e
index_cases (z ∷ xs) (suc n) zero x y e = inl e
index_cases (z ∷ xs) (suc n) (suc m) x y e = elim (index_cases xs n m x y e) [
  | inl f ↦ inl f
  | inr f ↦ inr (ap (λ k. suc k) f.0, f.1)
]

noted_if : (source : List ℕ) (tokens : List Token) (table : List (Option Body)) (out : List Token) (k new : Known) (n : ℕ) (g : Gift) (b : Bool) → AreKnown source tokens table out k → new.since ≡ k.since → new.defined.items ≡ k.defined.items → new.gifts.items ≡ cond b (set k.gifts.items n (Some g)) k.gifts.items → g.since ≡ k.since → (b ≡ true → IsGift source tokens table out n g) → AreKnown source tokens table out new
noted_if source tokens table out k new n g false w since defined gifts time h = record {
  size = ap length gifts ∙ w.size;
  defined_size = ap length defined ∙ w.defined_size;
  past = λ m x e. subst (λ j. x.since ≤ j) (sym since) (w.past m x (ap (λ l. slice_index_or l m None) (sym gifts) ∙ e));
  gifts = λ m x e f. w.gifts m x (ap (λ l. slice_index_or l m None) (sym gifts) ∙ e) (f ∙ since);
  defined = λ m e. w.defined m (ap (λ l. slice_index_or l m false) (sym defined) ∙ e);
}
noted_if source tokens table out k new n g true w since defined gifts time h = record {
  size = ap length gifts ∙ length-set k.gifts.items n (Some g) ∙ w.size;
  defined_size = ap length defined ∙ w.defined_size;
  past = λ m x e. elim (index_cases k.gifts.items n m (Some g) (Some x) (ap (λ l. slice_index_or l m None) (sym gifts) ∙ e)) [
    | inl f ↦ subst (λ j. x.since ≤ j) (sym since) (w.past m x f)
    | inr f ↦ omega (arith, since, time, ap (λ (y : Gift). y.since) (some_gift f.1))
  ];
  gifts = λ m x e i. elim (index_cases k.gifts.items n m (Some g) (Some x) (ap (λ l. slice_index_or l m None) (sym gifts) ∙ e)) [
    | inl f ↦ w.gifts m x f (i ∙ since)
    | inr f ↦ subst (λ j. IsGift source tokens table out j x) (sym f.0) (subst (IsGift source tokens table out n) (some_gift f.1) (h refl))
  ];
  defined = λ m e. w.defined m (ap (λ l. slice_index_or l m false) (sym defined) ∙ e);
}

pub noted : (source : List ℕ) (tokens : List Token) (table : List (Option Body)) (out : List Token) (k new : Known) (f : Frame) (bound count : ℕ) → AreKnown source tokens table out k → new.since ≡ k.since → new.defined.items ≡ k.defined.items → new.gifts.items ≡ cond (leb bound f.before) (set k.gifts.items f.name (Some (record { since = k.since; from = f.before; count = count - f.before }))) k.gifts.items → count ≡ length out → (bound ≤ f.before → IsGift source tokens table out f.name (record { since = k.since; from = f.before; count = length out - f.before })) → AreKnown source tokens table out new
noted source tokens table out k new f bound count w since defined gifts same h =
    noted_if source tokens table out k new f.name (record { since = k.since; from = f.before; count = length out - f.before }) (leb bound f.before) w since defined
    (gifts ∙ ap (λ n. cond (leb bound f.before) (set k.gifts.items f.name (Some (record { since = k.since; from = f.before; count = n - f.before }))) k.gifts.items) same)
    refl (λ e. h (leb-true bound f.before e))

-- ---- a directive that changes a macro

defined_after : (said : List Bool) (macros : List (Option (List Token))) (n m : ℕ) (b : Bool) (o : Option (List Token)) → n < length said → (b ≡ false → o ≡ None) → (slice_index_or said m false ≡ false → slice_index_or macros m None ≡ None) → slice_index_or (set said n b) m false ≡ false → slice_index_or (set macros n o) m None ≡ None
defined_after [] macros n m b o lt h g e = absurd (omega arith)
defined_after (d ∷ said) [] n m b o lt h g e = refl
defined_after (d ∷ said) (x ∷ macros) zero zero b o lt h g e = h e
defined_after (d ∷ said) (x ∷ macros) zero (suc m) b o lt h g e = g e
defined_after (d ∷ said) (x ∷ macros) (suc n) zero b o lt h g e = g e
defined_after (d ∷ said) (x ∷ macros) (suc n) (suc m) b o lt h g e = defined_after said macros n m b o (omega arith) h g e

pub forgotten : (source : List ℕ) (tokens : List Token) (table : List (Option Body)) (out : List Token) (k new : Known) (n : ℕ) (b : Bool) (o : Option Body) (begin end : ℕ) → AreKnown source tokens table out k → n < length table → (b ≡ false → o ≡ None) → k.since ≤ begin → begin < end → new.since ≡ end → new.defined.items ≡ set k.defined.items n b → new.gifts.items ≡ k.gifts.items → AreKnown source tokens (set table n o) out new
forgotten source tokens table out k new n b o begin end w lt h le later since defined gifts = record {
  size = ap length gifts ∙ w.size ∙ sym (length-set table n o);
  defined_size = ap length defined ∙ length-set k.defined.items n b ∙ w.defined_size ∙ sym (length-set table n o);
  past = λ m x e. omega (arith, since, w.past m x (ap (λ l. slice_index_or l m None) (sym gifts) ∙ e));
  gifts = λ m x e i. absurd (omega (arith, since, i, w.past m x (ap (λ l. slice_index_or l m None) (sym gifts) ∙ e)));
  defined = λ m e. ap (λ l. slice_index_or l m None) (map-set (option_map (body_tokens tokens)) table n o)
      ∙ defined_after k.defined.items (seen tokens table) n m b (option_map (body_tokens tokens) o) (omega (arith, w.defined_size)) (λ f. ap (option_map (body_tokens tokens)) (h f)) (w.defined m) (ap (λ l. slice_index_or l m false) (sym defined) ∙ e);
}

-- at first there is no macro
pub none_known : (source : List ℕ) (tokens : List Token) (table : List (Option Body)) (out : List Token) (k : Known) (names : ℕ) → table ≡ replicate names None → k.defined.items ≡ replicate names false → k.gifts.items ≡ replicate names None → AreKnown source tokens table out k
none_known source tokens table out k names e defined gifts = record {
  size = ap length gifts ∙ count names ∙ sym (tables names) ∙ ap length (sym e);
  defined_size = ap length defined ∙ flags names ∙ sym (tables names) ∙ ap length (sym e);
  past = λ n x g. absurd (none_at names n x (ap (λ l. slice_index_or l n None) (sym gifts) ∙ g));
  gifts = λ n x g i. absurd (none_at names n x (ap (λ l. slice_index_or l n None) (sym gifts) ∙ g));
  defined = λ n g. ap (λ l. slice_index_or (seen tokens l) n None) e ∙ none_seen names n;
}
  where
    count : (k : ℕ) → length (replicate {A = Option Gift} k None) ≡ k
    count zero = refl
    count (suc k) = ap (λ n. suc n) (count k)

    tables : (k : ℕ) → length (replicate {A = Option Body} k None) ≡ k
    tables zero = refl
    tables (suc k) = ap (λ n. suc n) (tables k)

    flags : (k : ℕ) → length (replicate {A = Bool} k false) ≡ k
    flags zero = refl
    flags (suc k) = ap (λ n. suc n) (flags k)

    none_at : (k n : ℕ) (x : Gift) → slice_index_or (replicate {A = Option Gift} k None) n None ≡ Some x → ⊥
    none_at zero n x g = cc
    none_at (suc k) zero x g = cc
    none_at (suc k) (suc n) x g = none_at k n x g

    none_seen : (k n : ℕ) → slice_index_or (seen tokens (replicate {A = Option Body} k None)) n None ≡ None
    none_seen zero n = refl
    none_seen (suc k) zero = refl
    none_seen (suc k) (suc n) = none_seen k n

-- what is known goes with the table
pub known_along : {T E : Type 0} (r : Result T E) (source : List ℕ) (tokens : List Token) (table later : List (Option Body)) (out : List Token) (k : Known) → OnOk r (later ≡ table) → OnOk r (AreKnown source tokens table out k) → OnOk r (AreKnown source tokens later out k)
known_along (Ok x) source tokens table later out k e h = subst (λ t. AreKnown source tokens t out k) (sym e) h
known_along (Err y) source tokens table later out k e h = tt

-- and with what is put out
pub known_taken : {T E : Type 0} (r : Result T E) (source : List ℕ) (tokens : List Token) (table : List (Option Body)) (out new : List Token) (its : List Item) (k : Known) → OnOk r (Takes out new its) → AreKnown source tokens table out k → OnOk r (AreKnown source tokens table new k)
known_taken (Ok x) source tokens table out new its k t h = known_more source tokens table out new its k t h
known_taken (Err y) source tokens table out new its k t h = tt

pub numbered_along : (names size : ℕ) (kind : TokenKind) → size ≡ names → IsNumbered names kind → IsNumbered size kind
numbered_along names size kind e h = subst (λ n. IsNumbered n kind) (sym e) h
