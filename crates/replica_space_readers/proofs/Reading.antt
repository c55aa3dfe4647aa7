-- Reads of 1 and of 0 in a legal history.
use Rattle.std.proofs.Common.{◌≡◌, ℕ, ◌+◌, ◌-◌, ◌<◌, ◌≤◌, Bool, List, [], ◌∷◌, ◌++◌, ◌⊎◌, length, take, get_or, Option, Some, None, refl, sym, ap, subst, ◌∙◌, append-nil, arith, inl, inr, pos}
use Rattle.std.proofs.lemmas.List.{take_more}
use Rattle.std.proofs.lemmas.Bool.{cases_lt}
use Rattle.block_layout.specs.declared.place.Loc.{Loc}
use Rattle.upc_values.specs.declared.scalar.Scalar.{Scalar}
use Rattle.upc_values.specs.declared.scalar.Scalar.TheVariants.{Int}
use Rattle.upc_values.specs.declared.action.Action.TheVariants as act
use Rattle.upc_values.specs.declared.action.Reply.TheVariants.{Value}
use Rattle.upc_values.specs.declared.journal.Entry.{Entry}
use Rattle.upc_values.specs.Lists.{Each, Has, Precedes}
use Rattle.upc_values.specs.Drain.{entry_of, or_else, written, last_written}
use Rattle.upc_values.specs.Openings.{Opening, initial_of}
use Rattle.upc_values.specs.History.{objects, value_reply, held, IsLegal}
use Rattle.upc_values.proofs.Beginnings.{initial-stays}
use Rattle.upc_values.proofs.Legality.{legal-get}
use Rattle.upc_values.proofs.Lists.{each-at}
use Rattle.replica_space_readers.specs.code.Readers.{BeginsWith0, WritesNoneOr1, ReadersAgree}

-- ---- places in a list

-- a member's place
record At {X : Type 0} (xs : List X) (a : X) : Type 0 where
  place : ℕ
  below : place < length xs
  is : a ≡ get_or xs place a

has-at : {X : Type 0} (xs : List X) (a : X) → Has xs a → At xs a
has-at [] a h = absurd h
has-at (x ∷ xs) a (inl e) = record { place = 0; below = omega arith; is = sym e }
has-at (x ∷ xs) a (inr h) =
    let k = has-at xs a h in
    let below = k.below in
    record { place = ℕ.suc k.place; below = omega arith; is = k.is }

-- the places of two, one before the other
record Apart {X : Type 0} (xs : List X) (a b : X) : Type 0 where
  first : At xs a
  second : At xs b
  before : first.place < second.place

precedes-apart : {X : Type 0} (xs : List X) (a b : X) → Precedes xs a b → Apart xs a b
precedes-apart [] a b h = absurd h
precedes-apart (x ∷ xs) a b (inl h) =
    let k = has-at xs b h.1 in
    let below = k.below in
    record {
      first = record { place = 0; below = omega arith; is = sym h.0 };
      second = record { place = ℕ.suc k.place; below = omega arith; is = k.is };
      before = omega arith;
    }
precedes-apart (x ∷ xs) a b (inr h) =
    let k = precedes-apart xs a b h in
    let first = k.first.below in
    let second = k.second.below in
    let before = k.before in
    record {
      first = record { place = ℕ.suc k.first.place; below = omega arith; is = k.first.is };
      second = record { place = ℕ.suc k.second.place; below = omega arith; is = k.second.is };
      before = omega arith;
    }

-- ---- once 1 is written, it stays

or_else-none : (w : Option Scalar) → or_else w None ≡ w
or_else-none (Some v) = refl
or_else-none None = refl

or_else-assoc : (a b c : Option Scalar) → or_else (or_else a b) c ≡ or_else a (or_else b c)
or_else-assoc (Some v) b c = refl
or_else-assoc None b c = refl

last_written-push : (l : Loc) (es : List Entry) (e : Entry)
    → last_written l (es ++ e ∷ []) ≡ or_else (written l e.action) (last_written l es)
last_written-push l [] e = sym (or_else-none (written l e.action))
last_written-push l (d ∷ es) e =
    ap (λ z. or_else z (written l d.action)) (last_written-push l es e)
    ∙ or_else-assoc (written l e.action) (last_written l es) (written l d.action)

one-stays : (w c : Option Scalar) → (w ≡ None) ⊎ (w ≡ Some (Int (pos 1))) → c ≡ Some (Int (pos 1)) → or_else w c ≡ Some (Int (pos 1))
one-stays w c (inl n) h = ap (λ z. or_else z c) n ∙ h
one-stays w c (inr s) h = ap (λ z. or_else z c) s

-- the location has 1 after the first i entries, and so after n more
stays : (l : Loc) (es : List Entry) → Each (WritesNoneOr1 l) es → (i n : ℕ) → i + n ≤ length es
    → last_written l (take i es) ≡ Some (Int (pos 1)) → last_written l (take (i + n) es) ≡ Some (Int (pos 1))
stays l es h i ℕ.zero b w = subst (λ k. last_written l (take k es) ≡ Some (Int (pos 1))) (omega arith) w
stays l [] h i (ℕ.suc n) b w = absurd (omega arith)
stays l (d ∷ es) h i (ℕ.suc n) b w =
    let all = d ∷ es in
    let e = get_or all (i + n) d in
    let next : last_written l (take (i + n + 1) all) ≡ Some (Int (pos 1)) =
    ap (last_written l) (take_more all (i + n) d (omega arith))
    ∙ last_written-push l (take (i + n) all) e
    ∙ one-stays (written l e.action) (last_written l (take (i + n) all))
    (each-at (WritesNoneOr1 l) all (i + n) d h (omega arith)) (stays l all h i n (omega arith) w) in
    subst (λ k. last_written l (take k all) ≡ Some (Int (pos 1))) (omega arith) next

-- ---- what reads of 1 and of 0 have before them

begins-held : (o : Opening) (front : List Entry) (l : Loc) → BeginsWith0 o l → initial_of o (objects o front) l ≡ Some (Int (pos 0))
begins-held o front l h =
    initial-stays o [] front l (Int (pos 0)) (ap (λ z. initial_of o z l) (append-nil o.declared) ∙ h)

value-held : (o : Opening) (front : List Entry) (l : Loc) (v : Scalar) → BeginsWith0 o l → value_reply (held o front l) ≡ Some (Value v)
    → or_else (last_written l front) (Some (Int (pos 0))) ≡ Some v
value-held o front l v b h =
    inner (or_else (last_written l front) (Some (Int (pos 0))))
    (ap (λ z. value_reply (or_else (last_written l front) z)) (sym (begins-held o front l b)) ∙ h)
  where
    inner : (c : Option Scalar) → value_reply c ≡ Some (Value v) → c ≡ Some v
    inner (Some u) k = cc
    inner None k = absurd cc

one-written : (c : Option Scalar) → or_else c (Some (Int (pos 0))) ≡ Some (Int (pos 1)) → c ≡ Some (Int (pos 1))
one-written (Some v) h = h
one-written None h = absurd cc

-- in a legal history in which nothing but 1 is written to the location, a read of 0 stands before each read of 1
zero-first : (o : Opening) (es : List Entry) (l : Loc) → IsLegal o es → BeginsWith0 o l → Each (WritesNoneOr1 l) es
    → (t i u j : ℕ) (s r : Bool) (one : At es (entry_of t i (act.Read l s) (Value (Int (pos 1)))))
    (zero : At es (entry_of u j (act.Read l r) (Value (Int (pos 0))))) → zero.place < one.place
zero-first o es l h b w t i u j s r one zero =
    elim (cases_lt zero.place one.place) [
      | inl lt ↦ lt
      | inr le ↦
          let below = zero.below in
          let there : last_written l (take one.place es) ≡ Some (Int (pos 1)) =
          one-written (last_written l (take one.place es))
          (value-held o (take one.place es) l (Int (pos 1)) b
          (legal-get o es one.place (entry_of t i (act.Read l s) (Value (Int (pos 1)))) h one.below one.is)) in
          let later : last_written l (take (one.place + (zero.place - one.place)) es) ≡ Some (Int (pos 1)) =
          stays l es w one.place (zero.place - one.place) (omega arith) there in
          let still : last_written l (take zero.place es) ≡ Some (Int (pos 1)) =
          subst (λ k. last_written l (take k es) ≡ Some (Int (pos 1))) (omega arith) later in
          let none : or_else (last_written l (take zero.place es)) (Some (Int (pos 0))) ≡ Some (Int (pos 0)) =
          value-held o (take zero.place es) l (Int (pos 0)) b
          (legal-get o es zero.place (entry_of u j (act.Read l r) (Value (Int (pos 0)))) h zero.below zero.is) in
          absurd (not-both (sym (ap (λ c. or_else c (Some (Int (pos 0)))) still) ∙ none))
    ]
  where
    not-both : Some (Int (pos 1)) ≡ Some (Int (pos 0)) → ⊥
    not-both q = cc

-- the four reads stand in a circle
pub readers-agree : ReadersAgree
readers-agree o es l k h bl bk wl wk p q =
    let a = precedes-apart es _ _ p.reads in
    let b = precedes-apart es _ _ q.reads in
    let l_first = zero-first o es l h bl wl p.thread p.earlier q.thread q.later p.strict q.strict_later a.first b.second in
    let k_first = zero-first o es k h bk wk q.thread q.earlier p.thread p.later q.strict p.strict_later b.first a.second in
    let before = a.before in
    let before_too = b.before in
    absurd (omega arith)
