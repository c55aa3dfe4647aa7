-- Which entries of some write a location, and the last of them.
use Rattle.std.proofs.Common.{◌≡◌, Bool, true, false, cond, List, [], ◌∷◌, ◌++◌, is_some, Option, Some, None, refl, sym}
use Rattle.std.proofs.Common.{ap, ◌∙◌, inl, inr}
use Rattle.std.proofs.lemmas.Bool.{cond-true}
use Rattle.block_layout.specs.declared.place.Loc.{Loc}
use Rattle.upc_values.specs.declared.scalar.Scalar.{Scalar}
use Rattle.upc_values.specs.declared.action.Action.{Action}
use Rattle.upc_values.specs.declared.action.Action.TheVariants as act
use Rattle.upc_values.specs.declared.journal.Entry.{Entry}
use Rattle.upc_values.specs.Lists.{Each, Has}
use Rattle.upc_values.specs.Scalars.{same_loc}
use Rattle.upc_values.specs.Drain.{Commit, entries_in, written, or_else, last_written, pending_value, changed, combined}
use Rattle.upc_values.proofs.Sameness.{same_loc-true, same_loc-itself}
use Rattle.collective_laws_histories.proofs.Lists.{Holds_of}

-- The entry writes the location.
abbrev pub Writes : Loc → Entry → Type 0
Writes l e = is_some (written l e.action) ≡ true

pub entries-append : (xs ys : List Commit) → entries_in (xs ++ ys) ≡ entries_in xs ++ entries_in ys
entries-append [] ys = refl
entries-append (x ∷ xs) ys = ap (λ l. x.entry ∷ l) (entries-append xs ys)

pub some-is : (o : Option Scalar) → is_some o ≡ true → (v : Scalar) × (o ≡ Some v)
some-is (Some v) h = (v, refl)
some-is None h = absurd cc

some-first : (a b : Option Scalar) → is_some a ≡ true → is_some (or_else a b) ≡ true
some-first (Some v) b h = refl
some-first None b h = absurd cc

some-second : (a b : Option Scalar) → is_some b ≡ true → is_some (or_else a b) ≡ true
some-second (Some v) b h = refl
some-second None b h = h

pub none-or : (o : Option Scalar) → or_else o None ≡ o
none-or None = refl
none-or (Some v) = refl

or-assoc : (a b c : Option Scalar) → or_else (or_else a b) c ≡ or_else a (or_else b c)
or-assoc None b c = refl
or-assoc (Some v) b c = refl

pub last-append : (l : Loc) (xs ys : List Entry)
    → last_written l (xs ++ ys) ≡ or_else (last_written l ys) (last_written l xs)
last-append l [] ys = sym (none-or (last_written l ys))
last-append l (x ∷ xs) ys =
    ap (λ o. or_else o (written l x.action)) (last-append l xs ys)
    ∙ or-assoc (last_written l ys) (last_written l xs) (written l x.action)

pub last-none : (l : Loc) (es : List Entry) → Each (λ e. written l e.action ≡ None) es → last_written l es ≡ None
last-none l [] h = refl
last-none l (e ∷ es) h = ap (λ o. or_else o (written l e.action)) (last-none l es h.1) ∙ h.0

pub last-some : (l : Loc) (es : List Entry) → Holds_of (Writes l) es → is_some (last_written l es) ≡ true
last-some l [] h = absurd h
last-some l (e ∷ es) (inl w) = some-second (last_written l es) (written l e.action) w
last-some l (e ∷ es) (inr h) = some-first (last_written l es) (written l e.action) (last-some l es h)

-- The last value that was written is that of an entry.
pub last-from : (l : Loc) (es : List Entry) (v : Scalar) → last_written l es ≡ Some v
    → (e : Entry) × Has es e × (written l e.action ≡ Some v)
last-from l [] v h = absurd cc
last-from l (e ∷ es) v h = by_rest (last_written l es) refl h (last-from l es v)
  where
    by_rest : (o : Option Scalar) → last_written l es ≡ o → or_else o (written l e.action) ≡ Some v
        → (last_written l es ≡ Some v → (x : Entry) × Has es x × (written l x.action ≡ Some v))
        → (x : Entry) × Has (e ∷ es) x × (written l x.action ≡ Some v)
    by_rest (Some u) q r f = let z = f (q ∙ r) in (z.0, inr z.1, z.2)
    by_rest None q r f = (e, inl refl, r)

pub last-any : (l : Loc) (es : List Entry) (v : Scalar) → last_written l es ≡ Some v → Holds_of (Writes l) es
last-any l [] v h = absurd cc
last-any l (e ∷ es) v h = by_rest (last_written l es) refl h (last-any l es v)
  where
    by_rest : (o : Option Scalar) → last_written l es ≡ o → or_else o (written l e.action) ≡ Some v
        → (last_written l es ≡ Some v → Holds_of (Writes l) es) → Holds_of (Writes l) (e ∷ es)
    by_rest (Some u) q r f = inr (f (q ∙ r))
    by_rest None q r f = inl (ap is_some r)

-- ---- what is written where

cond-some : (b : Bool) (v u : Scalar) → cond b (Some v) None ≡ Some u → b ≡ true
cond-some true v u h = refl
cond-some false v u h = absurd cc

cond-same : (b : Bool) (v u : Scalar) → cond b (Some v) None ≡ Some u → v ≡ u
cond-same true v u h = cc
cond-same false v u h = absurd cc

-- An action that writes a location is a write there of the value.
pub written-is : (l : Loc) (a : Action) (v : Scalar) → written l a ≡ Some v → (s : Bool) × (a ≡ act.Write s l v)
written-is l (act.Write s k u) v h =
    let k_is : k ≡ l = same_loc-true k l (cond-some (same_loc k l) u v h) in
    let u_is : u ≡ v = cond-same (same_loc k l) u v h in
    (s, ap (λ z. act.Write s z u) k_is ∙ ap (act.Write s l) u_is)
written-is l a v h = absurd cc

pub written-there : (s : Bool) (l : Loc) (v : Scalar) → written l (act.Write s l v) ≡ Some v
written-there s l v = cond-true (same_loc l l) (Some v) None (same_loc-itself l)

-- Where a write of a location writes another one too, so does another write of the first.
writes-too : (l k : Loc) (a b : Action) (v u : Scalar) → written l a ≡ Some v → is_some (written k a) ≡ true
    → b ≡ act.Write false l u → is_some (written k b) ≡ true
writes-too l k a b v u h w is =
    let one = written-is l a v h in
    let r = some-is (written k a) w in
    let two = written-is k a r.0 r.1 in
    let places : act.Write one.0 l v ≡ act.Write two.0 k r.0 = sym one.1 ∙ two.1 in
    let same : l ≡ k = cc in
    ap (λ z. is_some (written k z)) is ∙ ap (λ z. is_some (written k (act.Write false z u))) same
    ∙ ap is_some (written-there false k u)

-- A write that is combined into the pending one of its location writes for it, and leaves all others.
pub of-changed : (l k : Loc) (e : Entry) (x : Scalar) → e.action ≡ act.Write false l x → (cs : List Commit) (u : Scalar)
    → pending_value l cs ≡ Some u → Holds_of (Writes k) (entries_in cs)
    → Holds_of (Writes k) (entries_in (changed l (combined e) cs))
of-changed l k e x is [] u h m = absurd m
of-changed l k e x is (c ∷ cs) u h m =
    let rest = of-changed l k e x is cs in
    let R : Option Scalar → Type 0 =
    λ o. pending_value l cs ≡ o → or_else o (written l c.entry.action) ≡ Some u
    → Holds_of (Writes k) (entries_in (cond (is_some o) (c ∷ changed l (combined e) cs) (combined e c ∷ cs))) in
    let go : (o : Option Scalar) → R o =
    λ o. elim o as R [
      | Some y ↦ λ q r. elim m [ inl w ↦ inl w | inr n ↦ inr (rest y q n) ]
      | None ↦ λ q r. elim m [ inl w ↦ inl (writes-too l k c.entry.action e.action u x r w is) | inr n ↦ inr n ]
    ] in
    go (pending_value l cs) refl h
