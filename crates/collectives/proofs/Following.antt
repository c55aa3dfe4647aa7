-- What is left of a call after a reply.
use Rattle.std.proofs.Common.{◌≡◌, ◌≢◌, ℕ, ◌+◌, ◌%◌, ◌==◌, ℤ, Bool, true, false, cond, List, [], ◌∷◌, ◌++◌, map, Some, None, inl, inr, refl, sym, ap, ◌∙◌}
use Rattle.std.proofs.Common.{append_assoc, eq-eqb, ◌<◌, ◌≤◌, length, drop}
use Rattle.std.proofs.lemmas.List.{drop_all}
use Rattle.std.specs.Prelude.{slice_index_or}
use Rattle.std.proofs.lemmas.Bool.Decides.{eqb_tells}
use Rattle.block_layout.specs.declared.kind.Kind.{Kind}
use Rattle.block_layout.specs.declared.kind.Shape.{Shape}
use Rattle.upc_values.specs.declared.scalar.Scalar.{Scalar}
use Rattle.upc_values.specs.layer.Parts.{unless_refused}
use Rattle.upc_values.specs.declared.action.Action.{Action}
use Rattle.upc_values.specs.declared.action.Reply.{Reply}
use Rattle.upc_values.specs.declared.action.Reply.TheVariants as reply
use Rattle.upc_values.specs.declared.refused.Refused.{Refused}
use Rattle.upc_values.specs.declared.refused.Refused.TheVariants as refused
use Rattle.upc_values.specs.Expansion.{Expansion, Gives, Fails, Reads, Asks, Loads, Stores, bind, nothing, barrier}
use Rattle.upc_values.specs.Expansion.{refused_by, after_reply, each_in_turn}
use Rattle.upc_values.specs.Expansions as said
use Rattle.upc_values.specs.Expansions.{Part}
use Rattle.collectives.specs.code.Calls.{refusal_in}
use Rattle.collectives.specs.layer.Left.{CopiesLeft, PrefixesLeft, copies_put, prefixes_put}
use Rattle.collectives.specs.layer.Walks.{work_rest}
use Rattle.collectives.specs.layer.Wishes.{IsAsked, RefusesSo, kind_read}
use Rattle.upc_library.specs.layer.Spots.{pointer_of}
use Rattle.collectives.specs.layer.Left.{parts_copied, cell_copied}
use Rattle.collectives.specs.code.Parts.{part_of}
use Rattle.collectives.specs.declared.part.Part as held
use Rattle.collectives.proofs.Members.{drop-at}
use Rattle.collectives.specs.declared.work.Work.{Work}
use Rattle.collectives.specs.declared.work.Work.TheVariants as work

-- ---- one part of a call, and then another

pub bind_assoc : {A B C : Type 0} (e : Expansion A) (f : A → Expansion B) (g : B → Expansion C)
    → bind (bind e f) g ≡ bind e (λ v. bind (f v) g)
bind_assoc (Gives v) f g = refl
bind_assoc (Fails c) f g = refl
bind_assoc (Reads l k after) f g = λ i. Reads l k (λ v. bind_assoc (after v) f g i)
bind_assoc (Asks a after) f g = λ i. Asks a (λ r. bind_assoc (after r) f g i)
bind_assoc (Loads p k after) f g = λ i. Loads p k (λ v. bind_assoc (after v) f g i)
bind_assoc (Stores p k v after) f g = λ i. Stores p k v (bind_assoc after f g i)

pub same_then : {A B : Type 0} (e : Expansion A) (f g : A → Expansion B) → ((v : A) → f v ≡ g v) → bind e f ≡ bind e g
same_then e f g h = ap (bind e) (λ i v. h v i)

-- It has a next step.
abbrev pub IsUnfinished : Expansion (Unit {0}) → Type 0
IsUnfinished (Gives v) = ⊥
IsUnfinished (Fails c) = ⊥
IsUnfinished x = Unit {0}

pub after_bind : (x : Expansion (Unit {0})) (g : Unit {0} → Expansion (Unit {0})) (r : Reply) → IsUnfinished x
    → after_reply (bind x g) r ≡ bind (after_reply x r) g
after_bind (Gives v) g r h = absurd h
after_bind (Fails c) g r h = absurd h
after_bind (Reads l k after) g r h = refl
after_bind (Asks a after) g r h = refl
after_bind (Loads p k after) g r h = refl
after_bind (Stores p k v after) g r h = refl

pub asked_bind : (x : Expansion (Unit {0})) (g : Unit {0} → Expansion (Unit {0})) (a : Action) → IsAsked x a
    → IsAsked (bind x g) a
asked_bind (Gives v) g a h = absurd h
asked_bind (Fails c) g a h = absurd h
asked_bind (Reads l k after) g a h = h
asked_bind (Asks b after) g a h = h
asked_bind (Loads p k after) g a h = absurd h
asked_bind (Stores p k v after) g a h = absurd h

pub kind_bind : (x : Expansion (Unit {0})) (g : Unit {0} → Expansion (Unit {0})) → IsUnfinished x
    → kind_read x ≡ kind_read (bind x g)
kind_bind (Gives v) g h = absurd h
kind_bind (Fails c) g h = absurd h
kind_bind (Reads l k after) g h = refl
kind_bind (Asks a after) g h = refl
kind_bind (Loads p k after) g h = refl
kind_bind (Stores p k v after) g h = refl

-- A refusal of the first part is one of both.
pub refuses_both : (x : Expansion (Unit {0})) (g : Unit {0} → Expansion (Unit {0})) (e : Refused) → RefusesSo e x
    → RefusesSo e (bind x g)
refuses_both x g (refused.Error code) h = ap (λ y. bind y g) h
refuses_both x g refused.Memory h = tt

pub refuses_along : (x y : Expansion (Unit {0})) (e : Refused) → x ≡ y → RefusesSo e x → RefusesSo e y
refuses_along x y (refused.Error code) s h = sym s ∙ h
refuses_along x y refused.Memory s h = tt

-- ---- tests

pub passes : {A : Type 0} (b : Bool) (code : ℕ) (go x : Expansion A) → b ≡ false → x ≡ go → x ≡ cond b (Fails code) go
passes b code go x e h = h ∙ sym (ap (λ z. cond z (Fails code) go) e)

pub refuses : {A : Type 0} (b : Bool) (code : ℕ) (go : Expansion A) → b ≡ true → cond b (Fails code) go ≡ Fails code
refuses b code go e = ap (λ z. cond z (Fails code) go) e

pub passes_over : (b : Bool) (code : ℕ) (go : Expansion (Unit {0})) (e : Refused) → b ≡ false → RefusesSo e go
    → RefusesSo e (cond b (Fails code) go)
passes_over b code go (refused.Error c) h k = ap (λ z. cond z (Fails code) go) h ∙ k
passes_over b code go refused.Memory h k = tt

pub goes_past : (tests : List (Bool × ℕ)) (go : Expansion (Unit {0})) → None ≡ refusal_in tests → go ≡ refused_by tests go
goes_past [] go e = refl
goes_past ((true, c) ∷ xs) go e = absurd (let f : None ≡ Some c = e in cc)
goes_past ((false, c) ∷ xs) go e = goes_past xs go e

pub stops_at : (tests : List (Bool × ℕ)) (go : Expansion (Unit {0})) (code : ℕ) → Some code ≡ refusal_in tests
    → refused_by tests go ≡ Fails code
stops_at [] go code e = absurd (let f : Some code ≡ None = e in cc)
stops_at ((true, c) ∷ xs) go code e =
    let same : c ≡ code = let f : Some code ≡ Some c = e in cc in ap (λ (n : ℕ). let x : Expansion (Unit {0}) = Fails n in x) same
stops_at ((false, c) ∷ xs) go code e = stops_at xs go code e

-- Work of one thread, and work on at least one byte.
pub own_work : (n m : ℕ) (go idle : Expansion (Unit {0})) → n ≡ m → go ≡ cond (n == m) go idle
own_work n m go idle e = ap (λ z. cond z go idle) (sym (eq-eqb n m e))

pub some_work : (n : ℕ) (idle go : Expansion (Unit {0})) → n ≢ 0 → go ≡ cond (n == 0) idle go
some_work n idle go some =
    elim (eqb_tells n 0) [
      | inl y ↦ absurd (some y.1)
      | inr y ↦ ap (λ z. cond z idle go) (sym y.0)
    ]

pub other_work : (n m : ℕ) (go idle : Expansion (Unit {0})) → n ≢ m → idle ≡ cond (n == m) go idle
other_work n m go idle other =
    elim (eqb_tells n m) [
      | inl y ↦ absurd (other y.1)
      | inr y ↦ ap (λ z. cond z go idle) (sym y.0)
    ]

-- ---- work always has a next step

pub unfinished : (threads : ℕ) (shapes : List Shape) (me : ℕ) (w : Work) → IsUnfinished (work_rest threads shapes me w)
unfinished threads shapes me (work.Copies l) = tt
unfinished threads shapes me (work.CellRead l v) = tt
unfinished threads shapes me (work.Numbers l) = tt
unfinished threads shapes me (work.Total l) = tt
unfinished threads shapes me (work.Put loc v) = tt
unfinished threads shapes me (work.Prefixes l) = tt
unfinished threads shapes me (work.ElementRead l b) = tt

-- ---- a permutation

-- One number more has come.
pub number_comes : {X : Type 0} (e : Expansion (List X)) (y : X) (came : List X) (go : List X → Expansion (Unit {0}))
    → bind (bind e (λ ys. Gives (y ∷ ys))) (λ vs. go (came ++ vs)) ≡ bind e (λ vs. go ((came ++ y ∷ []) ++ vs))
number_comes e y came go =
    bind_assoc e (λ ys. Gives (y ∷ ys)) (λ vs. go (came ++ vs))
    ∙ same_then e (λ ys. go (came ++ y ∷ ys)) (λ ys. go ((came ++ y ∷ []) ++ ys))
    (λ ys. ap go (sym (append_assoc came (y ∷ []) ys)))

-- ---- parts

module _ (shapes : List Shape) (n : ℕ) (parts : List held.Part) (i : ℕ) (p : held.Part) (lt : i < length parts)
    (is : p ≡ slice_index_or parts i p) where
  abbrev parts_behind : Expansion (Unit {0})
  parts_behind = parts_copied shapes n (map part_of (drop (i + 1) parts))

  abbrev with_cells : List (ℕ × Kind) → Expansion (Unit {0})
  with_cells cells = bind (each_in_turn (cell_copied (part_of p)) cells) (λ u. parts_behind)

  parts_from : parts_copied shapes n (map part_of (drop i parts)) ≡ with_cells (said.cells 0 shapes 0 n (pointer_of p.into))
  parts_from = ap (λ (ps : List held.Part). parts_copied shapes n (map part_of ps)) (drop-at parts i p lt is)

  -- A part without cells is passed over.
  pub part_over : said.cells 0 shapes 0 n (pointer_of p.into) ≡ []
      → parts_behind ≡ parts_copied shapes n (map part_of (drop i parts))
  part_over e = sym (parts_from ∙ ap with_cells e)

  -- A part is begun at its first cell.
  pub part_begun : (cells : List (ℕ × Kind)) (c : ℕ × Kind) → cells ≡ said.cells 0 shapes 0 n (pointer_of p.into)
      → 0 < length cells → c ≡ slice_index_or cells 0 c
      → with_cells (c ∷ drop 1 cells) ≡ parts_copied shapes n (map part_of (drop i parts))
  part_begun cells c e some first = ap with_cells (sym (drop-at cells 0 c some first) ∙ e) ∙ sym parts_from

module _ (shapes : List Shape) (n : ℕ) (x : Part) (cells : List (ℕ × Kind)) (xs : List Part) where
  abbrev pub cells_left : List (ℕ × Kind) → Expansion (Unit {0})
  cells_left cs = bind (each_in_turn (cell_copied x) cs) (λ u. parts_copied shapes n xs)

  -- The next cell of a part.
  pub cell_next : (i : ℕ) (c : ℕ × Kind) → i < length cells → c ≡ slice_index_or cells i c
      → cells_left (c ∷ drop (i + 1) cells) ≡ cells_left (drop i cells)
  cell_next i c lt is = ap cells_left (sym (drop-at cells i c lt is))

  -- The part has no more.
  pub cells_end : (i : ℕ) → length cells ≤ i → parts_copied shapes n xs ≡ cells_left (drop i cells)
  cells_end i le = ap cells_left (sym (drop_all i cells le))

-- ---- replies to writes

-- A cell is written, and what is left is that.
pub cell_put : (shapes : List Shape) (l : CopiesLeft) (v : Scalar) (r : Reply) (x : Expansion (Unit {0}))
    → unless_refused r ≡ nothing → x ≡ cells_left shapes l.bytes l.part l.cells l.parts l.cells
    → x ≡ after_reply (copies_put shapes l v) r
cell_put shapes l v r x h e =
    e ∙ ap (λ (y : Expansion (Unit {0})). bind (bind y (λ u. each_in_turn (cell_copied l.part) l.cells))
    (λ u. parts_copied shapes l.bytes l.parts)) (sym h)

pub cell_refused : (shapes : List Shape) (l : CopiesLeft) (v : Scalar) (r : Reply) (e : Refused)
    → RefusesSo e (unless_refused r) → RefusesSo e (after_reply (copies_put shapes l v) r)
cell_refused shapes l v r e h =
    refuses_both (bind (unless_refused r) (λ u. each_in_turn (cell_copied l.part) l.cells))
    (λ u. parts_copied shapes l.bytes l.parts) e
    (refuses_both (unless_refused r) (λ u. each_in_turn (cell_copied l.part) l.cells) e h)

-- An element of a prefix reduction is written, and what is left is that.
pub element_put : (l : PrefixesLeft) (b : ℤ) (r : Reply) (x : Expansion (Unit {0})) → unless_refused r ≡ nothing
    → x ≡ said.totals 0 [] 0 l.op l.kind b l.parts → x ≡ after_reply (prefixes_put l b) r
element_put l b r x h e =
    e ∙ ap (λ (y : Expansion (Unit {0})). bind y (λ u. said.totals 0 [] 0 l.op l.kind b l.parts)) (sym h)

-- What follows a step that is done.
pub goes_on : (r : Reply) (x : Expansion (Unit {0})) → unless_refused r ≡ nothing → x ≡ bind (unless_refused r) (λ u. x)
goes_on r x h = ap (λ (y : Expansion (Unit {0})). bind y (λ u. x)) (sym h)

-- A step whose reply is all that is left.
pub reply_alone : (r : Reply) → bind (unless_refused r) (λ u. nothing) ≡ unless_refused r
reply_alone reply.Done = refl
reply_alone (reply.Value v) = refl
reply_alone (reply.Flag b) = refl
reply_alone (reply.Refused c) = refl

-- The entry of a call, without a barrier and with one.
pub at_once : (bits n : ℕ) (go : Expansion (Unit {0})) → bits % 8 ≡ 1 → bits ≡ n
    → go ≡ bind (cond (n % 8 == 1) nothing barrier) (λ v. go)
at_once bits n go e same =
    ap (λ (y : Expansion (Unit {0})). bind y (λ v. go)) (own_work (bits % 8) 1 nothing barrier e)
    ∙ ap (λ (m : ℕ). bind (cond (m % 8 == 1) nothing barrier) (λ v. go)) same

pub by_barrier : (bits n : ℕ) (go : Expansion (Unit {0})) → bits % 8 ≢ 1 → bits ≡ n
    → bind barrier (λ v. go) ≡ bind (cond (n % 8 == 1) nothing barrier) (λ v. go)
by_barrier bits n go e same =
    ap (λ (y : Expansion (Unit {0})). bind y (λ v. go)) (other_work (bits % 8) 1 nothing barrier e)
    ∙ ap (λ (m : ℕ). bind (cond (m % 8 == 1) nothing barrier) (λ v. go)) same
