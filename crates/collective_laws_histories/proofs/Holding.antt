-- What locations hold along a history.
use Rattle.std.proofs.Common.{◌≡◌, ℕ, nat_lt, ◌&&◌, ◌||◌, not, Bool, true, false, cond, List, [], ◌∷◌, ◌++◌, length}
use Rattle.std.proofs.Common.{Option, Some, None, is_some, is_none, refl, sym, ap, ◌∙◌, subst, inl, inr, append_assoc}
use Rattle.std.proofs.Common.{append-nil}
use Rattle.std.specs.Prelude.{unsigned_abs}
use Rattle.std.specs.List.{filter_map, list_any}
use Rattle.std.proofs.lemmas.Bool.{cond-false, false≢true, and_parts, ltb-true}
use Rattle.block_layout.specs.declared.place.Loc.{Loc}
use Rattle.block_layout.specs.declared.place.SharedPtr.{SharedPtr}
use Rattle.block_layout.specs.declared.kind.Kind.{Kind}
use Rattle.block_layout.specs.declared.kind.Shape.{Shape}
use Rattle.block_layout.specs.Places.{in_range}
use Rattle.block_layout.specs.Pieces.{piece_of}
use Rattle.block_layout.specs.Pointers.{location, is_null, same_object}
use Rattle.upc_values.specs.declared.scalar.Scalar.{Scalar}
use Rattle.upc_values.specs.declared.action.Action.{Action}
use Rattle.upc_values.specs.declared.action.Action.TheVariants as act
use Rattle.upc_values.specs.declared.journal.Entry.{Entry}
use Rattle.upc_values.specs.Lists.{Each, Has}
use Rattle.upc_values.specs.Scalars.{same_loc}
use Rattle.upc_values.specs.Shapes.{kind_at, cell_in, fits_cell}
use Rattle.upc_values.specs.Views.{shape_at}
use Rattle.upc_values.specs.Calls.{Call, Copies, Permutes, Reduces, Reduces_prefixes, Other}
use Rattle.upc_values.specs.Expansions.{are_copy_args, are_permute_args, are_reduction_args, is_phase, is_aligned}
use Rattle.upc_values.specs.Drain.{written, or_else, last_written}
use Rattle.upc_values.specs.Openings.{Opening, IsOpening, cell_of, given, blank_in, initial_of}
use Rattle.upc_values.specs.History.{picked_from, picked, asked, meets, leader, led, makes, object_of, objects, held}
use Rattle.upc_values.specs.History.{IsLegalFrom, IsLegal}
use Rattle.upc_values.specs.Formed.{knows, is_known, may_call, IsWellFormed, AreWellFormedFrom, AreWellFormed}
use Rattle.upc_values.proofs.Beginnings.{picked-append, cell-stays}
use Rattle.upc_values.proofs.Replies.{formed-grow}
use Rattle.upc_values.proofs.Sameness.{same_loc-true}
use Rattle.upc_values.proofs.Unmade.{is_maker}
use Rattle.collective_laws_words.specs.layer.Interface.{pointers_of, IsPlaced, PassesTests}
use Rattle.collective_laws_histories.proofs.Numbers.{objects_numbered, object_found}
use Rattle.collective_laws_histories.proofs.Writing.{last-append, last-none, last-from, written-is}

-- ---- fronts of histories

legal-from : (o : Opening) (before xs ys : List Entry) → IsLegalFrom o before (xs ++ ys) → IsLegalFrom o before xs
legal-from o before [] ys h = tt
legal-from o before (e ∷ xs) ys h = (h.0, legal-from o (before ++ e ∷ []) xs ys h.1)

pub legal-front : (o : Opening) (xs ys : List Entry) → IsLegal o (xs ++ ys) → IsLegal o xs
legal-front o xs ys h = legal-from o [] xs ys h

formed-from : (o : Opening) (before xs ys : List Entry) → AreWellFormedFrom o before (xs ++ ys)
    → AreWellFormedFrom o before xs
formed-from o before [] ys h = tt
formed-from o before (e ∷ xs) ys h = (h.0, formed-from o (before ++ e ∷ []) xs ys h.1)

pub formed-front : (o : Opening) (xs ys : List Entry) → AreWellFormed o (xs ++ ys) → AreWellFormed o xs
formed-front o xs ys h = formed-from o [] xs ys h

-- What was well formed is so still after the whole history.
formed-from-has : (o : Opening) (before es : List Entry) (e : Entry) → AreWellFormedFrom o before es → Has es e
    → IsWellFormed o (before ++ es) e.action
formed-from-has o before [] e h m = absurd m
formed-from-has o before (x ∷ es) e h (inl q) =
    subst (λ z. IsWellFormed o (before ++ x ∷ es) z.action) q (formed-grow o before (x ∷ es) x.action h.0)
formed-from-has o before (x ∷ es) e h (inr m) =
    subst (λ z. IsWellFormed o z e.action) (append_assoc before (x ∷ []) es)
    (formed-from-has o (before ++ x ∷ []) es e h.1 m)

pub formed-has : (o : Opening) (es : List Entry) (e : Entry) → AreWellFormed o es → Has es e
    → IsWellFormed o es e.action
formed-has o es e h m = formed-from-has o [] es e h m

-- ---- entries that make nothing

made-none : (a : Action) (b : Bool) → is_maker a ≡ false → makes a (cond b (asked a) Other) ≡ false
made-none (act.Alloc n b h s) c e = cc
made-none (act.Meet c args) b e = cc
made-none a true e = refl
made-none a false e = refl

none-picked : (before es : List Entry) → Each (λ e. is_maker e.action ≡ false) es
    → picked_from (λ b e. makes e.action (led b e)) before es ≡ []
none-picked before [] h = refl
none-picked before (e ∷ es) h =
    cond-false (makes e.action (led before e)) (e ∷ picked_from (λ b x. makes x.action (led b x)) (before ++ e ∷ []) es)
    (picked_from (λ b x. makes x.action (led b x)) (before ++ e ∷ []) es)
    (made-none e.action (is_none (leader (length (meets e.thread before)) before)) h.0)
    ∙ none-picked (before ++ e ∷ []) es h.1

pub objects-same : (o : Opening) (xs ys : List Entry) → Each (λ e. is_maker e.action ≡ false) ys
    → objects o (xs ++ ys) ≡ objects o xs
objects-same o xs ys h =
    let test : List Entry → Entry → Bool = λ b e. makes e.action (led b e) in
    let new : picked test (xs ++ ys) ≡ picked test xs =
    picked-append test [] xs ys ∙ ap (λ z. picked test xs ++ z) (none-picked xs ys h) ∙ append-nil (picked test xs) in
    ap (λ z. o.declared ++ filter_map object_of z) new

-- Where nothing is made and nobody writes a location, it holds what it held.
pub held-same : (o : Opening) (xs ys : List Entry) (l : Loc) → Each (λ e. is_maker e.action ≡ false) ys
    → Each (λ e. written l e.action ≡ None) ys → held o (xs ++ ys) l ≡ held o xs l
held-same o xs ys l h w =
    let last : last_written l (xs ++ ys) ≡ last_written l xs =
    last-append l xs ys ∙ ap (λ z. or_else z (last_written l xs)) (last-none l ys w) in
    ap (λ z. or_else z (initial_of o (objects o (xs ++ ys)) l)) last
    ∙ ap (λ z. or_else (last_written l xs) (initial_of o z l)) (objects-same o xs ys h)

-- After a write a location holds the last value written.
pub held-written : (o : Opening) (xs ys : List Entry) (l : Loc) (v : Scalar) → last_written l ys ≡ Some v
    → held o (xs ++ ys) l ≡ Some v
held-written o xs ys l v h =
    ap (λ z. or_else z (initial_of o (objects o (xs ++ ys)) l))
    (last-append l xs ys ∙ ap (λ z. or_else z (last_written l xs)) h)

-- ---- where no cell is

some-cell : (v : Scalar) (k : Option Kind) → fits_cell v k ≡ true → is_some k ≡ true
some-cell v (Some k) h = refl
some-cell v None h = absurd (false≢true h)

-- A location that is written is a cell.
pub written-cell : (o : Opening) (es : List Entry) (e : Entry) (l : Loc) (v : Scalar) → AreWellFormed o es → Has es e
    → written l e.action ≡ Some v → is_some (cell_of o (objects o es) l) ≡ true
written-cell o es e l v f m w =
    let r = written-is l e.action v w in
    let h = subst (IsWellFormed o es) r.1 (formed-has o es e f m) in
    some-cell v (cell_of o (objects o es) l)
    (and_parts (fits_cell v (cell_of o (objects o es) l)) (is_known o es v) h).0

no-cell : (k : Option Kind) → k ≡ None → is_some k ≡ true → ⊥
no-cell None e h = cc
no-cell (Some k) e h = cc

unwritten : (o : Opening) (es : List Entry) (l : Loc) → AreWellFormed o es → cell_of o (objects o es) l ≡ None
    → last_written l es ≡ None
unwritten o es l f n = by_value (last_written l es) refl
  where
    by_value : (v : Option Scalar) → last_written l es ≡ v → v ≡ None
    by_value None q = refl
    by_value (Some v) q =
        let r = last-from l es v q in
        absurd (no-cell (cell_of o (objects o es) l) n (written-cell o es r.0 l v f r.1 r.2))

given-fits : (o : Opening) (xs : List (Loc × Scalar)) (l : Loc) (v : Scalar)
    → Each (λ x. fits_cell x.1 (cell_of o o.declared x.0) ≡ true) xs → given l xs ≡ Some v
    → fits_cell v (cell_of o o.declared l) ≡ true
given-fits o [] l v h e = absurd cc
given-fits o (x ∷ xs) l v h e = by_test (same_loc x.0 l) refl e (given-fits o xs l v h.1)
  where
    by_test : (b : Bool) → same_loc x.0 l ≡ b → cond b (Some x.1) (given l xs) ≡ Some v
        → (given l xs ≡ Some v → fits_cell v (cell_of o o.declared l) ≡ true)
        → fits_cell v (cell_of o o.declared l) ≡ true
    by_test true q r f =
        let same : x.0 ≡ l = same_loc-true x.0 l q in
        let value : x.1 ≡ v = the_value r in
        subst (λ z. fits_cell z (cell_of o o.declared l) ≡ true) value
        (subst (λ z. fits_cell x.1 (cell_of o o.declared z) ≡ true) same h.0)
      where
        the_value : Some x.1 ≡ Some v → x.1 ≡ v
        the_value z = cc
    by_test false q r f = f r

ungiven : (o : Opening) (es : List Entry) (l : Loc) → IsOpening o → cell_of o (objects o es) l ≡ None
    → given l o.initials ≡ None
ungiven o es l opening n = by_value (given l o.initials) refl
  where
    grown : (k : Option Kind) → cell_of o o.declared l ≡ k → is_some k ≡ true
        → is_some (cell_of o (objects o es) l) ≡ true
    grown None q s = absurd (false≢true s)
    grown (Some k) q s =
        let made = filter_map object_of (picked (λ b e. makes e.action (led b e)) es) in
        ap is_some (cell-stays o o.declared made l k q)

    by_value : (v : Option Scalar) → given l o.initials ≡ v → v ≡ None
    by_value None q = refl
    by_value (Some v) q =
        let f = given-fits o o.initials l v opening.fit q in
        let s = some-cell v (cell_of o o.declared l) f in
        absurd (no-cell (cell_of o (objects o es) l) n (grown (cell_of o o.declared l) refl s))

-- Where no cell is nothing is held.
pub unheld : (o : Opening) (es : List Entry) (l : Loc) → IsOpening o → AreWellFormed o es
    → cell_of o (objects o es) l ≡ None → held o es l ≡ None
unheld o es l opening f n =
    ap (λ z. or_else z (initial_of o (objects o es) l)) (unwritten o es l f n)
    ∙ ap (λ z. or_else z (blank_in (cell_of o (objects o es) l))) (ungiven o es l opening n)
    ∙ ap blank_in n

-- ---- the pointers of a call

-- The pointer is not null, and is one that the history knows.
pub record IsKnown (o : Opening) (es : List Entry) (p : SharedPtr) : Type 0 where
  pub some : is_null p ≡ false
  pub named : knows o es p ≡ true

or-false : (a b : Bool) → (a || b) ≡ false → (a ≡ false) × (b ≡ false)
or-false true b h = absurd (false≢true (sym h))
or-false false b h = (refl, h)

known : (o : Opening) (es : List Entry) (p : SharedPtr) → is_null p ≡ false → knows o es p ≡ true → IsKnown o es p
known o es p s n = record { some = s; named = n }

two-known : (o : Opening) (es : List Entry) (dst src : SharedPtr) (rest : Bool)
    → ((is_null dst || is_null src) || rest) ≡ false → (knows o es dst && knows o es src) ≡ true
    → Each (IsKnown o es) (dst ∷ src ∷ [])
two-known o es dst src rest t m =
    let a = or-false (is_null dst || is_null src) rest t in
    let b = or-false (is_null dst) (is_null src) a.0 in
    let c = and_parts (knows o es dst) (knows o es src) m in
    (known o es dst b.0 c.0, (known o es src b.1 c.1, tt))

three-known : (o : Opening) (es : List Entry) (dst src perm : SharedPtr) (rest : Bool)
    → ((is_null dst || (is_null src || is_null perm)) || rest) ≡ false
    → (knows o es dst && (knows o es src && knows o es perm)) ≡ true
    → Each (IsKnown o es) (dst ∷ src ∷ perm ∷ [])
three-known o es dst src perm rest t m =
    let a = or-false (is_null dst || (is_null src || is_null perm)) rest t in
    let b = or-false (is_null dst) (is_null src || is_null perm) a.0 in
    let d = or-false (is_null src) (is_null perm) b.1 in
    let c = and_parts (knows o es dst) (knows o es src && knows o es perm) m in
    let e = and_parts (knows o es src) (knows o es perm) c.1 in
    (known o es dst b.0 c.0, (known o es src d.0 e.0, (known o es perm d.1 e.1, tt)))

-- The pointers of a call that may be asked for and that passes its tests.
pub all-known : (o : Opening) (es : List Entry) (shapes : List Shape) (me : ℕ) (call : Call)
    → PassesTests o.threads shapes me call → may_call o es call ≡ true → Each (IsKnown o es) (pointers_of call)
all-known o es shapes me (Copies w dst src n f) t m =
    two-known o es dst src (not (are_copy_args w dst src n f) || false) t m
all-known o es shapes me (Permutes dst src perm n f) t m =
    three-known o es dst src perm (not (are_permute_args dst src perm n f) || false) t m
all-known o es shapes me (Reduces dst src op n blk k f) t m =
    two-known o es dst src (not (are_reduction_args src op n blk f) || false) t m
all-known o es shapes me (Reduces_prefixes dst src op n blk k f) t m =
    two-known o es dst src
    (not (are_reduction_args src op n blk f && (is_phase dst blk && is_aligned dst src blk)) || false) t m
all-known o es shapes me call t m = tt

or-parts : (a b : Bool) → a ≡ false → (a || b) ≡ true → b ≡ true
or-parts true b n h = absurd (false≢true (sym n))
or-parts false b n h = h

-- The object of a pointer that is known, and what it says of the pointer.
pub record IsNamed (o : Opening) (es : List Entry) (p : SharedPtr) : Type 0 where
  pub object : list_any (same_object p.object) (objects o es) ≡ true
  pub placed : IsPlaced o.threads p

pub named-parts : (o : Opening) (es : List Entry) (p : SharedPtr) → IsKnown o es p → IsNamed o es p
named-parts o es p k =
    let inside = nat_lt p.thread o.threads && in_range p.offset in
    let named = or-parts (is_null p) (list_any (same_object p.object) (objects o es) && inside) k.some k.named in
    let a = and_parts (list_any (same_object p.object) (objects o es)) inside named in
    let b = and_parts (nat_lt p.thread o.threads) (in_range p.offset) a.1 in
    record { object = a.0; placed = record { thread = ltb-true p.thread o.threads b.0; offset = b.1 } }

cond-same : (b : Bool) (x : Option Kind) → x ≡ None → cond b x None ≡ None
cond-same true x h = h
cond-same false x h = refl

-- Where no cell begins in an object that is known, none is there.
pub no-cell-of : (o : Opening) (es : List Entry) (p q : SharedPtr) → IsOpening o → IsLegal o es → IsNamed o es p
    → q.object ≡ p.object → kind_at (shape_at o.shapes q) (unsigned_abs q.offset) ≡ None
    → cell_of o (objects o es) (location q) ≡ None
no-cell-of o es p q opening legal k same none =
    let there : list_any (same_object q.object) (objects o es) ≡ true =
    subst (λ z. list_any (same_object z) (objects o es) ≡ true) (sym same) k.object in
    let found = object_found 0 (objects o es) q.object (objects_numbered o es opening legal) there in
    ap (λ z. cell_in o.threads o.shapes z (location q)) found
    ∙ cond-same (nat_lt (unsigned_abs q.offset) (piece_of q.object q.thread o.threads))
    (kind_at (shape_at o.shapes q) (unsigned_abs q.offset)) none
