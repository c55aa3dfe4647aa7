-- The targets in a struct, from those in its members.
use Rattle.std.proofs.Common.{◌≡◌, ℕ, ◌+◌, ◌≤◌, Bool, true, false, not, ◌==◌, ◌&&◌, if◌then◌else◌, List, [], ◌∷◌}
use Rattle.std.proofs.Common.{◌++◌, ◌<◌, length, map, drop, get_or, Option, Some, is_some, refl, sym, ap, ◌∙◌, subst}
use Rattle.std.proofs.Common.{append_assoc}
use Rattle.std.proofs.lemmas.Bool.{eqb-true, and_parts, not-true}
use Rattle.upc_types.specs.declared.layout.Known.{Known}
use Rattle.upc_types.specs.Types.{CType, Base, Void, Integer, Struct, Array, Pointer, LockObject, base_of, Member}
use Rattle.upc_types.specs.Types.{Completed, Structs, members_in}
use Rattle.upc_types.specs.Layout.{base_complete, known_in, complete_in, all_complete}
use Rattle.upc_types.specs.Cells.{leaf_base, noted}
use Rattle.std.specs.Option.{ForSome}
use Rattle.upc_types.specs.declared.structs.Member as c
use Rattle.upc_types.specs.View.{view_base, view_member}
use Rattle.upc_types.specs.layer.Kept.{IsFine, is_ordered}
use Rattle.upc_types.proofs.Members.{next}
use Rattle.upc_types.proofs.Steps as steps
use Rattle.upc_types.proofs.Order.{complete_before, complete_since, base_kept, all_kept, leaf_complete}
use Rattle.upc_types.proofs.Ranks.{place_or_none, rank}
use Rattle.typed_tree.specs.Targets.{leaf_targets, struct_targets}
use Rattle.typed_tree.specs.layer.Parts.{members_targets, types_targets, noted_all}
use Rattle.typed_tree.specs.Targets.{with_targets}
use Rattle.upc_types.proofs.Steps.{deeper}

-- The targets of complete types depend on complete structs alone.
leaf_same : (f g : ℕ → List CType) (p : ℕ → Bool) → ((n : ℕ) → p n ≡ true → f n ≡ g n) → (b : Base) →
    base_complete p b ≡ true → leaf_targets f b ≡ leaf_targets g b
leaf_same f g p k Void h = refl
leaf_same f g p k (Integer kind) h = refl
leaf_same f g p k (Struct n) h = k n h
leaf_same f g p k (Array t n) h = refl
leaf_same f g p k (Pointer t) h = refl
leaf_same f g p k LockObject h = refl

members_same : (f g : ℕ → List CType) (p : ℕ → Bool) → ((n : ℕ) → p n ≡ true → f n ≡ g n) → (ms : List Member) →
    all_complete p ms ≡ true → members_targets f ms ≡ members_targets g ms
members_same f g p k [] h = refl
members_same f g p k (m ∷ ms) h =
    let q = and_parts (base_complete p (base_of m.ctype)) (all_complete p ms) h in
    rw (
      leaf_same f g p k (leaf_base (base_of m.ctype))
          (leaf_complete p (base_of m.ctype) q.0),
      members_same f g p k ms q.1,
    ) refl

differ_one : (older : List Completed) (number n : ℕ) (b : Bool) → (number == n) ≡ b → complete_in older number
    ≡ false → complete_in older n ≡ true → b ≡ false
differ_one older number n false e a h = refl
differ_one older number n true e a h =
    let q = subst (λ m. complete_in older m ≡ true) (sym (eqb-true number n e)) h in absurd cc

-- A struct that was complete before has the same targets.
older_same : (c : Completed) (older : List Completed) → complete_in older c.number ≡ false → (n : ℕ) →
    complete_in older n ≡ true → struct_targets (c ∷ older) n ≡ struct_targets older n
older_same c older a n h = rw (differ_one older c.number n (c.number == n) refl a h) refl

if_complete : (b : Bool) (p : ℕ → Bool) (ms ns : List Member) → all_complete p ms ≡ true → all_complete p ns
    ≡ true → all_complete p (if b then ms else ns) ≡ true
if_complete true p ms ns h k = h
if_complete false p ms ns h k = k

some_kept : (b : Bool) (k : Known) (o : Option Known) → is_some o ≡ true → is_some (if b then Some k else o) ≡ true
some_kept true k o h = refl
some_kept false k o h = h

-- The members of each struct are complete.
members_complete : (cs : List Completed) (n : ℕ) → is_ordered cs ≡ true →
    all_complete (complete_in cs) (members_in cs n) ≡ true
members_complete [] n o = refl
members_complete (c ∷ older) n o =
    let p = and_parts (not (complete_in older c.number))
    (all_complete (complete_in older) c.members && is_ordered older) o in
    let q = and_parts (all_complete (complete_in older) c.members) (is_ordered older) p.1 in
    let more = λ (m : ℕ) (h : complete_in older m ≡ true). some_kept (c.number == m) _ (known_in older m) h in
    if_complete (c.number == n) (complete_in (c ∷ older)) c.members (members_in older n)
    (all_kept (complete_in older) (complete_in (c ∷ older)) more c.members q.0)
    (all_kept (complete_in older) (complete_in (c ∷ older)) more (members_in older n) (members_complete older n q.1))

if_members : (b : Bool) (f g : ℕ → List CType) (p : ℕ → Bool) (ms ns : List Member) (ts : List CType) →
    ((n : ℕ) → p n ≡ true → f n ≡ g n) → all_complete p ms ≡ true → all_complete p ns ≡ true →
    ts ≡ members_targets g ns → (if b then members_targets g ms else ts) ≡ members_targets f (if b then ms else ns)
if_members true f g p ms ns ts k h i e = sym (members_same f g p k ms h)
if_members false f g p ms ns ts k h i e = e ∙ sym (members_same f g p k ns i)

-- The targets of a struct are those of its members.
pub struct_is : (cs : List Completed) (n : ℕ) → is_ordered cs ≡ true → struct_targets cs n
    ≡ members_targets (struct_targets cs) (members_in cs n)
struct_is [] n o = refl
struct_is (c ∷ older) n o =
    let p = and_parts (not (complete_in older c.number))
    (all_complete (complete_in older) c.members && is_ordered older) o in
    let q = and_parts (all_complete (complete_in older) c.members) (is_ordered older) p.1 in
    if_members (c.number == n) (struct_targets (c ∷ older)) (struct_targets older) (complete_in older) c.members
    (members_in older n) (struct_targets older n)
    (older_same c older (not-true (complete_in older c.number) p.0)) q.0 (members_complete older n q.1)
    (struct_is older n q.1)

-- What holds before the first member of a struct.
pub record IsBegun (cs : List Completed) (n : ℕ) : Type 0 where
  pub targets : members_targets (struct_targets cs) (members_in cs n) ≡ struct_targets cs n
  pub before : all_complete (complete_before cs (place_or_none (known_in cs n))) (members_in cs n) ≡ true

pub begun : (cs : List Completed) (n : ℕ) → is_ordered cs ≡ true →
    ForSome (known_in cs n) (λ k. IsFine k.layout) → complete_in cs n ≡ true → IsBegun cs n
begun cs n o f h = record {
  targets = sym (struct_is cs n o);
  before = (steps.begun [] cs n o f h).before;
}

-- What holds at a member.
pub record IsAt (cs : List Completed) (place : ℕ) (b : Base) (ms : List Member) : Type 0 where
  pub complete : base_complete (complete_in cs) (leaf_base b) ≡ true
  pub deep : rank cs (leaf_base b) ≤ place
  pub before : all_complete (complete_before cs place) ms ≡ true

at_member : (cs : List Completed) (place : ℕ) (m : Member) (ms : List Member) →
    all_complete (complete_before cs place) (m ∷ ms) ≡ true → IsAt cs place (base_of m.ctype) ms
at_member cs place m ms h =
    let b = base_of m.ctype in
    let p = and_parts (base_complete (complete_before cs place) b) (all_complete (complete_before cs place) ms) h in
    record {
      complete =
          base_kept (complete_before cs place) (complete_in cs) (complete_since cs place) (leaf_base b)
          (leaf_complete (complete_before cs place) b p.0);
      deep = deeper cs place (leaf_base b) (leaf_complete (complete_before cs place) b p.0);
      before = p.1;
    }

pub at_index : (cs : List Completed) (place : ℕ) (xs : List c.Member) (i : ℕ) (x : c.Member) → i < length xs → x
    ≡ get_or xs i x →
    all_complete (complete_before cs place) (map view_member (drop i xs)) ≡ true →
    IsAt cs place (view_base x.ctype.base) (map view_member (drop (i + 1) xs))
at_index cs place xs i x l e h =
    at_member cs place (view_member x) (map view_member (drop (i + 1) xs))
    (subst (λ ms. all_complete (complete_before cs place) ms ≡ true) (next view_member xs i x l e) h)

-- ---- targets of many types

pub noted_append : (targets a b : List CType) → noted_all targets (a ++ b) ≡ noted_all (noted_all targets a) b
noted_append targets [] b = refl
noted_append targets (t ∷ a) b = noted_append (noted targets t) a b

types_append : (cs : List Completed) (a b : List CType) → types_targets cs (a ++ b) ≡ types_targets cs a
    ++ types_targets cs b
types_append cs [] b = refl
types_append cs (t ∷ a) b =
    let x = leaf_targets (struct_targets cs) (leaf_base (base_of t)) in
    ap (λ ys. x ++ ys) (types_append cs a b) ∙ sym (append_assoc x (types_targets cs a) (types_targets cs b))

-- The targets of some types, and then those of others.
pub with_append : (structs : Structs) (a b : List CType) → with_targets (with_targets structs a) b
    ≡ with_targets structs (a ++ b)
with_append structs a b =
    ap (λ ts. let s : Structs = record { declared = structs.declared; completed = structs.completed; targets = ts } in
    s)
    (sym (noted_append structs.targets (types_targets structs.completed a) (types_targets structs.completed b))
    ∙ ap (noted_all structs.targets) (sym (types_append structs.completed a b)))
