-- The shared and the private objects among others, one by one.
use Rattle.std.proofs.Common.{◌≡◌, ℕ, ◌+◌, ◌<◌, ◌≤◌, Bool, true, false, if◌then◌else◌, List, [], ◌∷◌, length, map}
use Rattle.std.proofs.Common.{drop, get_or, refl, sym, ap, ◌∙◌, subst}
use Rattle.std.proofs.lemmas.List.{drop_all}
use Rattle.upc_values.specs.Lists.{Each}
use Rattle.upc_types.specs.declared.ctype.CType as c
use Rattle.upc_types.specs.Types.{CType, Structs}
use Rattle.upc_types.specs.View.{view}
use Rattle.upc_types.specs.Layout.{is_complete, size, most_bytes}
use Rattle.upc_types.proofs.Members.{next}
use Rattle.typed_tree.specs.declared.tree.Object.{Object}
use Rattle.typed_tree.specs.layer.Parts.{is_private}
use Rattle.typed_tree.specs.Objects.{is_shared}
use Rattle.typed_tree.specs.Tree.{DeclaredObject}
use Rattle.typed_tree.specs.Objects.{shared_in, private_in, type_of}
use Rattle.typing_rules.specs.Rules.{has_size}
use Rattle.typed_tree.specs.ViewStatements.{view_object}
use Rattle.typed_tree.specs.Targets.{with_targets}
use Rattle.typed_tree_opening.proofs.Pointed.{with_append}
use Rattle.typed_tree_opening.proofs.Shapes.{layout_is}

kept : (b : Bool) (x : DeclaredObject) (xs : List DeclaredObject) → b ≡ true → (if b then x ∷ xs else xs) ≡ x ∷ xs
kept true x xs e = refl
kept false x xs e = absurd cc

left : (b : Bool) (x : DeclaredObject) (xs : List DeclaredObject) → b ≡ false → (if b then x ∷ xs else xs) ≡ xs
left true x xs e = absurd cc
left false x xs e = refl

-- The rest, from an object that is chosen on, and from one that is not.
pub shared_next : (xs : List Object) (i : ℕ) (x : Object) → i < length xs → x ≡ get_or xs i x → is_shared x.home
    ≡ true →
    shared_in (map view_object (drop i xs)) ≡ view_object x ∷ shared_in (map view_object (drop (i + 1) xs))
shared_next xs i x h e s =
    ap shared_in (next view_object xs i x h e)
    ∙ kept (is_shared x.home) (view_object x) (shared_in (map view_object (drop (i + 1) xs))) s

pub shared_skip : (xs : List Object) (i : ℕ) (x : Object) → i < length xs → x ≡ get_or xs i x → is_shared x.home
    ≡ false →
    shared_in (map view_object (drop i xs)) ≡ shared_in (map view_object (drop (i + 1) xs))
shared_skip xs i x h e s =
    ap shared_in (next view_object xs i x h e)
    ∙ left (is_shared x.home) (view_object x) (shared_in (map view_object (drop (i + 1) xs))) s

pub private_next : (xs : List Object) (i : ℕ) (x : Object) → i < length xs → x ≡ get_or xs i x →
    is_private x.home ≡ true →
    private_in (map view_object (drop i xs)) ≡ view_object x ∷ private_in (map view_object (drop (i + 1) xs))
private_next xs i x h e s =
    ap private_in (next view_object xs i x h e)
    ∙ kept (is_private x.home) (view_object x) (private_in (map view_object (drop (i + 1) xs))) s

pub private_skip : (xs : List Object) (i : ℕ) (x : Object) → i < length xs → x ≡ get_or xs i x →
    is_private x.home ≡ false →
    private_in (map view_object (drop i xs)) ≡ private_in (map view_object (drop (i + 1) xs))
private_skip xs i x h e s =
    ap private_in (next view_object xs i x h e)
    ∙ left (is_private x.home) (view_object x) (private_in (map view_object (drop (i + 1) xs))) s

-- After the last there are none.
pub shared_end : (xs : List Object) (i : ℕ) → length xs ≤ i → shared_in (map view_object (drop i xs)) ≡ []
shared_end xs i h = ap (λ ys. shared_in (map view_object ys)) (drop_all i xs h)

pub private_end : (xs : List Object) (i : ℕ) → length xs ≤ i → private_in (map view_object (drop i xs)) ≡ []
private_end xs i h = ap (λ ys. private_in (map view_object ys)) (drop_all i xs h)

-- ---- layouts

each_next : {X Y : Type 0} (P : Y → Type 0) (f : X → Y) (xs : List X) (i : ℕ) (x : X) → i < length xs → x
    ≡ get_or xs i x → Each P (map f (drop i xs)) → Each P (f x ∷ map f (drop (i + 1) xs))
each_next P f xs i x h e l = subst (Each P) (next f xs i x h e) l

-- The layout of an object, and those of the ones after it.
pub object_here : (structs : Structs) (xs : List Object) (i : ℕ) (x : Object) → i < length xs → x ≡ get_or xs i x →
    Each (λ y. has_size structs y.ctype ≡ true) (map view_object (drop i xs)) → has_size structs (view x.ctype) ≡ true
object_here structs xs i x h e l =
    (each_next (λ (y : DeclaredObject). has_size structs y.ctype ≡ true) view_object xs i x h e l).0

pub object_rest : (structs : Structs) (xs : List Object) (i : ℕ) (x : Object) → i < length xs → x ≡ get_or xs i x →
    Each (λ y. has_size structs y.ctype ≡ true) (map view_object (drop i xs)) →
    Each (λ y. has_size structs y.ctype ≡ true) (map view_object (drop (i + 1) xs))
object_rest structs xs i x h e l =
    (each_next (λ (y : DeclaredObject). has_size structs y.ctype ≡ true) view_object xs i x h e l).1

pub type_here : (structs : Structs) (xs : List c.CType) (i : ℕ) (x : c.CType) → i < length xs → x ≡ get_or xs i x →
    Each (λ t. has_size structs t ≡ true) (map view (drop i xs)) → has_size structs (view x) ≡ true
type_here structs xs i x h e l = (each_next (λ (t : CType). has_size structs t ≡ true) view xs i x h e l).0

pub type_rest : (structs : Structs) (xs : List c.CType) (i : ℕ) (x : c.CType) → i < length xs → x ≡ get_or xs i x →
    Each (λ t. has_size structs t ≡ true) (map view (drop i xs)) →
    Each (λ t. has_size structs t ≡ true) (map view (drop (i + 1) xs))
type_rest structs xs i x h e l = (each_next (λ (t : CType). has_size structs t ≡ true) view xs i x h e l).1

-- A type with a layout is complete, and an object of it is not too large.
pub layout_complete : (structs : Structs) (t : CType) → has_size structs t ≡ true → is_complete structs t ≡ true
layout_complete structs t h = (layout_is structs t h).complete

pub layout_few : (structs : Structs) (t : CType) → has_size structs t ≡ true → size structs t ≤ most_bytes
layout_few structs t h = (layout_is structs t h).few

-- ---- structs whose targets get numbers

-- One more object, and one more type.
pub note_object : (s n : Structs) (xs : List Object) (i : ℕ) (x : Object) → i < length xs → x ≡ get_or xs i x →
    n ≡ with_targets s (view x.ctype ∷ []) →
    with_targets n (map type_of (map view_object (drop (i + 1) xs)))
    ≡ with_targets s (map type_of (map view_object (drop i xs)))
note_object s n xs i x h e k =
    let rest = map type_of (map view_object (drop (i + 1) xs)) in
    ap (λ (z : Structs). with_targets z rest) k ∙ with_append s (view x.ctype ∷ []) rest
    ∙ sym (ap (λ ys. with_targets s (map type_of ys)) (next view_object xs i x h e))

pub note_type : (s n : Structs) (xs : List c.CType) (i : ℕ) (x : c.CType) → i < length xs → x ≡ get_or xs i x →
    n ≡ with_targets s (view x ∷ []) →
    with_targets n (map view (drop (i + 1) xs)) ≡ with_targets s (map view (drop i xs))
note_type s n xs i x h e k =
    let rest = map view (drop (i + 1) xs) in
    ap (λ (z : Structs). with_targets z rest) k ∙ with_append s (view x ∷ []) rest
    ∙ sym (ap (with_targets s) (next view xs i x h e))

-- The layouts stay.
pub objects_kept : (s n : Structs) (ts : List CType) (ys : List DeclaredObject) → n ≡ with_targets s ts →
    Each (λ y. has_size s y.ctype ≡ true) ys → Each (λ y. has_size n y.ctype ≡ true) ys
objects_kept s n ts ys e h =
    subst (λ (z : Structs). Each (λ (y : DeclaredObject). has_size z y.ctype ≡ true) ys) (sym e) h

pub types_kept : (s n : Structs) (ts us : List CType) → n ≡ with_targets s ts →
    Each (λ t. has_size s t ≡ true) us → Each (λ t. has_size n t ≡ true) us
types_kept s n ts us e h = subst (λ (z : Structs). Each (λ (t : CType). has_size z t ≡ true) us) (sym e) h

-- ---- what walks over objects and types cite

pub ruleset shared_walk = (shared_next, shared_skip, shared_end)

pub ruleset private_walk = (private_next, private_skip, private_end)

pub ruleset object_layouts = (object_here, object_rest)

pub ruleset type_layouts = (type_here, type_rest)

pub ruleset sizes = (layout_complete, layout_few)

pub ruleset shared_objects = (shared_walk, object_layouts, sizes)

pub ruleset private_objects = (private_walk, object_layouts, sizes)
