-- The types of the parameters and objects of functions: each has a layout; and the parts of statements, one by one.
use Rattle.std.proofs.Common.{◌≡◌, ℕ, ◌+◌, ◌<◌, Bool, true, false, if◌then◌else◌, List, [], ◌∷◌, ◌++◌, length, map}
use Rattle.std.proofs.Common.{drop, get_or, refl, sym, ap, ◌∙◌, append_assoc}
use Rattle.std.proofs.lemmas.List.{append-nil, map-append}
use Rattle.std.proofs.lemmas.List.Elements.{filter-append}
use Rattle.upc_types.specs.declared.ctype.CType as r
use Rattle.upc_types.specs.Types.{CType, Structs}
use Rattle.upc_types.specs.View.{view}
use Rattle.upc_types.proofs.Members.{next}
use Rattle.upc_values.proofs.Membership.{left_from, each-append}
use Rattle.typing_rules.specs.Rules.{has_size}
use Rattle.typed_tree.specs.declared.tree.Object as o
use Rattle.typed_tree.specs.layer.Parts.{laid}
use Rattle.typed_tree.specs.declared.tree.Arm as a
use Rattle.typed_tree.specs.declared.tree.Item as m
use Rattle.typed_tree.specs.declared.tree.SwitchItem as w
use Rattle.typed_tree.specs.declared.tree.Function as f
use Rattle.typed_tree.specs.Tree.{DeclaredObject, NoItems, NoSwitchItems, Function}
use Rattle.typed_tree.specs.ViewStatements.{view_object, view_statement, view_statement_kind, view_arms, view_item}
use Rattle.typed_tree.specs.ViewStatements.{view_items, view_switch_item, view_switch_items, view_function}
use Rattle.typed_tree.specs.Objects.{type_of}
use Rattle.typed_tree.specs.LocalObjects.{objects_in, objects_by, arms_objects, items_objects, switch_objects}
use Rattle.typed_tree.specs.LocalObjects.{with_layout, types_in}
use Rattle.typed_tree_opening.specs.code.LaidObjects.{laid_objects}
use Rattle.typed_tree_opening.proofs.Opened.{HaveLayouts}

-- ---- types, one by one

by_size : (b : Bool) (t : CType) (ts : List CType) → (if b then t ∷ [] else []) ++ ts ≡ (if b then t ∷ ts else ts)
by_size true t ts = refl
by_size false t ts = refl

one_more : (s : Structs) (t : CType) (ts : List CType) → laid s t ++ with_layout s ts ≡ with_layout s (t ∷ ts)
one_more s t ts = by_size (has_size s t) t (with_layout s ts)

pub type_step : (s : Structs) (xs : List r.CType) (i : ℕ) (x : r.CType) (new old : List CType) → i < length xs →
    x ≡ get_or xs i x → new ≡ old ++ laid s (view x) →
    new ++ with_layout s (map view (drop (i + 1) xs)) ≡ old ++ with_layout s (map view (drop i xs))
type_step s xs i x new old l e h =
    let more = map view (drop (i + 1) xs) in
    ap (λ ts. ts ++ with_layout s more) h
    ∙ append_assoc old (laid s (view x)) (with_layout s more)
    ∙ ap (λ ts. old ++ ts) (one_more s (view x) more ∙ sym (ap (with_layout s) (next view xs i x l e)))

pub object_step : (s : Structs) (xs : List o.Object) (i : ℕ) (x : o.Object) (new old : List CType) → i < length xs →
    x ≡ get_or xs i x → new ≡ old ++ laid s (view x.ctype) →
    new ++ laid_objects s (map view_object (drop (i + 1) xs)) ≡ old ++ laid_objects s (map view_object (drop i xs))
object_step s xs i x new old l e h =
    let more = map view_object (drop (i + 1) xs) in
    ap (λ ts. ts ++ laid_objects s more) h
    ∙ append_assoc old (laid s (view x.ctype)) (laid_objects s more)
    ∙ ap (λ ts. old ++ ts)
    (one_more s (view x.ctype) (map type_of more) ∙ sym (ap (laid_objects s) (next view_object xs i x l e)))

-- ---- objects of statements

pub laid_append : (s : Structs) (xs ys : List DeclaredObject) → laid_objects s (xs ++ ys)
    ≡ laid_objects s xs ++ laid_objects s ys
laid_append s xs ys =
    ap (with_layout s) (map-append type_of xs ys) ∙ filter-append (λ t. has_size s t) (map type_of xs) (map type_of ys)

module _ (s : Structs) {X : Type 0} (g : List X → List DeclaredObject) (one : X → List DeclaredObject)
    (more_is : (x : X) (xs : List X) → g (x ∷ xs) ≡ one x ++ g xs) where
  pub part_step : (xs : List X) (i : ℕ) (x : X) (new old : List CType) → i < length xs → x ≡ get_or xs i x →
      new ≡ old ++ laid_objects s (one x) →
      new ++ laid_objects s (g (drop (i + 1) xs)) ≡ old ++ laid_objects s (g (drop i xs))
  part_step xs i x new old l e h =
      let rest = g (drop (i + 1) xs) in
      ap (λ ts. ts ++ laid_objects s rest) h
      ∙ append_assoc old (laid_objects s (one x)) (laid_objects s rest)
      ∙ ap (λ ts. old ++ ts) (sym (laid_append s (one x) rest)
      ∙ ap (laid_objects s) (sym (more_is x (drop (i + 1) xs)) ∙ sym (ap g (left_from xs i x l e))))

item_more : (x : m.Item) (xs : List m.Item) → items_objects (view_items (x ∷ xs))
    ≡ items_objects (view_item x NoItems) ++ items_objects (view_items xs)
item_more (m.Declare objects) xs =
    ap (λ ys. ys ++ items_objects (view_items xs)) (sym (append-nil (map view_object objects.items)))
item_more (m.Do' p at kind) xs =
    ap (λ ys. ys ++ items_objects (view_items xs)) (sym (append-nil (objects_by (view_statement_kind kind))))

switch_more : (x : w.SwitchItem) (xs : List w.SwitchItem) → switch_objects (view_switch_items (x ∷ xs))
    ≡ switch_objects (view_switch_item x NoSwitchItems) ++ switch_objects (view_switch_items xs)
switch_more (w.Case v) xs = refl
switch_more w.Default xs = refl
switch_more (w.Do' p at kind) xs =
    ap (λ ys. ys ++ switch_objects (view_switch_items xs)) (sym (append-nil (objects_by (view_statement_kind kind))))

pub arm_step : (s : Structs) (xs : List a.Arm) (i : ℕ) (x : a.Arm) (new old : List CType) → i < length xs →
    x ≡ get_or xs i x → new ≡ old ++ laid_objects s (objects_in (view_statement x.body)) →
    new ++ laid_objects s (arms_objects (view_arms (drop (i + 1) xs)))
    ≡ old ++ laid_objects s (arms_objects (view_arms (drop i xs)))
arm_step s xs i x new old l e h =
    part_step s (λ ys. arms_objects (view_arms ys)) (λ y. objects_in (view_statement y.body))
    (λ y ys. refl) xs i x new old
    l e h

pub item_step : (s : Structs) (xs : List m.Item) (i : ℕ) (x : m.Item) (new old : List CType) → i < length xs →
    x ≡ get_or xs i x → new ≡ old ++ laid_objects s (items_objects (view_item x NoItems)) →
    new ++ laid_objects s (items_objects (view_items (drop (i + 1) xs)))
    ≡ old ++ laid_objects s (items_objects (view_items (drop i xs)))
item_step s xs i x new old l e h =
    part_step s (λ ys. items_objects (view_items ys))
    (λ y. items_objects (view_item y NoItems)) item_more xs i x new old
    l e h

pub switch_step : (s : Structs) (xs : List w.SwitchItem) (i : ℕ) (x : w.SwitchItem) (new old : List CType) →
    i < length xs → x ≡ get_or xs i x → new ≡ old
    ++ laid_objects s (switch_objects (view_switch_item x NoSwitchItems)) →
    new ++ laid_objects s (switch_objects (view_switch_items (drop (i + 1) xs)))
    ≡ old ++ laid_objects s (switch_objects (view_switch_items (drop i xs)))
switch_step s xs i x new old l e h =
    part_step s (λ ys. switch_objects (view_switch_items ys)) (λ y. switch_objects (view_switch_item y NoSwitchItems))
    switch_more xs i x new old l e h

-- ---- functions

pub function_step : (s : Structs) (xs : List f.Function) (i : ℕ) (x : f.Function) (new mid old : List CType) →
    i < length xs → x ≡ get_or xs i x → mid ≡ old ++ with_layout s (map view x.parameters.items) →
    new ≡ mid ++ laid_objects s (objects_in (view_statement x.body.value)) →
    new ++ types_in s (map view_function (drop (i + 1) xs)) ≡ old ++ types_in s (map view_function (drop i xs))
function_step s xs i x new mid old l e h k =
    let own = with_layout s (map view x.parameters.items) in
    let body = laid_objects s (objects_in (view_statement x.body.value)) in
    let more = types_in s (map view_function (drop (i + 1) xs)) in
    ap (λ ts. ts ++ more) (k ∙ ap (λ ts. ts ++ body) h ∙ append_assoc old own body)
    ∙ append_assoc old (own ++ body) more
    ∙ sym (ap (λ gs. old ++ types_in s gs) (next view_function xs i x l e))

-- ---- layouts

kept_laid : (s : Structs) (b : Bool) (t : CType) (ts : List CType) → has_size s t ≡ b → HaveLayouts s ts →
    HaveLayouts s (if b then t ∷ ts else ts)
kept_laid s true t ts e h = (e, h)
kept_laid s false t ts e h = h

layout_laid : (s : Structs) (ts : List CType) → HaveLayouts s (with_layout s ts)
layout_laid s [] = tt
layout_laid s (t ∷ ts) = kept_laid s (has_size s t) t (with_layout s ts) refl (layout_laid s ts)

both : (s : Structs) (xs ys : List CType) → HaveLayouts s xs → HaveLayouts s ys → HaveLayouts s (xs ++ ys)
both s xs ys h k = each-append (λ (t : CType). has_size s t ≡ true) xs ys h k

-- Each of these types has a layout.
pub types_laid : (s : Structs) (gs : List Function) → HaveLayouts s (types_in s gs)
types_laid s [] = tt
types_laid s (g ∷ gs) =
    both s (with_layout s g.parameters ++ laid_objects s (objects_in g.body)) (types_in s gs)
    (both s (with_layout s g.parameters) (laid_objects s (objects_in g.body)) (layout_laid s g.parameters)
    (layout_laid s (map type_of (objects_in g.body)))) (types_laid s gs)
