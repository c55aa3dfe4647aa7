-- What a program begins with is an opening.
use Rattle.std.proofs.Common.{◌≡◌, ℕ, ◌<◌, ◌≤◌, true, false, List, [], ◌∷◌, ◌++◌, length, map, get_or, None, Result}
use Rattle.std.proofs.Common.{Ok, Err, IfOk, refl, arith}
use Rattle.block_layout.specs.declared.kind.Shape.{Shape}
use Rattle.block_layout.specs.Shapes.{IsShape}
use Rattle.upc_values.specs.Lists.{Each}
use Rattle.upc_values.specs.Openings.{IsOpening, IsSharable}
use Rattle.upc_types.specs.declared.ctype.Access.TheVariants.{Unsaid}
use Rattle.upc_types.specs.Types.{CType, Qualified, Void, base_of, Structs}
use Rattle.typing_rules.specs.declared.setting.Home.TheVariants as home
use Rattle.typed_tree.specs.Tree.{DeclaredObject, NoInitial}
use Rattle.typed_tree.specs.layer.Parts.{is_private}
use Rattle.typed_tree.specs.Objects.{is_shared}
use Rattle.typed_tree.specs.Elements.{element_shape, element_shapes}
use Rattle.typing_rules.specs.Rules.{has_size}
use Rattle.typed_tree.specs.Objects.{shared_in, private_in, type_of, bytes_in}
use Rattle.typed_tree.specs.Initials.{shared_from}
use Rattle.typed_tree.specs.Beginnings.{begun, opening_in}
use Rattle.typed_tree.specs.layer.PrivateOpenings.{HavePrivateValues}
use Rattle.typed_tree_opening.proofs.Within.{shapes_of, private_once, private_fit, private_known}
use Rattle.upc_types.specs.Layout.{size}
use Rattle.typed_tree_opening.proofs.Shapes.{layout_is}
use Rattle.typed_tree_opening.proofs.Sound.{AreFine, IsListed, base_some, object_is, element_is, element_sharable}
use Rattle.typed_tree_opening.proofs.Sound.{each_numbered}
use Rattle.typed_tree_opening.proofs.Lying.{each_filter, each_get, listed_at, declared_all, placed_bytes}
use Rattle.typed_tree_opening.proofs.Starts.{setting_of, known_is, shared_once, shared_fit, shared_known}

abbrev pub AreLaid : Structs → List DeclaredObject → Type 0
AreLaid s xs = Each (λ x. has_size s x.ctype ≡ true) xs

abbrev pub HaveLayouts : Structs → List CType → Type 0
HaveLayouts s ts = Each (λ t. has_size s t ≡ true) ts

types_laid : (s : Structs) (xs : List DeclaredObject) (ts : List CType) → AreLaid s xs → HaveLayouts s ts →
    HaveLayouts s (map type_of xs ++ ts)
types_laid s [] ts h k = k
types_laid s (x ∷ xs) ts h k = (h.0, types_laid s xs ts h.1 k)

shapes_are : (P : Shape → Type 0) (s : Structs) (ts : List CType) →
    ((t : CType) → has_size s t ≡ true → P (element_shape s t)) → HaveLayouts s ts → Each P (map (element_shape s) ts)
shapes_are P s [] f h = tt
shapes_are P s (t ∷ ts) f h = (f t h.0, shapes_are P s ts f h.1)

-- An object that stands for none.
abbrev pub no_object : DeclaredObject
no_object = record {
  at = record { line = 0; column = 0 };
  name = [];
  home = home.Private 0;
  ctype = Qualified Void false None Unsaid;
  initial = NoInitial;
}

pub opening_is : (threads : ℕ) (s : Structs) (objects : List DeclaredObject) (allocated : List CType) →
    AreFine s.completed → 0 < threads → threads ≤ 32 →
    AreLaid s objects → HaveLayouts s allocated → bytes_in s (shared_in objects) ≤ 16777216 →
    IsOpening (opening_in threads (begun threads s objects allocated))
opening_is threads s objects allocated fine least most laid types bytes =
    let xs = shared_in objects in
    let ts = map type_of xs ++ allocated in
    let shapes = element_shapes s ts in
    let laid_xs : AreLaid s xs = each_filter (λ (x : DeclaredObject). has_size s x.ctype ≡ true)
    (λ x. is_shared x.home) objects laid in
    let laid_ts : HaveLayouts s ts = types_laid s xs allocated laid_xs types in
    let o = opening_in threads (begun threads s objects allocated) in
    let at : (i : ℕ) → i < length xs → (0 < size s (get_or xs i no_object).ctype)
    × IsListed shapes (element_shape s (get_or xs i no_object).ctype) = λ i h.
    let t = (get_or xs i no_object).ctype in
    let l = layout_is s t (each_get (λ (x : DeclaredObject). has_size s x.ctype ≡ true) xs i no_object h laid_xs) in
    (base_some s.completed fine (base_of t) l.complete, listed_at s xs allocated i no_object h) in
    let privates = length (private_in objects) in
    record {
      least = least;
      most = most;
      shapes =
          each_numbered IsShape [] (map (element_shape s) ts) tt
          (shapes_are IsShape s ts (λ t h. element_is s t fine h) laid_ts);
      sharable =
          each_numbered IsSharable [] (map (element_shape s) ts) tt
          (shapes_are IsSharable s ts (λ t h. element_sharable s t) laid_ts);
      declared = declared_all o s xs allocated fine laid_xs least refl refl;
      bytes = rw (placed_bytes s shapes 1 0 xs) bytes;
      once = shared_once (setting_of threads privates s shapes xs) 1 xs;
      fit =
          shared_fit threads privates s shapes xs
          (shared_from (setting_of threads privates s shapes xs) 1 xs) no_object at;
      known =
          shared_known threads privates s shapes xs
          (shared_from (setting_of threads privates s shapes xs) 1 xs) no_object;
    }

pub if_ok_grow : {T E : Type 0} (P Q : T → Type 0) (r : Result T E) → ((x : T) → P x → Q x) → IfOk r P → IfOk r Q
if_ok_grow P Q (Ok x) f h = f x h
if_ok_grow P Q (Err e) f h = tt

objects_are : (s : Structs) (xs : List DeclaredObject) → AreFine s.completed → AreLaid s xs →
    Each IsShape (shapes_of s xs)
objects_are s [] f h = tt
objects_are s (x ∷ xs) f h = (object_is s x.ctype f h.0, objects_are s xs f h.1)

shapes_length : (s : Structs) (xs : List DeclaredObject) → length xs ≡ length (shapes_of s xs)
shapes_length s [] = refl
shapes_length s (x ∷ xs) = let h = shapes_length s xs in omega (arith, h)

pub private_values_are : (threads : ℕ) (s : Structs) (objects : List DeclaredObject) (allocated : List CType) →
    AreFine s.completed → AreLaid s objects →
    HavePrivateValues threads (begun threads s objects allocated)
private_values_are threads s objects allocated fine laid =
    let xs = shared_in objects in
    let ps = private_in objects in
    let shapes = element_shapes s (map type_of xs ++ allocated) in
    let σ = setting_of threads (length ps) s shapes xs in
    let o = opening_in threads (begun threads s objects allocated) in
    record {
      shapes =
          objects_are s ps fine (each_filter (λ (x : DeclaredObject). has_size s x.ctype ≡ true)
          (λ x. is_private x.home) objects laid);
      once = private_once σ 0 ps;
      fit = private_fit σ ps no_object;
      known =
          private_known σ o (length (shapes_of s ps)) ps no_object (shapes_length s ps)
          (known_is threads (length ps) s shapes xs (shared_from σ 1 xs));
    }
