-- The objects of an accepted source have layouts, and fit into their rooms.
use Rattle.std.proofs.Common.{◌≡◌, ℕ, ◌-◌, ◌≤◌, nat_le, Bool, true, false, ◌&&◌, is_some, if◌then◌else◌, List, [], ◌∷◌, filter, Option, Some, None, refl, sym, ap, ◌∙◌, arith}
use Rattle.std.specs.List.{sum_by}
use Rattle.std.proofs.lemmas.Bool.{leb-true}
use Rattle.std.proofs.lemmas.List.Sums.{sum_by-cons}
use Rattle.upc_text.specs.declared.place.Place.{Place}
use Rattle.upc_values.specs.Lists.{Each}
use Rattle.upc_types.specs.declared.layout.Layout.{Layout}
use Rattle.upc_types.specs.Types.{Structs, base_of}
use Rattle.upc_types.specs.Layout.{base_within, base_layout, base_complete, complete_in, layout_in, most_bytes, size}
use Rattle.typing_rules.specs.declared.setting.Home.{Home}
use Rattle.typing_rules.specs.declared.setting.Home.TheVariants.{Private, Shared, Local}
use Rattle.typed_tree.specs.Tree.{DeclaredObject, Function}
use Rattle.typed_tree.specs.Objects.{is_shared}
use Rattle.typed_tree.specs.layer.Parts as parts
use Rattle.typing_rules.specs.Rules.{has_size}
use Rattle.typed_tree.specs.Objects as o
use Rattle.typed_tree.specs.Objects.{bytes_in, private_in, shared_in}
use Rattle.upc_tree.specs.Unit.{External}
use Rattle.typed_tree.specs.Scopes.{begin}
use Rattle.upc_checker.specs.Units.{setting, walk_unit}
use Rattle.upc_checker.specs.Outcomes.{Accepted, outcome}
use Rattle.typed_tree.specs.Programs.{Checked, checked_of, count_of, without_targets}
use Rattle.upc_checker.specs.code.Accepted.{IsAccepted}
use Rattle.upc_checker.proofs.Causes.{accepted}
use Rattle.upc_checker.proofs.UnitsBring.{unit_counts}
use Rattle.upc_checker.specs.Limits.{left_by, left_behind, is_over, room_in, first_over, is_private, Passed, passed_or, limit_by}

-- ---- a limit that is not passed

pub not_passed : (n : ℕ) (at : Option Place) (later : Option Passed) → passed_or n at later ≡ None → (at ≡ None) × (later ≡ None)
not_passed n None later h = (refl, h)
not_passed n (Some place) later h = absurd cc

no : true ≡ false → ⊥
no h = absurd cc

-- ---- the layout that a type has, and its size

size_by : (b : Bool) (l m : Layout) → (if b then Some m else None) ≡ Some l → m.size ≡ l.size
size_by true l m h = cc
size_by false l m h = absurd cc

module _ (σ : Structs) (counts : Home → Bool) where
  abbrev pub Counted : DeclaredObject → Type 0
  Counted x = counts x.home ≡ true → has_size σ x.ctype ≡ true

  abbrev pub bytes : List DeclaredObject → ℕ
  bytes xs = sum_by (λ x. size σ x.ctype) (filter (λ x. counts x.home) xs)

  goes-by : (x : DeclaredObject) (xs : List DeclaredObject) (room left : ℕ) (l : Option Layout) (b : Bool) → base_within σ.completed (base_of x.ctype) ≡ l → counts x.home ≡ b →
      (if b then left_by l room else Some room) ≡ Some left → bytes xs ≤ left → Counted x × (bytes (x ∷ xs) ≤ room)
  goes-by x xs room left l false e c h k =
      let same : room ≡ left = cc in
      (λ t. absurd (no (sym t ∙ c)), rw c (omega (arith, same, k)))
  goes-by x xs room left None true e c h k = absurd cc
  goes-by x xs room left (Some l) true e c h k = fits (nat_le l.size room) refl h
    where
      fits : (b : Bool) → nat_le l.size room ≡ b → (if b then Some (room - l.size) else None) ≡ Some left → Counted x × (bytes (x ∷ xs) ≤ room)
      fits true f g =
          let rest : room - l.size ≡ left = cc in
          let low = leb-true l.size room f in
          let n : size σ x.ctype ≡ l.size = size_by (base_complete (complete_in σ.completed) (base_of x.ctype) && nat_le (base_layout (layout_in σ.completed) (base_of x.ctype)).size most_bytes) l (base_layout (layout_in σ.completed) (base_of x.ctype)) e in
          (λ t. ap is_some e, rw c (omega (arith, rest, low, n, k, sum_by-cons (λ (y : DeclaredObject). size σ y.ctype) x (filter (λ (y : DeclaredObject). counts y.home) xs))))
      fits false f g = absurd cc

  over-by : (x : DeclaredObject) (xs : List DeclaredObject) (room : ℕ) (o : Option ℕ) → left_behind σ counts room x ≡ o →
      (if is_over o then Some x.at else first_over σ counts (room_in o) xs) ≡ None → ((left : ℕ) → first_over σ counts left xs ≡ None → Each Counted xs × (bytes xs ≤ left)) →
      Each Counted (x ∷ xs) × (bytes (x ∷ xs) ≤ room)
  over-by x xs room None e h f = absurd cc
  over-by x xs room (Some left) e h f =
      let g = f left h in
      let p = goes-by x xs room left (base_within σ.completed (base_of x.ctype)) (counts x.home) refl refl e g.1 in
      ((p.0, g.0), p.1)

  -- Where no object is over, those that count have layouts, and no more bytes in all than there is room for.
  pub fit : (room : ℕ) (xs : List DeclaredObject) → first_over σ counts room xs ≡ None → Each Counted xs × (bytes xs ≤ room)
  fit room [] h = (tt, omega arith)
  fit room (x ∷ xs) h = over-by x xs room (left_behind σ counts room x) refl h (λ left g. fit left xs g)

-- ---- an accepted source

each_by : (σ : Structs) (x : DeclaredObject) → (is_private x.home ≡ true → has_size σ x.ctype ≡ true) → (is_shared x.home ≡ true → has_size σ x.ctype ≡ true) → has_size σ x.ctype ≡ true
each_by σ x f g = at_home x.home refl
  where
    at_home : (home : Home) → x.home ≡ home → has_size σ x.ctype ≡ true
    at_home (Private object) e = f (ap is_private e)
    at_home (Shared object) e = g (ap is_shared e)
    at_home (Local object) e = f (ap is_private e)

each : (σ : Structs) (xs : List DeclaredObject) → Each (Counted σ is_private) xs → Each (Counted σ is_shared) xs → Each (λ x. has_size σ x.ctype ≡ true) xs
each σ [] p q = tt
each σ (x ∷ xs) p q = (each_by σ x p.0 q.0, each σ xs p.1 q.1)

fewer_by : (σ : Structs) (x : DeclaredObject) (xs : List DeclaredObject) (home : Home) → x.home ≡ home → bytes_in σ (private_in xs) ≤ bytes σ is_private xs →
    bytes_in σ (private_in (x ∷ xs)) ≤ bytes σ is_private (x ∷ xs)
fewer_by σ x xs (Private object) e less =
    rw e (omega (
      arith,
      less,
      sum_by-cons (λ (y : DeclaredObject). size σ y.ctype) x (filter (λ (y : DeclaredObject). parts.is_private y.home) xs),
      sum_by-cons (λ (y : DeclaredObject). size σ y.ctype) x (filter (λ (y : DeclaredObject). is_private y.home) xs),
    ))
fewer_by σ x xs (Shared object) e less = rw e less
fewer_by σ x xs (Local object) e less =
    rw e (omega (arith, less, sum_by-cons (λ (y : DeclaredObject). size σ y.ctype) x (filter (λ (y : DeclaredObject). is_private y.home) xs)))

-- Objects of the file that have the number of a private one are not shared.
fewer : (σ : Structs) (xs : List DeclaredObject) → bytes_in σ (private_in xs) ≤ bytes σ is_private xs
fewer σ [] = omega arith
fewer σ (x ∷ xs) = fewer_by σ x xs x.home refl (fewer σ xs)

-- Each object of an accepted source has a layout, and it keeps the limits.
pub record HaveRoom (x : Checked) : Type 0 where
  pub layouts : Each (λ y. has_size x.structs y.ctype ≡ true) x.objects
  pub privates : bytes_in x.structs (private_in x.objects) ≤ 1048576
  pub shareds : bytes_in x.structs (shared_in x.objects) ≤ 16777216
  pub count : count_of x ≤ 65535

fits_room : (σ : Structs) (above : Option Place) (objects : List DeclaredObject) → limit_by σ above objects ≡ None →
    Each (λ y. has_size σ y.ctype ≡ true) objects × (bytes_in σ (private_in objects) ≤ 1048576) × (bytes_in σ (shared_in objects) ≤ 16777216) × (above ≡ None)
fits_room σ above objects h =
    let a = not_passed 4 (first_over σ is_private 1048576 objects) _ h in
    let b = not_passed 5 (first_over σ is_shared 16777216 objects) _ a.1 in
    let c = not_passed 7 above None b.1 in
    let p = fit σ is_private 1048576 objects a.0 in
    let q = fit σ is_shared 16777216 objects b.0 in
    let less = fewer σ objects in
    (each σ objects p.0 q.0, omega (arith, less, p.1), q.1, c.0)

pub have_room : (x : Checked) → IsAccepted x → HaveRoom x
have_room x h =
    let t = accepted h.names x.threads h.unit x h.accepted in
    let ξ = setting h.names x.threads h.unit in
    let w = walk_unit ξ h.unit begin in
    let p = fits_room w.state.structs w.state.above w.value.objects t.limits in
    let many = unit_counts ξ h.unit p.3 in
    record {
      layouts = rw (t.structs, t.objects) p.0;
      privates = rw (t.structs, t.objects) p.1;
      shareds = rw (t.structs, t.objects) p.2;
      count = rw (t.structs, t.objects, t.functions) many;
    }

-- Which targets of pointers have numbers changes nothing.
pub parts_same : (threads : ℕ) (σ τ : Structs) (objects : List DeclaredObject) (functions : List Function) → without_targets σ ≡ without_targets τ →
    checked_of threads σ objects functions ≡ checked_of threads τ objects functions
parts_same threads σ τ objects functions h =
    ap (λ (υ : Structs). let x : Checked = record { threads = threads; structs = υ; objects = objects; functions = functions } in x) h

-- A program has the threads that were asked for.
pub same_threads : (names : List (List ℕ)) (threads : ℕ) (unit : List External) (x : Checked) → outcome names threads unit ≡ Accepted x → x.threads ≡ threads
same_threads names threads unit x h = (accepted names threads unit x h).threads
