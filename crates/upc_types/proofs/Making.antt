-- What is kept with a struct holds once more are complete.
use Rattle.std.proofs.Common.{◌≡◌, ℕ, zero, suc, ◌<◌, Bool, true, false, not, ◌==◌, ◌&&◌, if◌then◌else◌, List, [], ◌∷◌, ◌++◌, length, map, drop, reverse, get_or, Option, Some, None, refl, sym, ap, ◌∙◌, subst, arith}
use Rattle.std.proofs.lemmas.Bool.{and_parts, not-true}
use Rattle.std.proofs.lemmas.List.{reverse-append, reverse-reverse, length-reverse, length-map, map-append, get_or_at, get_or_append_left}
use Rattle.upc_types.specs.declared.structs.Completed as d
use Rattle.upc_types.specs.layer.Parts.{private_in}
use Rattle.upc_types.specs.declared.layout.Known.{Known}
use Rattle.upc_types.specs.Types.{Member, Completed, members_in}
use Rattle.upc_types.specs.View.{view_completed, view_member}
use Rattle.upc_types.specs.Layout.{known_in, complete_in, layout_in, all_complete, member_layouts, struct_layout, members_hold_private, end_behind}
use Rattle.upc_types.specs.layer.Kept.{is_ordered}
use Rattle.upc_types.specs.code.Starts.{starts_behind}
use Rattle.upc_types.specs.code.Made.{IsMade, AreMade}
use Rattle.upc_types.proofs.Order.{agrees, layouts_same, none_one, struct_is, complete_before, complete_since, all_kept}
use Rattle.upc_types.proofs.Places.{placed}

lifted : (cs older : List Completed) (x : d.Completed) (ms : List Member) → member_layouts (layout_in cs) ms ≡ member_layouts (layout_in older) ms → IsMade older x ms → IsMade cs x ms
lifted cs older x ms e h = record {
  starts = h.starts ∙ ap (starts_behind 0) (sym e);
  end = h.end ∙ ap (end_behind 0) (sym e);
  named = h.named;
}

-- The first of them, and the others.
front : (y : d.Completed) (rs : List d.Completed) → AreMade (y ∷ rs) → IsMade (map view_completed rs) y (map view_member y.members.items)
front y rs m = m zero y (omega arith)

others : (y : d.Completed) (rs : List d.Completed) → AreMade (y ∷ rs) → AreMade rs
others y rs m i x h = m (suc i) x (omega (arith, h))

one_more : (y : d.Completed) (rs : List d.Completed) → IsMade (map view_completed rs) y (map view_member y.members.items) → AreMade rs → (i : ℕ) (x : d.Completed) → i < length (y ∷ rs) →
    IsMade (map view_completed (drop (suc i) (y ∷ rs))) (get_or (y ∷ rs) i x) (map view_member (get_or (y ∷ rs) i x).members.items)
one_more y rs h m zero x l = h
one_more y rs h m (suc i) x l = m i x (omega (arith, l))

-- What is said of one that is found among the older ones.
record IsOlder (rs : List d.Completed) (ms : List Member) (x : d.Completed) (k : Known) : Type 0 where
  made : IsMade (map view_completed rs) (get_or (reverse rs) k.place x) ms
  complete : all_complete (complete_in (map view_completed rs)) ms ≡ true
  below : k.place < length rs

module _ (y : d.Completed) (rs : List d.Completed) (new : known_in (map view_completed rs) y.number ≡ None) where
  same_layouts : (ms : List Member) → all_complete (complete_in (map view_completed rs)) ms ≡ true →
      member_layouts (layout_in (view_completed y ∷ map view_completed rs)) ms ≡ member_layouts (layout_in (map view_completed rs)) ms
  same_layouts ms h = layouts_same [] (view_completed y ∷ map view_completed rs) (map view_completed rs) (agrees [] (view_completed y) (map view_completed rs) new) ms h

  made_one : (b : Bool) (j k : Known) (o : Option Known) (ms : List Member) (x : d.Completed) → j.place ≡ length rs → (if b then Some j else o) ≡ Some k →
      IsMade (map view_completed rs) y (map view_member y.members.items) → all_complete (complete_in (map view_completed rs)) (map view_member y.members.items) ≡ true →
      (o ≡ Some k → IsOlder rs ms x k) →
      IsMade (view_completed y ∷ map view_completed rs) (get_or (reverse (y ∷ rs)) k.place x) (if b then map view_member y.members.items else ms)
  made_one true j k o ms x p h m f g =
      let e : j ≡ k = cc in
      let at : length (reverse rs) ≡ k.place = length-reverse rs ∙ sym p ∙ ap (λ (i : Known). i.place) e in
      let is : get_or (reverse (y ∷ rs)) k.place x ≡ y = ap (λ xs. get_or xs k.place x) (reverse-append (y ∷ []) rs) ∙ get_or_at (reverse rs) y [] x k.place at in
      subst (λ (z : d.Completed). IsMade (view_completed y ∷ map view_completed rs) z (map view_member y.members.items)) (sym is)
      (lifted (view_completed y ∷ map view_completed rs) (map view_completed rs) y (map view_member y.members.items) (same_layouts (map view_member y.members.items) f) m)
  made_one false j k o ms x p h m f g =
      let older = g h in
      let below : k.place < length (reverse rs) = omega (arith, older.below, length-reverse rs) in
      let is : get_or (reverse (y ∷ rs)) k.place x ≡ get_or (reverse rs) k.place x = ap (λ xs. get_or xs k.place x) (reverse-append (y ∷ []) rs) ∙ get_or_append_left (reverse rs) (y ∷ []) x k.place below in
      subst (λ (z : d.Completed). IsMade (view_completed y ∷ map view_completed rs) z ms) (sym is)
      (lifted (view_completed y ∷ map view_completed rs) (map view_completed rs) (get_or (reverse rs) k.place x) ms (same_layouts ms older.complete) older.made)

made_in : (rs : List d.Completed) (n : ℕ) (k : Known) (x : d.Completed) → AreMade rs → is_ordered (map view_completed rs) ≡ true → known_in (map view_completed rs) n ≡ Some k →
    IsMade (map view_completed rs) (get_or (reverse rs) k.place x) (members_in (map view_completed rs) n)
made_in [] n k x m o h = absurd cc
made_in (y ∷ rs) n k x m o h =
    let cs = map view_completed rs in
    let ms = map view_member y.members.items in
    let p = and_parts (not (complete_in cs y.number)) (all_complete (complete_in cs) ms && is_ordered cs) o in
    let q = and_parts (all_complete (complete_in cs) ms) (is_ordered cs) p.1 in
    let new = none_one (known_in cs y.number) (not-true (complete_in cs y.number) p.0) in
    let j : Known = record { place = length cs; layout = struct_layout (member_layouts (layout_in cs) ms); holds_private = members_hold_private (private_in cs) ms } in
    made_one y rs new (y.number == n) j k (known_in cs n) (members_in cs n) x (length-map rs view_completed) h (front y rs m) q.0
    (λ e. record {
      made = made_in rs n k x (others y rs m) q.1 e;
      complete = all_kept (complete_before cs k.place) (complete_in cs) (complete_since cs k.place) (members_in cs n) (struct_is [] cs n k q.1 e).before;
      below = omega (arith, (placed cs n k e).below, length-map rs view_completed);
    })

map-reverse : (xs : List d.Completed) → map view_completed (reverse xs) ≡ reverse (map view_completed xs)
map-reverse [] = refl
map-reverse (x ∷ xs) =
    ap (map view_completed) (reverse-append (x ∷ []) xs) ∙ map-append view_completed (reverse xs) (x ∷ [])
    ∙ ap (λ ys. ys ++ (view_completed x ∷ [])) (map-reverse xs) ∙ sym (reverse-append (view_completed x ∷ []) (map view_completed xs))

-- What is kept with a struct that is complete.
pub made_at : (xs : List d.Completed) (n : ℕ) (k : Known) (x : d.Completed) → AreMade (reverse xs) → is_ordered (reverse (map view_completed xs)) ≡ true →
    known_in (reverse (map view_completed xs)) n ≡ Some k → x ≡ get_or xs k.place x →
    IsMade (reverse (map view_completed xs)) x (members_in (reverse (map view_completed xs)) n)
made_at xs n k x m o h e =
    let r = map-reverse xs in
    let all = made_in (reverse xs) n k x m (subst (λ cs. is_ordered cs ≡ true) (sym r) o) (subst (λ cs. known_in cs n ≡ Some k) (sym r) h) in
    let is : get_or (reverse (reverse xs)) k.place x ≡ x = ap (λ ys. get_or ys k.place x) (reverse-reverse xs) ∙ sym e in
    subst (λ cs. IsMade cs x (members_in cs n)) r
    (subst (λ (z : d.Completed). IsMade (map view_completed (reverse xs)) z (members_in (map view_completed (reverse xs)) n)) is all)

-- One more struct.
pub made_more : (xs : List d.Completed) (y : d.Completed) → AreMade (reverse xs) → IsMade (reverse (map view_completed xs)) y (map view_member y.members.items) →
    AreMade (y ∷ reverse xs)
made_more xs y m h = one_more y (reverse xs) (subst (λ cs. IsMade cs y (map view_member y.members.items)) (sym (map-reverse xs)) h) m
