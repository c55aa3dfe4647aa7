use Rattle.std.proofs.Common.{◌≡◌, ℕ, ◌<◌, [], ◌∷◌, ◌++◌, List, map, reverse, length, is_some, refl, sym, ap, ◌∙◌, subst, arith}
use Rattle.std.proofs.lemmas.Grind.{common_steps}
use Rattle.std.proofs.lemmas.List.{reverse-append, map-append, length-reverse, length-map}
use Rattle.upc_types.specs.View.{view_completed, view_member}
use Rattle.upc_types.specs.layer.Parts.{private_in}
use Rattle.upc_types.specs.Types.{Member, Completed}
use Rattle.upc_types.specs.Layout.{members_hold_private}
use Rattle.upc_types.specs.code.Made.{IsMade, AreMade}
use Rattle.upc_types.specs.declared.structs.Completed as d
use Rattle.upc_types.proofs.Places.{kept_more, kept_room}
use Rattle.upc_types.proofs.Making.{made_more}
use Rattle.upc_types.proofs.structs.Structs.complete.Goals as goal

-- The structs with one more, the latest first.
with_more : (xs : List d.Completed) (y : d.Completed) (x : Completed) → view_completed y ≡ x →
    reverse (map view_completed (xs ++ (y ∷ []))) ≡ x ∷ reverse (map view_completed xs)
with_more xs y x e =
    ap reverse (map-append view_completed xs (y ∷ [])) ∙ reverse-append (map view_completed xs) (view_completed y ∷ [])
    ∙ ap (λ (z : Completed). z ∷ reverse (map view_completed xs)) e

abbrev a_struct : ℕ → List Member → Completed
a_struct number members = record { number = number; members = members }

view_is : (y : d.Completed) (number : ℕ) (members : List Member) → y.number ≡ number → map view_member y.members.items ≡ members → view_completed y ≡ a_struct number members
view_is y number members n m = ap (λ k. a_struct k (map view_member y.members.items)) n ∙ ap (a_struct number) m

pub made-requires : goal.made-requires
made-requires c = record { fit = ap is_some c.requires.layout }

pub invariant_of-self-2-clause-kept : goal.invariant_of-self-2-clause-kept
invariant_of-self-2-clause-kept c =
    let xs = c.args.self.now.completed.items in
    let cs = reverse (map view_completed xs) in
    let ms = map view_member c.args.members.items in
    let n : c.len-place.result ≡ length cs = grind (arith, common_steps, c.len-place.ensures, length-reverse (map view_completed xs), length-map xs view_completed) in
    let x : Completed = record { number = c.args.number; members = ms } in
    let y = c.in_ok-completed.completed in
    let s : c.push.new.self.items ≡ xs ++ (y ∷ []) = c.in_ok-push.ensures.items ∙ ap (λ zs. zs ++ (y ∷ [])) c.reserve.ensures.items in
    let e : reverse (map view_completed c.push.new.self.items) ≡ x ∷ cs =
    ap (λ ys. reverse (map view_completed ys)) s ∙ with_more xs y x (view_is y c.args.number ms c.in_ok-completed.ensures.number c.in_ok-completed.ensures.members) in
    let k = kept_room cs c.args.self.now.known.items c.make_room.new.list.items c.args.self.now.kept c.make_room.ensures.same in
    let r : c.args.number < length c.make_room.new.list.items = omega (arith, c.in_ok-make_room.ensures.room, c.make_room.new.list.ok) in
    rw (e, n) (kept_more cs c.make_room.new.list.items c.args.number ms c.args.layout c.members_hold_private-holds_private.result k r c.requires.incomplete c.requires.layout c.requires.fine (c.members_hold_private-holds_private.ensures ∙ ap (λ xs. members_hold_private (private_in cs) (map view_member xs)) c.as_slice.ensures.value))

pub invariant_of-self-2-clause-made : goal.invariant_of-self-2-clause-made
invariant_of-self-2-clause-made c =
    let xs = c.args.self.now.completed.items in
    let cs = reverse (map view_completed xs) in
    let y = c.in_ok-completed.completed in
    let s : c.push.new.self.items ≡ xs ++ (y ∷ []) = c.in_ok-push.ensures.items ∙ ap (λ zs. zs ++ (y ∷ [])) c.reserve.ensures.items in
    let e : reverse c.push.new.self.items ≡ y ∷ reverse xs = ap (λ ys. reverse ys) s ∙ reverse-append xs (y ∷ []) in
    let h : IsMade cs y (map view_member y.members.items) = subst (λ (ms : List Member). IsMade cs y ms) (sym c.in_ok-completed.ensures.members) c.in_ok-completed.ensures.made in
    subst AreMade (sym e) (made_more xs y c.args.self.now.made h)

pub returns-clause-ok : goal.returns-clause-ok
returns-clause-ok c =
    let xs = c.args.self.now.completed.items in
    let ms = map view_member c.args.members.items in
    let x : Completed = record { number = c.args.number; members = ms } in
    let y = c.in_ok-completed.completed in
    let s : c.push.new.self.items ≡ xs ++ (y ∷ []) = c.in_ok-push.ensures.items ∙ ap (λ zs. zs ++ (y ∷ [])) c.reserve.ensures.items in
    let e : reverse (map view_completed c.push.new.self.items) ≡ x ∷ reverse (map view_completed xs) =
    ap (λ ys. reverse (map view_completed ys)) s ∙ with_more xs y x (view_is y c.args.number ms c.in_ok-completed.ensures.number c.in_ok-completed.ensures.members) in
    rw e refl

pub invariant_of-self : goal.invariant_of-self
invariant_of-self c =
    let s = c.args.self.now in
    rw c.reserve.ensures.items (record { kept = s.kept; made = s.made; held = s.held })

pub invariant_of-self-in-Break-branch-3 : goal.invariant_of-self-in-Break-branch-3
invariant_of-self-in-Break-branch-3 c =
    let s = c.args.self.now in
    let cs = reverse (map view_completed s.completed.items) in
    rw c.reserve.ensures.items (record {
      kept = kept_room cs s.known.items c.make_room.new.list.items s.kept c.make_room.ensures.same;
      made = s.made;
      held = s.held;
    })
