-- Structs by number and in the order of their completion.
use Rattle.std.proofs.Common.{◌≡◌, ℕ, ◌<◌, Bool, true, false, ◌==◌, if◌then◌else◌, List, [], ◌∷◌, length, reverse, get_or, set, Option, Some, None, refl, sym, ap, ◌∙◌, subst, arith, nat_le, ◌≢◌}
use Rattle.std.proofs.lemmas.Bool.{eqb-true, eqb-false}
use Rattle.std.proofs.lemmas.List.{reverse-append, length-reverse, get_or_at, get_or_append_left, get_or-set_same, get_or-set_other}
use Rattle.upc_types.specs.declared.layout.Known.{Known}
use Rattle.upc_types.specs.layer.Parts.{private_in}
use Rattle.upc_types.specs.declared.layout.Layout.{Layout}
use Rattle.upc_types.specs.Types.{Completed, Member, members_in}
use Rattle.upc_types.specs.Layout.{known_in, members_hold_private, complete_in, layout_in, all_complete, member_layouts, struct_layout, members_within, most_bytes}
use Rattle.upc_types.specs.layer.Kept.{IsFine, IsKept}
use Rattle.upc_types.proofs.Members.{some_is}
use Rattle.std.specs.Option.{ForSome}

-- The entry of a struct in the order of completion.
pub record IsPlaced (cs : List Completed) (ms : List Member) (k : Known) : Type 0 where
  pub below : k.place < length cs
  pub members : (d : Completed) → ms ≡ (get_or (reverse cs) k.place d).members

placed_one : (c : Completed) (older : List Completed) (b : Bool) (l : Layout) (p : Bool) (o : Option Known) (ms : List Member) (k : Known) →
    (if b then Some record { place = length older; layout = l; holds_private = p } else o) ≡ Some k → ((j : Known) → o ≡ Some j → IsPlaced older ms j) →
    IsPlaced (c ∷ older) (if b then c.members else ms) k
placed_one c older true l p o ms k h f =
    let j : record { place = length older; layout = l; holds_private = p } ≡ k = cc in
    let e : length older ≡ k.place = ap (λ (x : Known). x.place) j in
    record {
      below = omega arith;
      members = λ d. ap (λ (y : Completed). y.members) (sym (ap (λ xs. get_or xs k.place d) (reverse-append (c ∷ []) older) ∙ get_or_at (reverse older) c [] d k.place (length-reverse older ∙ e)));
    }
placed_one c older false l p o ms k h f =
    let g = f k h in
    record {
      below = omega (arith, g.below);
      members = λ d. g.members d ∙ ap (λ (y : Completed). y.members)
          (sym (ap (λ xs. get_or xs k.place d) (reverse-append (c ∷ []) older) ∙ get_or_append_left (reverse older) (c ∷ []) d k.place (omega (arith, g.below, length-reverse older))));
    }

pub placed : (cs : List Completed) (number : ℕ) (k : Known) → known_in cs number ≡ Some k → IsPlaced cs (members_in cs number) k
placed [] number k h = absurd cc
placed (c ∷ older) number k h = placed_one c older (c.number == number) _ _ (known_in older number) (members_in older number) k h (λ j g. placed older number j g)

absent_one : (b : Bool) (k : Known) (o : Option Known) (ms ns : List Member) → ◌≡◌ {A = Option Known} (if b then Some k else o) None → (o ≡ None → ms ≡ []) → (if b then ns else ms) ≡ []
absent_one true k o ms ns h f = absurd cc
absent_one false k o ms ns h f = f h

-- An incomplete struct has no members.
pub absent : (cs : List Completed) (number : ℕ) → known_in cs number ≡ None → members_in cs number ≡ []
absent [] number h = refl
absent (c ∷ older) number h = absent_one (c.number == number) _ (known_in older number) (members_in older number) c.members h (absent older number)

each_one : (b : Bool) (number n : ℕ) (known : List (Option Known)) (k : Known) (o : Option Known) → (number == n) ≡ b → number < length known → get_or known n None ≡ o →
    get_or (set known number (Some k)) n None ≡ (if b then Some k else o)
each_one true number n known k o e h f = let q : number ≡ n = eqb-true number n e in subst (λ m. get_or (set known number (Some k)) m None ≡ Some k) q (get_or-set_same known number (Some k) None h)
each_one false number n known k o e h f = let q : n ≢ number = λ z. eqb-false number n e (sym z) in get_or-set_other known number n (Some k) None q ∙ f

fine_one : (b : Bool) (k : Known) (o : Option Known) → IsFine k.layout → ForSome o (λ j. IsFine j.layout) → ForSome (if b then Some k else o) (λ j. IsFine j.layout)
fine_one true k o h f = λ j e. let q : k ≡ j = cc in subst (λ (i : Known). IsFine i.layout) q h
fine_one false k o h f = f

-- What is kept once one more struct is complete.
pub kept_more : (cs : List Completed) (known : List (Option Known)) (number : ℕ) (ms : List Member) (l : Layout) (p : Bool) → IsKept cs known → number < length known →
    known_in cs number ≡ None → members_within cs ms ≡ Some l → IsFine l → p ≡ members_hold_private (private_in cs) ms →
    IsKept (record { number = number; members = ms } ∷ cs) (set known number (Some record { place = length cs; layout = l; holds_private = p }))
kept_more cs known number ms l p kept h a m f q =
    let s = some_is (all_complete (complete_in cs) ms) (nat_le (struct_layout (member_layouts (layout_in cs) ms)).size most_bytes) (struct_layout (member_layouts (layout_in cs) ms)) l m in
    let k : Known = record { place = length cs; layout = l; holds_private = p } in
    let j : Known = record { place = length cs; layout = struct_layout (member_layouts (layout_in cs) ms); holds_private = members_hold_private (private_in cs) ms } in
    let e : j ≡ k = rw (s.1, q) refl in
    record {
      each = λ n. each_one (number == n) number n known k (known_in cs n) refl h (kept.each n) ∙ ap (λ (x : Known). if number == n then Some x else known_in cs n) (sym e);
      fine = λ n. subst (λ (x : Known). ForSome (if number == n then Some x else known_in cs n) (λ (i : Known). IsFine i.layout)) (sym e) (fine_one (number == n) k (known_in cs n) f (kept.fine n));
      ordered = rw (a, s.0) kept.ordered;
    }

-- What is kept of the structs says nothing of room for more.
pub kept_room : (cs : List Completed) (known more : List (Option Known)) → IsKept cs known → ((n : ℕ) → get_or more n None ≡ get_or known n None) → IsKept cs more
kept_room cs known more kept h = record { each = λ n. h n ∙ kept.each n; fine = kept.fine; ordered = kept.ordered }
