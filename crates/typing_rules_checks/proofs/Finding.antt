-- Members that are looked for by their names.
use Rattle.std.proofs.Common.{◌≡◌, ℕ, zero, suc, ◌+◌, nat_eq, Bool, true, false, ◌||◌, if◌then◌else◌, List, [], ◌∷◌}
use Rattle.std.proofs.Common.{get_or, Option, Some, None, is_some, refl, ap, ◌∙◌, arith}
use Rattle.std.specs.Cmp.Lexicographic.{pointwise}
use Rattle.upc_types.specs.declared.layout.Known.{Known}
use Rattle.upc_types.specs.Types.{CType, Member, Completed, Structs, members_in}
use Rattle.upc_types.specs.Layout.{known_in, complete_in, member_offset}
use Rattle.upc_types.specs.layer.Named.{one_more, first_named}
use Rattle.upc_types.proofs.Places.{absent}
use Rattle.typing_rules.specs.Attributes.{Found, find_member}
use Rattle.typing_rules.specs.Rules.{has_name}

abbrev pub found_with : ℕ → ℕ → CType → Option Found
found_with index offset ctype = Some record { index = index; offset = offset; ctype = ctype }

-- The i-th of these members of a struct, where the first of them has this index.
abbrev pub found_at : Structs → (number index : ℕ) → List Member → Member → Option ℕ → Option Found
found_at structs number index ms d None = None
found_at structs number index ms d (Some i) =
    found_with (index + i) (member_offset structs number (index + i)) (get_or ms i d).ctype

find_one : (structs : Structs) (number index : ℕ) (m : Member) (ms : List Member) (d : Member) (b : Bool) (o : Option ℕ)
    (r : Option Found) → r ≡ found_at structs number (index + 1) ms d o →
    (if b then found_with index (member_offset structs number index) m.ctype else r)
    ≡ found_at structs number index (m ∷ ms) d (if b then Some zero else one_more o)
find_one structs number index m ms d true o r h =
    let e : index ≡ index + zero = omega arith in
    ap (λ n. found_with n (member_offset structs number n) m.ctype) e
find_one structs number index m ms d false None r h = h
find_one structs number index m ms d false (Some i) r h =
    let e : index + 1 + i ≡ index + suc i = omega arith in
    h ∙ ap (λ n. found_with n (member_offset structs number n) (get_or ms i d).ctype) e

-- The first member of a name, with the bytes before it.
pub find_is : (structs : Structs) (number index : ℕ) (ms : List Member) (d : Member) (name : List ℕ) →
    find_member structs number index ms name ≡ found_at structs number index ms d (first_named ms name)
find_is structs number index [] d name = refl
find_is structs number index (m ∷ ms) d name =
    find_one structs number index m ms d (pointwise nat_eq m.name name) (first_named ms name)
    (find_member structs number (index + 1) ms name) (find_is structs number (index + 1) ms d name)

more_some : (o : Option ℕ) → is_some (one_more o) ≡ is_some o
more_some None = refl
more_some (Some i) = refl

has_one : (b : Bool) (o : Option ℕ) (r : Bool) → is_some o ≡ r → is_some (if b then Some zero else one_more o) ≡ (b || r)
has_one true o r h = refl
has_one false o r h = more_some o ∙ h

-- Whether one has a name.
pub has_is : (ms : List Member) (name : List ℕ) → is_some (first_named ms name) ≡ has_name ms name
has_is [] name = refl
has_is (m ∷ ms) name = has_one (pointwise nat_eq m.name name) (first_named ms name) (has_name ms name) (has_is ms name)

none_named : (ms : List Member) (name : List ℕ) (i : ℕ) → ms ≡ [] → first_named ms name ≡ Some i → ⊥
none_named [] name i e h = absurd cc
none_named (m ∷ ms) name i e h = absurd cc

complete_one : (cs : List Completed) (n : ℕ) (name : List ℕ) (i : ℕ) (o : Option Known) → known_in cs n ≡ o →
    first_named (members_in cs n) name ≡ Some i → is_some o ≡ true
complete_one cs n name i None e h = absurd (none_named (members_in cs n) name i (absent cs n e) h)
complete_one cs n name i (Some k) e h = refl

-- A struct with a member is complete.
pub complete_with : (cs : List Completed) (n : ℕ) (name : List ℕ) (i : ℕ) →
    first_named (members_in cs n) name ≡ Some i → complete_in cs n ≡ true
complete_with cs n name i h = complete_one cs n name i (known_in cs n) refl h
