-- Structs whose members are formed and which have some bytes, and no more than an object can have.
use Rattle.std.proofs.Common.{◌≡◌, ℕ, nat_lt, nat_le, nat_eq, ◌==◌, ◌+◌, Bool, true, false, ◌&&◌, if◌then◌else◌}
use Rattle.std.proofs.Common.{List, [], ◌∷◌, length, Option, Some, None, is_some, refl, sym, ap, ◌∙◌}
use Rattle.std.specs.Cmp.Lexicographic.{pointwise}
use Rattle.std.proofs.lemmas.Bool.{false≢true, and_parts}
use Rattle.block_layout.specs.declared.kind.Kind.{Kind}
use Rattle.block_layout.specs.declared.kind.Kind.TheVariants as kind
use Rattle.integers.specs.Integers.{IsInteger}
use Rattle.upc_types.specs.declared.layout.Known.{Known}
use Rattle.upc_types.specs.declared.layout.Layout.{Layout}
use Rattle.upc_types.specs.Types as types
use Rattle.upc_types.specs.Types.{CType, Qualified, Base, base_of, Member, Completed, Structs, members_in}
use Rattle.upc_types.specs.Layout.{base_complete, complete_in, base_within, layout_in, layout_or_none}
use Rattle.upc_types.specs.Layout.{known_in, members_within, all_complete, member_layouts, struct_layout, most_bytes}
use Rattle.typing_rules.specs.Values.{is_nested}
use Rattle.typing_rules.specs.Attributes.{Found, find_member, member_of, member_named}
use Rattle.upc_values.specs.Lists.{Each}
use Rattle.typed_tree.specs.layer.Judged.{Earlier}
use Rattle.upc_checker_scopes.specs.Known.{size_or_more}
use Rattle.upc_checker.proofs.TypedLaws.{layouts_stay}
use Rattle.meaning_laws_accepted.proofs.Types.{IsDeep, IsSoundType}

-- A member is of a type of objects, and no array of arrays.
abbrev pub IsMember : Member → Type 0
IsMember m = IsSoundType m.ctype × (is_nested m.ctype ≡ false)

-- The members of each struct are formed, it has no more bytes than an object can have, and it has a member.
abbrev pub AreFormedStructs : List Completed → Type 0
AreFormedStructs [] = Unit {0}
AreFormedStructs (c ∷ older) =
    Each IsMember c.members × (nat_lt most_bytes (size_or_more (members_within older c.members)) ≡ false)
    × (nat_eq (length c.members) 0 ≡ false) × AreFormedStructs older

-- ---- members

either_members : (b : Bool) (xs ys : List Member) → Each IsMember xs → Each IsMember ys
    → Each IsMember (if b then xs else ys)
either_members true xs ys h i = h
either_members false xs ys h i = i

members_formed : (cs : List Completed) (number : ℕ) → AreFormedStructs cs → Each IsMember (members_in cs number)
members_formed [] number h = tt
members_formed (c ∷ older) number h =
    either_members (c.number == number) c.members (members_in older number) h.0 (members_formed older number h.3)

-- A member that is found is formed.
abbrev pub IsFoundFormed : Option Found → Type 0
IsFoundFormed None = Unit {0}
IsFoundFormed (Some f) = IsSoundType f.ctype × (is_nested f.ctype ≡ false)

either_found : (b : Bool) (o p : Option Found) → IsFoundFormed o → IsFoundFormed p
    → IsFoundFormed (if b then o else p)
either_found true o p h i = h
either_found false o p h i = i

find_formed : (σ : Structs) (number index : ℕ) (ms : List Member) (name : List ℕ) → Each IsMember ms
    → IsFoundFormed (find_member σ number index ms name)
find_formed σ number index [] name h = tt
find_formed σ number index (x ∷ ms) name h =
    either_found (pointwise nat_eq x.name name) _ _ h.0 (find_formed σ number (index + 1) ms name h.1)

of_formed : (σ : Structs) (number : Option ℕ) (name : List ℕ) → AreFormedStructs σ.completed
    → IsFoundFormed (member_of σ number name)
of_formed σ None name h = tt
of_formed σ (Some number) name h =
    find_formed σ number 0 (members_in σ.completed number) name (members_formed σ.completed number h)

pub named_formed : (σ : Structs) (t : CType) (name : List ℕ) → AreFormedStructs σ.completed
    → IsFoundFormed (member_named σ t name)
named_formed σ t name h = of_formed σ _ name h

-- ---- sizes

-- The layout of a struct, if it is known, is no larger than an object can be.
abbrev IsSmall : Option Known → Type 0
IsSmall None = Unit {0}
IsSmall (Some k) = nat_le k.layout.size most_bytes ≡ true

either_small : (b : Bool) (o p : Option Known) → IsSmall o → IsSmall p → IsSmall (if b then o else p)
either_small true o p h i = h
either_small false o p h i = i

pub within_parts : (complete : Bool) (l : Layout)
    → nat_lt most_bytes
    (size_or_more (if complete && nat_le l.size most_bytes then Some l else None)) ≡ false
    → (complete ≡ true) × (nat_le l.size most_bytes ≡ true)
within_parts complete l h = by (complete && nat_le l.size most_bytes) refl h
  where
    by : (b : Bool) → (complete && nat_le l.size most_bytes) ≡ b
        → nat_lt most_bytes (size_or_more (if b then Some l else None)) ≡ false
        → (complete ≡ true) × (nat_le l.size most_bytes ≡ true)
    by true e i = and_parts complete (nat_le l.size most_bytes) e
    by false e i = absurd (false≢true (sym i))

known_small : (cs : List Completed) (number : ℕ) → AreFormedStructs cs → IsSmall (known_in cs number)
known_small [] number h = tt
known_small (c ∷ older) number h =
    either_small (c.number == number) (Some _) (known_in older number)
    (within_parts (all_complete (complete_in older) c.members)
    (struct_layout (member_layouts (layout_in older) c.members)) h.1).1
    (known_small older number h.3)

-- What is known of a struct gives its layout as a type.
abbrev within_of : Option Known → Option Layout
within_of o = if is_some o && nat_le (layout_or_none o).size most_bytes then Some (layout_or_none o) else None

complete_within : (o : Option Known) → IsSmall o → is_some o ≡ true → is_some (within_of o) ≡ true
complete_within None h e = absurd (false≢true e)
complete_within (Some k) h e = rw h refl

pub number_within : (cs : List Completed) (k : Kind) → IsInteger k → is_some (base_within cs (types.Integer k)) ≡ true
number_within cs kind.Char h = refl
number_within cs kind.UChar h = refl
number_within cs kind.Short h = refl
number_within cs kind.UShort h = refl
number_within cs kind.Int h = refl
number_within cs kind.UInt h = refl
number_within cs kind.Long h = refl
number_within cs kind.ULong h = refl
number_within cs (kind.Shared n block) h = absurd h
number_within cs kind.Lock h = absurd h
number_within cs (kind.Private n) h = absurd h

pub pointer_within : (cs : List Completed) (t : CType) → is_some (base_within cs (types.Pointer t)) ≡ true
pointer_within cs (Qualified types.LockObject c s x) = refl
pointer_within cs (Qualified types.Void c (Some block) x) = refl
pointer_within cs (Qualified types.Void c None x) = refl
pointer_within cs (Qualified (types.Integer k) c (Some block) x) = refl
pointer_within cs (Qualified (types.Integer k) c None x) = refl
pointer_within cs (Qualified (types.Struct number) c (Some block) x) = refl
pointer_within cs (Qualified (types.Struct number) c None x) = refl
pointer_within cs (Qualified (types.Array t count) c (Some block) x) = refl
pointer_within cs (Qualified (types.Array t count) c None x) = refl
pointer_within cs (Qualified (types.Pointer t) c (Some block) x) = refl
pointer_within cs (Qualified (types.Pointer t) c None x) = refl

-- What is complete and no array has a size at the end of the source.
pub complete_has_size : (all older : List Completed) (b : Base) → Earlier all older → AreFormedStructs older → IsDeep b
    → base_complete (complete_in older) b ≡ true → is_some (base_within all b) ≡ true
complete_has_size all older types.Void e k h c = absurd (false≢true c)
complete_has_size all older (types.Integer i) e k h c = number_within all i h
complete_has_size all older (types.Struct number) e k h c =
    let same : known_in all number ≡ known_in older number = (layouts_stay all older number e c).0 in
    ap (λ (o : Option Known). is_some (within_of o)) same
    ∙ complete_within (known_in older number) (known_small older number k) c
complete_has_size all older (types.Array t count) e k h c = absurd h
complete_has_size all older (types.Pointer t) e k h c = pointer_within all t
complete_has_size all older types.LockObject e k h c = absurd (false≢true c)
