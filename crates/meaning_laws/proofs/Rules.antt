-- What the rules say of nodes that meet them.
use Rattle.std.proofs.Common.{◌≡◌, ℕ, zero, suc, ◌+◌, nat_eq, Bool, true, false, not, ◌||◌, if◌then◌else◌, List, []}
use Rattle.std.proofs.Common.{◌∷◌, Option, Some, None, slice_get, refl, sym, ap, ◌∙◌}
use Rattle.std.specs.Cmp.Lexicographic.{pointwise}
use Rattle.std.proofs.lemmas.Bool.{false≢true, and_parts}
use Rattle.upc_types.specs.Types as types
use Rattle.upc_types.specs.Types.{CType, Qualified, Base, Member, Structs, base_of, block_of, is_constant, members_of}
use Rattle.typing_rules.specs.Values.{base_is_array, is_array, is_struct, present}
use Rattle.typing_rules.specs.Attributes.{Found, find_member, member_named, member_type, member_block}
use Rattle.typing_rules.specs.Nodes.{Attr}
use Rattle.typing_rules.specs.Rules.{Verdict, lowest_in, or_above, is_modifiable, form_is_lvalue, has_name}
use Rattle.typing_rules.specs.Rules.{names_member}
use Rattle.source_meaning.specs.Expressions as e
use Rattle.source_meaning.specs.layer.Parts as parts
use Rattle.typing_rules.specs.declared.attribute.Form.{Form}
use Rattle.typing_rules.specs.declared.attribute.Form.TheVariants as form
use Rattle.meaning_laws.specs.layer.Values.{IsFormedType}
use Rattle.meaning_laws.proofs.Operators.{IsNoArray}

first_of : (r : ℕ) (broken : Bool) (rest : Option ℕ) → or_above r broken rest ≡ None
    → (broken ≡ false) × (rest ≡ None)
first_of r true rest h = absurd cc
first_of r false rest h = (refl, h)

-- A rule of the table that is not broken.
pub unbroken : (vs : List Verdict) (i : ℕ) (v : Verdict) → slice_get vs i ≡ Some v → lowest_in vs ≡ None
    → v.broken ≡ false
unbroken [] i v e h = absurd cc
unbroken (w ∷ vs) zero v e h =
    let same : w ≡ v = cc in
    ap (λ (u : Verdict). u.broken) (sym same) ∙ (first_of w.rule w.broken (lowest_in vs) h).0
unbroken (w ∷ vs) (suc i) v e h = unbroken vs i v e (first_of w.rule w.broken (lowest_in vs) h).1

pub holds : (b : Bool) → not b ≡ false → b ≡ true
holds true h = refl
holds false h = absurd (false≢true (sym h))

pub fails : (b : Bool) → not b ≡ true → b ≡ false
fails true h = absurd (false≢true h)
fails false h = refl

pub or_left : (b c : Bool) → (b || c) ≡ false → b ≡ false
or_left true c h = h
or_left false c h = refl

pub or_right : (b c : Bool) → (b || c) ≡ false → c ≡ false
or_right true c h = absurd (false≢true (sym h))
or_right false c h = h

-- A pointer has a target.
pub has_target : (o : Option CType) → present o ≡ true → (t : CType) × (o ≡ Some t)
has_target (Some t) h = (t, refl)
has_target None h = absurd (false≢true h)

same_form : (f : Form) → form_is_lvalue f ≡ parts.is_lvalue f
same_form (form.Lvalue address) = refl
same_form form.Value = refl
same_form form.Callable = refl
same_form form.Text = refl

pub lvalue_form : (f : Form) → form_is_lvalue f ≡ true → parts.is_lvalue f ≡ true
lvalue_form f h = sym (same_form f) ∙ h

no_array : (b : Base) → base_is_array b ≡ false → IsNoArray b
no_array (types.Array t count) h = absurd (false≢true (sym h))
no_array (types.Integer k) h = tt
no_array (types.Pointer t) h = tt
no_array types.Void h = tt
no_array (types.Struct m) h = tt
no_array types.LockObject h = tt

-- What can be assigned to is no array.
pub modified : (a : Attr) → is_modifiable a ≡ true → IsNoArray (base_of a.ctype)
modified a h =
    let others = is_struct a.ctype || is_constant a.ctype in
    let array = is_array a.ctype || others in
    no_array (base_of a.ctype)
    (or_left (is_array a.ctype) others (fails array (and_parts (form_is_lvalue a.form) (not array) h).1))

-- ---- members

find_by : (b : Bool) (f : Found) (rest : Option Found) → (b ≡ false → (g : Found) × (rest ≡ Some g))
    → (g : Found) × ((if b then Some f else rest) ≡ Some g)
find_by true f rest h = (f, refl)
find_by false f rest h = h refl

or_other : (b c : Bool) → b ≡ false → (b || c) ≡ true → c ≡ true
or_other true c e h = absurd (false≢true (sym e))
or_other false c e h = h

found : (σ : Structs) (number i : ℕ) (ms : List Member) (name : List ℕ) → has_name ms name ≡ true
    → (f : Found) × (find_member σ number i ms name ≡ Some f)
found σ number i [] name h = absurd (false≢true h)
found σ number i (x ∷ ms) name h =
    find_by (pointwise nat_eq x.name name) _ _ (λ e.
    found σ number (i + 1) ms name (or_other (pointwise nat_eq x.name name) (has_name ms name) e h))

-- A struct that has a member of this name.
pub member_found : (σ : Structs) (t : CType) (name : List ℕ) → names_member σ t name ≡ true
    → (f : Found) × (member_named σ t name ≡ Some f)
member_found σ (Qualified (types.Struct number) c s x) name h = found σ number 0 (members_of σ number) name h
member_found σ (Qualified types.Void c s x) name h = absurd (false≢true h)
member_found σ (Qualified (types.Integer k) c s x) name h = absurd (false≢true h)
member_found σ (Qualified (types.Array t count) c s x) name h = absurd (false≢true h)
member_found σ (Qualified (types.Pointer t) c s x) name h = absurd (false≢true h)
member_found σ (Qualified types.LockObject c s x) name h = absurd (false≢true h)

pub struct_formed : (σ : Structs) (t : CType) (name : List ℕ) → names_member σ t name ≡ true → IsFormedType t
struct_formed σ (Qualified (types.Struct number) c s x) name h = tt
struct_formed σ (Qualified types.Void c s x) name h = absurd (false≢true h)
struct_formed σ (Qualified (types.Integer k) c s x) name h = absurd (false≢true h)
struct_formed σ (Qualified (types.Array t count) c s x) name h = absurd (false≢true h)
struct_formed σ (Qualified (types.Pointer t) c s x) name h = absurd (false≢true h)
struct_formed σ (Qualified types.LockObject c s x) name h = absurd (false≢true h)

pub member_type_block : (t u : CType) → block_of (member_type t u) ≡ member_block (block_of t)
member_type_block (Qualified b c s x) (Qualified d e t y) = refl
