-- The types in the program of each source that is accepted are formed, none being a pointer to an array.
use Rattle.std.proofs.Common.{◌≡◌, true, Option}
use Rattle.upc_values.specs.Lists.{Each}
use Rattle.upc_values.proofs.Lists.{each-grow}
use Rattle.upc_types.specs.Types as types
use Rattle.upc_types.specs.Types.{CType, Qualified, Base, base_of, block_of}
use Rattle.upc_types.specs.Cells.{leaf_base}
use Rattle.typing_rules.specs.Nodes.{Attr}
use Rattle.typing_rules.specs.Rules.{has_size}
use Rattle.typed_tree.specs.LocalObjects.{objects_in}
use Rattle.typed_tree.specs.Programs.{Checked}
use Rattle.typed_tree.specs.Tree.{ExprKind, DeclaredObject}
use Rattle.meaning_laws.specs.layer.Values.{HasIntegerKind}
use Rattle.meaning_laws_accepted.specs.layer.Throughout as t
use Rattle.meaning_laws_accepted.proofs.Types.{IsSound, deep_array, deep_pointer}
use Rattle.meaning_laws_accepted.proofs.Sounds.{IsSoundObject, IsSoundFunction, functions_formed}
use Rattle.meaning_laws_accepted.proofs.Sources.{source_sound}
use Rattle.meaning_laws_accepted.proofs.Everywhere.{everywhere}
use Rattle.meaning_laws_accepted.proofs.Inside.{inside}
use Rattle.gen_stmt_laws.specs.code.Fitting.{LeadsToNoArray, HasFormedTypes}
use Rattle.gen_stmt_laws.specs.code.Accepted.{IsOfSource}

-- ---- types

leads_sound : (s : Option _) (b : Base) → IsSound s b → LeadsToNoArray b
leads_sound s types.Void h = tt
leads_sound s (types.Integer k) h = tt
leads_sound s (types.Struct number) h = tt
leads_sound s (types.Array u count) h = tt
leads_sound s (types.Pointer u) h = deep_array (base_of u) (deep_pointer u h)
leads_sound s types.LockObject h = absurd h

leaf_sound : (s : Option _) (b : Base) → IsSound s b → HasIntegerKind (leaf_base b)
leaf_sound s types.Void h = tt
leaf_sound s (types.Integer k) h = h
leaf_sound s (types.Struct number) h = tt
leaf_sound s (types.Array (Qualified e c u x) count) h = leaf_sound u e h.1
leaf_sound s (types.Pointer u) h = tt
leaf_sound s types.LockObject h = absurd h

-- No expression of this attribute is a pointer to an array.
abbrev Leads : Attr → ExprKind → Type 0
Leads attr kind = LeadsToNoArray (base_of attr.ctype)

-- The leaf elements of an object are of a kind of integers, where they are integers.
abbrev HasLeaves : DeclaredObject → Type 0
HasLeaves x = HasIntegerKind (leaf_base (base_of x.ctype))

-- What is sound is so.
object_leaves : (sized : CType → Type 0) (x : DeclaredObject) → IsSoundObject sized x → HasLeaves x
object_leaves sized x h = leaf_sound (block_of x.ctype) (base_of x.ctype) h.0.0

pub accepted_have_formed_types : (program : Checked) → IsOfSource program → HasFormedTypes program
accepted_have_formed_types program h =
    let sized = λ (u : CType). has_size program.structs u ≡ true in
    let sound = (source_sound h.0 h.1 h.2 program h.3).functions in record {
      functions = functions_formed sized program.functions sound;
      objects =
          each-grow (IsSoundFunction sized) (λ f. Each HasLeaves (objects_in f.body)) program.functions
          (λ f g. inside sized HasLeaves (object_leaves sized) f.body g.body) sound;
      pointers =
          each-grow (IsSoundFunction sized) (λ f. t.ThroughoutStatement Leads f.body) program.functions
          (λ f g. everywhere sized Leads
          (λ attr kind i. leads_sound (block_of attr.ctype) (base_of attr.ctype) i.0) f.body g.body) sound;
    }
