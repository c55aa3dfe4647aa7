-- The arguments of printf after its format are integers.
use Rattle.std.proofs.Common.{◌≡◌, ℕ, Bool, true, List, [], ◌∷◌, ◌++◌, map, Option, Some, None, refl}
use Rattle.std.proofs.Math.IntN.{pos}
use Rattle.std.proofs.lemmas.Bool.{false≢true, and_parts}
use Rattle.upc_text.specs.declared.place.Place.{Place}
use Rattle.block_layout.specs.declared.kind.Kind.{Kind}
use Rattle.upc_values.specs.declared.library.LibraryCall.TheVariants.{Printf}
use Rattle.upc_values.specs.declared.scalar.Value.{Value}
use Rattle.upc_types.specs.Types as types
use Rattle.upc_types.specs.Types.{CType, Qualified, Structs, base_of}
use Rattle.typing_rules.specs.declared.format.Printed.{Printed}
use Rattle.typing_rules.specs.declared.format.Awaits.TheVariants.{Anything}
use Rattle.typing_rules.specs.Format.{conversions, prints_kind, all_printed, prints_by}
use Rattle.typing_rules.specs.Attributes.{base}
use Rattle.typing_rules.specs.Values.{base_kind, value_base}
use Rattle.typing_rules.specs.Meanings as m
use Rattle.typing_rules.specs.Nodes as n
use Rattle.typing_rules.specs.Nodes.{Attr, Use}
use Rattle.typing_rules.specs.Rules.{table, judge, rule_28, format_fits}
use Rattle.typed_tree.specs.Tree.{Exprs, NoExprs, AndExpr, attr_of, attrs_of, place_of}
use Rattle.typed_tree.specs.Words.{format_in, text_in}
use Rattle.typed_tree.specs.layer.Judged.{facts_at}
use Rattle.thread_steps.specs.States.{Thread, Res, Val, Over, Unfinished, bind, Doing, ◌>>=◌}
use Rattle.thread_steps.specs.Values.{number}
use Rattle.thread_steps.specs.Operators.{cast}
use Rattle.source_meaning.specs.Types.{integer_of, promotion}
use Rattle.source_meaning.specs.layer.Parts as parts
use Rattle.source_meaning.specs.Running.{Running}
use Rattle.source_meaning.specs.Expressions as e
use Rattle.source_meaning.specs.Expressions.{Calls, type_of, types_of, arguments}
use Rattle.source_meaning.specs.Laws.{GivesIn, Gives}
use Rattle.meaning_laws.specs.layer.Values.{IsNumber}
use Rattle.meaning_laws.specs.layer.Uses.{IsPromoted, ArePromoted, AllNumbers}
use Rattle.meaning_laws.specs.code.Laws.{PrintedArePromoted}
use Rattle.meaning_laws.proofs.Rules.{unbroken, holds}

-- ---- types

kind_there : (p : Printed) (o : Option Kind) → prints_kind p o ≡ true → (k : Kind) × (o ≡ Some k)
kind_there p (Some k) h = (k, refl)
kind_there p None h = absurd (false≢true h)

module _ (structs : Structs) where
  printed_promoted : (p : Printed) (t : CType) → prints_kind p (base_kind (value_base (base_of t))) ≡ true
      → IsPromoted structs t
  printed_promoted p (Qualified (types.Integer k) c s x) h =
      record { kind = kind_there p (base_kind (types.Integer k)) h; value = λ v g. g }
  printed_promoted p (Qualified types.Void c s x) h = absurd (false≢true h)
  printed_promoted p (Qualified (types.Struct i) c s x) h = absurd (false≢true h)
  printed_promoted p (Qualified (types.Array u i) c s x) h = absurd (false≢true h)
  printed_promoted p (Qualified (types.Pointer u) c s x) h = absurd (false≢true h)
  printed_promoted p (Qualified types.LockObject c s x) h = absurd (false≢true h)

  all_promoted : (ps : List Printed) (args : Exprs) → all_printed ps (map base (attrs_of args)) ≡ true
      → ArePromoted structs args
  all_promoted ps NoExprs h = tt
  all_promoted (p ∷ ps) (AndExpr a more) h =
      let both = and_parts (prints_kind p (base_kind (base (attr_of a)))) (all_printed ps (map base (attrs_of more))) h
      in
      (printed_promoted p (type_of a) both.0, all_promoted ps more both.1)
  all_promoted [] (AndExpr a more) h = absurd (false≢true h)

  by_conversions : (o : Option (List Printed)) (args : Exprs) → prints_by o (map base (attrs_of args)) ≡ true
      → ArePromoted structs args
  by_conversions (Some ps) args h = all_promoted ps args h
  by_conversions None args h = absurd (false≢true h)

  by_format : (o : Option (List ℕ)) (a : Attr) (args : Exprs) → format_fits o (a ∷ attrs_of args) ≡ true
      → ArePromoted structs args
  by_format (Some format) a args h = by_conversions (conversions Anything format) args h
  by_format None a args h = absurd (false≢true h)

-- ---- values

number_more : (vs : List Value) (v : Value) → AllNumbers vs → IsNumber v → AllNumbers (vs ++ v ∷ [])
number_more [] v h i = (i, tt)
number_more (w ∷ vs) v h i = (h.0, number_more vs v h.1 i)

module _ {B : Type 0} (V : B → Type 0) where
  behind_any : {A : Type 0} (m : Doing A) (f : A → Doing B) → ((v : A) → Gives B V (f v)) → Gives B V (m >>= f)
  behind_any {A = A} m f h = record { by = λ σ. in_result (m σ) }
    where
      in_result : (r : Res A) → GivesIn V (bind r f)
      in_result (Val v υ) = (h v).by υ
      in_result (Over end υ) = tt
      in_result Unfinished = tt

  behind_promotion : (τ : Thread) (o : Option Kind) (at : Place) (v : Value) (f : Value → Doing B)
      → ((w : Value) → IsNumber w → Gives B V (f w)) → Gives B V (cast τ (parts.promotion_of o) at v >>= f)
  unfolding cast
  behind_promotion τ (Some k) at v f h = record { by = λ σ. (h (number _) tt).by σ }
  behind_promotion τ None at v f h = record { by = λ σ. (h (number (pos 0)) tt).by σ }

module _ (ρ : Running) (call : Calls) (strict : Bool) where
  arguments_numbers : (args : Exprs) (before : List Value) → AllNumbers before
      → Gives (List Value) AllNumbers (arguments ρ call strict (map promotion (types_of args)) args before)
  arguments_numbers NoExprs before h = record { by = λ σ. h }
  arguments_numbers (AndExpr a more) before h =
      behind_any AllNumbers (e.value ρ call strict a) _ (λ v.
      behind_promotion AllNumbers ρ.thread (integer_of (type_of a)) (place_of a) v _ (λ w i.
      arguments_numbers more (before ++ w ∷ []) (number_more before w h i)))

pub printed_are_promoted : PrintedArePromoted
printed_are_promoted = record {
  each = λ program locals how attr format args structs h.
      let x = n.Call how (m.Library Printf) true (format_in (AndExpr format args)) (attrs_of (AndExpr format args)) in
      let rule = unbroken (table (facts_at program h.0.0) x) 27 (judge 28 (rule_28 x)) refl h.0.1.rules in
      by_format structs (text_in format) (attr_of format) args
      (holds (format_fits (text_in format) (attr_of format ∷ attrs_of args)) rule);
  given = λ ρ call strict args. arguments_numbers ρ call strict args [] tt;
}
