-- Words that are made of parts, each with its laws.
use Rattle.std.proofs.Common.{◌≡◌, ◌∙◌, ◌≤◌, ℕ, List, [], ◌∷◌, ◌++◌, Some, refl, arith, decimal, codes}
use Rattle.std.specs.Fmt.{signed_decimal}
use Rattle.block_layout.specs.declared.place.Loc.{Loc}
use Rattle.block_layout.specs.declared.place.ObjectRef.{ObjectRef}
use Rattle.block_layout.specs.declared.place.SharedPtr.{SharedPtr}
use Rattle.upc_values.specs.declared.scalar.Scalar.{Scalar}
use Rattle.upc_values.specs.declared.scalar.Scalar.TheVariants as scalar
use Rattle.run_recorder_text.specs.Words.{Text, loc_text, object_parts, pointer_parts, pointer_text, scalar_text}
use Rattle.run_recorder_parts.specs.Bounds.{most_u32, most_i64, most_i128}
use Rattle.run_recorder.specs.Ranges.{IsWithin, FitsLoc, FitsObject, FitsPointer}
use Rattle.run_recorder.specs.Ranges.{FitsScalar}
use Rattle.run_recorder_parts.specs.layer.Readers.{field, begins, number_of, int_of}
use Rattle.run_recorder_parts.specs.layer.Values.{word32, loc_parts_of, loc_of, object_parts_of, pointer_parts_of}
use Rattle.run_recorder_parts.specs.layer.Values.{pointer_of, lock_number_of, scalar_of}
use Rattle.run_recorder_parts.proofs.Bytes.{in_word, in_part, Passes, decimal_passes, EachPasses, EachPasses-append}
use Rattle.run_recorder_parts.proofs.Bytes.{in_part_digits, in_word_digits, part_word, part_no_dot, part_no_colon}
use Rattle.run_recorder.proofs.Forms.{IsField, IsRule, rule_field, then_takes, give_takes, then_again, field_whole}
use Rattle.run_recorder.proofs.Forms.{field_prefixed}
use Rattle.run_recorder.proofs.WordLaws.{if_takes, if_not, mapped_takes, mapped_again, field_number, field_int}
use Rattle.run_recorder.proofs.WordLaws.{signed_passes, int_begins_not}

pub part32 : IsRule in_part word32 (λ n. decimal n ∷ []) (λ n. n ≤ most_u32)
part32 = rule_field in_part (number_of most_u32) decimal (λ n. n ≤ most_u32)
    (field_number in_part in_part_digits most_u32 (omega arith))

part_int : IsRule in_part (field (int_of most_i64)) (λ z. signed_decimal z ∷ []) (IsWithin most_i64)
part_int = rule_field in_part (int_of most_i64) signed_decimal (IsWithin most_i64)
    (field_int in_part in_part_digits refl most_i64 (omega arith))

pub small : {n : ℕ} → n ≤ most_u32 → Passes in_part (decimal n)
small {n} le = decimal_passes in_part in_part_digits n (omega arith)

abbrev loc_words : Loc → List Text
loc_words l = decimal l.object ∷ decimal l.thread ∷ decimal l.offset ∷ []

abbrev IsLoc : List Text → Loc → List Text → List Text → Type 0
IsLoc before l ws rest = (before ++ ws ≡ loc_words l ++ rest) × FitsLoc l

loc_rule : IsRule in_part loc_parts_of loc_words FitsLoc
loc_rule = record {
  takes = then_takes part32 _ (IsLoc [])
      (λ o ho. then_takes part32 _ (IsLoc (decimal o ∷ []))
      (λ t ht. then_takes part32 _ (IsLoc (decimal o ∷ decimal t ∷ []))
      (λ x hx. give_takes _ _ (λ rest. (refl, (ho, ht, hx))))));
  again = λ l rest h. then_again part32 _ l.object _ h.0 ∙ then_again part32 _ l.thread _ h.1
      ∙ then_again part32 _ l.offset rest h.2;
  plain = λ l h. (small h.0, (small h.1, (small h.2, tt)));
}

pub field_loc : IsField in_word loc_of loc_text FitsLoc
field_loc = field_prefixed (codes "@") refl
    (field_whole 46 loc_rule (λ l. omega arith) refl refl part_no_dot part_word)

abbrev IsObject : List Text → ObjectRef → List Text → List Text → Type 0
IsObject before o ws rest = (before ++ ws ≡ object_parts o ++ rest) × FitsObject o

object_takes : (ws : List Text) (o : ObjectRef) (rest : List Text) → object_parts_of ws ≡ Some (o, rest)
    → (ws ≡ object_parts o ++ rest) × FitsObject o
object_takes = then_takes part32 _ (IsObject [])
    (λ a ha. then_takes part32 _ (IsObject (decimal a ∷ []))
    (λ b hb. then_takes part32 _ (IsObject (decimal a ∷ decimal b ∷ []))
    (λ c hc. then_takes part32 _ (IsObject (decimal a ∷ decimal b ∷ decimal c ∷ []))
    (λ d hd. then_takes part32 _ (IsObject (decimal a ∷ decimal b ∷ decimal c ∷ decimal d ∷ []))
    (λ e he. then_takes part32 _ (IsObject (decimal a ∷ decimal b ∷ decimal c ∷ decimal d ∷ decimal e ∷ []))
    (λ f hf. give_takes _ _ (λ rest.
    (refl, record { number = ha; total = hb; block = hc; home = hd; shape = he; base = hf }))))))))

object_again : (o : ObjectRef) (rest : List Text) → FitsObject o → object_parts_of (object_parts o ++ rest)
    ≡ Some (o, rest)
object_again o rest h =
    then_again part32 _ o.number _ h.number ∙ then_again part32 _ o.total _ h.total
    ∙ then_again part32 _ o.block _ h.block ∙ then_again part32 _ o.home _ h.home
    ∙ then_again part32 _ o.shape _ h.shape ∙ then_again part32 _ o.base rest h.base

object_plain : (o : ObjectRef) → FitsObject o → EachPasses in_part (object_parts o)
object_plain o h =
    (small h.number, (small h.total, (small h.block, (small h.home, (small h.shape, (small h.base, tt))))))

object_rule : IsRule in_part object_parts_of object_parts FitsObject
object_rule = record { takes = object_takes; again = object_again; plain = object_plain }

abbrev IsPointer : List Text → SharedPtr → List Text → List Text → Type 0
IsPointer before p ws rest = (before ++ ws ≡ pointer_parts p ++ rest) × FitsPointer p

pointer_takes : (ws : List Text) (p : SharedPtr) (rest : List Text) → pointer_parts_of ws ≡ Some (p, rest)
    → (ws ≡ pointer_parts p ++ rest) × FitsPointer p
pointer_takes = then_takes object_rule _ (IsPointer [])
    (λ o ho. then_takes part32 _ (IsPointer (object_parts o))
    (λ t ht. then_takes part32 _ (IsPointer (object_parts o ++ decimal t ∷ []))
    (λ h hh. then_takes part_int _ (IsPointer (object_parts o ++ decimal t ∷ decimal h ∷ []))
    (λ x hx. give_takes _ _ (λ rest. (refl, record { object = ho; thread = ht; phase = hh; offset = hx }))))))

pointer_again : (p : SharedPtr) (rest : List Text) → FitsPointer p
    → pointer_parts_of (pointer_parts p ++ rest) ≡ Some (p, rest)
pointer_again p rest h =
    then_again object_rule _ p.object _ h.object ∙ then_again part32 _ p.thread _ h.thread
    ∙ then_again part32 _ p.phase _ h.phase ∙ then_again part_int _ p.offset rest h.offset

pointer_plain : (p : SharedPtr) → FitsPointer p → EachPasses in_part (pointer_parts p)
pointer_plain p h =
    EachPasses-append in_part (object_parts p.object)
    (decimal p.thread ∷ decimal p.phase ∷ signed_decimal p.offset ∷ []) (object_plain p.object h.object)
    (small h.thread, (small h.phase, part_int.plain p.offset h.offset))

pointer_rule : IsRule in_part pointer_parts_of pointer_parts FitsPointer
pointer_rule = record { takes = pointer_takes; again = pointer_again; plain = pointer_plain }

pub field_pointer : IsField in_word pointer_of pointer_text FitsPointer
field_pointer = field_prefixed (codes "p:") refl
    (field_whole 58 pointer_rule (λ p. omega arith) refl refl part_no_colon part_word)

field_lock_part : IsField in_word lock_number_of (λ n. codes "l:" ++ decimal n) (λ n. n ≤ most_u32)
field_lock_part = field_prefixed (codes "l:") refl (field_number in_word in_word_digits most_u32 (omega arith))

abbrev scalar_case : Scalar → Text → Type 0
scalar_case v t = (t ≡ scalar_text v) × FitsScalar v

scalar_takes : (t : Text) (v : Scalar) → scalar_of t ≡ Some v → (t ≡ scalar_text v) × FitsScalar v
scalar_takes t v e =
    if_takes (begins 108 t) _ _ v e (mapped_takes field_lock_part scalar.Lock scalar_case (λ n h. (refl, h)) t v)
    (λ e. if_takes (begins 112 t) _ _ v e
    (mapped_takes field_pointer scalar.Shared scalar_case (λ p h. (refl, h)) t v)
    (mapped_takes (field_int in_word in_word_digits refl most_i128 (omega arith)) scalar.Int scalar_case
    (λ z h. (refl, h)) t v))

scalar_again : (v : Scalar) → FitsScalar v → scalar_of (scalar_text v) ≡ Some v
scalar_again (scalar.Lock n) h = mapped_again field_lock_part scalar.Lock n h
scalar_again (scalar.Shared p) h = mapped_again field_pointer scalar.Shared p h
scalar_again (scalar.Int z) h =
    if_not (begins 108 (signed_decimal z)) _ _ (int_begins_not 108 most_i128 refl (omega arith) z h)
    ∙ if_not (begins 112 (signed_decimal z)) _ _ (int_begins_not 112 most_i128 refl (omega arith) z h)
    ∙ mapped_again (field_int in_word in_word_digits refl most_i128 (omega arith)) scalar.Int z h

scalar_plain : (v : Scalar) → FitsScalar v → Passes in_word (scalar_text v)
scalar_plain (scalar.Lock n) h = field_lock_part.plain n h
scalar_plain (scalar.Shared p) h = field_pointer.plain p h
scalar_plain (scalar.Int z) h = signed_passes in_word in_word_digits refl most_i128 (omega arith) z h

pub field_scalar : IsField in_word scalar_of scalar_text FitsScalar
field_scalar = record { takes = scalar_takes; again = scalar_again; plain = scalar_plain }
