-- Actions, each with its laws.
use Rattle.std.proofs.Common.{◌≡◌, ◌∙◌, ◌<◌, ◌≤◌, ◌^◌, ℕ, List, [], ◌∷◌, ◌++◌, length, map, Some, refl, sym, ap}
use Rattle.std.proofs.Common.{arith, decimal, codes}
use Rattle.std.specs.Fmt.{signed_decimal}
use Rattle.hex.specs.Hex.{IsBytes}
use Rattle.hex.specs.Hex.{IsBytes}
use Rattle.upc_values.specs.declared.action.Action.{Action}
use Rattle.upc_values.specs.declared.action.Action.TheVariants as action
use Rattle.run_recorder_text.specs.Words.{Text, loc_text, pointer_text, scalar_text, mark_text, home_text, strict_text}
use Rattle.run_recorder_text.specs.Words.{hex_text, action_words}
use Rattle.run_recorder_parts.specs.Bounds.{most_u8, most_u32, most_u64, most_i32}
use Rattle.run_recorder.specs.Ranges.{IsWithin, FitsLoc, FitsPointer}
use Rattle.run_recorder.specs.Ranges.{FitsScalar, FitsMark, FitsHome, FitsAction}
use Rattle.run_recorder_parts.specs.layer.Readers.{Reader, give, field, many, each, number_of, int_of}
use Rattle.run_recorder_parts.specs.layer.Values.{word32, word64, signed32, loc_of, pointer_of, scalar_of}
use Rattle.run_recorder_parts.specs.layer.Values.{mark_of, home_of}
use Rattle.run_recorder_parts.specs.layer.Values.{strict_of, hex_of, read_of, write_of, marked_of, locked_of, alloc_of}
use Rattle.run_recorder_parts.specs.layer.Values.{free_of, meet_of, print_of, exit_of, action_table, action_of}
use Rattle.run_recorder_parts.proofs.Bytes.{in_word, EachPasses, in_word_digits}
use Rattle.run_recorder.proofs.Forms.{IsRule, rule_field, then_takes, give_takes, then_again, Handles, tagged_takes}
use Rattle.run_recorder.proofs.Forms.{AreAll, rule_each}
use Rattle.run_recorder.proofs.WordLaws.{field_number, field_int, field_mark, field_home, Always, field_strict}
use Rattle.run_recorder.proofs.PartLaws.{small, field_loc, field_pointer, field_scalar}
use Rattle.run_recorder.proofs.Hexes.{field_hex}

infixr 10 ◌&◌
pub ◌&◌ : {A B : Type 0} → A → B → A × B
a & b = (a, b)

abbrev pub Number : ℕ → Type 0
Number most = IsRule in_word (field (number_of most)) (λ n. decimal n ∷ []) (λ n. n ≤ most)

number : (most : ℕ) → most < 10 ^ 64 → Number most
number most small = rule_field in_word (number_of most) decimal (λ n. n ≤ most)
    (field_number in_word in_word_digits most small)

pub n8 : Number most_u8
n8 = number most_u8 (omega arith)

pub n32 : IsRule in_word word32 (λ n. decimal n ∷ []) (λ n. n ≤ most_u32)
n32 = number most_u32 (omega arith)

pub n64 : IsRule in_word word64 (λ n. decimal n ∷ []) (λ n. n ≤ most_u64)
n64 = number most_u64 (omega arith)

pub z32 : IsRule in_word signed32 (λ z. signed_decimal z ∷ []) (IsWithin most_i32)
z32 = rule_field in_word (int_of most_i32) signed_decimal (IsWithin most_i32)
    (field_int in_word in_word_digits refl most_i32 (omega arith))

strict : IsRule in_word (field strict_of) (λ b. strict_text b ∷ []) Always
strict = rule_field in_word strict_of strict_text Always field_strict

loc : IsRule in_word (field loc_of) (λ l. loc_text l ∷ []) FitsLoc
loc = rule_field in_word loc_of loc_text FitsLoc field_loc

pub scalar : IsRule in_word (field scalar_of) (λ v. scalar_text v ∷ []) FitsScalar
scalar = rule_field in_word scalar_of scalar_text FitsScalar field_scalar

scalars : (n : ℕ) → IsRule in_word (many 0 n (each scalar_of)) (map scalar_text) (AreAll FitsScalar n)
scalars n = rule_each field_scalar n

mark : IsRule in_word (field mark_of) (λ m. mark_text m ∷ []) FitsMark
mark = rule_field in_word mark_of mark_text FitsMark field_mark

pointer : IsRule in_word (field pointer_of) (λ p. pointer_text p ∷ []) FitsPointer
pointer = rule_field in_word pointer_of pointer_text FitsPointer field_pointer

hex : IsRule in_word (field hex_of) (λ bs. hex_text bs ∷ []) IsBytes
hex = rule_field in_word hex_of hex_text IsBytes field_hex

home : IsRule in_word (field home_of) (λ h. home_text h ∷ []) FitsHome
home = rule_field in_word home_of home_text FitsHome field_home

-- The parts before the others, and those after, are the action's words.
abbrev Is : List Text → Action → List Text → List Text → Type 0
Is before a ws rest = (before ++ ws ≡ action_words a ++ rest) × FitsAction a

-- What the reader reads after this name is written so.
abbrev Handled : Text → Reader Action → Type 0
Handled name r = (ws : List Text) (a : Action) (rest : List Text) → r ws ≡ Some (a, rest) → Is (name ∷ []) a ws rest

reads : Handled (codes "read") read_of
reads = then_takes strict _ (Is (codes "read" ∷ []))
    (λ s hs. then_takes loc _ (Is (codes "read" ∷ strict_text s ∷ []))
    (λ l hl. give_takes _ _ (λ rest. (refl, hl))))

writes : Handled (codes "write") write_of
writes = then_takes strict _ (Is (codes "write" ∷ []))
    (λ s hs. then_takes loc _ (Is (codes "write" ∷ strict_text s ∷ []))
    (λ l hl. then_takes scalar _ (Is (codes "write" ∷ strict_text s ∷ loc_text l ∷ []))
    (λ v hv. give_takes _ _ (λ rest. (refl, (hl, hv))))))

fences : Handled (codes "fence") (give action.Fence)
fences = give_takes _ (Is (codes "fence" ∷ [])) (λ rest. (refl, tt))

beats : Handled (codes "beat") (give action.Beat)
beats = give_takes _ (Is (codes "beat" ∷ [])) (λ rest. (refl, tt))

notifies : Handled (codes "notify") (marked_of action.Notify)
notifies = then_takes mark _ (Is (codes "notify" ∷ []))
    (λ m hm. give_takes _ _ (λ rest. (refl, hm)))

waits : Handled (codes "wait") (marked_of action.Wait)
waits = then_takes mark _ (Is (codes "wait" ∷ [])) (λ m hm. give_takes _ _ (λ rest. (refl, hm)))

locks : Handled (codes "lock") (locked_of action.Lock)
locks = then_takes n32 _ (Is (codes "lock" ∷ [])) (λ n hn. give_takes _ _ (λ rest. (refl, hn)))

attempts : Handled (codes "attempt") (locked_of action.Attempt)
attempts = then_takes n32 _ (Is (codes "attempt" ∷ [])) (λ n hn. give_takes _ _ (λ rest. (refl, hn)))

unlocks : Handled (codes "unlock") (locked_of action.Unlock)
unlocks = then_takes n32 _ (Is (codes "unlock" ∷ [])) (λ n hn. give_takes _ _ (λ rest. (refl, hn)))

makes_locks : Handled (codes "lockmake") (give action.LockMake)
makes_locks = give_takes _ (Is (codes "lockmake" ∷ [])) (λ rest. (refl, tt))

frees_locks : Handled (codes "lockfree") (locked_of action.LockFree)
frees_locks = then_takes n32 _ (Is (codes "lockfree" ∷ [])) (λ n hn. give_takes _ _ (λ rest. (refl, hn)))

makes_objects : Handled (codes "alloc") alloc_of
makes_objects = then_takes n64 _ (Is (codes "alloc" ∷ []))
    (λ n hn. then_takes n64 _ (Is (codes "alloc" ∷ decimal n ∷ []))
    (λ b hb. then_takes home _ (Is (codes "alloc" ∷ decimal n ∷ decimal b ∷ []))
    (λ h hh. then_takes n32 _ (Is (codes "alloc" ∷ decimal n ∷ decimal b ∷ home_text h ∷ []))
    (λ s hs. give_takes _ _ (λ rest. (refl, (hn, hb, hh, hs)))))))

frees_objects : Handled (codes "free") free_of
frees_objects = then_takes pointer _ (Is (codes "free" ∷ [])) (λ p hp. give_takes _ _ (λ rest. (refl, hp)))

meets : Handled (codes "meet") meet_of
meets = then_takes n8 _ (Is (codes "meet" ∷ []))
    (λ c hc. then_takes n64 _ (Is (codes "meet" ∷ decimal c ∷ []))
    (λ k hk. then_takes (scalars k) _ (Is (codes "meet" ∷ decimal c ∷ decimal k ∷ []))
    (λ vs hvs. give_takes _ _ (λ rest. (
      ap (λ m. codes "meet" ∷ decimal c ∷ decimal m ∷ map scalar_text vs ++ rest) (sym hvs.0),
      (hc, omega (arith, hvs.0), hvs.1),
    )))))

prints : Handled (codes "print") print_of
prints = then_takes hex _ (Is (codes "print" ∷ [])) (λ bs hbs. give_takes _ _ (λ rest. (refl, hbs)))

exits : Handled (codes "exit") exit_of
exits = then_takes z32 _ (Is (codes "exit" ∷ [])) (λ v hv. give_takes _ _ (λ rest. (refl, hv)))

handles : Handles (Is []) action_table
handles =
    reads & writes & fences & beats & notifies & waits & locks & attempts & unlocks & makes_locks & frees_locks
    & makes_objects & frees_objects & meets & prints & exits & tt

action_takes : (ws : List Text) (a : Action) (rest : List Text) → action_of ws ≡ Some (a, rest)
    → (ws ≡ action_words a ++ rest) × FitsAction a
action_takes = tagged_takes (Is []) action_table handles

action_again : (a : Action) (rest : List Text) → FitsAction a → action_of (action_words a ++ rest) ≡ Some (a, rest)
action_again (action.Read l s) rest h = then_again strict _ s _ tt ∙ then_again loc _ l rest h
action_again (action.Write s l v) rest h = then_again strict _ s _ tt ∙ then_again loc _ l _ h.0
    ∙ then_again scalar _ v rest h.1
action_again action.Fence rest h = refl
action_again action.Beat rest h = refl
action_again (action.Wait m) rest h = then_again mark _ m rest h
action_again (action.Attempt n) rest h = then_again n32 _ n rest h
action_again (action.Unlock n) rest h = then_again n32 _ n rest h
action_again action.LockMake rest h = refl
action_again (action.LockFree n) rest h = then_again n32 _ n rest h
action_again (action.Free p) rest h = then_again pointer _ p rest h
action_again (action.Notify m) rest h = then_again mark _ m rest h
action_again (action.Lock n) rest h = then_again n32 _ n rest h
action_again (action.Alloc n b o s) rest h = then_again n64 _ n _ h.0 ∙ then_again n64 _ b _ h.1
    ∙ then_again home _ o _ h.2 ∙ then_again n32 _ s rest h.3
action_again (action.Meet c vs) rest h = then_again n8 _ c _ h.0 ∙ then_again n64 _ (length vs) _ h.1
    ∙ then_again (scalars (length vs)) _ vs rest (refl, h.2)
action_again (action.Print bs) rest h = then_again hex _ bs rest h
action_again (action.Exit v) rest h = then_again z32 _ v rest h

action_plain : (a : Action) → FitsAction a → EachPasses in_word (action_words a)
action_plain (action.Read l s) h = (refl, (field_strict.plain s tt, loc.plain l h))
action_plain (action.Write s l v) h = (refl, (field_strict.plain s tt, (field_loc.plain l h.0, scalar.plain v h.1)))
action_plain action.Fence h = (refl, tt)
action_plain action.Beat h = (refl, tt)
action_plain (action.Wait m) h = (refl, mark.plain m h)
action_plain (action.Attempt n) h = (refl, n32.plain n h)
action_plain (action.Unlock n) h = (refl, n32.plain n h)
action_plain action.LockMake h = (refl, tt)
action_plain (action.LockFree n) h = (refl, n32.plain n h)
action_plain (action.Free p) h = (refl, pointer.plain p h)
action_plain (action.Notify m) h = (refl, mark.plain m h)
action_plain (action.Lock n) h = (refl, n32.plain n h)
action_plain (action.Alloc n b o s) h =
    (refl, ((n64.plain n h.0).0, ((n64.plain b h.1).0, (field_home.plain o h.2, n32.plain s h.3))))
action_plain (action.Meet c vs) h =
    (refl, ((n8.plain c h.0).0, ((n64.plain (length vs) h.1).0, (scalars (length vs)).plain vs (refl, h.2))))
action_plain (action.Print bs) h = (refl, hex.plain bs h)
action_plain (action.Exit v) h = (refl, z32.plain v h)

pub rule_action : IsRule in_word action_of action_words FitsAction
rule_action = record { takes = action_takes; again = action_again; plain = action_plain }
