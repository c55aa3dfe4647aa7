-- Replies and items, each with its laws.
use Rattle.std.proofs.Common.{◌≡◌, ◌∙◌, ◌<◌, Bool, true, false, cond, List, [], ◌∷◌, ◌++◌, length, Some, refl, sym}
use Rattle.std.proofs.Common.{ap, codes, append_assoc}
use Rattle.run_recorder_text.proofs.SomeWords.{item_some}
use Rattle.upc_values.specs.declared.action.Action.{Action}
use Rattle.upc_values.specs.declared.action.Action.TheVariants as action
use Rattle.upc_values.specs.declared.action.Reply.{Reply}
use Rattle.upc_values.specs.declared.action.Reply.TheVariants as reply
use Rattle.upc_values.specs.declared.record.Item.{Item}
use Rattle.upc_values.specs.declared.record.Item.TheVariants as item
use Rattle.run_recorder_text.specs.Words.{Text, with_blanks, flag_text, action_words, reply_words, item_words}
use Rattle.run_recorder_text.specs.Lines.{item_line}
use Rattle.run_recorder.specs.Ranges.{FitsReply, FitsItem}
use Rattle.run_recorder_parts.specs.layer.Readers.{Reader, give, field, expect, whole, begins}
use Rattle.run_recorder_parts.specs.layer.Values.{flag_of, value_of, flag_reply_of, refused_of, reply_table, reply_of}
use Rattle.run_recorder_parts.specs.layer.Values.{did_of, stall_of, heads, item_words_of, item_of}
use Rattle.run_recorder_parts.proofs.Bytes.{in_line, in_word, Passes, EachPasses, EachPasses-append, word_line}
use Rattle.run_recorder_parts.proofs.Bytes.{word_no_blank}
use Rattle.run_recorder.proofs.Forms.{some, IsField, IsRule, rule_field, then_takes, give_takes, then_again, Handles}
use Rattle.run_recorder.proofs.Forms.{tagged_takes, field_whole, rule_expect}
use Rattle.run_recorder.proofs.WordLaws.{if_takes, if_not, constant_case, Always}
use Rattle.run_recorder.proofs.ActionLaws.{◌&◌, n8, scalar, rule_action}

abbrev flag_case : Bool → Text → Type 0
flag_case b t = (t ≡ flag_text b) × Unit {0}

flag_takes : (t : Text) (b : Bool) → flag_of t ≡ Some b → (t ≡ flag_text b) × Always b
flag_takes t b e =
    if_takes (begins 48 t) _ _ b e (constant_case (codes "0") false flag_case (refl, tt) t b)
    (constant_case (codes "1") true flag_case (refl, tt) t b)

flag_again : (b : Bool) → Always b → flag_of (flag_text b) ≡ Some b
flag_again false h = refl
flag_again true h = refl

flag_plain : (b : Bool) → Always b → Passes in_word (flag_text b)
flag_plain false h = refl
flag_plain true h = refl

flag : IsRule in_word (field flag_of) (λ b. flag_text b ∷ []) Always
flag = rule_field in_word flag_of flag_text Always
    (record { takes = flag_takes; again = flag_again; plain = flag_plain })

abbrev IsReply : List Text → Reply → List Text → List Text → Type 0
IsReply before r ws rest = (before ++ ws ≡ reply_words r ++ rest) × FitsReply r

-- What the reader reads after this name is written so.
abbrev Handled : Text → Reader Reply → Type 0
Handled name reader =
    (ws : List Text) (r : Reply) (rest : List Text) → reader ws ≡ Some (r, rest) → IsReply (name ∷ []) r ws rest

done : Handled (codes "done") (give reply.Done)
done = give_takes _ (IsReply (codes "done" ∷ [])) (λ rest. (refl, tt))

values : Handled (codes "value") value_of
values = then_takes scalar _ (IsReply (codes "value" ∷ [])) (λ v hv. give_takes _ _ (λ rest. (refl, hv)))

flags : Handled (codes "flag") flag_reply_of
flags = then_takes flag _ (IsReply (codes "flag" ∷ [])) (λ b hb. give_takes _ _ (λ rest. (refl, tt)))

refusals : Handled (codes "refused") refused_of
refusals = then_takes n8 _ (IsReply (codes "refused" ∷ [])) (λ c hc. give_takes _ _ (λ rest. (refl, hc)))

handles : Handles (IsReply []) reply_table
handles = done & values & flags & refusals & tt

reply_again : (r : Reply) (rest : List Text) → FitsReply r → reply_of (reply_words r ++ rest) ≡ Some (r, rest)
reply_again reply.Done rest h = refl
reply_again (reply.Value v) rest h = then_again scalar _ v rest h
reply_again (reply.Flag b) rest h = then_again flag _ b rest tt
reply_again (reply.Refused c) rest h = then_again n8 _ c rest h

reply_plain : (r : Reply) → FitsReply r → EachPasses in_word (reply_words r)
reply_plain reply.Done h = (refl, tt)
reply_plain (reply.Value v) h = (refl, scalar.plain v h)
reply_plain (reply.Flag b) h = (refl, flag.plain b tt)
reply_plain (reply.Refused c) h = (refl, n8.plain c h)

rule_reply : IsRule in_word reply_of reply_words FitsReply
rule_reply =
    record { takes = tagged_takes (IsReply []) reply_table handles; again = reply_again; plain = reply_plain }

-- ---- items

abbrev IsItem : Item → List Text → List Text → Type 0
IsItem i ws rest = (ws ≡ item_words i ++ rest) × FitsItem i

arrow : IsRule in_word (expect (codes "->")) (λ _. codes "->" ∷ []) (λ _. Unit {0})
arrow = rule_expect in_word (codes "->") refl

stall : IsRule in_word (expect (codes "stall")) (λ _. codes "stall" ∷ []) (λ _. Unit {0})
stall = rule_expect in_word (codes "stall") refl

did_takes : (ws : List Text) (i : Item) (rest : List Text) → did_of ws ≡ Some (i, rest) → IsItem i ws rest
did_takes = then_takes rule_action _ IsItem
    (λ a ha. then_takes arrow _ (λ i ws rest. IsItem i (action_words a ++ ws) rest)
    (λ _ _. then_takes rule_reply _ (λ i ws rest. IsItem i (action_words a ++ (codes "->" ∷ ws)) rest)
    (λ r hr. give_takes _ _ (λ rest.
    (sym (append_assoc (action_words a) (codes "->" ∷ reply_words r) rest), (ha, hr))))))

item_choice : (b : Bool) (ws : List Text) (i : Item) (rest : List Text)
    → cond b (stall_of ws) (did_of ws) ≡ Some (i, rest) → IsItem i ws rest
item_choice true ws i rest e =
    then_takes stall _ IsItem
    (λ _ _. give_takes _ (λ i ws rest. IsItem i (codes "stall" ∷ ws) rest) (λ rest. (refl, tt))) ws i rest e
item_choice false ws i rest e = did_takes ws i rest e

not_stall : (a : Action) (ws : List Text) → heads (codes "stall") (action_words a ++ ws) ≡ false
not_stall (action.Read l s) ws = refl
not_stall (action.Write s l v) ws = refl
not_stall action.Fence ws = refl
not_stall action.Beat ws = refl
not_stall (action.Notify m) ws = refl
not_stall (action.Wait m) ws = refl
not_stall (action.Lock n) ws = refl
not_stall (action.Attempt n) ws = refl
not_stall (action.Unlock n) ws = refl
not_stall action.LockMake ws = refl
not_stall (action.LockFree n) ws = refl
not_stall (action.Alloc n b o s) ws = refl
not_stall (action.Free p) ws = refl
not_stall (action.Meet c vs) ws = refl
not_stall (action.Print bs) ws = refl
not_stall (action.Exit v) ws = refl

item_again : (i : Item) (rest : List Text) → FitsItem i → item_words_of (item_words i ++ rest) ≡ Some (i, rest)
item_again item.Stall rest h = refl
item_again (item.Did a r) rest h =
    let behind = codes "->" ∷ (reply_words r ++ rest) in
    ap item_words_of (append_assoc (action_words a) (codes "->" ∷ reply_words r) rest)
    ∙ if_not (heads (codes "stall") (action_words a ++ behind)) _ _ (not_stall a behind)
    ∙ then_again rule_action _ a _ h.0 ∙ then_again rule_reply _ r rest h.1

item_plain : (i : Item) → FitsItem i → EachPasses in_word (item_words i)
item_plain item.Stall h = (refl, tt)
item_plain (item.Did a r) h =
    EachPasses-append in_word (action_words a) (codes "->" ∷ reply_words r) (rule_action.plain a h.0)
    (refl, rule_reply.plain r h.1)

rule_item : IsRule in_word item_words_of item_words FitsItem
rule_item =
    record {
      takes = λ ws i rest e. item_choice (heads (codes "stall") ws) ws i rest e;
      again = item_again;
      plain = item_plain;
    }

-- A line of words.
pub a_line : {A : Type 0} {r : Reader A} {words : A → List Text} {F : A → Type 0} → IsRule in_word r words F
    → ((a : A) → 0 < length (words a)) → IsField in_line (whole 32 r) (λ a. with_blanks (words a)) F
a_line f some = field_whole 32 f some refl refl word_no_blank word_line

pub field_item : IsField in_line item_of item_line FitsItem
field_item = a_line rule_item item_some
