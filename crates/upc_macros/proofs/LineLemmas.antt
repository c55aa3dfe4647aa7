-- Lines, and what they become.
use Rattle.std.proofs.Common.{◌≡◌, ℕ, ◌+◌, ◌-◌, ◌<◌, ◌≤◌, zero, suc, Bool, true, false, cond, eqb, List, [], ◌∷◌, ◌++◌, length, map, get_or, take, drop, set, append-nil, append_assoc, length-take, length-drop, Option, Some, None, Result, Ok, Err, OnOk, IfErr, refl, sym, ap, ◌∙◌, subst, inl, inr, arith}
use Rattle.std.specs.Prelude.{replicate}
use Rattle.std.specs.List.{slice_get, prefix_len}
use Rattle.std.specs.Option.{option_map}
use Rattle.std.proofs.Math.Seq.{drop-cons}
use Rattle.std.proofs.lemmas.Bool.Decides.{eqb_tells}
use Rattle.std.proofs.lemmas.Bool.{eqb-true, eq-eqb}
use Rattle.std.proofs.lemmas.List.{drop_all, drop-drop, get_or-take, get_or-drop, get_or_default}
use Rattle.upc_text.specs.declared.faults.Stop.{Stop}
use Rattle.upc_text.specs.declared.faults.Stop.TheVariants.{Refused, Memory}
use Rattle.upc_lexer.specs.declared.token.Token.{Token}
use Rattle.upc_lexer.specs.declared.token.TokenKind.TheVariants.{Pragma}
use Rattle.upc_macros.specs.declared.table.Body.{Body}
use Rattle.upc_macros.specs.Spelling.{last_end}
use Rattle.upc_macros.specs.Replacing.{Macros}
use Rattle.upc_macros.specs.Directives.{pragma, define, undefine, effect_of, directive_effect}
use Rattle.upc_macros.specs.declared.continuation.Reading.TheVariants.{Blank}
use Rattle.upc_macros.specs.Continuation.{goes_on}
use Rattle.upc_macros.specs.Expansion.{given, is_hash, onto, lines_of, text_items, effect_items, macros_after, items, expansion, first_refusal, IsExpansion, StopsExpansion}
use Rattle.upc_macros.specs.code.Table.{seen, body_tokens, AreBodies, Takes, StopsIn}
use Rattle.upc_macros.specs.declared.directives.Effect.{Effect as Change}
use Rattle.upc_macros.specs.code.Effects.{effect_seen}
use Rattle.upc_macros.specs.code.Lines.{behind_hash, hash_effect, line_effect, hash_items, line_items, LineDone, LineStops, IsExpandedTo}
use Rattle.upc_macros.proofs.Tables.{map-set}
use Rattle.upc_macros.proofs.Refusals.{takes_append, stops_later, stops_before}
use Rattle.upc_macros.proofs.DirectiveLemmas.{part_first, last_is}

-- ---- the lines of some tokens

differ : (a b n : ℕ) → eqb b n ≡ false → n ≡ a → eqb a b ≡ false
differ a b n h e = elim (eqb_tells a b) [
  | inl t ↦ absurd (true_false (sym (eq-eqb b n (sym (e ∙ t.1))) ∙ h))
  | inr t ↦ t.0
]
  where
    true_false : true ≡ false → ⊥
    true_false f = cc

front_by : (t u : Token) (us : List Token) (n : ℕ) (b : Bool) → eqb u.place.line n ≡ b → n ≡ t.place.line → ((m : ℕ) → m ≡ u.place.line → lines_of (u ∷ us) ≡ (u ∷ take (prefix_len (λ (x : Token). eqb x.place.line m) us) us) ∷ lines_of (drop (prefix_len (λ (x : Token). eqb x.place.line m) us) us)) → lines_of (t ∷ u ∷ us) ≡ (t ∷ take (cond b (1 + prefix_len (λ (x : Token). eqb x.place.line n) us) 0) (u ∷ us)) ∷ lines_of (drop (cond b (1 + prefix_len (λ (x : Token). eqb x.place.line n) us) 0) (u ∷ us))
front_by t u us n true h e rest =
    let line : u.place.line ≡ n = eqb-true u.place.line n h in
    let k : 1 + prefix_len (λ (x : Token). eqb x.place.line n) us ≡ suc (prefix_len (λ (x : Token). eqb x.place.line n) us) = omega arith in
    let same : eqb t.place.line u.place.line ≡ true = eq-eqb t.place.line u.place.line (sym e ∙ sym line) in
    rw k (ap (onto t) (rest n (sym line)) ∙ rw same refl)
front_by t u us n false h e rest =
    let other : eqb t.place.line u.place.line ≡ false = differ t.place.line u.place.line n h e in
    ap (onto t) (rest u.place.line refl) ∙ rw other (ap (λ l. (t ∷ []) ∷ l) (sym (rest u.place.line refl)))

-- a token's line is the front of those that follow it
pub lines_front : (t : Token) (ts : List Token) (n : ℕ) → n ≡ t.place.line → lines_of (t ∷ ts) ≡ (t ∷ take (prefix_len (λ (x : Token). eqb x.place.line n) ts) ts) ∷ lines_of (drop (prefix_len (λ (x : Token). eqb x.place.line n) ts) ts)
lines_front t [] n e = refl
lines_front t (u ∷ us) n e = front_by t u us n (eqb u.place.line n) refl e (lines_front u us)

pub line_is : (rest : List Token) (first : Token) (n : ℕ) → 0 < length rest → first ≡ get_or rest 0 first → n ≡ prefix_len (λ (x : Token). eqb x.place.line first.place.line) rest → lines_of rest ≡ take n rest ∷ lines_of (drop n rest)
line_is [] first n lt e h = absurd (omega arith)
line_is (t ∷ ts) first n lt e h =
    let line : first.place.line ≡ t.place.line = ap (λ (x : Token). x.place.line) e in
    let here : eqb t.place.line first.place.line ≡ true = eq-eqb t.place.line first.place.line (sym line) in
    let k : n ≡ suc (prefix_len (λ (x : Token). eqb x.place.line first.place.line) ts) = h ∙ rw here (omega arith) in
    rw k (lines_front t ts first.place.line line)

-- ---- one line of several

pub items_text : (source : List ℕ) (macros : Macros) (line : List Token) (t : Token) (ts : List Token) (lines : List (List Token)) → line ≡ t ∷ ts → is_hash t.kind ≡ false → items source macros (line ∷ lines) ≡ text_items source macros line ++ items source macros lines
items_text source macros line t ts lines e h = rw (e, h) refl

pub items_hash : (source : List ℕ) (macros : Macros) (line : List Token) (t : Token) (ts : List Token) (lines : List (List Token)) → line ≡ t ∷ ts → is_hash t.kind ≡ true → items source macros (line ∷ lines) ≡ effect_items t ts (directive_effect source macros t ts) ++ items source (macros_after macros (directive_effect source macros t ts)) lines
items_hash source macros line t ts lines e h = rw (e, h) refl

-- the effect of a directive, by its `#`
effect_line : (source : List ℕ) (tokens : List Token) (table : List (Option Body)) (begin end : ℕ) (hash : Token) → begin < length tokens → hash ≡ get_or tokens begin hash → line_effect source tokens table begin end ≡ directive_effect source (seen tokens table) hash (behind_hash tokens begin end)
effect_line source tokens table begin end hash lt e =
    ap (hash_effect source tokens table (behind_hash tokens begin end)) (drop-cons tokens begin hash lt ∙ ap (λ t. t ∷ drop (suc begin) tokens) (sym e))

-- the items of a directive, by its `#`
pub hash_line : (source : List ℕ) (tokens : List Token) (table : List (Option Body)) (begin end : ℕ) (hash : Token) → begin < length tokens → hash ≡ get_or tokens begin hash → line_items source tokens table begin end ≡ effect_items hash (behind_hash tokens begin end) (line_effect source tokens table begin end)
hash_line source tokens table begin end hash lt e =
    ap (hash_items source tokens table begin end) (drop-cons tokens begin hash lt ∙ ap (λ t. t ∷ drop (suc begin) tokens) (sym e))

items_line : (source : List ℕ) (tokens line : List Token) (table : List (Option Body)) (begin end : ℕ) (t : Token) (lines : List (List Token)) → line ≡ t ∷ behind_hash tokens begin end → is_hash t.kind ≡ true → begin < length tokens → t ≡ get_or tokens begin t → items source (seen tokens table) (line ∷ lines) ≡ line_items source tokens table begin end ++ items source (macros_after (seen tokens table) (line_effect source tokens table begin end)) lines
items_line source tokens line table begin end t lines e h lt f =
    let effect = effect_line source tokens table begin end t lt f in
    items_hash source (seen tokens table) line t (behind_hash tokens begin end) lines e h
    ∙ ap (λ x. effect_items t (behind_hash tokens begin end) x ++ items source (macros_after (seen tokens table) x) lines) (sym effect)
    ∙ ap (λ x. x ++ items source (macros_after (seen tokens table) (line_effect source tokens table begin end)) lines) (sym (hash_line source tokens table begin end t lt f))

-- the end of the last token of a line
pub line_end : (tokens : List Token) (begin end : ℕ) (hash last : Token) → begin < end → end ≤ length tokens → hash ≡ get_or tokens begin hash → last ≡ get_or tokens (end - 1) last → last_end hash (behind_hash tokens begin end) ≡ last.end
line_end tokens begin end hash last lt le e f =
    let ts = behind_hash tokens begin end in
    let size : length ts ≡ end - (begin + 1) = omega (arith, length-take (end - (begin + 1)) (drop (begin + 1) tokens), length-drop (begin + 1) tokens) in
    let line = part_first tokens begin end hash lt le e in
    let small : length ts < end - begin = omega (arith, size) in
    let at : begin + length ts ≡ end - 1 = omega (arith, size) in
    last_is hash ts last (f ∙ ap (λ n. get_or tokens n last) (sym at) ∙ sym (get_or-drop begin tokens (length ts) last) ∙ sym (get_or-take (end - begin) (drop begin tokens) (length ts) last small) ∙ ap (λ l. get_or l (length ts) last) line)

-- ---- one line is done

pub text_done : (source : List ℕ) (tokens line : List Token) (table later : List (Option Body)) (old new : List Token) (t : Token) (ts : List Token) → line ≡ t ∷ ts → is_hash t.kind ≡ false → AreBodies tokens table → later ≡ table → Takes old new (text_items source (seen tokens table) line) → LineDone source tokens line table later old new
text_done source tokens line table later old new t ts e h bodies same taken = record {
  its = text_items source (seen tokens table) line;
  taken = taken;
  items_are = λ lines. items_text source (seen tokens table) line t ts lines e h ∙ ap (λ x. text_items source (seen tokens table) line ++ items source (seen tokens x) lines) (sym same);
  same_length = ap length same;
  bodies = subst (AreBodies tokens) (sym same) bodies;
}

pub hash_done : (source : List ℕ) (tokens line : List Token) (table later : List (Option Body)) (old new : List Token) (begin end : ℕ) (t : Token) → line ≡ t ∷ behind_hash tokens begin end → is_hash t.kind ≡ true → begin < length tokens → t ≡ get_or tokens begin t → length later ≡ length table → AreBodies tokens later → seen tokens later ≡ macros_after (seen tokens table) (line_effect source tokens table begin end) → Takes old new (line_items source tokens table begin end) → LineDone source tokens line table later old new
hash_done source tokens line table later old new begin end t e h lt f same bodies macros taken = record {
  its = line_items source tokens table begin end;
  taken = taken;
  items_are = λ lines. items_line source tokens line table begin end t lines e h lt f ∙ ap (λ m. line_items source tokens table begin end ++ items source m lines) (sym macros);
  same_length = same;
  bodies = bodies;
}

pub text_stopped : (source : List ℕ) (tokens line : List Token) (table : List (Option Body)) (old : List Token) (stop : Stop) (t : Token) (ts : List Token) → line ≡ t ∷ ts → is_hash t.kind ≡ false → StopsIn (length old) (text_items source (seen tokens table) line) stop → LineStops source tokens line table old stop
text_stopped source tokens line table old stop t ts e h s lines =
    subst (λ l. StopsIn (length old) l stop) (sym (items_text source (seen tokens table) line t ts lines e h)) (stops_before (length old) _ _ stop s)

pub hash_stopped : (source : List ℕ) (tokens line : List Token) (table : List (Option Body)) (old : List Token) (stop : Stop) (begin end : ℕ) (t : Token) → line ≡ t ∷ behind_hash tokens begin end → is_hash t.kind ≡ true → begin < length tokens → t ≡ get_or tokens begin t → StopsIn (length old) (line_items source tokens table begin end) stop → LineStops source tokens line table old stop
hash_stopped source tokens line table old stop begin end t e h lt f s lines =
    subst (λ l. StopsIn (length old) l stop) (sym (items_line source tokens line table begin end t lines e h lt f)) (stops_before (length old) _ _ stop s)

pub text_done_if : {T E : Type 0} (r : Result T E) (source : List ℕ) (tokens line : List Token) (table later : List (Option Body)) (old new : List Token) (t : Token) (ts : List Token) → line ≡ t ∷ ts → is_hash t.kind ≡ false → AreBodies tokens table → OnOk r (later ≡ table) → OnOk r (Takes old new (text_items source (seen tokens table) line)) → OnOk r (LineDone source tokens line table later old new)
text_done_if (Ok x) source tokens line table later old new t ts e h bodies a b = text_done source tokens line table later old new t ts e h bodies a b
text_done_if (Err y) source tokens line table later old new t ts e h bodies a b = tt

pub hash_done_if : {T E : Type 0} (r : Result T E) (source : List ℕ) (tokens line : List Token) (table later : List (Option Body)) (old new : List Token) (begin end : ℕ) (t : Token) → line ≡ t ∷ behind_hash tokens begin end → is_hash t.kind ≡ true → begin < length tokens → t ≡ get_or tokens begin t → OnOk r (length later ≡ length table) → OnOk r (AreBodies tokens later) → OnOk r (seen tokens later ≡ macros_after (seen tokens table) (line_effect source tokens table begin end)) → OnOk r (Takes old new (line_items source tokens table begin end)) → OnOk r (LineDone source tokens line table later old new)
hash_done_if (Ok x) source tokens line table later old new begin end t e h lt f a b c d = hash_done source tokens line table later old new begin end t e h lt f a b c d
hash_done_if (Err y) source tokens line table later old new begin end t e h lt f a b c d = tt

pub text_stopped_if : {T : Type 0} (r : Result T Stop) (source : List ℕ) (tokens line : List Token) (table : List (Option Body)) (old : List Token) (t : Token) (ts : List Token) → line ≡ t ∷ ts → is_hash t.kind ≡ false → IfErr r (StopsIn (length old) (text_items source (seen tokens table) line)) → IfErr r (LineStops source tokens line table old)
text_stopped_if (Ok x) source tokens line table old t ts e h s = tt
text_stopped_if (Err y) source tokens line table old t ts e h s = text_stopped source tokens line table old y t ts e h s

pub hash_stopped_if : {T : Type 0} (r : Result T Stop) (source : List ℕ) (tokens line : List Token) (table : List (Option Body)) (old : List Token) (begin end : ℕ) (t : Token) → line ≡ t ∷ behind_hash tokens begin end → is_hash t.kind ≡ true → begin < length tokens → t ≡ get_or tokens begin t → IfErr r (StopsIn (length old) (line_items source tokens table begin end)) → IfErr r (LineStops source tokens line table old)
hash_stopped_if (Ok x) source tokens line table old begin end t e h lt f s = tt
hash_stopped_if (Err y) source tokens line table old begin end t e h lt f s = hash_stopped source tokens line table old y begin end t e h lt f s

-- ---- all lines

pub start : (source : List ℕ) (tokens : List Token) (names : ℕ) (table : List (Option Body)) → table ≡ replicate names None → IsExpandedTo source tokens names 0 table []
start source tokens names table e = record {
  its = [];
  taken = record { tokens = []; new_is = refl; items_are = refl; passes = refl };
  whole = ap (λ m. items source m (lines_of tokens)) (sym (ap (seen tokens) e ∙ none_seen names));
  within = omega arith;
  same_length = ap length e ∙ none_length names;
  bodies = λ n b h. absurd (none_in names n b (ap (λ t. slice_get t n) (sym e) ∙ h));
}
  where
    none_seen : (n : ℕ) → seen tokens (replicate n None) ≡ replicate n None
    none_seen zero = refl
    none_seen (suc n) = ap (λ l. None ∷ l) (none_seen n)

    none_length : (n : ℕ) → length (replicate {A = Option Body} n None) ≡ n
    none_length zero = refl
    none_length (suc n) = ap (λ n. suc n) (none_length n)

    none_in : (k n : ℕ) (b : Body) → slice_get (replicate {A = Option Body} k None) n ≡ Some (Some b) → ⊥
    none_in zero n b h = cc
    none_in (suc k) zero b h = cc
    none_in (suc k) (suc n) b h = none_in k n b h

pub line_more : (source : List ℕ) (tokens : List Token) (names at n : ℕ) (table later : List (Option Body)) (old new : List Token) → IsExpandedTo source tokens names at table old → n ≤ length (drop at tokens) → lines_of (drop at tokens) ≡ take n (drop at tokens) ∷ lines_of (drop n (drop at tokens)) → LineDone source tokens (take n (drop at tokens)) table later old new → IsExpandedTo source tokens names (at + n) later new
line_more source tokens names at n table later old new h le lines d = record {
  its = h.its ++ d.its;
  taken = takes_append [] old new h.its d.its h.taken d.taken;
  whole = h.whole ∙ ap (λ l. h.its ++ items source (seen tokens table) l) lines ∙ ap (λ l. h.its ++ l) (d.items_are (lines_of (drop n (drop at tokens)))) ∙ sym (append_assoc h.its d.its _) ∙ ap (λ l. (h.its ++ d.its) ++ items source (seen tokens later) (lines_of l)) (drop-drop n at tokens);
  within = omega (arith, h.within, le, length-drop at tokens);
  same_length = d.same_length ∙ h.same_length;
  bodies = d.bodies;
}

pub line_refused : (source : List ℕ) (tokens : List Token) (names at n : ℕ) (table : List (Option Body)) (old : List Token) (stop : Stop) → IsExpandedTo source tokens names at table old → lines_of (drop at tokens) ≡ take n (drop at tokens) ∷ lines_of (drop n (drop at tokens)) → LineStops source tokens (take n (drop at tokens)) table old stop → StopsExpansion source tokens names stop
line_refused source tokens names at n table old Memory h lines s = tt
line_refused source tokens names at n table old (Refused r) h lines s =
    let whole : expansion source tokens names ≡ h.its ++ items source (seen tokens table) (take n (drop at tokens) ∷ lines_of (drop n (drop at tokens))) = h.whole ∙ ap (λ l. h.its ++ items source (seen tokens table) l) lines in
    ap (first_refusal 0) whole ∙ stops_later [] old h.its _ (Refused r) h.taken (s (lines_of (drop n (drop at tokens))))

pub finish : (source : List ℕ) (tokens : List Token) (names at : ℕ) (table : List (Option Body)) (out : List Token) → IsExpandedTo source tokens names at table out → length tokens ≤ at → IsExpansion source tokens names out
finish source tokens names at table out h le =
    let whole : expansion source tokens names ≡ h.its = h.whole ∙ ap (λ l. h.its ++ items source (seen tokens table) (lines_of l)) (drop_all at tokens le) ∙ append-nil h.its in
    record {
      items_are = whole ∙ h.taken.items_are ∙ ap (map given) (sym h.taken.new_is);
      passes = ap (first_refusal 0) whole ∙ h.taken.passes;
    }

-- the effect that the code found is the line's
pub effect_is : (source : List ℕ) (tokens : List Token) (table shown : List (Option Body)) (begin end : ℕ) (e f : Change) → shown ≡ table → e ≡ f → Some (effect_seen tokens e) ≡ line_effect source tokens shown begin end → line_effect source tokens table begin end ≡ Some (effect_seen tokens f)
effect_is source tokens table shown begin end e f s h g = ap (λ t. line_effect source tokens t begin end) (sym s) ∙ sym g ∙ ap (λ x. Some (effect_seen tokens x)) h

pub pragma_items : (source : List ℕ) (tokens : List Token) (table : List (Option Body)) (begin end : ℕ) (hash last : Token) (strict : Bool) → begin < end → end ≤ length tokens → hash ≡ get_or tokens begin hash → last ≡ get_or tokens (end - 1) last → line_effect source tokens table begin end ≡ Some (pragma strict) → given (record { kind = Pragma strict; start = hash.start; end = (get_or tokens (end - 1) last).end; place = hash.place }) ∷ [] ≡ line_items source tokens table begin end
pragma_items source tokens table begin end hash last strict lt le e f g =
    ap (λ n. given (record { kind = Pragma strict; start = hash.start; end = n; place = hash.place }) ∷ []) (ap (λ (t : Token). t.end) (sym f) ∙ sym (line_end tokens begin end hash last lt le e f))
    ∙ ap (effect_items hash (behind_hash tokens begin end)) (sym g)
    ∙ sym (hash_line source tokens table begin end hash (omega arith) e)

pub define_macros : (source : List ℕ) (tokens : List Token) (table : List (Option Body)) (begin end n : ℕ) (b : Body) → line_effect source tokens table begin end ≡ Some (define n (body_tokens tokens b)) → seen tokens (set table n (Some b)) ≡ macros_after (seen tokens table) (line_effect source tokens table begin end)
define_macros source tokens table begin end n b g = map-set (option_map (body_tokens tokens)) table n (Some b) ∙ ap (macros_after (seen tokens table)) (sym g)

pub undefine_macros : (source : List ℕ) (tokens : List Token) (table : List (Option Body)) (begin end n : ℕ) → line_effect source tokens table begin end ≡ Some (undefine n) → seen tokens (set table n None) ≡ macros_after (seen tokens table) (line_effect source tokens table begin end)
undefine_macros source tokens table begin end n g = map-set (option_map (body_tokens tokens)) table n None ∙ ap (macros_after (seen tokens table)) (sym g)

-- a directive that goes on after its line, and one that does not
pub effect_by : (source : List ℕ) (tokens : List Token) (table : List (Option Body)) (begin end : ℕ) (last : Token) (b : Bool) → begin < end → end ≤ length tokens → last ≡ get_or tokens (end - 1) last → b ≡ goes_on Blank (drop last.end source) → line_effect source tokens table begin end ≡ cond b None (effect_of source (seen tokens table) (behind_hash tokens begin end))
effect_by source tokens table begin end last b lt le f g =
    let hash : Token = get_or tokens begin last in
    let small : begin < length tokens = omega (arith, lt, le) in
    let first : hash ≡ get_or tokens begin hash = get_or_default tokens begin last hash small in
    let found : b ≡ goes_on Blank (drop (last_end hash (behind_hash tokens begin end)) source) = g ∙ ap (λ n. goes_on Blank (drop n source)) (sym (line_end tokens begin end hash last lt le first f)) in
    effect_line source tokens table begin end hash small first ∙ ap (λ x. cond x None (effect_of source (seen tokens table) (behind_hash tokens begin end))) (sym found)
