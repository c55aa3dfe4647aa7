-- One step of the walk through macros.
use Rattle.std.proofs.Common.{◌≡◌, ℕ, ◌+◌, ◌-◌, ◌<◌, ◌≤◌, zero, suc, List, [], ◌∷◌, ◌++◌, length, map, get_or, take, drop, set, append-nil, append_assoc, add-one, length-append, Option, Some, None, refl, sym, ap, ◌∙◌, subst, arith}
use Rattle.std.specs.Prelude.{flat_map, reverse}
use Rattle.std.specs.List.{slice_get}
use Rattle.std.proofs.Math.Seq.{drop-cons}
use Rattle.std.proofs.lemmas.List.{map-append, length-map, reverse-append}
use Rattle.std.proofs.Math.ListN.{length-set}
use Rattle.upc_text.specs.declared.place.Place.{Place}
use Rattle.upc_text.specs.declared.faults.Stop.{Stop}
use Rattle.upc_lexer.specs.declared.token.Token.{Token}
use Rattle.upc_lexer.specs.declared.token.TokenKind.{TokenKind}
use Rattle.upc_lexer.specs.declared.token.TokenKind.TheVariants.{Name}
use Rattle.upc_macros.specs.declared.table.Body.{Body}
use Rattle.upc_macros.specs.declared.walk.Frame.{Frame}
use Rattle.upc_macros.specs.Replacing.{Macros, body_of, without, plain, replaced, placed}
use Rattle.upc_macros.specs.Expansion.{Item, given, first_refusal}
use Rattle.upc_macros.specs.code.Table.{seen, IsNumbered, AreBodies, body_tokens, macro_count, Takes, StopsIn}
use Rattle.upc_macros.specs.code.Walk.{placed_items, rest_of, put_back, pending, all_back, IsFrame, AreFrames, IsWalk}
use Rattle.upc_macros.proofs.Tables.{set-back, names_some, seen-taken, taken_count, back_count, back_bodies, taken_bodies}
use Rattle.upc_macros.proofs.Refusals.{first_refusal-append, stops_later, stops_before}

-- ---- how many steps there are

abbrev steps_by : Option (List Token) → (List Token → ℕ) → ℕ
steps_by None f = 1
steps_by (Some body) f = 2 + f body

abbrev total : (Token → ℕ) → List Token → ℕ
total f [] = 0
total f (t ∷ ts) = f t + total f ts

abbrev steps : ℕ → Macros → Token → ℕ
steps zero macros t = 1
steps (suc depth) macros t = steps_by (body_of macros t) (total (steps depth (without macros t.kind)))

abbrev pub work : List Token → ℕ → List (Option Body) → List Frame → ℕ
work tokens depth table [] = 0
work tokens depth table (f ∷ fs) = 1 + total (steps depth (seen tokens table)) (rest_of tokens f) + work tokens (suc depth) (put_back table f) fs

-- ---- the rest of a macro

abbrev pub next_frame : Frame → Frame
next_frame f = record { name = f.name; next = f.next + 1; before = f.before; body = f.body }

rest_step : (tokens : List Token) (f : Frame) (t : Token) → f.next < f.body.end → f.body.end ≤ length tokens → t ≡ get_or tokens f.next t → rest_of tokens f ≡ t ∷ rest_of tokens (next_frame f)
rest_step tokens f t lt le e =
    let k : f.body.end - f.next ≡ suc (f.body.end - (f.next + 1)) = omega arith in
    let here : drop f.next tokens ≡ get_or tokens f.next t ∷ drop (suc f.next) tokens = drop-cons tokens f.next t (omega arith) in
    rw (k, here, add-one) (ap (λ x. x ∷ take (f.body.end - suc f.next) (drop (suc f.next) tokens)) (sym e))

pub rest_end : (tokens : List Token) (f : Frame) → f.body.end ≤ f.next → rest_of tokens f ≡ []
rest_end tokens f le = let k : f.body.end - f.next ≡ 0 = omega arith in rw k refl

-- ---- a token that is no macro

pub replaced_plain : (depth : ℕ) (source : List ℕ) (macros : Macros) (t : Token) → body_of macros t ≡ None → replaced depth source macros t ≡ plain source t ∷ []
replaced_plain zero source macros t e = refl
replaced_plain (suc depth) source macros t e = rw e refl

-- ---- a token that is put out, with all that it gives

pending_next : (source : List ℕ) (tokens : List Token) (depth : ℕ) (table : List (Option Body)) (f : Frame) (fs : List Frame) (t : Token) (ts : List Token) → rest_of tokens f ≡ t ∷ rest_of tokens (next_frame f) → replaced depth source (seen tokens table) t ≡ ts → pending source tokens depth table (f ∷ fs) ≡ ts ++ pending source tokens depth table (next_frame f ∷ fs)
pending_next source tokens depth table f fs t ts r e =
    rw (r, e) (append_assoc ts (flat_map (replaced depth source (seen tokens table)) (rest_of tokens (next_frame f))) (pending source tokens (suc depth) (put_back table f) fs))

given_is : {x y : Token} → given x ≡ given y → x ≡ y
given_is e = cc

one_token : (out new : List Token) (x : Token) (ts : List Token) → new ≡ out ++ ts → given x ∷ [] ≡ map given ts → new ≡ out ++ x ∷ []
one_token out new x [] e f = absurd cc
one_token out new x (y ∷ []) e f = let same : x ≡ y = given_is cc in rw same e
one_token out new x (y ∷ z ∷ ts) e f = absurd cc

pub one_more : (out new : List Token) (x : Token) → Takes out new (given x ∷ []) → length out < length new
one_more out new x k = omega (arith, ap length (one_token out new x k.tokens k.new_is k.items_are), length-append out (x ∷ []))

pub no_fewer : (out new : List Token) (its : List Item) → Takes out new its → length out ≤ length new
no_fewer out new its k = omega (arith, ap length k.new_is, length-append out k.tokens)

given_tokens : (place : Place) (ts us : List Token) → placed_items place ts ≡ map given us → us ≡ map (placed place) ts
given_tokens place [] [] e = refl
given_tokens place [] (u ∷ us) e = absurd cc
given_tokens place (t ∷ ts) [] e = absurd cc
given_tokens place (t ∷ ts) (u ∷ us) e =
    let head : placed place t ≡ u = given_is cc in
    let tail : placed_items place ts ≡ map given us = cc in
    ap (λ x. x ∷ us) (sym head) ∙ ap (λ l. placed place t ∷ l) (given_tokens place ts us tail)

pub step_next : (source : List ℕ) (tokens : List Token) (place : Place) (first whole : List Token) (old table : List (Option Body)) (f : Frame) (fs : List Frame) (out new : List Token) (t : Token) (ts : List Token) → IsWalk source tokens place first whole old table (f ∷ fs) out → f.next < f.body.end → t ≡ get_or tokens f.next t → replaced (length table - suc (length fs)) source (seen tokens table) t ≡ ts → Takes out new (placed_items place ts) → IsWalk source tokens place first whole old table (next_frame f ∷ fs) new
step_next source tokens place first whole old table f fs out new t ts w lt e same k =
    let r = rest_step tokens f t lt w.frames_are.0.body.within e in
    let more : new ≡ out ++ map (placed place) ts = k.new_is ∙ ap (λ l. out ++ l) (given_tokens place ts k.tokens k.items_are) in
    let n : length out ≡ length first + length (placed_items place w.done) = ap length w.out_is ∙ length-append first (map (placed place) w.done) ∙ ap (λ k. length first + k) (length-map w.done (placed place) ∙ sym (length-map w.done (λ t. given (placed place t)))) in
    record {
      done = w.done ++ ts;
      whole_is = w.whole_is ∙ ap (λ l. w.done ++ l) (pending_next source tokens (length table - suc (length fs)) table f fs t ts r same) ∙ sym (append_assoc w.done ts _);
      out_is = more ∙ ap (λ l. l ++ map (placed place) ts) w.out_is ∙ append_assoc first (map (placed place) w.done) (map (placed place) ts) ∙ ap (λ l. first ++ l) (sym (map-append (placed place) w.done ts));
      passes = ap (first_refusal (length first)) (map-append (λ t. given (placed place t)) w.done ts) ∙ first_refusal-append (length first) (placed_items place w.done) (placed_items place ts) ∙ rw w.passes (ap (λ k. first_refusal k (placed_items place ts)) (sym n) ∙ k.passes);
      old_is = w.old_is;
      frames_are = (record { numbered = w.frames_are.0.numbered; forward = omega arith; body = w.frames_are.0.body }, w.frames_are.1);
      bodies_are = w.bodies_are;
      few = w.few;
    }

steps_some : (depth : ℕ) (macros : Macros) (t : Token) → 1 ≤ steps depth macros t
steps_some zero macros t = omega arith
steps_some (suc depth) macros t = by_body (body_of macros t) (total (steps depth (without macros t.kind)))
  where
    by_body : (body : Option (List Token)) (f : List Token → ℕ) → 1 ≤ steps_by body f
    by_body None f = omega arith
    by_body (Some body) f = omega arith

pub work_next : (tokens : List Token) (depth : ℕ) (table : List (Option Body)) (f : Frame) (fs : List Frame) (t : Token) → f.next < f.body.end → f.body.end ≤ length tokens → t ≡ get_or tokens f.next t → work tokens depth table (next_frame f ∷ fs) < work tokens depth table (f ∷ fs)
work_next tokens depth table f fs t lt le e =
    rw (rest_step tokens f t lt le e) (omega (arith, steps_some depth (seen tokens table) t))

-- ---- a token that is one

abbrev pub entered : ℕ → ℕ → Body → Frame
entered n before b = record { name = n; next = b.begin; before = before; body = b }

pub replaced_macro : (depth : ℕ) (source : List ℕ) (macros : Macros) (t : Token) (n : ℕ) (body : List Token) → t.kind ≡ Name n → body_of macros t ≡ Some body → replaced (suc depth) source macros t ≡ flat_map (replaced depth source (without macros (Name n))) body
replaced_macro depth source macros t n body k e = rw (e, k) refl

steps_macro : (depth : ℕ) (macros : Macros) (t : Token) (n : ℕ) (body : List Token) → t.kind ≡ Name n → body_of macros t ≡ Some body → steps (suc depth) macros t ≡ 2 + total (steps depth (without macros (Name n))) body
steps_macro depth macros t n body k e = rw (e, k) refl

pending_macro : (source : List ℕ) (tokens : List Token) (depth before : ℕ) (table : List (Option Body)) (f : Frame) (fs : List Frame) (t : Token) (n : ℕ) (b : Body) → rest_of tokens f ≡ t ∷ rest_of tokens (next_frame f) → t.kind ≡ Name n → slice_get table n ≡ Some (Some b) → pending source tokens (suc depth) table (f ∷ fs) ≡ pending source tokens depth (set table n None) (entered n before b ∷ next_frame f ∷ fs)
pending_macro source tokens depth before table f fs t n b r k e =
    let inner : replaced (suc depth) source (seen tokens table) t ≡ flat_map (replaced depth source (seen tokens (set table n None))) (body_tokens tokens b) =
    replaced_macro depth source (seen tokens table) t n (body_tokens tokens b) k (names_some tokens table t n b k e)
    ∙ ap (λ m. flat_map (replaced depth source m) (body_tokens tokens b)) (sym (seen-taken tokens table n)) in
    rw (set-back table n (Some b) None e, r, inner) (append_assoc (flat_map (replaced depth source (seen tokens (set table n None))) (body_tokens tokens b)) (flat_map (replaced (suc depth) source (seen tokens table)) (rest_of tokens (next_frame f))) (pending source tokens (suc (suc depth)) (put_back table f) fs))

work_macro : (tokens : List Token) (depth before : ℕ) (table : List (Option Body)) (f : Frame) (fs : List Frame) (t : Token) (n : ℕ) (b : Body) → rest_of tokens f ≡ t ∷ rest_of tokens (next_frame f) → t.kind ≡ Name n → slice_get table n ≡ Some (Some b) → work tokens depth (set table n None) (entered n before b ∷ next_frame f ∷ fs) < work tokens (suc depth) table (f ∷ fs)
work_macro tokens depth before table f fs t n b r k e =
    let inner : steps (suc depth) (seen tokens table) t ≡ 2 + total (steps depth (seen tokens (set table n None))) (body_tokens tokens b) =
    steps_macro depth (seen tokens table) t n (body_tokens tokens b) k (names_some tokens table t n b k e)
    ∙ ap (λ m. 2 + total (steps depth m) (body_tokens tokens b)) (sym (seen-taken tokens table n)) in
    rw (set-back table n (Some b) None e, r, inner) (omega arith)

-- there is a macro less, so one may lie deeper
pub deeper : (table : List (Option Body)) (count n : ℕ) (b : Body) → slice_get table n ≡ Some (Some b) → macro_count table + suc count ≤ length table → length table - suc count ≡ suc (length (set table n None) - suc (suc count))
deeper table count n b e few = omega (arith, taken_count table n b e, length-set table n None)

back_frames : (tokens : List Token) (names m : ℕ) (fs : List Frame) → names ≡ m → AreFrames tokens names fs → AreFrames tokens m fs
back_frames tokens names m fs e h = subst (λ k. AreFrames tokens k fs) e h

pub step_enter : (source : List ℕ) (tokens : List Token) (place : Place) (before : ℕ) (first whole : List Token) (old table : List (Option Body)) (f : Frame) (fs : List Frame) (out : List Token) (t : Token) (n : ℕ) (b : Body) → IsWalk source tokens place first whole old table (f ∷ fs) out → f.next < f.body.end → t ≡ get_or tokens f.next t → t.kind ≡ Name n → n < length table → slice_get table n ≡ Some (Some b) → IsWalk source tokens place first whole old (set table n None) (entered n before b ∷ next_frame f ∷ fs) out
step_enter source tokens place before first whole old table f fs out t n b w lt e k within m =
    let r = rest_step tokens f t lt w.frames_are.0.body.within e in
    let d = deeper table (length fs) n b m w.few in
    let body = w.bodies_are n b m in
    let names : length table ≡ length (set table n None) = sym (length-set table n None) in
    let f' : IsFrame tokens (length table) (next_frame f) = record { numbered = w.frames_are.0.numbered; forward = omega arith; body = w.frames_are.0.body } in
    let g : IsFrame tokens (length table) (entered n before b) = record { numbered = within; forward = body.forward; body = body } in
    let back : set (set table n None) n (Some b) ≡ table = set-back table n (Some b) None m in
    record {
      done = w.done;
      whole_is = w.whole_is ∙ ap (λ l. w.done ++ l) (ap (λ d. pending source tokens d table (f ∷ fs)) d ∙ pending_macro source tokens (length (set table n None) - suc (suc (length fs))) before table f fs t n b r k m);
      out_is = w.out_is;
      passes = w.passes;
      old_is = ap (λ x. all_back x (next_frame f ∷ fs)) back ∙ w.old_is;
      frames_are = back_frames tokens (length table) (length (set table n None)) (entered n before b ∷ next_frame f ∷ fs) names (g, (f', w.frames_are.1));
      bodies_are = taken_bodies tokens table n w.bodies_are;
      few = omega (arith, taken_count table n b m, names, w.few);
    }

pub work_enter : (tokens : List Token) (before : ℕ) (table : List (Option Body)) (f : Frame) (fs : List Frame) (t : Token) (n : ℕ) (b : Body) → f.next < f.body.end → f.body.end ≤ length tokens → t ≡ get_or tokens f.next t → t.kind ≡ Name n → slice_get table n ≡ Some (Some b) → macro_count table + suc (length fs) ≤ length table → work tokens (length (set table n None) - suc (suc (length fs))) (set table n None) (entered n before b ∷ next_frame f ∷ fs) < work tokens (length table - suc (length fs)) table (f ∷ fs)
work_enter tokens before table f fs t n b lt le e k m few =
    rw (deeper table (length fs) n b m few) (work_macro tokens (length (set table n None) - suc (suc (length fs))) before table f fs t n b (rest_step tokens f t lt le e) k m)

-- ---- the end of a macro

pub shallower : (table : List (Option Body)) (count : ℕ) (f : Frame) → macro_count table + suc count ≤ length table → length (put_back table f) - count ≡ suc (length table - suc count)
shallower table count f few = omega (arith, length-set table f.name (Some f.body))

pub step_leave : (source : List ℕ) (tokens : List Token) (place : Place) (first whole : List Token) (old table : List (Option Body)) (f : Frame) (fs : List Frame) (out : List Token) → IsWalk source tokens place first whole old table (f ∷ fs) out → f.body.end ≤ f.next → IsWalk source tokens place first whole old (put_back table f) fs out
step_leave source tokens place first whole old table f fs out w le =
    let names : length table ≡ length (put_back table f) = sym (length-set table f.name (Some f.body)) in
    record {
      done = w.done;
      whole_is = w.whole_is ∙ ap (λ l. w.done ++ l) (rw (rest_end tokens f le) (ap (λ d. pending source tokens d (put_back table f) fs) (sym (shallower table (length fs) f w.few))));
      out_is = w.out_is;
      passes = w.passes;
      old_is = w.old_is;
      frames_are = back_frames tokens (length table) (length (put_back table f)) fs names w.frames_are.1;
      bodies_are = back_bodies tokens table f.name f.body w.bodies_are w.frames_are.0.body;
      few = omega (arith, back_count table f.name f.body, names, w.few);
    }

pub work_leave : (tokens : List Token) (table : List (Option Body)) (f : Frame) (fs : List Frame) → macro_count table + suc (length fs) ≤ length table → f.body.end ≤ f.next → work tokens (length (put_back table f) - length fs) (put_back table f) fs < work tokens (length table - suc (length fs)) table (f ∷ fs)
work_leave tokens table f fs few le = rw (rest_end tokens f le, shallower table (length fs) f few) (omega arith)

-- ---- a whole walk

pub start : (source : List ℕ) (tokens : List Token) (place : Place) (out : List Token) (table : List (Option Body)) (f : Frame) → AreBodies tokens table → IsFrame tokens (length table) f → macro_count table + 1 ≤ length table → IsWalk source tokens place out (pending source tokens (length table - 1) table (f ∷ [])) (put_back table f) table (f ∷ []) out
start source tokens place out table f bodies frame few = record {
  done = [];
  whole_is = refl;
  out_is = sym (append-nil out);
  passes = refl;
  old_is = refl;
  frames_are = (frame, tt);
  bodies_are = bodies;
  few = few;
}

pub finish : (source : List ℕ) (tokens : List Token) (place : Place) (first whole : List Token) (old table : List (Option Body)) (out : List Token) → IsWalk source tokens place first whole old table [] out → Takes first out (placed_items place whole)
finish source tokens place first whole old table out w =
    let all : whole ≡ w.done = w.whole_is ∙ append-nil w.done in
    record {
      tokens = map (placed place) w.done;
      new_is = w.out_is;
      items_are = ap (placed_items place) all ∙ map_twice w.done;
      passes = ap (λ l. first_refusal (length first) (placed_items place l)) all ∙ w.passes;
    }
  where
    map_twice : (ts : List Token) → placed_items place ts ≡ map given (map (placed place) ts)
    map_twice [] = refl
    map_twice (t ∷ ts) = ap (λ l. given (placed place t) ∷ l) (map_twice ts)

-- what may not stand stops the walk
pub stop_next : (source : List ℕ) (tokens : List Token) (place : Place) (first whole : List Token) (old table : List (Option Body)) (f : Frame) (fs : List Frame) (out : List Token) (t : Token) (ts : List Token) (stop : Stop) → IsWalk source tokens place first whole old table (f ∷ fs) out → f.next < f.body.end → t ≡ get_or tokens f.next t → replaced (length table - suc (length fs)) source (seen tokens table) t ≡ ts → StopsIn (length out) (placed_items place ts) stop → StopsIn (length first) (placed_items place whole) stop
stop_next source tokens place first whole old table f fs out t ts stop w lt e same s =
    let r = rest_step tokens f t lt w.frames_are.0.body.within e in
    let rest = pending source tokens (length table - suc (length fs)) table (next_frame f ∷ fs) in
    let all : whole ≡ w.done ++ (ts ++ rest) = w.whole_is ∙ ap (λ l. w.done ++ l) (pending_next source tokens (length table - suc (length fs)) table f fs t ts r same) in
    let items : placed_items place whole ≡ placed_items place w.done ++ (placed_items place ts ++ placed_items place rest) = ap (placed_items place) all ∙ map-append (λ t. given (placed place t)) w.done (ts ++ rest) ∙ ap (λ l. placed_items place w.done ++ l) (map-append (λ t. given (placed place t)) ts rest) in
    let so_far : Takes first out (placed_items place w.done) = finish source tokens place first w.done table table out (record { done = w.done; whole_is = sym (append-nil w.done); out_is = w.out_is; passes = w.passes; old_is = refl; frames_are = tt; bodies_are = w.bodies_are; few = omega (arith, w.few) }) in
    subst (λ l. StopsIn (length first) l stop) (sym items) (stops_later first out (placed_items place w.done) (placed_items place ts ++ placed_items place rest) stop so_far (stops_before (length out) (placed_items place ts) (placed_items place rest) stop s))

-- ---- the stack, whose last is the innermost

pub reverse-push : (xs ys : List Frame) (f : Frame) → ys ≡ xs ++ f ∷ [] → reverse ys ≡ f ∷ reverse xs
reverse-push xs ys f e = ap reverse e ∙ reverse-append xs (f ∷ [])

pub name_within : (names n : ℕ) (k : TokenKind) → k ≡ Name n → IsNumbered names k → n < names
name_within names n k e h = subst (IsNumbered names) e h
