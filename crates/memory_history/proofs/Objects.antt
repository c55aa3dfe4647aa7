-- The objects that a history makes, and what one more entry makes.
use Rattle.std.proofs.Common.{◌≡◌, ◌==◌, ℕ, ◌+◌, ◌*◌, ◌≤◌, nat_lt, Bool, true, false, ◌||◌, cond, List, [], ◌∷◌, ◌++◌, length, Option, Some, None, is_some, is_none, slice_get, refl, sym, ap, ◌∙◌, ◌⊎◌, inl, inr, arith, ltb-false}
use Rattle.std.specs.List.{filter_map, cons_option}
use Rattle.std.proofs.lemmas.Bool.{cond_both, cond-true, cond-false, and_parts, false≢true}
use Rattle.std.proofs.lemmas.List.Elements.{filter_map-append}
use Rattle.block_layout.specs.declared.place.ObjectRef.{ObjectRef}
use Rattle.block_layout.specs.declared.place.SharedPtr.{SharedPtr}
use Rattle.block_layout.specs.declared.run_error.TheConstants.{SHARED_SPACE}
use Rattle.block_layout.specs.Pointers.{null}
use Rattle.block_layout.proofs.Pointers.{null-false}
use Rattle.upc_values.specs.declared.scalar.Scalar.{Scalar}
use Rattle.upc_values.specs.declared.scalar.Scalar.TheVariants.{Shared}
use Rattle.upc_values.specs.declared.action.Action.{Action}
use Rattle.upc_values.specs.declared.action.Action.TheVariants as act
use Rattle.upc_values.specs.declared.action.Reply.{Reply}
use Rattle.upc_values.specs.declared.action.Reply.TheVariants.{Value, Refused}
use Rattle.upc_values.specs.declared.journal.Entry.{Entry}
use Rattle.upc_values.specs.Calls.{Call, Allocates, Other, call_of}
use Rattle.upc_values.specs.Drain.{entry_of}
use Rattle.upc_values.specs.Openings.{Opening, bytes_of}
use Rattle.upc_values.specs.History.{picked, asked, meets, Lead, leader, led, pointer_of, makes, object_of, objects, made, alloc_reply, led_reply, meet_reply, reply}
use Rattle.upc_values.specs.Formed.{is_home, may_alloc, may_call, IsWellFormed}
use Rattle.upc_values.proofs.Unmade.{is_maker}
use Rattle.memory_history.proofs.Growing.{one_if, picked-push}

-- the objects that a history has made
abbrev pub made_in : List Entry → List ObjectRef
made_in es = filter_map object_of (picked (λ before e. makes e.action (led before e)) es)

-- what one more entry makes
abbrev pub made_by : List Entry → Entry → List ObjectRef
made_by es e = cond (makes e.action (led es e)) (cons_option (object_of e) []) []

-- the pointer that an allocation gives
abbrev pub given_by : Entry → List SharedPtr
given_by e = cond (makes e.action (asked e.action)) (cons_option (pointer_of e.reply) []) []

pub made-push : (es : List Entry) (e : Entry) → made_in (es ++ e ∷ []) ≡ made_in es ++ made_by es e
made-push es e =
    let test : List Entry → Entry → Bool = λ b x. makes x.action (led b x) in
    ap (filter_map object_of) (picked-push test es e)
    ∙ filter_map-append object_of (picked test es) (one_if (test es e) e)
    ∙ ap (λ z. made_in es ++ z) (mapped-if (test es e) e)
  where
    mapped-if : (b : Bool) (x : Entry) → filter_map object_of (one_if b x) ≡ cond b (cons_option (object_of x) []) []
    mapped-if true x = refl
    mapped-if false x = refl

-- ---- what an entry makes

-- an entry that makes a new object, of so many bytes, with this home and shape
pub record Makes (o : Opening) (es : List Entry) (e : Entry) : Type 0 where
  pub nblocks : ℕ
  pub nbytes : ℕ
  pub home : Option ℕ
  pub shape : ℕ
  pub may : may_alloc o nblocks nbytes shape ≡ true
  pub at_home : is_home o.threads home ≡ true
  pub room : bytes_of (objects o es) + nblocks * nbytes ≤ 16777216
  pub gives : e.reply ≡ Value (Shared (made o es nblocks nbytes home shape))
  pub is : makes e.action (led es e) ≡ true

-- a new object's pointer is not null
pub made-given : (o : Opening) (es : List Entry) (n b : ℕ) (h : Option ℕ) (s : ℕ)
    → pointer_of (Value (Shared (made o es n b h s))) ≡ Some (made o es n b h s)
made-given o es n b h s =
    let p = made o es n b h s in
    let number : p ≡ null → length (objects o es) + 1 ≡ 0 = λ q. ap (λ x. x.object.number) q in
    ap (λ z. cond z None (Some p)) (null-false p (λ q. let z = number q in absurd (omega arith)))

pub makes-given : (o : Opening) (es : List Entry) (e : Entry) (m : Makes o es e)
    → pointer_of e.reply ≡ Some (made o es m.nblocks m.nbytes m.home m.shape)
makes-given o es e m = ap pointer_of m.gives ∙ made-given o es m.nblocks m.nbytes m.home m.shape

abbrev object_in : Option SharedPtr → Option ObjectRef
object_in p = elim p [ Some x ↦ Some x.object | None ↦ None ]

pub given-made : (es : List Entry) (e : Entry) (p : SharedPtr) → makes e.action (led es e) ≡ true
    → pointer_of e.reply ≡ Some p → made_by es e ≡ p.object ∷ []
given-made es e p is g =
    cond-true (makes e.action (led es e)) (cons_option (object_of e) []) [] is
    ∙ ap (λ z. cons_option (object_in z) []) g

pub makes-made : (o : Opening) (es : List Entry) (e : Entry) (m : Makes o es e)
    → made_by es e ≡ (made o es m.nblocks m.nbytes m.home m.shape).object ∷ []
makes-made o es e m = given-made es e (made o es m.nblocks m.nbytes m.home m.shape) m.is (makes-given o es e m)

-- an entry that makes nothing
pub idle : (es : List Entry) (e : Entry) → makes e.action (led es e) ≡ false → made_by es e ≡ []
idle es e h = cond-false (makes e.action (led es e)) (cons_option (object_of e) []) [] h

pub ungiven : (es : List Entry) (e : Entry) → pointer_of e.reply ≡ None → made_by es e ≡ []
ungiven es e h =
    ap (λ p. cond (makes e.action (led es e)) (cons_option (object_in p) []) []) h
    ∙ cond_both (makes e.action (led es e)) [] [] (λ z. z ≡ []) (λ _. refl) (λ _. refl)

pub makes-none : (a : Action) (b : Bool) → is_maker a ≡ false → makes a (cond b (asked a) Other) ≡ false
makes-none (act.Alloc n m h s) b e = absurd (false≢true (sym e))
makes-none (act.Meet c args) b e = absurd (false≢true (sym e))
makes-none a true e = refl
makes-none a false e = refl

-- an allocation makes a new object, or is refused
alloc-cases : (o : Opening) (es : List Entry) (e : Entry) (n b : ℕ) (h : Option ℕ) (s : ℕ) → may_alloc o n b s ≡ true
    → is_home o.threads h ≡ true
    → makes e.action (led es e) ≡ true → alloc_reply o es n b h s ≡ e.reply → (made_by es e ≡ []) ⊎ Makes o es e
alloc-cases o es e n b h s may home is q =
    cond_both (nat_lt 16777216 (bytes_of (objects o es) + n * b)) (Refused SHARED_SPACE)
    (Value (Shared (made o es n b h s)))
    (λ r. r ≡ e.reply → (made_by es e ≡ []) ⊎ Makes o es e)
    (λ t w. inl (ungiven es e (ap pointer_of (sym w))))
    (λ t w. inr (record {
      nblocks = n;
      nbytes = b;
      home = h;
      shape = s;
      may = may;
      at_home = home;
      room = ltb-false 16777216 (bytes_of (objects o es) + n * b) t;
      gives = sym w;
      is = is;
    })) q

-- the first of the j-th collective calls
led-cases : (o : Opening) (es : List Entry) (t i c : ℕ) (args : List Scalar) (r : Reply) (x : Call) → call_of c args ≡ x
    → may_call o es x ≡ true
    → leader (length (meets t es)) es ≡ None → led_reply o es x ≡ r
    → (made_by es (entry_of t i (act.Meet c args) r) ≡ []) ⊎ Makes o es (entry_of t i (act.Meet c args) r)
led-cases o es t i c args r (Allocates n b s) q m none w =
    let a = act.Meet c args in
    let e = entry_of t i a r in
    let is : makes a (led es e) ≡ true =
    ap (λ z. makes a (cond (is_none z) (call_of c args) Other)) none ∙ ap (makes a) q in
    let p = and_parts (is_some (slice_get o.shapes s)) ((n * b == 0) || may_alloc o n b s) m in
    cond_both (n * b == 0) (Value (Shared null)) (alloc_reply o es n b None s)
    (λ z. z ≡ r → (made_by es e ≡ []) ⊎ Makes o es e)
    (λ y k. inl (ungiven es e (ap pointer_of (sym k))))
    (λ y k. alloc-cases o es e n b None s (sym (ap (λ z. z || may_alloc o n b s) y) ∙ p.1) refl is k) w
led-cases o es t i c args r x q m none w =
    let a = act.Meet c args in
    let e = entry_of t i a r in
    inl (idle es e (ap (λ z. makes a (cond (is_none z) (call_of c args) Other)) none ∙ ap (makes a) q))

meet-cases : (o : Opening) (es : List Entry) (t i c : ℕ) (args : List Scalar) (r : Reply)
    → may_call o es (call_of c args) ≡ true
    → (w : Option Lead) → leader (length (meets t es)) es ≡ w → meet_reply o es t c args w ≡ r
    → (made_by es (entry_of t i (act.Meet c args) r) ≡ []) ⊎ Makes o es (entry_of t i (act.Meet c args) r)
meet-cases o es t i c args r m None q k = led-cases o es t i c args r (call_of c args) refl m q k
meet-cases o es t i c args r m (Some w) q k =
    let a = act.Meet c args in
    inl (idle es (entry_of t i a r) (ap (λ z. makes a (cond (is_none z) (call_of c args) Other)) q))

some-same : (q r : Reply) → Some q ≡ Some r → q ≡ r
some-same q r h = cc

-- one more entry makes nothing or a new object
pub made-cases : (o : Opening) (es : List Entry) (t i : ℕ) (a : Action) (r : Reply) → IsWellFormed o es a
    → reply o es t a ≡ Some r
    → (made_by es (entry_of t i a r) ≡ []) ⊎ Makes o es (entry_of t i a r)
made-cases o es t i (act.Alloc n b h s) r f q =
    let p = and_parts (may_alloc o n b s) (is_home o.threads h) f in
    alloc-cases o es (entry_of t i (act.Alloc n b h s) r) n b h s p.0 p.1 refl
    (some-same (alloc_reply o es n b h s) r q)
made-cases o es t i (act.Meet c args) r f q =
    meet-cases o es t i c args r f (leader (length (meets t es)) es) refl
    (some-same (meet_reply o es t c args (leader (length (meets t es)) es)) r q)
made-cases o es t i a r f q =
    inl (idle es (entry_of t i a r) (makes-none a (is_none (leader (length (meets t es)) es)) refl))
