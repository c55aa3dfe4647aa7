-- What a thread does in a collective call, step by step.
use Rattle.std.proofs.Common.{◌≡◌, ℕ, ◌+◌, ◌*◌, ◌/◌, ◌%◌, ◌==◌, ◌<◌, ℤ, Bool, true, false, not, ◌&&◌, ◌||◌, cond, List}
use Rattle.std.proofs.Common.{[], ◌∷◌, ◌++◌, Option, Some, None, refl, sym, ap, ◌∙◌, subst, arith}
use Rattle.std.specs.Prelude.{unsigned_abs, Result, Ok, Err}
use Rattle.std.specs.List.{count_by, list_any}
use Rattle.std.proofs.lemmas.Bool.{cond_both, cond-false, false≢true, and_parts}
use Rattle.block_layout.specs.declared.place.SharedPtr.{SharedPtr}
use Rattle.block_layout.specs.declared.kind.Kind.{Kind}
use Rattle.block_layout.specs.declared.kind.Kind.TheVariants as kind
use Rattle.block_layout.specs.declared.kind.Shape.{Shape}
use Rattle.block_layout.specs.declared.run_error.TheConstants.{OUT_OF_OBJECT, POINTER_RANGE, CELL_TYPE, LIBRARY_ARGS}
use Rattle.block_layout.specs.Shapes.{kind_size}
use Rattle.upc_values.specs.declared.scalar.Scalar.{Scalar}
use Rattle.upc_values.specs.layer.Parts.{unless_refused, outside, number_of, permutation, is_at}
use Rattle.upc_values.specs.declared.scalar.Mark.TheVariants.{Absent}
use Rattle.upc_values.specs.declared.action.Action.{Action}
use Rattle.upc_values.specs.declared.action.Action.TheVariants as act
use Rattle.upc_values.specs.declared.action.Reply.{Reply}
use Rattle.upc_values.specs.declared.action.Reply.TheVariants.{Done, Value, Flag, Refused}
use Rattle.upc_values.specs.Lists.{Each}
use Rattle.upc_values.specs.Calls.{Call, Copies, Permutes, Reduces, Reduces_prefixes, call_of}
use Rattle.upc_values.specs.History.{is_wait, each_thread}
use Rattle.upc_values.specs.Reductions.{Reduction, reduction, step, element_kind}
use Rattle.upc_values.specs.Views.{byte_at, leaves_range, is_cell, location_behind}
use Rattle.upc_values.specs.Expansion.{Expansion, Gives, Fails, Reads, Asks, Loads, Stores, nothing, bind}
use Rattle.upc_values.specs.Expansion.{does, barrier, each_in_turn, gathered, refused_by}
use Rattle.upc_values.specs.Expansions.{Part, parts, cells, cut, differ, copied, move, some_bytes}
use Rattle.upc_values.specs.Expansions.{number_at, number_put, chosen, permute, operands, paired}
use Rattle.upc_values.specs.Expansions.{outcome, total, totals, reduce, reduce_prefixes, are_cells, tests, flags_of}
use Rattle.upc_values.specs.Expansions.{entry, exit, work, collective}
use Rattle.upc_values.specs.Together.{is_synchronised, is_synchronised_call}
use Rattle.collective_laws_words.specs.layer.Steps.{Step, Walks, Performs}
use Rattle.collective_laws_words.specs.layer.Interface.{PassesTests}
use Rattle.collective_laws_histories.proofs.Walking.{is_relaxed}
use Rattle.collective_laws_histories.proofs.Lists.{count-no, count-yes}

-- ---- calls that only read and write relaxed

-- From one moment on a call does nothing but relaxed reads and writes.
abbrev pub Quiet : {A : Type 0} → Expansion A → Type 0
Quiet (Gives v) = Unit {0}
Quiet (Fails c) = Unit {0}
Quiet (Reads l k after) = (v : Scalar) → Quiet (after v)
Quiet (Asks a after) = (is_relaxed a ≡ true) × ((r : Reply) → Quiet (after r))
Quiet (Loads p k after) = ⊥
Quiet (Stores p k v after) = ⊥

quiet-bind : {A B : Type 0} (x : Expansion A) (go : A → Expansion B) → Quiet x → ((v : A) → Quiet (go v))
    → Quiet (bind x go)
quiet-bind (Gives v) go h f = f v
quiet-bind (Fails c) go h f = tt
quiet-bind (Reads l k after) go h f = λ v. quiet-bind (after v) go (h v) f
quiet-bind (Asks a after) go h f = (h.0, λ r. quiet-bind (after r) go (h.1 r) f)
quiet-bind (Loads p k after) go h f = absurd h
quiet-bind (Stores p k v after) go h f = absurd h

quiet-refused_by : {A : Type 0} (xs : List (Bool × ℕ)) (go : Expansion A) → Quiet go → Quiet (refused_by xs go)
quiet-refused_by [] go h = h
quiet-refused_by (x ∷ xs) go h =
    cond_both x.0 (Fails x.1) (refused_by xs go) Quiet (λ e. tt) (λ e. quiet-refused_by xs go h)

quiet-unless : (r : Reply) → Quiet (unless_refused r)
quiet-unless Done = tt
quiet-unless (Value v) = tt
quiet-unless (Flag b) = tt
quiet-unless (Refused c) = tt

quiet-turns : {X : Type 0} (f : X → Expansion (Unit {0})) → ((x : X) → Quiet (f x)) → (xs : List X)
    → Quiet (each_in_turn f xs)
quiet-turns f h [] = tt
quiet-turns f h (x ∷ xs) = quiet-bind (f x) (λ u. each_in_turn f xs) (h x) (λ u. quiet-turns f h xs)

quiet-gathered : {X Y : Type 0} (f : X → Expansion Y) → ((x : X) → Quiet (f x)) → (xs : List X)
    → Quiet (gathered f xs)
quiet-gathered f h [] = tt
quiet-gathered f h (x ∷ xs) =
    quiet-bind (f x) (λ y. bind (gathered f xs) (λ ys. Gives (y ∷ ys))) (h x)
    (λ y. quiet-bind (gathered f xs) (λ ys. Gives (y ∷ ys)) (quiet-gathered f h xs) (λ ys. tt))

module _ (threads : ℕ) (shapes : List Shape) (me : ℕ) where
  quiet-some : (n : ℕ) (x : Expansion (Unit {0})) → Quiet x → Quiet (some_bytes threads shapes me n x)
  quiet-some n x h = cond_both (n == 0) nothing x Quiet (λ e. tt) (λ e. h)

  quiet-copied : (n : ℕ) (x : Part) → Quiet (copied threads shapes me n x)
  quiet-copied n x =
      let cell : ℕ × Kind → Expansion (Unit {0}) = λ c. Reads (location_behind x.from c.0) c.1
      (λ v. does (act.Write false (location_behind x.into c.0) v)) in
      quiet-turns cell (λ c v. (refl, quiet-unless)) (cells threads shapes me n x.into)

  quiet-move : (n : ℕ) (xs : List Part) → Quiet (move threads shapes me n xs)
  quiet-move n xs =
      quiet-refused_by
      ((list_any (λ x. leaves_range n x.into || leaves_range n x.from) xs, POINTER_RANGE)
      ∷ (list_any (λ x. outside threads shapes me n x.into || outside threads shapes me n x.from) xs, OUT_OF_OBJECT)
      ∷ (list_any (differ threads shapes me n) xs, CELL_TYPE)
      ∷ [])
      (each_in_turn (copied threads shapes me n) xs) (quiet-turns (copied threads shapes me n) (quiet-copied n) xs)

  quiet-permute : (dst src perm : SharedPtr) (n : ℕ) → Quiet (permute threads shapes me dst src perm n)
  quiet-permute dst src perm n =
      let ps = permutation threads shapes me perm in
      let own = byte_at dst n threads (me * n) in
      let some = not (n == 0) in
      let moves : List ℤ → List Part = λ vs. chosen threads shapes me dst src n vs ∷ [] in
      let go : List ℤ → Expansion (Unit {0}) =
      λ vs. some_bytes threads shapes me n (move threads shapes me n (moves vs)) in
      let tested : List ℤ → Expansion (Unit {0}) =
      λ vs. refused_by ((not (each_thread threads (λ t. is_at threads shapes me t vs)), LIBRARY_ARGS) ∷ []) (go vs) in
      quiet-refused_by
      ((list_any (leaves_range 4) ps || (some && leaves_range n own), POINTER_RANGE)
      ∷ (list_any (outside threads shapes me 4) ps || (some && outside threads shapes me n own), OUT_OF_OBJECT)
      ∷ (list_any (λ p. not (is_cell shapes kind.Int p)) ps || (some && cut threads shapes me n own), CELL_TYPE)
      ∷ [])
      (bind (gathered (number_at threads shapes me kind.Int) ps) tested)
      (quiet-bind (gathered (number_at threads shapes me kind.Int) ps) tested
      (quiet-gathered (number_at threads shapes me kind.Int) (λ p v. tt) ps)
      (λ vs.
      quiet-refused_by ((not (each_thread threads (λ t. is_at threads shapes me t vs)), LIBRARY_ARGS) ∷ []) (go vs)
      (quiet-some n (move threads shapes me n (moves vs)) (quiet-move n (moves vs)))))

  quiet-outcome : (r : Result ℤ ℕ) → Quiet (outcome threads shapes me r)
  quiet-outcome (Ok v) = tt
  quiet-outcome (Err c) = tt

  -- A step of a reduction, and what follows.
  quiet-step : (op : Reduction) (k : Kind) (a : ℤ) (v : Scalar) (go : ℤ → Expansion (Unit {0}))
      → ((b : ℤ) → Quiet (go b))
      → Quiet (bind (outcome threads shapes me (step op k a (number_of threads shapes me v))) go)
  quiet-step op k a v go h =
      quiet-bind (outcome threads shapes me (step op k a (number_of threads shapes me v))) go
      (quiet-outcome (step op k a (number_of threads shapes me v))) h

  -- A write of an element, and what follows.
  quiet-put : (p : SharedPtr) (b : ℤ) (go : Unit {0} → Expansion (Unit {0})) → ((u : Unit {0}) → Quiet (go u))
      → Quiet (bind (number_put threads shapes me p b) go)
  quiet-put p b go h = quiet-bind (number_put threads shapes me p b) go (refl, quiet-unless) h

  quiet-total : (op : Reduction) (k : Kind) (a : ℤ) (dst : SharedPtr) (ps : List SharedPtr)
      → Quiet (total threads shapes me op k a dst ps)
  quiet-total op k a dst [] = (refl, quiet-unless)
  quiet-total op k a dst (p ∷ ps) =
      λ v. quiet-step op k a v (λ b. total threads shapes me op k b dst ps) (λ b. quiet-total op k b dst ps)

  quiet-reduce : (op : Option Reduction) (k : Kind) (dst : SharedPtr) (ps : List SharedPtr)
      → Quiet (reduce threads shapes me op k dst ps)
  quiet-reduce (Some op) k dst (p ∷ ps) = λ v. quiet-total op k (number_of threads shapes me v) dst ps
  quiet-reduce (Some op) k dst [] = tt
  quiet-reduce None k dst ps = tt

  quiet-totals : (op : Reduction) (k : Kind) (a : ℤ) (xs : List Part) → Quiet (totals threads shapes me op k a xs)
  quiet-totals op k a [] = tt
  quiet-totals op k a (x ∷ xs) =
      λ v. quiet-step op k a v
      (λ b. bind (number_put threads shapes me x.into b) (λ u. totals threads shapes me op k b xs))
      (λ b. quiet-put x.into b (λ u. totals threads shapes me op k b xs) (λ u. quiet-totals op k b xs))

  quiet-prefixes : (op : Option Reduction) (k : Kind) (xs : List Part)
      → Quiet (reduce_prefixes threads shapes me op k xs)
  quiet-prefixes (Some op) k (x ∷ xs) =
      λ v. quiet-put x.into (number_of threads shapes me v)
      (λ u. totals threads shapes me op k (number_of threads shapes me v) xs)
      (λ u. quiet-totals op k (number_of threads shapes me v) xs)
  quiet-prefixes (Some op) k [] = tt
  quiet-prefixes None k xs = tt

  quiet-cells : (k : Kind) (ps : List SharedPtr) (go : Expansion (Unit {0})) → Quiet go
      → Quiet (are_cells threads shapes me k ps go)
  quiet-cells k ps go h =
      quiet-refused_by
      ((list_any (leaves_range (kind_size k)) ps, POINTER_RANGE)
      ∷ (list_any (outside threads shapes me (kind_size k)) ps, OUT_OF_OBJECT)
      ∷ (list_any (λ p. not (is_cell shapes k p)) ps, CELL_TYPE)
      ∷ [])
      go h

  -- The work of a call only reads and writes relaxed.
  pub quiet-work : (call : Call) → Quiet (work threads shapes me call)
  quiet-work (Copies w dst src n f) =
      let xs = parts threads shapes me w dst src n in
      quiet-some n (move threads shapes me n xs) (quiet-move n xs)
  quiet-work (Permutes dst src perm n f) = quiet-permute dst src perm n
  quiet-work (Reduces dst src op n blk k f) =
      let from = operands threads shapes me src blk k n in
      let value = reduce threads shapes me (reduction op) (element_kind k) dst from in
      cond_both (dst.thread == me) (are_cells threads shapes me (element_kind k) (dst ∷ from) value) nothing Quiet
      (λ e. quiet-cells (element_kind k) (dst ∷ from) value (quiet-reduce (reduction op) (element_kind k) dst from))
      (λ e. tt)
  quiet-work (Reduces_prefixes dst src op n blk k f) =
      let into = operands threads shapes me dst blk k n in
      let from = operands threads shapes me src blk k n in
      let xs = paired threads shapes me into from in
      let sums = reduce_prefixes threads shapes me (reduction op) (element_kind k) xs in
      cond_both (dst.thread == me) (are_cells threads shapes me (element_kind k) (into ++ from) sums) nothing Quiet
      (λ e. quiet-cells (element_kind k) (into ++ from) sums (quiet-prefixes (reduction op) (element_kind k) xs))
      (λ e. tt)
  quiet-work call = tt

-- ---- one part after another

-- How many of the steps are waits.
abbrev pub waits_in : List Step → ℕ
waits_in did = count_by (λ s. is_wait s.action) did

pub relaxed-no_wait : (a : Action) → is_relaxed a ≡ true → is_wait a ≡ false
relaxed-no_wait (act.Write s l v) h = refl
relaxed-no_wait (act.Read l s) h = refl
relaxed-no_wait a h = absurd (false≢true h)

-- The steps of a first part that only reads and writes, and those after it.
pub record Parted (A B : Type 0) (x : Expansion A) (go : A → Expansion B) (did : List Step) : Type 0 where
  pub value : A
  pub first : List Step
  pub rest : List Step
  pub is : did ≡ first ++ rest
  pub performs : Performs x first value
  pub relaxed : Each (λ s. is_relaxed s.action ≡ true) first
  pub walks : Walks (go value) rest
  pub waits : waits_in rest ≡ waits_in did

pub parted : {A B : Type 0} (x : Expansion A) (go : A → Expansion B) (did : List Step) → Quiet x → 0 < waits_in did
    → Walks (bind x go) did → Parted A B x go did
parted (Gives v) go did q n w =
    record {
      value = v;
      first = [];
      rest = did;
      is = refl;
      performs = (refl, refl);
      relaxed = tt;
      walks = w;
      waits = refl;
    }
parted (Fails c) go [] q n w = absurd (omega arith)
parted (Fails c) go (s ∷ did) q n w = absurd w
parted (Reads l k after) go [] q n w = absurd (omega arith)
parted (Reads l k after) go (s ∷ did) q n w =
    let e : is_wait s.action ≡ false = ap is_wait w.0 in
    let c = count-no (λ x. is_wait x.action) s did e in
    let r = parted (after w.1) go did (q w.1) (subst (λ m. 0 < m) c n) w.3 in
    record {
      value = r.value;
      first = s ∷ r.first;
      rest = r.rest;
      is = ap (λ z. s ∷ z) r.is;
      performs = (w.0, w.1, w.2, r.performs);
      relaxed = (ap is_relaxed w.0, r.relaxed);
      walks = r.walks;
      waits = r.waits ∙ sym c;
    }
parted (Asks a after) go [] q n w = absurd (omega arith)
parted (Asks a after) go (s ∷ did) q n w =
    let k : is_relaxed s.action ≡ true = ap is_relaxed w.0 ∙ q.0 in
    let c = count-no (λ x. is_wait x.action) s did (relaxed-no_wait s.action k) in
    let r = parted (after s.reply) go did (q.1 s.reply) (subst (λ m. 0 < m) c n) w.1 in
    record {
      value = r.value;
      first = s ∷ r.first;
      rest = r.rest;
      is = ap (λ z. s ∷ z) r.is;
      performs = (w.0, r.performs);
      relaxed = (k, r.relaxed);
      walks = r.walks;
      waits = r.waits ∙ sym c;
    }
parted (Loads p k after) go did q n w = absurd q
parted (Stores p k v after) go did q n w = absurd q

-- ---- a whole call

one-test : {A : Type 0} (b rest : Bool) (code : ℕ) (more go : Expansion A) (s : Step) (did : List Step)
    → Walks (cond b (Fails code) more) (s ∷ did)
    → (Walks more (s ∷ did) → (rest ≡ false) × Walks go (s ∷ did))
    → ((b || rest) ≡ false) × Walks go (s ∷ did)
one-test true rest code more go s did w f = absurd w
one-test false rest code more go s did w f = f w

refused-walks : {A : Type 0} (xs : List (Bool × ℕ)) (go : Expansion A) (s : Step) (did : List Step)
    → Walks (refused_by xs go) (s ∷ did) → (list_any (λ x. x.0) xs ≡ false) × Walks go (s ∷ did)
refused-walks [] go s did w = (refl, w)
refused-walks (x ∷ xs) go s did w =
    one-test x.0 (list_any (λ y. y.0) xs) x.1 (refused_by xs go) go s did w (refused-walks xs go s did)

-- After a reply that is followed by a wait the call goes on.
goes-unless : {A : Type 0} (r : Reply) (go : Unit {0} → Expansion A) (did : List Step) → 0 < waits_in did
    → Walks (bind (unless_refused r) go) did → Walks (go tt) did
goes-unless Done go did n w = w
goes-unless (Value v) go did n w = w
goes-unless (Flag b) go did n w = w
goes-unless (Refused c) go [] n w = absurd (omega arith)
goes-unless (Refused c) go (s ∷ did) n w = absurd w

goes-unless-on : {A : Type 0} (r : Reply) (next : Unit {0} → Expansion (Unit {0})) (go : Unit {0} → Expansion A)
    (did : List Step) → 0 < waits_in did → Walks (bind (bind (unless_refused r) next) go) did
    → Walks (bind (next tt) go) did
goes-unless-on Done next go did n w = w
goes-unless-on (Value v) next go did n w = w
goes-unless-on (Flag b) next go did n w = w
goes-unless-on (Refused c) next go [] n w = absurd (omega arith)
goes-unless-on (Refused c) next go (s ∷ did) n w = absurd w

-- The steps of a barrier, and those after it.
pub record Barrier (did : List Step) : Type 0 where
  pub notify : Step
  pub wait : Step
  pub rest : List Step
  pub is : did ≡ notify ∷ wait ∷ rest
  pub notifies : notify.action ≡ act.Notify Absent
  pub waits : wait.action ≡ act.Wait Absent
  pub left : waits_in did ≡ waits_in rest + 1

abbrev waiting_on : Expansion (Unit {0})
waiting_on = Asks (act.Wait Absent) unless_refused

barrier-left : (s x : Step) (rest : List Step) → s.action ≡ act.Notify Absent → x.action ≡ act.Wait Absent
    → waits_in (s ∷ x ∷ rest) ≡ waits_in rest + 1
barrier-left s x rest n w =
    let a = count-no (λ z. is_wait z.action) s (x ∷ rest) (ap is_wait n) in
    let b = count-yes (λ z. is_wait z.action) x rest (ap is_wait w) in
    a ∙ b

barrier-then : {A : Type 0} (go : Unit {0} → Expansion A) (did : List Step) → 1 < waits_in did
    → Walks (bind barrier go) did → (b : Barrier did) × Walks (go tt) b.rest
barrier-then go [] n w = absurd (omega arith)
barrier-then go (s ∷ []) n w =
    let a = count-no (λ z. is_wait z.action) s [] (ap is_wait w.0) in
    absurd (omega arith)
barrier-then go (s ∷ x ∷ rest) n w =
    let a = count-no (λ z. is_wait z.action) s (x ∷ rest) (ap is_wait w.0) in
    let on = goes-unless-on s.reply (λ u. waiting_on) go (x ∷ rest) (omega arith) w.1 in
    let left = barrier-left s x rest w.0 on.0 in (
      record { notify = s; wait = x; rest = rest; is = refl; notifies = w.0; waits = on.0; left = left },
      goes-unless x.reply go rest (omega arith) on.1,
    )

barrier-last : (did : List Step) → 0 < waits_in did → Walks barrier did → Barrier did
barrier-last [] n w = absurd (omega arith)
barrier-last (s ∷ []) n w =
    let a = count-no (λ z. is_wait z.action) s [] (ap is_wait w.0) in
    absurd (omega arith)
barrier-last (s ∷ x ∷ rest) n w =
    let a = count-no (λ z. is_wait z.action) s (x ∷ rest) (ap is_wait w.0) in
    let on = goes-unless s.reply (λ u. waiting_on) (x ∷ rest) (omega arith) w.1 in
    record {
      notify = s;
      wait = x;
      rest = rest;
      is = refl;
      notifies = w.0;
      waits = on.0;
      left = barrier-left s x rest w.0 on.0;
    }

-- The steps of a collective call on one thread that synchronises at both ends, after its Meet, and those after it.
pub record Called (threads : ℕ) (shapes : List Shape) (me : ℕ) (call : Call) (did : List Step) : Type 0 where
  pub passed : PassesTests threads shapes me call
  pub first : Step
  pub second : Step
  pub dids : List Step
  pub third : Step
  pub fourth : Step
  pub rest : List Step
  pub is : did ≡ first ∷ second ∷ (dids ++ third ∷ fourth ∷ rest)
  pub notifies : first.action ≡ act.Notify Absent
  pub waits : second.action ≡ act.Wait Absent
  pub performs : Performs (work threads shapes me call) dids tt
  pub relaxed : Each (λ s. is_relaxed s.action ≡ true) dids
  pub notifies_again : third.action ≡ act.Notify Absent
  pub waits_again : fourth.action ≡ act.Wait Absent

not-true : (b : Bool) → not b ≡ true → b ≡ false
not-true true h = absurd (false≢true h)
not-true false h = refl

entry-is : (f : ℤ) → is_synchronised f ≡ true → entry f ≡ barrier
entry-is f h =
    cond-false (unsigned_abs f % 8 == 1) nothing barrier
    (not-true (unsigned_abs f % 8 == 1)
    (and_parts (not (unsigned_abs f % 8 == 1)) (not (unsigned_abs f / 8 == 1)) h).0)

exit-is : (f : ℤ) → is_synchronised f ≡ true → exit f ≡ barrier
exit-is f h =
    cond-false (unsigned_abs f / 8 == 1) nothing barrier
    (not-true (unsigned_abs f / 8 == 1)
    (and_parts (not (unsigned_abs f % 8 == 1)) (not (unsigned_abs f / 8 == 1)) h).1)

module _ (threads : ℕ) (shapes : List Shape) (me : ℕ) where
  synchronised : (call : Call) → is_synchronised_call call ≡ true
      → is_synchronised (flags_of threads shapes me call) ≡ true
  synchronised (Copies w dst src n f) h = h
  synchronised (Permutes dst src perm n f) h = h
  synchronised (Reduces dst src op n blk k f) h = h
  synchronised (Reduces_prefixes dst src op n blk k f) h = h
  synchronised call h = absurd (false≢true h)

  -- The steps of a call after its Meet, two of which at least are waits.
  pub called : (c : ℕ) (args : List Scalar) (s : Step) (did : List Step)
      → is_synchronised_call (call_of c args) ≡ true → 1 < waits_in did
      → Walks (collective threads shapes me c args) (s ∷ did) → Called threads shapes me (call_of c args) did
  called c args s did h n w =
      let call = call_of c args in
      let f = flags_of threads shapes me call in
      let flags = synchronised call h in
      let later : Unit {0} → Expansion (Unit {0}) = λ v. bind (work threads shapes me call) (λ z. exit f) in
      let tested = refused-walks (tests threads shapes me call)
      (bind (Asks (act.Meet c args) unless_refused) (λ u. bind (entry f) later)) s did w in
      let met = goes-unless s.reply (λ u. bind (entry f) later) did (omega arith) tested.1.1 in
      let entered : Walks (bind barrier later) did =
      subst (λ x. Walks (bind x later) did) (entry-is f flags) met in
      let b = barrier-then later did n entered in
      let many = b.0.left in
      let p = parted (work threads shapes me call) (λ z. exit f) b.0.rest (quiet-work threads shapes me call)
      (omega arith) b.1 in
      let same = p.waits in
      let x = barrier-last p.rest (omega arith) (subst (λ y. Walks y p.rest) (exit-is f flags) p.walks) in
      record {
        passed = tested.0;
        first = b.0.notify;
        second = b.0.wait;
        dids = p.first;
        third = x.notify;
        fourth = x.wait;
        rest = x.rest;
        is = b.0.is ∙ ap (λ z. b.0.notify ∷ b.0.wait ∷ z) (p.is ∙ ap (λ z. p.first ++ z) x.is);
        notifies = b.0.notifies;
        waits = b.0.waits;
        performs = p.performs;
        relaxed = p.relaxed;
        notifies_again = x.notifies;
        waits_again = x.waits;
      }
