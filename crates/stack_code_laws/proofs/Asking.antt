-- What threads of code ask for.
use Rattle.std.proofs.Common.{◌≡◌, ℕ, zero, suc, ◌+◌, ◌<◌, List, [], ◌∷◌, ◌++◌, length, Bool, true, false, Option}
use Rattle.std.proofs.Common.{Some, None}
use Rattle.std.proofs.Common.{refl, sym, ◌∙◌, ap, subst, arith}
use Rattle.std.proofs.lemmas.List.{length_push}
use Rattle.block_layout.specs.declared.kind.Kind.{Kind}
use Rattle.block_layout.specs.declared.kind.Shape.{Shape}
use Rattle.block_layout.specs.declared.place.Loc.{Loc}
use Rattle.block_layout.specs.declared.place.LocalPtr.{LocalPtr}
use Rattle.upc_values.specs.declared.scalar.Value.{Value}
use Rattle.upc_values.specs.declared.action.Action.{Action}
use Rattle.upc_values.specs.declared.action.Action.TheVariants as act
use Rattle.upc_values.specs.declared.action.Reply.{Reply}
use Rattle.upc_values.specs.declared.record.ToldEnd.{ToldEnd}
use Rattle.upc_values.specs.declared.record.ToldEnd.TheVariants.{Wants, Misfit, Ended, Exit, Fault, OutOfTicks}
use Rattle.upc_values.specs.declared.journal.Entry.{Entry}
use Rattle.upc_values.specs.Lists.{Each}
use Rattle.upc_values.specs.Outcomes.{Outcome}
use Rattle.upc_values.specs.Openings.{Opening, IsOpening}
use Rattle.upc_values.specs.Formed as history
use Rattle.upc_values.specs.Formed.{fits}
use Rattle.upc_values.specs.layer.Known.{HasGiven}
use Rattle.thread_steps.specs.States.{Thread, State, Res, Val, Over, Unfinished}
use Rattle.thread_steps.specs.layer.Fronts.{Begins}
use Rattle.thread_steps.proofs.Fronts.{begins_itself, begins_on, all_of, none_left}
use Rattle.thread_steps.proofs.Following.{total, plus, Later}
use Rattle.stack_code.specs.declared.instruction.Instr.{Instr}
use Rattle.stack_code.specs.layer.Codes.{Codes, thread_of}
use Rattle.stack_code.specs.layer.Steps.{Spot, Conf, At, Halt, nowhere, step, steps}
use Rattle.stack_code.specs.layer.Outcomes.{told_by, HasEnded, CodeMeans, initial_state, beginning}
use Rattle.stack_code.proofs.Ends.{steps_add, steps_ended}
use Rattle.stack_code.specs.layer.Kept.{IsCode, IsFitting, IsKnown}
use Rattle.stack_code_laws.specs.layer.Asking.{IsDeclaredIn, NamesDeclared, IsThreadOf, AsksWell}
use Rattle.stack_code_laws.specs.code.Wanted.{ReadsKind, IsReadAs}
use Rattle.stack_code_laws.specs.code.Names.{NamesGiven}
use Rattle.stack_code_laws.proofs.Given.{IsGround, ReadsWell, IsWellFormed, AnyRead}
use Rattle.stack_code_laws.proofs.Heard.{all_heard}
use Rattle.stack_code_laws.proofs.Histories.{names_given, formed_there, fits_there}
use Rattle.stack_code_laws.proofs.KnownValues.{runner, IsInRange}
use Rattle.stack_code_laws.proofs.Stores.{begun_filled}
use Rattle.stack_code_laws.proofs.Doings.{GrownTo, Grown, Reaches, Misses}
use Rattle.stack_code_laws.proofs.Doings.{grown_to}
use Rattle.stack_code_laws.proofs.Doings.{IsGood, EndsWell, Comes}
use Rattle.stack_code_laws.proofs.Instructions.{Point, res_of, AllKnown, Stands, ReadsHere, step_asks}

-- ---- where the code stands

abbrev conf_of : Res Point → Conf
conf_of (Val point υ) = At point.at point.given point.operands point.calls υ
conf_of (Over e υ) = Halt e υ
conf_of Unfinished = Halt OutOfTicks nowhere

conf_is : (c : Conf) → conf_of (res_of c) ≡ c
conf_is (At at given operands calls σ) = refl
conf_is (Halt e σ) = refl

abbrev state_of : Conf → State
state_of (At at given operands calls σ) = σ
state_of (Halt e σ) = σ

grown_state : (σ : State) (c : Conf) → Grown σ (res_of c) → GrownTo σ (state_of c)
grown_state σ (At at given operands calls υ) g = g
grown_state σ (Halt e υ) g = g

reached_state : (actions : List Action) (c : Conf) → Reaches actions (res_of c) → Begins actions (state_of c).actions
reached_state actions (At at given operands calls υ) h = h
reached_state actions (Halt e υ) h = h

ended_actions : (c : Conf) (p : Outcome) → HasEnded c p → (state_of c).actions ≡ p.actions
ended_actions (At at given operands calls σ) p h = absurd h
ended_actions (Halt e σ) p h = ap (λ q. q.actions) h

-- The thread has ended after what an outcome has done, since a reply does not fit.
abbrev HasMissed : Outcome → Conf → Type 0
HasMissed p (At at given operands calls σ) = ⊥
HasMissed p (Halt e υ) = (e ≡ Misfit (length p.actions)) × (υ.actions ≡ p.actions)

missed_at : (p : Outcome) (actions : List Action) (c : Conf) → actions ≡ p.actions → Misses actions (res_of c)
    → HasMissed p c
missed_at p actions (At at given operands calls σ) e h = absurd h
missed_at p actions (Halt t υ) e h = (h.0 ∙ ap (λ (xs : List Action). Misfit (length xs)) e, h.1 ∙ e)

action_or : Action → ToldEnd → Action
action_or other (Wants a) = a
action_or other e = other

same_action : (a b : Action) → Wants a ≡ Wants b → a ≡ b
unfolding action_or
same_action a b e = ap (action_or a) e

module _ (τ : Thread) (functions : List (List Instr)) where
  ended_stays : (n : ℕ) (c : Conf) (p : Outcome) → HasEnded c p → steps τ functions n c ≡ c
  ended_stays n (At at given operands calls σ) p h = absurd h
  ended_stays n (Halt e σ) p h = steps_ended τ functions n e σ

  missed_stays : (n : ℕ) (c : Conf) (p q : Outcome) → HasMissed p c → HasEnded (steps τ functions n c) q
      → (q.«end» ≡ Misfit (length p.actions)) × (q.actions ≡ p.actions)
  missed_stays n (At at given operands calls σ) p q h e = absurd h
  missed_stays n (Halt t υ) p q h e =
      let g : told_by t υ ≡ q = subst (λ d. HasEnded d q) (steps_ended τ functions n t υ) e in
      (sym (ap (λ x. x.«end») g) ∙ h.0, sym (ap (λ x. x.actions) g) ∙ h.1)

module _ (o : Opening) (past : List Reply) (R : Kind → Loc → Type 0) where
  any_read : (l : Loc) (kind : Option Kind) → ReadsWell o past R l kind → ReadsWell o past AnyRead l kind
  any_read l (Some k) h = (h.0, tt)
  any_read l None h = h

  -- What may be asked for, whatever is read.
  any_formed : (kind : Option Kind) (a : Action) → IsWellFormed o past R kind a → IsWellFormed o past AnyRead kind a
  any_formed kind (act.Read l s) h = any_read l kind h
  any_formed kind (act.Write s l w) h = h
  any_formed kind (act.Lock l) h = h
  any_formed kind (act.Attempt l) h = h
  any_formed kind (act.Unlock l) h = h
  any_formed kind (act.LockFree l) h = h
  any_formed kind (act.Free p) h = h
  any_formed kind (act.Meet c args) h = h
  any_formed kind act.Fence h = h
  any_formed kind act.Beat h = h
  any_formed kind (act.Notify m) h = h
  any_formed kind (act.Wait m) h = h
  any_formed kind act.LockMake h = h
  any_formed kind (act.Alloc n b home shape) h = h
  any_formed kind (act.Print x) h = h
  any_formed kind (act.Exit w) h = h

module _ (o : Opening) (past : List Reply) (v : IsGround o) (me budget : ℕ) (one : me < o.threads)
    (functions : List (List Instr)) (declared : Each (Each (IsDeclaredIn o)) functions)
    (fitting : Each (Each (IsFitting o.threads o.shapes)) functions) where
  abbrev τ : Thread
  τ = runner o me budget

  -- Along instructions the actions grow, each by one reply.
  steps_grow : (n : ℕ) (c : Conf) → GrownTo (state_of c) (state_of (steps τ functions n c))
  steps_grow zero c = (begins_itself (state_of c).actions, refl)
  steps_grow (suc n) (At here given operands calls σ) =
      let c = step τ functions (At here given operands calls σ) in
      grown_to σ (state_of c) (state_of (steps τ functions n c))
      (grown_state σ c
      ((step_asks o past v me budget one functions declared fitting here given operands calls).grows σ))
      (steps_grow n c)
  steps_grow (suc n) (Halt e σ) = steps_grow n (Halt e σ)

  -- An action is wanted at the end of what begins at a point: it may be asked for, and is read by its instruction; each
  -- reply was heard, and with a further reply that fits it, it is done; with one that does not, the thread ends.
  pub record IsWanted (p : Outcome) (a : Action) (heard_there : ℕ) (from : Conf) (begins : List Reply → Conf) : Type 0
    where
      pub kind : Option Kind
      pub formed : IsWellFormed o past AnyRead kind a
      pub reads : IsReadAs τ functions from kind a
      pub heard : length p.actions ≡ heard_there
      pub fit : (r : Reply) → fits o.threads o.shapes kind a r ≡ true
          → (count : ℕ)
          × Begins (p.actions ++ a ∷ []) (state_of (steps τ functions count (begins (r ∷ [])))).actions
      pub misfit : (r : Reply) → fits o.threads o.shapes kind a r ≡ false
          → (count : ℕ) × HasMissed p (steps τ functions count (begins (r ∷ [])))

  module _ (here : Spot) (given operands : List Value) (calls : List Spot) (σ : State) where
    abbrev from : Conf
    from = At here given operands calls σ

    -- Where the thread begins with further replies.
    abbrev with_more : List Reply → Conf
    with_more more = At here given operands calls (record σ { replies = σ.replies ++ more })

    abbrev next_with : Later Point
    next_with x xs = res_of (step τ functions (with_more (x ∷ xs)))

    abbrev Reads : Kind → Loc → Type 0
    Reads = ReadsHere o past v me budget one functions declared fitting here operands

    read_here : (l : Loc) (s : Bool) (υ : State) (kind : Option Kind) → ReadsWell o past Reads l kind
        → step τ functions from ≡ Halt (Wants (act.Read l s)) υ → ReadsKind τ functions from l s kind
    read_here l s υ (Some k) h e = record {
      count = 0;
      at = here;
      given = given;
      operands = operands;
      calls = calls;
      before = σ;
      after = υ;
      leads = refl;
      wants = e;
      reads = h.1;
    }
    read_here l s υ None h e = absurd h

    -- What is wanted at this instruction is read by it.
    reads_here : (kind : Option Kind) (a : Action) (υ : State) → IsWellFormed o past Reads kind a
        → step τ functions from ≡ Halt (Wants a) υ → IsReadAs τ functions from kind a
    reads_here kind (act.Read l s) υ h e = read_here l s υ kind h e
    reads_here kind (act.Write s l w) υ h e = tt
    reads_here kind (act.Lock l) υ h e = tt
    reads_here kind (act.Attempt l) υ h e = tt
    reads_here kind (act.Unlock l) υ h e = tt
    reads_here kind (act.LockFree l) υ h e = tt
    reads_here kind (act.Free p) υ h e = tt
    reads_here kind (act.Meet c args) υ h e = tt
    reads_here kind act.Fence υ h e = tt
    reads_here kind act.Beat υ h e = tt
    reads_here kind (act.Notify m) υ h e = tt
    reads_here kind (act.Wait m) υ h e = tt
    reads_here kind act.LockMake υ h e = tt
    reads_here kind (act.Alloc n b home shape) υ h e = tt
    reads_here kind (act.Print x) υ h e = tt
    reads_here kind (act.Exit w) υ h e = tt

    read_later : (l : Loc) (s : Bool) (c : Conf) (kind : Option Kind) → step τ functions from ≡ c
        → ReadsKind τ functions c l s kind → ReadsKind τ functions from l s kind
    read_later l s c (Some k) e h = record {
      count = suc h.count;
      at = h.at;
      given = h.given;
      operands = h.operands;
      calls = h.calls;
      before = h.before;
      after = h.after;
      leads = ap (λ d. steps τ functions h.count d) e ∙ h.leads;
      wants = h.wants;
      reads = h.reads;
    }
    read_later l s c None e h = absurd h

    -- What is wanted after this instruction is read by its own.
    reads_later : (kind : Option Kind) (a : Action) (c : Conf) → step τ functions from ≡ c
        → IsReadAs τ functions c kind a → IsReadAs τ functions from kind a
    reads_later kind (act.Read l s) c e h = read_later l s c kind e h
    reads_later kind (act.Write s l w) c e h = tt
    reads_later kind (act.Lock l) c e h = tt
    reads_later kind (act.Attempt l) c e h = tt
    reads_later kind (act.Unlock l) c e h = tt
    reads_later kind (act.LockFree l) c e h = tt
    reads_later kind (act.Free p) c e h = tt
    reads_later kind (act.Meet n args) c e h = tt
    reads_later kind act.Fence c e h = tt
    reads_later kind act.Beat c e h = tt
    reads_later kind (act.Notify m) c e h = tt
    reads_later kind (act.Wait m) c e h = tt
    reads_later kind act.LockMake c e h = tt
    reads_later kind (act.Alloc n b home shape) c e h = tt
    reads_later kind (act.Print x) c e h = tt
    reads_later kind (act.Exit w) c e h = tt

    module _ (p : Outcome) (a : Action) (w : p.«end» ≡ Wants a) where
      halted : (e : ToldEnd) (υ : State) → step τ functions from ≡ Halt e υ → EndsWell o past Reads e υ next_with
          → GrownTo σ υ → told_by e υ ≡ p → IsWanted p a (total σ) from with_more
      halted (Wants b) υ q h g t =
          let same = same_action b a (ap (λ d. d.«end») t ∙ w) in
          let acts = ap (λ d. d.actions) t in
          let n = ap length acts in
          let none = ap length h.none in
          let all = g.1 in
          subst (λ c. IsWanted p c (total σ) from with_more) same
          (record {
            kind = h.kind;
            formed = any_formed o past Reads h.kind b h.formed;
            reads = reads_here h.kind b υ h.formed q;
            heard = omega arith;
            fit = λ r f. (
              1,
              subst (λ l. Begins (l ++ b ∷ []) (state_of (step τ functions (with_more (r ∷ [])))).actions) acts
                  (reached_state (υ.actions ++ b ∷ []) (step τ functions (with_more (r ∷ []))) (h.fit r [] f)),
            );
            misfit = λ r f. (
              1,
              missed_at p υ.actions (step τ functions (with_more (r ∷ []))) acts (h.misfit r [] f),
            );
          })
      halted (Misfit k) υ q h g t = let d = ap (λ d. d.«end») t ∙ w in absurd cc
      halted (Ended n) υ q h g t = let d = ap (λ d. d.«end») t ∙ w in absurd cc
      halted (Exit n) υ q h g t = let d = ap (λ d. d.«end») t ∙ w in absurd cc
      halted (Fault code at) υ q h g t = let d = ap (λ d. d.«end») t ∙ w in absurd cc
      halted OutOfTicks υ q h g t = let d = ap (λ d. d.«end») t ∙ w in absurd cc

  wanted_from : (n : ℕ) (here : Spot) (given operands : List Value) (calls : List Spot) (σ : State)
      → AllKnown o past given × AllKnown o past operands → IsGood o past AnyRead σ → (p : Outcome) (a : Action)
      → (w : p.«end» ≡ Wants a) → HasEnded (steps τ functions n (At here given operands calls σ)) p
      → IsWanted p a (total σ) (At here given operands calls σ) (with_more here given operands calls σ)
  wanted_from zero here given operands calls σ k good p a w h = absurd h
  wanted_from (suc n) here given operands calls σ k good p a w h =
      let s = step_asks o past v me budget one functions declared fitting here given operands calls in
      by_next (step τ functions (At here given operands calls σ)) refl
      (s.by k σ (record { store = good.store; replies = good.replies }))
      (s.grows σ) h (wanted_from n)
    where
      by_next : (c : Conf) → step τ functions (At here given operands calls σ) ≡ c
          → Comes o past (Reads here given operands calls σ) (Stands o past) (res_of c)
          (next_with here given operands calls σ) → Grown σ (res_of c)
          → HasEnded (steps τ functions n c) p
          → ((at : Spot) (vs ws : List Value) (back : List Spot) (υ : State)
          → AllKnown o past vs × AllKnown o past ws → IsGood o past AnyRead υ → (q : Outcome) (b : Action)
          → (z : q.«end» ≡ Wants b) → HasEnded (steps τ functions n (At at vs ws back υ)) q
          → IsWanted q b (total υ) (At at vs ws back υ) (with_more at vs ws back υ))
          → IsWanted p a (total σ) (At here given operands calls σ) (with_more here given operands calls σ)
      by_next (At at vs ws back υ) d c g e next =
          let i = next at vs ws back υ c.0 (record { store = c.1.store; replies = c.1.replies }) p a w e in
          let all = g.1 in
          let m = i.heard in
          record {
            kind = i.kind;
            formed = i.formed;
            reads = reads_later here given operands calls σ i.kind a (At at vs ws back υ) d i.reads;
            heard = omega arith;
            fit = λ r f.
                let j = i.fit r f in
                let there = step τ functions (At here given operands calls (plus σ r [])) in
                let same : there ≡ At at vs ws back (plus υ r []) =
                sym (conf_is there) ∙ ap conf_of (c.2 r []) in (
                  suc j.0,
                  subst (λ d. Begins (p.actions ++ a ∷ []) (state_of (steps τ functions j.0 d)).actions) (sym same) j.1,
                );
            misfit = λ r f.
                let j = i.misfit r f in
                let there = step τ functions (At here given operands calls (plus σ r [])) in
                let same : there ≡ At at vs ws back (plus υ r []) =
                sym (conf_is there) ∙ ap conf_of (c.2 r []) in (
                  suc j.0,
                  subst (λ d. HasMissed p (steps τ functions j.0 d)) (sym same) j.1,
                );
          }
      by_next (Halt e υ) d c g h next =
          halted here given operands calls σ p a w e υ d c g
          (subst (λ d. HasEnded d p) (steps_ended τ functions n e υ) h)

-- What the proofs need of a thread of code: it begins with some threads and shapes of shared elements, and its code
-- names nothing but what is declared.
pub record IsRun (o : Opening) (codes : Codes) (thread budget : ℕ) (f : List Reply → Outcome) : Type 0 where
  pub ground : IsGround o
  pub code : IsCode codes
  pub declared : NamesDeclared o codes
  pub fitting : Each (Each (IsFitting o.threads o.shapes)) codes.functions
  pub known : Each (λ x. IsInRange o x.1) codes.private_initials
  pub number : thread < codes.threads
  pub means : (replies : List Reply) → CodeMeans codes thread budget replies (f replies)

module _ (o : Opening) (codes : Codes) (thread budget : ℕ) (f : List Reply → Outcome)
    (h : IsRun o codes thread budget f) where
  same_thread : thread_of codes thread budget ≡ runner o thread budget
  same_thread =
      λ i. record { number = thread; threads = h.declared.threads i; budget = budget; shapes = h.declared.shapes i }

  pub one : thread < o.threads
  one = subst (λ n. thread < n) h.declared.threads h.number

  -- How many instructions lead to the end.
  count_of : List Reply → ℕ
  count_of replies = (h.means replies).count

  ended : (replies : List Reply)
      → HasEnded (steps (runner o thread budget) codes.functions (count_of replies) (beginning codes replies))
      (f replies)
  unfolding count_of
  ended replies =
      subst (λ t. HasEnded (steps t codes.functions (count_of replies) (beginning codes replies)) (f replies))
      same_thread
      (h.means replies).ended

  module _ (rs : List Reply) (a : Action) (w : (f rs).«end» ≡ Wants a) where
    abbrev origin : Spot
    origin = record { function = 0; place = 0 }

    pub is_wanted : IsWanted o rs h.ground thread budget one codes.functions h.declared.pushed h.fitting (f rs) a
        (total (initial_state codes rs)) (beginning codes rs) (λ more. beginning codes (rs ++ more))
    is_wanted =
        wanted_from o rs h.ground thread budget one codes.functions h.declared.pushed h.fitting (count_of rs) origin []
        [] [] (initial_state codes rs) (tt, tt)
        (record {
          store = begun_filled o rs codes.private_shapes codes.private_initials h.declared.initials h.known
              h.code.private.fit;
          replies = all_heard o rs;
        })
        (f rs) a w (ended rs)

    pub heard_all : length (f rs).actions ≡ length rs
    heard_all = let heard = is_wanted.heard in omega arith

    pub taken : (r : Reply) → fits o.threads o.shapes is_wanted.kind a r ≡ true
        → (f (rs ++ r ∷ [])).actions ≡ (f rs).actions ++ a ∷ []
    taken r fit =
        let τ = runner o thread budget in
        let k = is_wanted.fit r fit in
        let first = beginning codes (rs ++ r ∷ []) in
        let n = count_of (rs ++ r ∷ []) in
        let end = steps τ codes.functions n first in
        let grow = steps_grow o rs h.ground thread budget one codes.functions h.declared.pushed h.fitting in
        let acts = ended_actions end (f (rs ++ r ∷ [])) (ended (rs ++ r ∷ [])) in
        let further = steps τ codes.functions n (steps τ codes.functions k.0 first) in
        let swap : k.0 + n ≡ n + k.0 = omega arith in
        let same : further ≡ end =
        sym (steps_add τ codes.functions k.0 n first) ∙ ap (λ m. steps τ codes.functions m first) swap
        ∙ steps_add τ codes.functions n k.0 first
        ∙ ended_stays τ codes.functions k.0 end (f (rs ++ r ∷ [])) (ended (rs ++ r ∷ [])) in
        let begins : Begins ((f rs).actions ++ a ∷ []) (f (rs ++ r ∷ [])).actions =
        subst (λ l. Begins ((f rs).actions ++ a ∷ []) l) (ap (λ c. (state_of c).actions) same ∙ acts)
        (begins_on ((f rs).actions ++ a ∷ []) (state_of (steps τ codes.functions k.0 first)).actions
        (state_of further).actions k.1 (grow n (steps τ codes.functions k.0 first)).0) in
        let all = (grow n first).1 in
        let many = ap length acts in
        let heard = is_wanted.heard in
        let one = length_push rs r in
        let more = length_push (f rs).actions a in
        all_of ((f rs).actions ++ a ∷ []) (f (rs ++ r ∷ [])).actions begins (omega arith)

    pub missed : (r : Reply) → fits o.threads o.shapes is_wanted.kind a r ≡ false
        → ((f (rs ++ r ∷ [])).«end» ≡ Misfit (length rs)) × ((f (rs ++ r ∷ [])).actions ≡ (f rs).actions)
    missed r misfit =
        let τ = runner o thread budget in
        let k = is_wanted.misfit r misfit in
        let first = beginning codes (rs ++ r ∷ []) in
        let n = count_of (rs ++ r ∷ []) in
        let q = f (rs ++ r ∷ []) in
        let end = steps τ codes.functions n first in
        let swap : n + k.0 ≡ k.0 + n = omega arith in
        let same : end ≡ steps τ codes.functions n (steps τ codes.functions k.0 first) =
        sym (ended_stays τ codes.functions k.0 end q (ended (rs ++ r ∷ [])))
        ∙ sym (steps_add τ codes.functions n k.0 first) ∙ ap (λ m. steps τ codes.functions m first) swap
        ∙ steps_add τ codes.functions k.0 n first in
        let m = missed_stays τ codes.functions n (steps τ codes.functions k.0 first) (f rs) q k.1
        (subst (λ c. HasEnded c q) same (ended (rs ++ r ∷ []))) in
        (m.0 ∙ ap Misfit heard_all, m.1)

-- What an opening has of the ground.
ground_of : (o : Opening) → IsOpening o → IsGround o
ground_of o v = record { least = v.least; most = v.most; shapes = v.shapes; sharable = v.sharable }

run_of : (o : Opening) (codes : Codes) (thread budget : ℕ) (f : List Reply → Outcome)
    → IsThreadOf o codes thread budget f → IsRun o codes thread budget f
run_of o codes thread budget f h = record {
  ground = ground_of o h.opening;
  code = h.code;
  declared = h.declared;
  fitting = subst (λ (n : ℕ). Each (Each (IsFitting n o.shapes)) codes.functions) h.declared.threads
      (subst (λ (ss : List Shape). Each (Each (IsFitting codes.threads ss)) codes.functions) h.declared.shapes
      h.code.fitting);
  known = subst (λ (n : ℕ). Each (λ (x : LocalPtr × Value). IsKnown n o.shapes x.1) codes.private_initials)
      h.declared.threads
      (subst (λ (ss : List Shape). Each (λ (x : LocalPtr × Value). IsKnown codes.threads ss x.1) codes.private_initials)
      h.declared.shapes h.code.known);
  number = h.number;
  means = h.means;
}

-- On no reply the thread does nothing.
pub begins_empty : (o : Opening) (codes : Codes) (thread budget : ℕ) (f : List Reply → Outcome)
    → IsThreadOf o codes thread budget f → (f []).actions ≡ []
begins_empty o codes thread budget f t =
    let h = run_of o codes thread budget f t in
    let first = beginning codes [] in
    let n = count_of o codes thread budget f h [] in
    let grow =
    steps_grow o [] h.ground thread budget (one o codes thread budget f h) codes.functions h.declared.pushed
    h.fitting n first in
    let end = steps (runner o thread budget) codes.functions n first in
    let acts = ended_actions end (f []) (ended o codes thread budget f h []) in
    let all = grow.1 in
    let many = ap length acts in
    none_left (f []).actions (omega arith)

module _ (o : Opening) (codes : Codes) (thread budget : ℕ) (f : List Reply → Outcome)
    (t : IsThreadOf o codes thread budget f) (rs : List Reply) (es : List Entry) (a : Action)
    (w : (f rs).«end» ≡ Wants a) (has : HasGiven o es rs) where
  abbrev run : IsRun o codes thread budget f
  run = run_of o codes thread budget f t

  abbrev wish : IsWanted o rs run.ground thread budget (one o codes thread budget f run) codes.functions
      run.declared.pushed run.fitting (f rs) a (total (initial_state codes rs)) (beginning codes rs)
      (λ more. beginning codes (rs ++ more))
  wish = is_wanted o codes thread budget f run rs a w

  fits_so : (r : Reply) → history.fits_after o es a r ≡ fits o.threads o.shapes wish.kind a r
  fits_so r = fits_there o es t.opening has.legal rs has.known AnyRead wish.kind a wish.formed r

  formed_so : history.IsWellFormed o es a
  formed_so = formed_there o es t.opening has.legal rs has.known AnyRead wish.kind a wish.formed

  named_so : NamesGiven o.declared rs a
  named_so = names_given o rs AnyRead wish.kind a wish.formed

  taken_so : (r : Reply) → history.fits_after o es a r ≡ true
      → (f (rs ++ r ∷ [])).actions ≡ (f rs).actions ++ a ∷ []
  taken_so r fit = taken o codes thread budget f run rs a w r (sym (fits_so r) ∙ fit)

  missed_so : (r : Reply) → history.fits_after o es a r ≡ false
      → ((f (rs ++ r ∷ [])).«end» ≡ Misfit (length rs)) × ((f (rs ++ r ∷ [])).actions ≡ (f rs).actions)
  missed_so r misfit = missed o codes thread budget f run rs a w r (sym (fits_so r) ∙ misfit)

pub asks_well : (o : Opening) (codes : Codes) (thread budget : ℕ) (f : List Reply → Outcome)
    → IsThreadOf o codes thread budget f → AsksWell o f
asks_well o codes thread budget f t = record {
  goes = λ rs before a r w has fit. taken_so o codes thread budget f t rs before a w has r fit;
  misfits = λ rs before a r w has misfit. missed_so o codes thread budget f t rs before a w has r misfit;
  formed = λ rs before a w has. formed_so o codes thread budget f t rs before a w has;
  names = λ rs before a w has. named_so o codes thread budget f t rs before a w has;
}
