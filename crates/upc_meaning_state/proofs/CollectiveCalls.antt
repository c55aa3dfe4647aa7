-- Collective calls that ask for many actions, reply by reply.
use Rattle.std.proofs.Common.{◌≡◌, ℕ, ◌<◌, Bool, true, false, pos, List, [], ◌∷◌, length, Option, Some, refl, sym, ap, ◌∙◌, subst, arith}
use Rattle.upc_text.specs.declared.place.Place.{Place}
use Rattle.block_layout.specs.declared.kind.Kind.{Kind}
use Rattle.upc_values.specs.declared.scalar.Scalar.{Scalar}
use Rattle.upc_values.specs.declared.scalar.Value.{Value}
use Rattle.upc_values.specs.declared.scalar.Value.TheVariants as value
use Rattle.upc_values.specs.declared.action.Action.{Action}
use Rattle.upc_values.specs.declared.action.Reply.{Reply}
use Rattle.upc_values.specs.declared.library.LibraryCall.{LibraryCall}
use Rattle.upc_values.specs.Calls as calls
use Rattle.upc_values.specs.Calls.{call_of}
use Rattle.upc_values.specs.Expansion.{Expansion, Gives, Fails, Reads, Asks, Loads, Stores}
use Rattle.upc_values.specs.Expansions.{collective}
use Rattle.upc_values.specs.Scalars.{zero}
use Rattle.upc_values.specs.LibraryCalls.{library_call, gives_zero}
use Rattle.thread_steps.specs.States.{Thread, State, Res, Val, Over, bind, give, skip, choose}
use Rattle.thread_steps.specs.Values.{number}
use Rattle.thread_steps.specs.Actions.{ask, answered, meet, exit}
use Rattle.thread_steps.specs.Accesses.{library_steps}
use Rattle.thread_steps.specs.Library.{library, called_library, formed_call, is_formed, is_call}
use Rattle.thread_steps.specs.layer.Parts.{first_number, private_shapes, answered_from}
use Rattle.thread_values.specs.layer.Collectives.{collective_number, scalars_met}
use Rattle.thread_values.proofs.CollectiveCalls.{collective_no_exit, collective_meets, collective_formed, collective_means}
use Rattle.upc_library.specs.layer.Wishes.{IsWish, kind_read}
use Rattle.upc_library.specs.declared.copying.CopyWish.TheVariants.{Act, Finished}
use Rattle.collectives.specs.layer.Wishes as together
use Rattle.collectives.specs.layer.Arguments.{copies_or_reduces}
use Rattle.collectives.specs.declared.wish.CollWish.TheVariants as wish
use Rattle.upc_meaning_state.specs.declared.progress.Step.{Step}
use Rattle.upc_meaning_state.specs.declared.progress.Step.TheVariants as step
use Rattle.upc_meaning_state.specs.declared.progress.Progress.{Progress}
use Rattle.upc_meaning_state.specs.code.Walking.{IsAnswered, IsTaken}
use Rattle.upc_meaning_state.specs.layer.Came.{Came, state_seen}
use Rattle.upc_meaning_state.specs.layer.Libraries.{expanded_to, met_then}
use Rattle.upc_meaning_state.proofs.Thens.{then_same}
use Rattle.upc_meaning_state.proofs.Walking.{act_gives, act_ends, finishes}

-- ---- a wish of a collective call as one of a memory call

wish_acts : (x : Expansion (Unit {0})) (a : Action) → together.IsWish x (wish.Act a) → IsWish x (Act a)
wish_acts (Reads l k go) a e = e
wish_acts (Asks c go) a e = e
wish_acts (Gives w) a e = absurd e
wish_acts (Fails c) a e = absurd e
wish_acts (Loads q j go) a e = absurd e
wish_acts (Stores q j w go) a e = absurd e

wish_ends : (x : Expansion (Unit {0})) → together.IsWish x wish.Finished → IsWish x Finished
wish_ends (Gives w) e = tt
wish_ends (Reads l k go) e = absurd e
wish_ends (Asks c go) e = absurd e
wish_ends (Fails c) e = absurd e
wish_ends (Loads q j go) e = absurd e
wish_ends (Stores q j w go) e = absurd e

kind_as : (x : Expansion (Unit {0})) → together.kind_read x ≡ kind_read x
kind_as (Gives w) = refl
kind_as (Reads l k go) = refl
kind_as (Asks c go) = refl
kind_as (Fails c) = refl
kind_as (Loads q j go) = refl
kind_as (Stores q j w go) = refl

-- ---- replies are taken

abbrev replies_after : Res Reply → List Reply
replies_after (Val r σ) = σ.replies
replies_after r = []

answered_takes : (b : Bool) (a : Action) (r s : Reply) (rest : List Reply) (σ υ : State)
    → answered b a r rest σ ≡ Val s υ → length υ.replies ≡ length rest
answered_takes true a r s rest σ υ h = ap (λ x. length (replies_after x)) (sym h)
answered_takes false a r s rest σ υ h = absurd (cc)

from_takes : (τ : Thread) (k : Option Kind) (a : Action) (rs : List Reply) (σ υ : State) (s : Reply)
    → answered_from τ k a rs σ ≡ Val s υ → length υ.replies < length rs
from_takes τ k a [] σ υ s h = absurd (cc)
from_takes τ k a (r ∷ rest) σ υ s h =
    let same = answered_takes _ a r s rest σ υ h in omega (arith, same)

ask_takes : (τ : Thread) (k : Option Kind) (a : Action) (σ υ : State) (s : Reply) → ask τ k a σ ≡ Val s υ
    → length υ.replies < length σ.replies
unfolding ask
ask_takes τ k a σ υ s h = from_takes τ k a σ.replies σ υ s h

-- ---- what is asked for is answered

module _ (τ : Thread) (at : Place) (σ : State) where
  pub answers_so : (x : Expansion (Unit {0})) (a : Action) (k : Option Kind) (s : Step Reply) (q : Progress)
      → together.IsWish x (wish.Act a) → k ≡ together.kind_read x → Came (ask τ k a σ) s q → IsAnswered τ at x σ s q
  answers_so x a k (step.Gives r) q h e came =
      act_gives τ at σ x a r (state_seen q) (wish_acts x a h)
      (subst (λ (k : Option Kind). ask τ k a σ ≡ Val r (state_seen q)) (e ∙ kind_as x) came)
  answers_so x a k (step.Ends end) q h e came =
      act_ends τ at σ x a end (state_seen q) (wish_acts x a h)
      (subst (λ (k : Option Kind). ask τ k a σ ≡ Over end (state_seen q)) (e ∙ kind_as x) came)

  pub takes_so : (a : Action) (k : Option Kind) (s : Step Reply) (q : Progress) → Came (ask τ k a σ) s q
      → IsTaken σ.replies s q
  takes_so a k (step.Gives r) q came = ask_takes τ k a σ (state_seen q) r came
  takes_so a k (step.Ends end) q came = tt

  pub ends_so : (x : Expansion (Unit {0})) → together.IsWish x wish.Finished
      → expanded_to τ at (gives_zero x) σ ≡ Val (value.Scalar zero) σ
  ends_so x h = finishes τ at σ x (wish_ends x h)

-- ---- the arguments

known_call : (c : calls.Call) → copies_or_reduces c ≡ true → is_call c ≡ true
known_call (calls.Copies w dst src n f) h = refl
known_call (calls.Permutes dst src perm n f) h = refl
known_call (calls.Reduces dst src op n b k f) h = refl
known_call (calls.Reduces_prefixes dst src op n b k f) h = refl
known_call (calls.Allocates n b s) h = refl
known_call calls.Makes_lock h = refl
known_call (calls.Frees p) h = refl
known_call (calls.Frees_lock l) h = refl
known_call calls.Other h = h

module _ (τ : Thread) (at : Place) (σ : State) (c : LibraryCall) (n shape : ℕ) (args : List Value) where
  called_so : collective_number c ≡ Some n → is_formed τ.shapes c shape args ≡ true
      → library τ c shape at args σ
      ≡ met_then true τ at (gives_zero (collective τ.threads τ.shapes τ.number n (scalars_met c args))) σ
  unfolding library
  called_so h f =
      ap (λ b. choose b (exit τ (first_number args)) (formed_call τ c shape at args) σ) (collective_no_exit c n h)
      ∙ ap (λ b. choose b (called_library τ c shape at args) (give (number (pos 0))) σ) f
      ∙ ap (λ b. bind (choose b (meet τ at) skip σ)
      (λ _ υ. bind (library_steps τ at (library_call τ.threads τ.shapes τ.number (private_shapes υ) c shape args) υ)
      (λ v. give (value.Scalar v)))) (collective_meets c n h)
      ∙ then_same (meet τ at σ)
      (λ _ υ. bind (library_steps τ at (library_call τ.threads τ.shapes τ.number (private_shapes υ) c shape args) υ)
      (λ v. give (value.Scalar v)))
      (λ _. expanded_to τ at (gives_zero (collective τ.threads τ.shapes τ.number n (scalars_met c args))))
      (λ _ υ. ap (λ x. bind (library_steps τ at x υ) (λ v. give (value.Scalar v)))
      (collective_means τ.threads τ.shapes τ.number (private_shapes υ) shape args c n h))

  pub meets_so : (met : List Scalar) → collective_number c ≡ Some n → met ≡ scalars_met c args
      → copies_or_reduces (call_of n met) ≡ true
      → library τ c shape at args σ
      ≡ met_then true τ at (gives_zero (collective τ.threads τ.shapes τ.number n met)) σ
  meets_so met h e f =
      called_so h (collective_formed τ.shapes shape args c n h
      (known_call (call_of n (scalars_met c args)) (subst (λ (l : List Scalar). copies_or_reduces (call_of n l) ≡ true) e f)))
      ∙ ap (λ l. met_then true τ at (gives_zero (collective τ.threads τ.shapes τ.number n l)) σ) (sym e)
