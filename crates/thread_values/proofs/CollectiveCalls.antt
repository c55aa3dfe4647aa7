-- Collective calls by their arguments.
use Rattle.std.proofs.Common.{◌≡◌, ℕ, true, false, Bool, ◌&&◌, subst, List, Option, Some, refl, ap}
use Rattle.std.proofs.lemmas.Option.{same_Some}
use Rattle.std.specs.Prelude.{is_some}
use Rattle.block_layout.specs.declared.kind.Shape.{Shape}
use Rattle.upc_values.specs.declared.scalar.Value.{Value}
use Rattle.upc_values.specs.declared.library.ElementKind.{ElementKind}
use Rattle.upc_values.specs.declared.library.LibraryCall.{LibraryCall}
use Rattle.upc_values.specs.declared.library.LibraryCall.TheVariants as call
use Rattle.upc_values.specs.Calls.{call_of}
use Rattle.upc_values.specs.Expansions.{collective}
use Rattle.upc_values.specs.LibraryCalls.{library_call, gives_zero, meet_number}
use Rattle.thread_steps.specs.Library.{is_formed, is_call}
use Rattle.thread_steps.specs.layer.Parts.{is_exit}
use Rattle.thread_values.specs.layer.Collectives.{collective_number, scalars_met}

-- What holds of the eight calls, by their numbers, holds of each.
pub by_number : (P : LibraryCall → ℕ → Type 0) → P call.Broadcast 5 → P call.Scatter 6 → P call.Gather 7
    → P call.GatherAll 8 → P call.Exchange 9 → P call.Permute 10 → ((k : ElementKind) → P (call.Reduce k) 11)
    → ((k : ElementKind) → P (call.PrefixReduce k) 12)
    → (c : LibraryCall) (n : ℕ) → collective_number c ≡ Some n → P c n
by_number P a b d e f g r s call.Broadcast n h = subst (P call.Broadcast) (same_Some _ _ h) a
by_number P a b d e f g r s call.Scatter n h = subst (P call.Scatter) (same_Some _ _ h) b
by_number P a b d e f g r s call.Gather n h = subst (P call.Gather) (same_Some _ _ h) d
by_number P a b d e f g r s call.GatherAll n h = subst (P call.GatherAll) (same_Some _ _ h) e
by_number P a b d e f g r s call.Exchange n h = subst (P call.Exchange) (same_Some _ _ h) f
by_number P a b d e f g r s call.Permute n h = subst (P call.Permute) (same_Some _ _ h) g
by_number P a b d e f g r s (call.Reduce k) n h = subst (P (call.Reduce k)) (same_Some _ _ h) (r k)
by_number P a b d e f g r s (call.PrefixReduce k) n h = subst (P (call.PrefixReduce k)) (same_Some _ _ h) (s k)
by_number P a b d e f g r s other n h = absurd (cc)

pub collective_no_exit : (c : LibraryCall) (n : ℕ) → collective_number c ≡ Some n → is_exit c ≡ false
collective_no_exit c n h =
    by_number (λ c n. is_exit c ≡ false) refl refl refl refl refl refl (λ k. refl) (λ k. refl) c n h

pub collective_meets : (c : LibraryCall) (n : ℕ) → collective_number c ≡ Some n → is_some (meet_number c) ≡ true
collective_meets c n h =
    by_number (λ c n. is_some (meet_number c) ≡ true) refl refl refl refl refl refl (λ k. refl) (λ k. refl) c n h

and_true : (b : Bool) → b ≡ true → (b && true) ≡ true
and_true b h = ap (λ b. b && true) h

-- All threads may meet with such arguments.
pub collective_formed : (shapes : List Shape) (shape : ℕ) (args : List Value) (c : LibraryCall) (n : ℕ)
    → collective_number c ≡ Some n → is_call (call_of n (scalars_met c args)) ≡ true
    → is_formed shapes c shape args ≡ true
collective_formed shapes shape args c n h =
    by_number (λ c n. is_call (call_of n (scalars_met c args)) ≡ true → is_formed shapes c shape args ≡ true)
    (λ f. and_true _ f) (λ f. and_true _ f) (λ f. and_true _ f) (λ f. and_true _ f) (λ f. and_true _ f) (λ f. and_true _ f)
    (λ k f. and_true _ f) (λ k f. and_true _ f) c n h

-- The call does what its number says.
pub collective_means : (threads : ℕ) (shapes : List Shape) (me : ℕ) (private : ℕ → Option Shape) (shape : ℕ)
    (args : List Value) (c : LibraryCall) (n : ℕ) → collective_number c ≡ Some n
    → library_call threads shapes me private c shape args
    ≡ gives_zero (collective threads shapes me n (scalars_met c args))
collective_means threads shapes me private shape args c n h =
    by_number (λ c n. library_call threads shapes me private c shape args
    ≡ gives_zero (collective threads shapes me n (scalars_met c args)))
    refl refl refl refl refl refl (λ k. refl) (λ k. refl) c n h
