-- Blocks that end one after the other.
use Rattle.std.proofs.Common.{◌≡◌, ℕ, zero, suc, ◌+◌, ◌-◌, ◌<◌, refl, ap, arith}
use Rattle.private_store.specs.Live.{Live, left}
use Rattle.thread_steps.specs.States.{State, Val}
use Rattle.thread_steps.specs.Blocks.{close_block}
use Rattle.stack_code.specs.layer.Steps.{close_blocks}
use Rattle.stack_machine.specs.code.Jumps.{lefts}

pub left_more : (n i : ℕ) (s : Live) → i < n → lefts (n - i) s ≡ lefts (n - (i + 1)) (left s)
left_more n i s h = let e : n - i ≡ suc (n - (i + 1)) = omega arith in ap (λ k. lefts k s) e

pub closes : (n : ℕ) (σ : State) → close_blocks n σ ≡ Val tt (record σ { store = lefts n σ.store })
unfolding close_block
closes zero σ = refl
closes (suc n) σ = closes n (record σ { store = left σ.store })
