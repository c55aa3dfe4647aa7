use Rattle.thread_values.proofs.casts.cast.Goals as goal

pub returns-in-Shared-clause-value : goal.returns-in-Shared-clause-value
returns-in-Shared-clause-value c τ e = rw c.in-Shared.is (c.to_shared.ensures.value τ)

pub returns-in-OtherBlock-clause-value : goal.returns-in-OtherBlock-clause-value
returns-in-OtherBlock-clause-value c τ e = rw c.in-OtherBlock.is (c.to_other_block.ensures.value τ)

pub returns-in-Lock-clause-value : goal.returns-in-Lock-clause-value
returns-in-Lock-clause-value c τ e = rw c.in-Lock.is (c.to_lock.ensures.value τ)

pub returns-in-Lock-clause-held : goal.returns-in-Lock-clause-held
returns-in-Lock-clause-held c threads shapes h = c.to_lock.ensures.held threads shapes
