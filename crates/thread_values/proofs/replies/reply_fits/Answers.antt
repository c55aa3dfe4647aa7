use Rattle.thread_values.proofs.replies.reply_fits.Goals as goal

pub returns-in-Attempt-clause-value : goal.returns-in-Attempt-clause-value
returns-in-Attempt-clause-value c =
    rw c.in-Attempt.is (c.fits_attempt.ensures.value c.args.threads c.in-Attempt.field-0 c.args.shapes.now)

pub returns-in-Attempt-clause-held : goal.returns-in-Attempt-clause-held
returns-in-Attempt-clause-held c = c.fits_attempt.ensures.held c.args.threads c.args.shapes.now

pub returns-in-LockMake-clause-value : goal.returns-in-LockMake-clause-value
returns-in-LockMake-clause-value c =
    rw c.in-LockMake.is (c.is_new_lock.ensures.value c.args.threads c.args.shapes.now)

pub returns-in-LockMake-clause-held : goal.returns-in-LockMake-clause-held
returns-in-LockMake-clause-held c = c.is_new_lock.ensures.held c.args.threads c.args.shapes.now
