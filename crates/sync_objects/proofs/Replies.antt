-- A lock's answers are the replies of a legal history.
use Rattle.std.proofs.Common.{◌≡◌, ℕ, List, Some, refl}
use Rattle.upc_values.specs.declared.action.Action.TheVariants as act
use Rattle.upc_values.specs.declared.journal.Entry.{Entry}
use Rattle.upc_values.specs.Openings.{Opening}
use Rattle.upc_values.specs.History.{reply}
use Rattle.sync_objects.specs.layer.Locks.{lock_answer, attempt_answer, unlock_answer, give_up_answer, lock_after}

pub lock-replies : (o : Opening) (es : List Entry) (t l : ℕ) → reply o es t (act.Lock l) ≡ lock_answer t (lock_after o es l)
lock-replies o es t l = refl

pub attempt-replies : (o : Opening) (es : List Entry) (t l : ℕ) → reply o es t (act.Attempt l) ≡ Some (attempt_answer (lock_after o es l))
attempt-replies o es t l = refl

pub unlock-replies : (o : Opening) (es : List Entry) (t l : ℕ) → reply o es t (act.Unlock l) ≡ Some (unlock_answer t (lock_after o es l))
unlock-replies o es t l = refl

pub give_up-replies : (o : Opening) (es : List Entry) (t l : ℕ) → reply o es t (act.LockFree l) ≡ Some (give_up_answer (lock_after o es l))
give_up-replies o es t l = refl
