-- What may be asked of a run, and what would get a reply.
use Rattle.std.proofs.Common.{◌≡◌, ℕ, Bool, true, false, List, Option, Some, None, is_some, refl, sym, ap, ◌∙◌}
use Rattle.std.proofs.lemmas.Bool.{false≢true}
use Rattle.upc_values.specs.declared.action.Action.{Action}
use Rattle.upc_values.specs.declared.action.Action.TheVariants as act
use Rattle.upc_values.specs.declared.action.Reply.{Reply}
use Rattle.upc_values.specs.declared.journal.Entry.{Entry}
use Rattle.upc_values.specs.Openings.{Opening}
use Rattle.upc_values.specs.History.{reply}
use Rattle.upc_values.specs.Formed.{IsWellFormed}
use Rattle.upc_values.proofs.Legality.{unlawful-waits}
use Rattle.replica_space_quiet.specs.layer.Loud.{is_access, loud}
use Rattle.replica_space_quiet.proofs.Quiet.{formed-loud, replies-loud}

some-reply : (b : Bool) (r : Option Reply) → b ≡ false → (r ≡ None → b ≡ true) → is_some r ≡ true
some-reply b (Some r) f h = refl
some-reply b None f h = absurd (false≢true (sym f ∙ h refl))

-- a read or write that is well formed has a reply
access-goes : (o : Opening) (es : List Entry) (t : ℕ) (a : Action) → is_access a ≡ true → IsWellFormed o es a → is_some (reply o es t a) ≡ true
access-goes o es t (act.Read l s) e f = some-reply false (reply o es t (act.Read l s)) refl (unlawful-waits o es t (act.Read l s) f)
access-goes o es t (act.Write s l v) e f = refl
access-goes o es t a e f = absurd (false≢true e)

-- without reads and writes the same actions have replies
pub goes-loud : (o : Opening) (es : List Entry) (t : ℕ) (a : Action) → IsWellFormed o es a → is_some (reply o (loud es) t a) ≡ is_some (reply o es t a)
goes-loud o es t a f = go (is_access a) refl
  where
    go : (b : Bool) → is_access a ≡ b → is_some (reply o (loud es) t a) ≡ is_some (reply o es t a)
    go true e = access-goes o (loud es) t a e (formed-loud o es a ∙ f) ∙ sym (access-goes o es t a e f)
    go false e = ap is_some (replies-loud o es t a e)
