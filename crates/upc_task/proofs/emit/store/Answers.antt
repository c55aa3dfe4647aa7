use Rattle.std.proofs.Common.{◌+◌, false, refl, sym, subst}
use Rattle.std.proofs.lemmas.Bool.{false≢true}
use Rattle.upc_values.specs.declared.action.Action.TheVariants.{Write}
use Rattle.upc_values.specs.declared.action.Reply.TheVariants.{Done}
use Rattle.upc_values.specs.Drain.{gone, entry_of}
use Rattle.upc_task.specs.layer.Kept.{Holds}
use Rattle.upc_task.proofs.Buffers.{holds-kept, holds-overflown}
use Rattle.upc_task.proofs.emit.store.Goals as goal

pub returns-in_ok-commit-clause-holds : goal.returns-in_ok-commit-clause-holds
returns-in_ok-commit-clause-holds c = λ w k.
    let o = c.args.world.now.0 in let t = c.args.thread in let n = c.args.next in let l = c.args.loc in let v = c.args.value in
    let f = c.in-Some.ensures.full.0 refl in
    subst (λ h. Holds o t h c.store.new.self (n + 1) (gone (entry_of t n (Write false l v) Done) (Write false l v) w))
    (sym c.in_ok-commit.ensures.one)
    (holds-overflown o t n l v c.args.world.now.1 c.args.buffer.now c.store.new.self c.in-Some.oldest w f.1 f.0
    (c.in-Some.ensures.moved f.1) c.requires.asked k)

pub returns-in_default-clause-holds : goal.returns-in_default-clause-holds
returns-in_default-clause-holds c = λ w k.
    let e = c.in_default.ensures in
    holds-kept c.args.world.now.0 c.args.thread c.args.next c.args.loc c.args.value c.args.world.now.1 c.args.buffer.now c.store.new.self w
    (λ some. (e.combined some).1) e.moved (λ many none. false≢true (e.full.1 (many, none))) c.requires.asked k
