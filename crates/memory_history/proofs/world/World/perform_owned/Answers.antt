use Rattle.std.proofs.Common.{rules, ◌≡◌, ◌+◌, ◌<◌, ◌^◌, ◌++◌, [], ◌∷◌, length, true, Some, sym, ap, subst, ◌∙◌}
use Rattle.std.specs.Prelude.{IfSome}
use Rattle.upc_values.specs.Drain.{entry_of}
use Rattle.upc_values.specs.History.{reply}
use Rattle.upc_values.specs.Formed.{IsWellFormed, fits_after}
use Rattle.upc_values.specs.layer.Known.{gives_known}
use Rattle.upc_values.proofs.Known.{lawful-known}
use Rattle.memory_history.specs.layer.World.{IsWorld}
use Rattle.memory_history.specs.layer.Turns.{takes_turn}
use Rattle.memory_history.specs.code.Acting.{answer, Acted}
use Rattle.memory_history.proofs.Fits.{reply-fits}
use Rattle.memory_history.proofs.Worlds.{world-acts, world-answers, world-acted}
use Rattle.memory_history.proofs.world.World.perform_owned.Goals as goal

pub act-requires : goal.act-requires
act-requires c =
    let t = c.args.thread in
    let x = c.args.action in
    let p = c.self.inside.parts in
    let es = c.self.inside.entries.items in
    let b : t < p.heap.opening.threads = subst (λ w. t < w.0.threads) (sym c.self.view_is) c.requires.below in
    let f : IsWellFormed p.heap.opening es x = subst (λ w. IsWellFormed w.0 w.1 x) (sym c.self.view_is) c.requires.formed in
    let u : takes_turn es t x ≡ true = subst (λ w. takes_turn w.1 t x ≡ true) (sym c.self.view_is) c.requires.turns in
    world-acts p es c.self.invariant t x b f u

pub returns-in_default-clause-reply : goal.returns-in_default-clause-reply
returns-in_default-clause-reply c =
    let t = c.args.thread in
    let x = c.args.action in
    let p = c.self.inside.parts in
    let es = c.self.inside.entries.items in
    let b : t < p.heap.opening.threads = subst (λ w. t < w.0.threads) (sym c.self.view_is) c.requires.below in
    let f : IsWellFormed p.heap.opening es x = subst (λ w. IsWellFormed w.0 w.1 x) (sym c.self.view_is) c.requires.formed in
    sym c.in_default.is ∙ c.in_ok-reply.ensures.answer ∙ sym (world-answers p es c.self.invariant t x b f)
    ∙ ap (λ w. reply w.0 w.1 t x) c.self.view_is

pub invariant_of-self-2 : goal.invariant_of-self-2
invariant_of-self-2 c =
    let t = c.args.thread in
    let x = c.args.action in
    let p = c.self.inside.parts in
    let es = c.self.inside.entries.items in
    let b : t < p.heap.opening.threads = subst (λ w. t < w.0.threads) (sym c.self.view_is) c.requires.below in
    let f : IsWellFormed p.heap.opening es x = subst (λ w. IsWellFormed w.0 w.1 x) (sym c.self.view_is) c.requires.formed in
    let u : takes_turn es t x ≡ true = subst (λ w. takes_turn w.1 t x ≡ true) (sym c.self.view_is) c.requires.turns in
    let r = c.in-Some.reply in
    let q = c.act.new.self in
    let answered : answer t x p ≡ Some r = sym c.in_ok-reply.ensures.answer ∙ c.in-Some.is in
    let acted : Acted t x r p q = subst (λ o. IfSome o (λ z. Acted t x z p q)) c.in-Some.is c.in_ok-reply.ensures.acted in
    let short : length es + 1 < 2 ^ 62 = search rules in
    let pushed : c.push_reserved.new.self.items ≡ es ++ entry_of t c.args.index x r ∷ [] = search rules in
    subst (IsWorld q) (sym pushed) (world-acted p es c.self.invariant t c.args.index x r q b f u answered acted short).1

pub returns-clause-reply : goal.returns-clause-reply
returns-clause-reply c =
    let t = c.args.thread in
    let x = c.args.action in
    let p = c.self.inside.parts in
    let es = c.self.inside.entries.items in
    let b : t < p.heap.opening.threads = subst (λ w. t < w.0.threads) (sym c.self.view_is) c.requires.below in
    let f : IsWellFormed p.heap.opening es x = subst (λ w. IsWellFormed w.0 w.1 x) (sym c.self.view_is) c.requires.formed in
    let r = c.in-Some.reply in
    let q = c.act.new.self in
    let answered : answer t x p ≡ Some r = sym c.in_ok-reply.ensures.answer ∙ c.in-Some.is in
    sym answered ∙ sym (world-answers p es c.self.invariant t x b f) ∙ ap (λ w. reply w.0 w.1 t x) c.self.view_is

pub returns-clause-fits : goal.returns-clause-fits
returns-clause-fits c =
    let t = c.args.thread in
    let x = c.args.action in
    let p = c.self.inside.parts in
    let es = c.self.inside.entries.items in
    let b : t < p.heap.opening.threads = subst (λ w. t < w.0.threads) (sym c.self.view_is) c.requires.below in
    let f : IsWellFormed p.heap.opening es x = subst (λ w. IsWellFormed w.0 w.1 x) (sym c.self.view_is) c.requires.formed in
    let r = c.in-Some.reply in
    let q = c.act.new.self in
    let answered : answer t x p ≡ Some r = sym c.in_ok-reply.ensures.answer ∙ c.in-Some.is in
    let lawful : reply p.heap.opening es t x ≡ Some r = world-answers p es c.self.invariant t x b f ∙ answered in
    let k = c.self.invariant.kept in
    subst (λ w. fits_after w.0 w.1 x r ≡ true) c.self.view_is
    (reply-fits p.heap.opening es t x r k.opening k.legal k.formed f lawful)

pub returns-clause-known : goal.returns-clause-known
returns-clause-known c =
    let t = c.args.thread in
    let x = c.args.action in
    let p = c.self.inside.parts in
    let es = c.self.inside.entries.items in
    let b : t < p.heap.opening.threads = subst (λ w. t < w.0.threads) (sym c.self.view_is) c.requires.below in
    let f : IsWellFormed p.heap.opening es x = subst (λ w. IsWellFormed w.0 w.1 x) (sym c.self.view_is) c.requires.formed in
    let u : takes_turn es t x ≡ true = subst (λ w. takes_turn w.1 t x ≡ true) (sym c.self.view_is) c.requires.turns in
    let r = c.in-Some.reply in
    let q = c.act.new.self in
    let answered : answer t x p ≡ Some r = sym c.in_ok-reply.ensures.answer ∙ c.in-Some.is in
    let lawful : reply p.heap.opening es t x ≡ Some r = world-answers p es c.self.invariant t x b f ∙ answered in
    let acted : Acted t x r p q = subst (λ o. IfSome o (λ z. Acted t x z p q)) c.in-Some.is c.in_ok-reply.ensures.acted in
    let short : length es + 1 < 2 ^ 62 = search rules in
    let pushed : c.push_reserved.new.self.items ≡ es ++ entry_of t c.args.index x r ∷ [] = search rules in
    let k = c.self.invariant.kept in
    let same = (world-acted p es c.self.invariant t c.args.index x r q b f u answered acted short).0 in
    subst (λ o. gives_known o c.push_reserved.new.self.items r ≡ true) (sym same)
    (subst (λ l. gives_known p.heap.opening l r ≡ true) (sym pushed)
    (lawful-known p.heap.opening es t c.args.index x r k.opening k.legal k.formed f lawful))

pub returns-clause-opening : goal.returns-clause-opening
returns-clause-opening c =
    let t = c.args.thread in
    let x = c.args.action in
    let p = c.self.inside.parts in
    let es = c.self.inside.entries.items in
    let b : t < p.heap.opening.threads = subst (λ w. t < w.0.threads) (sym c.self.view_is) c.requires.below in
    let f : IsWellFormed p.heap.opening es x = subst (λ w. IsWellFormed w.0 w.1 x) (sym c.self.view_is) c.requires.formed in
    let u : takes_turn es t x ≡ true = subst (λ w. takes_turn w.1 t x ≡ true) (sym c.self.view_is) c.requires.turns in
    let r = c.in-Some.reply in
    let q = c.act.new.self in
    let answered : answer t x p ≡ Some r = sym c.in_ok-reply.ensures.answer ∙ c.in-Some.is in
    let acted : Acted t x r p q = subst (λ o. IfSome o (λ z. Acted t x z p q)) c.in-Some.is c.in_ok-reply.ensures.acted in
    let short : length es + 1 < 2 ^ 62 = search rules in
    (world-acted p es c.self.invariant t c.args.index x r q b f u answered acted short).0 ∙ ap (λ w. w.0) c.self.view_is
