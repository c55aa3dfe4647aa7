use Rattle.std.proofs.Common.{get_or, refl}
use Rattle.std.proofs.lemmas.List.{get_or_default}
use Rattle.upc_verify_stalls.specs.declared.walk.Watch.{Watch}
use Rattle.upc_verify_stalls.proofs.Watching.{due-all}
use Rattle.upc_verify_stalls.proofs.walk.pass.Goals as goal

abbrev none : Watch
none = record { passed = 0; justified = 0 }

pub returns : goal.returns
returns c = λ o points front looked.
    let e = c.args.entry.now in
    let ws = c.args.watches.now in
    let v = get_or ws e.thread none in
    let w : Watch = record { passed = c.in-Some.passed; justified = v.justified } in
    due-all o points front e ws v w c.requires.below (get_or_default ws e.thread none v c.requires.below) c.in-Some.ensures.1 refl looked
