use Rattle.std.proofs.Common.{◌≡◌, ◌≤◌, length, rules, sym, subst}
use Rattle.upc_sample.specs.Sample as source
use Rattle.upc_sample.proofs.Lengths.{sample-length}
use Rattle.upc_sample.proofs.source.sample.Goals as goal

pub returns-clause-short : goal.returns-clause-short
returns-clause-short c =
    let text : c.add.new.text.items ≡ source.sample c.args.stages = search rules in
    let h = sample-length c.args.stages c.requires.most in
    subst (λ l. length l ≤ 1048576) (sym text) h
