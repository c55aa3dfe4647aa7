use Rattle.std.proofs.Common.{◌≡◌, ◌+◌, length, ap, ◌∙◌, arith}
use Rattle.std.proofs.lemmas.List.{length_push}
use Rattle.upc_values.specs.Records.{replies_of}
use Rattle.upc_values.specs.Orders.{record_of}
use Rattle.typed_tree.specs.ViewProgram.{view_program}
use Rattle.upc_verify.specs.Verdicts.{meaning}
use Rattle.upc_verify.proofs.Meanings.{meant-more}
use Rattle.upc_verify.proofs.meant.all_meant.Goals as goal

pub loop-thread-preserved : goal.loop-thread-preserved
loop-thread-preserved c =
    let j = c.args.journal.now in
    let program = view_program c.args.program.now in
    let before = c.loop-thread.list.items in
    let inv = c.loop-thread.invariant in
    record {
      many = ap length c.in_ok-push.ensures.items ∙ length_push before c.in_ok-one.one ∙ ap (λ n. n + 1) inv.many;
      each = meant-more before c.push.new.self.items c.in_ok-one.one c.loop-thread.thread
          (λ t. meaning program j.budget t (replies_of (record_of j t))) c.in_ok-push.ensures.items inv.many inv.each
          c.in_ok-one.ensures;
    }

pub returns : goal.returns
returns c =
    let inv = c.loop-thread.invariant in
    record {
      many = let m = inv.many in omega arith;
      each = λ t lt. inv.each t (omega arith);
    }
