use Rattle.std.proofs.Common.{◌≡◌, ◌≤◌, ◌<◌, ◌+◌, ◌++◌, ◌==◌, ◌&&◌, ℕ, false}
use Rattle.upc_values.specs.Openings.{Opening}
use Rattle.replica_space_copies.specs.layer.Copies.{threads_of, IsSteady}
use Rattle.replica_space_mail.specs.layer.Deliveries.{Follows, mail_in, deliveries}
use Rattle.replica_space_mail.proofs.deliveries.deliver_from.Given as goal

abbrev pub invariant-loop : goal.invariant-loop
invariant-loop l = record {
  steady : IsSteady l.initial.copies l.copies;
  events : l.events.items ++ deliveries l.by l.to l.from (mail_in l.copies l.to l.from)
      ≡ l.initial.events.items ++ deliveries l.by l.to l.from (mail_in l.initial.copies l.to l.from);
  mail : (u v : ℕ) → u < threads_of l.initial.copies → v < threads_of l.initial.copies → ((u == l.to) && (v == l.from)) ≡ false
      → mail_in l.copies u v ≡ mail_in l.initial.copies u v;
  follows : (o : Opening) → Follows o l.initial.copies l.initial.events.items → Follows o l.copies l.events.items;
  room : (k : ℕ) → k + l.initial.copies.waiting ≤ l.initial.events.room → k + l.copies.waiting ≤ l.events.room;
}

abbrev pub decreases-loop : goal.decreases-loop
decreases-loop l = l.copies.waiting
