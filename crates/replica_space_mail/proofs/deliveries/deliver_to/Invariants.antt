use Rattle.std.proofs.Common.{◌≡◌, ◌≤◌, ◌<◌, ◌+◌, ◌++◌, ◌==◌, ◌&&◌, ℕ, nat_lt, cond, []}
use Rattle.upc_values.specs.Openings.{Opening}
use Rattle.replica_space_copies.specs.layer.Copies.{space_of, IsSteady}
use Rattle.replica_space_mail.specs.layer.Deliveries.{Follows, mail_in, deliveries_to}
use Rattle.replica_space_mail.proofs.deliveries.deliver_to.Given as goal

abbrev pub invariant-loop-from : goal.invariant-loop-from
invariant-loop-from l = record {
  steady : IsSteady l.initial.copies l.copies;
  events : l.events.items ≡ l.initial.events.items ++ deliveries_to l.by l.to l.from (space_of l.initial.copies);
  mail : (u v : ℕ) → u < l.threads → v < l.threads → mail_in l.copies u v ≡ cond ((u == l.to) && nat_lt v l.from) [] (mail_in l.initial.copies u v);
  follows : (o : Opening) → Follows o l.initial.copies l.initial.events.items → Follows o l.copies l.events.items;
  room : (k : ℕ) → k + l.initial.copies.waiting ≤ l.initial.events.room → k + l.copies.waiting ≤ l.events.room;
}
