use Rattle.std.proofs.Common.{◌≡◌, ◌≤◌, ◌<◌, ◌+◌, ◌++◌, ℕ, nat_lt, cond, []}
use Rattle.upc_values.specs.Openings.{Opening}
use Rattle.replica_space_copies.specs.layer.Copies.{space_of, IsSteady}
use Rattle.replica_space_mail.specs.layer.Deliveries.{Follows, mail_in, all_deliveries}
use Rattle.replica_space_mail.proofs.deliveries.deliver_all.Given as goal

abbrev pub invariant-loop-to : goal.invariant-loop-to
invariant-loop-to l = record {
  steady : IsSteady l.initial.copies l.copies;
  events : l.events.items ≡ l.initial.events.items ++ all_deliveries l.by l.threads l.to (space_of l.initial.copies);
  mail : (u v : ℕ) → u < l.threads → v < l.threads → mail_in l.copies u v ≡ cond (nat_lt u l.to) [] (mail_in l.initial.copies u v);
  follows : (o : Opening) → Follows o l.initial.copies l.initial.events.items → Follows o l.copies l.events.items;
  room : (k : ℕ) → k + l.initial.copies.waiting ≤ l.initial.events.room → k + l.copies.waiting ≤ l.events.room;
}
