-- Each message in a copy or in the mail is a write that was well formed.
use Rattle.std.proofs.Common.{◌≡◌, ℕ, ◌==◌, ◌&&◌, true, false, not, List, [], ◌∷◌, ◌++◌, Option, Some, None, sym, ap, ◌∙◌, subst, append-nil, append_assoc}
use Rattle.std.specs.List.{cons_option}
use Rattle.std.proofs.lemmas.Bool.{and_parts, cond_both}
use Rattle.block_layout.specs.declared.place.Loc.{Loc}
use Rattle.upc_values.specs.declared.action.Action.{Action}
use Rattle.upc_values.specs.declared.action.Action.TheVariants as act
use Rattle.upc_values.specs.declared.journal.Entry.{Entry}
use Rattle.upc_values.specs.Lists.{Each}
use Rattle.upc_values.specs.Scalars.{same_loc}
use Rattle.upc_values.specs.Openings.{Opening}
use Rattle.upc_values.specs.Formed.{IsWellFormed, AreWellFormedFrom, AreWellFormed}
use Rattle.upc_values.proofs.Lists.{each-push, each-grow}
use Rattle.upc_values.proofs.Replies.{formed-grow}
use Rattle.replica_space.specs.declared.message.Message.{Message}
use Rattle.replica_space.specs.declared.event.Event.{Event}
use Rattle.replica_space.specs.declared.event.Deed.{Deed}
use Rattle.replica_space.specs.declared.event.Deed.TheVariants.{Did, Delivered}
use Rattle.replica_space.specs.Events.{entry_by, history_in}
use Rattle.replica_space.specs.Spaces.{Space, begun, is_synchronising, is_behind, with_message, with_mail, next_stamp, sent, received, met, spread, acted, done, space_from, space_after}
use Rattle.replica_space_acts.proofs.Keeping.{cons-append}

module _ (o : Opening) where
  -- the write of the message may be asked for after the history
  abbrev pub IsWrite : List Entry → Message → Type 0
  IsWrite h m = IsWellFormed o h (act.Write false m.loc m.value)

  -- the message that a copy has at l, if it has one, is such a write of l
  abbrev pub HasWrite : List Entry → Loc → Option Message → Type 0
  HasWrite h l (Some m) = (same_loc m.loc l ≡ true) × IsWrite h m
  HasWrite h l None = Unit {0}

  -- each message is such a write
  pub record AreWrites (h : List Entry) (s : Space) : Type 0 where
    pub copy : (t : ℕ) (l : Loc) → HasWrite h l (s.copy t l)
    pub mail : (to from : ℕ) → Each (IsWrite h) (s.mail to from)

  -- ---- as a history goes on

  has-grow : (h more : List Entry) (l : Loc) (c : Option Message) → HasWrite h l c → HasWrite (h ++ more) l c
  has-grow h more l (Some m) w = (w.0, formed-grow o h more (act.Write false m.loc m.value) w.1)
  has-grow h more l None w = tt

  writes-grow : (h more : List Entry) (s : Space) → AreWrites h s → AreWrites (h ++ more) s
  writes-grow h more s w = record {
    copy = λ t l. has-grow h more l (s.copy t l) (w.copy t l);
    mail = λ to from. each-grow (IsWrite h) (IsWrite (h ++ more)) (s.mail to from)
        (λ m. formed-grow o h more (act.Write false m.loc m.value)) (w.mail to from);
  }

  -- ---- steps

  put-write : (h : List Entry) (m : Message) (l : Loc) (c : Option Message) → IsWrite h m → HasWrite h l c → HasWrite h l (with_message m l c)
  put-write h m l c w k = cond_both (same_loc m.loc l) (Some m) c (HasWrite h l) (λ e. (e, w)) (λ _. k)

  come-write : (h : List Entry) (m : Message) (l : Loc) (c : Option Message) → IsWrite h m → HasWrite h l c → HasWrite h l (with_mail m l c)
  come-write h m l c w k =
      cond_both (same_loc m.loc l && not (is_behind m c)) (Some m) c (HasWrite h l)
      (λ e. ((and_parts (same_loc m.loc l) (not (is_behind m c)) e).0, w)) (λ _. k)

  sent-writes : (h : List Entry) (m : Message) (s : Space) → IsWrite h m → AreWrites h s → AreWrites h (sent m s)
  sent-writes h m s w k = record {
    copy = λ t l. cond_both (t == m.stamp.thread) (with_message m l (s.copy t l)) (s.copy t l) (HasWrite h l)
        (λ _. put-write h m l (s.copy t l) w (k.copy t l)) (λ _. k.copy t l);
    mail = λ to from. cond_both ((from == m.stamp.thread) && not (to == from)) (s.mail to from ++ m ∷ []) (s.mail to from) (Each (IsWrite h))
        (λ _. each-push (IsWrite h) (s.mail to from) m (k.mail to from) w) (λ _. k.mail to from);
  }

  spread-writes : (h : List Entry) (m : Message) (s : Space) → IsWrite h m → AreWrites h s → AreWrites h (spread m s)
  spread-writes h m s w k = record {
    copy = λ t l. put-write h m l (s.copy t l) w (k.copy t l);
    mail = k.mail;
  }

  met-writes : (h : List Entry) (n : ℕ) (s : Space) → AreWrites h s → AreWrites h (met n s)
  met-writes h n s k = record { copy = k.copy; mail = k.mail }

  received-writes : (h : List Entry) (to from : ℕ) (ms : List Message) (s : Space) → Each (IsWrite h) ms → AreWrites h s → AreWrites h (received to from ms s)
  received-writes h to from [] s w k = k
  received-writes h to from (m ∷ ms) s w k = record {
    copy = λ u l. cond_both (u == to) (with_mail m l (s.copy u l)) (s.copy u l) (HasWrite h l)
        (λ _. come-write h m l (s.copy u l) w.0 (k.copy u l)) (λ _. k.copy u l);
    mail = λ u v. cond_both ((u == to) && (v == from)) ms (s.mail u v) (Each (IsWrite h)) (λ _. w.1) (λ _. k.mail u v);
  }

  acted-writes : (h : List Entry) (n t i : ℕ) (a : Action) (s : Space) → IsWellFormed o h a → AreWrites h s → AreWrites h (acted n t i a s)
  acted-writes h n t i (act.Write false l v) s w k =
      sent-writes h (record { index = i; loc = l; value = v; stamp = next_stamp t s }) s w k
  acted-writes h n t i (act.Write true l v) s w k =
      spread-writes h (record { index = i; loc = l; value = v; stamp = next_stamp t (met n s) }) (met n s) w (met-writes h n s k)
  acted-writes h n t i a s w k =
      cond_both (is_synchronising a) (met n s) s (AreWrites h) (λ _. met-writes h n s k) (λ _. k)

  -- ---- one event, and all

  done-writes : (n t : ℕ) (d : Deed) (h rest : List Entry) (s : Space) → AreWellFormedFrom o h (cons_option (entry_by t d) rest) → AreWrites h s
      → AreWrites (h ++ cons_option (entry_by t d) []) (done n t d s) × AreWellFormedFrom o (h ++ cons_option (entry_by t d) []) rest
  done-writes n t (Did i a r) h rest s f k =
      (writes-grow h (cons_option (entry_by t (Did i a r)) []) (acted n t i a s) (acted-writes h n t i a s f.0 k), f.1)
  done-writes n t (Delivered to from) h rest s f k = (
    subst (λ l. AreWrites l (received to from (s.mail to from) s)) (sym (append-nil h))
        (received-writes h to from (s.mail to from) s (k.mail to from) k),
    subst (λ l. AreWellFormedFrom o l rest) (sym (append-nil h)) f,
  )

  writes-from : (n : ℕ) (es : List Event) (h : List Entry) (s : Space) → AreWellFormedFrom o h (history_in es) → AreWrites h s
      → AreWrites (h ++ history_in es) (space_from n s es)
  writes-from n [] h s f k = subst (λ l. AreWrites l s) (sym (append-nil h)) k
  writes-from n (e ∷ es) h s f k =
      let here = cons_option (entry_by e.by e.deed) [] in
      let p = done-writes n e.by e.deed h (history_in es) s f k in
      subst (λ l. AreWrites l (space_from n (done n e.by e.deed s) es))
      (append_assoc h here (history_in es) ∙ ap (λ l. h ++ l) (sym (cons-append (entry_by e.by e.deed) [] (history_in es))))
      (writes-from n es (h ++ here) (done n e.by e.deed s) p.1 p.0)

  -- all messages after these events
  pub messages-are-writes : (n : ℕ) (es : List Event) → AreWellFormed o (history_in es) → AreWrites (history_in es) (space_after n es)
  messages-are-writes n es f =
      writes-from n es [] begun f (record { copy = λ t l. tt; mail = λ to from. tt })
