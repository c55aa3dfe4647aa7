use Rattle.std.proofs.Common.{◌≡◌, true≢false, Some, None, is_some, sym, ap, ◌∙◌}
use Rattle.std.proofs.lemmas.Bool.{false≢true}
use Rattle.write_buffer.specs.declared.pending.Pending.{Pending}
use Rattle.write_buffer.specs.layer.Buffer.{youngest, last_place}
use Rattle.write_buffer.proofs.Places.{is-place, none-youngest, youngest-some}
use Rattle.write_buffer.proofs.buffer.WriteBuffer.store.Goals as goal

-- a write that is there, and none of the location
some-none : (l : _) (ps : _) (k : _) (d : Pending) → Some k ≡ last_place l ps → youngest l ps ≡ None → ⊥
some-none l ps k d e h = true≢false (sym (ap is_some ((is-place l ps k (sym e)).youngest d)) ∙ ap is_some h)

pub returns-in-Some-clause-moved : goal.returns-in-Some-clause-moved
returns-in-Some-clause-moved c = λ h.
    let d : Pending = record { index = c.args.index; loc = c.args.loc; value = c.args.value } in
    absurd (some-none c.args.loc c.args.self.now c.in-Some.at d c.in-Some.ensures.place h)

pub returns-in-Some-clause-full : goal.returns-in-Some-clause-full
returns-in-Some-clause-full c =
    let d : Pending = record { index = c.args.index; loc = c.args.loc; value = c.args.value } in
    (λ h. absurd (false≢true h), λ h. absurd (some-none c.args.loc c.args.self.now c.in-Some.at d c.in-Some.ensures.place h.1))

pub returns-in-None-clause-combined : goal.returns-in-None-clause-combined
returns-in-None-clause-combined c = λ h.
    let s = youngest-some c.args.loc c.args.self.now h in
    absurd (true≢false (sym (ap is_some s.1) ∙ sym (ap is_some c.in-None.ensures.place)))

pub returns-in-None-clause-full : goal.returns-in-None-clause-full
returns-in-None-clause-full c = (
  λ h. (c.append.ensures.full.0 h, none-youngest c.args.loc c.args.self.now (sym c.in-None.ensures.place)),
  λ h. c.append.ensures.full.1 h.0,
)
