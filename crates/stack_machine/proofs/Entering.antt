-- The instruction of a call of the library leads into it.
use Rattle.std.proofs.Common.{◌≡◌, ℕ, ◌+◌, Bool, true, false, List, [], ◌∷◌, ◌++◌, Option}
use Rattle.std.proofs.Common.{pos, refl, ◌∙◌, ap}
use Rattle.std.specs.Prelude.{is_some, drop}
use Rattle.upc_text.specs.declared.place.Place.{Place}
use Rattle.upc_values.specs.declared.scalar.Value.{Value}
use Rattle.upc_values.specs.declared.scalar.Value.TheVariants as value
use Rattle.upc_values.specs.declared.library.LibraryCall.{LibraryCall}
use Rattle.upc_values.specs.LibraryCalls.{library_call, meet_number}
use Rattle.thread_steps.specs.States.{Thread, State, Res, Val, bind, give, choose, skip, fault}
use Rattle.thread_steps.specs.Actions.{meet, exit, is_controlled}
use Rattle.thread_steps.specs.Accesses.{library_steps}
use Rattle.thread_steps.specs.Values.{number}
use Rattle.thread_steps.specs.Library.{library, called_library, formed_call, is_formed}
use Rattle.thread_steps.specs.layer.Parts.{first_number, private_shapes, is_exit}
use Rattle.stack_code.specs.declared.instruction.Instr.{Instr}
use Rattle.stack_code.specs.layer.Codes.{Codes, thread_of}
use Rattle.stack_code.specs.layer.Steps.{At, conf_of, act, further, youngest, steps}
use Rattle.stack_code.proofs.Ends.{steps_add}
use Rattle.block_layout.specs.declared.run_error.TheConstants.{PHASE_ORDER, BARRIER_IN_FORALL}
use Rattle.stack_machine.specs.code.Bodies.{conf, state_of}
use Rattle.stack_machine.specs.code.Standing.{first_body}
use Rattle.stack_machine.specs.code.Inside.{Enters}

module _ (τ : Thread) (at : Place) (call : LibraryCall) (shape : ℕ) (args : List Value) where
  -- Where all threads may meet, they do not stop.
  met_by : (c : Bool) (σ : State) → c ≡ false → σ.notified ≡ false
      → bind (choose c (fault BARRIER_IN_FORALL at) skip σ) (λ _ υ. choose υ.notified (fault PHASE_ORDER at) skip υ)
      ≡ Val tt σ
  met_by c σ e h =
      ap (λ c. bind (choose c (fault BARRIER_IN_FORALL at) skip σ) (λ _ υ. choose υ.notified (fault PHASE_ORDER at) skip υ)) e
      ∙ ap (λ n. choose n (fault PHASE_ORDER at) skip σ) h

  meets : (m : Bool) (σ : State) → (m ≡ true → is_controlled σ ≡ false) → (m ≡ true → σ.notified ≡ false)
      → choose m (meet τ at) skip σ ≡ Val tt σ
  unfolding meet
  meets true σ c n = met_by (is_controlled σ) σ (c refl) (n refl)
  meets false σ c n = refl

  formed : (σ : State) → is_exit call ≡ false → is_formed τ.shapes call shape args ≡ true
      → (is_some (meet_number call) ≡ true → is_controlled σ ≡ false)
      → (is_some (meet_number call) ≡ true → σ.notified ≡ false)
      → library τ call shape at args σ
      ≡ bind (library_steps τ at (library_call τ.threads τ.shapes τ.number (private_shapes σ) call shape args) σ)
      (λ v. give (value.Scalar v))
  unfolding library
  formed σ e f c n =
      ap (λ b. choose b (exit τ (first_number args)) (formed_call τ call shape at args) σ) e
      ∙ ap (λ b. choose b (called_library τ call shape at args) (give (number (pos 0))) σ) f
      ∙ ap (λ r. bind r (λ _ υ. bind (library_steps τ at (library_call τ.threads τ.shapes τ.number (private_shapes υ) call shape args) υ)
      (λ v. give (value.Scalar v)))) (meets (is_some (meet_number call)) σ c n)

pub enters : (codes : Codes) (thread budget : ℕ) → Enters codes thread budget
enters codes thread budget given left b at call shape n is e f m s =
    let τ = thread_of codes thread budget in
    let args = youngest n b.operands in
    let x = library_call codes.threads codes.shapes thread (private_shapes (state_of b [] [])) call shape args in
    record {
      did = s.did;
      leads = λ before later.
          let h = s.leads.by before later in
          let σ = state_of b (before ++ s.did) (left ++ later) in (
            h.0 + 1,
            steps_add τ codes.functions h.0 1 (conf (first_body codes) before (given ++ later))
                ∙ ap (steps τ codes.functions 1) h.1
                ∙ ap (λ (i : Option Instr). act τ i b.at b.given b.operands b.calls σ) is
                ∙ ap (λ (r : Res Value). conf_of r (λ v. At (further 1 b.at) b.given (v ∷ drop n b.operands) b.calls))
                (formed τ at call shape args σ e f m.controlled m.notified),
          );
      in_time = s.in_time;
    }
