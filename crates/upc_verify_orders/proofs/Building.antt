-- Lists that are built number by number.
use Rattle.std.proofs.Common.{◌≡◌, ℕ, ◌+◌, ◌<◌, ◌==◌, Bool, true, false, List, [], ◌∷◌, ◌++◌, length, get_or, take, map, refl, sym, ap, ◌∙◌, subst, arith}
use Rattle.std.proofs.lemmas.List.{take_more, map-append}
use Rattle.upc_values.specs.declared.scalar.Scalar.{Scalar}
use Rattle.upc_values.specs.declared.order.Op.{Op}
use Rattle.upc_values.specs.Operations.{Operation}
use Rattle.upc_values.specs.Orders.{rank, name_of}
use Rattle.upc_verify_orders.specs.declared.program.Mark.{Mark}
use Rattle.upc_verify_orders.specs.declared.values.Access.{Access}
use Rattle.upc_verify_orders.specs.code.Found.{AreFound, taken, nothing}
use Rattle.upc_verify_orders.specs.layer.Numbers.{number_in, marks_by}
use Rattle.upc_verify_orders.specs.code.Tables.{op_rank}
use Rattle.upc_verify_orders.specs.code.Values.{access_by}
use Rattle.upc_verify_orders.proofs.Taken.{found-many}
use Rattle.upc_verify_orders.proofs.Numbering.{marks-own, marks-other}

pub taken-more : (operations : List Operation) (at : List ℕ) (i d : ℕ) → i < length at → taken operations (take (i + 1) at) ≡ taken operations (take i at) ++ get_or operations (get_or at i d) nothing ∷ []
taken-more operations at i d lt =
    ap (taken operations) (take_more at i d lt)
    ∙ map-append (λ k. get_or operations k nothing) (take i at) (get_or at i d ∷ [])

access-is : (w x : Bool) (p q : ℕ) (v u : Scalar) → w ≡ x → p ≡ q → v ≡ u → let a : Access = record { write = w; place = p; value = v } in a ≡ record { write = x; place = q; value = u }
access-is w x p q v u a b c =
    let P : Bool → ℕ → Scalar → Type 0 = λ f g h. let o : Access = record { write = w; place = p; value = v } in o ≡ record { write = f; place = g; value = h } in
    subst (λ h. P x q h) c (subst (λ g. P x g v) b (subst (λ f. P f p v) a refl))

-- one more access
pub access-more : (operations : List Operation) (at : List ℕ) (i d : ℕ) (old new : List Access) (w : Bool) (p : ℕ) (v : Scalar) → i < length at
    → old ≡ map (access_by (number_in operations)) (taken operations (take i at))
    → w ≡ (get_or operations (get_or at i d) nothing).write → p ≡ number_in operations (get_or operations (get_or at i d) nothing).place
    → v ≡ (get_or operations (get_or at i d) nothing).value
    → (let a : Access = record { write = w; place = p; value = v } in new ≡ old ++ a ∷ [])
    → new ≡ map (access_by (number_in operations)) (taken operations (take (i + 1) at))
access-more operations at i d old new w p v lt e a b c is =
    let o = get_or operations (get_or at i d) nothing in
    let x : Access = record { write = w; place = p; value = v } in
    is ∙ ap (λ l. l ++ x ∷ []) e
    ∙ ap (λ z. map (access_by (number_in operations)) (taken operations (take i at)) ++ z ∷ []) (access-is w o.write p (number_in operations o.place) v o.value a b c)
    ∙ sym (map-append (access_by (number_in operations)) (taken operations (take i at)) (o ∷ []))
    ∙ ap (map (access_by (number_in operations))) (sym (taken-more operations at i d lt))

mark-is : (r s : ℕ) (t u w x : Bool) (p q : ℕ) → r ≡ s → t ≡ u → w ≡ x → p ≡ q → let a : Mark = record { rank = r; strict = t; write = w; place = p } in a ≡ record { rank = s; strict = u; write = x; place = q }
mark-is r s t u w x p q a b c d =
    let P : ℕ → Bool → Bool → ℕ → Type 0 = λ e f g h. let o : Mark = record { rank = r; strict = t; write = w; place = p } in o ≡ record { rank = e; strict = f; write = g; place = h } in
    subst (λ h. P s u x h) d (subst (λ g. P s u g p) c (subst (λ f. P s f w p) b (subst (λ e. P e t w p) a refl)))

-- one more mark, of the thread or not
module _ (operations : List Operation) (names : List Op) (at : List ℕ) (found : AreFound operations names at) (t i d : ℕ) (lt : i < length names) where
  abbrev here : Operation
  here = get_or operations (get_or at i d) nothing

  within : i < length at
  within = let many = found-many operations names at found in omega (arith, many)

  pub mark-more : (old new : List Mark) (name : Op) (r : ℕ) (s : Bool) (p : ℕ) → old ≡ marks_by (number_in operations) t (taken operations (take i at)) → name_of here ≡ name
      → name.thread ≡ t → (here.thread == t) ≡ true → r ≡ op_rank name → s ≡ here.strict → p ≡ number_in operations here.place
      → (let a : Mark = record { rank = r; strict = s; write = name.write; place = p } in new ≡ old ++ a ∷ [])
      → new ≡ marks_by (number_in operations) t (taken operations (take (i + 1) at))
  mark-more old new name r s p e same own test a b c is =
      let x : Mark = record { rank = r; strict = s; write = name.write; place = p } in
      let rank-is : r ≡ rank here = a ∙ sym (ap op_rank same) in
      let write-is : name.write ≡ here.write = sym (ap (λ n. n.write) same) in
      is ∙ ap (λ l. l ++ x ∷ []) e
      ∙ ap (λ z. marks_by (number_in operations) t (taken operations (take i at)) ++ z ∷ []) (mark-is r (rank here) s here.strict name.write here.write p (number_in operations here.place) rank-is b write-is c)
      ∙ sym (marks-own (number_in operations) t (taken operations (take i at)) here test)
      ∙ ap (marks_by (number_in operations) t) (sym (taken-more operations at i d within))

  pub mark-skip : (old : List Mark) → old ≡ marks_by (number_in operations) t (taken operations (take i at)) → (here.thread == t) ≡ false → old ≡ marks_by (number_in operations) t (taken operations (take (i + 1) at))
  mark-skip old e test =
      e ∙ sym (marks-other (number_in operations) t (taken operations (take i at)) here test)
      ∙ ap (marks_by (number_in operations) t) (sym (taken-more operations at i d within))
