-- The pieces of an object in text, thread by thread.
use Rattle.std.proofs.Common.{◌≡◌, ◌∙◌, ◌++◌, ◌-◌, ◌+◌, ◌<◌, ℕ, suc, List, refl, sym, ap, arith, codes}
use Rattle.std.specs.List.{flat_map, range_with_len}
use Rattle.std.proofs.lemmas.List.{append_assoc}
use Rattle.block_layout.specs.declared.place.ObjectRef.{ObjectRef}
use Rattle.block_layout.specs.Pieces.{piece_of}
use Rattle.upc_top_output.specs.Layout.{field}

abbrev piece_text : ℕ → ObjectRef → ℕ → List ℕ
piece_text threads object t = field (codes " ") (piece_of object t threads)

-- the pieces of the threads from t on
abbrev pub pieces_from : ℕ → ObjectRef → ℕ → List ℕ
pieces_from threads object t = flat_map (λ u. field (codes " ") (piece_of object u threads)) (range_with_len t (threads - t))

module _ (threads : ℕ) (object : ObjectRef) where
  next_piece : (t : ℕ) → t < threads → pieces_from threads object t ≡ piece_text threads object t ++ pieces_from threads object (t + 1)
  next_piece t lt =
      let e : threads - t ≡ suc (threads - (t + 1)) = omega arith in
      rw e refl

  -- one piece more
  pub onward : (done all : List ℕ) (t : ℕ) → t < threads → done ++ pieces_from threads object t ≡ all
      → done ++ piece_text threads object t ++ pieces_from threads object (t + 1) ≡ all
  onward done all t lt h = append_assoc done (piece_text threads object t) (pieces_from threads object (t + 1)) ∙ ap (λ l. done ++ l) (sym (next_piece t lt)) ∙ h
