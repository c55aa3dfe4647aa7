-- Chunks, one after the other.
use Rattle.std.proofs.Common.{◌≡◌, ℕ, suc, ◌+◌, ◌-◌, ◌*◌, ◌/◌, ◌%◌, ◌<◌, ◌≤◌, List, [], ◌∷◌, ◌++◌, length, get_or, slice_get, Option, Some, None, MatchOption, Bor, Vec, refl, sym, ap, ◌∙◌, append_assoc, arith}
use Rattle.std.proofs.lemmas.List.{length-append}
use Rattle.std.proofs.lemmas.Option.{slice_get_past, slice_get_read}
use Rattle.std.specs.declared.alloc.Global.{Global}
use Rattle.std.specs.Option.{option_copied}
use Rattle.upc_values.specs.layer.Chunks.{joined, AreFull}

module _ {X : Type 0} where
  pub length-joined : (cs : List (Vec X Global)) (ys : List X) → AreFull cs → length (joined cs ys) ≡ length cs * 4096 + length ys
  length-joined [] ys h = omega arith
  length-joined (c ∷ cs) ys h =
      let a = length-append c.items (joined cs ys) in
      let b = length-joined cs ys h.1 in
      let e = h.0 in
      omega arith

  -- what stands in front of a list, and after it
  pub get-front : (xs ys : List X) (i : ℕ) → i < length xs → slice_get (xs ++ ys) i ≡ slice_get xs i
  get-front [] ys i lt = absurd (omega arith)
  get-front (x ∷ xs) ys ℕ.zero lt = refl
  get-front (x ∷ xs) ys (suc i) lt = get-front xs ys i (omega arith)

  pub get-behind : (xs ys : List X) (i : ℕ) → length xs ≤ i → slice_get (xs ++ ys) i ≡ slice_get ys (i - length xs)
  get-behind [] ys i le = ap (slice_get ys) (let e : i ≡ i - 0 = omega arith in e)
  get-behind (x ∷ xs) ys ℕ.zero le = absurd (omega arith)
  get-behind (x ∷ xs) ys (suc i) le = get-behind xs ys i (omega arith) ∙ ap (slice_get ys) (let e : i - length xs ≡ suc i - length (x ∷ xs) = omega arith in e)

  -- the heart: member i stands in chunk i / 4096, at i % 4096
  pub get-chunk : (cs : List (Vec X Global)) (ys : List X) (i : ℕ) (c : Vec X Global) → AreFull cs → i / 4096 < length cs → c ≡ get_or cs (i / 4096) c → slice_get (joined cs ys) i ≡ slice_get c.items (i % 4096)
  get-chunk [] ys i c h lt is = absurd (omega arith)
  get-chunk (x ∷ cs) ys i c h lt is =
      let P : ℕ → Type 0 = λ k. i / 4096 ≡ k → c ≡ get_or (x ∷ cs) k c → slice_get (x.items ++ joined cs ys) i ≡ slice_get c.items (i % 4096) in
      let go : (k : ℕ) → P k = λ k. elim k as P [
        | ℕ.zero ↦ λ q e.
            let small : i < 4096 = omega arith in
            let same : i ≡ i % 4096 = omega arith in
            let within : i < length x.items = let n = h.0 in omega arith in
            get-front x.items (joined cs ys) i within ∙ ap (slice_get x.items) same
            ∙ ap (λ z. slice_get z.items (i % 4096)) (sym e)
        | suc k ↦ λ q e.
            let j : ℕ = i - 4096 in
            let large : 4096 ≤ i = omega arith in
            let next : j / 4096 ≡ k = omega arith in
            let rest : j % 4096 ≡ i % 4096 = omega arith in
            let past : length x.items ≤ i = let n = h.0 in omega arith in
            let down : i - length x.items ≡ j = let n = h.0 in omega arith in
            let there : c ≡ get_or cs (j / 4096) c = e ∙ ap (λ m. get_or cs m c) (sym next) in
            get-behind x.items (joined cs ys) i past ∙ ap (slice_get (joined cs ys)) down
            ∙ get-chunk cs ys j c h.1 (omega arith) there ∙ ap (slice_get c.items) rest
      ] in
      go (i / 4096) refl is

  pub get-last : (cs : List (Vec X Global)) (ys : List X) (i : ℕ) → AreFull cs → length cs ≤ i / 4096 → slice_get (joined cs ys) i ≡ slice_get ys (i - length cs * 4096)
  get-last [] ys i h le = ap (slice_get ys) (let e : i ≡ i - 0 * 4096 = omega arith in e)
  get-last (x ∷ cs) ys i h le =
      let past : length x.items ≤ i = let n = h.0 in omega arith in
      let down : i - length x.items ≡ i - 4096 = let n = h.0 in omega arith in
      get-behind x.items (joined cs ys) i past ∙ ap (slice_get (joined cs ys)) down
      ∙ get-last cs ys (i - 4096) h.1 (omega arith)
      ∙ ap (slice_get ys) (let e : i - 4096 - length cs * 4096 ≡ i - length (x ∷ cs) * 4096 = omega arith in e)

  pub joined-push : (cs : List (Vec X Global)) (c : Vec X Global) (ys : List X) → joined (cs ++ c ∷ []) ys ≡ joined cs (c.items ++ ys)
  joined-push [] c ys = refl
  joined-push (x ∷ cs) c ys = ap (λ z. x.items ++ z) (joined-push cs c ys)

  pub joined-behind : (cs : List (Vec X Global)) (xs ys : List X) → joined cs (xs ++ ys) ≡ joined cs xs ++ ys
  joined-behind [] xs ys = refl
  joined-behind (c ∷ cs) xs ys = ap (λ z. c.items ++ z) (joined-behind cs xs ys) ∙ sym (append_assoc c.items (joined cs xs) ys)

  pub full-push : (cs : List (Vec X Global)) (c : Vec X Global) → AreFull cs → length c.items ≡ 4096 → AreFull (cs ++ c ∷ [])
  full-push [] c h e = (e, tt)
  full-push (x ∷ cs) c h e = (h.0, full-push cs c h.1 e)

  pub past-none : (xs : List X) (i : ℕ) → slice_get xs i ≡ None → length xs ≤ i
  past-none [] i h = omega arith
  past-none (x ∷ xs) ℕ.zero h = cc
  past-none (x ∷ xs) (suc i) h = let le = past-none xs i h in omega arith

  -- what a slice's get says
  pub looked : (o : Option (Bor X)) (xs : List X) (i : ℕ) → MatchOption o (length xs ≤ i) (λ x. (i < length xs) × ((d : X) → x.now ≡ get_or xs i d)) → option_copied o ≡ slice_get xs i
  looked None xs i h = sym (slice_get_past xs i h)
  looked (Some x) xs i h = sym (slice_get_read xs (length xs) i x.now refl h.0 (h.1 x.now))
