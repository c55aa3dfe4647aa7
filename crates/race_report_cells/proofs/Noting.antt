-- An operation is noted.
use Rattle.std.proofs.Common.{◌≡◌, ℕ, ◌<◌, ◌≤◌, List, [], ◌∷◌, ◌++◌, length, get_or, set, ◌⊎◌, refl, sym, subst, inl, inr, arith}
use Rattle.upc_values.specs.Lists.{Has}
use Rattle.upc_values.proofs.Membership.{has-left, has-right, has-cases}
use Rattle.order_builder.specs.declared.names.Named.{Named}
use Rattle.race_report_cells.specs.code.Lasts.{IsSameKind, IsUpTo, AreNoted}

module _ {X : Type 0} where
  pub has-set : (xs : List X) (i : ℕ) (y x : X) → Has (set xs i y) x → Has xs x ⊎ (y ≡ x)
  has-set [] i y x h = absurd h
  has-set (z ∷ xs) ℕ.zero y x (inl e) = inr e
  has-set (z ∷ xs) ℕ.zero y x (inr h) = inl (inr h)
  has-set (z ∷ xs) (ℕ.suc i) y x (inl e) = inl (inl e)
  has-set (z ∷ xs) (ℕ.suc i) y x (inr h) =
      elim (has-set xs i y x h) [ inl m ↦ inl (inr m) | inr e ↦ inr e ]

  pub set-has : (xs : List X) (i : ℕ) (y : X) → i < length xs → Has (set xs i y) y
  set-has [] i y l = absurd (omega arith)
  set-has (z ∷ xs) ℕ.zero y l = inl refl
  set-has (z ∷ xs) (ℕ.suc i) y l = inr (set-has xs i y (omega arith))

  -- a member stays, or is the one that was there
  pub set-keeps : (xs : List X) (i : ℕ) (y x d : X) → Has xs x → Has (set xs i y) x ⊎ (get_or xs i d ≡ x)
  set-keeps [] i y x d h = absurd h
  set-keeps (z ∷ xs) ℕ.zero y x d (inl e) = inr e
  set-keeps (z ∷ xs) ℕ.zero y x d (inr h) = inl (inr h)
  set-keeps (z ∷ xs) (ℕ.suc i) y x d (inl e) = inl (inl e)
  set-keeps (z ∷ xs) (ℕ.suc i) y x d (inr h) =
      elim (set-keeps xs i y x d h) [ inl m ↦ inl (inr m) | inr e ↦ inr e ]

  pub get-has : (xs : List X) (i : ℕ) (d : X) → i < length xs → Has xs (get_or xs i d)
  get-has [] i d l = absurd (omega arith)
  get-has (z ∷ xs) ℕ.zero d l = inl refl
  get-has (z ∷ xs) (ℕ.suc i) d l = inr (get-has xs i d (omega arith))

pub up-itself : (n : Named) → IsUpTo n n
up-itself n = record { kind = record { thread = refl; write = refl; strict = refl }; index = omega arith }

-- at the end
pub noted-end : (xs : List Named) (now : Named) → AreNoted now xs (xs ++ now ∷ [])
noted-end xs now =
    record {
      only = λ n h.
          elim (has-cases xs (now ∷ []) n h) [ inl m ↦ inl m | inr (inl e) ↦ inr e | inr (inr k) ↦ absurd k ];
      kept = λ n h. (n, has-left xs (now ∷ []) n h, up-itself n);
      noted = (now, has-right xs (now ∷ []) now (inl refl), up-itself now);
    }

-- in place of one of its kind that is before it
pub noted-set : (xs : List Named) (i : ℕ) (now d : Named) → i < length xs → IsSameKind (get_or xs i d) now → (get_or xs i d).name.index ≤ now.name.index
    → AreNoted now xs (set xs i now)
noted-set xs i now d lt kind up =
    record {
      only = λ n h. has-set xs i now n h;
      kept = λ n h.
          elim (set-keeps xs i now n d h) [
            | inl m ↦ (n, m, up-itself n)
            | inr e ↦
                (now, set-has xs i now lt, subst (λ z. IsUpTo z now) e (record { kind = kind; index = up }))
          ];
      noted = (now, set-has xs i now lt, up-itself now);
    }

-- where one of its kind is not before it
pub noted-already : (xs : List Named) (i : ℕ) (now d : Named) → i < length xs → IsSameKind (get_or xs i d) now → now.name.index ≤ (get_or xs i d).name.index
    → AreNoted now xs xs
noted-already xs i now d lt kind up =
    record {
      only = λ n h. inl h;
      kept = λ n h. (n, h, up-itself n);
      noted = (
        get_or xs i d,
        get-has xs i d lt,
        record {
          kind = record { thread = sym kind.thread; write = sym kind.write; strict = sym kind.strict };
          index = up;
        },
      );
    }
