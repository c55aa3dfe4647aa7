-- Spaces that are alike for the first threads, after like steps.
use Rattle.std.proofs.Common.{◌≡◌, ℕ, ◌+◌, ◌<◌, ◌==◌, ◌&&◌, zero, suc, cond, List, [], ◌∷◌, refl, sym, ap, ◌∙◌, arith}
use Rattle.replica_space.specs.declared.message.Message.{Message}
use Rattle.replica_space.specs.Spaces.{Space, greater, greatest, with_message, with_mail, with_sent, sent, received, met, spread}
use Rattle.replica_space_copies.specs.layer.Same.{IsSame}

pub same-itself : (n : ℕ) (s : Space) → IsSame n s s
same-itself n s = record { clock = λ t h. refl; copy = λ t l h. refl; mail = λ to from h k. refl }

pub same-then : (n : ℕ) (s r q : Space) → IsSame n s r → IsSame n r q → IsSame n s q
same-then n s r q h k = record {
  clock = λ t l. h.clock t l ∙ k.clock t l;
  copy = λ t x l. h.copy t x l ∙ k.copy t x l;
  mail = λ to from l p. h.mail to from l p ∙ k.mail to from l p;
}

pub same-back : (n : ℕ) (s r : Space) → IsSame n s r → IsSame n r s
same-back n s r h = record {
  clock = λ t l. sym (h.clock t l);
  copy = λ t x l. sym (h.copy t x l);
  mail = λ to from l p. sym (h.mail to from l p);
}

pub greatest-same : (n : ℕ) (f g : ℕ → ℕ) → ((t : ℕ) → t < n → f t ≡ g t) → greatest n f ≡ greatest n g
greatest-same zero f g h = refl
greatest-same (suc n) f g h =
    ap (λ k. greater k (f n)) (greatest-same n f g (λ t l. h t (omega arith))) ∙ ap (greater (greatest n g)) (h n (omega arith))

pub sent-same : (n : ℕ) (m : Message) (s r : Space) → IsSame n s r → IsSame n (sent m s) (sent m r)
sent-same n m s r h = record {
  clock = λ t l. ap (cond (t == m.stamp.thread) m.stamp.clock) (h.clock t l);
  copy = λ t x l. ap (λ c. cond (t == m.stamp.thread) (with_message m x c) c) (h.copy t x l);
  mail = λ to from l k. ap (with_sent m to from) (h.mail to from l k);
}

pub met-same : (n : ℕ) (s r : Space) → IsSame n s r → IsSame n (met n s) (met n r)
met-same n s r h = record { clock = λ t l. greatest-same n s.clock r.clock h.clock; copy = h.copy; mail = h.mail }

pub spread-same : (n : ℕ) (m : Message) (s r : Space) → IsSame n s r → IsSame n (spread m s) (spread m r)
spread-same n m s r h = record {
  clock = λ t l. ap (λ k. k + 1) (h.clock t l);
  copy = λ t x l. ap (with_message m x) (h.copy t x l);
  mail = h.mail;
}

pub received-same : (n to from : ℕ) (ms : List Message) (s r : Space) → IsSame n s r → IsSame n (received to from ms s) (received to from ms r)
received-same n to from [] s r h = h
received-same n to from (m ∷ ms) s r h = record {
  clock = λ t l. ap (λ c. cond (t == to) (greater c m.stamp.clock) c) (h.clock t l);
  copy = λ t x l. ap (λ c. cond (t == to) (with_mail m x c) c) (h.copy t x l);
  mail = λ u v l k. ap (cond ((u == to) && (v == from)) ms) (h.mail u v l k);
}
