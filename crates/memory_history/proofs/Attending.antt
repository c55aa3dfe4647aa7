-- The barrier after one more entry, and its answer to a wait.
use Rattle.std.proofs.Common.{◌≡◌, ◌≢◌, ℕ, ◌+◌, ◌^◌, ◌<◌, ◌≤◌, ◌==◌, nat_lt, nat_le, Bool, true, false, cond, ◌&&◌, inl, inr, List, [], ◌∷◌, ◌++◌, length, set, take, replicate, Some, None, slice_get, refl, sym, ap, subst, ◌∙◌, append-nil, arith, add-zero, eq-eqb, lt-ltb, ne_eqb, length-append, length-set}
use Rattle.std.specs.List.{list_all, filter_map, cons_option, fold}
use mathlib.Core.Bool.{and_comm, and-true}
use Rattle.std.proofs.lemmas.Bool.{cases_eq, false≢true}
use Rattle.std.proofs.lemmas.List.{take_all, get_or-set_same, get_or-set_other, get_or-replicate, length-replicate}
use Rattle.std.proofs.lemmas.List.Folds.{list_all_more}
use Rattle.std.proofs.lemmas.List.Recursion.{is_count_by}
use Rattle.std.proofs.lemmas.List.Sums.{count_by-le-length}
use Rattle.block_layout.specs.declared.run_error.TheConstants.{BARRIER_MISMATCH}
use Rattle.upc_values.specs.declared.scalar.Mark.{Mark}
use Rattle.upc_values.specs.declared.scalar.Mark.TheVariants.{Absent}
use Rattle.upc_values.specs.declared.action.Action.{Action}
use Rattle.upc_values.specs.declared.action.Action.TheVariants as act
use Rattle.upc_values.specs.declared.action.Reply.{Reply}
use Rattle.upc_values.specs.declared.action.Reply.TheVariants.{Done, Refused}
use Rattle.upc_values.specs.declared.journal.Entry.{Entry}
use Rattle.upc_values.specs.Drain.{entry_of, entries_of}
use Rattle.upc_values.specs.Openings.{Opening}
use Rattle.upc_values.specs.History as history
use Rattle.upc_values.specs.History.{each_thread, agrees_with, mark_of, marks, is_notify, is_wait, notifies, waits, reply}
use Rattle.upc_values.proofs.Waits.{all_notified-each}
use Rattle.sync_objects.specs.declared.attendance.Attendance.{Attendance}
use Rattle.sync_objects.specs.layer.Barrier.{fresh, attendance_of, mark_in, all_notified, all_agree, may_notify, wait_answer, with_attendance, notified, waited}
use Rattle.memory_history.specs.code.BarrierAfter.{next_two, last_two, attended, attendance_after, BarrierAfter}
use Rattle.memory_history.proofs.Growing.{marks-push, notifies-push, waits-push}

-- ---- notifies and marks

one-notify : (a : Action) (e : Entry) (ms : List Mark) → length (cons_option (mark_of (record e { action = a })) ms) ≡ cond (is_notify a) (1 + length ms) (length ms)
one-notify (act.Notify m) e ms = omega arith
one-notify a e ms = refl

one-counted : (t : ℕ) (e : Entry) (l : List Entry)
    → length (marks t (e ∷ l)) ≡ cond ((e.thread == t) && is_notify e.action) (1 + length (marks t l)) (length (marks t l))
one-counted t e l =
    elim (e.thread == t) as (λ b. length (filter_map mark_of (cond b (e ∷ entries_of t l) (entries_of t l)))
    ≡ cond (b && is_notify e.action) (1 + length (marks t l)) (length (marks t l)))
    [ true ↦ one-notify e.action e (marks t l) | false ↦ refl ]

notified-count : (t : ℕ) (es : List Entry) → length (marks t es) ≡ notifies t es
notified-count t es =
    is_count_by (λ l. length (marks t l)) (λ e. (e.thread == t) && is_notify e.action) refl (one-counted t) es

-- ---- the last two marks

two-push : (two : Mark × Mark) (ms : List Mark) (m : Mark)
    → fold next_two two (ms ++ m ∷ []) ≡ ((fold next_two two ms).1, m)
two-push two [] m = refl
two-push two (k ∷ ms) m = two-push (two.1, k) ms m

last-at : (two : Mark × Mark) (ms : List Mark) (p : ℕ) → p + 1 ≡ length ms
    → slice_get ms p ≡ Some (fold next_two two ms).1
last-at two [] p e = absurd (omega arith)
last-at two (m ∷ []) ℕ.zero e = refl
last-at two (m ∷ k ∷ ms) ℕ.zero e = absurd (omega arith)
last-at two (m ∷ []) (ℕ.suc p) e = absurd (omega arith)
last-at two (m ∷ k ∷ ms) (ℕ.suc p) e = last-at (two.1, m) (k ∷ ms) p (omega arith)

older-at : (two : Mark × Mark) (ms : List Mark) (p : ℕ) → p + 2 ≡ length ms
    → slice_get ms p ≡ Some (fold next_two two ms).0
older-at two [] p e = absurd (omega arith)
older-at two (m ∷ []) p e = absurd (omega arith)
older-at two (m ∷ k ∷ []) ℕ.zero e = refl
older-at two (m ∷ k ∷ j ∷ ms) ℕ.zero e = absurd (omega arith)
older-at two (m ∷ k ∷ []) (ℕ.suc p) e = absurd (omega arith)
older-at two (m ∷ k ∷ j ∷ ms) (ℕ.suc p) e = older-at (two.1, m) (k ∷ j ∷ ms) p (omega arith)

-- the mark of one of the last two rounds
mark-same : (ms : List Mark) (n p : ℕ) → p < length ms → length ms ≤ p + 2
    → slice_get ms p ≡ mark_in p (attended ms n)
mark-same ms n p lt le = elim (cases_eq (p + 1) (length ms)) [
  | inl e ↦
      last-at (Absent, Absent) ms p e
      ∙ sym (ap (λ b. cond b (Some (last_two ms).1) (cond (p + 2 == length ms) (Some (last_two ms).0) None)) (eq-eqb (p + 1) (length ms) e))
  | inr ne ↦
      let e : p + 2 ≡ length ms = omega arith in
      older-at (Absent, Absent) ms p e
      ∙ sym (ap (λ b. cond b (Some (last_two ms).0) None) (eq-eqb (p + 2) (length ms) e))
      ∙ sym (ap (λ b. cond b (Some (last_two ms).1) (cond (p + 2 == length ms) (Some (last_two ms).0) None)) (ne_eqb (p + 1) (length ms) ne))
]

attended-push : (ms : List Mark) (n : ℕ) (m : Mark) → attended (ms ++ m ∷ []) n ≡ notified m (attended ms n)
attended-push ms n m =
    ap (λ k. record { notifies = k; waits = n; last = (last_two (ms ++ m ∷ [])).1; older = (last_two (ms ++ m ∷ [])).0 })
    (length-append ms (m ∷ []))
    ∙ ap (λ (w : Mark × Mark). record { notifies = length ms + 1; waits = n; last = w.1; older = w.0 })
    (two-push (Absent, Absent) ms m)

-- ---- one more entry

kept : (b : Bool) (xs : List Mark) → xs ++ cond b [] [] ≡ xs
kept true xs = append-nil xs
kept false xs = append-nil xs

added : (b : Bool) (n : ℕ) → n + cond (b && false) 1 0 ≡ n
added true n = omega arith
added false n = omega arith

-- an entry that is neither a notify nor a wait
other-mark : (e : Entry) → is_notify e.action ≡ false → mark_of e ≡ None
other-mark e h = go e.action h
  where
    go : (a : Action) → is_notify a ≡ false → mark_of (record e { action = a }) ≡ None
    go (act.Notify m) h = absurd (false≢true (sym h))
    go a h = refl

pub same-attendance : (u : ℕ) (es : List Entry) (e : Entry) → is_notify e.action ≡ false → is_wait e.action ≡ false
    → attendance_after u (es ++ e ∷ []) ≡ attendance_after u es
same-attendance u es e n w =
    let ms : marks u (es ++ e ∷ []) ≡ marks u es =
    marks-push u es e ∙ ap (λ o. marks u es ++ cond (e.thread == u) (cons_option o []) []) (other-mark e n)
    ∙ kept (e.thread == u) (marks u es) in
    let ws : waits u (es ++ e ∷ []) ≡ waits u es =
    waits-push u es e ∙ ap (λ b. waits u es + cond ((e.thread == u) && b) 1 0) w ∙ added (e.thread == u) (waits u es) in
    ap (λ x. attended x (waits u (es ++ e ∷ []))) ms ∙ ap (attended (marks u es)) ws

-- at the start nobody has done anything
pub barrier-begins : (o : Opening) → BarrierAfter o [] (replicate o.threads fresh)
barrier-begins o = record {
  count = length-replicate o.threads fresh;
  each = λ u b. get_or-replicate o.threads u fresh fresh b;
  turns = λ u b. let none : 0 ≤ 0 + 1 = omega arith in none;
  together = λ u v b c. let none : 0 ≤ 0 = omega arith in none;
}

same-waits : (u : ℕ) (es : List Entry) (e : Entry) → is_wait e.action ≡ false → waits u (es ++ e ∷ []) ≡ waits u es
same-waits u es e w =
    waits-push u es e ∙ ap (λ b. waits u es + cond ((e.thread == u) && b) 1 0) w ∙ added (e.thread == u) (waits u es)

-- what an entry adds to a count
abbrev counted : Bool → ℕ
counted b = cond b 1 0

zero-adds : (b c : Bool) → c ≡ false → counted (b && c) ≡ 0
zero-adds true c h = ap counted h
zero-adds false c h = refl

other-adds : (t u : ℕ) (b : Bool) → t ≢ u → counted ((t == u) && b) ≡ 0
other-adds t u b ne = ap (λ c. counted (c && b)) (ne_eqb t u ne)

one-adds : (b : Bool) → counted b ≤ 1
one-adds true = omega arith
one-adds false = omega arith

turn-now : (x z y w c : ℕ) → z ≡ x + c → w ≡ y → c ≤ 1 → x ≤ y → z ≤ w + 1
turn-now x z y w c p q l h = omega arith

turn-then : (x z y w c d : ℕ) → z ≡ x + c → w ≡ y + d → c ≡ 0 → x ≤ y + 1 → z ≤ w + 1
turn-then x z y w c d p q l h = omega arith

pass-now : (y w x z c d : ℕ) → w ≡ y + d → z ≡ x + c → d ≤ 1 → y < x → w ≤ z
pass-now y w x z c d p q l h = omega arith

pass-then : (y w x z c d : ℕ) → w ≡ y + d → z ≡ x + c → d ≡ 0 → y ≤ x → w ≤ z
pass-then y w x z c d p q l h = omega arith

pub barrier-other : (o : Opening) (es : List Entry) (e : Entry) (bs : List Attendance) → is_notify e.action ≡ false → is_wait e.action ≡ false
    → BarrierAfter o es bs → BarrierAfter o (es ++ e ∷ []) bs
barrier-other o es e bs n w h = record {
  count = h.count;
  each = λ u b. h.each u b ∙ sym (same-attendance u es e n w);
  turns = λ u b. turn-then _ _ _ _ _ _ (notifies-push u es e) (waits-push u es e) (zero-adds (e.thread == u) (is_notify e.action) n) (h.turns u b);
  together = λ u v b c. pass-then _ _ _ _ _ _ (waits-push u es e) (notifies-push v es e) (zero-adds (e.thread == u) (is_wait e.action) w) (h.together u v b c);
}

-- one thread's attendance changes
changed : (o : Opening) (es : List Entry) (e : Entry) (bs : List Attendance) (become : Attendance → Attendance) → e.thread < o.threads
    → ((u : ℕ) → attendance_after u (es ++ e ∷ []) ≡ cond (e.thread == u) (become (attendance_after u es)) (attendance_after u es))
    → BarrierAfter o es bs
    → (u : ℕ) → u < o.threads → attendance_of u (with_attendance e.thread become bs) ≡ attendance_after u (es ++ e ∷ [])
changed o es e bs become lt step h u b = elim (cases_eq e.thread u) [
  | inl q ↦
      let many = h.count in
      ap (λ v. attendance_of u (set bs v (become (attendance_of v bs)))) q
      ∙ get_or-set_same bs u (become (attendance_of u bs)) fresh (omega arith)
      ∙ ap become (h.each u b)
      ∙ sym (ap (λ c. cond c (become (attendance_after u es)) (attendance_after u es)) (eq-eqb e.thread u q))
      ∙ sym (step u)
  | inr ne ↦
      get_or-set_other bs e.thread u (become (attendance_of e.thread bs)) fresh (λ q. ne (sym q))
      ∙ h.each u b
      ∙ sym (ap (λ c. cond c (become (attendance_after u es)) (attendance_after u es)) (ne_eqb e.thread u ne))
      ∙ sym (step u)
]

notify-step : (b : Bool) (m : Mark) (xs : List Mark) (n : ℕ)
    → attended (xs ++ cond b (m ∷ []) []) (n + cond (b && false) 1 0) ≡ cond b (notified m (attended xs n)) (attended xs n)
notify-step true m xs n = ap (attended (xs ++ m ∷ [])) (add-zero n) ∙ attended-push xs n m
notify-step false m xs n = ap (λ x. attended x (n + 0)) (append-nil xs) ∙ ap (attended xs) (add-zero n)

wait-step : (b : Bool) (xs : List Mark) (n : ℕ)
    → attended (xs ++ cond b [] []) (n + cond (b && true) 1 0) ≡ cond b (waited (attended xs n)) (attended xs n)
wait-step true xs n = ap (λ x. attended x (n + 1)) (append-nil xs)
wait-step false xs n = ap (λ x. attended x (n + 0)) (append-nil xs) ∙ ap (attended xs) (add-zero n)

-- after a notify of a thread that has waited as often as it has notified
pub barrier-notify : (o : Opening) (es : List Entry) (t i : ℕ) (m : Mark) (r : Reply) (bs : List Attendance) → t < o.threads
    → notifies t es ≤ waits t es
    → BarrierAfter o es bs → BarrierAfter o (es ++ entry_of t i (act.Notify m) r ∷ []) (with_attendance t (notified m) bs)
barrier-notify o es t i m r bs lt turn h =
    let e : Entry = entry_of t i (act.Notify m) r in record {
      count = length-set bs t (notified m (attendance_of t bs)) ∙ h.count;
      each = changed o es e bs (notified m) lt
          (λ u. ap (λ x. attended x (waits u (es ++ e ∷ []))) (marks-push u es e)
          ∙ ap (attended (marks u es ++ cond (t == u) (m ∷ []) [])) (waits-push u es e)
          ∙ notify-step (t == u) m (marks u es) (waits u es)) h;
      turns = λ u b. elim (cases_eq t u) [
        | inl q ↦
            turn-now _ _ _ _ _ (notifies-push u es e) (same-waits u es e refl) (one-adds ((t == u) && true))
            (subst (λ v. notifies v es ≤ waits v es) q turn)
        | inr ne ↦
            turn-then _ _ _ _ _ _ (notifies-push u es e) (waits-push u es e) (other-adds t u true ne) (h.turns u b)
      ];
      together = λ u v b c.
          pass-then _ _ _ _ _ _ (waits-push u es e) (notifies-push v es e) (zero-adds (t == u) false refl) (h.together u v b c);
    }

-- after a wait, whatever its reply, for which all threads have notified
pub barrier-wait : (o : Opening) (es : List Entry) (t i : ℕ) (m : Mark) (r : Reply) (bs : List Attendance) → t < o.threads
    → ((v : ℕ) → v < o.threads → waits t es < notifies v es)
    → BarrierAfter o es bs → BarrierAfter o (es ++ entry_of t i (act.Wait m) r ∷ []) (with_attendance t waited bs)
barrier-wait o es t i m r bs lt ready h =
    let e : Entry = entry_of t i (act.Wait m) r in record {
      count = length-set bs t (waited (attendance_of t bs)) ∙ h.count;
      each = changed o es e bs waited lt
          (λ u. ap (λ x. attended x (waits u (es ++ e ∷ []))) (marks-push u es e)
          ∙ ap (attended (marks u es ++ cond (t == u) [] [])) (waits-push u es e)
          ∙ wait-step (t == u) (marks u es) (waits u es)) h;
      turns = λ u b.
          turn-then _ _ _ _ _ _ (notifies-push u es e) (waits-push u es e) (zero-adds (t == u) false refl) (h.turns u b);
      together = λ u v b c. elim (cases_eq t u) [
        | inl q ↦
            pass-now _ _ _ _ _ _ (waits-push u es e) (notifies-push v es e) (one-adds ((t == u) && true))
            (subst (λ w. waits w es < notifies v es) q (ready v c))
        | inr ne ↦
            pass-then _ _ _ _ _ _ (waits-push u es e) (notifies-push v es e) (other-adds t u true ne) (h.together u v b c)
      ];
    }

-- ---- the answer to a wait

up_to : (f : Attendance → Bool) (g : ℕ → Bool) (bs : List Attendance) → ((u : ℕ) → u < length bs → g u ≡ f (attendance_of u bs))
    → (k : ℕ) → k ≤ length bs → each_thread k g ≡ list_all f (take k bs)
up_to f g bs same ℕ.zero le = refl
up_to f g bs same (ℕ.suc k) le =
    ap (λ b. b && each_thread k g) (same k (omega arith))
    ∙ ap (λ b. f (attendance_of k bs) && b) (up_to f g bs same k (omega arith))
    ∙ and_comm (f (attendance_of k bs)) (list_all f (take k bs))
    ∙ sym (list_all_more f bs k fresh (omega arith))
    ∙ ap (λ j. list_all f (take j bs)) (let e : k + 1 ≡ ℕ.suc k = omega arith in e)

each-all : (f : Attendance → Bool) (g : ℕ → Bool) (bs : List Attendance) → ((u : ℕ) → u < length bs → g u ≡ f (attendance_of u bs))
    → each_thread (length bs) g ≡ list_all f bs
each-all f g bs same =
    up_to f g bs same (length bs) (omega arith) ∙ ap (list_all f) (take_all (length bs) bs (omega arith))

answer-true : (b : Bool) (q r : Reply) → cond b (Some q) None ≡ Some r → b ≡ true
answer-true true q r h = refl
answer-true false q r h = cc

-- a wait that has a reply: all threads have notified
pub wait-ready : (o : Opening) (es : List Entry) (t : ℕ) (m : Mark) (r : Reply) → reply o es t (act.Wait m) ≡ Some r
    → (v : ℕ) → v < o.threads → waits t es < notifies v es
wait-ready o es t m r h v b =
    all_notified-each o.threads (waits t es) es
    (answer-true (history.all_notified o.threads (waits t es) es)
    (cond (each_thread o.threads (λ u. agrees_with m (slice_get (marks u es) (waits t es)))) Done (Refused BARRIER_MISMATCH)) r h) v b

answers-same : (b x y : Bool) (q r : Reply) → (b ≡ true → x ≡ y) → cond b (Some (cond x q r)) None ≡ cond b (Some (cond y q r)) None
answers-same true x y q r h = ap (λ z. Some (cond z q r)) (h refl)
answers-same false x y q r h = refl

near : (x y z w p : ℕ) → x ≤ y + 1 → y ≤ z → z ≤ w + 1 → p ≡ w → x ≤ p + 2
near x y z w p f g h q = omega arith

module _ (o : Opening) (es : List Entry) (bs : List Attendance) (h : BarrierAfter o es bs) where
  pub notifies-attended : (u : ℕ) → u < o.threads → notifies u es ≡ (attendance_of u bs).notifies
  notifies-attended u b = sym (notified-count u es) ∙ sym (ap (λ a. a.notifies) (h.each u b))

  -- the barrier says whether a thread has waited as often as it has notified
  pub turn-answers : (t : ℕ) → t < o.threads → length es < 2 ^ 62 → nat_le (notifies t es) (waits t es) ≡ may_notify t bs
  turn-answers t b short =
      let a = attendance_of t bs in
      let all : notifies t es ≤ length es = count_by-le-length (λ e. (e.thread == t) && is_notify e.action) es in
      let few : notifies t es < 18446744073709551615 = omega arith in
      sym (and-true (nat_le (notifies t es) (waits t es)))
      ∙ ap (λ c. nat_le (notifies t es) (waits t es) && c) (sym (lt-ltb (notifies t es) 18446744073709551615 few))
      ∙ ap (λ n. nat_le (notifies t es) n && nat_lt (notifies t es) 18446744073709551615) (sym (ap (λ x. x.waits) (h.each t b)))
      ∙ ap (λ n. nat_le n a.waits && nat_lt n 18446744073709551615) (notifies-attended t b)

  notified-same : (p : ℕ) → history.all_notified o.threads p es ≡ all_notified p bs
  notified-same p =
      let many = h.count in
      ap (λ n. history.all_notified n p es) (sym h.count)
      ∙ each-all (λ a. nat_lt p a.notifies) (λ u. nat_lt p (notifies u es)) bs
      (λ u b. ap (nat_lt p) (notifies-attended u (omega arith)))

  agreed-same : (p : ℕ) (m : Mark) → ((u : ℕ) → u < o.threads → p < notifies u es) → ((u : ℕ) → u < o.threads → notifies u es ≤ p + 2)
      → each_thread o.threads (λ u. agrees_with m (slice_get (marks u es) p)) ≡ all_agree p m bs
  agreed-same p m enough close =
      let many = h.count in
      ap (λ n. each_thread n (λ u. agrees_with m (slice_get (marks u es) p))) (sym h.count)
      ∙ each-all (λ a. agrees_with m (mark_in p a)) (λ u. agrees_with m (slice_get (marks u es) p)) bs
      (λ u b.
      let within : u < o.threads = omega arith in
      let n = notified-count u es in let lt = enough u within in let le = close u within in
      ap (agrees_with m) (mark-same (marks u es) (waits u es) p (omega arith) (omega arith))
      ∙ ap (λ a. agrees_with m (mark_in p a)) (sym (h.each u within)))

  -- the barrier answers a wait by its lawful reply
  pub wait-replies : (t : ℕ) (m : Mark) → t < o.threads → reply o es t (act.Wait m) ≡ wait_answer t m bs
  wait-replies t m b =
      let p = (attendance_of t bs).waits in
      let same : p ≡ waits t es = ap (λ a. a.waits) (h.each t b) in
      ap (λ n. history.wait_reply o es n m) (sym same)
      ∙ answers-same (history.all_notified o.threads p es) (each_thread o.threads (λ u. agrees_with m (slice_get (marks u es) p)))
      (all_agree p m bs) Done (Refused BARRIER_MISMATCH)
      (λ all. agreed-same p m (all_notified-each o.threads p es all)
      (λ u c. near _ _ _ _ _ (h.turns u c) (h.together u t c b) (h.turns t b) same))
      ∙ ap (λ x. cond x (Some (cond (all_agree p m bs) Done (Refused BARRIER_MISMATCH))) None) (notified-same p)
