-- How long a source of stages is.
use Rattle.std.proofs.Common.{◌≡◌, ◌∙◌, ◌++◌, ◌+◌, ◌*◌, ◌<◌, ◌≤◌, ◌^◌, ℕ, zero, suc, List, length, refl, sym, ap, arith, codes, decimal}
use Rattle.std.specs.List.{flat_map, range_with_len}
use Rattle.std.proofs.lemmas.List.{length-append}
use Rattle.std.proofs.lemmas.Fmt.{length-decimal-le}
use Rattle.upc_sample.specs.Sample.{objects, numbered, stage, call, beginning, ending, sample}

short-number : (n : ℕ) → n ≤ 1000 → length (decimal n) ≤ 4
short-number n le = length-decimal-le 4 n (omega arith) (omega arith) (omega arith)

numbered-length : (text : List ℕ) (n : ℕ) → n ≤ 1000 → length (numbered text n) ≤ length text + 4
numbered-length text n le =
    let e = length-append text (decimal n) in
    let d = short-number n le in
    omega arith

parts-length : (part : ℕ → List ℕ) (most : ℕ) → ((n : ℕ) → n ≤ 1000 → length (part n) ≤ most)
    → (m i : ℕ) → i + m ≤ 1000 → length (flat_map part (range_with_len i m)) ≤ most * m
parts-length part most each zero i le = omega arith
parts-length part most each (suc m) i le =
    let e = length-append (part i) (flat_map part (range_with_len (i + 1) m)) in
    let h = each i (omega arith) in
    let k = parts-length part most each m (i + 1) (omega arith) in
    let s : most * suc m ≡ most * m + most = grind arith in
    omega arith

join-length : (xs ys : List ℕ) (a b : ℕ) → length xs ≤ a → length ys ≤ b → length (xs ++ ys) ≤ a + b
join-length xs ys a b h k =
    let e = length-append xs ys in
    omega arith

within : (k a b : ℕ) → k ≤ a → a ≤ b → k ≤ b
within k a b h l = omega arith

abbrev copying : List ℕ
copying = codes "(void){int i;upc_forall(i=0;i<M;i++;&b[i])b[i]=a[(i+1)%M]+"

abbrev meeting : List ℕ
meeting = codes ";upc_barrier;upc_forall(i=0;i<M;i++;&a[i])a[i]=b[i];upc_barrier;}\n"

stage-length : (n : ℕ) → n ≤ 1000 → length (stage n) ≤ 200
stage-length n le =
    let a = numbered-length (codes "void stage_") n le in
    let b = numbered-length copying n le in
    let d = join-length (numbered (codes "void stage_") n) (numbered copying n) 15 (length copying + 4) a b in
    within (length (stage n)) (15 + (length copying + 4) + length meeting) 200
    (join-length (numbered (codes "void stage_") n ++ numbered copying n) meeting (15 + (length copying + 4))
    (length meeting) d (omega arith))
    (omega arith)

call-length : (n : ℕ) → n ≤ 1000 → length (call n) ≤ 20
call-length n le =
    let a = numbered-length (codes "stage_") n le in
    let b = join-length (numbered (codes "stage_") n) (codes "();\n") 10 4 (omega arith) (omega arith) in
    omega arith

abbrev adding : List ℕ
adding = codes "upc_forall(i=0;i<M;i++;&a[i])part+=a[i];\n"

abbrev locking : List ℕ
locking = codes "upc_lock(lk);sum+=part;upc_unlock(lk);\n"

abbrev waiting : List ℕ
waiting = codes "upc_barrier;\n"

abbrev printing : List ℕ
printing = codes "if(MYTHREAD==0)printf(\"stages "

abbrev summing : List ℕ
summing = codes " sum %d\\n\",sum);\n"

ending-length : (n : ℕ) → n ≤ 1000 → length (ending n) ≤ 1000
ending-length n le =
    let a = numbered-length printing n le in
    let b = join-length (adding ++ locking ++ waiting) (numbered printing n) 200 (length printing + 4) (omega arith) a in
    let c = join-length (adding ++ locking ++ waiting ++ numbered printing n) summing (200 + (length printing + 4)) 50 b (omega arith) in
    within (length (ending n)) (200 + (length printing + 4) + 50 + 50) 1000
    (join-length (adding ++ locking ++ waiting ++ numbered printing n ++ summing) (codes "return 0;}\n")
    (200 + (length printing + 4) + 50) 50 c (omega arith))
    (omega arith)

abbrev stages_of : ℕ → List ℕ
stages_of n = flat_map stage (range_with_len 0 n)

abbrev calls_of : ℕ → List ℕ
calls_of n = flat_map call (range_with_len 0 n)

pub sample-length : (n : ℕ) → n ≤ 1000 → length (sample n) ≤ 1048576
sample-length n le =
    let s = parts-length stage 200 stage-length n 0 (omega arith) in
    let c = parts-length call 20 call-length n 0 (omega arith) in
    let e = ending-length n le in
    let f = join-length objects (stages_of n) (length objects) (200 * n) (omega arith) s in
    let g = join-length (objects ++ stages_of n) beginning (length objects + 200 * n) (length beginning) f (omega arith) in
    let h = join-length (objects ++ stages_of n ++ beginning) (calls_of n) (length objects + 200 * n + length beginning) (20 * n) g c in
    within (length (sample n)) (length objects + 200 * n + length beginning + 20 * n + 1000) 1048576
    (join-length (objects ++ stages_of n ++ beginning ++ calls_of n) (ending n)
    (length objects + 200 * n + length beginning + 20 * n) 1000 h e)
    (omega arith)
