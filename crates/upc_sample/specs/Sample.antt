-- The source that is made from a number of stages.
use Rattle.std.specs.Prelude.{ℕ, List, ◌++◌, codes, decimal}
use Rattle.std.specs.List.{flat_map, range_with_len}

-- Two shared arrays in blocks of 16 ints, a block on each thread, and a shared sum (UPC 6.5.1.1).
abbrev pub objects : List ℕ
objects =
    codes "#include <upc_relaxed.h>\n" ++ codes "#include <stdio.h>\n" ++ codes "#define M (16*THREADS)\n"
    ++ codes "shared [16] int a[M];\n" ++ codes "shared [16] int b[M];\n" ++ codes "shared int sum;\n"

-- A text, and a number after it in decimal.
abbrev pub numbered : List ℕ → ℕ → List ℕ
numbered text number = text ++ decimal number

-- The function of a stage: each element of `b` becomes the next one of `a` with the stage's number added, and `a`
-- becomes `b` (UPC 6.6.2).
abbrev pub stage : ℕ → List ℕ
stage number =
    numbered (codes "void stage_") number
    ++ numbered (codes "(void){int i;upc_forall(i=0;i<M;i++;&b[i])b[i]=a[(i+1)%M]+") number
    ++ codes ";upc_barrier;upc_forall(i=0;i<M;i++;&a[i])a[i]=b[i];upc_barrier;}\n"

-- The call of a stage.
abbrev pub call : ℕ → List ℕ
call number = numbered (codes "stage_") number ++ codes "();\n"

-- What stands before the stages: each element of `a` begins with its number.
abbrev pub beginning : List ℕ
beginning =
    codes "int main(void){int i;int part=0;upc_lock_t *lk=upc_all_lock_alloc();\n"
    ++ codes "upc_forall(i=0;i<M;i++;&a[i])a[i]=i;\n" ++ codes "upc_barrier;\n"

-- What stands after them: the threads add up their parts of `a` under a lock, and thread 0 prints the sum (UPC 7.2.4).
abbrev pub ending : ℕ → List ℕ
ending stages =
    codes "upc_forall(i=0;i<M;i++;&a[i])part+=a[i];\n" ++ codes "upc_lock(lk);sum+=part;upc_unlock(lk);\n"
    ++ codes "upc_barrier;\n" ++ numbered (codes "if(MYTHREAD==0)printf(\"stages ") stages
    ++ codes " sum %d\\n\",sum);\n" ++ codes "return 0;}\n"

-- The source with so many stages, numbered from 0.
abbrev pub sample : ℕ → List ℕ
sample stages =
    objects ++ flat_map stage (range_with_len 0 stages) ++ beginning ++ flat_map call (range_with_len 0 stages)
    ++ ending stages
