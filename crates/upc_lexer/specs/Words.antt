-- How each word is spelled (C99 6.4.1; UPC 6.2), and the type words.
use Rattle.std.specs.Prelude.{ℕ, List, codes}
use Rattle.upc_lexer.specs.declared.token.Word.{Word}
use Rattle.upc_lexer.specs.declared.token.Word.TheVariants.{Break, Case, Char, Const, Continue, Default, Do, Else}
use Rattle.upc_lexer.specs.declared.token.Word.TheVariants.{For, If, Int, Long, Return, Short, Signed, Sizeof, Static}
use Rattle.upc_lexer.specs.declared.token.Word.TheVariants.{Struct, Switch, Unsigned, Void, While, Shared, Strict}
use Rattle.upc_lexer.specs.declared.token.Word.TheVariants.{Relaxed, Mythread, Threads, UpcMaxBlockSize, UpcBarrier}
use Rattle.upc_lexer.specs.declared.token.Word.TheVariants.{UpcBlocksizeof, UpcElemsizeof, UpcFence, UpcForall}
use Rattle.upc_lexer.specs.declared.token.Word.TheVariants.{UpcLocalsizeof, UpcNotify, UpcWait, SizeT, PtrdiffT}
use Rattle.upc_lexer.specs.declared.token.Word.TheVariants.{UpcLockT, UpcOpT, UpcFlagT, Auto, Double, Enum, Extern}
use Rattle.upc_lexer.specs.declared.token.Word.TheVariants.{Float, Goto, Inline, Register, Restrict, Typedef, Union}
use Rattle.upc_lexer.specs.declared.token.Word.TheVariants.{Volatile, Bool, Complex, Imaginary}

-- The bytes of each word: those of C99 and UPC, and the names of types of the library (C99 6.4.1, 7.17; UPC 6.2, 7).
abbrev pub word_bytes : Word → List ℕ
word_bytes Break = codes "break"
word_bytes Case = codes "case"
word_bytes Char = codes "char"
word_bytes Const = codes "const"
word_bytes Continue = codes "continue"
word_bytes Default = codes "default"
word_bytes Do = codes "do"
word_bytes Else = codes "else"
word_bytes For = codes "for"
word_bytes If = codes "if"
word_bytes Int = codes "int"
word_bytes Long = codes "long"
word_bytes Return = codes "return"
word_bytes Short = codes "short"
word_bytes Signed = codes "signed"
word_bytes Sizeof = codes "sizeof"
word_bytes Static = codes "static"
word_bytes Struct = codes "struct"
word_bytes Switch = codes "switch"
word_bytes Unsigned = codes "unsigned"
word_bytes Void = codes "void"
word_bytes While = codes "while"
word_bytes Shared = codes "shared"
word_bytes Strict = codes "strict"
word_bytes Relaxed = codes "relaxed"
word_bytes Mythread = codes "MYTHREAD"
word_bytes Threads = codes "THREADS"
word_bytes UpcMaxBlockSize = codes "UPC_MAX_BLOCK_SIZE"
word_bytes UpcBarrier = codes "upc_barrier"
word_bytes UpcBlocksizeof = codes "upc_blocksizeof"
word_bytes UpcElemsizeof = codes "upc_elemsizeof"
word_bytes UpcFence = codes "upc_fence"
word_bytes UpcForall = codes "upc_forall"
word_bytes UpcLocalsizeof = codes "upc_localsizeof"
word_bytes UpcNotify = codes "upc_notify"
word_bytes UpcWait = codes "upc_wait"
word_bytes SizeT = codes "size_t"
word_bytes PtrdiffT = codes "ptrdiff_t"
word_bytes UpcLockT = codes "upc_lock_t"
word_bytes UpcOpT = codes "upc_op_t"
word_bytes UpcFlagT = codes "upc_flag_t"
word_bytes Auto = codes "auto"
word_bytes Double = codes "double"
word_bytes Enum = codes "enum"
word_bytes Extern = codes "extern"
word_bytes Float = codes "float"
word_bytes Goto = codes "goto"
word_bytes Inline = codes "inline"
word_bytes Register = codes "register"
word_bytes Restrict = codes "restrict"
word_bytes Typedef = codes "typedef"
word_bytes Union = codes "union"
word_bytes Volatile = codes "volatile"
word_bytes Bool = codes "_Bool"
word_bytes Complex = codes "_Complex"
word_bytes Imaginary = codes "_Imaginary"
