-- Worked rows on integers, computed by the definitions themselves.
use Rattle.std.specs.Prelude.{◌≡◌, pos, negsuc, false, Ok, Err}
use Rattle.std.proofs.Common.{refl}
use Rattle.block_layout.specs.declared.kind.Kind.TheVariants.{Char, UChar, Short, Int, UInt, Long, ULong}
use Rattle.integers.specs.declared.operator.BinOp.TheVariants.{Multiply, Divide, Remainder, Add, Subtract, ShiftLeft, ShiftRight, BitAnd, Less}
use Rattle.integers.specs.declared.operator.UnOp.TheVariants.{Minus, Complement, Not}
use Rattle.integers.specs.Integers.{in_kind, converted}
use Rattle.integers.specs.Operators.{binary_of, unary_of}

-- -7 / 2, -7 % 2, -7 >> 1
divide-row : binary_of Divide Int (negsuc 6) (pos 2) ≡ Ok (negsuc 2)
divide-row = refl

remainder-row : binary_of Remainder Int (negsuc 6) (pos 2) ≡ Ok (negsuc 0)
remainder-row = refl

shift-row : binary_of ShiftRight Int (negsuc 6) (pos 1) ≡ Ok (negsuc 3)
shift-row = refl

-- the least long by -1
least-row : binary_of Divide Long (negsuc 9223372036854775807) (negsuc 0) ≡ Err 1
least-row = refl

least-remainder : binary_of Remainder Long (negsuc 9223372036854775807) (negsuc 0) ≡ Err 1
least-remainder = refl

zero-row : binary_of Divide UInt (pos 7) (pos 0) ≡ Err 2
zero-row = refl

overflow-row : binary_of Add Int (pos 2147483647) (pos 1) ≡ Err 1
overflow-row = refl

wraps-row : binary_of Multiply ULong (pos 18446744073709551615) (pos 18446744073709551615) ≡ Ok (pos 1)
wraps-row = refl

below-row : binary_of Subtract UInt (pos 0) (pos 1) ≡ Ok (pos 4294967295)
below-row = refl

left-row : binary_of ShiftLeft Int (negsuc 0) (pos 1) ≡ Err 1
left-row = refl

count-row : binary_of ShiftLeft Int (pos 1) (pos 32) ≡ Err 3
count-row = refl

and-row : binary_of BitAnd Int (negsuc 0) (pos 255) ≡ Ok (pos 255)
and-row = refl

less-row : binary_of Less Int (negsuc 0) (pos 0) ≡ Ok (pos 1)
less-row = refl

minus-row : unary_of Minus Int (negsuc 2147483647) ≡ Err 1
minus-row = refl

complement-row : unary_of Complement UInt (pos 0) ≡ Ok (pos 4294967295)
complement-row = refl

not-row : unary_of Not Int (pos 3) ≡ Ok (pos 0)
not-row = refl

-- (short)40000, (unsigned char)-1, (unsigned long)-1
short-row : converted Short (pos 40000) ≡ negsuc 25535
short-row = refl

byte-row : converted UChar (negsuc 0) ≡ pos 255
byte-row = refl

long-row : converted ULong (negsuc 0) ≡ pos 18446744073709551615
long-row = refl

range-row : in_kind Char (pos 128) ≡ false
range-row = refl
