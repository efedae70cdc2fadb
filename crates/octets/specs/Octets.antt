-- Numbers of 32 bits in bytes, big-endian, and bytes written one after the other. Assumes nothing.
use Rattle.std.specs.Prelude.{ℕ, ◌+◌, ◌*◌, ◌/◌, ◌%◌, List, [], ◌∷◌, get_or, set}

-- the number in the four bytes from `at` on
unfoldable pub word_in : List ℕ → ℕ → ℕ
word_in s at = get_or s at 0 * 16_777_216 + get_or s (at + 1) 0 * 65_536 + get_or s (at + 2) 0 * 256 + get_or s (at + 3) 0

-- the four bytes of a number
abbrev pub bytes_of : ℕ → List ℕ
bytes_of x = x / 16_777_216 % 256 ∷ x / 65_536 % 256 ∷ x / 256 % 256 ∷ x % 256 ∷ []

-- bytes written from `at` on
unfoldable pub written : List ℕ → ℕ → List ℕ → List ℕ
written l at [] = l
written l at (b ∷ bs) = written (set l at b) (at + 1) bs
