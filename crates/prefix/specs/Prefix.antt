-- What a prefix is (document 01, "What a rule is"; RFC 4632): a 32-bit key and a length of at most 32. Assumes nothing.
use Rattle.std.specs.Prelude.{◌≡◌, Bool, ◌&&◌, ◌||◌, ℕ, ◌-◌, ◌*◌, ◌/◌, ◌^◌, ◌≤◌, leb, ltb, eqb}

-- the bits of a key
abbrev pub width : ℕ
width = 32

-- the first `len` bits of a key, as a number
unfoldable pub first : ℕ → ℕ → ℕ
first len key = key / 2 ^ (width - len)

-- the key with the bits behind the length taken as zero
unfoldable pub masked : ℕ → ℕ → ℕ
masked key len = first len key * 2 ^ (width - len)

-- (p, l) covers (q, m): its length is at most the other's, and their first l bits agree
pub record Covers (p l q m : ℕ) : Type 0 where
  pub shorter : l ≤ m
  pub agree : first l p ≡ first l q

-- the same as a test
unfoldable pub covers : ℕ → ℕ → ℕ → ℕ → Bool
covers p l q m = leb l m && eqb (first l p) (first l q)

-- (p, l) comes before (q, m): by masked key, then by length
unfoldable pub before : ℕ → ℕ → ℕ → ℕ → Bool
before p l q m = ltb (masked p l) (masked q m) || (eqb (masked p l) (masked q m) && ltb l m)
