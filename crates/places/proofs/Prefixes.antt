-- Data bits as prefixes, both ways and at every depth: a prefix's bit stands for that prefix, and the prefix of a bit has that bit. Assumes nothing.
use mathlib.Core.Path.{◌≡◌, sym, ap, ap₂, ◌∙◌}
use mathlib.Core.Logic.{◌↔◌}
use Prim.Native.Nat.{ℕ, ◌+◌, ◌-◌, ◌%◌, ◌^◌, ◌≤◌, ◌<◌}
use native.Mathlib.Nat.{mod-lt}
use native.Mathlib.Omega.{arith}
use lib.Dec.{lit<}
use lib.Pow.{pow_pos}
use Rattle.prefix.specs.Prefix.{width, first, masked}
use Rattle.tiers.specs.Tiers.{stride}
use Rattle.places.specs.Places.{depth_of, level_in, data_bit, level_of, path_of, length_at, key_at}
use Rattle.places.proofs.Levels.{level_lt, level_path, level_le, path_lt, bit_level, bit_path, bit_lt}
use Rattle.places.proofs.Extending.{extended, first_same, extended_depth, extended_path, extended_masked, extended_lt, extended_own, extended_same}

-- ---- from a prefix to its bit

level_in_lt : (len : ℕ) → level_in len < 5
level_in_lt len = mod-lt len (lit< tt)

-- a prefix's bit is a data bit
pub data_lt : (key len : ℕ) → data_bit key len < 31
unfolding data_bit
data_lt key len = bit_lt (level_in len) (first len key % 2 ^ level_in len) (level_in_lt len) (mod-lt (first len key) (pow_pos (level_in len)))

-- at the length's level
pub data_level : (key len : ℕ) → level_of (data_bit key len) ≡ level_in len
unfolding data_bit
data_level key len = bit_level (level_in len) (first len key % 2 ^ level_in len) (level_in_lt len) (mod-lt (first len key) (pow_pos (level_in len)))

-- with the key's bits after the depth as its path
pub data_path : (key len : ℕ) → path_of (data_bit key len) ≡ first len key % 2 ^ level_in len
unfolding data_bit
data_path key len = bit_path (level_in len) (first len key % 2 ^ level_in len) (level_in_lt len) (mod-lt (first len key) (pow_pos (level_in len)))

-- it stands for the prefix's length
pub data_length : (key len : ℕ) → length_at (depth_of len) (data_bit key len) ≡ len
unfolding length_at
data_length key len = let e = data_level key len in omega arith

-- and for its key
pub data_key : (key len : ℕ) → len ≤ width → key_at (depth_of len) key (data_bit key len) ≡ masked key len
unfolding key_at
data_key key len h =
    let d : ℕ = depth_of len in
    let j : ℕ = level_in len in
    let e : d + j ≡ len = omega arith in
    ap₂ (λ (y z : ℕ). extended d key y z) (data_level key len) (data_path key len ∙ ap (λ (y : ℕ). first y key % 2 ^ j) (sym e))
    ∙ extended_own key d j (omega arith)
    ∙ ap (masked key) e

-- the last node has the lengths 30 to 32, so seven bits
pub data_last : (key len : ℕ) → len ≤ width → depth_of len ≡ 30 → data_bit key len < 7
data_last key len h e = (level_le (data_bit key len) 2 (data_lt key len)).0 (let l = data_level key len in omega arith)

-- it sees only the first bits of the key
pub data_of : (p q len : ℕ) → first len p ≡ first len q → data_bit p len ≡ data_bit q len
unfolding data_bit
data_of p q len e = ap (λ (y : ℕ). (2 ^ level_in len - 1) + y % 2 ^ level_in len) e

-- ---- from a bit to its prefix

-- the prefix's length lives in the node
pub at_depth : (d b : ℕ) → d % stride ≡ 0 → b < 31 → depth_of (length_at d b) ≡ d
unfolding length_at
at_depth d b hd hb = let l = level_lt b hb in omega arith

-- at the bit's level
pub at_level : (d b : ℕ) → d % stride ≡ 0 → b < 31 → level_in (length_at d b) ≡ level_of b
unfolding length_at
at_level d b hd hb = let l = level_lt b hb in omega arith

-- the prefix has the bit
pub at_bit : (d key b : ℕ) → d % stride ≡ 0 → b < 31 → length_at d b ≤ width → data_bit (key_at d key b) (length_at d b) ≡ b
unfolding data_bit length_at key_at
at_bit d key b hd hb h =
    ap (λ (y : ℕ). (2 ^ y - 1) + first (length_at d b) (key_at d key b) % 2 ^ y) (at_level d b hd hb)
    ∙ ap (λ (y : ℕ). (2 ^ level_of b - 1) + y) (extended_path key d (level_of b) (path_of b) h (path_lt b hb))
    ∙ level_path b hb

-- its key goes through the node
pub at_first : (d key b : ℕ) → b < 31 → length_at d b ≤ width → first d (key_at d key b) ≡ first d key
unfolding length_at key_at
at_first d key b hb h = extended_depth key d (level_of b) (path_of b) h (path_lt b hb)

-- and is masked
pub at_masked : (d key b : ℕ) → length_at d b ≤ width → masked (key_at d key b) (length_at d b) ≡ key_at d key b
unfolding length_at key_at
at_masked d key b h = extended_masked key d (level_of b) (path_of b) h

-- it is a key
pub at_lt : (d key b : ℕ) → key < 2 ^ width → b < 31 → length_at d b ≤ width → key_at d key b < 2 ^ width
unfolding length_at key_at
at_lt d key b hk hb h = extended_lt key d (level_of b) (path_of b) hk h (path_lt b hb)

-- every key that goes through the node gives the same
pub at_same : (d p q b : ℕ) → first d p ≡ first d q → key_at d p b ≡ key_at d q b
unfolding key_at
at_same d p q b e = extended_same p q d (level_of b) (path_of b) e

-- in the last node the bits below 7 stand for lengths, 30 to 32
pub at_last : (b : ℕ) → b < 31 → length_at 30 b ≤ width ↔ b < 7
unfolding length_at
at_last b hb = (λ h. (level_le b 2 hb).0 (omega arith), λ h. let l = (level_le b 2 hb).1 h in omega arith)

-- ---- one node, one bit, one prefix

-- of keys that go through one node, two prefixes there have one bit exactly where they are one prefix
pub data_same : (d p q l m : ℕ) → depth_of l ≡ d → depth_of m ≡ d → l ≤ width → first d p ≡ first d q → data_bit p l ≡ data_bit q m ↔ ((l ≡ m) × (first l p ≡ first l q))
data_same d p q l m hl hm h e = (to, from)
  where
    to : data_bit p l ≡ data_bit q m → (l ≡ m) × (first l p ≡ first l q)
    to s =
        let j : ℕ = level_in l in
        let a : level_in l ≡ level_in m = sym (data_level p l) ∙ ap level_of s ∙ data_level q m in
        let lm : l ≡ m = omega arith in
        let n : d + j ≡ l = omega arith in
        let i : d + j ≤ width = omega arith in
        let c : first l p % 2 ^ j ≡ first l q % 2 ^ j = sym (data_path p l) ∙ ap path_of s ∙ data_path q m ∙ ap (λ (y : ℕ). first y q % 2 ^ level_in y) (sym lm) in
        let t : first (d + j) p ≡ first (d + j) q = (first_same p q d j i).1 (e, ap (λ (y : ℕ). first y p % 2 ^ j) n ∙ c ∙ ap (λ (y : ℕ). first y q % 2 ^ j) (sym n)) in
        (lm, ap (λ (y : ℕ). first y p) (sym n) ∙ t ∙ ap (λ (y : ℕ). first y q) n)

    from : (l ≡ m) × (first l p ≡ first l q) → data_bit p l ≡ data_bit q m
    from w = data_of p q l w.1 ∙ ap (data_bit q) w.0
