-- Levels and paths of data bits: bit b is the path `path_of b` of `level_of b` bits, and every such pair is one bit. Assumes nothing.
use mathlib.Core.Path.{◌≡◌, sym, ap, ap₂, ◌∙◌}
use mathlib.Core.Logic.{◌↔◌}
use mathlib.Core.Bool.{Bool, ◌&&◌}
use Prim.Native.Nat.{ℕ, suc, ◌+◌, ◌-◌, ◌*◌, ◌^◌, ◌≤◌, ◌<◌}
use native.Mathlib.Nat.{pow-suc}
use native.Mathlib.Omega.{arith}
use native.Mathlib.Decide.{dec_le, dec_lt}
use lib.Count.{count_leading_zeros, leading_top}
use lib.Dec.{T, ltb, eqb, ltb→lt, eqb→eq}
use lib.Pow.{pow_pos, pow_mono}
use Rattle.bits.proofs.Table.{and_left, and_right, up_to, up_to_at}
use Rattle.places.specs.Places.{level_of, path_of}

-- ---- from a bit to its level and path, tested at each bit

splits : ℕ → Bool
splits b = ltb (level_of b) 5 && (eqb ((2 ^ level_of b - 1) + path_of b) b && ltb (path_of b) (2 ^ level_of b))

all_split : T (up_to 31 splits)
unfolding splits level_of path_of
all_split = tt

split_at : (b : ℕ) → b < 31 → (level_of b < 5) × ((2 ^ level_of b - 1) + path_of b ≡ b) × (path_of b < 2 ^ level_of b)
unfolding splits
split_at b h =
    let l : Bool = ltb (level_of b) 5 in
    let e : Bool = eqb ((2 ^ level_of b - 1) + path_of b) b in
    let p : Bool = ltb (path_of b) (2 ^ level_of b) in
    let t : T (l && (e && p)) = up_to_at 31 splits all_split b h in (
      ltb→lt (level_of b) 5 (and_left l (e && p) t),
      eqb→eq ((2 ^ level_of b - 1) + path_of b) b (and_left e p (and_right l (e && p) t)),
      ltb→lt (path_of b) (2 ^ level_of b) (and_right e p (and_right l (e && p) t)),
    )

-- a node has five levels
pub level_lt : (b : ℕ) → b < 31 → level_of b < 5
level_lt b h = (split_at b h).0

-- a bit is the offset of its level, and its path
pub level_path : (b : ℕ) → b < 31 → (2 ^ level_of b - 1) + path_of b ≡ b
level_path b h = (split_at b h).1

-- a path has as many bits as its level says
pub path_lt : (b : ℕ) → b < 31 → path_of b < 2 ^ level_of b
path_lt b h = (split_at b h).2

-- bits of one level and one path are one bit
pub same_place : (a b : ℕ) → a < 31 → b < 31 → level_of a ≡ level_of b → path_of a ≡ path_of b → a ≡ b
same_place a b ha hb l p = sym (level_path a ha) ∙ ap₂ (λ (x y : ℕ). (2 ^ x - 1) + y) l p ∙ level_path b hb

-- the levels up to j have the bits below 2 ^ (j + 1) - 1
pub level_le : (b j : ℕ) → b < 31 → level_of b ≤ j ↔ b < 2 ^ suc j - 1
level_le b j h = (to, λ k. from k (dec_le (level_of b) j))
  where
    to : level_of b ≤ j → b < 2 ^ suc j - 1
    to l =
        let e = level_path b h in
        let p = path_lt b h in
        let m : 2 ^ level_of b ≤ 2 ^ j = pow_mono l in
        let s : 2 ^ suc j ≡ 2 ^ j * 2 = pow-suc 2 j in
        omega arith

    from : b < 2 ^ suc j - 1 → Dec (level_of b ≤ j) → level_of b ≤ j
    from k (yes l) = l
    from k (no n) =
        let e = level_path b h in
        let l : suc j ≤ level_of b = omega arith in
        let m : 2 ^ suc j ≤ 2 ^ level_of b = pow_mono l in
        omega arith

-- ---- from a level and a path to their bit, tested at each pair

joins : ℕ → ℕ → Bool
joins j x = eqb (level_of ((2 ^ j - 1) + x)) j && eqb (path_of ((2 ^ j - 1) + x)) x

joins_at : ℕ → Bool
unfolding joins
joins_at j = up_to (2 ^ j) (joins j)

all_join : T (up_to 5 joins_at)
unfolding joins_at joins level_of path_of
all_join = tt

-- the level of the bit with path x at level j
pub bit_level : (j x : ℕ) → j < 5 → x < 2 ^ j → level_of ((2 ^ j - 1) + x) ≡ j
unfolding joins_at joins
bit_level j x hj hx =
    let b : ℕ = (2 ^ j - 1) + x in
    eqb→eq (level_of b) j (and_left (eqb (level_of b) j) (eqb (path_of b) x) (up_to_at (2 ^ j) (joins j) (up_to_at 5 joins_at all_join j hj) x hx))

-- and its path
pub bit_path : (j x : ℕ) → j < 5 → x < 2 ^ j → path_of ((2 ^ j - 1) + x) ≡ x
unfolding joins_at joins
bit_path j x hj hx =
    let b : ℕ = (2 ^ j - 1) + x in
    eqb→eq (path_of b) x (and_right (eqb (level_of b) j) (eqb (path_of b) x) (up_to_at (2 ^ j) (joins j) (up_to_at 5 joins_at all_join j hj) x hx))

-- it is a data bit
pub bit_lt : (j x : ℕ) → j < 5 → x < 2 ^ j → (2 ^ j - 1) + x < 31
bit_lt j x hj hx =
    let k : j ≤ 4 = omega arith in
    let m : 2 ^ j ≤ 2 ^ 4 = pow_mono k in
    omega arith

-- ---- what the machine computes

-- the level is the place of the highest bit of b + 1
pub level_top : (b : ℕ) → b < 31 → count_leading_zeros 32 (b + 1) + suc (level_of b) ≡ 32
level_top b h =
    let t = leading_top 32 (b + 1) (omega arith) (omega arith) in
    let j : ℕ = t.0 in
    let s : 2 ^ suc j ≡ 2 ^ j * 2 = pow-suc 2 j in
    let x : ℕ = (b + 1) - 2 ^ j in
    let e : (2 ^ j - 1) + x ≡ b = omega (arith, t.2, pow_pos j) in
    let l : level_of b ≡ j = ap level_of (sym e) ∙ bit_level j x (small j t.2 (dec_lt j 5)) (omega (arith, t.2, t.3)) in
    omega (arith, t.1)
  where
    small : (j : ℕ) → 2 ^ j ≤ b + 1 → Dec (j < 5) → j < 5
    small j l (yes k) = k
    small j l (no k) =
        let q : 5 ≤ j = omega arith in
        let m : 2 ^ 5 ≤ 2 ^ j = pow_mono q in
        omega arith
