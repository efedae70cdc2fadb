-- What is left of a key below a depth: its top bits are the windows of the key there. Assumes nothing.
use mathlib.Core.Path.{◌≡◌, sym, ap, ◌∙◌}
use Prim.Native.Nat.{ℕ, ◌+◌, ◌-◌, ◌*◌, ◌/◌, ◌%◌, ◌^◌, ◌≤◌, ◌<◌}
use native.Mathlib.Nat.{mul-div_cancel, mul_assoc, mul_comm}
use native.Mathlib.Omega.{arith}
use lib.Pow.{pow_pos, pow-add, shr-shr, field}
use Rattle.prefix.specs.Prefix.{width}
use Rattle.tiers.specs.Tiers.{stride}
use Rattle.places.specs.Places.{window, child_bit, rest_at}
use Rattle.places.proofs.Windows.{window_front}

-- a factor of both sides falls out
scaled : (x a b : ℕ) → x * 2 ^ a / 2 ^ (a + b) ≡ x / 2 ^ b
scaled x a b = sym (shr-shr (x * 2 ^ a) a b) ∙ ap (λ (y : ℕ). y / 2 ^ b) (mul-div_cancel x (pow_pos a))

-- two factors, in either order
swapped : (x a b : ℕ) → x * 2 ^ a * 2 ^ b ≡ x * 2 ^ b * 2 ^ a
swapped x a b = mul_assoc x (2 ^ a) (2 ^ b) ∙ ap (λ (y : ℕ). x * y) (mul_comm (2 ^ a) (2 ^ b)) ∙ sym (mul_assoc x (2 ^ b) (2 ^ a))

-- the top w bits of what is left are the window of w bits, at every depth
pub rest_window : (key d w : ℕ) → w ≤ width → d + w ≤ width + stride → rest_at key d / 2 ^ (width - w) ≡ window key d w
unfolding rest_at window
rest_window key d w h k =
    let s : ℕ = width - w in
    let t : ℕ = width + stride - d - w in
    let e : width ≡ w + s = omega arith in
    let q : stride + s ≡ d + t = omega arith in
    ap (λ (y : ℕ). key * 2 ^ d % 2 ^ y / 2 ^ s) e
    ∙ field (key * 2 ^ d) w s
    ∙ ap (λ (y : ℕ). y % 2 ^ w)
    (sym (scaled (key * 2 ^ d) stride s)
    ∙ ap (λ (y : ℕ). y / 2 ^ (stride + s)) (swapped key d stride)
    ∙ ap (λ (y : ℕ). key * 2 ^ stride * 2 ^ d / 2 ^ y) q
    ∙ scaled (key * 2 ^ stride) d t)

-- the top five are the child
pub rest_child : (key d : ℕ) → d + stride ≤ width → rest_at key d / 2 ^ 27 ≡ child_bit d key
unfolding child_bit
rest_child key d h =
    let whole : window key d 5 ≡ window key d 5 / 2 ^ (5 - 5) = omega arith in
    rest_window key d 5 (omega arith) (omega arith) ∙ whole ∙ window_front key d 5 5 (omega arith) (omega arith) h

-- the top four are the place in a row of the patterns
pub rest_place : (key d : ℕ) → d ≤ 30 → rest_at key d / 2 ^ 28 ≡ window key d 4
rest_place key d h = rest_window key d 4 (omega arith) (omega arith)

-- one node further down five more bits fall off
pub rest_below : (key d : ℕ) → rest_at key d * 2 ^ stride % 2 ^ width ≡ rest_at key (d + stride)
unfolding rest_at
rest_below key d =
    let x : ℕ = key * 2 ^ d in
    let e : x % 2 ^ width * 2 ^ stride % 2 ^ width ≡ x * 2 ^ stride % 2 ^ width = omega arith in
    e ∙ ap (λ (y : ℕ). y % 2 ^ width) (mul_assoc key (2 ^ d) (2 ^ stride) ∙ ap (λ (y : ℕ). key * y) (sym (pow-add 2 d stride)))

-- at the root all of the key is left
pub rest_root : (key : ℕ) → key < 2 ^ width → key ≡ rest_at key 0
unfolding rest_at
rest_root key h = omega arith
