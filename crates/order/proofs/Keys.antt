-- The keys of a node's data bits and children, as the machine joins them from the node's bits and an offset. Assumes nothing.
use mathlib.Core.Path.{◌≡◌, sym, ap, ap₂, ◌∙◌, subst}
use Prim.Native.Nat.{ℕ, ◌+◌, ◌-◌, ◌*◌, ◌/◌, ◌%◌, ◌^◌, ◌≤◌, ◌<◌}
use native.Mathlib.Nat.{mul_assoc, mul-div_cancel, mul-div-mul_right}
use native.Mathlib.Omega.{arith}
use lib.Bits.{bit_or, or_shifted}
use lib.Pow.{pow_pos, pow-add, shl_lt, shl_exact, shr_lt}
use Rattle.prefix.specs.Prefix.{width, first, masked}
use Rattle.tiers.specs.Tiers.{stride}
use Rattle.places.specs.Places.{level_of, path_of, length_at, key_at, child_key}
use Rattle.places.proofs.Levels.{level_lt, path_lt}
use Rattle.places.proofs.Extending.{extended}
use Rattle.places.proofs.Children.{child_extended}
use Rattle.order.specs.declared.BitPrefix.{BitPrefix}
use Rattle.order.specs.Order.{Offset}

-- the node's bits and what fits behind them have no bit in common: joined, they are the sum
or_masked : (key d x : ℕ) → x < 2 ^ (width - d) → bit_or (masked key d) x ≡ masked key d + x
unfolding masked
or_masked key d x h = or_shifted (first d key) (width - d) x h

-- j bits, shifted to their place behind the node's
or_extended : (key d j x : ℕ) → d + j ≤ width → x < 2 ^ j → bit_or (masked key d) (x * 2 ^ (width - (d + j))) ≡ extended d key j x
or_extended key d j x h l =
    let k : ℕ = width - (d + j) in
    let e : j + k ≡ width - d = omega arith in
    or_masked key d (x * 2 ^ k) (subst (λ (y : ℕ). x * 2 ^ k < 2 ^ y) e (shl_lt j k l))

-- the same as the machine shifts
shl_extended : (key d j x : ℕ) → d + j ≤ width → x < 2 ^ j → bit_or (masked key d) (x * 2 ^ (width - (d + j)) % 2 ^ width) ≡ extended d key j x
shl_extended key d j x h l = ap (bit_or (masked key d)) (shl_exact j (width - (d + j)) width l (omega arith)) ∙ or_extended key d j x h l

-- ---- a child

-- a child that the key holds whole
pub child_in : {root : ℕ} (key d c : ℕ) → root ≡ masked key d → d + stride ≤ width → c < 32 → bit_or root (c * 2 ^ (32 - d - 5) % 2 ^ 32) ≡ child_key d key c
child_in key d c r h l =
    let e : 32 - d - 5 ≡ width - (d + stride) = omega arith in
    ap₂ (λ (x y : ℕ). bit_or x (c * 2 ^ y % 2 ^ 32)) r e ∙ shl_extended key d stride c h l ∙ sym (child_extended d key c h)

-- a child that runs past the key: its last bits fall off
pub child_past : {root : ℕ} (key d c : ℕ) → root ≡ masked key d → width ≤ d + stride → d ≤ width → c < 32 → bit_or root (c / 2 ^ (d + 5 - 32)) ≡ child_key d key c
unfolding child_key
child_past key d c r h k l =
    let s : ℕ = d + 5 - 32 in
    let e : (width - d) + s ≡ stride = omega arith in
    let q : s + width ≡ d + stride = omega arith in
    ap (λ (x : ℕ). bit_or x (c / 2 ^ s)) r
    ∙ or_masked key d (c / 2 ^ s) (shr_lt (width - d) s (subst (λ (y : ℕ). c < 2 ^ y) (sym e) l))
    ∙ ap (λ (y : ℕ). masked key d + y)
    (sym (mul-div-mul_right c (2 ^ s) (pow_pos width)) ∙ ap (λ (y : ℕ). c * 2 ^ width / y) (sym (pow-add 2 s width) ∙ ap (λ (y : ℕ). 2 ^ y) q))

-- ---- a data bit, from its offset and its level

-- the depth and the level are the length
pub data_length : {b i : ℕ} {p : BitPrefix} (d : ℕ) → i ≡ b → Offset i p → d + p.level ≡ length_at d b
unfolding length_at
data_length d e o = ap (λ (x : ℕ). d + x) (o.level_is ∙ ap level_of e)

-- the offset is the path filled up to four bits; within the key it is shifted up
pub data_in : {root b i : ℕ} {p : BitPrefix} (key d : ℕ) → root ≡ masked key d → i ≡ b → Offset i p → d ≤ 28 → b < 31
    → bit_or root (p.offset * 2 ^ (28 - d) % 2 ^ 32) ≡ key_at d key b
unfolding key_at
data_in {root} {b} key d r e o h l =
    let j : ℕ = level_of b in
    let v = level_lt b l in
    let q : (4 - j) + (28 - d) ≡ width - (d + j) = omega arith in
    ap₂ (λ (x y : ℕ). bit_or x (y * 2 ^ (28 - d) % 2 ^ 32)) r (o.offset_is ∙ ap (λ (x : ℕ). path_of x * 2 ^ (4 - level_of x)) e)
    ∙ ap (λ (y : ℕ). bit_or (masked key d) (y % 2 ^ 32))
    (mul_assoc (path_of b) (2 ^ (4 - j)) (2 ^ (28 - d)) ∙ ap (λ (y : ℕ). path_of b * y) (sym (pow-add 2 (4 - j) (28 - d)) ∙ ap (λ (y : ℕ). 2 ^ y) q))
    ∙ shl_extended key d j (path_of b) (omega arith) (path_lt b l)

-- past the key it is shifted down, and only zeros fall off
pub data_past : {root b i : ℕ} {p : BitPrefix} (key d : ℕ) → root ≡ masked key d → i ≡ b → Offset i p → 28 ≤ d → b < 31 → length_at d b ≤ width
    → bit_or root (p.offset / 2 ^ (d - 28)) ≡ key_at d key b
unfolding key_at length_at
data_past {root} {b} key d r e o h l f =
    let j : ℕ = level_of b in
    let k : ℕ = width - (d + j) in
    let q : 4 - j ≡ k + (d - 28) = omega arith in
    ap₂ (λ (x y : ℕ). bit_or x (y / 2 ^ (d - 28))) r (o.offset_is ∙ ap (λ (x : ℕ). path_of x * 2 ^ (4 - level_of x)) e)
    ∙ ap (bit_or (masked key d))
    (ap (λ (y : ℕ). y / 2 ^ (d - 28))
    (ap (λ (y : ℕ). path_of b * y) (ap (λ (y : ℕ). 2 ^ y) q ∙ pow-add 2 k (d - 28)) ∙ sym (mul_assoc (path_of b) (2 ^ k) (2 ^ (d - 28))))
    ∙ mul-div_cancel (path_of b * 2 ^ k) (pow_pos (d - 28)))
    ∙ or_extended key d j (path_of b) f (path_lt b l)
