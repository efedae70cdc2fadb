-- Laws of the first bits of a key and of the masked key. Assumes nothing.
-- `first` and `masked` take any length: one above the width counts as the width.
use mathlib.Core.Path.{◌≡◌, sym, ap, ◌∙◌, subst}
use mathlib.Core.Logic.{◌↔◌}
use Prim.Native.Nat.{ℕ, ◌+◌, ◌-◌, ◌*◌, ◌/◌, ◌%◌, ◌^◌, ◌≤◌, ◌<◌}
use native.Mathlib.Nat.{div-eq_of_lt, div-one, div-mul-le_self, mul-one, mul-div_cancel, eq_of_mul-eq-mul_right, le_refl, lt_of_le_of_lt}
use native.Mathlib.Omega.{arith}
use lib.Arith.{digits_mod}
use lib.Bits.{bit_and, and_high}
use lib.Pow.{pow_pos, pow_mono, pow-sub-lt, shr_lt, shr_mod, shr-shr}
use Rattle.prefix.specs.Prefix.{width, first, masked}

-- no bit of a key is the number 0
pub first_none : {key : ℕ} → key < 2 ^ width → first 0 key ≡ 0
unfolding first
first_none h = div-eq_of_lt h

-- all bits of a key are the key
pub first_all : (key : ℕ) → first width key ≡ key
unfolding first
first_all key = div-one key

-- l bits are a number below 2 ^ l
pub first_lt : {key : ℕ} (len : ℕ) → key < 2 ^ width → len ≤ width → first len key < 2 ^ len
unfolding first
first_lt {key} len h l =
    let e : len + (width - len) ≡ width = omega arith in
    shr_lt len (width - len) (subst (λ (x : ℕ). key < 2 ^ x) (sym e) h)

-- fewer bits are the front of more bits
pub first_first : (key l m : ℕ) → l ≤ m → first l key ≡ first m key / 2 ^ ((width - l) - (width - m))
unfolding first
first_first key l m h =
    let e : (width - m) + ((width - l) - (width - m)) ≡ width - l = omega arith in
    ap (λ (x : ℕ). key / 2 ^ x) (sym e) ∙ sym (shr-shr key (width - m) ((width - l) - (width - m)))

-- keys that agree in m bits agree in fewer
pub first_fewer : (p q l m : ℕ) → l ≤ m → first m p ≡ first m q → first l p ≡ first l q
first_fewer p q l m h e =
    first_first p l m h ∙ ap (λ (x : ℕ). x / 2 ^ ((width - l) - (width - m))) e ∙ sym (first_first q l m h)

-- length 0 keeps nothing
pub masked_none : {key : ℕ} → key < 2 ^ width → masked key 0 ≡ 0
unfolding masked
masked_none h = ap (λ (x : ℕ). x * 2 ^ width) (first_none h)

-- the whole width keeps the key
pub masked_all : (key : ℕ) → masked key width ≡ key
unfolding masked
masked_all key = mul-one (first width key) ∙ first_all key

-- the first bits of a masked key are the key's
pub masked_first : (key len l : ℕ) → l ≤ len → first l (masked key len) ≡ first l key
unfolding first masked
masked_first key len l h =
    first_first (masked key len) l len h
    ∙ ap (λ (x : ℕ). x / 2 ^ ((width - l) - (width - len))) (mul-div_cancel (first len key) (pow_pos (width - len)))
    ∙ sym (first_first key l len h)

-- masking to fewer bits forgets an earlier masking
pub masked_shorter : (key len l : ℕ) → l ≤ len → masked (masked key len) l ≡ masked key l
unfolding masked
masked_shorter key len l h = ap (λ (x : ℕ). x * 2 ^ (width - l)) (masked_first key len l h)

-- masking twice is masking once
pub masked_again : (key len : ℕ) → masked (masked key len) len ≡ masked key len
masked_again key len = masked_shorter key len len (le_refl len)

-- a masked key is at most the key
pub masked_le : (key len : ℕ) → masked key len ≤ key
unfolding first masked
masked_le key len = div-mul-le_self key (2 ^ (width - len))

-- a masked key has as many bits as the key
pub masked_lt : {key : ℕ} (len : ℕ) → key < 2 ^ width → masked key len < 2 ^ width
masked_lt {key} len h = lt_of_le_of_lt (masked_le key len) h

-- more bits kept give no smaller key
pub masked_mono : (key l m : ℕ) → l ≤ m → masked key l ≤ masked key m
masked_mono key l m h = subst (λ (x : ℕ). x ≤ masked key m) (masked_shorter key m l h) (masked_le (masked key m) l)

-- keys that are the same when masked to a length are those that agree in so many bits
pub masked_same : (p q len : ℕ) → masked p len ≡ masked q len ↔ first len p ≡ first len q
unfolding masked
masked_same p q len = (
  eq_of_mul-eq-mul_right (2 ^ (width - len)) (pow_pos (width - len)) (first len p) (first len q),
  ap (λ (x : ℕ). x * 2 ^ (width - len)),
)

-- all ones, shifted up by k in the width
ones_shl : (k : ℕ) → k ≤ width → (2 ^ width - 1) * 2 ^ k % 2 ^ width ≡ 2 ^ width - 2 ^ k
ones_shl k h =
    let p = pow_pos k in
    let m : 2 ^ k ≤ 2 ^ width = pow_mono h in
    let e : (2 ^ width - 1) * 2 ^ k ≡ (2 ^ k - 1) * 2 ^ width + (2 ^ width - 2 ^ k) = omega arith in
    ap (λ (x : ℕ). x % 2 ^ width) e ∙ digits_mod (2 ^ k - 1) (pow-sub-lt width p)

-- the key and all ones shifted up by what the length leaves
pub masked_by_and : (key len : ℕ) → key < 2 ^ width → len ≤ width → bit_and key ((2 ^ width - 1) * 2 ^ (width - len) % 2 ^ width) ≡ masked key len
unfolding first masked
masked_by_and key len h l =
    let e : len + (width - len) ≡ width = omega arith in
    ap (bit_and key) (ones_shl (width - len) (omega arith) ∙ ap (λ (x : ℕ). 2 ^ x - 2 ^ (width - len)) (sym e))
    ∙ and_high key len (width - len)
    ∙ ap (λ (x : ℕ). x * 2 ^ (width - len)) (shr_mod len (width - len) (subst (λ (x : ℕ). key < 2 ^ x) (sym e) h))
