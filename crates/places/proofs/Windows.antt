-- Windows of a key, as the machine takes them: shifted down and masked, or shifted up where they run past the key. Assumes nothing.
use mathlib.Core.Path.{◌≡◌, sym, ap, ap₂, ◌∙◌}
use Prim.Native.Nat.{ℕ, ◌+◌, ◌-◌, ◌*◌, ◌/◌, ◌%◌, ◌^◌, ◌≤◌, ◌<◌}
use native.Mathlib.Nat.{mod-lt, add_comm, mul-div_cancel, mul_assoc}
use native.Mathlib.Omega.{arith}
use lib.Pow.{pow_pos, pow-add, shr-shr, field, mod-mod-pow}
use lib.Bits.{bit_and, and_mask}
use Rattle.bits.proofs.OneBit.{one_shl}
use Rattle.prefix.specs.Prefix.{width, first}
use Rattle.tiers.specs.Tiers.{stride}
use Rattle.places.specs.Places.{level_in, window, data_bit, child_bit}

-- the first l of the five bits of x & 31
first_of_five : (x l : ℕ) → l ≤ 5 → bit_and x 31 / 2 ^ (5 - l) ≡ x / 2 ^ (5 - l) % 2 ^ l
first_of_five x l h =
    let e : 5 ≡ l + (5 - l) = omega arith in
    ap (λ (y : ℕ). y / 2 ^ (5 - l)) (and_mask x 5 ∙ ap (λ (y : ℕ). x % 2 ^ y) e) ∙ field x l (5 - l)

-- the first l bits of a window that the key holds whole
pub in_key : (key len d l : ℕ) → d + 5 ≤ 32 → d + l ≡ len → l ≤ 5 → bit_and (key / 2 ^ (32 - d - 5)) 31 / 2 ^ (5 - l) ≡ first len key % 2 ^ l
unfolding first
in_key key len d l h e k =
    let q : (32 - d - 5) + (5 - l) ≡ 32 - len = omega arith in
    first_of_five (key / 2 ^ (32 - d - 5)) l k
    ∙ ap (λ (y : ℕ). y % 2 ^ l) (shr-shr key (32 - d - 5) (5 - l) ∙ ap (λ (y : ℕ). key / 2 ^ y) q)

-- the first l bits of a window that runs past the key: the key is shifted up by s
pub past_key : (key len s l : ℕ) → l ≤ 5 → len + (5 - l) ≡ 32 + s → len ≤ 32 → bit_and (key * 2 ^ s % 2 ^ 32) 31 / 2 ^ (5 - l) ≡ first len key % 2 ^ l
unfolding first
past_key key len s l k h i =
    let q : 5 - l ≡ s + (32 - len) = omega arith in
    ap (λ (y : ℕ). y / 2 ^ (5 - l)) (and_mask (key * 2 ^ s % 2 ^ 32) 5 ∙ mod-mod-pow (key * 2 ^ s) 27 5 ∙ sym (and_mask (key * 2 ^ s) 5))
    ∙ first_of_five (key * 2 ^ s) l k
    ∙ ap (λ (y : ℕ). y % 2 ^ l)
    (ap (λ (y : ℕ). key * 2 ^ s / 2 ^ y) q ∙ sym (shr-shr (key * 2 ^ s) s (32 - len)) ∙ ap (λ (y : ℕ). y / 2 ^ (32 - len)) (mul-div_cancel key (pow_pos s)))

-- a data bit from the first bits of its window, and the offset of its level
pub placed : (key len x l : ℕ) → l ≡ level_in len → x ≡ first len key % 2 ^ l → x + (1 * 2 ^ l % 2 ^ 32 - 1) ≡ data_bit key len
unfolding data_bit
placed key len x l e q =
    let h : l < 32 = omega arith in
    ap₂ (λ (y z : ℕ). y + (z - 1)) q (one_shl 32 h)
    ∙ add_comm (first len key % 2 ^ l) (2 ^ l - 1)
    ∙ ap (λ (y : ℕ). (2 ^ y - 1) + first len key % 2 ^ y) e

-- the five bits after the depth are the child
pub child_in : (key d : ℕ) → d + stride ≤ width → bit_and (key / 2 ^ (32 - d - 5)) 31 ≡ child_bit d key
unfolding child_bit first
child_in key d h =
    let q : 32 - d - 5 ≡ width - (d + stride) = omega arith in
    and_mask (key / 2 ^ (32 - d - 5)) 5 ∙ ap (λ (y : ℕ). key / 2 ^ y % 2 ^ 5) q

-- the four bits after the depth, where the key holds them
pub four_in : (key d : ℕ) → d ≤ 28 → bit_and (key / 2 ^ (33 - d - 5)) 15 ≡ window key d 4
unfolding window
four_in key d h =
    let q : 5 + (33 - d - 5) ≡ width + stride - d - 4 = omega arith in
    and_mask (key / 2 ^ (33 - d - 5)) 4
    ∙ ap (λ (y : ℕ). y % 2 ^ 4)
    (ap (λ (y : ℕ). y / 2 ^ (33 - d - 5)) (sym (mul-div_cancel key (pow_pos 5))) ∙ shr-shr (key * 2 ^ 5) 5 (33 - d - 5)
    ∙ ap (λ (y : ℕ). key * 2 ^ 5 / 2 ^ y) q)

-- and where they run past it
pub four_past : (key d : ℕ) → 28 ≤ d → d ≤ 30 → bit_and (key * 2 ^ (d + 5 - 33) % 2 ^ 32) 15 ≡ window key d 4
unfolding window
four_past key d h k =
    let s : ℕ = d + 5 - 33 in
    let t : ℕ = width + stride - d - 4 in
    let q : s + t ≡ 5 = omega arith in
    and_mask (key * 2 ^ s % 2 ^ 32) 4 ∙ mod-mod-pow (key * 2 ^ s) 28 4
    ∙ ap (λ (y : ℕ). y % 2 ^ 4)
    (sym (mul-div_cancel (key * 2 ^ s) (pow_pos t))
    ∙ ap (λ (y : ℕ). y / 2 ^ t) (mul_assoc key (2 ^ s) (2 ^ t) ∙ ap (λ (y : ℕ). key * y) (sym (pow-add 2 s t) ∙ ap (λ (y : ℕ). 2 ^ y) q)))

-- a window of w bits
pub window_lt : (key d w : ℕ) → window key d w < 2 ^ w
unfolding window
window_lt key d w = mod-lt (key * 2 ^ stride / 2 ^ (width + stride - d - w)) (pow_pos w)

-- its first l bits are the key's, where the key has them
pub window_front : (key d w l : ℕ) → l ≤ w → w ≤ stride → d + l ≤ width → window key d w / 2 ^ (w - l) ≡ first (d + l) key % 2 ^ l
unfolding window first
window_front key d w l h k i =
    let s : ℕ = width + stride - d - w in
    let e : w ≡ l + (w - l) = omega arith in
    let q : s + (w - l) ≡ stride + (width - (d + l)) = omega arith in
    let x : ℕ = key * 2 ^ stride in
    ap (λ (y : ℕ). x / 2 ^ s % 2 ^ y / 2 ^ (w - l)) e
    ∙ field (x / 2 ^ s) l (w - l)
    ∙ ap (λ (y : ℕ). y % 2 ^ l)
    (shr-shr x s (w - l) ∙ ap (λ (y : ℕ). x / 2 ^ y) q ∙ sym (shr-shr x stride (width - (d + l)))
    ∙ ap (λ (y : ℕ). y / 2 ^ (width - (d + l))) (mul-div_cancel key (pow_pos stride)))
