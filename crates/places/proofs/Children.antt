-- Children as keys: child c of a node begins with the node's bits and c, and a key goes on to the child of its next five bits. Assumes nothing.
use mathlib.Core.Path.{◌≡◌, sym, ap, ◌∙◌, subst}
use mathlib.Core.Logic.{◌↔◌}
use Prim.Native.Nat.{ℕ, ◌+◌, ◌-◌, ◌*◌, ◌/◌, ◌%◌, ◌^◌, ◌≤◌, ◌<◌}
use native.Mathlib.Nat.{mod-lt, mul_assoc, mul-div_cancel}
use native.Mathlib.Omega.{arith}
use lib.Pow.{pow_pos, pow-add}
use Rattle.prefix.specs.Prefix.{width, first, masked}
use Rattle.tiers.specs.Tiers.{stride}
use Rattle.places.specs.Places.{child_bit, child_key}
use Rattle.places.proofs.Extending.{extended, first_split, first_same, extended_depth, extended_path, extended_masked, extended_lt, extended_own}

-- a child's key is the node's bits followed by the child
pub child_extended : (d key c : ℕ) → d + stride ≤ width → child_key d key c ≡ extended d key stride c
unfolding child_key
child_extended d key c h =
    let k : ℕ = width - (d + stride) in
    let e : width ≡ k + (d + stride) = omega arith in
    ap (λ (y : ℕ). masked key d + y)
    (ap (λ (y : ℕ). c * y / 2 ^ (d + stride)) (ap (λ (y : ℕ). 2 ^ y) e ∙ pow-add 2 k (d + stride))
    ∙ ap (λ (y : ℕ). y / 2 ^ (d + stride)) (sym (mul_assoc c (2 ^ k) (2 ^ (d + stride))))
    ∙ mul-div_cancel (c * 2 ^ k) (pow_pos (d + stride)))

-- a node has 32 children
pub child_lt : (d key : ℕ) → child_bit d key < 32
unfolding child_bit
child_lt d key = mod-lt (first (d + stride) key) (pow_pos stride)

-- the child of a child's key is that child
pub child_bit_lem : (d key c : ℕ) → d + stride ≤ width → c < 32 → child_bit d (child_key d key c) ≡ c
unfolding child_bit
child_bit_lem d key c h l = ap (λ (y : ℕ). first (d + stride) y % 2 ^ stride) (child_extended d key c h) ∙ extended_path key d stride c h l

-- its key goes through the node
pub child_first : (d key c : ℕ) → d + stride ≤ width → c < 32 → first d (child_key d key c) ≡ first d key
child_first d key c h l = ap (first d) (child_extended d key c h) ∙ extended_depth key d stride c h l

-- and is masked
pub child_masked : (d key c : ℕ) → d + stride ≤ width → masked (child_key d key c) (d + stride) ≡ child_key d key c
child_masked d key c h =
    ap (λ (y : ℕ). masked y (d + stride)) (child_extended d key c h) ∙ extended_masked key d stride c h ∙ sym (child_extended d key c h)

-- it is a key
pub child_key_lt : (d key c : ℕ) → key < 2 ^ width → d + stride ≤ width → c < 32 → child_key d key c < 2 ^ width
child_key_lt d key c hk h l = subst (λ (y : ℕ). y < 2 ^ width) (sym (child_extended d key c h)) (extended_lt key d stride c hk h l)

-- the key of a key's own child is the masked key
pub child_own : (d key : ℕ) → d + stride ≤ width → child_key d key (child_bit d key) ≡ masked key (d + stride)
unfolding child_bit
child_own d key h = child_extended d key (child_bit d key) h ∙ extended_own key d stride h

-- every key that goes through the node gives the same
pub child_same : (d p q c : ℕ) → first d p ≡ first d q → child_key d p c ≡ child_key d q c
unfolding child_key masked
child_same d p q c e = ap (λ (y : ℕ). y * 2 ^ (width - d) + c * 2 ^ width / 2 ^ (d + stride)) e

-- five more bits of a key are those before, and its child
pub child_split : (d key : ℕ) → d + stride ≤ width → first (d + stride) key ≡ first d key * 32 + child_bit d key
unfolding child_bit
child_split d key h = first_split key d stride h

-- keys agree in five more bits exactly where they agree in those before and go on to one child
pub child_agree : (d p q : ℕ) → d + stride ≤ width → first (d + stride) p ≡ first (d + stride) q ↔ ((first d p ≡ first d q) × (child_bit d p ≡ child_bit d q))
unfolding child_bit
child_agree d p q h = first_same p q d stride h
