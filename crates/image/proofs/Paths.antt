-- Laws of the numbers of nodes and rules: a path from node to node, and which numbers are the same. Assumes nothing.
use mathlib.Core.Path.{◌≡◌, refl, sym, ap, ap₂, ◌∙◌}
use Prim.Native.Nat.{ℕ, suc, ◌+◌, ◌*◌, ◌/◌, ◌%◌, ◌^◌, ◌≤◌, ◌<◌}
use native.Mathlib.Nat.{le_refl}
use native.Mathlib.Decide.{dec_lt}
use native.Mathlib.Omega.{arith}
use lib.Pow.{pow_pos, pow_mono, pow-add}
use Rattle.prefix.specs.Prefix.{width, first, masked}
use Rattle.prefix.proofs.Masking.{first_none, first_lt, first_fewer, masked_first}
use Rattle.tiers.specs.Tiers.{stride}
use Rattle.places.specs.Places.{data_bit, child_bit}
use Rattle.places.proofs.Prefixes.{data_lt, data_of, data_same}
use Rattle.places.proofs.Children.{child_lt, child_split}
use Rattle.rules.specs.Rules.{IsPrefix}
use Rattle.rules.specs.Nodes.{depth}
use Rattle.rules.proofs.InUse.{depth_next}
use Rattle.image.specs.Numbers.{node_no, path_no, rule_no}

-- ---- nodes

-- and 32 times as many nodes
pub next_power : (j : ℕ) → 2 ^ depth (suc j) ≡ 32 * 2 ^ depth j
next_power j = ap (λ (d : ℕ). 2 ^ d) (depth_next j) ∙ pow-add 2 (depth j) stride ∙ (omega arith)

-- a level's nodes come before those of each lower level
node_before : (i j b : ℕ) → i < j → b < 2 ^ depth i → node_no (depth i) b < 2 ^ depth j
node_before i j b h l =
    let d : depth (suc i) ≤ depth j = omega arith in
    let m : 2 ^ depth (suc i) ≤ 2 ^ depth j = pow_mono d in
    omega (arith, next_power i)

-- a number is that of one node
pub node_inj : (i j b c : ℕ) → b < 2 ^ depth i → c < 2 ^ depth j → node_no (depth i) b ≡ node_no (depth j) c → (i ≡ j) × (b ≡ c)
node_inj i j b c hb hc e = go (dec_lt i j) (dec_lt j i)
  where
    go : Dec (i < j) → Dec (j < i) → (i ≡ j) × (b ≡ c)
    go (yes l) g = absurd (omega (arith, node_before i j b l hb))
    go (no l) (yes g) = absurd (omega (arith, node_before j i c g hc))
    go (no l) (no g) =
        let h : i ≡ j = omega arith in
        let p : 2 ^ depth i ≡ 2 ^ depth j = ap (λ (x : ℕ). 2 ^ depth x) h in
        (h, omega arith)

-- ---- a key's path

-- a key's bits at a level are those of a node there
pub path_low : (key j : ℕ) → key < 2 ^ width → j ≤ 6 → first (depth j) key < 2 ^ depth j
path_low key j h l = first_lt (depth j) h (omega arith)

-- every path begins at the root
pub path_root : (key : ℕ) → key < 2 ^ width → path_no key 0 ≡ 1
path_root key h = ap (λ (x : ℕ). 1 + x) (first_none h)

-- the path goes on to the child of the key's next five bits
pub path_child : (key j : ℕ) → j ≤ 5 → path_no key (suc j) ≡ 32 * path_no key j + child_bit (depth j) key
path_child key j h =
    let e : first (depth (suc j)) key ≡ first (depth j) key * 32 + child_bit (depth j) key =
    ap (λ (d : ℕ). first d key) (depth_next j) ∙ child_split (depth j) key (omega arith) in
    omega (arith, next_power j)

-- so each node of it hangs on the one before
pub path_up : (key j : ℕ) → j ≤ 5 → path_no key (suc j) / 32 ≡ path_no key j
path_up key j h = omega (arith, path_child key j h, child_lt (depth j) key)

-- and below the root no number is below 32
pub path_far : (key j : ℕ) → 32 ≤ path_no key (suc j)
path_far key j = omega (arith, next_power j, pow_pos (depth j))

-- a path meets no node twice
pub path_differ : (key i j : ℕ) → key < 2 ^ width → i ≤ 6 → j ≤ 6 → path_no key i ≡ path_no key j → i ≡ j
path_differ key i j h hi hj e =
    (node_inj i j (first (depth i) key) (first (depth j) key) (path_low key i h hi) (path_low key j h hj) e).0

-- keys of the same bits have the same node
pub path_bits : (p q j : ℕ) → first (depth j) p ≡ first (depth j) q → path_no p j ≡ path_no q j
path_bits p q j e = ap (node_no (depth j)) e

-- a masked key has the path of the key
pub path_masked : (key len j : ℕ) → j ≤ len / stride → path_no (masked key len) j ≡ path_no key j
path_masked key len j h = path_bits (masked key len) key j (masked_first key len (depth j) (omega arith))

-- ---- rules

-- a rule's node is that of its path where its length lives
pub rule_node : (key len : ℕ) → rule_no key len / 32 ≡ path_no key (len / stride)
rule_node key len = omega (arith, data_lt key len)

-- and its place there is its data bit
pub rule_bit : (key len : ℕ) → rule_no key len % 32 ≡ data_bit key len
rule_bit key len = omega (arith, data_lt key len)

-- a number is that of one prefix
pub rule_inj : (p l q m : ℕ) → IsPrefix p l → IsPrefix q m → rule_no p l ≡ rule_no q m → (l ≡ m) × (first l p ≡ first l q)
rule_inj p l q m hp hq e =
    let n = node_inj (l / stride) (m / stride) (first (depth (l / stride)) p) (first (depth (m / stride)) q)
    (path_low p (l / stride) hp.bits (omega (arith, hp.short)))
    (path_low q (m / stride) hq.bits (omega (arith, hq.short)))
    (sym (rule_node p l) ∙ ap (λ (x : ℕ). x / 32) e ∙ rule_node q m) in
    let b : data_bit p l ≡ data_bit q m = sym (rule_bit p l) ∙ ap (λ (x : ℕ). x % 32) e ∙ rule_bit q m in
    (data_same (depth (l / stride)) p q l m refl (ap depth (sym n.0)) hp.short (n.1 ∙ ap (λ (x : ℕ). first (depth x) q) (sym n.0))).0 b

-- prefixes of the same bits have the same rule
pub rule_bits : (p q len : ℕ) → first len p ≡ first len q → rule_no p len ≡ rule_no q len
rule_bits p q len e =
    ap₂ (λ (n b : ℕ). 32 * n + b) (path_bits p q (len / stride) (first_fewer p q (depth (len / stride)) len (omega arith) e)) (data_of p q len e)

-- a masked key has the rule of the key
pub rule_masked : (key len : ℕ) → rule_no (masked key len) len ≡ rule_no key len
rule_masked key len = rule_bits (masked key len) key len (masked_first key len len (le_refl len))
