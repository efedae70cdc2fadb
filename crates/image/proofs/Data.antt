-- The rules in a node of a tree are as many as live there: its 31 data bits are the prefixes of its five levels. Assumes nothing.
use mathlib.Core.Path.{◌≡◌, refl, sym, ap, ap₂, ◌∙◌}
use mathlib.Core.Bool.{Bool, true}
use Prim.Native.Nat.{ℕ, zero, suc, ◌+◌, ◌-◌, ◌*◌, ◌/◌, ◌%◌, ◌^◌, ◌≤◌, ◌<◌}
use native.Mathlib.Nat.{pow-suc}
use native.Mathlib.Decide.{dec_le}
use native.Mathlib.Omega.{arith}
use lib.Arith.{digits_lt, digits_div, digits_mod}
use lib.Pow.{pow_pos, pow-add, shl_lt}
use Rattle.bits.specs.Bits.{one}
use Rattle.prefix.specs.Prefix.{width, first}
use Rattle.prefix.proofs.Covering.{fails}
use Rattle.tiers.specs.Tiers.{stride}
use Rattle.places.specs.Places.{level_in, data_bit, level_of}
use Rattle.places.proofs.Levels.{bit_level, bit_lt}
use Rattle.places.proofs.Prefixes.{data_lt, data_level}
use Rattle.places.proofs.Extending.{first_front}
use Rattle.rules.specs.Sums.{sum}
use Rattle.rules.specs.Rules.{Rules, is_live, value_at, IsPrefix, Proper}
use Rattle.rules.specs.Nodes.{depth, data_count}
use Rattle.rules.proofs.Sums.{sum_same}
use Rattle.rules.proofs.Levels.{key_of, first_key, at_level, data_levels}
use Rattle.rules.proofs.Always.{some_value}
use Rattle.pools.specs.Items.{items}
use Rattle.image.specs.Numbers.{node_no, path_no, rule_no}
use Rattle.image.specs.Tree.{Tree}
use Rattle.image.proofs.Paths.{node_inj, path_low}
use Rattle.image.proofs.Trees.{live_short, tree_shape}

-- ---- a sum over data bits, level by level

-- a sum in two parts
sum_parts : (m n : ℕ) (f : ℕ → ℕ) → sum (m + n) f ≡ sum m f + sum n (λ i. f (m + i))
unfolding sum
sum_parts m zero f = let e : m + 0 ≡ m = omega arith in rw e (omega arith)
sum_parts m (suc n) f = let e : m + suc n ≡ suc (m + n) = omega arith in rw e (unfold sum in omega (arith, sum_parts m n f))

-- level i has 2 ^ i bits, and 2 ^ i - 1 before them
by_level : (n : ℕ) (f : ℕ → ℕ) → sum (2 ^ n - 1) f ≡ sum n (λ i. sum (2 ^ i) (λ p. f ((2 ^ i - 1) + p)))
unfolding sum
by_level zero f = refl
by_level (suc n) f =
    let e : 2 ^ suc n - 1 ≡ (2 ^ n - 1) + 2 ^ n = omega (arith, pow-suc 2 n, pow_pos n) in
    rw e (sum_parts (2 ^ n - 1) (2 ^ n) f ∙ ap (λ (x : ℕ). x + sum (2 ^ n) (λ p. f ((2 ^ n - 1) + p))) (by_level n f))

-- ---- the prefix of a data bit

-- the key and length of level i and path p, in the node of level j with the bits b, are a prefix that lives there and has that data bit
pub record Placed (j b i p : ℕ) : Type 0 where
  pub prefix : IsPrefix (key_of (b * 2 ^ i + p) (depth j + i)) (depth j + i)
  pub number : rule_no (key_of (b * 2 ^ i + p) (depth j + i)) (depth j + i) ≡ 32 * node_no (depth j) b + ((2 ^ i - 1) + p)

-- they are, where the length is at most 32
pub bit_placed : (j b i p : ℕ) → b < 2 ^ depth j → i < stride → p < 2 ^ i → depth j + i ≤ width → Placed j b i p
bit_placed j b i p hb hi hp h = record {
  prefix = record { bits = low; short = h };
  number = ap (λ (n : ℕ). 32 * path_no key n + data_bit key len) level ∙ ap₂ (λ (x y : ℕ). 32 * node_no (depth j) x + y) node data_bit_lem;
}
  where
    len : ℕ
    len = depth j + i

    key : ℕ
    key = key_of (b * 2 ^ i + p) len

    low : key < 2 ^ width
    low =
        let f : b * 2 ^ i + p < 2 ^ len = rw (pow-add 2 (depth j) i) (digits_lt hb hp) in
        let e : len + (width - len) ≡ width = omega arith in
        rw e at (shl_lt len (width - len) f)

    level : len / stride ≡ j
    level = omega arith

    node : first (depth j) key ≡ b
    node = sym (first_front key (depth j) i h) ∙ ap (λ (x : ℕ). x / 2 ^ i) (first_key (b * 2 ^ i + p) len) ∙ digits_div b hp

    data_bit_lem : data_bit key len ≡ (2 ^ i - 1) + p
    data_bit_lem = unfold data_bit in
        let e : level_in len ≡ i = omega arith in
        ap₂ (λ (x y : ℕ). (2 ^ x - 1) + y % 2 ^ x) e (first_key (b * 2 ^ i + p) len) ∙ ap (λ (x : ℕ). (2 ^ i - 1) + x) (digits_mod b hp)

module _ {Value : Type 0} {rs : Rules Value} {E D : ℕ → Bool} {val : ℕ → Value} (proper : Proper rs) (tree : Tree rs E D val) where
  -- a data bit is a rule exactly where its prefix is live
  pub bit_live : (j b i p : ℕ) → b < 2 ^ depth j → i < stride → p < 2 ^ i
      → D (32 * node_no (depth j) b + ((2 ^ i - 1) + p)) ≡ is_live rs (key_of (b * 2 ^ i + p) (depth j + i)) (depth j + i)
  bit_live j b i p hb hi hp = go (dec_le (depth j + i) width)
    where
      go : Dec (depth j + i ≤ width)
          → D (32 * node_no (depth j) b + ((2 ^ i - 1) + p)) ≡ is_live rs (key_of (b * 2 ^ i + p) (depth j + i)) (depth j + i)
      go (yes h) = let s = bit_placed j b i p hb hi hp h in ap D (sym s.number) ∙ tree.rule_is (key_of (b * 2 ^ i + p) (depth j + i)) (depth j + i) s.prefix
      go (no h) = fails (D (32 * node_no (depth j) b + ((2 ^ i - 1) + p))) absent ∙ sym (fails (is_live rs key (depth j + i)) dead)
        where
          key : ℕ
          key = key_of (b * 2 ^ i + p) (depth j + i)

          dead : is_live rs key (depth j + i) ≡ true → ⊥
          dead e = let v = some_value (value_at rs key (depth j + i)) e in h (live_short rs proper key (depth j + i) v.0 v.1)

          absent : D (32 * node_no (depth j) b + ((2 ^ i - 1) + p)) ≡ true → ⊥
          absent e =
              let x : ℕ = 32 * node_no (depth j) b + ((2 ^ i - 1) + p) in
              let r = tree.rule_only x e in
              let k : ℕ = r.0 in
              let l : ℕ = r.1 in
              let m = bit_lt i p hi hp in
              let n : node_no (depth j) b ≡ path_no k (l / stride) = omega (arith, r.3, data_lt k l) in
              let o = node_inj j (l / stride) b (first (depth (l / stride)) k) hb (path_low k (l / stride) r.2.bits (omega (arith, r.2.short))) n in
              let d : data_bit k l ≡ (2 ^ i - 1) + p = omega (arith, r.3, data_lt k l) in
              let a : level_in l ≡ i = sym (data_level k l) ∙ ap level_of d ∙ bit_level i p hi hp in
              h (omega (arith, o.0, r.2.short))

  -- a node's rules in the tree are as many as the live rules that live there
  pub data_are : (j b : ℕ) → j ≤ 6 → b < 2 ^ depth j → items D (node_no (depth j) b) ≡ data_count rs (depth j) b
  data_are j b hj hb =
      let f : ℕ → ℕ = λ i. one (D (32 * node_no (depth j) b + i)) in
      let l : items D (node_no (depth j) b) ≡ sum 31 f = unfold sum in rw ((tree_shape proper tree).low (node_no (depth j) b)) (omega arith) in
      l
      ∙ by_level 5 f
      ∙ sum_same 5 _ (at_level rs (depth j) b) (λ i hi. sum_same (2 ^ i) _ _ (λ p hp. ap one (bit_live j b i p hb hi hp)))
      ∙ sym (data_levels rs proper j b)
