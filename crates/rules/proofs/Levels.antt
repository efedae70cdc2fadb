-- A node's data count, level by level: of the 2 ^ i prefixes i bits longer than the node, those that are stored. So it is at most 31. Assumes nothing.
use mathlib.Core.Path.{◌≡◌, refl, sym, ap, ap₂, ◌∙◌}
use mathlib.Core.Bool.{Bool, true, false, cond}
use mathlib.Core.Option.{some}
use mathlib.Core.List.{[], ◌∷◌}
use Prim.Native.Nat.{ℕ, zero, suc, ◌+◌, ◌-◌, ◌*◌, ◌/◌, ◌%◌, ◌^◌, ◌≤◌, ◌<◌}
use native.Mathlib.Nat.{mul-div_cancel, div-add-mod', mod-lt}
use native.Mathlib.Omega.{arith}
use lib.Arith.{digits_div}
use lib.Pow.{pow_pos}
use Rattle.bits.specs.Bits.{one}
use Rattle.prefix.specs.Prefix.{width, first, masked}
use Rattle.prefix.proofs.Masking.{masked_same, first_first}
use Rattle.prefix.proofs.Covering.{fails}
use Rattle.tiers.specs.Tiers.{stride}
use Rattle.rules.specs.Sums.{sum}
use Rattle.rules.specs.Rules.{Rule, Rules, same, value_at, is_some, is_live, Stands, Proper}
use Rattle.rules.specs.Nodes.{depth, home, lives_at, node, data_count, child_count}
use Rattle.rules.proofs.Tests.{clash}
use Rattle.rules.proofs.Sums.{sum_zero, sum_at, count_le}
use Rattle.rules.proofs.Live.{same_true, value_same}
use Rattle.rules.proofs.Adding.{lives_true, lives_is}

-- the key of n bits, a number x below 2 ^ n
abbrev pub key_of : ℕ → ℕ → ℕ
key_of x n = x * 2 ^ (width - n)

-- its first bits are x
pub first_key : (x n : ℕ) → first n (key_of x n) ≡ x
unfolding first
first_key x n = mul-div_cancel x (pow_pos (width - n))

-- of the 2 ^ i prefixes of length d + i that begin with b, those that are stored
abbrev pub at_level : {Value : Type 0} → Rules Value → ℕ → ℕ → ℕ → ℕ
at_level rs d b i = sum (2 ^ i) (λ p. one (is_live rs (key_of (b * 2 ^ i + p) (d + i)) (d + i)))

-- a sum of tests that hold at one place alone
sum_single : (n i : ℕ) (f : ℕ → ℕ) → i < n → ((j : ℕ) → j < n → (i ≡ j → ⊥) → f j ≡ 0) → sum n f ≡ f i
sum_single n i f h z = omega (arith, sum_at n i f (λ j. 0) h z, sum_zero n (λ j. 0) (λ j l. refl))

-- and term by term
sum_plus : (n : ℕ) (f g e : ℕ → ℕ) → ((j : ℕ) → j < n → e j ≡ f j + g j) → sum n e ≡ sum n f + sum n g
unfolding sum
sum_plus zero f g e h = refl
sum_plus (suc n) f g e h = omega (arith, sum_plus n f g e (λ j l. h j (omega arith)), h n (omega arith))

-- a prefix of length d + i is the one of bits b and p exactly where these are its first bits
same_key : (k l x n : ℕ) → same k l (key_of x n) n ≡ true → (l ≡ n) × (first n k ≡ x)
same_key k l x n e =
    let s = (same_true k l (key_of x n) n).0 e in
    let e : first l k ≡ first l (key_of x n) = (masked_same k (key_of x n) l).0 (s.key ∙ ap (masked (key_of x n)) (sym s.len)) in
    (s.len, ap (λ (m : ℕ). first m k) (sym s.len) ∙ e ∙ ap (λ (m : ℕ). first m (key_of x n)) s.len ∙ first_key x n)

key_same : (k l x n : ℕ) → l ≡ n → first n k ≡ x → same k l (key_of x n) n ≡ true
key_same k l x n h e =
    (same_true k l (key_of x n) n).1 (record { key = ap (masked k) h ∙ (masked_same k (key_of x n) n).1 (e ∙ sym (first_key x n)); len = h })

-- one prefix, over a level of a node: 1 where it is one of the level's prefixes
abbrev own_level : ℕ → ℕ → ℕ → ℕ → ℕ → ℕ
own_level k l d b i = sum (2 ^ i) (λ p. one (same k l (key_of (b * 2 ^ i + p) (d + i)) (d + i)))

-- over all levels: 1 where it lives in the node
own_levels : (k l j b : ℕ) → l ≤ width → sum stride (own_level k l (depth j) b) ≡ one (lives_at k l (depth j) b)
own_levels k l j b hl = go (lives_at k l (depth j) b) refl
  where
    d : ℕ
    d = depth j

    -- its bits begin with the d bits of its node
    begins : (i : ℕ) → l ≡ d + i → first l k / 2 ^ i ≡ first d k
    begins i e =
        let z : (width - d) - (width - l) ≡ i = omega arith in
        sym (first_first k d l (omega arith) ∙ ap (λ (x : ℕ). first l k / 2 ^ x) z)

    go : (x : Bool) → lives_at k l d b ≡ x → sum stride (own_level k l d b) ≡ one (lives_at k l d b)
    go false e = rw e (sum_zero stride (own_level k l d b) (λ i hi. sum_zero (2 ^ i) _ (λ p hp. ap one (fails _ (off i p hi hp)))))
      where
        off : (i p : ℕ) → i < stride → p < 2 ^ i → same k l (key_of (b * 2 ^ i + p) (d + i)) (d + i) ≡ true → ⊥
        off i p hi hp s =
            let h = same_key k l (b * 2 ^ i + p) (d + i) s in
            let f : first d k ≡ b = sym (begins i h.0) ∙ ap (λ (x : ℕ). first x k / 2 ^ i) h.0 ∙ ap (λ (x : ℕ). x / 2 ^ i) h.1 ∙ digits_div b hp in
            clash (lives_at k l d b) (lives_is k l d b (omega (arith, h.0)) f) e
    go true e = rw e (sum_single stride i (own_level k l d b) (omega (arith, at.0)) (λ i' hi ne. sum_zero (2 ^ i') _ (λ p' hp. other i' p' ne))
        ∙ sum_single (2 ^ i) p (λ p. one (same k l (key_of (b * 2 ^ i + p) (d + i)) (d + i))) (mod-lt (first l k) (pow_pos i)) (λ p' hp ne. beside p' ne)
        ∙ ap one (key_same k l (b * 2 ^ i + p) (d + i) len bits))
      where
        at : (home l ≡ d) × (first d k ≡ b)
        at = lives_true k l d b e

        i : ℕ
        i = l - d

        p : ℕ
        p = first l k % 2 ^ i

        len : l ≡ d + i
        len = omega (arith, at.0)

        bits : first (d + i) k ≡ b * 2 ^ i + p
        bits =
            ap (λ (x : ℕ). first x k) (sym len)
            ∙ sym (ap (λ (x : ℕ). x * 2 ^ i + p) (sym at.1 ∙ sym (begins i len)) ∙ div-add-mod' (first l k) (2 ^ i))

        -- no other level has it, and no other prefix of its own level is it
        other : (i' p' : ℕ) → (i ≡ i' → ⊥) → one (same k l (key_of (b * 2 ^ i' + p') (d + i')) (d + i')) ≡ 0
        other i' p' ne =
            ap one (fails (same k l (key_of (b * 2 ^ i' + p') (d + i')) (d + i')) (λ s. ne (omega (arith, len, (same_key k l (b * 2 ^ i' + p') (d + i') s).0))))

        beside : (p' : ℕ) → (p ≡ p' → ⊥) → one (same k l (key_of (b * 2 ^ i + p') (d + i)) (d + i)) ≡ 0
        beside p' ne =
            ap one (fails (same k l (key_of (b * 2 ^ i + p') (d + i)) (d + i)) (λ s. ne (omega (arith, bits, (same_key k l (b * 2 ^ i + p') (d + i) s).1))))

module _ {Value : Type 0} where
  -- one rule in front: its own prefix is stored, and every other as before
  live_more : (r : Rule Value) (rs : Rules Value) → Stands r rs → (k l : ℕ)
      → one (is_live (r ∷ rs) k l) ≡ one (same r.key r.len k l) + one (is_live rs k l)
  unfolding value_at
  live_more r rs st k l = go (same r.key r.len k l) refl
    where
      go : (x : Bool) → same r.key r.len k l ≡ x
          → one (is_some (cond (same r.key r.len k l) (some r.value) (value_at rs k l)))
          ≡ one (same r.key r.len k l) + one (is_some (value_at rs k l))
      go true s = rw (s, sym (value_same rs r.key r.len k l ((same_true r.key r.len k l).0 s)) ∙ st.once)
      go false s = rw s (omega arith)

  -- a node's data count is that of its five levels
  pub data_levels : (rs : Rules Value) → Proper rs → (j b : ℕ) → data_count rs (depth j) b ≡ sum stride (at_level rs (depth j) b)
  unfolding data_count value_at
  data_levels [] p j b = sym (sum_zero stride (at_level {Value = Value} [] (depth j) b) (λ i hi. sum_zero (2 ^ i) _ (λ q hq. refl)))
  data_levels (r ∷ rs) p j b =
      ap₂ ◌+◌ (sym (own_levels r.key r.len j b p.0.prefix.short)) (data_levels rs p.1 j b)
      ∙ sym (sum_plus stride (own_level r.key r.len (depth j) b) (at_level rs (depth j) b) (at_level (r ∷ rs) (depth j) b)
      (λ i hi. sum_plus (2 ^ i) _ _ _ (λ q hq. live_more r rs p.0 (key_of (b * 2 ^ i + q) (depth j + i)) (depth j + i))))

  -- it is at most 31
  pub data_most : (rs : Rules Value) → Proper rs → (j b : ℕ) → data_count rs (depth j) b ≤ 31
  data_most rs p j b = rw (data_levels rs p j b) (unfold sum in omega (arith, most 0, most 1, most 2, most 3, most 4))
    where
      most : (i : ℕ) → at_level rs (depth j) b i ≤ 2 ^ i
      most i = count_le (2 ^ i) (λ q. is_live rs (key_of (b * 2 ^ i + q) (depth j + i)) (depth j + i))

  -- a node has at most 32 children
  pub children_most : (rs : Rules Value) (d b : ℕ) → child_count rs d b ≤ 32
  unfolding child_count
  children_most rs d b = count_le (2 ^ stride) (λ c. node rs (d + stride) (b * 2 ^ stride + c))
