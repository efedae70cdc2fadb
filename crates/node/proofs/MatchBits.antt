-- A match is the highest, or the lowest, bit that the node's bitmap and the query's mask share. Assumes nothing.
use mathlib.Core.Path.{◌≡◌, sym, ap, ◌∙◌, subst}
use mathlib.Core.Logic.{◌↔◌, ◌⊎◌, inl, inr}
use mathlib.Core.Bool.{true, false}
use Prim.Native.Nat.{ℕ, suc, ◌*◌, ◌%◌, ◌^◌, ◌≤◌, ◌<◌}
use native.Mathlib.Nat.{mod-lt, pow-suc, le_refl, lt_of_le_of_lt, eq-zero-or-pos}
use native.Mathlib.Decide.{dec_lt}
use native.Mathlib.Omega.{arith}
use lib.Bits.{and_le_r}
use lib.Count.{count_trailing_zeros}
use lib.Pow.{pow_pos, pow_mono}
use Rattle.bits.specs.Bits.{bit_at, has, Highest, Lowest}
use Rattle.bits.proofs.BitByBit.{bit_high}
use Rattle.bits.proofs.Ends.{highest_law, lowest_law}
use Rattle.bits.proofs.Words.{word_lt}
use Rattle.prefix.specs.Prefix.{width, first, masked, Covers}
use Rattle.prefix.proofs.Covering.{fails}
use Rattle.prefix.proofs.Masking.{masked_first}
use Rattle.tiers.specs.Tiers.{stride}
use Rattle.places.specs.Places.{depth_of, level_in, data_bit, length_at, key_at}
use Rattle.places.proofs.Prefixes.{data_lt, data_length, data_key, data_of, at_bit}
use Rattle.places.proofs.Levels.{level_lt}
use Rattle.std.specs.Prelude.{Option, Some, None, MatchOption}
use Rattle.node.specs.Masks.{InTree, covers_query, data_lpm}
use Rattle.node.specs.Matches.{shared, longest_in, shortest_in}
use Rattle.node.proofs.HasBits.{has_is, has_and}
use Rattle.node.proofs.Masks.{lpm_bits}
use Rattle.node.proofs.Matches.{Held, Best, IsLongest, IsShortest, longest_unique, shortest_unique, longest_is, shortest_is}

-- ---- the mask has the bits of the lengths that the node holds, and no other

-- each of them
pub held_bit : (d key len l : ℕ) → InTree d len → Held d len l → has (data_lpm d key len) (data_bit key l) ≡ true
held_bit d key len l t h =
    let n = t.node in
    let b : ℕ = data_bit key l in
    let e : depth_of l ≡ d = omega arith in
    let w : l ≤ width = omega (arith, t.within) in
    let k : key_at d key b ≡ masked key l = ap (λ (y : ℕ). key_at y key b) (sym e) ∙ data_key key l w in
    let m : length_at d b ≡ l = ap (λ (y : ℕ). length_at y b) (sym e) ∙ data_length key l in
    let c : Covers (masked key l) l key len = record { shorter = h.within; agree = masked_first key l l (le_refl l) } in
    (lpm_bits d key len b t).1 (data_lt key l, subst (λ (y : ℕ). Covers y (length_at d b) key len) (sym k) (subst (λ (y : ℕ). Covers (masked key l) y key len) (sym m) c))

-- only those
pub bit_held : (d key len i : ℕ) → InTree d len → has (data_lpm d key len) i ≡ true → (l : ℕ) × Held d len l × (i ≡ data_bit key l)
unfolding length_at
bit_held d key len i t e =
    let c = (lpm_bits d key len i t).0 e in
    let v = level_lt i c.0 in
    let s = c.1.shorter in
    let w : length_at d i ≤ width = omega (arith, t.within) in (
      length_at d i,
      record { from = omega arith; to = omega arith; within = s },
      sym (at_bit d key i t.node c.0 w) ∙ data_of (key_at d key i) key (length_at d i) c.1.agree,
    )

-- a longer prefix of the node has a higher bit
pub data_rises : (d len key a b : ℕ) → d % stride ≡ 0 → Held d len a → Held d len b → a < b → data_bit key a < data_bit key b
unfolding data_bit
data_rises d len key a b n ha hb h =
    let i : ℕ = level_in a in
    let j : ℕ = level_in b in
    let k : suc i ≤ j = omega arith in
    let x = mod-lt (first a key) (pow_pos i) in
    let q : 2 ^ suc i ≤ 2 ^ j = pow_mono k in
    let e : 2 ^ suc i ≡ 2 ^ i * 2 = pow-suc 2 i in
    omega arith

-- ---- what the bitmap and the mask share decides the match

module _ (bitmap d key len : ℕ) (t : InTree d len) where
  -- a length that the node holds and whose bit is set is shared
  shared_bit : (l : ℕ) → Held d len l → has bitmap (data_bit key l) ≡ true → bit_at (shared bitmap d key len) (data_bit key l) ≡ 1
  shared_bit l h s = (has_is (shared bitmap d key len) (data_bit key l)).0 ((has_and bitmap (data_lpm d key len) (data_bit key l)).1 (s, held_bit d key len l t h))

  -- where nothing is shared, no such length has its bit set
  none : shared bitmap d key len ≡ 0 → (l : ℕ) → Held d len l → has bitmap (data_bit key l) ≡ false
  none e l h =
      let b : ℕ = data_bit key l in
      let z : bit_at (shared bitmap d key len) b ≡ 0 = ap (λ (y : ℕ). bit_at y b) e ∙ bit_high b (pow_pos b) in
      fails (has bitmap b) (λ s. let o = shared_bit l h s in omega arith)

  -- a shared bit that no other beats is the best
  end : (R : ℕ → ℕ → Type 0) (r : ℕ) → bit_at (shared bitmap d key len) r ≡ 1
      → ((l s : ℕ) → Held d len l → Held d len s → bit_at (shared bitmap d key len) (data_bit key l) ≡ 1 → r ≡ data_bit key s → R l s)
      → Best R (Held d len) bitmap key r
  end R r e f =
      let a = (has_and bitmap (data_lpm d key len) r).0 ((has_is (shared bitmap d key len) r).1 e) in
      let o = bit_held d key len r t a.1 in
      record { size = o.0; held = o.1; there = o.2; set = a.0; best = λ l h s. f l o.0 h o.1 (shared_bit l h s) o.2 }

  -- the highest is the longest
  highest_best : (r : ℕ) → Highest (shared bitmap d key len) r → IsLongest bitmap d key len (Some r)
  highest_best r h = end (λ l s. l ≤ s) r h.set (λ l s hl hs o e. go l s hl hs o e (dec_lt s l))
    where
      go : (l s : ℕ) → Held d len l → Held d len s → bit_at (shared bitmap d key len) (data_bit key l) ≡ 1 → r ≡ data_bit key s → Dec (s < l) → l ≤ s
      go l s hl hs o e (yes k) =
          let u = data_rises d len key s l t.node hs hl k in
          let z = h.above (data_bit key l) (omega arith) in
          omega arith
      go l s hl hs o e (no k) = omega arith

  -- the lowest is the shortest
  lowest_best : (r : ℕ) → Lowest (shared bitmap d key len) r → IsShortest bitmap d key len (Some r)
  lowest_best r h = end (λ l s. s ≤ l) r h.set (λ l s hl hs o e. go l s hl hs o e (dec_lt l s))
    where
      go : (l s : ℕ) → Held d len l → Held d len s → bit_at (shared bitmap d key len) (data_bit key l) ≡ 1 → r ≡ data_bit key s → Dec (l < s) → s ≤ l
      go l s hl hs o e (yes k) =
          let u = data_rises d len key l s t.node hl hs k in
          let z = h.below (data_bit key l) (omega arith) in
          omega arith
      go l s hl hs o e (no k) = omega arith

  -- an answer that follows the end of what is shared is decided by it both ways
  decided : (E : ℕ → ℕ → Type 0) (f : Option ℕ) → ((n : ℕ) → 0 < n → n < 2 ^ 32 → (r : ℕ) × E n r)
      → (shared bitmap d key len ≡ 0 → f ≡ None) → ((r : ℕ) → E (shared bitmap d key len) r → f ≡ Some r)
      → (f ≡ None → shared bitmap d key len ≡ 0) × ((r : ℕ) → f ≡ Some r → E (shared bitmap d key len) r)
  decided E f ends z a = (λ e. none_of e (eq-zero-or-pos n), λ r e. at_of r e (eq-zero-or-pos n))
    where
      n : ℕ
      n = shared bitmap d key len

      fits : n < 2 ^ 32
      fits = lt_of_le_of_lt (and_le_r bitmap (data_lpm d key len)) (word_lt 32 (covers_query d key len))

      never : {r : ℕ} → f ≡ Some r → f ≡ None → ⊥
      never p q = let o : ◌≡◌ {A = ℕ} 0 1 = cc in omega arith

      none_of : f ≡ None → (n ≡ 0) ⊎ (0 < n) → n ≡ 0
      none_of e (inl q) = q
      none_of e (inr p) = let x = ends n p fits in absurd (never (a x.0 x.1) e)

      at_of : (r : ℕ) → f ≡ Some r → (n ≡ 0) ⊎ (0 < n) → E n r
      at_of r e (inl q) = absurd (never e (z q))
      at_of r e (inr p) =
          let x = ends n p fits in
          let q : f ≡ Some x.0 = a x.0 x.1 in
          let s : x.0 ≡ r = cc in
          subst (E n) s x.1

-- ---- the matches

highest_end : (n : ℕ) → 0 < n → n < 2 ^ 32 → (r : ℕ) × Highest n r
highest_end n p h = let w = highest_law 32 n p h in (w.0, w.2)

lowest_end : (n : ℕ) → 0 < n → n < 2 ^ 32 → (r : ℕ) × Lowest n r
lowest_end n p h = (count_trailing_zeros 32 n, lowest_law 32 n p h)

module _ (bitmap d key len : ℕ) (t : InTree d len) where
  longest_zero : shared bitmap d key len ≡ 0 → longest_in bitmap d key len ≡ None
  longest_zero e = longest_unique bitmap d key len (longest_in bitmap d key len) None (longest_is bitmap d key len t.from) (none bitmap d key len t e)

  longest_top : (r : ℕ) → Highest (shared bitmap d key len) r → longest_in bitmap d key len ≡ Some r
  longest_top r h = longest_unique bitmap d key len (longest_in bitmap d key len) (Some r) (longest_is bitmap d key len t.from) (highest_best bitmap d key len t r h)

  shortest_zero : shared bitmap d key len ≡ 0 → shortest_in bitmap d key len ≡ None
  shortest_zero e = shortest_unique bitmap d key len (shortest_in bitmap d key len) None (shortest_is bitmap d key len t.from) (none bitmap d key len t e)

  shortest_low : (r : ℕ) → Lowest (shared bitmap d key len) r → shortest_in bitmap d key len ≡ Some r
  shortest_low r h = shortest_unique bitmap d key len (shortest_in bitmap d key len) (Some r) (shortest_is bitmap d key len t.from) (lowest_best bitmap d key len t r h)

  -- nothing is the longest exactly where nothing is shared
  pub longest_none : shared bitmap d key len ≡ 0 ↔ longest_in bitmap d key len ≡ None
  longest_none = (longest_zero, (decided bitmap d key len t Highest (longest_in bitmap d key len) highest_end longest_zero longest_top).0)

  -- else it is the highest bit that is shared
  pub longest_at : (r : ℕ) → Highest (shared bitmap d key len) r ↔ longest_in bitmap d key len ≡ Some r
  longest_at r = (longest_top r, (decided bitmap d key len t Highest (longest_in bitmap d key len) highest_end longest_zero longest_top).1 r)

  -- nothing is the shortest exactly where nothing is shared
  pub shortest_none : shared bitmap d key len ≡ 0 ↔ shortest_in bitmap d key len ≡ None
  shortest_none = (shortest_zero, (decided bitmap d key len t Lowest (shortest_in bitmap d key len) lowest_end shortest_zero shortest_low).0)

  -- else it is the lowest bit that is shared
  pub shortest_at : (r : ℕ) → Lowest (shared bitmap d key len) r ↔ shortest_in bitmap d key len ≡ Some r
  shortest_at r = (shortest_low r, (decided bitmap d key len t Lowest (shortest_in bitmap d key len) lowest_end shortest_zero shortest_low).1 r)

module _ (bitmap d key len : ℕ) (t : InTree d len) where
  -- the highest, if there is one, is the longest
  pub highest_picked : (r : Option ℕ) → MatchOption r (shared bitmap d key len ≡ 0) (Highest (shared bitmap d key len)) → r ≡ longest_in bitmap d key len
  highest_picked None e = sym ((longest_none bitmap d key len t).0 e)
  highest_picked (Some r) h = sym ((longest_at bitmap d key len t r).0 h)

  -- the lowest, if there is one, is the shortest
  pub lowest_picked : (r : Option ℕ) → MatchOption r (shared bitmap d key len ≡ 0) (Lowest (shared bitmap d key len)) → r ≡ shortest_in bitmap d key len
  lowest_picked None e = sym ((shortest_none bitmap d key len t).0 e)
  lowest_picked (Some r) h = sym ((shortest_at bitmap d key len t r).0 h)
