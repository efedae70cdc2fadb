-- Which rule a lookup answers, by the lengths of the key that are live: what is found, and when nothing is. Assumes nothing.
use mathlib.Core.Path.{◌≡◌, refl, sym, ap, ◌∙◌, subst}
use mathlib.Core.Bool.{false}
use mathlib.Core.Option.{Option, none, some, none-ne-some}
use Prim.Native.Nat.{ℕ, suc, ◌≤◌, ◌<◌}
use native.Mathlib.Decide.{dec_le, dec_lt}
use native.Mathlib.Omega.{arith}
use Rattle.prefix.specs.Prefix.{masked}
use Rattle.prefix.proofs.Masking.{masked_same, masked_again}
use Rattle.rules.specs.Rules.{Rules, value_at, is_some, nothing, found, told, exact, longest, shortest}
use Rattle.rules.specs.Answers.{Covering, NoneCovers, Longest, Shortest, Exact}
use Rattle.rules.proofs.Matching.{covering_here, here_covering, longest_right, shortest_right, exact_right, longest_one, shortest_one, longest_nothing, shortest_nothing}

module _ {Value : Type 0} where
  -- a value that there is, and that there isn't
  none_some : {A : Type 0} {o : Option Value} {v : Value} → o ≡ none → o ≡ some v → A
  none_some {A} {o} {v} a b = absurd (none-ne-some v (sym a ∙ b))

  -- a rule that isn't live has no value
  pub none_of : (o : Option Value) → is_some o ≡ false → o ≡ none
  none_of none e = refl
  none_of (some v) e = let z : ◌≡◌ {A = ℕ} 0 1 = cc in absurd (omega arith)

  module _ (rs : Rules Value) (key : ℕ) where
    -- ---- what is found

    -- a covering rule, its key masked, is the key's own rule of that length
    covering_is : (len k l : ℕ) (v : Value) → Covering rs key len k l v → masked k l ≡ k → (k ≡ masked key l) × (l ≤ len) × (value_at rs key l ≡ some v)
    covering_is len k l v c s = (sym s ∙ (masked_same k key l).1 c.covers.agree, c.covers.shorter, covering_here rs key len k l v c)

    -- longest finds a rule of the key itself, not longer than the query
    pub found_is : (len k l : ℕ) (v : Value) → longest rs key len ≡ found k l v → (k ≡ masked key l) × (l ≤ len) × (value_at rs key l ≡ some v)
    found_is len k l v e = let b = subst (Longest rs key len) e (longest_right rs key len) in covering_is len k l v b.covering b.shown

    -- so does shortest
    pub shortest_found_is : (len k l : ℕ) (v : Value) → shortest rs key len ≡ found k l v → (k ≡ masked key l) × (l ≤ len) × (value_at rs key l ≡ some v)
    shortest_found_is len k l v e = let b = subst (Shortest rs key len) e (shortest_right rs key len) in covering_is len k l v b.covering b.shown

    -- and exact
    pub exact_found_is : (len k l : ℕ) (v : Value) → exact rs key len ≡ found k l v → (k ≡ masked key l) × (l ≤ len) × (value_at rs key l ≡ some v)
    exact_found_is len k l v e = let b = subst (Exact rs key len) e (exact_right rs key len) in covering_is len k l v b.covering b.shown

    -- ---- what is answered

    -- no live rule of the key has a length from a up to b
    abbrev pub Quiet : ℕ → ℕ → Type 0
    Quiet a b = (l : ℕ) → a ≤ l → l < b → value_at rs key l ≡ none

    -- none shorter than m and none from m on are none
    pub quiet_join : (a m b : ℕ) → Quiet a m → Quiet m b → Quiet a b
    quiet_join a m b f g l h k = go (dec_lt l m)
      where
        go : Dec (l < m) → value_at rs key l ≡ none
        go (yes x) = f l h x
        go (no x) = g l (omega arith) k

    -- where no length is live nothing covers
    quiet_covers : (len : ℕ) → Quiet 0 (suc len) → NoneCovers rs key len
    quiet_covers len f p l v c = none_some (f l (omega arith) (omega (arith, c.covers.shorter))) (covering_here rs key len p l v c)

    -- so longest answers nothing
    pub longest_quiet : (len : ℕ) → Quiet 0 (suc len) → longest rs key len ≡ nothing
    longest_quiet len f = (longest_nothing rs key len).1 (quiet_covers len f)

    -- and shortest nothing
    pub shortest_quiet : (len : ℕ) → Quiet 0 (suc len) → shortest rs key len ≡ nothing
    shortest_quiet len f = (shortest_nothing rs key len).1 (quiet_covers len f)

    -- exact answers nothing where the query's own length isn't live
    pub exact_none : (len : ℕ) → value_at rs key len ≡ none → exact rs key len ≡ nothing
    unfolding exact
    exact_none len e = ap (told key len) e

    -- and its rule where it is
    pub exact_own : (len : ℕ) (v : Value) → value_at rs key len ≡ some v → exact rs key len ≡ found (masked key len) len v
    unfolding exact
    exact_own len v e = ap (told key len) e

    module _ (len l : ℕ) (v : Value) (h : l ≤ len) (e : value_at rs key l ≡ some v) where
      -- the last live length is the longest match
      pub longest_last : Quiet (suc l) (suc len) → longest rs key len ≡ found (masked key l) l v
      longest_last f =
          longest_one rs key len (longest rs key len) (found (masked key l) l v) (longest_right rs key len)
          (record { covering = here_covering rs key len l v h e; shown = masked_again key l; best = λ p m w c. best p m w c (dec_le m l) })
        where
          best : (p m : ℕ) (w : Value) → Covering rs key len p m w → Dec (m ≤ l) → m ≤ l
          best p m w c (yes x) = x
          best p m w c (no x) = none_some (f m (omega arith) (omega (arith, c.covers.shorter))) (covering_here rs key len p m w c)

      -- the first live length is the shortest match
      pub shortest_first : Quiet 0 l → shortest rs key len ≡ found (masked key l) l v
      shortest_first f =
          shortest_one rs key len (shortest rs key len) (found (masked key l) l v) (shortest_right rs key len)
          (record { covering = here_covering rs key len l v h e; shown = masked_again key l; best = λ p m w c. best p m w c (dec_le l m) })
        where
          best : (p m : ℕ) (w : Value) → Covering rs key len p m w → Dec (l ≤ m) → l ≤ m
          best p m w c (yes x) = x
          best p m w c (no x) = none_some (f m (omega arith) (omega arith)) (covering_here rs key len p m w c)
