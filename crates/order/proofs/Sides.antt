-- All that a prefix covers stands on one side of a prefix that it doesn't cover: on its own. Assumes nothing.
use mathlib.Core.Path.{◌≡◌, sym, ap, ◌∙◌}
use mathlib.Core.Logic.{inl, inr, ⊎_elim}
use Prim.Native.Nat.{ℕ, suc, ◌+◌, ◌-◌, ◌*◌, ◌^◌, ◌≤◌, ◌<◌}
use native.Mathlib.Nat.{mul_assoc, suc-mul, mul-le-mul_right, lt_of_mul-lt-mul_right, lt-div-mul-add, eq-or-lt_of_le}
use native.Mathlib.Decide.{dec_le, dec_lt}
use native.Mathlib.Omega.{arith}
use lib.Pow.{pow_pos, pow-add}
use Rattle.prefix.specs.Prefix.{width, first, masked, Covers, before}
use Rattle.prefix.proofs.Masking.{masked_le, masked_mono}
use Rattle.prefix.proofs.Covering.{covers_by_mask}
use Rattle.prefix.proofs.Ordering.{before_true, before_false}

-- of two multiples of w the smaller is smaller by w at least
steps : (x y w : ℕ) → x * w < y * w → x * w + w ≤ y * w
steps x y w h =
    let l : suc x ≤ y = lt_of_mul-lt-mul_right w h in
    let m : suc x * w ≤ y * w = mul-le-mul_right w l in
    let s = suc-mul x w in
    omega arith

-- a key is less than a step above its masked key
masked_step : (key len : ℕ) → key < masked key len + 2 ^ (width - len)
unfolding masked first
masked_step key len = lt-div-mul-add (pow_pos (width - len))

-- masked to fewer bits, a key is a multiple of every smaller step
on_step : (key l m : ℕ) → l ≤ m → masked key l ≡ first l key * 2 ^ ((width - l) - (width - m)) * 2 ^ (width - m)
unfolding masked
on_step key l m h =
    let j : ℕ = (width - l) - (width - m) in
    let e : width - l ≡ j + (width - m) = omega arith in
    ap (λ (y : ℕ). first l key * y) (ap (λ (y : ℕ). 2 ^ y) e ∙ pow-add 2 j (width - m)) ∙ sym (mul_assoc (first l key) (2 ^ j) (2 ^ (width - m)))

-- where (p, l) stands that (q, m) doesn't cover: before all that is covered, after it, or at its start and shorter
data Out (p l q m : ℕ) : Type 0 where
  ahead : masked p l < masked q m → Out p l q m
  behind : masked q m + 2 ^ (width - m) ≤ masked p l → Out p l q m
  over : masked p l ≡ masked q m → l < m → Out p l q m

-- it is one of the three
outside : (p l q m : ℕ) → (Covers q m p l → ⊥) → Out p l q m
unfolding masked
outside p l q m out = go (dec_le m l)
  where
    longer : m ≤ l → Dec (masked p m < masked q m) → Dec (masked q m < masked p m) → Out p l q m
    longer h (yes a) d =
        let s = steps (first m p) (first m q) (2 ^ (width - m)) a in
        let k = masked_step p m in
        let e = masked_le p l in
        ahead (omega arith)
    longer h (no a) (yes b) =
        let s = steps (first m q) (first m p) (2 ^ (width - m)) b in
        let k = masked_mono p m l h in
        behind (omega arith)
    longer h (no a) (no b) = absurd (out ((covers_by_mask q m p l).1 (h, omega arith)))

    shorter : l < m → Dec (masked p l < masked q m) → Dec (masked q m < masked p l) → Out p l q m
    shorter h (yes a) d = ahead a
    shorter h (no a) (yes b) =
        let x : ℕ = first l p * 2 ^ ((width - l) - (width - m)) in
        let e : masked p l ≡ x * 2 ^ (width - m) = on_step p l m (omega arith) in
        let s = steps (first m q) x (2 ^ (width - m)) (omega arith) in
        behind (omega arith)
    shorter h (no a) (no b) = over (omega arith) h

    go : Dec (m ≤ l) → Out p l q m
    go (yes h) = longer h (dec_lt (masked p m) (masked q m)) (dec_lt (masked q m) (masked p m))
    go (no h) = shorter (omega arith) (dec_lt (masked p l) (masked q m)) (dec_lt (masked q m) (masked p l))

-- ---- (q, m) covers (k, n), and doesn't cover (p, l)

module _ {p l q m k n : ℕ} (c : Covers q m k n) (out : Covers q m p l → ⊥) where
  -- what is covered begins at the prefix
  from : masked q m ≤ masked k n
  from =
      let e : masked q m ≡ masked k m = ((covers_by_mask q m k n).0 c).1 in
      let h : masked k m ≤ masked k n = masked_mono k m n c.shorter in
      omega arith

  -- and ends before the next
  to : masked k n < masked q m + 2 ^ (width - m)
  to =
      let e : masked q m ≡ masked k m = ((covers_by_mask q m k n).0 c).1 in
      let h = masked_le k n in
      let s = masked_step k m in
      omega arith

  -- what comes before the one comes before the other
  pub side_before : before p l k n ≡ before p l q m
  side_before = go (outside p l q m out)
    where
      go : Out p l q m → before p l k n ≡ before p l q m
      go (ahead a) = (before_true p l k n).1 (inl (let f = from in omega arith)) ∙ sym ((before_true p l q m).1 (inl a))
      go (behind a) =
          before_false p l k n (⊎_elim (λ h. let t = to in omega arith) (λ h. let t = to in omega arith))
          ∙ sym (before_false p l q m (⊎_elim (λ h. let z = pow_pos (width - m) in omega arith) (λ h. let z = pow_pos (width - m) in omega arith)))
      go (over a h) =
          (before_true p l k n).1 (⊎_elim (λ (e : masked q m ≡ masked k n). inr (a ∙ e, let s = c.shorter in omega arith)) (λ (b : masked q m < masked k n). inl (omega arith)) (eq-or-lt_of_le from))
          ∙ sym ((before_true p l q m).1 (inr (a, h)))

  -- and what comes after, after
  pub side_after : before k n p l ≡ before q m p l
  side_after = go (outside p l q m out)
    where
      go : Out p l q m → before k n p l ≡ before q m p l
      go (ahead a) =
          before_false k n p l (⊎_elim (λ h. let f = from in omega arith) (λ h. let f = from in omega arith))
          ∙ sym (before_false q m p l (⊎_elim (λ h. omega arith) (λ h. omega arith)))
      go (behind a) =
          (before_true k n p l).1 (inl (let t = to in omega arith))
          ∙ sym ((before_true q m p l).1 (inl (let z = pow_pos (width - m) in omega arith)))
      go (over a h) =
          before_false k n p l (⊎_elim (λ g. let f = from in omega arith) (λ g. let s = c.shorter in omega arith))
          ∙ sym (before_false q m p l (⊎_elim (λ g. omega arith) (λ g. omega arith)))
