-- The order of prefixes, by masked key and then by length, is strict and total; what covers comes first. Assumes nothing.
use mathlib.Core.Path.{◌≡◌, refl, sym, ap}
use mathlib.Core.Logic.{◌↔◌, ◌⊎◌, inl, inr, ⊎_elim}
use mathlib.Core.Bool.{Bool, true, false, ◌&&◌, ◌||◌, and-eq-true_iff}
use Prim.Native.Nat.{ℕ, ◌≤◌, ◌<◌}
use native.Mathlib.Nat.{lt_irrefl, eq-or-lt_of_le}
use native.Mathlib.Decide.{dec_lt}
use native.Mathlib.Omega.{arith}
use borrow.Author.Tests.{ltb-true, eqb-true, lt-ltb, eq-eqb}
use lib.Dec.{ltb, eqb}
use Rattle.prefix.specs.Prefix.{masked, Covers, before}
use Rattle.prefix.proofs.Masking.{masked_mono}
use Rattle.prefix.proofs.Covering.{fails, covers_by_mask}

-- (p, l) is earlier than (q, m), as a fact
abbrev pub Earlier : ℕ → ℕ → ℕ → ℕ → Type 0
Earlier p l q m = (masked p l < masked q m) ⊎ ((masked p l ≡ masked q m) × (l < m))

-- (p, l) and (q, m) are one prefix: the same masked key and the same length
pub record Same (p l q m : ℕ) : Type 0 where
  pub key : masked p l ≡ masked q m
  pub len : l ≡ m

-- one of two tests holds
either : (a b : Bool) → a || b ≡ true → (a ≡ true) ⊎ (b ≡ true)
either true b e = inl refl
either false b e = inr e

-- the first of two tests, or the second, makes one of them
or_left : (a b : Bool) → a ≡ true → a || b ≡ true
or_left a b e = ap (λ (x : Bool). x || b) e

or_right : (a b : Bool) → b ≡ true → a || b ≡ true
or_right true b e = refl
or_right false b e = e

-- the test holds exactly where one prefix is earlier than the other
pub before_true : (p l q m : ℕ) → before p l q m ≡ true ↔ Earlier p l q m
unfolding before
before_true p l q m =
    let a = masked p l in
    let b = masked q m in (
      λ e. ⊎_elim (λ h. inl (ltb-true a b h))
          (λ h. let g = (and-eq-true_iff (eqb a b) (ltb l m)).0 h in inr (eqb-true a b g.0, ltb-true l m g.1))
          (either (ltb a b) (eqb a b && ltb l m) e),
      λ h. ⊎_elim (λ k. or_left (ltb a b) (eqb a b && ltb l m) (lt-ltb a b k))
          (λ k. or_right (ltb a b) (eqb a b && ltb l m) ((and-eq-true_iff (eqb a b) (ltb l m)).1 (eq-eqb a b k.0, lt-ltb l m k.1))) h,
    )

-- and fails where that is absurd
pub before_false : (p l q m : ℕ) → (Earlier p l q m → ⊥) → before p l q m ≡ false
before_false p l q m n = fails (before p l q m) (λ e. n ((before_true p l q m).0 e))

-- no prefix comes before itself
pub before_irrefl : (p l : ℕ) → before p l p l ≡ false
before_irrefl p l = before_false p l p l (⊎_elim (lt_irrefl (masked p l)) (λ h. lt_irrefl l h.1))

-- what comes before a prefix comes before all that the prefix comes before
pub before_trans : (p l q m r n : ℕ) → before p l q m ≡ true → before q m r n ≡ true → before p l r n ≡ true
before_trans p l q m r n d e = (before_true p l r n).1 (go ((before_true p l q m).0 d) ((before_true q m r n).0 e))
  where
    go : Earlier p l q m → Earlier q m r n → Earlier p l r n
    go (inl h) (inl k) = inl (omega arith)
    go (inl h) (inr k) = inl (omega arith)
    go (inr h) (inl k) = inl (omega arith)
    go (inr h) (inr k) = inr (omega arith)

-- how two prefixes stand: one of three ways, and never two
pub data Stand (p l q m : ℕ) : Type 0 where
  earlier : before p l q m ≡ true → before q m p l ≡ false → (Same p l q m → ⊥) → Stand p l q m
  same : Same p l q m → before p l q m ≡ false → before q m p l ≡ false → Stand p l q m
  later : before q m p l ≡ true → before p l q m ≡ false → (Same p l q m → ⊥) → Stand p l q m

-- of two numbers one is the smaller, or they are equal
three : (a b : ℕ) → (a < b) ⊎ ((a ≡ b) ⊎ (b < a))
three a b = go (dec_lt a b) (dec_lt b a)
  where
    go : Dec (a < b) → Dec (b < a) → (a < b) ⊎ ((a ≡ b) ⊎ (b < a))
    go (yes h) d = inl h
    go (no h) (yes k) = inr (inr k)
    go (no h) (no k) = inr (inl (omega arith))

-- if one prefix comes before another, the other neither comes before it nor is the same
comes : (p l q m : ℕ) → Earlier p l q m → (before p l q m ≡ true) × (before q m p l ≡ false) × (Same p l q m → ⊥)
comes p l q m h = ((before_true p l q m).1 h, before_false q m p l (go h), differ h)
  where
    go : Earlier p l q m → Earlier q m p l → ⊥
    go (inl h) (inl k) = omega arith
    go (inl h) (inr k) = omega arith
    go (inr h) (inl k) = omega arith
    go (inr h) (inr k) = omega arith

    differ : Earlier p l q m → Same p l q m → ⊥
    differ (inl h) s = omega arith
    differ (inr h) s = omega arith

-- every two prefixes stand so
pub before_total : (p l q m : ℕ) → Stand p l q m
before_total p l q m = go (three (masked p l) (masked q m)) (three l m)
  where
    less : Earlier p l q m → Stand p l q m
    less h = let c = comes p l q m h in earlier c.0 c.1 c.2

    more : Earlier q m p l → Stand p l q m
    more h = let c = comes q m p l h in later c.0 c.1 (λ s. c.2 (record { key = sym s.key; len = sym s.len }))

    equal : Same p l q m → Stand p l q m
    equal s = same s (before_false p l q m (⊎_elim (λ h. omega arith) (λ h. omega arith))) (before_false q m p l (⊎_elim (λ h. omega arith) (λ h. omega arith)))

    go :
        (masked p l < masked q m) ⊎ ((masked p l ≡ masked q m) ⊎ (masked q m < masked p l))
        → (l < m) ⊎ ((l ≡ m) ⊎ (m < l))
        → Stand p l q m
    go (inl h) d = less (inl h)
    go (inr (inr h)) d = more (inl h)
    go (inr (inl h)) (inl k) = less (inr (h, k))
    go (inr (inl h)) (inr (inl k)) = equal (record { key = h; len = k })
    go (inr (inl h)) (inr (inr k)) = more (inr (sym h, k))

-- a prefix comes before every longer one that it covers
pub covers_before : {p l q m : ℕ} → Covers p l q m → l < m → before p l q m ≡ true
covers_before {p} {l} {q} {m} c h =
    let e : masked p l ≡ masked q l = ((covers_by_mask p l q m).0 c).1 in
    let k : masked q l ≤ masked q m = masked_mono q l m c.shorter in
    (before_true p l q m).1 (⊎_elim (λ (x : masked p l ≡ masked q m). inr (x, h)) (λ (x : masked p l < masked q m). inl x) (eq-or-lt_of_le (omega arith)))
