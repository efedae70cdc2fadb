-- How many numbers a test picks: bounds, and two tests compared. Assumes nothing.
use mathlib.Core.Path.{◌≡◌, refl, sym, ap, ◌∙◌}
use mathlib.Core.Logic.{◌⊎◌, inl, inr}
use mathlib.Core.Bool.{Bool, true, false}
use Prim.Native.Nat.{ℕ, zero, suc, ◌+◌, ◌≤◌, ◌<◌}
use native.Mathlib.Nat.{le_refl, le_of_suc-le-suc, not-suc-le-zero, eq-or-lt_of_le}
use native.Mathlib.Numerals.{add-one}
use native.Mathlib.Omega.{arith}
use Rattle.bits.specs.Bits.{one}
use Rattle.order.specs.Order.{how_many}

-- a test as a number is at most another that it implies
le_one : (a b : Bool) → (a ≡ true → b ≡ true) → one a ≤ one b
le_one true b i = rw (i refl) (le_refl 1)
le_one false b i = omega arith

-- a test that picks whatever another does picks as many
pub many_le : (n : ℕ) (f g : ℕ → Bool) → ((i : ℕ) → i < n → f i ≡ true → g i ≡ true) → how_many n f ≤ how_many n g
unfolding how_many
many_le zero f g h = le_refl 0
many_le (suc n) f g h =
    let p = many_le n f g (λ i l. h i (omega arith)) in
    let q = le_one (f n) (g n) (h n (omega arith)) in
    omega arith

-- and more, where it picks one besides
pub many_lt : (n : ℕ) (f g : ℕ → Bool) → ((i : ℕ) → i < n → f i ≡ true → g i ≡ true)
    → (j : ℕ) → j < n → f j ≡ false → g j ≡ true → how_many n f < how_many n g
unfolding how_many
many_lt zero f g h j l a b = absurd (not-suc-le-zero l)
many_lt (suc n) f g h j l a b = go (λ k. many_lt n f g (λ i m. h i (omega arith)) j k a b) (eq-or-lt_of_le (le_of_suc-le-suc l))
  where
    go : (j < n → how_many n f < how_many n g) → (j ≡ n) ⊎ (j < n) → how_many n f + one (f n) < how_many n g + one (g n)
    go ih (inl e) =
        let p = many_le n f g (λ i m. h i (omega arith)) in
        let x : one (f n) ≡ 0 = ap (λ (i : ℕ). one (f i)) (sym e) ∙ ap one a in
        let y : one (g n) ≡ 1 = ap (λ (i : ℕ). one (g i)) (sym e) ∙ ap one b in
        omega arith
    go ih (inr k) =
        let p = ih k in
        let q = le_one (f n) (g n) (h n (omega arith)) in
        omega arith

-- a test that always passes picks all
many_all : (n : ℕ) → how_many n (λ i. true) ≡ n
unfolding how_many
many_all zero = refl
many_all (suc n) = ap (λ (x : ℕ). x + 1) (many_all n) ∙ add-one n

-- of n numbers at most n are picked
pub many_most : (n : ℕ) (f : ℕ → Bool) → how_many n f ≤ n
many_most n f = let e = many_all n in let h = many_le n f (λ i. true) (λ i l p. refl) in omega arith

-- and fewer, where one isn't
pub many_fewer : (n : ℕ) (f : ℕ → Bool) (j : ℕ) → j < n → f j ≡ false → how_many n f < n
many_fewer n f j l p = let e = many_all n in let h = many_lt n f (λ i. true) (λ i m q. refl) j l p refl in omega arith
