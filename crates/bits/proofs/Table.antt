-- Rules of tables and of small ranges, proved by one test that is computed over all entries. Assumes nothing.
use mathlib.Core.Path.{◌≡◌, ◌∙◌, subst, sym, refl}
use mathlib.Core.Logic.{◌⊎◌, inl, inr}
use mathlib.Core.Bool.{Bool, true, false, ◌&&◌}
use mathlib.Core.List.{List, [], ◌∷◌}
use Prim.Native.Nat.{ℕ, zero, suc, ◌+◌, ◌<◌}
use native.Mathlib.Nat.{add-zero, zero-add, add-suc, suc-add, le_of_suc-le-suc, not-suc-le-zero, eq-or-lt_of_le}
use lib.Dec.{T}
use lib.ListN.{length, get_or}

-- a conjunction of tests, taken apart and put together
pub and_left : (a b : Bool) → T (a && b) → T a
and_left true b t = tt
and_left false b t = t

pub and_right : (a b : Bool) → T (a && b) → T b
and_right true b t = t
and_right false b t = absurd t

pub and_both : (a b : Bool) → T a → T b → T (a && b)
and_both true b s t = t
and_both false b s t = s

-- a test that passes is true
pub true_of : (b : Bool) → T b → b ≡ true
true_of true t = refl
true_of false t = absurd t

pub of_true : (b : Bool) → b ≡ true → T b
of_true b e = subst T (sym e) tt

-- the test f passes at each entry of the list and its place, counted from i
abbrev pub every : {A : Type 0} → (ℕ → A → Bool) → ℕ → List A → Bool
every f i [] = true
every f i (x ∷ xs) = f i x && every f (suc i) xs

from : {A : Type 0} (d : A) (f : ℕ → A → Bool) (xs : List A) (i : ℕ) → T (every f i xs) → (k : ℕ) → k < length xs → T (f (i + k) (get_or xs k d))
from d f [] i t k h = absurd (not-suc-le-zero h)
from d f (x ∷ xs) i t zero h = subst (λ (m : ℕ). T (f m x)) (sym (add-zero i)) (and_left (f i x) (every f (suc i) xs) t)
from d f (x ∷ xs) i t (suc k) h =
    subst (λ (m : ℕ). T (f m (get_or xs k d))) (suc-add i k ∙ sym (add-suc i k))
    (from d f xs (suc i) (and_right (f i x) (every f (suc i) xs) t) k (le_of_suc-le-suc h))

-- what the test of a whole table says of one entry; d stands for what no place has
pub at_or : {A : Type 0} (d : A) (f : ℕ → A → Bool) (xs : List A) → T (every f 0 xs) → (k : ℕ) → k < length xs → T (f k (get_or xs k d))
at_or d f xs t k h = subst (λ (m : ℕ). T (f m (get_or xs k d))) (zero-add k) (from d f xs 0 t k h)

-- the same of a table of numbers
pub at : (f : ℕ → ℕ → Bool) (xs : List ℕ) → T (every f 0 xs) → (k : ℕ) → k < length xs → T (f k (get_or xs k 0))
at f xs t k h = at_or 0 f xs t k h

-- the test f passes at each number below n
abbrev pub up_to : ℕ → (ℕ → Bool) → Bool
up_to zero f = true
up_to (suc n) f = f n && up_to n f

-- what the test of a range says of one number
pub up_to_at : (n : ℕ) (f : ℕ → Bool) → T (up_to n f) → (i : ℕ) → i < n → T (f i)
up_to_at zero f t i h = absurd (not-suc-le-zero h)
up_to_at (suc n) f t i h = pick (λ l. up_to_at n f (and_right (f n) (up_to n f) t) i l) (eq-or-lt_of_le (le_of_suc-le-suc h))
  where
    pick : (i < n → T (f i)) → (i ≡ n) ⊎ (i < n) → T (f i)
    pick ih (inl e) = subst (λ (x : ℕ). T (f x)) (sym e) (and_left (f n) (up_to n f) t)
    pick ih (inr l) = ih l
