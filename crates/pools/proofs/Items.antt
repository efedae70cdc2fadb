-- Laws of items of owners: how many there are, how many stand before one, and what one that comes or goes changes. Assumes nothing.
use mathlib.Core.Path.{◌≡◌, refl, sym, ap, ◌∙◌}
use mathlib.Core.Bool.{Bool, true, false}
use Prim.Native.Nat.{ℕ, zero, suc, ◌+◌, ◌*◌, ◌/◌, ◌%◌, ◌≤◌, ◌<◌}
use native.Mathlib.Omega.{arith}
use native.Mathlib.Decide.{ℕ_discrete}
use borrow.Author.Tests.{eq-eqb, ne_eqb}
use Rattle.bits.specs.Bits.{one}
use Rattle.rules.specs.Sums.{sum}
use Rattle.rules.proofs.Sums.{sum_same, sum_zero, sum_part, sum_at, count_le}
use Rattle.pools.specs.Items.{upd, among, items, slot}

-- ---- a function changed at one place

-- there it has the new value
pub upd_same : {A : Type 0} (f : ℕ → A) (i : ℕ) (x : A) → upd f i x i ≡ x
unfolding upd
upd_same f i x = rw (eq-eqb i i refl)

-- elsewhere the old one
pub upd_other : {A : Type 0} (f : ℕ → A) (i j : ℕ) (x : A) → (i ≡ j → ⊥) → upd f i x j ≡ f j
unfolding upd
upd_other f i j x h = rw (ne_eqb i j h)

-- ---- how many of the n items from a on there are

-- no more than n
pub among_le : (K : ℕ → Bool) (a n : ℕ) → among K a n ≤ n
among_le K a n = count_le n (λ i. K (a + i))

-- of more places, no fewer
pub among_mono : (K : ℕ → Bool) (a b c : ℕ) → b ≤ c → among K a b ≤ among K a c
among_mono K a b zero h = let z : b ≡ 0 = omega arith in rw z (omega arith)
among_mono K a b (suc c) h = go (ℕ_discrete b (suc c)) (among_mono K a b c)
  where
    go : Dec (b ≡ suc c) → (b ≤ c → among K a b ≤ among K a c) → among K a b ≤ among K a (suc c)
    go (yes e) ih = rw e (omega arith)
    go (no e) ih = unfold sum in omega (arith, ih (omega arith))

-- and more, if one of those added is there
pub among_strict : (K : ℕ → Bool) (a b c : ℕ) → K (a + b) ≡ true → b < c → among K a b < among K a c
among_strict K a b c k h =
    let e : among K a (suc b) ≡ among K a b + 1 = unfold sum in rw k in
    omega (arith, among_mono K a (suc b) c h)

-- an item outside doesn't count
pub among_off : (K : ℕ → Bool) (x a n : ℕ) (v : Bool) → ((i : ℕ) → i < n → x ≡ a + i → ⊥) → among (upd K x v) a n ≡ among K a n
among_off K x a n v h = sum_same n (λ i. one (upd K x v (a + i))) (λ i. one (K (a + i))) (λ i l. ap one (upd_other K x (a + i) v (h i l)))

-- an item inside counts as what it becomes, no longer as what it was
among_at : (K : ℕ → Bool) (a b n : ℕ) (v : Bool) → b < n → among (upd K (a + b) v) a n + one (K (a + b)) ≡ among K a n + one v
among_at K a b n v h =
    sum_at n b (λ i. one (upd K (a + b) v (a + i))) (λ i. one (K (a + i))) h (λ j l d. ap one (upd_other K (a + b) (a + j) v (λ e. d (omega arith))))
    ∙ ap (λ (w : Bool). among K a n + one w) (upd_same K (a + b) v)

-- one that comes is one more
pub among_in : (K : ℕ → Bool) (a b n : ℕ) → K (a + b) ≡ false → b < n → among (upd K (a + b) true) a n ≡ suc (among K a n)
among_in K a b n k h = let e = rw k at (among_at K a b n true h) in omega arith

-- one that goes is one less
pub among_out : (K : ℕ → Bool) (a b n : ℕ) → K (a + b) ≡ true → b < n → suc (among (upd K (a + b) false) a n) ≡ among K a n
among_out K a b n k h = let e = rw k at (among_at K a b n false h) in omega arith

-- where there is none, the number is 0
pub among_none : (K : ℕ → Bool) (a n : ℕ) → ((i : ℕ) → i < n → K (a + i) ≡ false) → among K a n ≡ 0
among_none K a n h = sum_zero n (λ i. one (K (a + i))) (λ i l. ap one (h i l))

-- and the other way round
pub among_zero : (K : ℕ → Bool) (a n : ℕ) → among K a n ≡ 0 → (i : ℕ) → i < n → K (a + i) ≡ false
among_zero K a n z i l = go (K (a + i)) refl
  where
    go : (b : Bool) → K (a + i) ≡ b → b ≡ false
    go true e = absurd (let f : one (K (a + i)) ≡ 1 = ap one e in omega (arith, sum_part n i (λ j. one (K (a + j))) l))
    go false e = refl

-- the same items, the same number
pub among_same : (K J : ℕ → Bool) (a n : ℕ) → ((i : ℕ) → i < n → K (a + i) ≡ J (a + i)) → among K a n ≡ among J a n
among_same K J a n h = sum_same n (λ i. one (K (a + i))) (λ i. one (J (a + i))) (λ i l. ap one (h i l))

-- ---- the items of an owner

-- a number is its owner's and its place
pub parts : (x : ℕ) → x ≡ 32 * (x / 32) + x % 32
parts x = omega arith

-- one that comes is one more of its owner's
pub items_in : (K : ℕ → Bool) (x : ℕ) → K x ≡ false → items (upd K x true) (x / 32) ≡ suc (items K (x / 32))
items_in K x k =
    let e = parts x in
    ap (λ (y : ℕ). items (upd K y true) (x / 32)) e ∙ among_in K (32 * (x / 32)) (x % 32) 32 (rw e at k) (omega arith)

-- one that goes is one less
pub items_out : (K : ℕ → Bool) (x : ℕ) → K x ≡ true → suc (items (upd K x false) (x / 32)) ≡ items K (x / 32)
items_out K x k =
    let e = parts x in
    ap (λ (y : ℕ). suc (items (upd K y false) (x / 32))) e ∙ among_out K (32 * (x / 32)) (x % 32) 32 (rw e at k) (omega arith)

-- other owners keep theirs
pub items_other : (K : ℕ → Bool) (x n : ℕ) (v : Bool) → (x / 32 ≡ n → ⊥) → items (upd K x v) n ≡ items K n
items_other K x n v h = among_off K x (32 * n) 32 v (λ i l e. h (omega arith))

-- an item's slot is below its owner's number of items
pub slot_lt : (K : ℕ → Bool) (x : ℕ) → K x ≡ true → slot K x < items K (x / 32)
slot_lt K x k = among_strict K (32 * (x / 32)) (x % 32) 32 (ap K (sym (parts x)) ∙ k) (omega arith)

-- the slot of one that may come is at most that
pub slot_le : (K : ℕ → Bool) (x : ℕ) → slot K x ≤ items K (x / 32)
slot_le K x = among_mono K (32 * (x / 32)) (x % 32) 32 (omega arith)
