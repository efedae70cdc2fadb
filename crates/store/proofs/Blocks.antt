-- A block gets an item or loses one, in place or in another block: what stands where afterwards.
-- Shown once for any way to hold items in words, then said of cells and of nodes. Assumes nothing.
use mathlib.Core.Path.{◌≡◌, ◌∙◌}
use mathlib.Core.Bool.{true, false}
use mathlib.Core.List.{List}
use mathlib.Core.Logic.{◌⊎◌, inl, inr}
use Prim.Native.Nat.{ℕ, suc, ◌+◌, ◌-◌, ◌≤◌, ◌<◌}
use native.Mathlib.Omega.{arith}
use native.Mathlib.Decide.{dec_lt, ℕ_discrete}
use Rattle.store.specs.Moves.{move_of, run_of, lift_of, open_of, close_of}
use Rattle.store.proofs.Items.{Items}
use Rattle.store.proofs.Moves.{Outside, Clear, Ran, ran, Raised, raised, move_room, run_room, lift_keeps}

-- the n items that stood at a stand at t in their order, with x among them at slot k
pub record Grown {A : Type 0} (m m' : ℕ → A) (x : A) (a t n k : ℕ) : Type 0 where
  pub below : (i : ℕ) → i < k → m' (t + i) ≡ m (a + i)
  pub slot : m' (t + k) ≡ x
  pub above : (i : ℕ) → k ≤ i → i < n → m' (t + suc i) ≡ m (a + i)

-- the n items that stood at a stand at t in their order, without that of slot k
pub record Shrunk {A : Type 0} (m m' : ℕ → A) (a t n k : ℕ) : Type 0 where
  pub below : (i : ℕ) → i < k → m' (t + i) ≡ m (a + i)
  pub above : (i : ℕ) → k ≤ i → suc i < n → m' (t + i) ≡ m (a + suc i)

-- in place, and nothing else changes
pub record Grows {A : Type 0} (m m' : ℕ → A) (x : A) (a n k : ℕ) : Type 0 where
  pub grown : Grown m m' x a a n k
  pub rest : (i : ℕ) → Outside a (suc n) i → m' i ≡ m i

-- into the block at b: the old block is left empty, and nothing else changes
pub record GrowsInto {A : Type 0} (m m' : ℕ → A) (e x : A) (a b n k : ℕ) : Type 0 where
  pub grown : Grown m m' x a b n k
  pub left : (i : ℕ) → i < n → m' (a + i) ≡ e
  pub rest : (i : ℕ) → Outside a n i → Outside b (suc n) i → m' i ≡ m i

-- in place: the last position is left empty, and nothing else changes
pub record Shrinks {A : Type 0} (m m' : ℕ → A) (e : A) (a n k : ℕ) : Type 0 where
  pub shrunk : Shrunk m m' a a n k
  pub left : m' (a + (n - 1)) ≡ e
  pub rest : (i : ℕ) → Outside a n i → m' i ≡ m i

-- into the block at b: the old block is left empty, and nothing else changes
pub record ShrinksInto {A : Type 0} (m m' : ℕ → A) (e : A) (a b n k : ℕ) : Type 0 where
  pub shrunk : Shrunk m m' a b n k
  pub left : (i : ℕ) → i < n → m' (a + i) ≡ e
  pub rest : (i : ℕ) → Outside a n i → Outside b (n - 1) i → m' i ≡ m i

-- n positions from a on and p positions from b on have none in common
abbrev pub Apart : ℕ → ℕ → ℕ → ℕ → Type 0
Apart a n b p = (a + n ≤ b) ⊎ (b + p ≤ a)

-- two blocks apart share no position
none_shared : (a n b p : ℕ) → Apart a n b p → (i : ℕ) → a ≤ i → i < a + n → b ≤ i → i < b + p → ⊥
none_shared a n b p (inl s) i w x y z = omega arith
none_shared a n b p (inr s) i w x y z = omega arith

module _ {A : Type 0} {room : List ℕ → ℕ} {at : List ℕ → ℕ → A} {save : List ℕ → ℕ → A → List ℕ} (I : Items room at save) (e : A) where
  abbrev move : List ℕ → ℕ → ℕ → List ℕ
  move = move_of at save e

  -- a block gets one more item in place
  pub grows : (l : List ℕ) (a b n k : ℕ) (x : A) → k ≤ n → a + n < room l
      → Grows (at l) (at (save (open_of move true l a b n k) (a + k) x)) x a n k
  unfolding open_of
  grows l a b n k x h f = record {
    grown = record {
      below = λ i p. I.other l₁ (a + k) (a + i) x (λ q. omega arith) ∙ r.off (a + i) (λ y z. omega arith);
      slot = I.same l₁ (a + k) x (rw (lift_keeps room move (move_room I e) (n - k) l (a + k)) (omega arith));
      above = above;
    };
    rest = λ i o. I.other l₁ (a + k) i x (λ q. o (omega arith) (omega arith)) ∙ r.off i (λ y z. o (omega arith) (omega arith));
  }
    where
      l₁ : List ℕ
      l₁ = lift_of move (n - k) l (a + k)

      r : Raised (at l) (at l₁) (n - k) (a + k)
      r = raised I e (n - k) l (a + k) (omega arith)

      above : (i : ℕ) → k ≤ i → i < n → at (save l₁ (a + k) x) (a + suc i) ≡ at l (a + i)
      above i p q =
          let u : a + k + suc (i - k) ≡ a + suc i = omega arith in
          let v : a + k + (i - k) ≡ a + i = omega arith in
          I.other l₁ (a + k) (a + suc i) x (λ z. omega arith) ∙ (rw (u, v) at (r.up (i - k) (omega arith)))

  -- a block gets one more item, and moves
  pub grows_into : (l : List ℕ) (a b n k : ℕ) (x : A) → k ≤ n → a + n ≤ room l → b + n < room l → Apart a n b (suc n)
      → GrowsInto (at l) (at (save (open_of move false l a b n k) (b + k) x)) e x a b n k
  unfolding open_of
  grows_into l a b n k x h fa fb s = record {
    grown = record {
      below = λ i p.
          I.other l₂ (b + k) (b + i) x (λ z. omega arith)
          ∙ q.off (b + i) (λ y z. hit (b + i) (omega arith) (omega arith) (omega arith) (omega arith)) (λ y z. omega arith) ∙ r.to i p;
      slot = I.same l₂ (b + k) x (rw (run_room I e (n - k) l₁ (a + k) (b + k + 1), run_room I e k l a b) (omega arith));
      above = above;
    };
    left = λ i p. I.other l₂ (b + k) (a + i) x (λ z. hit (a + i) (omega arith) (omega arith) (omega arith) (omega arith)) ∙ left i p (dec_lt i k);
    rest = λ i o u.
        I.other l₂ (b + k) i x (λ z. u (omega arith) (omega arith))
        ∙ q.off i (λ y z. o (omega arith) (omega arith)) (λ y z. u (omega arith) (omega arith))
        ∙ r.off i (λ y z. o (omega arith) (omega arith)) (λ y z. u (omega arith) (omega arith));
  }
    where
      hit : (i : ℕ) → a ≤ i → i < a + n → b ≤ i → i < b + suc n → ⊥
      hit = none_shared a n b (suc n) s

      first : Apart a n b (suc n) → Clear k a b
      first (inl s) = inr (omega arith)
      first (inr s) = inl (omega arith)

      second : Apart a n b (suc n) → Dec (b + 1 < a) → Clear (n - k) (a + k) (b + k + 1)
      second (inl s) d = inr (omega arith)
      second (inr s) (yes d) = inl (omega arith)
      second (inr s) (no d) = inr (omega arith)

      l₁ : List ℕ
      l₁ = run_of move k l a b

      r : Ran (at l) (at l₁) e k a b
      r = ran I e k l a b (first s) (omega arith) (omega arith)

      l₂ : List ℕ
      l₂ = run_of move (n - k) l₁ (a + k) (b + k + 1)

      q : Ran (at l₁) (at l₂) e (n - k) (a + k) (b + k + 1)
      q =
          ran I e (n - k) l₁ (a + k) (b + k + 1) (second s (dec_lt (b + 1) a)) (rw (run_room I e k l a b) (omega arith))
          (rw (run_room I e k l a b) (omega arith))

      above : (i : ℕ) → k ≤ i → i < n → at (save l₂ (b + k) x) (b + suc i) ≡ at l (a + i)
      above i p w =
          let u : b + k + 1 + (i - k) ≡ b + suc i = omega arith in
          let v : a + k + (i - k) ≡ a + i = omega arith in
          I.other l₂ (b + k) (b + suc i) x (λ z. omega arith) ∙ (rw (u, v) at (q.to (i - k) (omega arith)))
          ∙ r.off (a + i) (λ y z. omega arith) (λ y z. hit (a + i) (omega arith) (omega arith) (omega arith) (omega arith))

      left : (i : ℕ) → i < n → Dec (i < k) → at l₂ (a + i) ≡ e
      left i p (yes d) =
          q.off (a + i) (λ y z. omega arith) (λ y z. hit (a + i) (omega arith) (omega arith) (omega arith) (omega arith))
          ∙ r.gone i d (λ y z. hit (a + i) (omega arith) (omega arith) (omega arith) (omega arith))
      left i p (no d) =
          let u : a + k + (i - k) ≡ a + i = omega arith in
          rw u at (q.gone (i - k) (omega arith) (λ y z. hit (a + i) (omega arith) (omega arith) (omega arith) (omega arith)))

  -- a block loses an item in place
  pub shrinks : (l : List ℕ) (a b n k : ℕ) → k < n → a + n ≤ room l
      → Shrinks (at l) (at (close_of move true (save l (a + k) e) a b n k)) e a n k
  unfolding close_of
  shrinks l a b n k h f = record {
    shrunk = record {
      below = λ i p. r.off (a + i) (λ y z. omega arith) (λ y z. omega arith) ∙ I.other l (a + k) (a + i) e (λ z. omega arith);
      above = above;
    };
    left = left (ℕ_discrete (n - 1) k);
    rest = λ i o.
        r.off i (λ y z. o (omega arith) (omega arith)) (λ y z. o (omega arith) (omega arith))
        ∙ I.other l (a + k) i e (λ z. o (omega arith) (omega arith));
  }
    where
      l₀ : List ℕ
      l₀ = save l (a + k) e

      l₁ : List ℕ
      l₁ = run_of move (n - k - 1) l₀ (a + k + 1) (a + k)

      r : Ran (at l₀) (at l₁) e (n - k - 1) (a + k + 1) (a + k)
      r =
          ran I e (n - k - 1) l₀ (a + k + 1) (a + k) (inl (omega arith)) (rw (I.stays l (a + k) e) (omega arith))
          (rw (I.stays l (a + k) e) (omega arith))

      above : (i : ℕ) → k ≤ i → suc i < n → at l₁ (a + i) ≡ at l (a + suc i)
      above i p q =
          let u : a + k + (i - k) ≡ a + i = omega arith in
          let v : a + k + 1 + (i - k) ≡ a + suc i = omega arith in
          (rw (u, v) at (r.to (i - k) (omega arith))) ∙ I.other l (a + k) (a + suc i) e (λ z. omega arith)

      left : Dec (n - 1 ≡ k) → at l₁ (a + (n - 1)) ≡ e
      left (yes d) = rw d (r.off (a + k) (λ y z. omega arith) (λ y z. omega arith) ∙ I.same l (a + k) e (omega arith))
      left (no d) =
          let u : a + k + 1 + (n - k - 2) ≡ a + (n - 1) = omega arith in
          rw u at (r.gone (n - k - 2) (omega arith) (λ y z. omega arith))

  -- a block loses an item, and moves
  pub shrinks_into : (l : List ℕ) (a b n k : ℕ) → k < n → a + n ≤ room l → b + (n - 1) ≤ room l → Apart a n b (n - 1)
      → ShrinksInto (at l) (at (close_of move false (save l (a + k) e) a b n k)) e a b n k
  unfolding close_of
  shrinks_into l a b n k h fa fb s = record {
    shrunk = record {
      below = λ i p.
          q.off (b + i) (λ y z. hit (b + i) (omega arith) (omega arith) (omega arith) (omega arith)) (λ y z. omega arith)
          ∙ r.to i p ∙ I.other l (a + k) (a + i) e (λ z. omega arith);
      above = above;
    };
    left = λ i p. left i p (dec_lt i k) (ℕ_discrete i k);
    rest = λ i o u.
        q.off i (λ y z. o (omega arith) (omega arith)) (λ y z. u (omega arith) (omega arith))
        ∙ r.off i (λ y z. o (omega arith) (omega arith)) (λ y z. u (omega arith) (omega arith))
        ∙ I.other l (a + k) i e (λ z. o (omega arith) (omega arith));
  }
    where
      hit : (i : ℕ) → a ≤ i → i < a + n → b ≤ i → i < b + (n - 1) → ⊥
      hit = none_shared a n b (n - 1) s

      first : Apart a n b (n - 1) → Dec (b < a) → Clear k a b
      first s (yes d) = inl d
      first (inl s) (no d) = inr (omega arith)
      first (inr s) (no d) = inr (omega arith)

      second : Apart a n b (n - 1) → Clear (n - k - 1) (a + k + 1) (b + k)
      second (inl s) = inr (omega arith)
      second (inr s) = inl (omega arith)

      l₀ : List ℕ
      l₀ = save l (a + k) e

      l₁ : List ℕ
      l₁ = run_of move k l₀ a b

      r : Ran (at l₀) (at l₁) e k a b
      r =
          ran I e k l₀ a b (first s (dec_lt b a)) (rw (I.stays l (a + k) e) (omega arith)) (rw (I.stays l (a + k) e) (omega arith))

      l₂ : List ℕ
      l₂ = run_of move (n - k - 1) l₁ (a + k + 1) (b + k)

      q : Ran (at l₁) (at l₂) e (n - k - 1) (a + k + 1) (b + k)
      q =
          ran I e (n - k - 1) l₁ (a + k + 1) (b + k) (second s) (rw (run_room I e k l₀ a b, I.stays l (a + k) e) (omega arith))
          (rw (run_room I e k l₀ a b, I.stays l (a + k) e) (omega arith))

      above : (i : ℕ) → k ≤ i → suc i < n → at l₂ (b + i) ≡ at l (a + suc i)
      above i p w =
          let u : b + k + (i - k) ≡ b + i = omega arith in
          let v : a + k + 1 + (i - k) ≡ a + suc i = omega arith in
          (rw (u, v) at (q.to (i - k) (omega arith)))
          ∙ r.off (a + suc i) (λ y z. omega arith) (λ y z. hit (a + suc i) (omega arith) (omega arith) (omega arith) (omega arith))
          ∙ I.other l (a + k) (a + suc i) e (λ z. omega arith)

      left : (i : ℕ) → i < n → Dec (i < k) → Dec (i ≡ k) → at l₂ (a + i) ≡ e
      left i p (yes d) c =
          q.off (a + i) (λ y z. omega arith) (λ y z. hit (a + i) (omega arith) (omega arith) (omega arith) (omega arith))
          ∙ r.gone i d (λ y z. hit (a + i) (omega arith) (omega arith) (omega arith) (omega arith))
      left i p (no d) (yes c) =
          rw c
          (q.off (a + k) (λ y z. omega arith) (λ y z. hit (a + k) (omega arith) (omega arith) (omega arith) (omega arith))
          ∙ r.off (a + k) (λ y z. omega arith) (λ y z. hit (a + k) (omega arith) (omega arith) (omega arith) (omega arith))
          ∙ I.same l (a + k) e (omega arith))
      left i p (no d) (no c) =
          let u : a + k + 1 + (i - k - 1) ≡ a + i = omega arith in
          rw u at (q.gone (i - k - 1) (omega arith) (λ y z. hit (a + i) (omega arith) (omega arith) (omega arith) (omega arith)))
