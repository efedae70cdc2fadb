-- Contents that move: whose each place is when a block was taken for an owner and its old one returned. Assumes nothing.
use mathlib.Core.Path.{◌≡◌, refl, sym, ◌∙◌}
use mathlib.Core.Bool.{true}
use mathlib.Core.List.{List}
use mathlib.Core.Logic.{inl, inr}
use Prim.Native.Nat.{ℕ, ◌+◌, ◌-◌, ◌≤◌, ◌<◌}
use native.Mathlib.Omega.{arith}
use native.Mathlib.Decide.{dec_le}
use Rattle.blocks.specs.declared.Pool.{Pool}
use Rattle.blocks.specs.Blocks.{take_of}
use Rattle.blocks.specs.Growth.{move_of}
use Rattle.store.proofs.Moves.{Outside}
use Rattle.store.proofs.Blocks.{Apart}
use Rattle.rules.specs.Account.{taking, supplies}
use Rattle.rules.proofs.Returns.{Place}
use Rattle.pools.specs.Sound.{cells_of, Owner, kept, free, Coloured}
use Rattle.pools.specs.Accounts.{kind_of, account_of}
use Rattle.pools.proofs.Accounts.{room_after}
use Rattle.pools.proofs.Colours.{kept_one, paint, paint_in, paint_off, take_coloured, give_coloured}

-- ---- ranges of places

-- what holds of a place, and of none of a range, puts the place outside
pub outside : (P : ℕ → Type 0) (a n j : ℕ) → ((i : ℕ) → i < n → P (a + i) → ⊥) → P j → Outside a n j
outside P a n j f h u v = let e : a + (j - a) ≡ j = omega arith in f (j - a) (omega arith) (rw e h)

-- what an owner keeps is outside the places of another
pub not_of : (own : ℕ → Owner) (a k n m j : ℕ) → ((i : ℕ) → i < k → own (a + i) ≡ kept n) → (n ≡ m → ⊥) → own j ≡ kept m → Outside a k j
not_of own a k n m j mine d o = outside (λ i. own i ≡ kept m) a k j (λ i h q. d (kept_one _ n m (mine i h) q)) o

-- two ranges that share no place are apart
pub ranges_apart : (a n b m : ℕ) → 0 < n → 0 < m → ((j : ℕ) → a ≤ j → j < a + n → Outside b m j) → Apart a n b m
ranges_apart a n b m hn hm f = go (dec_le (a + n) b) (dec_le (b + m) a) (dec_le a b)
  where
    go : Dec (a + n ≤ b) → Dec (b + m ≤ a) → Dec (a ≤ b) → Apart a n b m
    go (yes u) v w = inl u
    go (no u) (yes v) w = inr v
    go (no u) (no v) (yes w) = absurd (f b w (omega arith) (omega arith) (omega arith))
    go (no u) (no v) (no w) = absurd (f a (omega arith) (omega arith) (omega arith) (omega arith))

-- ---- the move

-- the owner n has moved from its block of tier a at old to one of tier b: the new block lies in the pool, where nobody kept a place, and is its own; the others keep theirs
pub record Moved (top : ℕ) (p : Pool) (l : List ℕ) (own : ℕ → Owner) (old n a b : ℕ) (own' : ℕ → Owner) : Type 0 where
  pub blocks : Coloured top (move_of p top l old a b).0.pool (move_of p top l old a b).1 own'
  pub mine : (i : ℕ) → i < cells_of top b → own' ((move_of p top l old a b).0.start + i) ≡ kept n
  pub rest : (m j : ℕ) → (n ≡ m → ⊥) → own j ≡ kept m → own' j ≡ kept m
  pub clear : (m j : ℕ) → own j ≡ kept m → Outside (move_of p top l old a b).0.start (cells_of top b) j
  pub within : (move_of p top l old a b).0.start + cells_of top b ≤ p.size

module _ (top : ℕ) (p : Pool) (l : List ℕ) (own : ℕ → Owner) (c : Coloured top p l own) where
  -- a move that the ledger can supply and take back does so
  pub move_coloured : (old n a b : ℕ) → a < 7 → b < 7 → supplies (kind_of top p) b (account_of p) ≡ true → Place (kind_of top p) a (taking (kind_of top p) b (account_of p))
      → ((i : ℕ) → i < cells_of top a → own (old + i) ≡ kept n) → (own' : ℕ → Owner) × Moved top p l own old n a b own'
  unfolding move_of
  move_coloured old n a b ha hb sup place mine = (
    paint old (cells_of top a) (free a old) painted,
    record {
      blocks = give_coloured top (take_of p top l b).0.pool (take_of p top l b).1 painted t.0 a old n ha (room_after top p l c.shape a b hb sup place) (λ i h. stays n (old + i) (mine i h));
      mine = λ i h. paint_off old (cells_of top a) (free a old) painted (new + i) (not_old i h) ∙ paint_in new (cells_of top b) (kept n) own i h;
      rest = λ m j d o. paint_off old (cells_of top a) (free a old) painted j (not_of own old (cells_of top a) n m j mine d o) ∙ stays m j o;
      clear = clear;
      within = t.2;
    },
  )
    where
      new : ℕ
      new = (take_of p top l b).0.start

      painted : ℕ → Owner
      painted = paint new (cells_of top b) (kept n) own

      t : Coloured top (take_of p top l b).0.pool (take_of p top l b).1 painted
          × ((i k : ℕ) → i < cells_of top b → own (new + i) ≡ kept k → ⊥) × (new + cells_of top b ≤ p.size)
      t = take_coloured top p l own c b n hb sup

      clear : (m j : ℕ) → own j ≡ kept m → Outside new (cells_of top b) j
      clear m j o = outside (λ i. own i ≡ kept m) new (cells_of top b) j (λ i h. t.1 i m h) o

      stays : (m j : ℕ) → own j ≡ kept m → painted j ≡ kept m
      stays m j o = paint_off new (cells_of top b) (kept n) own j (clear m j o) ∙ o

      not_old : (i : ℕ) → i < cells_of top b → Outside old (cells_of top a) (new + i)
      not_old i h = outside (λ j. own j ≡ own (new + i)) old (cells_of top a) (new + i) (λ j g o. t.1 i n h (sym o ∙ mine j g)) refl
