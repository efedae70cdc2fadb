-- What the scans of a node's lengths find: the longest, or the shortest, of the query's prefixes that the node holds; and it is one answer. Assumes nothing.
use mathlib.Core.Path.{◌≡◌, refl, sym, ap, ◌∙◌}
use mathlib.Core.Logic.{◌⊎◌, inl, inr}
use mathlib.Core.Bool.{Bool, true, false, cond, false≢true}
use Prim.Native.Nat.{ℕ, zero, suc, ◌+◌, ◌-◌, ◌≤◌, ◌<◌, min}
use native.Mathlib.Nat.{le_refl, le_antisymm, le-min, min-le_left, min-le_right}
use native.Mathlib.Decide.{ℕ_discrete}
use native.Mathlib.Omega.{arith}
use Rattle.bits.specs.Bits.{has}
use Rattle.tiers.specs.Tiers.{stride}
use Rattle.places.specs.Places.{data_bit}
use Rattle.std.specs.Prelude.{Option, Some, None}
use Rattle.node.specs.Matches.{found_or, longest_from, shortest_from, longest_in, shortest_in}

-- a length that the node at depth d holds, at most the query's
pub record Held (d len l : ℕ) : Type 0 where
  pub from : d ≤ l
  pub to : l < d + stride
  pub within : l ≤ len

-- among the lengths of P whose data bit is set, b is the bit of the one that R puts last
pub record Best (R : ℕ → ℕ → Type 0) (P : ℕ → Type 0) (bitmap key b : ℕ) : Type 0 where
  pub size : ℕ
  pub held : P size
  pub there : b ≡ data_bit key size
  pub set : has bitmap b ≡ true
  pub best : (l : ℕ) → P l → has bitmap (data_bit key l) ≡ true → R l size

-- what a match may answer: that bit, or nothing where no such length has its bit set
abbrev pub Matches : (ℕ → ℕ → Type 0) → (ℕ → Type 0) → ℕ → ℕ → Option ℕ → Type 0
Matches R P bitmap key (Some b) = Best R P bitmap key b
Matches R P bitmap key None = (l : ℕ) → P l → has bitmap (data_bit key l) ≡ false

-- the longest, and the shortest, of the lengths that a node holds
abbrev pub IsLongest : ℕ → ℕ → ℕ → ℕ → Option ℕ → Type 0
IsLongest bitmap d key len = Matches (λ l s. l ≤ s) (Held d len) bitmap key

abbrev pub IsShortest : ℕ → ℕ → ℕ → ℕ → Option ℕ → Type 0
IsShortest bitmap d key len = Matches (λ l s. s ≤ l) (Held d len) bitmap key

-- ---- one answer

module _ (R : ℕ → ℕ → Type 0) (P : ℕ → Type 0) (bitmap key : ℕ) (anti : (a b : ℕ) → R a b → R b a → a ≡ b) where
  -- of two best lengths one is as good as the other
  as_good : {a b : ℕ} (x : Best R P bitmap key a) (y : Best R P bitmap key b) → R x.size y.size
  as_good x y = y.best x.size x.held (ap (has bitmap) (sym x.there) ∙ x.set)

  -- a best length and none don't go together
  not_none : {a : ℕ} → Best R P bitmap key a → ((l : ℕ) → P l → has bitmap (data_bit key l) ≡ false) → ⊥
  not_none x n = false≢true (sym (n x.size x.held) ∙ ap (has bitmap) (sym x.there) ∙ x.set)

  -- two answers of one match are one
  pub match_unique : (f g : Option ℕ) → Matches R P bitmap key f → Matches R P bitmap key g → f ≡ g
  match_unique (Some a) (Some b) x y = ap (λ (b : ℕ). Some b) (x.there ∙ ap (data_bit key) (anti x.size y.size (as_good x y) (as_good y x)) ∙ sym y.there)
  match_unique (Some a) None x y = absurd (not_none x y)
  match_unique None (Some b) x y = absurd (not_none y x)
  match_unique None None x y = refl

pub longest_unique : (bitmap d key len : ℕ) (f g : Option ℕ) → IsLongest bitmap d key len f → IsLongest bitmap d key len g → f ≡ g
longest_unique bitmap d key len = match_unique (λ l s. l ≤ s) (Held d len) bitmap key (λ a b h k. le_antisymm h k)

pub shortest_unique : (bitmap d key len : ℕ) (f g : Option ℕ) → IsShortest bitmap d key len f → IsShortest bitmap d key len g → f ≡ g
shortest_unique bitmap d key len = match_unique (λ l s. s ≤ l) (Held d len) bitmap key (λ a b h k. le_antisymm k h)

-- ---- the scans

module _ (R : ℕ → ℕ → Type 0) (P Q : ℕ → Type 0) (bitmap key : ℕ) where
  -- the same lengths, the same answers
  same_lengths : ((m : ℕ) → P m → Q m) → ((m : ℕ) → Q m → P m) → (f : Option ℕ) → Matches R P bitmap key f → Matches R Q bitmap key f
  same_lengths to back (Some b) x =
      record { size = x.size; held = to x.size x.held; there = x.there; set = x.set; best = λ m q. x.best m (back m q) }
  same_lengths to back None x = λ m q. x m (back m q)

  -- one length more, asked first: it is the best if its bit is set, else the others decide
  one_more : (l : ℕ) → P l → ((m : ℕ) → P m → R m l) → ((m : ℕ) → P m → (m ≡ l) ⊎ Q m) → ((m : ℕ) → Q m → P m)
      → (other : Option ℕ) → Matches R Q bitmap key other → Matches R P bitmap key (found_or bitmap key l other)
  unfolding found_or
  one_more l p last split into other x = go (has bitmap (data_bit key l)) refl other x
    where
      clear : has bitmap (data_bit key l) ≡ false → (m : ℕ) → (m ≡ l) ⊎ Q m → has bitmap (data_bit key m) ≡ true → Q m
      clear e m (inl q) s = absurd (false≢true (sym e ∙ ap (λ (y : ℕ). has bitmap (data_bit key y)) (sym q) ∙ s))
      clear e m (inr q) s = q

      none : has bitmap (data_bit key l) ≡ false → (m : ℕ) → (m ≡ l) ⊎ Q m → (Q m → has bitmap (data_bit key m) ≡ false) → has bitmap (data_bit key m) ≡ false
      none e m (inl q) n = ap (λ (y : ℕ). has bitmap (data_bit key y)) q ∙ e
      none e m (inr q) n = n q

      go : (b : Bool) → has bitmap (data_bit key l) ≡ b → (o : Option ℕ) → Matches R Q bitmap key o → Matches R P bitmap key (cond b (Some (data_bit key l)) o)
      go true e o y = record { size = l; held = p; there = refl; set = e; best = λ m h s. last m h }
      go false e (Some b) y = record {
        size = y.size;
        held = into y.size y.held;
        there = y.there;
        set = y.set;
        best = λ m h s. y.best m (clear e m (split m h) s) s;
      }
      go false e None y = λ m h. none e m (split m h) (y m)

-- from one length up to another
abbrev Between : ℕ → ℕ → ℕ → Type 0
Between lo hi l = (lo ≤ l) × (l ≤ hi)

-- no length at all
abbrev Never : ℕ → Type 0
Never l = ⊥

longest_from_lem : (bitmap key d n : ℕ) → Matches (λ l s. l ≤ s) (Between d (d + n)) bitmap key (longest_from bitmap key d n)
unfolding longest_from
longest_from_lem bitmap key d zero =
    one_more (λ l s. l ≤ s) (Between d (d + 0)) Never bitmap key d (le_refl d, omega arith) (λ m h. omega arith) (λ m h. inl (omega arith)) (λ m h. absurd h)
    None (λ l h. absurd h)
longest_from_lem bitmap key d (suc n) =
    one_more (λ l s. l ≤ s) (Between d (d + suc n)) (Between d (d + n)) bitmap key (d + suc n) (omega arith, le_refl (d + suc n)) (λ m h. h.1)
    (λ m h. at_end m h (ℕ_discrete m (d + suc n))) (λ m h. omega arith) (longest_from bitmap key d n) (longest_from_lem bitmap key d n)
  where
    at_end : (m : ℕ) → Between d (d + suc n) m → Dec (m ≡ d + suc n) → (m ≡ d + suc n) ⊎ Between d (d + n) m
    at_end m h (yes e) = inl e
    at_end m h (no f) = inr (omega arith)

shortest_from_lem : (bitmap key l n : ℕ) → Matches (λ m s. s ≤ m) (Between l (l + n)) bitmap key (shortest_from bitmap key l n)
unfolding shortest_from
shortest_from_lem bitmap key l zero =
    one_more (λ m s. s ≤ m) (Between l (l + 0)) Never bitmap key l (le_refl l, omega arith) (λ m h. h.0) (λ m h. inl (omega arith)) (λ m h. absurd h)
    None (λ m h. absurd h)
shortest_from_lem bitmap key l (suc n) =
    one_more (λ m s. s ≤ m) (Between l (l + suc n)) (Between (suc l) (suc l + n)) bitmap key l (le_refl l, omega arith) (λ m h. h.0)
    (λ m h. at_start m h (ℕ_discrete m l)) (λ m h. omega arith) (shortest_from bitmap key (suc l) n) (shortest_from_lem bitmap key (suc l) n)
  where
    at_start : (m : ℕ) → Between l (l + suc n) m → Dec (m ≡ l) → (m ≡ l) ⊎ Between (suc l) (suc l + n) m
    at_start m h (yes e) = inl e
    at_start m h (no f) = inr (omega arith)

-- the lengths that the scans ask are those that the node holds
asked_held : (d len l : ℕ) → d ≤ len → Between d (d + min 4 (len - d)) l → Held d len l
asked_held d len l f h =
    let a = min-le_left 4 (len - d) in
    let b = min-le_right 4 (len - d) in
    record { from = h.0; to = omega arith; within = omega arith }

held_asked : (d len l : ℕ) → Held d len l → Between d (d + min 4 (len - d)) l
held_asked d len l h =
    let k : l - d ≤ min 4 (len - d) = le-min (omega arith) (omega arith) in
    (h.from, omega arith)

-- the longest that a node's scan finds is the longest
pub longest_is : (bitmap d key len : ℕ) → d ≤ len → IsLongest bitmap d key len (longest_in bitmap d key len)
unfolding longest_in
longest_is bitmap d key len f =
    let n : ℕ = min 4 (len - d) in
    same_lengths (λ l s. l ≤ s) (Between d (d + n)) (Held d len) bitmap key (λ m. asked_held d len m f) (λ m. held_asked d len m) (longest_from bitmap key d n)
    (longest_from_lem bitmap key d n)

-- and the shortest the shortest
pub shortest_is : (bitmap d key len : ℕ) → d ≤ len → IsShortest bitmap d key len (shortest_in bitmap d key len)
unfolding shortest_in
shortest_is bitmap d key len f =
    let n : ℕ = min 4 (len - d) in
    same_lengths (λ l s. s ≤ l) (Between d (d + n)) (Held d len) bitmap key (λ m. asked_held d len m f) (λ m. held_asked d len m) (shortest_from bitmap key d n)
    (shortest_from_lem bitmap key d n)
