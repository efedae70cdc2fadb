-- What the three lookups mean, by covering alone (RFC 4632; document 01, "What a rule is"). Assumes nothing.
use Rattle.std.specs.Prelude.{◌≡◌, ℕ, ◌≤◌}
use Rattle.std.proofs.Math.Option.{some}
use Rattle.prefix.specs.Prefix.{masked, Covers}
use Rattle.rules.specs.Rules.{Rules, value_at, Answer, nothing, found}

-- (p, l) is a live rule of value v, and covers the query (q, n)
pub record Covering {Value : Type 0} (rs : Rules Value) (q n p l : ℕ) (v : Value) : Type 0 where
  pub alive : value_at rs p l ≡ some v
  pub covers : Covers p l q n

-- the best of the live rules that cover the query, its key shown masked: its length is better than that of each of them, or the same
pub record Best (better : ℕ → ℕ → Type 0) {Value : Type 0} (rs : Rules Value) (q n p l : ℕ) (v : Value) : Type 0 where
  pub covering : Covering rs q n p l v
  pub shown : masked p l ≡ p
  pub best : (p' l' : ℕ) (v' : Value) → Covering rs q n p' l' v' → better l l'

-- the live rule that covers the query and is as long, its key shown masked
pub record Own {Value : Type 0} (rs : Rules Value) (q n p l : ℕ) (v : Value) : Type 0 where
  pub covering : Covering rs q n p l v
  pub shown : masked p l ≡ p
  pub own : l ≡ n

module _ {Value : Type 0} (rs : Rules Value) (q n : ℕ) where
  -- no live rule covers the query
  abbrev pub NoneCovers : Type 0
  NoneCovers = (p l : ℕ) (v : Value) → Covering rs q n p l v → ⊥

  -- the answer is the best live rule that covers; nothing says that none covers
  abbrev pub Chosen : (ℕ → ℕ → Type 0) → Answer Value → Type 0
  Chosen better nothing = NoneCovers
  Chosen better (found p l v) = Best better rs q n p l v

  -- the longest match: no live rule that covers is longer
  abbrev pub Longest : Answer Value → Type 0
  Longest = Chosen (λ mine other. other ≤ mine)

  -- the shortest match: no live rule that covers is shorter
  abbrev pub Shortest : Answer Value → Type 0
  Shortest = Chosen (λ mine other. mine ≤ other)

  -- the exact match: the answer is the live rule for the query's own prefix; nothing says that there is none
  abbrev pub Exact : Answer Value → Type 0
  Exact nothing = (p : ℕ) (v : Value) → Covering rs q n p n v → ⊥
  Exact (found p l v) = Own rs q n p l v
