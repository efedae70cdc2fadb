-- The account of one pool: blocks taken and returned, one after the other (document 01, "The block ledger"). Assumes nothing.
use Rattle.std.specs.Prelude.{Bool, true, ◌||◌, cond, List, [], ◌∷◌, ℕ, zero, suc, ◌+◌, ◌-◌, ◌*◌, leb, ltb, eqb, length}
use Rattle.std.proofs.Math.Option.{Option, none, some}
use Rattle.tiers.specs.Tiers.{child_spacings, data_spacings, spacing_of, tier_of}
use Rattle.rules.specs.Sums.{sum}

-- the kind of a pool: its spacings, tier by tier, and its size
pub record Kind : Type 0 where
  pub spacings : List ℕ
  pub size : ℕ

-- a pool of N nodes, in blocks of children
abbrev pub node_pool : ℕ → Kind
node_pool N = record { spacings = child_spacings; size = N }

-- a pool of D cells, in blocks of data
abbrev pub cell_pool : ℕ → Kind
cell_pool D = record { spacings = data_spacings; size = D }

-- the tier that a count has
abbrev pub tier : Kind → ℕ → ℕ
tier K c = tier_of K.spacings c

-- the cells of a block of tier t
abbrev pub spacing : Kind → ℕ → ℕ
spacing K t = spacing_of K.spacings t

-- the account: the issued mark, and how many free blocks each tier has
pub record Account : Type 0 where
  pub mark : ℕ
  pub free : ℕ → ℕ

-- free counts with that of tier t set to n
abbrev pub set_tier : (ℕ → ℕ) → ℕ → ℕ → ℕ → ℕ
set_tier free t n u = cond (eqb t u) n (free u)

-- what a block of tier t asks of the unused end: nothing where one is free, else its cells
abbrev pub ask : Kind → ℕ → Account → ℕ
ask K t a = cond (eqb (a.free t) 0) (spacing K t) 0

-- a block of tier t is taken: a free one before unused room
unfoldable pub taking : Kind → ℕ → Account → Account
taking K t a = record { mark = a.mark + ask K t a; free = set_tier a.free t (a.free t - 1) }

-- a block of tier t is returned
unfoldable pub giving : ℕ → Account → Account
giving t a = record { mark = a.mark; free = set_tier a.free t (a.free t + 1) }

-- a block of a tier is taken, or returned; or contents go down from a block of tier t to one of tier u: the new block is taken before the old is returned
pub data Move : Type 0 where
  takes : ℕ → Move
  gives : ℕ → Move
  lowers : ℕ → ℕ → Move

-- the account after a move, whatever the size
unfoldable pub moved : Kind → Move → Account → Account
moved K (takes t) a = taking K t a
moved K (gives t) a = giving t a
moved K (lowers t u) a = giving t (taking K u a)

-- the account after a row of moves
unfoldable pub run : Kind → List Move → Account → Account
run K [] a = a
run K (m ∷ ms) a = run K ms (moved K m a)

-- a block of tier t can be supplied: one is free, or the unused end holds it
unfoldable pub supplies : Kind → ℕ → Account → Bool
supplies K t a = ltb 0 (a.free t) || leb (a.mark + spacing K t) K.size

-- the block that a move takes, if it takes one, can be supplied
unfoldable pub allows : Kind → Move → Account → Bool
allows K (takes t) a = supplies K t a
allows K (gives t) a = true
allows K (lowers t u) a = supplies K u a

-- the moves one after the other, refused at the first block that is neither free nor at the end
unfoldable pub steps : Kind → List Move → Account → Option Account
steps K [] a = some a
steps K (m ∷ ms) a = cond (allows K m a) (steps K ms (moved K m a)) none

-- the unused end holds n cells
abbrev pub holds : Kind → ℕ → Account → Bool
holds K n a = leb (a.mark + n) K.size

-- the cells of a block for c contents: none for 0
abbrev pub block_of : Kind → ℕ → ℕ
block_of K zero = 0
block_of K (suc c) = spacing K (tier K (suc c))

-- the cells of all free blocks
unfoldable pub free_cells : Kind → Account → ℕ
free_cells K a = sum (length K.spacings) (λ t. a.free t * spacing K t)

-- the cells never issued
abbrev pub unissued : Kind → Account → ℕ
unissued K a = K.size - a.mark
