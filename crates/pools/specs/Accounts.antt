-- A pool as the ledger sees it: its kind, its account, and the number of what the ledger can or can't supply. Assumes nothing.
-- A notion of the proofs: no promise cites it.
use Rattle.std.specs.Prelude.{Bool, cond, List, ℕ}
use Rattle.tiers.specs.Tiers.{spacings}
use Rattle.blocks.specs.declared.Pool.{Pool}
use Rattle.blocks.specs.Blocks.{free_of}
use Rattle.rules.specs.Rules.{is_some}
use Rattle.rules.specs.Account.{Kind, Account, Move, steps}

-- the pool's kind
abbrev pub kind_of : ℕ → Pool → Kind
kind_of top p = record { spacings = spacings top; size = p.size }

-- its mark and free counts
abbrev pub account_of : Pool → Account
account_of p = record { mark = p.mark; free = free_of p }

-- the ledger can supply every block that the moves take
abbrev pub supplied : Kind → List Move → Account → Bool
supplied K ms a = is_some (steps K ms a)

-- the number of an edit's blocks: 0, or 4 where the ledger can't supply them
abbrev pub number_of : Kind → List Move → Account → ℕ
number_of K ms a = cond (supplied K ms a) 0 4
