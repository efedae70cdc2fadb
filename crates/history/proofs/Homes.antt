-- The node where a rule lives, on a booked map: it has as many rules as the ledger says, and what the ledger says of the data pool
-- with that count holds of the map's. Assumes nothing.
use mathlib.Core.Path.{◌≡◌}
use Prim.Native.Nat.{ℕ, ◌/◌}
use native.Mathlib.Omega.{arith}
use Rattle.prefix.specs.Prefix.{first}
use Rattle.tiers.specs.Tiers.{stride, data_top}
use Rattle.store.specs.declared.Cell.{Cell}
use Rattle.map.specs.declared.State.{State}
use Rattle.map.specs.Memory.{Memory}
use Rattle.rules.specs.Rules.{IsPrefix}
use Rattle.rules.specs.Nodes.{depth}
use Rattle.rules.specs.Account.{Kind, cell_pool, Account}
use Rattle.rules.specs.Ledger.{Ledger, data_on}
use Rattle.pools.specs.Items.{items}
use Rattle.pools.specs.Accounts.{kind_of, account_of}
use Rattle.image.specs.Numbers.{path_no}
use Rattle.image.proofs.Paths.{path_low}
use Rattle.image.proofs.Data.{data_are}
use Rattle.history.proofs.Booked.{Booked, cell_kind}
use Rattle.history.proofs.Settling.{alike}

module _ {N D : ℕ} {g : Ledger Cell} {s : State} {m : Memory} (b : Booked N D g s m) (key len : ℕ) (prefix : IsPrefix key len) where
  -- the node has as many rules as the ledger says
  pub rules_there : items b.R (path_no key (len / stride)) ≡ data_on g.rules key len
  rules_there =
      data_are b.proper b.tree (len / stride) (first (depth (len / stride)) key) (omega (arith, prefix.short))
      (path_low key (len / stride) prefix.bits (omega (arith, prefix.short)))

  -- what holds of the ledger's data pool with that count holds of the map's
  pub of_cells : (P : Kind → ℕ → Account → Type 0) → P (cell_pool D) (data_on g.rules key len) g.cells
      → P (kind_of data_top s.cells) (items b.R (path_no key (len / stride))) (account_of s.cells)
  of_cells P p = alike P (cell_kind b) rules_there b.cell_account p
