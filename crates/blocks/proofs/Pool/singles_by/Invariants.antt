-- `blocks::Pool::singles_by` meets its contract: what is left to ask gives the number of the whole. Assumes nothing.
use mathlib.Core.Path.{◌≡◌}
use Prim.Native.Nat.{◌-◌}
use Rattle.blocks.specs.Asks.{singles_found}
use Rattle.blocks.proofs.Pool.singles_by.Given as goal

abbrev pub invariant-loop : goal.invariant-loop
invariant-loop l =
    singles_found (l.n - l.counter) l.p l.top l.lim l.list l.first ≡ singles_found l.n l.initial.p l.top l.lim l.list l.spare
