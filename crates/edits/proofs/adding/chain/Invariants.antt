-- `edits::adding::chain` meets its contract. The loop's invariant: what is left of the chain gives the whole chain's result. Assumes nothing.
use mathlib.Core.Path.{◌≡◌}
use Prim.Native.Nat.{◌+◌, ◌-◌, ◌*◌, ◌^◌, ◌<◌}
use Rattle.tiers.specs.Tiers.{stride}
use Rattle.edits.specs.Adding.{chain_of}
use Rattle.edits.proofs.adding.chain.Given as goal

abbrev pub invariant-loop-i : goal.invariant-loop-i
invariant-loop-i l =
    let s = l.initial in
    (l.low < 2 ^ 41)
    × (chain_of (l.n - l.i) l.q l.nodes l.list l.low (l.depth + l.i * stride) l.key ≡ chain_of l.n s.q s.nodes s.list l.at l.depth l.key)
