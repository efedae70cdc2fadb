-- `places::data_bit` meets its contract: the level's offset and the first bits of the window, inside the key and past its end. Assumes nothing.
use mathlib.Core.Path.{◌∙◌}
use Prim.Native.Nat.{ℕ, ◌+◌, ◌-◌, ◌*◌, ◌/◌}
use native.Mathlib.Omega.{arith}
use lib.Pow.{pow_pos}
use Rattle.bits.proofs.OneBit.{one_shl}
use Rattle.places.proofs.Windows.{in_key, past_key, placed}
use Rattle.places.proofs.Prefixes.{data_lt}
use Rattle.places.proofs.data_bit.Goals as goal
use Rattle.places.proofs.data_bit.Goals.{then-depth-le32, else-depth-le32}

pub overflow_sub-offset : goal.overflow_sub-offset
overflow_sub-offset c =
    let l : ℕ = c.args.len - c.args.len / 5 * 5 in
    let p = pow_pos l in
    let q = one_shl {b = l} 32 (omega arith) in
    omega arith

pub returns : goal.returns
returns c =
    let key : ℕ = c.args.key in
    let len : ℕ = c.args.len in
    let l : ℕ = len - len / 5 * 5 in
    elim c.if-depth-le32.branch [
      | then-depth-le32 w ↦ w.number-is ∙ placed key len _ l (omega arith) (in_key key len (len / 5 * 5) l (omega arith) (omega arith) (omega arith))
      | else-depth-le32 w ↦ w.number-is ∙ placed key len _ l (omega arith) (past_key key len (len / 5 * 5 + 5 - 32) l (omega arith) (omega arith) (omega arith))
    ]

pub invariant_of-result : goal.invariant_of-result
invariant_of-result c = omega (arith, data_lt c.args.key c.args.len, returns c)
