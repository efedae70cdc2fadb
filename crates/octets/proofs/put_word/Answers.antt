-- `octets::put_word` meets its contract: the four bytes in the place of four are those written. Assumes nothing.
use mathlib.Core.Path.{◌≡◌}
use Prim.Native.Nat.{◌+◌, ◌-◌}
use native.Mathlib.Omega.{arith}
use Rattle.octets.proofs.Written.{written_part}
use Rattle.octets.specs.Octets.{bytes_of}
use Rattle.octets.proofs.put_word.Goals as goal

pub returns : goal.returns
returns c =
    let a = c.args in
    let e : a.at + 4 - a.at ≡ 4 = omega arith in
    simp (e, c.copy_from_slice.ensures.after, c.to_be_bytes.ensures) (written_part a.s.now a.at (bytes_of a.x) c.requires)
