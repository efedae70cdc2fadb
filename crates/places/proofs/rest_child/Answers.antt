-- `places::rest_child` meets its contract. Assumes nothing.
use mathlib.Core.Path.{ap, ◌∙◌}
use Prim.Native.Nat.{ℕ, ◌/◌, ◌^◌}
use Rattle.places.proofs.Rest.{rest_child}
use Rattle.places.proofs.rest_child.Goals as goal

pub returns : goal.returns
returns c = ap (λ (x : ℕ). x / 2 ^ 27) c.requires.1 ∙ rest_child c.args.key c.args.depth c.requires.0
