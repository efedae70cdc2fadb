-- `places::rest_below` meets its contract. Assumes nothing.
use mathlib.Core.Path.{ap, ◌∙◌}
use Prim.Native.Nat.{ℕ, ◌*◌, ◌%◌, ◌^◌}
use Rattle.prefix.specs.Prefix.{width}
use Rattle.tiers.specs.Tiers.{stride}
use Rattle.places.proofs.Rest.{rest_below}
use Rattle.places.proofs.rest_below.Goals as goal

pub returns : goal.returns
returns c = ap (λ (x : ℕ). x * 2 ^ stride % 2 ^ width) c.requires ∙ rest_below c.args.key c.args.depth
