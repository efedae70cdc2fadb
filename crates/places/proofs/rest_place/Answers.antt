-- `places::rest_place` meets its contract. Assumes nothing.
use mathlib.Core.Path.{ap, ◌∙◌}
use Prim.Native.Nat.{ℕ, ◌/◌, ◌^◌}
use Rattle.places.proofs.Rest.{rest_place}
use Rattle.places.proofs.rest_place.Goals as goal

pub returns : goal.returns
returns c = ap (λ (x : ℕ). x / 2 ^ 28) c.requires.1 ∙ rest_place c.args.key c.args.depth c.requires.0
