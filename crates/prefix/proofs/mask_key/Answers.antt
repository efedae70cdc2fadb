-- `prefix::mask_key` meets its contract: length 0 keeps nothing, any other masks by all ones shifted. Assumes nothing.
use mathlib.Core.Path.{sym, ap, ◌∙◌}
use Rattle.prefix.specs.Prefix.{masked}
use Rattle.prefix.proofs.Masking.{masked_none, masked_by_and}
use Rattle.prefix.proofs.mask_key.Goals as goal

pub returns-then-len-eq0 : goal.returns-then-len-eq0
returns-then-len-eq0 c = sym (ap (masked c.args.key) c.if-len-eq0.true ∙ masked_none c.ranges.key.fits)

pub returns-else-len-eq0 : goal.returns-else-len-eq0
returns-else-len-eq0 c = masked_by_and c.args.key c.args.len c.ranges.key.fits c.requires
