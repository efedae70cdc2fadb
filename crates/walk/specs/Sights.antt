-- What a sight of a query says: its count of nodes; of a rule, its data bit, its length, and a bitmap that a node may have. Assumes nothing.
use Rattle.std.specs.Prelude.{◌≡◌, true, Option, Some, None, Result, Ok, Err, ℕ, ◌^◌, ◌≤◌, ◌<◌}
use Rattle.bits.specs.Bits.{has}
use Rattle.places.specs.Places.{data_bit}
use Rattle.refusals.specs.declared.Refusal.{Refusal}
use Rattle.refusals.specs.declared.Refusal.TheVariants.{Broken}
use Rattle.walk.specs.declared.Rule.{Rule}
use Rattle.walk.specs.declared.Sight.{Sight}
use Rattle.walk.specs.Lookups.{visited}

-- a rule of the query's key that a node holds, no longer than the query
pub record Told (key len : ℕ) (rule : Rule) : Type 0 where
  pub set : has rule.bitmap rule.bit ≡ true
  pub small : rule.bitmap < 2 ^ 31
  pub there : rule.bit ≡ data_bit key rule.len
  pub upto : rule.len ≤ len

-- the same of a rule that may be none
abbrev pub ToldIf : ℕ → ℕ → Option Rule → Type 0
ToldIf key len None = Unit {0}
ToldIf key len (Some rule) = Told key len rule

-- what a sight of a query says; a walk is refused by broken memory alone
abbrev pub Seen : ℕ → ℕ → Result Sight Refusal → Type 0
Seen key len (Err r) = r ≡ Broken
Seen key len (Ok sight) = (sight.visits ≤ visited len) × ToldIf key len sight.rule
