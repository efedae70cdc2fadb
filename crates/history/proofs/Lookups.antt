-- A lookup on a booked map tells what the live rules say: number, masked key, length, value and node count. Assumes nothing.
use mathlib.Core.Path.{◌≡◌, refl, ap, ◌∙◌}
use mathlib.Core.Bool.{cond}
use mathlib.Core.Option.{some}
use Prim.Native.Nat.{ℕ, ◌≤◌}
use native.Mathlib.Omega.{arith}
use lib.Dec.{eqb}
use Rattle.prefix.specs.Prefix.{masked}
use Rattle.store.specs.declared.Cell.{Cell}
use Rattle.std.specs.Prelude.{Result}
use Rattle.refusals.specs.declared.Refusal.{Refusal}
use Rattle.walk.specs.declared.Sight.{Sight}
use Rattle.walk.specs.Lookups.{exact_sight, longest_sight, shortest_sight}
use Rattle.map.specs.declared.State.{State}
use Rattle.map.specs.Memory.{Memory, refusal}
use Rattle.map.specs.Lookups.{answer_of, told_of, lookup_of, exact_of, longest_of, shortest_of}
use Rattle.rules.specs.Rules.{value_at, IsPrefix, nothing, found}
use Rattle.rules.specs.Rules as rules
use Rattle.rules.specs.Nodes.{node_count, shortest_count}
use Rattle.rules.specs.Ledger.{Ledger}
use Rattle.image.proofs.Answers.{found_is, shortest_found_is, exact_found_is}
use Rattle.image.proofs.Cells.{cell_there}
use Rattle.image.proofs.Sights.{Sighted}
use Rattle.image.proofs.Lookups.{longest_sight_lem, shortest_sight_lem, exact_sight_lem}
use Rattle.history.specs.Calls.{told}
use Rattle.history.proofs.Booked.{Booked, look_first}

module _ {N D : ℕ} {g : Ledger Cell} {s : State} {m : Memory} (b : Booked N D g s m) (key len : ℕ) (prefix : IsPrefix key len) where
  -- an answer of rules that a lookup may see: masked, not longer than the query, live
  abbrev Fair : rules.Answer Cell → Type 0
  Fair a = (k l : ℕ) (v : Cell) → a ≡ found k l v → (k ≡ masked key l) × (l ≤ len) × (value_at g.rules key l ≡ some v)

  -- what is seen is told
  seen : (a : rules.Answer Cell) (n : ℕ) (sight : Result Sight Refusal) → Sighted b.E b.R b.es b.vs key a n sight → Fair a
      → answer_of sight m.cells s.cells.mark key ≡ told a n
  unfolding answer_of told_of
  seen nothing n sight e f = rw e refl
  seen (found k l v) n sight e f =
      let w = f k l v refl in
      let c = cell_there b.image b.proper b.tree key l v (record { bits = prefix.bits; short = omega (arith, prefix.short, w.1) }) w.2 in
      rw (e, c.0, c.1, w.0) refl

  tells : (a : rules.Answer Cell) (n : ℕ) (sight : Result Sight Refusal) → Sighted b.E b.R b.es b.vs key a n sight → Fair a
      → lookup_of s m.nodes m.cells key len sight ≡ told a n
  tells a n sight e f =
      ap (λ (x : ℕ). cond (eqb x 0) (answer_of sight m.cells s.cells.mark key) (refusal x)) (look_first b len prefix.short) ∙ seen a n sight e f

  -- EXACT
  pub exact_told : exact_of s m.nodes m.cells key len ≡ told (rules.exact g.rules key len) (node_count g.rules key len)
  unfolding exact_of
  exact_told = tells (rules.exact g.rules key len) (node_count g.rules key len) (exact_sight m.nodes s.nodes.mark key len)
      (exact_sight_lem b.image b.proper b.tree key len prefix) (exact_found_is g.rules key len)

  -- LONGEST
  pub longest_told : longest_of s m.nodes m.cells key len ≡ told (rules.longest g.rules key len) (node_count g.rules key len)
  unfolding longest_of
  longest_told = tells (rules.longest g.rules key len) (node_count g.rules key len) (longest_sight m.nodes s.nodes.mark key len)
      (longest_sight_lem b.image b.proper b.tree key len prefix) (found_is g.rules key len)

  -- SHORTEST
  pub shortest_told : shortest_of s m.nodes m.cells key len ≡ told (rules.shortest g.rules key len) (shortest_count g.rules key len)
  unfolding shortest_of
  shortest_told = tells (rules.shortest g.rules key len) (shortest_count g.rules key len) (shortest_sight m.nodes s.nodes.mark key len)
      (shortest_sight_lem b.image b.proper b.tree key len prefix) (shortest_found_is g.rules key len)
