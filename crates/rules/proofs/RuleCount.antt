-- The rule count: what an edit does to it, and that the data pool bounds it. Assumes nothing.
use mathlib.Core.Path.{◌≡◌, refl, sym, ap, ◌∙◌}
use mathlib.Core.Bool.{Bool, true, false}
use mathlib.Core.Option.{none, some, none-ne-some}
use mathlib.Core.List.{[], ◌∷◌}
use Prim.Native.Nat.{ℕ, zero, suc, ◌^◌, ◌≤◌}
use native.Mathlib.Omega.{arith}
use lib.ListN.{length}
use Rattle.tiers.proofs.Tiers.{data_smallest}
use Rattle.rules.specs.Rules.{Rules, put, del, same, value_at, without, edited, rule_count, Proper}
use Rattle.rules.specs.Nodes.{depths, depth, data_count}
use Rattle.rules.specs.Account.{cell_pool, block_of}
use Rattle.rules.specs.Ledger.{Ledger, Balanced}
use Rattle.rules.proofs.Sums.{sum_zero, sum_le}
use Rattle.rules.proofs.Live.{same_true, value_same, without_none}
use Rattle.rules.proofs.Adding.{adds_front}
use Rattle.rules.proofs.InUse.{over_all, data_in_use}
use Rattle.rules.proofs.Levels.{data_most}
use Rattle.rules.proofs.Balance.{cells_all}

module _ {Value : Type 0} where
  -- an insert of a new prefix: one more
  pub rules_more : (rs : Rules Value) (k l : ℕ) (v : Value) → value_at rs k l ≡ none → rule_count (edited (put k l v) rs) ≡ suc (rule_count rs)
  unfolding edited
  rules_more rs k l v e = rw (without_none rs k l e)

  -- a removal of a stored one: one less
  pub rules_less : (rs : Rules Value) → Proper rs → (k l : ℕ) (v : Value) → value_at rs k l ≡ some v
      → suc (rule_count (edited (del k l) rs)) ≡ rule_count rs
  unfolding edited without value_at
  rules_less [] p k l v e = absurd (none-ne-some v e)
  rules_less (r ∷ rs) p k l v e = go (same r.key r.len k l) refl (rules_less rs p.1 k l v)
    where
      go : (x : Bool) → same r.key r.len k l ≡ x → (value_at rs k l ≡ some v → suc (length (without k l rs)) ≡ length rs)
          → suc (length (without k l (r ∷ rs))) ≡ suc (length rs)
      go true s ih =
          rw (s, without, without_none rs k l (sym (value_same rs r.key r.len k l ((same_true r.key r.len k l).0 s)) ∙ p.0.once))
      go false s ih = rw (s, without) (ap suc (ih (rw (s, value_at) at e)))

  -- a replacement: as many
  pub rules_same : (rs : Rules Value) → Proper rs → (k l : ℕ) (v w : Value) → value_at rs k l ≡ some v
      → rule_count (edited (put k l w) rs) ≡ rule_count rs
  unfolding edited
  rules_same rs p k l v w e = rules_less rs p k l v e

  -- while a rule is stored, the count isn't 0
  pub rules_some : (rs : Rules Value) (k l : ℕ) (v : Value) → value_at rs k l ≡ some v → 1 ≤ rule_count rs
  unfolding value_at
  rules_some [] k l v e = absurd (none-ne-some v e)
  rules_some (r ∷ rs) k l v e = omega arith

  -- every rule lives in one node
  pub rules_over : (rs : Rules Value) → Proper rs → over_all (λ c. c) (data_count rs) ≡ rule_count rs
  rules_over [] p = unfold over_all data_count in sum_zero depths _ (λ j hj. sum_zero (2 ^ depth j) _ (λ b hb. refl))
  rules_over (r ∷ rs) p = omega (arith, rules_over rs p.1, data_in_use p.0.prefix p.1 (adds_front r rs) (λ c. c))

  -- so the count is at most the size of the data pool
  pub rules_fit : (N D : ℕ) (g : Ledger Value) → Proper g.rules → Balanced N D g → rule_count g.rules ≤ D
  rules_fit N D g p b = omega (arith, rules_over g.rules p, cells_all D g.rules, b.cells, b.cell_mark, blocks)
    where
      held : (c : ℕ) → c ≤ 31 → c ≤ block_of (cell_pool D) c
      held zero h = omega arith
      held (suc c) h = (data_smallest (suc c) h).holds

      blocks : over_all (λ c. c) (data_count g.rules) ≤ over_all (block_of (cell_pool D)) (data_count g.rules)
      blocks = unfold over_all in sum_le depths _ _ (λ j hj. sum_le (2 ^ depth j) _ _ (λ b hb. held (data_count g.rules (depth j) b) (data_most g.rules p j b)))
