-- The ledger sees only the bits that count: an edit of a masked key is the edit of the key. Assumes nothing.
use mathlib.Core.Path.{◌≡◌, ap}
use Prim.Native.Nat.{ℕ, suc, ◌-◌, ◌/◌, ◌≤◌}
use native.Mathlib.Omega.{arith}
use Rattle.prefix.specs.Prefix.{width, first, masked}
use Rattle.prefix.proofs.Masking.{masked_first, masked_lt}
use Rattle.tiers.specs.Tiers.{stride}
use Rattle.rules.specs.Rules.{Rules, put, del, value_at, is_some, is_live, without, edited, IsPrefix}
use Rattle.rules.specs.Nodes.{depth, home, node_count}
use Rattle.rules.specs.Ledger.{Ledger, missing, emptied, lowest, children_on, data_on, node_moves, cell_moves, insert_room, remove_room, entered}
use Rattle.rules.proofs.Live.{value_first, put_masked, del_masked}
use Rattle.rules.proofs.Paths.{count_bits, count_root, count_path}

-- a masked key of a prefix is one too
pub masked_prefix : (key len : ℕ) → IsPrefix key len → IsPrefix (masked key len) len
masked_prefix key len p = record { bits = masked_lt len p.bits; short = p.short }

module _ (key len : ℕ) (short : len ≤ width) where
  abbrev k : ℕ
  k = masked key len

  -- the same bits
  bits : (d : ℕ) → d ≤ len → first d k ≡ first d key
  bits d h = masked_first key len d h

  module _ {Value : Type 0} where
    -- the same rule
    pub value_masked : (rs : Rules Value) → value_at rs k len ≡ value_at rs key len
    value_masked rs = value_first rs k key len (bits len (omega arith))

    live_masked : (rs : Rules Value) → is_live rs k len ≡ is_live rs key len
    live_masked rs = ap is_some (value_masked rs)

    without_masked : (rs : Rules Value) → without k len rs ≡ without key len rs
    without_masked rs = unfold edited in (del_masked rs key len)

    -- the same nodes on the path
    pub count_masked : (rs : Rules Value) → node_count rs k len ≡ node_count rs key len
    count_masked rs = count_bits rs k key len (bits len (omega arith))

    missing_masked : (rs : Rules Value) → missing rs k len ≡ missing rs key len
    unfolding missing
    missing_masked rs = ap (λ (n : ℕ). suc (len / stride) - n) (count_masked rs)

    emptied_masked : (rs : Rules Value) → emptied rs k len ≡ emptied rs key len
    unfolding emptied
    emptied_masked rs = rw (without_masked rs, count_masked rs, count_masked (without key len rs))

    lowest_masked : (rs : Rules Value) → lowest rs k len ≡ lowest rs key len
    unfolding lowest
    lowest_masked rs = ap (λ (n : ℕ). depth (n - 1)) (count_masked rs)

    -- the same counts
    children_masked : (rs : Rules Value) (d : ℕ) → d ≤ len → children_on rs k d ≡ children_on rs key d
    children_masked rs d h = rw (bits d h)

    lowest_le : (rs : Rules Value) → lowest rs key len ≤ len
    unfolding lowest
    lowest_le rs = omega (arith, count_path rs key len short, count_root rs key len)

    data_masked : (rs : Rules Value) → data_on rs k len ≡ data_on rs key len
    data_masked rs = rw (bits (home len) (omega arith))

    module _ (N D : ℕ) (g : Ledger Value) where
      -- an insert takes the same blocks
      put_nodes : (v : Value) → node_moves N g.rules (put k len v) ≡ node_moves N g.rules (put key len v)
      unfolding node_moves
      put_nodes v = rw (missing_masked g.rules, lowest_masked g.rules, children_masked g.rules (lowest g.rules key len) (lowest_le g.rules))

      put_cells : (v : Value) → cell_moves D g.rules (put k len v) ≡ cell_moves D g.rules (put key len v)
      unfolding cell_moves
      put_cells v = rw (live_masked g.rules, data_masked g.rules)

      -- and is entered alike
      pub put_entered : (v : Value) → entered N D (put k len v) g ≡ entered N D (put key len v) g
      unfolding entered
      put_entered v = rw (put_masked g.rules key len v, put_nodes v, put_cells v)

      -- there is the same room for it
      pub insert_masked : insert_room N D g k len ≡ insert_room N D g key len
      unfolding insert_room
      insert_masked =
          rw (
            missing_masked g.rules,
            lowest_masked g.rules,
            children_masked g.rules (lowest g.rules key len) (lowest_le g.rules),
            live_masked g.rules,
            data_masked g.rules,
          )

      -- a removal takes the same blocks
      del_nodes : node_moves N g.rules (del k len) ≡ node_moves N g.rules (del key len)
      unfolding node_moves
      del_nodes =
          rw (
            emptied_masked g.rules,
            without_masked g.rules,
            lowest_masked (without key len g.rules),
            children_masked g.rules (lowest (without key len g.rules) key len) (lowest_le (without key len g.rules)),
          )

      del_cells : cell_moves D g.rules (del k len) ≡ cell_moves D g.rules (del key len)
      unfolding cell_moves
      del_cells = rw (live_masked g.rules, data_masked g.rules)

      -- and is entered alike
      pub del_entered : entered N D (del k len) g ≡ entered N D (del key len) g
      unfolding entered
      del_entered = rw (del_masked g.rules key len, del_nodes, del_cells)

      -- there is the same room for it
      pub remove_masked : remove_room N D g k len ≡ remove_room N D g key len
      unfolding remove_room
      remove_masked =
          rw (
            emptied_masked g.rules,
            without_masked g.rules,
            lowest_masked (without key len g.rules),
            children_masked g.rules (lowest (without key len g.rules) key len) (lowest_le (without key len g.rules)),
            live_masked g.rules,
            data_masked g.rules,
          )
