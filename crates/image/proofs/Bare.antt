-- Which nodes a removal empties: the lowest of its path, up to one that keeps a rule or a child. Assumes nothing.
use mathlib.Core.Path.{◌≡◌, refl, sym, ap, ◌∙◌}
use mathlib.Core.Logic.{inr, ⊎_elim}
use mathlib.Core.Bool.{Bool, true, false, ◌&&◌, not}
use mathlib.Core.Option.{some}
use Prim.Native.Nat.{ℕ, suc, ◌+◌, ◌-◌, ◌*◌, ◌/◌, ◌^◌, ◌≤◌, ◌<◌}
use native.Mathlib.Nat.{le_refl}
use native.Mathlib.Decide.{dec_le, ℕ_discrete}
use native.Mathlib.Omega.{arith}
use lib.Dec.{leb, ltb, eqb}
use borrow.Author.Tests.{ltb-true, lt-ltb, le-ltb, lt-leb, ne_eqb}
use Rattle.bits.specs.Bits.{one}
use Rattle.prefix.specs.Prefix.{first}
use Rattle.prefix.proofs.Covering.{fails}
use Rattle.tiers.specs.Tiers.{stride}
use Rattle.places.specs.Places.{child_bit}
use Rattle.places.proofs.Children.{child_lt, child_split}
use Rattle.rules.specs.Rules.{Rules, del, value_at, without, edited, IsPrefix, Proper}
use Rattle.rules.specs.Nodes.{depth, lives_at, node, data_count, child_count, node_count}
use Rattle.rules.specs.Ledger.{emptied}
use Rattle.rules.proofs.Tests.{agree}
use Rattle.rules.proofs.Sums.{sum_part}
use Rattle.rules.proofs.Live.{proper_edited}
use Rattle.rules.proofs.NodeSet.{Fixed, node_fixed}
use Rattle.rules.proofs.Paths.{count_root, path_node, count_path, count_live}
use Rattle.rules.proofs.Adding.{Adds, adds_del, lives_true, lives_is, childless, dataless, data_more, children_off, children_more}
use Rattle.rules.proofs.InUse.{depth_next}
use Rattle.pools.specs.Items.{items}
use Rattle.image.specs.Numbers.{path_no}
use Rattle.image.specs.Tree.{Tree}
use Rattle.image.proofs.Paths.{path_low}
use Rattle.image.proofs.Trees.{live_short, children_are}
use Rattle.image.proofs.Data.{data_are}

module _ {Value : Type 0} where
  -- below the root there is a node exactly where it has a rule or a child
  pub node_has : (rs : Rules Value) → Proper rs → (j b : ℕ) → 0 < j → j ≤ 6 → node rs (depth j) b ≡ ltb 0 (data_count rs (depth j) b + child_count rs (depth j) b)
  node_has rs p j b h0 h6 = agree (node rs (depth j) b) (ltb 0 (data_count rs (depth j) b + child_count rs (depth j) b)) has held
    where
      d : ℕ
      d = depth j

      -- the rule that fixes the node lives there, or has a node below
      fixed : (f : Fixed rs d b) → Dec (d + stride ≤ f.len) → 0 < data_count rs d b + child_count rs d b
      fixed f (no l) =
          let a = (adds_del rs p f.key f.len f.value f.alive).data' d b in
          let w = lives_is f.key f.len d b (omega (arith, f.long)) f.bits in
          omega (arith, rw w at a)
      fixed f (yes l) = unfold child_count in
          let c : ℕ = child_bit d f.key in
          let s : first (d + stride) f.key ≡ b * 2 ^ stride + c =
          child_split d f.key (omega (arith, live_short rs p f.key f.len f.value f.alive)) ∙ ap (λ (x : ℕ). x * 32 + c) f.bits in
          let n : node rs (d + stride) (b * 2 ^ stride + c) ≡ true =
          (node_fixed rs (d + stride) (b * 2 ^ stride + c)).1
          (inr (record { key = f.key; len = f.len; value = f.value; alive = f.alive; long = l; bits = s })) in
          omega (arith, sum_part 32 c (λ x. one (node rs (d + stride) (b * 2 ^ stride + x))) (child_lt d f.key), ap one n)

      has : node rs d b ≡ true → ltb 0 (data_count rs d b + child_count rs d b) ≡ true
      has e = lt-ltb 0 _ (⊎_elim (λ z. absurd (omega arith)) (λ f. fixed f (dec_le (d + stride) f.len)) ((node_fixed rs d b).0 e))

      held : ltb 0 (data_count rs d b + child_count rs d b) ≡ true → node rs d b ≡ true
      held e = go (node rs d b) refl
        where
          go : (x : Bool) → node rs d b ≡ x → node rs d b ≡ true
          go true n = n
          go false n = absurd (omega (arith, ltb-true 0 (data_count rs d b + child_count rs d b) e, childless rs p d b n, dataless rs d b n))

  module _ (rs : Rules Value) (key len : ℕ) (v : Value) (prefix : IsPrefix key len) (stored : value_at rs key len ≡ some v) where
    -- the nodes that a removal leaves on its path, and those that it empties, are all that the path had
    emptied_is : emptied rs key len + node_count (without key len rs) key len ≡ suc (len / stride)
    unfolding emptied
    emptied_is = omega (arith, count_live rs key len v prefix.short stored, count_path (without key len rs) key len prefix.short)

    -- a removal never empties the root
    pub emptied_le : emptied rs key len ≤ len / stride
    emptied_le = omega (arith, emptied_is, count_root (without key len rs) key len)

    -- as many of the lowest nodes as it empties are gone
    pub gone : (j : ℕ) → len / stride < j + emptied rs key len → j ≤ len / stride → node (without key len rs) (depth j) (first (depth j) key) ≡ false
    gone j h l = path_node (without key len rs) key len prefix.short j l ∙ le-ltb j (node_count (without key len rs) key len) (omega (arith, emptied_is))

    -- and the others are left
    pub left : (j : ℕ) → j + emptied rs key len ≤ len / stride → node (without key len rs) (depth j) (first (depth j) key) ≡ true
    left j h =
        path_node (without key len rs) key len prefix.short j (omega arith) ∙ lt-ltb j (node_count (without key len rs) key len) (omega (arith, emptied_is))

    -- so the count of emptied nodes tells for each node of the path whether it goes
    gone_is : (j : ℕ) → j ≤ len / stride → ltb (len / stride - j) (emptied rs key len) ≡ not (node (without key len rs) (depth j) (first (depth j) key))
    gone_is j l = go (dec_le (j + emptied rs key len) (len / stride))
      where
        go : Dec (j + emptied rs key len ≤ len / stride) → ltb (len / stride - j) (emptied rs key len) ≡ not (node (without key len rs) (depth j) (first (depth j) key))
        go (yes h) = rw (left j h, le-ltb (len / stride - j) (emptied rs key len) (omega arith))
        go (no h) = rw (gone j (omega arith) l, lt-ltb (len / stride - j) (emptied rs key len) (omega arith))

-- of one more than a and of b, at most one in all: the test that a removal makes of a node's two counts
at_most_one : (a b : ℕ) → (leb (suc a) 1 && eqb b 0) ≡ not (ltb 0 (a + b))
at_most_one a b = go (ℕ_discrete a 0) (ℕ_discrete b 0)
  where
    go : Dec (a ≡ 0) → Dec (b ≡ 0) → (leb (suc a) 1 && eqb b 0) ≡ not (ltb 0 (a + b))
    go (yes x) (yes y) = rw (x, y)
    go (yes x) (no y) = rw (x, ne_eqb b 0 y, lt-ltb 0 (0 + b) (omega arith))
    go (no x) y = rw (lt-leb (suc a) 1 (omega arith), lt-ltb 0 (a + b) (omega arith))

-- the removal of a stored rule, on a tree
module _ {Value : Type 0} {rs : Rules Value} {E D : ℕ → Bool} {val : ℕ → Value} (proper : Proper rs) (tree : Tree rs E D val)
    (key len : ℕ) (v : Value) (prefix : IsPrefix key len) (stored : value_at rs key len ≡ some v) where
  -- the rules left
  abbrev rest : Rules Value
  rest = without key len rs

  rest_proper : Proper rest
  rest_proper = unfold edited in proper_edited (del key len) rs prefix proper

  adds : Adds key len rest rs
  adds = unfold edited in adds_del rs proper key len v stored

  -- the tree's counts on the path are those of the live rules
  children_on_lem : (j : ℕ) → j ≤ len / stride → items E (path_no key j) ≡ child_count rs (depth j) (first (depth j) key)
  children_on_lem j h = let l : j ≤ 6 = omega (arith, prefix.short) in children_are proper tree j (first (depth j) key) l (path_low key j prefix.bits l)

  data_on_lem : (j : ℕ) → j ≤ len / stride → items D (path_no key j) ≡ data_count rs (depth j) (first (depth j) key)
  data_on_lem j h = let l : j ≤ 6 = omega (arith, prefix.short) in data_are proper tree j (first (depth j) key) l (path_low key j prefix.bits l)

  -- a node goes where the rules left give it neither rule nor child
  bare : (j : ℕ) → 0 < j → j ≤ len / stride
      → ltb (len / stride - j) (emptied rs key len) ≡ not (ltb 0 (data_count rest (depth j) (first (depth j) key) + child_count rest (depth j) (first (depth j) key)))
  bare j h l = gone_is rs key len v prefix stored j l ∙ ap not (node_has rest rest_proper j (first (depth j) key) h (omega (arith, prefix.short)))

  -- above the end of the path, where the child on it goes: one child less
  child_less : (j : ℕ) → j < len / stride → len / stride < suc j + emptied rs key len
      → items E (path_no key j) ≡ suc (child_count rest (depth j) (first (depth j) key))
  child_less j h g =
      children_on_lem j (omega arith)
      ∙ children_more prefix adds (depth j) (omega arith)
      (ap (λ (d : ℕ). node rest d (first d key)) (sym (depth_next j)) ∙ gone rs key len v prefix stored (suc j) g (omega arith))

  -- and the rules stay
  data_kept : (j : ℕ) → j < len / stride → items D (path_no key j) ≡ data_count rest (depth j) (first (depth j) key)
  data_kept j h =
      let n : lives_at key len (depth j) (first (depth j) key) ≡ false =
      fails (lives_at key len (depth j) (first (depth j) key)) (λ e. omega (arith, (lives_true key len (depth j) (first (depth j) key) e).0)) in
      let a = adds.data' (depth j) (first (depth j) key) in
      data_on_lem j (omega arith) ∙ omega (arith, rw n at a)

  -- the node where the rule lives goes exactly where it holds no other rule and no child
  pub last_rule_lem : 0 < len / stride
      → (leb (items D (path_no key (len / stride))) 1 && eqb (items E (path_no key (len / stride))) 0) ≡ ltb 0 (emptied rs key len)
  last_rule_lem h =
      let e : ℕ = len / stride in
      let d : items D (path_no key e) ≡ suc (data_count rest (depth e) (first (depth e) key)) = data_on_lem e (le_refl e) ∙ data_more prefix adds in
      let c : items E (path_no key e) ≡ child_count rest (depth e) (first (depth e) key) =
      children_on_lem e (le_refl e) ∙ children_off prefix adds (depth e) (first (depth e) key) (λ l z. omega arith) in
      let z : e - e ≡ 0 = omega arith in
      rw (d, c) (at_most_one (data_count rest (depth e) (first (depth e) key)) (child_count rest (depth e) (first (depth e) key))
      ∙ sym (bare e h (le_refl e)) ∙ ap (λ (x : ℕ). ltb x (emptied rs key len)) z)

  -- a node above one that goes itself goes exactly where it has no other child and no rule
  pub last_child_lem : (j : ℕ) → 0 < j → j < len / stride → len / stride < suc j + emptied rs key len
      → (leb (items E (path_no key j)) 1 && eqb (items D (path_no key j)) 0) ≡ ltb (len / stride - j) (emptied rs key len)
  last_child_lem j h l g =
      let a : ℕ = data_count rest (depth j) (first (depth j) key) in
      let b : ℕ = child_count rest (depth j) (first (depth j) key) in
      let z : b + a ≡ a + b = omega arith in
      rw (child_less j l g, data_kept j l) (at_most_one b a ∙ ap (λ (x : ℕ). not (ltb 0 x)) z ∙ sym (bare j h (omega arith)))

  -- and where it goes it has that one child
  pub only_child : (j : ℕ) → 0 < j → j < len / stride → len / stride < j + emptied rs key len → items E (path_no key j) ≡ 1
  only_child j h l g =
      child_less j l (omega arith)
      ∙ ap suc (childless rest rest_proper (depth j) (first (depth j) key) (gone rs key len v prefix stored j g (omega arith)))
