-- From a balanced ledger no section of a free list is ever too short, and no return finds its section full. Assumes nothing.
use mathlib.Core.Path.{◌≡◌, refl, ap, ◌∙◌}
use mathlib.Core.Bool.{Bool, true, false, cond}
use mathlib.Core.Option.{some}
use mathlib.Core.List.{List, [], ◌∷◌, ◌++◌}
use Prim.Native.Nat.{ℕ, zero, suc, ◌+◌, ◌-◌, ◌*◌, ◌/◌, ◌≤◌, ◌<◌}
use native.Mathlib.Nat.{suc-mul, mul-one}
use native.Mathlib.Omega.{arith}
use lib.Dec.{ltb}
use lib.ListN.{length}
use Rattle.tiers.specs.Tiers.{stride, section_length}
use Rattle.tiers.proofs.Sections.{section_holds}
use Rattle.rules.specs.Rules.{Rules, put, del, value_at, is_live, without, edited, IsPrefix, Proper}
use Rattle.rules.specs.Nodes.{depth, data_count, child_count, node_count}
use Rattle.rules.specs.Account.{Kind, node_pool, cell_pool, tier, spacing, Account, taking, giving, Move, takes, gives, lowers, moved, block_of, free_cells}
use Rattle.rules.specs.Ledger.{rise, fall, times, nodes_come, nodes_go, Ledger, missing, lowest, children_on, data_on, node_moves, cell_moves, Balanced}
use Rattle.rules.proofs.Sums.{sum_part}
use Rattle.rules.proofs.Live.{proper_edited}
use Rattle.rules.proofs.Supply.{Tiered, node_tiered, cell_tiered}
use Rattle.rules.proofs.Paths.{count_root, count_seven}
use Rattle.rules.proofs.Adding.{Adds, adds_del}
use Rattle.rules.proofs.InUse.{over_all, over_part, lowest_more, nodes_in_use_more}
use Rattle.rules.proofs.Costs.{a_tier, taking_cost, giving_cost, giving_mark}
use Rattle.rules.proofs.Balance.{nodes_all, cells_all, emptied_missing}

-- there is a place in the section of tier t, if the mark is within the pool
abbrev pub Place : Kind → ℕ → Account → Type 0
Place K t a = a.mark ≤ K.size → a.free t < section_length K.spacings K.size t

-- each block that comes back in a row of moves finds a place in its section
abbrev pub Fits : Kind → List Move → Account → Type 0
Fits K [] a = Unit {0}
Fits K (takes t ∷ ms) a = Fits K ms (moved K (takes t) a)
Fits K (gives t ∷ ms) a = Place K t a × Fits K ms (moved K (gives t) a)
Fits K (lowers t u ∷ ms) a = Place K t (taking K u a) × Fits K ms (moved K (lowers t u) a)

module _ (K : Kind) (tiered : Tiered K) where
  -- a section holds its tier's free blocks
  pub section_free : (t : ℕ) (a : Account) → t < length K.spacings → free_cells K a ≤ a.mark → a.mark ≤ K.size
      → a.free t ≤ section_length K.spacings K.size t
  unfolding free_cells
  section_free t a h f m =
      section_holds K.spacings tiered.rises K.size t (a.free t) (omega (arith, sum_part (length K.spacings) t (λ u. a.free u * spacing K u) h))

  -- and one more, while a block of that tier is in use
  place : (t : ℕ) (a : Account) → t < length K.spacings → free_cells K a + spacing K t ≤ a.mark → Place K t a
  unfolding free_cells
  place t a h f m =
      section_holds K.spacings tiered.rises K.size t (suc (a.free t))
      (omega (arith, sum_part (length K.spacings) t (λ u. a.free u * spacing K u) h, suc-mul (a.free t) (spacing K t)))

  -- also after another block was taken
  place_after : (t u : ℕ) (a : Account) → t < length K.spacings → u < length K.spacings → free_cells K a + spacing K t ≤ a.mark
      → Place K t (taking K u a)
  place_after t u a h l f = place t (taking K u a) h (omega (arith, taking_cost K u a l))

  -- while the block of the count is in use: a count rises
  pub rise_fits : (c : ℕ) (a : Account) → free_cells K a + block_of K c ≤ a.mark → Fits K (rise K c) a
  unfolding rise moved
  rise_fits zero a h = tt
  rise_fits (suc c) a h = go (ltb (tier K (suc c)) (tier K (suc (suc c))))
    where
      go : (x : Bool) → Fits K (cond x (takes (tier K (suc (suc c))) ∷ gives (tier K (suc c)) ∷ []) []) a
      go true = (place_after (tier K (suc c)) (tier K (suc (suc c))) a (a_tier K tiered (suc c)) (a_tier K tiered (suc (suc c))) h, tt)
      go false = tt

  -- a count falls
  pub fall_fits : (c : ℕ) (a : Account) → free_cells K a + block_of K c ≤ a.mark → Fits K (fall K c) a
  unfolding fall moved
  fall_fits zero a h = tt
  fall_fits (suc zero) a h = (place (tier K 1) a (a_tier K tiered 1) h, tt)
  fall_fits (suc (suc c)) a h = go (ltb (tier K (suc c)) (tier K (suc (suc c))))
    where
      go : (x : Bool) → Fits K (cond x (lowers (tier K (suc (suc c))) (tier K (suc c)) ∷ []) []) a
      go true = (place_after (tier K (suc (suc c))) (tier K (suc c)) a (a_tier K tiered (suc (suc c))) (a_tier K tiered (suc c)) h, tt)
      go false = tt

  -- a row and singles taken after it
  then_singles : (ms : List Move) (n : ℕ) (a : Account) → Fits K ms a → Fits K (ms ++ times n (takes 0)) a
  then_singles [] n a f = singles n a
    where
      singles : (n : ℕ) (a : Account) → Fits K (times n (takes 0)) a
      singles = elim [ zero ↦ λ a. tt | suc (m → ih) ↦ λ a. ih (moved K (takes 0) a) ]
  then_singles (takes t ∷ ms) n a f = then_singles ms n (moved K (takes t) a) f
  then_singles (gives t ∷ ms) n a f = (f.0, then_singles ms n (moved K (gives t) a) f.1)
  then_singles (lowers t u ∷ ms) n a f = (f.0, then_singles ms n (moved K (lowers t u) a) f.1)

  -- missing nodes come
  pub come_fits : (k c : ℕ) (a : Account) → free_cells K a + block_of K c ≤ a.mark → Fits K (nodes_come K k c) a
  unfolding nodes_come
  come_fits zero c a h = tt
  come_fits (suc k) c a h = then_singles (rise K c) k a (rise_fits c a h)

  -- emptied nodes go, their blocks in use too
  pub go_fits : (k c : ℕ) (a : Account) → free_cells K a + block_of K c + k ≤ a.mark → Fits K (nodes_go K (suc k) c) a
  unfolding nodes_go moved
  go_fits zero c a h = fall_fits c a (omega arith)
  go_fits (suc k) c a h = (
    place 0 a tiered.some (omega (arith, tiered.single)),
    go_fits k c (giving 0 a) (omega (arith, giving_cost K 0 a tiered.some, giving_mark K 0 a, tiered.single)),
  )

module _ {Value : Type 0} (N D : ℕ) (g : Ledger Value) (p : Proper g.rules) (b : Balanced N D g) where
  -- at all times, each free count is at most its section
  pub node_sections : (t : ℕ) → t < 7 → g.nodes.free t ≤ section_length (node_pool N).spacings N t
  node_sections t h = section_free (node_pool N) (node_tiered N) t g.nodes h (omega (arith, b.nodes, b.node_mark)) b.node_mark

  -- in the data pool too
  pub cell_sections : (t : ℕ) → t < 7 → g.cells.free t ≤ section_length (cell_pool D).spacings D t
  cell_sections t h = section_free (cell_pool D) (cell_tiered D) t g.cells h (omega (arith, b.cells, b.cell_mark)) b.cell_mark

  module _ (k l : ℕ) (prefix : IsPrefix k l) where
    -- the blocks that an edit may return are in use
    children_block : (rs : Rules Value) (d : ℕ) → d < 7
        → block_of (node_pool N) (children_on rs k (depth d)) ≤ over_all (block_of (node_pool N)) (child_count rs)
    children_block rs d h = over_part (block_of (node_pool N)) (child_count rs) k d prefix.bits h

    lowest_block : (rs : Rules Value) → block_of (node_pool N) (children_on rs k (lowest rs k l)) ≤ over_all (block_of (node_pool N)) (child_count rs)
    unfolding lowest
    lowest_block rs = children_block rs (node_count rs k l - 1) (omega (arith, count_root rs k l, count_seven rs k l))

    data_block : free_cells (cell_pool D) g.cells + block_of (cell_pool D) (data_on g.rules k l) ≤ g.cells.mark
    data_block =
        let u = over_part (block_of (cell_pool D)) (data_count g.rules) k (l / stride) prefix.bits (omega (arith, prefix.short)) in
        omega (arith, cells_all D g.rules, b.cells, b.cell_mark)

    -- so no return finds its section full: in an insert
    pub insert_fits : (v : Value)
        → Fits (node_pool N) (node_moves N g.rules (put k l v)) g.nodes × Fits (cell_pool D) (cell_moves D g.rules (put k l v)) g.cells
    unfolding node_moves cell_moves
    insert_fits v = (
      come_fits (node_pool N) (node_tiered N) (missing g.rules k l) (children_on g.rules k (lowest g.rules k l)) g.nodes
          (omega (arith, lowest_block g.rules, nodes_all N g.rules p, b.nodes, b.node_mark)),
      go (is_live g.rules k l),
    )
      where
        go : (x : Bool) → Fits (cell_pool D) (cond x [] (rise (cell_pool D) (data_on g.rules k l))) g.cells
        go true = tt
        go false = rise_fits (cell_pool D) (cell_tiered D) (data_on g.rules k l) g.cells data_block

    -- and in a removal
    pub remove_fits : (v : Value) → value_at g.rules k l ≡ some v
        → Fits (node_pool N) (node_moves N g.rules (del k l)) g.nodes × Fits (cell_pool D) (cell_moves D g.rules (del k l)) g.cells
    unfolding node_moves cell_moves
    remove_fits v e = (
      rw (emptied_missing g.rules k l v prefix.short e) (go (missing rs k l) refl),
      rw e (fall_fits (cell_pool D) (cell_tiered D) (data_on g.rules k l) g.cells data_block),
    )
      where
        rs : Rules Value
        rs = without k l g.rules

        K : Kind
        K = node_pool N

        q : Proper rs
        q = unfold edited in proper_edited (del k l) g.rules prefix p

        adds : Adds k l rs g.rules
        adds = unfold edited in adds_del g.rules p k l v e

        go : (m : ℕ) → missing rs k l ≡ m → Fits K (nodes_go K (missing rs k l) (children_on g.rules k (lowest rs k l))) g.nodes
        go zero z = rw z (unfold nodes_go in tt)
        go (suc m) z =
            let o : m * block_of K 1 ≡ m = ap (λ (x : ℕ). m * x) (ap (spacing K) (node_tiered N).first ∙ (node_tiered N).single) ∙ mul-one m in
            rw (z, lowest_more prefix q adds (block_of K) m z) (go_fits K (node_tiered N) m (suc (children_on rs k (lowest rs k l))) g.nodes
            (omega (arith, nodes_in_use_more prefix q adds (block_of K) refl m z, lowest_block rs, nodes_all N g.rules p, b.nodes, b.node_mark)))
