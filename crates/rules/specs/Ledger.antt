-- The block ledger (document 01, "The block ledger"), worked out from the accepted edits and the sizes of the pools: N nodes and D cells. Assumes nothing.
use Rattle.std.specs.Prelude.{◌≡◌, Bool, true, ◌&&◌, cond, List, [], ◌∷◌, ◌++◌, ℕ, zero, suc, ◌+◌, ◌-◌, ◌/◌, ◌^◌, ◌≤◌, ltb, eqb}
use Rattle.bits.specs.Bits.{one}
use Rattle.prefix.specs.Prefix.{first}
use Rattle.tiers.specs.Tiers.{stride}
use Rattle.rules.specs.Sums.{sum}
use Rattle.rules.specs.Rules.{Rules, Edit, put, del, is_live, without, edited, Names}
use Rattle.rules.specs.Nodes.{depths, depth, home, node, data_count, child_count, node_count}
use Rattle.rules.specs.Account.{Kind, node_pool, cell_pool, tier, spacing, Account, ask, Move, takes, gives, lowers, run, holds, block_of, free_cells, unissued}

-- ---- the blocks that a change of counts takes and returns

-- a count rises from c: a first block; where the tier rises, a block of c + 1's tier, the old one returned; else none
unfoldable pub rise : Kind → ℕ → List Move
rise K zero = takes (tier K 1) ∷ []
rise K (suc c) = cond (ltb (tier K (suc c)) (tier K (suc (suc c)))) (takes (tier K (suc (suc c))) ∷ gives (tier K (suc c)) ∷ []) []

-- a count falls from c: to 0, the block is returned; where the tier falls, the contents go down; else none
unfoldable pub fall : Kind → ℕ → List Move
fall K zero = []
fall K (suc zero) = gives (tier K 1) ∷ []
fall K (suc (suc c)) = cond (ltb (tier K (suc c)) (tier K (suc (suc c)))) (lowers (tier K (suc (suc c))) (tier K (suc c)) ∷ []) []

-- a move n times
abbrev pub times : ℕ → Move → List Move
times zero m = []
times (suc n) m = m ∷ times n m

-- k missing nodes come, from the top, under a node of c children: its count rises, and k - 1 single blocks follow
unfoldable pub nodes_come : Kind → ℕ → ℕ → List Move
nodes_come K zero c = []
nodes_come K (suc k) c = rise K c ++ times k (takes 0)

-- k emptied nodes go, from the bottom up, the last from under a node of c children: k - 1 single blocks are returned, and its count falls
unfoldable pub nodes_go : Kind → ℕ → ℕ → List Move
nodes_go K zero c = []
nodes_go K (suc k) c = times k (gives 0) ++ fall K c

-- ---- room: the cells that the unused end has to hold

-- the missing nodes of an insert. If c = 0, k single blocks. Else a block of c + 1's tier is needed only if that tier is higher than c's;
-- k - 1 single blocks follow, and a tier 0 block returned by the growth serves one of them
unfoldable pub come_need : Kind → ℕ → ℕ → Account → ℕ
come_need K zero c a = 0
come_need K (suc k) zero a = suc k - a.free 0
come_need K (suc k) (suc c) a =
    cond (ltb (tier K (suc c)) (tier K (suc (suc c))))
    (ask K (tier K (suc (suc c))) a + (k - (a.free 0 + one (eqb (tier K (suc c)) 0))))
    (k - a.free 0)

-- the data block of an insert: one of its tier, if the count was 0 or the tier rises
unfoldable pub rise_need : Kind → ℕ → Account → ℕ
rise_need K zero a = ask K (tier K 1) a
rise_need K (suc c) a = cond (ltb (tier K (suc c)) (tier K (suc (suc c)))) (ask K (tier K (suc (suc c))) a) 0

-- a removal needs one block where a count falls to a lower tier without reaching 0; s single blocks returned lower down serve it
unfoldable pub fall_need : Kind → ℕ → ℕ → Account → ℕ
fall_need K s zero a = 0
fall_need K s (suc zero) a = 0
fall_need K s (suc (suc c)) a =
    let t = tier K (suc c) in
    cond (ltb t (tier K (suc (suc c)))) (cond (eqb (a.free t + cond (eqb t 0) s 0) 0) (spacing K t) 0) 0

-- the emptied nodes of a removal
unfoldable pub go_need : Kind → ℕ → ℕ → Account → ℕ
go_need K zero c a = 0
go_need K (suc k) c a = fall_need K k c a

-- ---- the ledger

-- the live rules, and the account of each pool
pub record Ledger (Value : Type 0) : Type 0 where
  pub rules : Rules Value
  pub nodes : Account
  pub cells : Account

module _ {Value : Type 0} where
  -- the path of a prefix has a node at each depth not above its length; these are missing
  unfoldable pub missing : Rules Value → ℕ → ℕ → ℕ
  missing rs key len = suc (len / stride) - node_count rs key len

  -- and its removal empties these
  unfoldable pub emptied : Rules Value → ℕ → ℕ → ℕ
  emptied rs key len = node_count rs key len - node_count (without key len rs) key len

  -- the depth of the lowest existing node
  unfoldable pub lowest : Rules Value → ℕ → ℕ → ℕ
  lowest rs key len = depth (node_count rs key len - 1)

  -- the children of the path's node at depth d
  abbrev pub children_on : Rules Value → ℕ → ℕ → ℕ
  children_on rs key d = child_count rs d (first d key)

  -- the rules in the node where the length lives
  abbrev pub data_on : Rules Value → ℕ → ℕ → ℕ
  data_on rs key len = data_count rs (home len) (first (home len) key)

  -- what an edit takes and returns in the node pool
  unfoldable pub node_moves : ℕ → Rules Value → Edit Value → List Move
  node_moves N rs (put key len v) = nodes_come (node_pool N) (missing rs key len) (children_on rs key (lowest rs key len))
  node_moves N rs (del key len) = nodes_go (node_pool N) (emptied rs key len) (children_on rs key (lowest (without key len rs) key len))

  -- and in the data pool: nothing for a replacement, or for the removal of what isn't stored
  unfoldable pub cell_moves : ℕ → Rules Value → Edit Value → List Move
  cell_moves D rs (put key len v) = cond (is_live rs key len) [] (rise (cell_pool D) (data_on rs key len))
  cell_moves D rs (del key len) = cond (is_live rs key len) (fall (cell_pool D) (data_on rs key len)) []

  -- room for an insert, in document 01's closed form
  unfoldable pub insert_room : ℕ → ℕ → Ledger Value → ℕ → ℕ → Bool
  insert_room N D g key len =
      let rs = g.rules in
      holds (node_pool N) (come_need (node_pool N) (missing rs key len) (children_on rs key (lowest rs key len)) g.nodes) g.nodes
      && holds (cell_pool D) (cond (is_live rs key len) 0 (rise_need (cell_pool D) (data_on rs key len) g.cells)) g.cells

  -- room for a removal
  unfoldable pub remove_room : ℕ → ℕ → Ledger Value → ℕ → ℕ → Bool
  remove_room N D g key len =
      let rs = g.rules in
      holds (node_pool N) (go_need (node_pool N) (emptied rs key len) (children_on rs key (lowest (without key len rs) key len)) g.nodes) g.nodes
      && holds (cell_pool D) (cond (is_live rs key len) (fall_need (cell_pool D) 0 (data_on rs key len) g.cells) 0) g.cells

  -- a fresh start: free counts 0, the node mark 1, the cell mark 0
  unfoldable pub fresh : Ledger Value
  fresh = record {
    rules = [];
    nodes = record { mark = 1; free = λ t. 0 };
    cells = record { mark = 0; free = λ t. 0 };
  }

  -- an accepted edit is entered
  unfoldable pub entered : ℕ → ℕ → Edit Value → Ledger Value → Ledger Value
  entered N D e g = record {
    rules = edited e g.rules;
    nodes = run (node_pool N) (node_moves N g.rules e) g.nodes;
    cells = run (cell_pool D) (cell_moves D g.rules e) g.cells;
  }

  -- the ledger after a history of accepted edits, the newest first, from any start
  unfoldable pub ledger_from : ℕ → ℕ → Ledger Value → List (Edit Value) → Ledger Value
  ledger_from N D g [] = g
  ledger_from N D g (e ∷ h) = entered N D e (ledger_from N D g h)

  -- the ledger accepts an edit: there is room for it, and what it removes is stored
  unfoldable pub accepts : ℕ → ℕ → Ledger Value → Edit Value → Bool
  accepts N D g (put key len v) = insert_room N D g key len
  accepts N D g (del key len) = is_live g.rules key len && remove_room N D g key len

  -- a history of prefixes each of which was accepted in its turn
  abbrev pub Accepted : ℕ → ℕ → Ledger Value → List (Edit Value) → Type 0
  Accepted N D g [] = Unit {0}
  Accepted N D g (e ∷ h) = Names e × (accepts N D (ledger_from N D g h) e ≡ true) × Accepted N D g h

  -- a number of every node that there is, summed
  unfoldable pub over_nodes : Rules Value → (ℕ → ℕ → ℕ) → ℕ
  over_nodes rs f = sum depths (λ j. sum (2 ^ depth j) (λ b. cond (node rs (depth j) b) (f (depth j) b) 0))

  -- blocks in use of the node pool: the root's own place, and each node's block of children
  unfoldable pub nodes_in_use : ℕ → Rules Value → ℕ
  nodes_in_use N rs = 1 + over_nodes rs (λ d b. block_of (node_pool N) (child_count rs d b))

  -- and of the data pool: each node's block of data
  unfoldable pub cells_in_use : ℕ → Rules Value → ℕ
  cells_in_use D rs = over_nodes rs (λ d b. block_of (cell_pool D) (data_count rs d b))

  -- per pool: cells of blocks in use, cells of free blocks and cells never issued sum to the pool size, and the mark is within it
  pub record Balanced (N D : ℕ) (g : Ledger Value) : Type 0 where
    pub nodes : nodes_in_use N g.rules + free_cells (node_pool N) g.nodes + unissued (node_pool N) g.nodes ≡ N
    pub node_mark : g.nodes.mark ≤ N
    pub cells : cells_in_use D g.rules + free_cells (cell_pool D) g.cells + unissued (cell_pool D) g.cells ≡ D
    pub cell_mark : g.cells.mark ≤ D
