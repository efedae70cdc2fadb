-- A rule's value is kept in its node: the image of the ledger with that insert entered. Assumes nothing.
use mathlib.Core.Path.{◌≡◌, sym, ap, ◌∙◌, subst}
use mathlib.Core.Bool.{Bool, true, false}
use mathlib.Core.Option.{none}
use mathlib.Core.List.{List}
use Prim.Native.Nat.{ℕ, ◌+◌, ◌/◌}
use native.Mathlib.Omega.{arith}
use Rattle.tiers.specs.Tiers.{stride, data_top}
use Rattle.places.specs.Places.{data_bit}
use Rattle.places.proofs.Prefixes.{data_lt}
use Rattle.blocks.specs.declared.Pool.{Pool}
use Rattle.blocks.specs.Growth.{grow_of}
use Rattle.store.specs.declared.Cell.{Cell}
use Rattle.edits.specs.Adding.{keep_of}
use Rattle.map.specs.declared.State.{State}
use Rattle.map.specs.Memory.{Memory, memory, state_as}
use Rattle.rules.specs.Rules.{put, value_at, is_some, edited, IsPrefix}
use Rattle.rules.specs.Account.{node_pool, cell_pool, run}
use Rattle.rules.specs.Ledger.{Ledger, rise, data_on, node_moves, cell_moves, insert_room, entered, accepts}
use Rattle.rules.proofs.Returns.{Fits, insert_fits}
use Rattle.rules.proofs.RuleCount.{rules_more}
use Rattle.rules.proofs.Always.{proper_entered, balanced_entered}
use Rattle.pools.specs.Items.{upd, items, place_of}
use Rattle.pools.specs.Sound.{Owner}
use Rattle.pools.specs.Accounts.{kind_of, account_of, supplied}
use Rattle.pools.proofs.Accounts.{grow_account, grow_size}
use Rattle.image.specs.Numbers.{path_no, rule_no}
use Rattle.image.specs.Tree.{Tree}
use Rattle.image.specs.Image.{start_of, node_of, Image}
use Rattle.image.proofs.Paths.{rule_node, rule_bit}
use Rattle.image.proofs.Words.{bits_count}
use Rattle.image.proofs.Keeping.{keep_image}
use Rattle.history.proofs.Booked.{Booked, cell_shape}
use Rattle.history.proofs.Homes.{of_cells}

-- what is kept of a node's rules: the pool, after the block has grown
pub keep_pool : (q : Pool) (nodes cells f : List ℕ) (at : ℕ) (E D : ℕ → Bool) (es vs : ℕ → ℕ) (n i : ℕ) (v : Cell)
    → (keep_of q nodes cells f at (node_of E D es vs n) i v).0 ≡ (grow_of q data_top f (start_of (items D n) (vs n)) (items D n)).0.pool
unfolding keep_of node_of
keep_pool q nodes cells f at E D es vs n i v = ap (λ (c : ℕ). (grow_of q data_top f (start_of (items D n) (vs n)) c).0.pool) (bits_count D n)

module _ {N D : ℕ} {g : Ledger Cell} {s : State} {m : Memory} (b : Booked N D g s m) (key len : ℕ) (v : Cell) (prefix : IsPrefix key len)
    (absent : value_at g.rules key len ≡ none)
  where
    abbrev home : ℕ
    home = path_no key (len / stride)

    -- its rule isn't there yet
    pub not_there : b.R (rule_no key len) ≡ false
    not_there = b.tree.rule_is key len prefix ∙ ap is_some absent

    -- the moves of the data pool
    pub cell_moves_lem : cell_moves D g.rules (put key len v) ≡ rise (cell_pool D) (data_on g.rules key len)
    unfolding cell_moves
    cell_moves_lem = rw absent

    -- each block that comes back finds a place
    pub cells_fit : Fits (kind_of data_top s.cells) (rise (kind_of data_top s.cells) (items b.R home)) (account_of s.cells)
    cells_fit = of_cells b key len prefix (λ K c a. Fits K (rise K c) a)
        (subst (λ (ms : List _). Fits (cell_pool D) ms g.cells) cell_moves_lem (insert_fits N D g b.proper b.balanced key len prefix v).1)

    module _ (room : insert_room N D g key len ≡ true) (enough : supplied (cell_pool D) (cell_moves D g.rules (put key len v)) g.cells ≡ true) where
      given : supplied (kind_of data_top s.cells) (rise (kind_of data_top s.cells) (items b.R home)) (account_of s.cells) ≡ true
      given = of_cells b key len prefix (λ K c a. supplied K (rise K c) a ≡ true) (subst (λ (ms : List _). supplied (cell_pool D) ms g.cells ≡ true) cell_moves_lem enough)

      -- the rule kept in its node, on any image of the nodes: the ledger with the insert entered
      pub kept_booked : (p : Pool) (nodes nf : List ℕ) (E : ℕ → Bool) (es : ℕ → ℕ) (on : ℕ → Owner)
          → Image p nodes nf s.cells m.cells m.cell_free E b.R es b.vs b.val on b.od
          → Tree (edited (put key len v) g.rules) E (upd b.R (rule_no key len) true) (upd b.val (rule_no key len) v)
          → E home ≡ true → account_of p ≡ run (node_pool N) (node_moves N g.rules (put key len v)) g.nodes → p.size ≡ N
          → let k = keep_of s.cells nodes m.cells m.cell_free (place_of E es home) (node_of E b.R es b.vs home) (data_bit key len) v in
          Booked N D (entered N D (put key len v) g) (state_as p k.0 (s.rules + 1)) (memory k.1 k.2 nf k.3)
      unfolding entered accepts
      kept_booked p nodes nf E es on image tree here account size =
          let i = rw (rule_node key len, rule_bit key len) at (keep_image image (rule_no key len) v) in
          let w = i here not_there (data_lt key len) given cells_fit in
          record {
            E = E;
            R = upd b.R (rule_no key len) true;
            es = es;
            vs = _;
            val = upd b.val (rule_no key len) v;
            on = on;
            od = w.0;
            image = w.1;
            tree = tree;
            proper = proper_entered N D g (put key len v) prefix b.proper;
            balanced = balanced_entered N D g (put key len v) prefix b.proper b.balanced room;
            node_size = size;
            cell_size = ap (λ (q : Pool). q.size) pool ∙ grow_size data_top s.cells m.cell_free start (items b.R home) ∙ b.cell_size;
            node_account = account;
            cell_account = ap account_of pool ∙ grow_account data_top s.cells m.cell_free (cell_shape b) start (items b.R home) given cells_fit ∙ ledger_run;
            count = ap (λ (n : ℕ). n + 1) b.count ∙ (omega (arith, rules_more g.rules key len v absent));
          }
        where
          start : ℕ
          start = start_of (items b.R home) (b.vs home)

          pool : (keep_of s.cells nodes m.cells m.cell_free (place_of E es home) (node_of E b.R es b.vs home) (data_bit key len) v).0
              ≡ (grow_of s.cells data_top m.cell_free start (items b.R home)).0.pool
          pool = keep_pool s.cells nodes m.cells m.cell_free (place_of E es home) E b.R es b.vs home (data_bit key len) v

          ledger_run : run (kind_of data_top s.cells) (rise (kind_of data_top s.cells) (items b.R home)) (account_of s.cells)
              ≡ run (cell_pool D) (cell_moves D g.rules (put key len v)) g.cells
          ledger_run = of_cells b key len prefix (λ K c a. run K (rise K c) a ≡ run (cell_pool D) (cell_moves D g.rules (put key len v)) g.cells) (ap (λ (ms : List _). run (cell_pool D) ms g.cells) (sym cell_moves_lem))
