-- A removal's empty nodes go, from the bottom up: the number of it is the ledger's, and what it leaves is the image without them. Assumes nothing.
use mathlib.Core.Path.{◌≡◌, refl, sym, ap, ◌∙◌}
use mathlib.Core.Bool.{Bool, true, false, ◌&&◌, cond}
use mathlib.Core.List.{List, ◌++◌}
use Prim.Native.Nat.{ℕ, zero, suc, ◌+◌, ◌-◌, ◌/◌, ◌^◌, ◌≤◌, ◌<◌}
use native.Mathlib.Omega.{arith}
use lib.Dec.{leb, ltb, eqb}
use lib.ListN.{get_or}
use borrow.Author.Tests.{lt-ltb}
use Rattle.bits.specs.Bits.{count}
use Rattle.prefix.specs.Prefix.{width}
use Rattle.tiers.specs.Tiers.{child_top}
use Rattle.node.specs.declared.MultiBitNode.{MultiBitNode}
use Rattle.node.specs.Nodes.{empty_node}
use Rattle.blocks.specs.declared.Pool.{Pool}
use Rattle.blocks.specs.Growth.{shrink_of, shrink_ask_of}
use Rattle.store.specs.declared.Cell.{Cell}
use Rattle.edits.specs.Removing.{last_child, up_of, prune_ask_of, prune_of}
use Rattle.edits.proofs.Removals.{prune_none, prune_ask_none, root_stays, root_asks_nothing}
use Rattle.rules.specs.Nodes.{depth}
use Rattle.rules.specs.Account.{Kind, tier, Move, run}
use Rattle.rules.specs.Ledger.{fall, nodes_go}
use Rattle.rules.proofs.Supply.{node_tiered}
use Rattle.rules.proofs.Returns.{Fits}
use Rattle.pools.specs.Items.{upd, items, place_of}
use Rattle.pools.specs.Sound.{Stock, Owner, block_for}
use Rattle.pools.specs.Accounts.{kind_of, account_of, supplied, number_of}
use Rattle.pools.proofs.Accounts.{number_append, fits_front, shrink_size, shrink_account}
use Rattle.pools.proofs.Numbers.{shrink_number, shrink_stock}
use Rattle.image.specs.Numbers.{path_no, without_path}
use Rattle.image.specs.Image.{node_of, Image}
use Rattle.image.proofs.Paths.{path_up, path_far}
use Rattle.image.proofs.Turning.{go_first, none_number, none_run, then_fits, then_number, turned}
use Rattle.image.proofs.Climbing.{one_above, parent_goes, Climb, child_is, parent_flag, parent_row, climb_up}

-- ---- the number

-- a way up from level i on which n nodes go: the parents' counts of children and starts of blocks, each block below the mark;
-- the parents that go have one child, and the last has one that goes
record Way (path : List MultiBitNode) (counts starts : ℕ → ℕ) (lim i n : ℕ) : Type 0 where
  count_is : (j : ℕ) → j < i → count (get_or path j empty_node).child_bitmap ≡ counts j
  start_is : (j : ℕ) → j < i → 0 < counts j → (get_or path j empty_node).children_idx.0 ≡ starts j
  short : n ≤ i
  last : (j : ℕ) → j < i → i < suc j + n → 0 < j → last_child (get_or path j empty_node) ≡ ltb (i - j) n
  only : (j : ℕ) → j < i → i < j + n → counts j ≡ 1
  some : 0 < n → 0 < counts (i - n)
  below : (j : ℕ) → j < i → i ≤ j + n → starts j + block_for child_top (counts j) ≤ lim

-- the number of the first step, or of the rest
first_number_lem : (s : Bool) (c r r' : ℕ) → c ≡ cond s 0 4 → (s ≡ true → r ≡ r') → cond (eqb c 0) r c ≡ cond s r' 4
first_number_lem true c r r' e h = rw e (h refl)
first_number_lem false c r r' e h = rw e

module _ (path : List MultiBitNode) (counts starts : ℕ → ℕ) (lim : ℕ) where
  -- one turn of the ask, where the node below goes
  ask_turn : (i : ℕ) (p : Pool) (f : List ℕ) (bare : Bool) (s c : ℕ) → bare ≡ true → (get_or path i empty_node).children_idx.0 ≡ s
      → count (get_or path i empty_node).child_bitmap ≡ c
      → prune_ask_of (suc i) p lim f path bare
      ≡ cond (eqb (shrink_ask_of p child_top lim f s c).number 0)
      (prune_ask_of i (shrink_of p child_top f s c).0.pool lim (shrink_of p child_top f s c).1 path (last_child (get_or path i empty_node)))
      (shrink_ask_of p child_top lim f s c).number
  unfolding prune_ask_of
  ask_turn i p f bare s c b e g = rw (b, e, g)

  module _ (i n : ℕ) (w : Way path counts starts lim (suc i) (suc n)) where
    -- the rest of the way
    way_up : Way path counts starts lim i n
    way_up =
        let e : suc i - suc n ≡ i - n = omega arith in
        record {
          count_is = λ j h. w.count_is j (omega arith);
          start_is = λ j h. w.start_is j (omega arith);
          short = omega (arith, w.short);
          last = λ j h l o. w.last j (omega arith) (omega arith) o ∙ one_above i j n (omega arith);
          only = λ j h l. w.only j (omega arith) (omega arith);
          some = λ h. rw e at (w.some (omega arith));
          below = λ j h l. w.below j (omega arith) (omega arith);
        }

    -- the lowest parent's row comes first
    first_row : (K : Kind) → tier K 1 ≡ 0 → nodes_go K (suc n) (counts (suc i - suc n)) ≡ fall K (counts i) ++ nodes_go K n (counts (i - n))
    first_row =
        let e : suc i - suc n ≡ i - n = omega arith in
        go_first n (counts (suc i - suc n)) (counts i) (counts (i - n))
        (λ z. ap counts (omega (arith, z))) (λ h. (w.only i (omega arith) (omega arith), ap counts (sym e)))

  -- the lowest parent has a child
  first_some : (i n : ℕ) → Way path counts starts lim (suc i) (suc n) → 0 < counts i
  first_some i zero w = let e : suc i - 1 ≡ i = omega arith in rw e at (w.some (omega arith))
  first_some i (suc n) w = omega (arith, w.only i (omega arith) (omega arith))

  -- at the root the flag makes no difference
  number_up : (i n : ℕ) (p : Pool) (f : List ℕ) (bare : Bool) → Way path counts starts lim i n → (0 < i → bare ≡ ltb 0 n) → Stock child_top p f lim
      → Fits (kind_of child_top p) (nodes_go (kind_of child_top p) n (counts (i - n))) (account_of p)
      → prune_ask_of i p lim f path bare ≡ number_of (kind_of child_top p) (nodes_go (kind_of child_top p) n (counts (i - n))) (account_of p)
  number_up zero zero p f bare w b s t = root_asks_nothing p lim f path bare ∙ sym (none_number (kind_of child_top p) (counts (0 - 0)) (account_of p))
  number_up zero (suc n) p f bare w b s t = absurd (omega (arith, w.short))
  number_up (suc i) zero p f bare w b s t =
      rw (b (omega arith)) (prune_ask_none (suc i) p lim f path ∙ sym (none_number (kind_of child_top p) (counts (suc i - 0)) (account_of p)))
  number_up (suc i) (suc n) p f bare w b s t =
      let K = kind_of child_top p in
      let a = account_of p in
      let ms = fall K (counts i) in
      let ns : Kind → List Move = λ J. nodes_go J n (counts (i - n)) in
      let x = get_or path i empty_node in
      let g = shrink_of p child_top f (starts i) (counts i) in
      let some = first_some i n w in
      let low = w.below i (omega arith) (omega arith) in
      let row = first_row i n w K (node_tiered p.size).first in
      let t₁ : Fits K (ms ++ ns K) a = rw row at t in
      let t₂ = fits_front K ms (ns K) a t₁ in
      let k : kind_of child_top g.0.pool ≡ K = rw (shrink_size child_top p f (starts i) (counts i)) in
      ask_turn i p f bare (starts i) (counts i) (b (omega arith) ∙ lt-ltb 0 (suc n) (omega arith)) (w.start_is i (omega arith) some) (w.count_is i (omega arith))
      ∙ first_number_lem (supplied K ms a) (shrink_ask_of p child_top lim f (starts i) (counts i)).number (prune_ask_of i g.0.pool lim g.1 path (last_child x))
      (number_of K (ns K) (run K ms a)) (shrink_number child_top p f lim s (starts i) (counts i) some low t₂)
      (λ z.
      let r = shrink_account child_top p f s.shape (starts i) (counts i) some z t₂ in
      number_up i n g.0.pool g.1 (last_child x) (way_up i n w) (λ h. w.last i (omega arith) (omega arith) h ∙ parent_goes i n)
      (shrink_stock child_top p f lim s (starts i) (counts i) some low z t₂) (then_fits K (kind_of child_top g.0.pool) a (account_of g.0.pool) ms ns k r t₁)
      ∙ then_number K (kind_of child_top g.0.pool) a (account_of g.0.pool) ms ns k r)
      ∙ sym (number_append K ms (ns K) a) ∙ ap (λ (r : List Move). number_of K r a) (sym row)

-- the number of n nodes that go, level i the lowest, is the ledger's
pub prune_number : (key i n lim : ℕ) (p : Pool) (f : List ℕ) (path : List MultiBitNode) (bare : Bool) (counts starts : ℕ → ℕ)
    → ((j : ℕ) → j < i → count (get_or path j empty_node).child_bitmap ≡ counts j)
    → ((j : ℕ) → j < i → 0 < counts j → (get_or path j empty_node).children_idx.0 ≡ starts j) → n ≤ i → bare ≡ ltb 0 n
    → ((j : ℕ) → j < i → i < suc j + n → 0 < j → last_child (get_or path j empty_node) ≡ ltb (i - j) n)
    → ((j : ℕ) → j < i → i < j + n → counts j ≡ 1) → (0 < n → 0 < counts (i - n)) → Stock child_top p f lim
    → ((j : ℕ) → j < i → i ≤ j + n → starts j + block_for child_top (counts j) ≤ lim)
    → Fits (kind_of child_top p) (nodes_go (kind_of child_top p) n (counts (i - n))) (account_of p)
    → prune_ask_of i p lim f path bare ≡ number_of (kind_of child_top p) (nodes_go (kind_of child_top p) n (counts (i - n))) (account_of p)
prune_number key i n lim p f path bare counts starts c s h b l o e k r t =
    number_up path counts starts lim i n p f bare (record { count_is = c; start_is = s; short = h; last = l; only = o; some = e; below = r }) (λ z. b) k t

-- ---- the image

module _ (key : ℕ) (bits : key < 2 ^ width) (places : List ℕ) (path : List MultiBitNode)
    (q : Pool) (cells cf : List ℕ) (D : ℕ → Bool) (vs : ℕ → ℕ) (val : ℕ → Cell) (od : ℕ → Owner)
  where
    -- z is what is left of pool p and the nodes E, where n nodes of the path have gone, level i the lowest
    record Pruned (i n : ℕ) (p : Pool) (E : ℕ → Bool) (z : Pool × List ℕ × List ℕ) : Type 0 where
      es : ℕ → ℕ
      on : ℕ → Owner
      image : Image z.0 z.1 z.2 q cells cf (without_path E key i n) D es vs val on od
      account : account_of z.0 ≡ run (kind_of child_top p) (nodes_go (kind_of child_top p) n (items E (path_no key (i - n)))) (account_of p)
      size : z.0.size ≡ p.size

    -- what the way up from level i does, whichever the nodes; at the root the flag makes no difference
    abbrev Climbs : ℕ → Type 0
    Climbs i =
        (n : ℕ) (p : Pool) (nodes nf : List ℕ) (E : ℕ → Bool) (es : ℕ → ℕ) (on : ℕ → Owner) (bare : Bool) → Image p nodes nf q cells cf E D es vs val on od
        → i ≤ 6 → n ≤ i → (0 < i → bare ≡ ltb 0 n) → Climb key i n places path E D es vs
        → supplied (kind_of child_top p) (nodes_go (kind_of child_top p) n (items E (path_no key (i - n)))) (account_of p) ≡ true
        → Fits (kind_of child_top p) (nodes_go (kind_of child_top p) n (items E (path_no key (i - n)))) (account_of p)
        → Pruned i n p E (prune_of i p nodes nf places path key bare)

    -- where none goes, all stays
    none_gone : (i : ℕ) {p : Pool} {nodes nf : List ℕ} {E : ℕ → Bool} {es : ℕ → ℕ} {on : ℕ → Owner} → Image p nodes nf q cells cf E D es vs val on od
        → Pruned i 0 p E (p, nodes, nf)
    unfolding without_path
    none_gone i {p} {nodes} {nf} {E} {es} {on} m =
        record { es = es; on = on; image = m; account = sym (none_run (kind_of child_top p) (items E (path_no key (i - 0))) (account_of p)); size = refl }

    -- one turn, where the node below goes
    prune_turn : (i : ℕ) (p : Pool) (nodes f : List ℕ) (bare : Bool) (at : ℕ) (w : MultiBitNode) → bare ≡ true → get_or places i 0 ≡ at → get_or path i empty_node ≡ w
        → let u = up_of p nodes f at w (depth i) key in
        prune_of (suc i) p nodes f places path key bare ≡ prune_of i u.0 u.1 u.2 places path key (last_child w)
    unfolding prune_of
    prune_turn i p nodes f bare at w b e g = rw (b, e, g)

    from_root_lem : Climbs 0
    from_root_lem zero p nodes nf E es on bare m l short b c s t = rw (root_stays p nodes nf places path key bare) (none_gone 0 m)
    from_root_lem (suc n) p nodes nf E es on bare m l short b c s t = absurd (omega arith)

    from_below : (i : ℕ) → Climbs i → Climbs (suc i)
    unfolding without_path
    from_below i ih zero p nodes nf E es on bare m l short b c s t =
        rw (b (omega arith), prune_none (suc i) p nodes nf places path key) (none_gone (suc i) m)
    from_below i ih (suc n) p nodes nf E es on bare m l short b c s t =
        let h : i ≤ 5 = omega arith in
        let o : n ≤ i = omega arith in
        let x = path_no key (suc i) in
        let v = turned m x (path_far key i) (c.there (suc i) (omega arith)) (c.bare (omega arith)) (λ K. nodes_go K (suc n) (items E (path_no key (suc i - suc n))))
        (λ K. nodes_go K n (items (upd E x false) (path_no key (i - n)))) (parent_row key bits places path i n E D es vs h o c (kind_of child_top p) (node_tiered p.size).first)
        s t key (depth i) (child_is key bits places path i n E D es vs h o c) in
        let r = ih n _ _ _ _ _ v.on (last_child (node_of E D es vs (x / 32))) v.image (omega arith) o (parent_flag key bits places path i n E D es vs h o c)
        (climb_up key bits places path i n E D es vs h o c _) v.supply v.fits in
        rw (prune_turn i p nodes nf bare (place_of E es (x / 32)) (node_of E D es vs (x / 32)) (b (omega arith) ∙ lt-ltb 0 (suc n) (omega arith))
        (c.place_is i (omega arith) ∙ ap (place_of E es) (sym (path_up key i h))) (c.node_is i (omega arith) ∙ ap (node_of E D es vs) (sym (path_up key i h))))
        (record { es = r.es; on = r.on; image = r.image; account = r.account ∙ v.account; size = r.size ∙ v.size })

    climb : (i : ℕ) → Climbs i
    climb = elim [ zero ↦ from_root_lem | suc (i → ih) ↦ from_below i ih ]

-- where n nodes of a key's path have become empty, level i the lowest, they go: the image without them, and the account is the ledger's
pub prune_image : {p : Pool} {nodes nf : List ℕ} {q : Pool} {cells cf : List ℕ} {E D : ℕ → Bool} {es vs : ℕ → ℕ} {val : ℕ → Cell} {on od : ℕ → Owner}
    → Image p nodes nf q cells cf E D es vs val on od → (key i n : ℕ) (bare : Bool) (places : List ℕ) (path : List MultiBitNode) → key < 2 ^ width → i ≤ 6
    → n ≤ i → bare ≡ ltb 0 n → ((j : ℕ) → j < i → get_or places j 0 ≡ place_of E es (path_no key j))
    → ((j : ℕ) → j < i → get_or path j empty_node ≡ node_of E D es vs (path_no key j)) → ((j : ℕ) → j ≤ i → E (path_no key j) ≡ true)
    → (0 < n → (items E (path_no key i) ≡ 0) × (items D (path_no key i) ≡ 0))
    → ((j : ℕ) → 0 < j → j < i → i < suc j + n → (leb (items E (path_no key j)) 1 && eqb (items D (path_no key j)) 0) ≡ ltb (i - j) n)
    → supplied (kind_of child_top p) (nodes_go (kind_of child_top p) n (items E (path_no key (i - n)))) (account_of p) ≡ true
    → Fits (kind_of child_top p) (nodes_go (kind_of child_top p) n (items E (path_no key (i - n)))) (account_of p)
    → let z = prune_of i p nodes nf places path key bare in
    (es' : ℕ → ℕ) × (on' : ℕ → Owner) × Image z.0 z.1 z.2 q cells cf (without_path E key i n) D es' vs val on' od
    × (account_of z.0 ≡ run (kind_of child_top p) (nodes_go (kind_of child_top p) n (items E (path_no key (i - n)))) (account_of p)) × (z.0.size ≡ p.size)
prune_image {p} {nodes} {nf} {q} {cells} {cf} {E} {D} {es} {vs} {val} {on} {od} m key i n bare places path bits l short b at node there none last s t =
    let r = climb key bits places path q cells cf D vs val od i n p nodes nf E es on bare m l short (λ h. b)
    (record { place_is = at; node_is = node; there = there; bare = none; last = last }) s t in
    (r.es, r.on, r.image, r.account, r.size)
