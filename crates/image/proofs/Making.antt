-- The missing nodes of a path come into an image, one below the other; the lowest is empty. Assumes nothing.
use mathlib.Core.Path.{◌≡◌, refl, sym, ◌∙◌}
use mathlib.Core.Bool.{Bool, true, false, and-eq-true_iff}
use mathlib.Core.Logic.{inr}
use mathlib.Core.List.{List, [], ◌++◌}
use Prim.Native.Nat.{ℕ, zero, suc, ◌+◌, ◌/◌, ◌%◌, ◌^◌, ◌≤◌, ◌<◌}
use native.Mathlib.Numerals.{add-one}
use native.Mathlib.Nat.{le_refl}
use native.Mathlib.Omega.{arith}
use Rattle.prefix.specs.Prefix.{width}
use Rattle.tiers.specs.Tiers.{child_top}
use Rattle.places.specs.Places.{child_bit}
use Rattle.places.proofs.Children.{child_lt}
use Rattle.node.specs.declared.MultiBitNode.{MultiBitNode}
use Rattle.node.specs.Nodes.{empty_node}
use Rattle.blocks.specs.declared.Pool.{Pool}
use Rattle.store.specs.declared.Cell.{Cell}
use Rattle.edits.specs.declared.Made.{Made}
use Rattle.edits.specs.Adding.{chain_of, make_of}
use Rattle.rules.specs.Nodes.{depth}
use Rattle.rules.specs.Account.{Kind, node_pool, Account, Move, takes, run}
use Rattle.rules.specs.Ledger.{rise, times, nodes_come}
use Rattle.rules.proofs.Supply.{node_tiered, run_append}
use Rattle.rules.proofs.Returns.{Fits}
use Rattle.rules.proofs.InUse.{depth_next}
use Rattle.pools.specs.Items.{upd, items, place_of}
use Rattle.pools.specs.Sound.{Owner}
use Rattle.pools.specs.Accounts.{kind_of, account_of, supplied}
use Rattle.pools.proofs.Items.{upd_same, upd_other, items_other}
use Rattle.pools.proofs.Accounts.{supplied_append, fits_front, fits_back}
use Rattle.image.specs.Numbers.{path_no, with_path}
use Rattle.image.specs.Tree.{Shape}
use Rattle.image.specs.Image.{node_of, Image}
use Rattle.image.proofs.Paths.{path_child, path_up, path_far, path_differ}
use Rattle.image.proofs.Chains.{with_path_lem}
use Rattle.image.proofs.Changes.{blank, no_items}
use Rattle.image.proofs.Adding.{born_of, make_born, make_next, born_image, born_account, born_size}

-- a row of moves is supplied part by part
supplied_parts : (K : Kind) (ms ns : List Move) (a : Account) → supplied K (ms ++ ns) a ≡ true → (supplied K ms a ≡ true) × (supplied K ns (run K ms a) ≡ true)
supplied_parts K ms ns a s = (and-eq-true_iff (supplied K ms a) (supplied K ns (run K ms a))).0 (sym (supplied_append K ms ns a) ∙ s)

-- ---- the ledger's moves for n + 1 nodes that come under a node of c children: the first node's, then single blocks

module _ (N c n : ℕ) (a : Account) where
  -- whatever follows, the first node's blocks are supplied
  come_first : supplied (node_pool N) (nodes_come (node_pool N) (suc n) c) a ≡ true → supplied (node_pool N) (rise (node_pool N) c) a ≡ true
  unfolding nodes_come
  come_first s = (supplied_parts (node_pool N) (rise (node_pool N) c) (times n (takes 0)) a s).0

  -- and those that it returns find their places
  fits_first : Fits (node_pool N) (nodes_come (node_pool N) (suc n) c) a → Fits (node_pool N) (rise (node_pool N) c) a
  unfolding nodes_come
  fits_first f = fits_front (node_pool N) (rise (node_pool N) c) (times n (takes 0)) a f

  -- the nodes after the first come below an empty node
  come_more : nodes_come (node_pool N) (suc (suc n)) c ≡ rise (node_pool N) c ++ nodes_come (node_pool N) (suc n) 0
  unfolding nodes_come rise
  come_more = rw (node_tiered N).first

  -- so their moves, from the pool and the account that the first leaves, are those that are left of the whole row
  module _ (M k : ℕ) (b : Account) (size : M ≡ N) (none : k ≡ 0) (account : b ≡ run (node_pool N) (rise (node_pool N) c) a) where
    supplied_more : supplied (node_pool N) (nodes_come (node_pool N) (suc (suc n)) c) a ≡ true → supplied (node_pool M) (nodes_come (node_pool M) (suc n) k) b ≡ true
    supplied_more s = rw (size, none, account) (supplied_parts (node_pool N) (rise (node_pool N) c) (nodes_come (node_pool N) (suc n) 0) a (rw come_more at s)).1

    fits_more : Fits (node_pool N) (nodes_come (node_pool N) (suc (suc n)) c) a → Fits (node_pool M) (nodes_come (node_pool M) (suc n) k) b
    fits_more f = rw (size, none, account) (fits_back (node_pool N) (rise (node_pool N) c) (nodes_come (node_pool N) (suc n) 0) a (rw come_more at f))

    run_more : run (node_pool M) (nodes_come (node_pool M) (suc n) k) b ≡ run (node_pool N) (nodes_come (node_pool N) (suc (suc n)) c) a
    run_more = rw (size, none, account, come_more) (sym (run_append (node_pool N) (rise (node_pool N) c) (nodes_come (node_pool N) (suc n) 0) a))

-- a node that comes alone
come_one : (N c : ℕ) (a : Account) → run (node_pool N) (rise (node_pool N) c) a ≡ run (node_pool N) (nodes_come (node_pool N) 1 c) a
come_one N c a = unfold nodes_come run in sym (run_append (node_pool N) (rise (node_pool N) c) [] a)

-- ---- nodes come

-- after nodes came: an image of the nodes E, the lowest of them where the writes say, and the node pool's account and size
abbrev Came : Pool → List ℕ → List ℕ → (ℕ → Bool) → (ℕ → ℕ) → (ℕ → Cell) → (ℕ → Owner) → (ℕ → Bool) → ℕ → Account → ℕ → Made × List ℕ × List ℕ → Type 0
Came q cells cf D vs val od E low a size y =
    (es : ℕ → ℕ) × (on : ℕ → Owner) × Image y.0.pool y.1 y.2 q cells cf E D es vs val on od
    × (y.0.at ≡ place_of E es low) × (account_of y.0.pool ≡ a) × (y.0.pool.size ≡ size)

-- the next node of a path comes
next_comes : {p : Pool} {nodes nf : List ℕ} {q : Pool} {cells cf : List ℕ} {E D : ℕ → Bool} {es vs : ℕ → ℕ} {val : ℕ → Cell} {on od : ℕ → Owner}
    → Image p nodes nf q cells cf E D es vs val on od
    → (key i : ℕ) → i ≤ 5 → E (path_no key (suc i)) ≡ false → (n : ℕ) → path_no key (suc i) / 32 ≡ n → E n ≡ true
    → supplied (kind_of child_top p) (rise (kind_of child_top p) (items E n)) (account_of p) ≡ true
    → Fits (kind_of child_top p) (rise (kind_of child_top p) (items E n)) (account_of p)
    → Came q cells cf D vs val od (upd E (path_no key (suc i)) true) (path_no key (suc i))
    (run (kind_of child_top p) (rise (kind_of child_top p) (items E n)) (account_of p)) p.size
    (born_of p nodes nf (place_of E es n) (node_of E D es vs n) (depth i) key)
next_comes {E = E} {es = es} m key i h new n up =
    rw (← up)
    (λ e s r.
    let b = born_image m x (path_far key i) e new s r key (depth i) bit in
    let account = born_account m x (path_far key i) e new s r (place_of E es (x / 32)) key (depth i) bit in
    let size = born_size m x (path_far key i) e new s r (place_of E es (x / 32)) key (depth i) bit in
    (_, b.0, b.1, b.2, account, size))
  where
    x : ℕ
    x = path_no key (suc i)

    bit : child_bit (depth i) key ≡ x % 32
    bit = omega (arith, path_child key i h, child_lt (depth i) key)

module _ (q : Pool) (cells cf : List ℕ) (D : ℕ → Bool) (vs : ℕ → ℕ) (val : ℕ → Cell) (od : ℕ → Owner) (key : ℕ) (low : key < 2 ^ width) where
  -- below a node of level i, the n + 1 missing nodes of the path come
  abbrev Makes : ℕ → Type 0
  Makes n = (p : Pool) (nodes nf : List ℕ) (E : ℕ → Bool) (es : ℕ → ℕ) (on : ℕ → Owner) → Image p nodes nf q cells cf E D es vs val on od
      → (i : ℕ) → i + suc n ≤ 6 → E (path_no key i) ≡ true → ((j : ℕ) → i < j → j ≤ i + suc n → E (path_no key j) ≡ false)
      → supplied (kind_of child_top p) (nodes_come (kind_of child_top p) (suc n) (items E (path_no key i))) (account_of p) ≡ true
      → Fits (kind_of child_top p) (nodes_come (kind_of child_top p) (suc n) (items E (path_no key i))) (account_of p)
      → (at : ℕ) (w : MultiBitNode) → at ≡ place_of E es (path_no key i) → w ≡ node_of E D es vs (path_no key i)
      → Came q cells cf D vs val od (with_path E key i (suc n)) (path_no key (i + suc n))
      (run (kind_of child_top p) (nodes_come (kind_of child_top p) (suc n) (items E (path_no key i))) (account_of p)) p.size
      (make_of p nodes nf at w (depth i) key (suc n))

  -- one
  makes_one : Makes 0
  unfolding with_path chain_of
  makes_one p nodes nf E es on m i h e new s f at w a b =
      let c = items E (path_no key i) in
      let z =
      next_comes m key i (omega arith) (new (suc i) (omega arith) (omega arith)) (path_no key i) (path_up key i (omega arith)) e
      (come_first p.size c 0 (account_of p) s) (fits_first p.size c 0 (account_of p) f) in
      rw (a, b, make_born p nodes nf (place_of E es (path_no key i)) (depth i) key 0 (node_of E D es vs (path_no key i)), add-one)
      (z.0, z.1, z.2, z.3, z.4 ∙ come_one p.size c (account_of p), z.5)

  -- one more: the rest come below an empty node
  makes_more : (n : ℕ) → Makes n → Makes (suc n)
  unfolding with_path
  makes_more n rest p nodes nf E es on m i h e new s f at w a b =
      let c = items E (path_no key i) in
      let x = path_no key (suc i) in
      let E' = upd E x true in
      let z =
      next_comes m key i (omega arith) (new (suc i) (omega arith) (omega arith)) (path_no key i) (path_up key i (omega arith)) e
      (come_first p.size c (suc n) (account_of p) s) (fits_first p.size c (suc n) (account_of p) f) in
      let y = born_of p nodes nf (place_of E es (path_no key i)) (node_of E D es vs (path_no key i)) (depth i) key in
      let none = no_items m.shape x (omega (arith, path_far key i)) (new (suc i) (omega arith) (omega arith)) in
      let empty : items E' x ≡ 0 = items_other E x x true (λ q. omega (arith, path_far key i)) ∙ none.0 in
      let r =
      rest y.0.pool y.1 y.2 E' z.0 z.1 z.2 (suc i) (omega arith) (upd_same E x true)
      (λ j l k. upd_other E x (path_no key j) true (λ q. omega (arith, path_differ key (suc i) j low (omega arith) (omega arith) q)) ∙ new j (omega arith) (omega arith))
      (supplied_more p.size c n (account_of p) y.0.pool.size (items E' x) (account_of y.0.pool) z.5 empty z.4 s)
      (fits_more p.size c n (account_of p) y.0.pool.size (items E' x) (account_of y.0.pool) z.5 empty z.4 f)
      y.0.at empty_node z.3 (sym (blank E' D z.0 vs x empty none.1)) in
      let k : i + suc (suc n) ≡ suc i + suc n = omega arith in
      rw (a, b, make_next p nodes nf (place_of E es (path_no key i)) (depth i) key n (node_of E D es vs (path_no key i)), ← depth_next i, k)
      (r.0, r.1, r.2, r.3, r.4 ∙ run_more p.size c n (account_of p) y.0.pool.size (items E' x) (account_of y.0.pool) z.5 empty z.4, r.5 ∙ z.5)

  -- so all
  makes : (n : ℕ) → Makes n
  makes zero = makes_one
  makes (suc n) = makes_more n (makes n)

-- the n + 1 missing nodes of a path come below level i: an image with them, where the lowest stands, and the node pool's account and size
pub make_image : {p : Pool} {nodes nf : List ℕ} {q : Pool} {cells cf : List ℕ} {E D : ℕ → Bool} {es vs : ℕ → ℕ} {val : ℕ → Cell} {on od : ℕ → Owner}
    → Image p nodes nf q cells cf E D es vs val on od → (key i n : ℕ) → key < 2 ^ width → i + suc n ≤ 6
    → ((j : ℕ) → j ≤ i → E (path_no key j) ≡ true) → ((j : ℕ) → i < j → j ≤ i + suc n → E (path_no key j) ≡ false)
    → supplied (kind_of child_top p) (nodes_come (kind_of child_top p) (suc n) (items E (path_no key i))) (account_of p) ≡ true
    → Fits (kind_of child_top p) (nodes_come (kind_of child_top p) (suc n) (items E (path_no key i))) (account_of p)
    → let y = make_of p nodes nf (place_of E es (path_no key i)) (node_of E D es vs (path_no key i)) (depth i) key (suc n) in
    (es' : ℕ → ℕ) × (on' : ℕ → Owner) × Image y.0.pool y.1 y.2 q cells cf (with_path E key i (suc n)) D es' vs val on' od
    × (y.0.at ≡ place_of (with_path E key i (suc n)) es' (path_no key (i + suc n)))
    × (account_of y.0.pool ≡ run (kind_of child_top p) (nodes_come (kind_of child_top p) (suc n) (items E (path_no key i))) (account_of p))
    × (y.0.pool.size ≡ p.size)
make_image {p} {nodes} {nf} {q} {cells} {cf} {E} {D} {es} {vs} {val} {on} {od} m key i n low h there new s f =
    makes q cells cf D vs val od key low n p nodes nf E es on m i h (there i (le_refl i)) new s f
    (place_of E es (path_no key i)) (node_of E D es vs (path_no key i)) refl refl

-- ---- the nodes with a path's missing ones

-- a node off the path, or below it, has no other children than before
path_items : (key n : ℕ) (E : ℕ → Bool) (i m : ℕ) → i + n ≤ 6 → ((j : ℕ) → i ≤ j → j < i + n → path_no key j ≡ m → ⊥)
    → items (with_path E key i n) m ≡ items E m
unfolding with_path
path_items key zero E i m h f = refl
path_items key (suc n) E i m h f =
    path_items key n (upd E (path_no key (suc i)) true) (suc i) m (omega arith) (λ j a b. f j (omega arith) (omega arith))
    ∙ items_other E (path_no key (suc i)) m true (λ e. f i (le_refl i) (omega arith) (sym (path_up key i (omega arith)) ∙ e))

-- the lowest node is there
pub made_there : (E : ℕ → Bool) (key i n : ℕ) → with_path E key i (suc n) (path_no key (i + suc n)) ≡ true
made_there E key i n =
    (with_path_lem E key i (suc n) (path_no key (i + suc n))).1 (inr (record { level = i + suc n; after = omega arith; within = le_refl (i + suc n); here = refl }))

-- and has empty words
pub made_blank : {E D : ℕ → Bool} → Shape E D → (key i n : ℕ) → key < 2 ^ width → i + suc n ≤ 6 → E (path_no key (i + suc n)) ≡ false
    → (es vs : ℕ → ℕ) → node_of (with_path E key i (suc n)) D es vs (path_no key (i + suc n)) ≡ empty_node
made_blank {E} {D} shape key i n low h new es vs =
    let k : i + suc n ≡ suc (i + n) = omega arith in
    let none = no_items shape (path_no key (i + suc n)) (rw k (omega (arith, path_far key (i + n)))) new in
    blank (with_path E key i (suc n)) D es vs (path_no key (i + suc n))
    (path_items key (suc n) E i (path_no key (i + suc n)) h
    (λ j a b e. omega (arith, path_differ key j (i + suc n) low (omega arith) h e)) ∙ none.0) none.1
