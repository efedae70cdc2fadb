-- Document 01's closed form of room is the mark at the end of the row of moves, so it holds exactly where each block in turn is supplied. Assumes nothing.
use mathlib.Core.Path.{◌≡◌, refl, sym, ap, ap₂, ◌∙◌}
use mathlib.Core.Bool.{Bool, true, false, cond, ◌&&◌}
use mathlib.Core.Option.{none, some}
use mathlib.Core.List.{List, [], ◌∷◌, ◌++◌}
use Prim.Native.Nat.{ℕ, zero, suc, ◌+◌, ◌-◌, ◌≤◌, ◌<◌}
use native.Mathlib.Omega.{arith}
use native.Mathlib.Nat.{mul-one}
use lib.Dec.{leb, ltb, eqb}
use borrow.Author.Tests.{ltb-true}
use Rattle.bits.specs.Bits.{one}
use Rattle.rules.specs.Rules.{put, del, is_some, is_live}
use Rattle.rules.specs.Account.{Kind, node_pool, cell_pool, tier, spacing, Account, ask, taking, giving, Move, takes, gives, lowers, moved, run, steps, holds}
use Rattle.rules.specs.Ledger.{rise, fall, times, nodes_come, nodes_go, come_need, rise_need, fall_need, go_need, Ledger, data_on, node_moves, cell_moves, insert_room, remove_room}
use Rattle.rules.proofs.Tests.{eqb_sym}
use Rattle.rules.proofs.Supply.{Tiered, node_tiered, set_other, run_append, steps_run, giving_free, times_takes, times_gives_mark, times_gives_free}

module _ (K : Kind) where
  -- a count rises
  pub rise_mark : (c : ℕ) (a : Account) → (run K (rise K c) a).mark ≡ a.mark + rise_need K c a
  unfolding run rise rise_need moved taking giving
  rise_mark zero a = refl
  rise_mark (suc c) a = go (ltb (tier K (suc c)) (tier K (suc (suc c))))
    where
      go : (b : Bool)
          → (run K (cond b (takes (tier K (suc (suc c))) ∷ gives (tier K (suc c)) ∷ []) []) a).mark
          ≡ a.mark + cond b (ask K (tier K (suc (suc c))) a) 0
      go true = refl
      go false = omega arith

  -- a count falls, after s single blocks came back
  fall_after : (s c : ℕ) (a b : Account) → b.mark ≡ a.mark → ((t : ℕ) → b.free t ≡ a.free t + cond (eqb t 0) s 0)
      → (run K (fall K c) b).mark ≡ a.mark + fall_need K s c a
  unfolding run fall fall_need moved taking giving
  fall_after s zero a b m f = omega arith
  fall_after s (suc zero) a b m f = omega arith
  fall_after s (suc (suc c)) a b m f = go (ltb (tier K (suc c)) (tier K (suc (suc c))))
    where
      t : ℕ
      t = tier K (suc c)

      go : (x : Bool) → (run K (cond x (lowers (tier K (suc (suc c))) t ∷ []) []) b).mark
          ≡ a.mark + cond x (cond (eqb (a.free t + cond (eqb t 0) s 0) 0) (spacing K t) 0) 0
      go true = rw (← f t, m)
      go false = omega arith

  -- a count falls
  pub fall_mark : (c : ℕ) (a : Account) → (run K (fall K c) a).mark ≡ a.mark + fall_need K 0 c a
  fall_mark c a = fall_after 0 c a a refl (λ t. go (eqb t 0) t)
    where
      go : (b : Bool) (t : ℕ) → a.free t ≡ a.free t + cond b 0 0
      go true t = omega arith
      go false t = omega arith

  -- emptied nodes go
  pub go_mark : (k c : ℕ) (a : Account) → (run K (nodes_go K k c) a).mark ≡ a.mark + go_need K k c a
  unfolding nodes_go go_need
  go_mark zero c a = unfold run in omega arith
  go_mark (suc k) c a =
      ap (λ (b : Account). b.mark) (run_append K (times k (gives 0)) (fall K c) a)
      ∙ fall_after k c a (run K (times k (gives 0)) a) (times_gives_mark K k 0 a)
      (λ t. times_gives_free K k 0 t a ∙ (rw (eqb_sym 0 t)))

  module _ (tiered : Tiered K) where
    -- single blocks of one cell
    singles : (k : ℕ) (a : Account) → (run K (times k (takes 0)) a).mark ≡ a.mark + (k - a.free 0)
    singles k a = times_takes K k 0 a ∙ (rw tiered.single (ap (λ (x : ℕ). a.mark + x) (mul-one (k - a.free 0))))

    -- missing nodes come
    pub come_mark : (k c : ℕ) (a : Account) → (run K (nodes_come K k c) a).mark ≡ a.mark + come_need K k c a
    unfolding nodes_come come_need rise
    come_mark zero c a = unfold run in omega arith
    come_mark (suc k) zero a = rw tiered.first (singles (suc k) a)
    come_mark (suc k) (suc c) a = go (ltb (tier K (suc c)) (tier K (suc (suc c)))) refl
      where
        t : ℕ
        t = tier K (suc c)

        u : ℕ
        u = tier K (suc (suc c))

        -- the block of the higher tier is taken, the old one comes back, and the singles follow
        back : t < u → (giving t (taking K u a)).free 0 ≡ a.free 0 + one (eqb t 0)
        back h =
            giving_free K t 0 (taking K u a)
            ∙ ap (λ (x : ℕ). x + one (eqb t 0)) (unfold taking in set_other a.free u 0 (a.free u - 1) (λ z. omega arith))

        grown : t < u → (run K (takes u ∷ gives t ∷ times k (takes 0)) a).mark ≡ a.mark + (ask K u a + (k - (a.free 0 + one (eqb t 0))))
        grown h = unfold run moved in (singles k (giving t (taking K u a)) ∙ (rw (back h) (unfold giving taking in omega arith)))

        go : (x : Bool) → ltb t u ≡ x → (run K (cond x (takes u ∷ gives t ∷ []) [] ++ times k (takes 0)) a).mark
            ≡ a.mark + cond x (ask K u a + (k - (a.free 0 + one (eqb t 0)))) (k - a.free 0)
        go true e = grown (ltb-true t u e)
        go false e = singles k a

  -- the steps of a row that ends n above the mark succeed exactly where the unused end holds n
  pub steps_holds : (ms : List Move) (n : ℕ) (a : Account) → a.mark ≤ K.size → (run K ms a).mark ≡ a.mark + n → is_some (steps K ms a) ≡ holds K n a
  steps_holds ms n a h e = ap is_some (steps_run K ms a h) ∙ go (leb (run K ms a).mark K.size) ∙ ap (λ (m : ℕ). leb m K.size) e
    where
      go : (b : Bool) → is_some (cond b (some (run K ms a)) none) ≡ b
      go true = refl
      go false = refl

module _ {Value : Type 0} (N D : ℕ) (g : Ledger Value) (key len : ℕ) where
  -- the data pool's mark after an insert
  pub insert_cells : (v : Value) → (run (cell_pool D) (cell_moves D g.rules (put key len v)) g.cells).mark
      ≡ g.cells.mark + cond (is_live g.rules key len) 0 (rise_need (cell_pool D) (data_on g.rules key len) g.cells)
  unfolding cell_moves
  insert_cells v = go (is_live g.rules key len)
    where
      go : (b : Bool) → (run (cell_pool D) (cond b [] (rise (cell_pool D) (data_on g.rules key len))) g.cells).mark
          ≡ g.cells.mark + cond b 0 (rise_need (cell_pool D) (data_on g.rules key len) g.cells)
      go true = unfold run in omega arith
      go false = rise_mark (cell_pool D) (data_on g.rules key len) g.cells

  -- and after a removal
  pub remove_cells : (run (cell_pool D) (cell_moves D g.rules (del key len)) g.cells).mark
      ≡ g.cells.mark + cond (is_live g.rules key len) (fall_need (cell_pool D) 0 (data_on g.rules key len) g.cells) 0
  unfolding cell_moves
  remove_cells = go (is_live g.rules key len)
    where
      go : (b : Bool) → (run (cell_pool D) (cond b (fall (cell_pool D) (data_on g.rules key len)) []) g.cells).mark
          ≡ g.cells.mark + cond b (fall_need (cell_pool D) 0 (data_on g.rules key len) g.cells) 0
      go true = fall_mark (cell_pool D) (data_on g.rules key len) g.cells
      go false = unfold run in omega arith

  module _ (nodes : g.nodes.mark ≤ N) (cells : g.cells.mark ≤ D) where
    -- room for an insert is there exactly where every block that it takes, one after the other, is free or at the end
    pub insert_room_lem : (v : Value) → insert_room N D g key len
        ≡ is_some (steps (node_pool N) (node_moves N g.rules (put key len v)) g.nodes)
        && is_some (steps (cell_pool D) (cell_moves D g.rules (put key len v)) g.cells)
    unfolding insert_room node_moves
    insert_room_lem v = ap₂ ◌&&◌
        (sym (steps_holds (node_pool N) _ _ g.nodes nodes (come_mark (node_pool N) (node_tiered N) _ _ g.nodes)))
        (sym (steps_holds (cell_pool D) _ _ g.cells cells (insert_cells v)))

    -- and so for a removal
    pub remove_room_lem : remove_room N D g key len
        ≡ is_some (steps (node_pool N) (node_moves N g.rules (del key len)) g.nodes)
        && is_some (steps (cell_pool D) (cell_moves D g.rules (del key len)) g.cells)
    unfolding remove_room node_moves
    remove_room_lem = ap₂ ◌&&◌
        (sym (steps_holds (node_pool N) _ _ g.nodes nodes (go_mark (node_pool N) _ _ g.nodes)))
        (sym (steps_holds (cell_pool D) _ _ g.cells cells remove_cells))
