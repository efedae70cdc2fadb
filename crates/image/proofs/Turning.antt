-- One turn of a removal's way up on an image: a node that holds nothing goes, and its row of moves comes before those that are left. Assumes nothing.
use mathlib.Core.Path.{◌≡◌, refl, sym, ap, ◌∙◌}
use mathlib.Core.Bool.{Bool, true, false, and-eq-true_iff}
use mathlib.Core.List.{List, ◌++◌, append-nil}
use Prim.Native.Nat.{ℕ, zero, suc, ◌/◌, ◌%◌, ◌≤◌, ◌<◌}
use native.Mathlib.Omega.{arith}
use Rattle.tiers.specs.Tiers.{child_top}
use Rattle.places.specs.Places.{child_bit}
use Rattle.blocks.specs.declared.Pool.{Pool}
use Rattle.store.specs.declared.Cell.{Cell}
use Rattle.edits.specs.Removing.{up_of}
use Rattle.rules.specs.Account.{Kind, tier, Account, Move, run, steps}
use Rattle.rules.specs.Ledger.{fall, nodes_go}
use Rattle.rules.proofs.Supply.{run_append}
use Rattle.rules.proofs.Returns.{Fits}
use Rattle.pools.specs.Items.{upd, items, place_of}
use Rattle.pools.specs.Sound.{Owner}
use Rattle.pools.specs.Accounts.{kind_of, account_of, supplied, number_of}
use Rattle.pools.proofs.Accounts.{supplied_append, fits_front, fits_back}
use Rattle.image.specs.Image.{node_of, Image}
use Rattle.image.proofs.Dropping.{shrunk, up_image, up_size, up_account}

-- ---- rows of moves

-- of n + 1 nodes that go, the lowest comes first: from under its parent of one child, or from under the one parent
pub go_first : (n c e r : ℕ) → (n ≡ 0 → e ≡ c) → (0 < n → (e ≡ 1) × (r ≡ c)) → (K : Kind) → tier K 1 ≡ 0 → nodes_go K (suc n) c ≡ fall K e ++ nodes_go K n r
unfolding nodes_go fall
go_first zero c e r f g K o = rw (f refl) (sym (append-nil (fall K c)))
go_first (suc n) c e r f g K o = let h = g (omega arith) in rw (h.0, h.1, o)

-- where no node goes, nothing is asked
pub none_number : (K : Kind) (c : ℕ) (a : Account) → number_of K (nodes_go K 0 c) a ≡ 0
unfolding nodes_go steps
none_number K c a = refl

-- and nothing moves
pub none_run : (K : Kind) (c : ℕ) (a : Account) → run K (nodes_go K 0 c) a ≡ a
unfolding nodes_go run
none_run K c a = refl

-- the second part ns of a row, on a pool that the first part ms has left: its kind K' and its account a'
module _ (K K' : Kind) (a a' : Account) (ms : List Move) (ns : Kind → List Move) (k : K' ≡ K) (r : a' ≡ run K ms a) where
  -- it can be supplied there
  pub then_supplied : supplied K (ns K) (run K ms a) ≡ true → supplied K' (ns K') a' ≡ true
  then_supplied s = rw (k, r) s

  -- its returns find a place
  pub then_fits : Fits K (ms ++ ns K) a → Fits K' (ns K') a'
  then_fits f = rw (k, r) (fits_back K ms (ns K) a f)

  -- it leaves what the whole row leaves
  pub then_run : run K' (ns K') a' ≡ run K (ms ++ ns K) a
  then_run = rw (k, r) (sym (run_append K ms (ns K) a))

  -- and it has its number
  pub then_number : number_of K' (ns K') a' ≡ number_of K (ns K) (run K ms a)
  then_number = rw (k, r)

-- ---- one turn

-- what a turn of the way up makes of pool p: u is what it leaves, E and es the nodes then; `row` is what the whole way takes and returns, `rest` what is left of it
pub record Turned (q : Pool) (cells cf : List ℕ) (D : ℕ → Bool) (vs : ℕ → ℕ) (val : ℕ → Cell) (od : ℕ → Owner) (p : Pool) (u : Pool × List ℕ × List ℕ)
    (E : ℕ → Bool) (es : ℕ → ℕ) (row rest : Kind → List Move)
    : Type 0 where
  pub on : ℕ → Owner
  pub image : Image u.0 u.1 u.2 q cells cf E D es vs val on od
  pub size : u.0.size ≡ p.size
  pub supply : supplied (kind_of child_top u.0) (rest (kind_of child_top u.0)) (account_of u.0) ≡ true
  pub fits : Fits (kind_of child_top u.0) (rest (kind_of child_top u.0)) (account_of u.0)
  pub account : run (kind_of child_top u.0) (rest (kind_of child_top u.0)) (account_of u.0) ≡ run (kind_of child_top p) (row (kind_of child_top p)) (account_of p)

-- a node that holds nothing goes, and the rest of the row can be done on what is left
pub turned : {p : Pool} {nodes nf : List ℕ} {q : Pool} {cells cf : List ℕ} {E D : ℕ → Bool} {es vs : ℕ → ℕ} {val : ℕ → Cell} {on od : ℕ → Owner}
    → Image p nodes nf q cells cf E D es vs val on od → (x : ℕ) → 32 ≤ x → E x ≡ true → (items E x ≡ 0) × (items D x ≡ 0) → (row rest : Kind → List Move)
    → row (kind_of child_top p) ≡ fall (kind_of child_top p) (items E (x / 32)) ++ rest (kind_of child_top p)
    → supplied (kind_of child_top p) (row (kind_of child_top p)) (account_of p) ≡ true → Fits (kind_of child_top p) (row (kind_of child_top p)) (account_of p)
    → (key d : ℕ) → child_bit d key ≡ x % 32
    → Turned q cells cf D vs val od p (up_of p nodes nf (place_of E es (x / 32)) (node_of E D es vs (x / 32)) d key) (upd E x false)
    (upd es (x / 32) (shrunk child_top p nf E es x).0.start) row rest
turned {p} {nodes} {nf} {q} {cells} {cf} {E} {D} {es} {vs} {val} {on} {od} m x far e none row rest parts s f key d b =
    let K : Kind = kind_of child_top p in
    let a : Account = account_of p in
    let ms : List Move = fall K (items E (x / 32)) in
    let u : Pool × List ℕ × List ℕ = up_of p nodes nf (place_of E es (x / 32)) (node_of E D es vs (x / 32)) d key in
    let f₁ : Fits K (ms ++ rest K) a = rw parts at f in
    let f₂ : Fits K ms a = fits_front K ms (rest K) a f₁ in
    let s₁ = (and-eq-true_iff (supplied K ms a) (supplied K (rest K) (run K ms a))).0
    (sym (supplied_append K ms (rest K) a) ∙ ap (λ (r : List Move). supplied K r a) (sym parts) ∙ s) in
    let size : u.0.size ≡ p.size = up_size m x e key d b in
    let k : kind_of child_top u.0 ≡ K = rw size in
    let r : account_of u.0 ≡ run K ms a = up_account m x e s₁.0 f₂ key d b in
    let i = up_image m x far e none.0 none.1 s₁.0 f₂ key d b in
    record {
      on = i.0;
      image = i.1;
      size = size;
      supply = then_supplied K (kind_of child_top u.0) a (account_of u.0) ms rest k r s₁.1;
      fits = then_fits K (kind_of child_top u.0) a (account_of u.0) ms rest k r f₁;
      account = then_run K (kind_of child_top u.0) a (account_of u.0) ms rest k r ∙ ap (λ (r : List Move). run K r a) (sym parts);
    }
