-- Runs and lifts of items, for any way to hold items in words: where each item goes, what stays, what is kept. Assumes nothing.
use mathlib.Core.Path.{◌≡◌, refl, ◌∙◌}
use mathlib.Core.Bool.{Bool, true, false}
use mathlib.Core.List.{List}
use mathlib.Core.Logic.{◌⊎◌, inl, inr}
use Prim.Native.Nat.{ℕ, zero, suc, ◌+◌, ◌-◌, ◌≤◌, ◌<◌}
use native.Mathlib.Omega.{arith}
use native.Mathlib.Decide.{ℕ_discrete}
use Rattle.store.specs.Moves.{move_of, run_of, lift_of, open_of, close_of}
use Rattle.store.proofs.Items.{Items}

-- position i is outside the n positions from a on
abbrev pub Outside : ℕ → ℕ → ℕ → Type 0
Outside a n i = a ≤ i → i < a + n → ⊥

-- a run overwrites nothing that it has yet to move: it goes downwards, or to a block wholly above
abbrev pub Clear : ℕ → ℕ → ℕ → Type 0
Clear n a b = (b < a) ⊎ (a + n ≤ b)

-- m' is m after n items went from a to b: what arrives, what stays behind, what is as it was
pub record Ran {A : Type 0} (m m' : ℕ → A) (e : A) (n a b : ℕ) : Type 0 where
  pub to : (i : ℕ) → i < n → m' (b + i) ≡ m (a + i)
  pub gone : (i : ℕ) → i < n → Outside b n (a + i) → m' (a + i) ≡ e
  pub off : (i : ℕ) → Outside a n i → Outside b n i → m' i ≡ m i

-- m' is m after n items from a on went up by one. What stays at a isn't said: a new item is written there
pub record Raised {A : Type 0} (m m' : ℕ → A) (n a : ℕ) : Type 0 where
  pub up : (i : ℕ) → i < n → m' (a + suc i) ≡ m (a + i)
  pub off : (i : ℕ) → Outside a (suc n) i → m' i ≡ m i

-- what a single move keeps (the length, the room), a run keeps
pub run_keeps : {B : Type 0} (f : List ℕ → B) (move : List ℕ → ℕ → ℕ → List ℕ) → ((l : List ℕ) (i j : ℕ) → f (move l i j) ≡ f l)
    → (n : ℕ) (l : List ℕ) (a b : ℕ) → f (run_of move n l a b) ≡ f l
unfolding run_of
run_keeps f move keeps zero l a b = refl
run_keeps f move keeps (suc n) l a b = keeps (run_of move n l a b) (a + n) (b + n) ∙ run_keeps f move keeps n l a b

module _ {A : Type 0} {room : List ℕ → ℕ} {at : List ℕ → ℕ → A} {save : List ℕ → ℕ → A → List ℕ} (I : Items room at save) (e : A) where
  abbrev move : List ℕ → ℕ → ℕ → List ℕ
  move = move_of at save e

  -- ---- one move

  -- it keeps the room
  pub move_room : (l : List ℕ) (i j : ℕ) → room (move l i j) ≡ room l
  move_room l i j = I.stays (save l j (at l i)) i e ∙ I.stays l j (at l i)

  -- the item arrives
  pub move_to : (l : List ℕ) (i j : ℕ) → (i ≡ j → ⊥) → j < room l → at (move l i j) j ≡ at l i
  move_to l i j f h = I.other (save l j (at l i)) i j e f ∙ I.same l j (at l i) h

  -- an empty one stays behind
  pub move_from : (l : List ℕ) (i j : ℕ) → i < room l → at (move l i j) i ≡ e
  move_from l i j h = I.same (save l j (at l i)) i e (rw (I.stays l j (at l i)) h)

  -- the others are as they were
  pub move_off : (l : List ℕ) (i j k : ℕ) → (i ≡ k → ⊥) → (j ≡ k → ⊥) → at (move l i j) k ≡ at l k
  move_off l i j k f g = I.other (save l j (at l i)) i k e f ∙ I.other l j k (at l i) g

  -- ---- a run

  -- it keeps the room
  pub run_room : (n : ℕ) (l : List ℕ) (a b : ℕ) → room (run_of move n l a b) ≡ room l
  run_room = run_keeps room move move_room

  -- one more item goes
  ran_more : (m : ℕ → A) (l : List ℕ) (n a b : ℕ) → (a ≡ b → ⊥) → Outside b n (a + n) → a + n < room l → b + n < room l
      → Ran m (at l) e n a b → Ran m (at (move l (a + n) (b + n))) e (suc n) a b
  ran_more m l n a b ne cl ha hb r = record {
    to = λ i h. to i h (ℕ_discrete i n);
    gone = λ i h g. gone i h g (ℕ_discrete i n);
    off = λ i g h.
        move_off l (a + n) (b + n) i (λ q. g (omega arith) (omega arith)) (λ q. h (omega arith) (omega arith))
        ∙ r.off i (λ p q. g p (omega arith)) (λ p q. h p (omega arith));
  }
    where
      to : (i : ℕ) → i < suc n → Dec (i ≡ n) → at (move l (a + n) (b + n)) (b + i) ≡ m (a + i)
      to i h (yes q) = rw q (move_to l (a + n) (b + n) (λ w. ne (omega arith)) hb ∙ r.off (a + n) (λ x y. omega arith) cl)
      to i h (no q) =
          move_off l (a + n) (b + n) (b + i) (λ w. cl (omega arith) (omega arith)) (λ w. q (omega arith)) ∙ r.to i (omega arith)

      gone : (i : ℕ) → i < suc n → Outside b (suc n) (a + i) → Dec (i ≡ n) → at (move l (a + n) (b + n)) (a + i) ≡ e
      gone i h g (yes q) = rw q (move_from l (a + n) (b + n) ha)
      gone i h g (no q) =
          move_off l (a + n) (b + n) (a + i) (λ w. q (omega arith)) (λ w. g (omega arith) (omega arith))
          ∙ r.gone i (omega arith) (λ x y. g x (omega arith))

  -- n items go from a to b
  pub ran : (n : ℕ) (l : List ℕ) (a b : ℕ) → Clear n a b → a + n ≤ room l → b + n ≤ room l → Ran (at l) (at (run_of move n l a b)) e n a b
  unfolding run_of
  ran zero l a b c ha hb = record { to = λ i h. absurd (omega arith); gone = λ i h g. absurd (omega arith); off = λ i g h. refl }
  ran (suc n) l a b c ha hb =
      ran_more (at l) (run_of move n l a b) n a b (apart c) (ahead c) (rw run_room (omega arith)) (rw run_room (omega arith))
      (ran n l a b (fewer c) (omega arith) (omega arith))
    where
      apart : Clear (suc n) a b → a ≡ b → ⊥
      apart (inl c) q = omega arith
      apart (inr c) q = omega arith

      ahead : Clear (suc n) a b → Outside b n (a + n)
      ahead (inl c) p q = omega arith
      ahead (inr c) p q = omega arith

      fewer : Clear (suc n) a b → Clear n a b
      fewer (inl c) = inl c
      fewer (inr c) = inr (omega arith)

  -- ---- a lift

  -- n items from a on go up by one
  pub raised : (n : ℕ) (l : List ℕ) (a : ℕ) → a + n < room l → Raised (at l) (at (lift_of move n l a)) n a
  unfolding lift_of
  raised zero l a h = record { up = λ i h. absurd (omega arith); off = λ i h. refl }
  raised (suc n) l a h =
      let l₁ = move l (a + n) (a + n + 1) in
      let r : Raised (at l₁) (at (lift_of move n l₁ a)) n a = raised n l₁ a (rw move_room (omega arith)) in
      record {
        up = λ i p. up r i p (ℕ_discrete i n);
        off = λ i f.
            r.off i (λ p q. f p (omega arith))
            ∙ move_off l (a + n) (a + n + 1) i (λ q. f (omega arith) (omega arith)) (λ q. f (omega arith) (omega arith));
      }
    where
      up : Raised (at (move l (a + n) (a + n + 1))) (at (lift_of move n (move l (a + n) (a + n + 1)) a)) n a → (i : ℕ) → i < suc n
          → Dec (i ≡ n) → at (lift_of move n (move l (a + n) (a + n + 1)) a) (a + suc i) ≡ at l (a + i)
      up r i p (yes q) =
          let w : a + suc n ≡ a + n + 1 = omega arith in
          rw (q, w) (r.off (a + n + 1) (λ x y. omega arith) ∙ move_to l (a + n) (a + n + 1) (λ z. omega arith) (omega arith))
      up r i p (no q) = r.up i (omega arith) ∙ move_off l (a + n) (a + n + 1) (a + i) (λ w. q (omega arith)) (λ w. omega arith)

-- ---- what a single move keeps, a lift, an opened block and a closed block keep

module _ {B : Type 0} (f : List ℕ → B) (move : List ℕ → ℕ → ℕ → List ℕ) (keeps : (l : List ℕ) (i j : ℕ) → f (move l i j) ≡ f l) where
  -- a lift
  pub lift_keeps : (n : ℕ) (l : List ℕ) (a : ℕ) → f (lift_of move n l a) ≡ f l
  unfolding lift_of
  lift_keeps zero l a = refl
  lift_keeps (suc n) l a = lift_keeps n (move l (a + n) (a + n + 1)) a ∙ keeps l (a + n) (a + n + 1)

  -- a block opened
  pub open_keeps : (here : Bool) (l : List ℕ) (a b n k : ℕ) → f (open_of move here l a b n k) ≡ f l
  unfolding open_of
  open_keeps true l a b n k = lift_keeps (n - k) l (a + k)
  open_keeps false l a b n k = run_keeps f move keeps (n - k) (run_of move k l a b) (a + k) (b + k + 1) ∙ run_keeps f move keeps k l a b

  -- a block closed
  pub close_keeps : (here : Bool) (l : List ℕ) (a b n k : ℕ) → f (close_of move here l a b n k) ≡ f l
  unfolding close_of
  close_keeps true l a b n k = run_keeps f move keeps (n - k - 1) l (a + k + 1) (a + k)
  close_keeps false l a b n k =
      run_keeps f move keeps (n - k - 1) (run_of move k l a b) (a + k + 1) (b + k) ∙ run_keeps f move keeps k l a b
