-- THE THEOREM: after every trace, the map is the live rules and the block ledger of the accepted edits, and the trace's answers are
-- those that the ledger gives. Assumes nothing.
use mathlib.Core.Path.{◌≡◌, refl, sym, ap, ap₂, ◌∙◌, subst}
use mathlib.Core.Bool.{Bool, true, false, cond}
use mathlib.Core.Option.{Option, none, some}
use mathlib.Core.List.{List, [], ◌∷◌}
use Prim.Native.Nat.{ℕ, ◌^◌, ◌≤◌, ◌<◌}
use native.Mathlib.Decide.{dec_le}
use native.Mathlib.Omega.{arith}
use borrow.Author.Tests.{le-leb, lt-leb}
use lib.Dec.{leb}
use Rattle.prefix.specs.Prefix.{width}
use Rattle.store.specs.declared.Cell.{Cell}
use Rattle.map.specs.declared.State.{State}
use Rattle.map.specs.declared.Answer.{Answer}
use Rattle.map.specs.declared.Answer.TheVariants.{TooLong, NoRoom}
use Rattle.map.specs.declared.Edited.{Edited}
use Rattle.map.specs.Memory.{Memory, edited}
use Rattle.map.specs.Lookups.{exact_of, longest_of, shortest_of}
use Rattle.map.specs.Inserts.{insert_of}
use Rattle.map.specs.Removals.{remove_of}
use Rattle.rules.specs.Rules.{Edit, put, value_at, rule_count}
use Rattle.rules.specs.Account.{Account}
use Rattle.rules.specs.Ledger.{Ledger, entered, ledger_from, insert_room, remove_room}
use Rattle.rules.proofs.Always.{fresh_rules}
use Rattle.history.specs.Calls.{Call, insert, remove, exact, longest, shortest, Given, stored, taken, reply, noted, history}
use Rattle.history.specs.Traces.{promised, Trace, begun, called}
use Rattle.history.specs.Promises.{ledger, edits, replies, Right}
use Rattle.history.proofs.Booked.{Booked}
use Rattle.history.proofs.Settling.{Done}
use Rattle.history.proofs.TooLong.{lookup_long, insert_long, remove_long}
use Rattle.history.proofs.Starting.{booked_fresh}
use Rattle.history.proofs.Lookups.{exact_told, longest_told, shortest_told}
use Rattle.history.proofs.Making.{insert_done}
use Rattle.history.proofs.Lifting.{left_by, remove_done}

-- a lookup's answer, whatever its length
either : (len : ℕ) (x y : Answer) → (len ≤ width → x ≡ y) → (width < len → x ≡ TooLong) → x ≡ cond (leb len width) y TooLong
either len x y f h = go (dec_le len width)
  where
    go : Dec (len ≤ width) → x ≡ cond (leb len width) y TooLong
    go (yes k) = rw (le-leb len width k) (f k)
    go (no k) = rw (lt-leb len width (omega arith)) (h (omega arith))

module _ {N D : ℕ} (h : List (Edit Cell)) {s : State} {m : Memory} (b : Booked N D (ledger N D h) s m) where
  abbrev g : Ledger Cell
  g = ledger N D h

  -- what a call leaves
  abbrev Left : Call → Type 0
  Left c = Done N D (ledger N D (noted c (reply N D g c) h)) (reply N D g c) (promised c s m)

  -- a lookup changes nothing
  look : (c : Call) (a : Answer) → promised c s m ≡ (edited a s, m) → noted c (reply N D g c) h ≡ h → a ≡ reply N D g c → Left c
  look c a e n r = rw (e, n) (record { answer = r; booked = b })

  inserted : (key len : ℕ) (v : Cell) → key < 2 ^ width → Left (insert key len v)
  unfolding reply promised
  inserted key len v hk = go (dec_le len width)
    where
      room : (t : Bool) (o : Option Cell) → Done N D (cond t (entered N D (put key len v) g) g) (cond t (stored key len o) NoRoom) (insert_of s m key len v)
          → Done N D (ledger N D (noted (insert key len v) (cond t (stored key len o) NoRoom) h)) (cond t (stored key len o) NoRoom) (insert_of s m key len v)
      room true none d = unfold ledger_from in d
      room true (some w) d = unfold ledger_from in d
      room false o d = d

      go : Dec (len ≤ width) → Left (insert key len v)
      go (yes k) = rw (le-leb len width k) (room (insert_room N D g key len) (value_at g.rules key len) (insert_done b key len v (record { bits = hk; short = k })))
      go (no k) = rw (lt-leb len width (omega arith)) (insert_long b key len (omega arith) v)

  removed : (key len : ℕ) → key < 2 ^ width → Left (remove key len)
  unfolding reply promised
  removed key len hk = go (dec_le len width)
    where
      room : (t : Bool) (o : Option Cell) → remove_room N D g key len ≡ t → Done N D (left_by N D g key len o) (taken key len t o) (remove_of s m key len)
          → Done N D (ledger N D (noted (remove key len) (taken key len t o) h)) (taken key len t o) (remove_of s m key len)
      room t none e d = d
      room true (some w) e d = unfold ledger_from in rw e at d
      room false (some w) e d = rw e at d

      go : Dec (len ≤ width) → Left (remove key len)
      go (yes k) = rw (le-leb len width k)
          (room (remove_room N D g key len) (value_at g.rules key len) refl (remove_done b key len (record { bits = hk; short = k }) (value_at g.rules key len) refl))
      go (no k) = rw (lt-leb len width (omega arith)) (remove_long b key len (omega arith))

  -- every call answers as the ledger says, and leaves the ledger of the accepted edits
  pub step : (c : Call) → Given c → Left c
  unfolding reply promised exact_of longest_of shortest_of
  step (insert key len v) k = inserted key len v k
  step (remove key len) k = removed key len k
  step (exact key len) k = look (exact key len) (exact_of s m.nodes m.cells key len) refl refl
      (either len _ _ (λ i. exact_told b key len (record { bits = k; short = i })) (λ i. lookup_long b key len i _))
  step (longest key len) k = look (longest key len) (longest_of s m.nodes m.cells key len) refl refl
      (either len _ _ (λ i. longest_told b key len (record { bits = k; short = i })) (λ i. lookup_long b key len i _))
  step (shortest key len) k = look (shortest key len) (shortest_of s m.nodes m.cells key len) refl refl
      (either len _ _ (λ i. shortest_told b key len (record { bits = k; short = i })) (λ i. lookup_long b key len i _))

  -- so what is promised of a history holds
  pub right : Right N D h s m
  right = record {
    rules = fresh_rules N D h;
    next = λ c k. (step c k).answer;
    count = b.count ∙ ap rule_count (fresh_rules N D h);
    node_size = b.node_size;
    node_mark = ap (λ (a : Account). a.mark) b.node_account;
    node_free = λ t. ap (λ (a : Account). a.free t) b.node_account;
    cell_size = b.cell_size;
    cell_mark = ap (λ (a : Account). a.mark) b.cell_account;
    cell_free = λ t. ap (λ (a : Account). a.free t) b.cell_account;
    balanced = b.balanced;
  }

  -- and of the outcome that a call's promise fixes
  pub grown : (c : Call) → Given c → (e : Edited) (m' : Memory) → promised c s m ≡ (e, m')
      → (e.answer ≡ reply N D g c) × Booked N D (ledger N D (noted c e.answer h)) e.state m'
  grown c k e m' q =
      let d : Done N D (ledger N D (noted c (reply N D g c) h)) (reply N D g c) (e, m') = subst (Done N D (ledger N D (noted c (reply N D g c) h)) (reply N D g c)) q (step c k) in
      (d.answer, subst (λ (a : Answer). Booked N D (ledger N D (noted c a h)) e.state m') (sym d.answer) d.booked)

-- the accepted edits, call by call
history_none : history [] [] ≡ []
unfolding history
history_none = refl

history_next : (c : Call) (cs : List Call) (a : Answer) (ans : List Answer) → history (c ∷ cs) (a ∷ ans) ≡ noted c a (history cs ans)
unfolding history
history_next c cs a ans = refl

-- every trace is booked
pub always : {N D : ℕ} {cs : List Call} {ans : List Answer} {s : State} {m : Memory} → Trace N D cs ans s m → Booked N D (ledger N D (history cs ans)) s m
always {N = N} {D = D} (begun lent m s e) =
    subst (λ (h : List (Edit Cell)). Booked N D (ledger N D h) s m) (sym history_none) (unfold ledger_from in (booked_fresh N D lent m s e))
always {N = N} {D = D} (called cs ans s m c e m' t k q) =
    subst (λ (h : List (Edit Cell)). Booked N D (ledger N D h) e.state m') (sym (history_next c cs e.answer ans))
    (grown (history cs ans) (always t) c k e m' q).1

-- THE THEOREM
pub theorem : {N D : ℕ} {cs : List Call} {ans : List Answer} {s : State} {m : Memory} → Trace N D cs ans s m → Right N D (history cs ans) s m
theorem {cs = cs} {ans = ans} t = right (history cs ans) (always t)

-- one more call, with equal histories
next_pinned : (N D : ℕ) (c : Call) (cs : List Call) (a : Answer) (ans : List Answer) (h : List (Edit Cell))
    → (h ≡ edits N D cs) × (ans ≡ replies N D cs) → a ≡ reply N D (ledger N D h) c
    → (noted c a h ≡ edits N D (c ∷ cs)) × (a ∷ ans ≡ replies N D (c ∷ cs))
unfolding edits replies
next_pinned N D c cs a ans h i e =
    let w : a ≡ reply N D (ledger N D (edits N D cs)) c = e ∙ ap (λ (x : List (Edit Cell)). reply N D (ledger N D x) c) i.0 in
    (ap₂ (noted c) w i.0, ap₂ ◌∷◌ w i.1)

-- a trace's answers and its accepted edits are functions of its calls
pub pinned : {N D : ℕ} {cs : List Call} {ans : List Answer} {s : State} {m : Memory} → Trace N D cs ans s m → (history cs ans ≡ edits N D cs) × (ans ≡ replies N D cs)
pinned (begun lent m s e) = unfold history edits replies in (refl, refl)
pinned {N = N} {D = D} (called cs ans s m c e m' t k q) =
    let w = next_pinned N D c cs e.answer ans (history cs ans) (pinned t) (grown (history cs ans) (always t) c k e m' q).0 in
    (history_next c cs e.answer ans ∙ w.0, w.1)
