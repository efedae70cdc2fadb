-- What a refusal carries: its number and zeros. A lookup's numbers and counts; what every call says to a refused start's state. Assumes nothing.
use mathlib.Core.Path.{◌≡◌, refl, sym, subst}
use mathlib.Core.Bool.{Bool, true, false, cond}
use mathlib.Core.List.{List}
use mathlib.Core.Logic.{inl, inr}
use Prim.Native.Nat.{ℕ, zero, suc, ◌+◌, ◌≤◌}
use native.Mathlib.Decide.{ℕ_discrete}
use native.Mathlib.Omega.{arith}
use lib.ListN.{length}
use Rattle.bits.specs.Bits.{count, set_below}
use Rattle.prefix.specs.Prefix.{width, masked}
use Rattle.store.specs.declared.Cell.{Cell}
use Rattle.store.specs.Words.{cell_at}
use Rattle.entry.specs.First.{lookup_first, edit_first}
use Rattle.entry.specs.Fresh.{pool_as}
use Rattle.entry.proofs.Numbers.{OneOf, lookup_numbers, zero_lookup, zero_edit}
use Rattle.std.specs.Prelude.{Option, Some, None, Result, Ok, Err}
use Rattle.refusals.specs.declared.Refusal.{Refusal}
use Rattle.walk.specs.declared.Sight.{Sight}
use Rattle.walk.specs.declared.Rule.{Rule}
use Rattle.walk.specs.Steps.{data_within}
use Rattle.walk.specs.Lookups.{exact_sight, longest_sight, shortest_sight}
use Rattle.walk.specs.Sights.{Seen}
use Rattle.walk.proofs.Visits.{visited_seven}
use Rattle.walk.proofs.Sights.{exact_seen, longest_seen, shortest_seen}
use Rattle.map.specs.declared.State.{State}
use Rattle.map.specs.declared.Answer.{Answer}
use Rattle.map.specs.declared.Answer.TheVariants.{Started, Added, Replaced, Removed, Found, TooLong, Missing as Absent, WrongSlice, NoRoom, Broken}
use Rattle.map.specs.declared.Values.{Values}
use Rattle.map.specs.Answers.{values, values_of}
use Rattle.map.specs.Memory.{Memory, state_as, edited, refusal}
use Rattle.map.specs.Lookups.{told_of, answer_of, lookup_of, exact_of, longest_of, shortest_of}
use Rattle.map.specs.Inserts.{insert_of}
use Rattle.map.specs.Removals.{remove_of}
use borrow.Author.Tests.{eq-eqb, ne_eqb}
use Rattle.entry.proofs.Ready.{lookup_ready}

-- ---- any answer

-- the refusal of a number: that number, and zeros
pub refusal_values : (n : ℕ) → 1 ≤ n → n ≤ 5 → values_of (refusal n) ≡ values n 0 0 0 0
refusal_values zero h k = absurd (omega arith)
refusal_values (suc zero) h k = refl
refusal_values (suc (suc zero)) h k = refl
refusal_values (suc (suc (suc zero))) h k = refl
refusal_values (suc (suc (suc (suc zero)))) h k = refl
refusal_values (suc (suc (suc (suc (suc zero))))) h k = refl
refusal_values (suc (suc (suc (suc (suc (suc n)))))) h k = absurd (omega arith)

-- an answer that is neither 0 nor 8 shows no key, length or value
pub refused_zeros : (a : Answer) → ((values_of a).number ≡ 0 → ⊥) → ((values_of a).number ≡ 8 → ⊥)
    → values_of a ≡ values (values_of a).number 0 (values_of a).nodes 0 0
refused_zeros Started h k = absurd (h refl)
refused_zeros (Added x l) h k = absurd (h refl)
refused_zeros (Replaced x l v) h k = absurd (k refl)
refused_zeros (Removed x l v) h k = absurd (h refl)
refused_zeros (Found x l v n) h k = absurd (h refl)
refused_zeros TooLong h k = refl
refused_zeros (Absent n) h k = refl
refused_zeros WrongSlice h k = refl
refused_zeros NoRoom h k = refl
refused_zeros Broken h k = refl

-- and only 0 and 2 carry a node count
pub uncounted : (a : Answer) → ((values_of a).number ≡ 0 → ⊥) → ((values_of a).number ≡ 2 → ⊥) → (values_of a).nodes ≡ 0
uncounted Started h k = refl
uncounted (Added x l) h k = refl
uncounted (Replaced x l v) h k = refl
uncounted (Removed x l v) h k = refl
uncounted (Found x l v n) h k = absurd (h refl)
uncounted TooLong h k = refl
uncounted (Absent n) h k = absurd (k refl)
uncounted WrongSlice h k = refl
uncounted NoRoom h k = refl
uncounted Broken h k = refl

-- ---- a lookup

-- a lookup gives 0, 1, 2, 3 or 5, and counts at most seven nodes
pub record LookupValues (v : Values) : Type 0 where
  pub low : v.number ≤ 5
  pub roomy : v.number ≡ 4 → ⊥
  pub seven : v.nodes ≤ 7

-- a rule that was seen, in a block below the mark or not
found_told : (t : Bool) (k m v n : ℕ) → n ≤ 7 → LookupValues (values_of (cond t (Found k m v n) Broken))
found_told true k m v n h = record { low = omega arith; roomy = λ z. omega arith; seven = h }
found_told false k m v n h = record { low = omega arith; roomy = λ z. omega arith; seven = omega arith }

-- the answer of a sight
answer_told : (s : Result Sight Refusal) (cells : List ℕ) (lim key len : ℕ) → len ≤ width → Seen key len s → LookupValues (values_of (answer_of s cells lim key))
unfolding answer_of told_of
answer_told (Err r) cells lim key len h w = record { low = omega arith; roomy = λ z. omega arith; seven = omega arith }
answer_told (Ok s) cells lim key len h w = told s.rule
  where
    few : s.visits ≤ 7
    few = let v = visited_seven len h in let u = w.0 in omega arith

    told : (o : Option Rule) → LookupValues (values_of (told_of o s.visits cells lim key))
    told None = record { low = omega arith; roomy = λ z. omega arith; seven = few }
    told (Some rule) =
        found_told (data_within lim (count rule.bitmap) rule.cells.0) (masked key rule.len) rule.len (cell_at cells (rule.cells.0 + set_below rule.bitmap rule.bit)).value s.visits few

-- the numbers of the first tests
first_told : (n : ℕ) → (n ≡ 0 → ⊥) → OneOf n → values_of (refusal n) ≡ values n 0 0 0 0
first_told n h (inl e) = absurd (h e)
first_told n h (inr (inl e)) = refusal_values n (omega arith) (omega arith)
first_told n h (inr (inr (inl e))) = refusal_values n (omega arith) (omega arith)
first_told n h (inr (inr (inr e))) = refusal_values n (omega arith) (omega arith)

-- and they keep to a lookup's
refused_told : (n : ℕ) → (n ≡ 0 → ⊥) → OneOf n → LookupValues (values n 0 0 0 0)
refused_told n h (inl e) = absurd (h e)
refused_told n h (inr (inl e)) = record { low = omega arith; roomy = λ z. omega arith; seven = omega arith }
refused_told n h (inr (inr (inl e))) = record { low = omega arith; roomy = λ z. omega arith; seven = omega arith }
refused_told n h (inr (inr (inr e))) = record { low = omega arith; roomy = λ z. omega arith; seven = omega arith }

module _ (s : State) (nodes cells : List ℕ) (key len : ℕ) where
  -- the number of its first tests
  abbrev pub first_number : ℕ
  first_number = lookup_first s.nodes s.cells s.rules (length nodes) (length cells) len

  -- one of four
  one_of : OneOf first_number
  one_of = lookup_numbers s.nodes s.cells s.rules (length nodes) (length cells) len

  -- where they refuse, zeros come with it
  first_zeros : (sight : Result Sight Refusal) → (first_number ≡ 0 → ⊥) → values_of (lookup_of s nodes cells key len sight) ≡ values first_number 0 0 0 0
  first_zeros sight h =
      rw (ne_eqb first_number 0 h) (first_told first_number h one_of)

  -- a lookup refused, or answered
  look_told : (sight : Result Sight Refusal) → (len ≤ width → Seen key len sight) → LookupValues (values_of (lookup_of s nodes cells key len sight))
  look_told sight w = go (ℕ_discrete first_number 0)
    where
      go : Dec (first_number ≡ 0) → LookupValues (values_of (lookup_of s nodes cells key len sight))
      go (yes z) =
          let k = (lookup_ready s.nodes s.cells s.rules (length nodes) (length cells) len z).short in
          rw (eq-eqb first_number 0 z) (answer_told sight cells s.cells.mark key len k (w k))
      go (no z) = subst (λ (v : Values). LookupValues v) (sym (first_zeros sight z)) (refused_told first_number z one_of)

  -- refused by its first tests: their number, and zeros
  pub exact_zeros : (first_number ≡ 0 → ⊥) → values_of (exact_of s nodes cells key len) ≡ values first_number 0 0 0 0
  unfolding exact_of
  exact_zeros h = first_zeros (exact_sight nodes s.nodes.mark key len) h

  pub longest_zeros : (first_number ≡ 0 → ⊥) → values_of (longest_of s nodes cells key len) ≡ values first_number 0 0 0 0
  unfolding longest_of
  longest_zeros h = first_zeros (longest_sight nodes s.nodes.mark key len) h

  pub shortest_zeros : (first_number ≡ 0 → ⊥) → values_of (shortest_of s nodes cells key len) ≡ values first_number 0 0 0 0
  unfolding shortest_of
  shortest_zeros h = first_zeros (shortest_sight nodes s.nodes.mark key len) h

  -- on any memory
  pub exact_told : LookupValues (values_of (exact_of s nodes cells key len))
  unfolding exact_of
  exact_told = look_told (exact_sight nodes s.nodes.mark key len) (λ h. exact_seen key len h nodes s.nodes.mark)

  pub longest_told : LookupValues (values_of (longest_of s nodes cells key len))
  unfolding longest_of
  longest_told = look_told (longest_sight nodes s.nodes.mark key len) (λ h. longest_seen key len h nodes s.nodes.mark)

  pub shortest_told : LookupValues (values_of (shortest_of s nodes cells key len))
  unfolding shortest_of
  shortest_told = look_told (shortest_sight nodes s.nodes.mark key len) (λ h. shortest_seen key len h nodes s.nodes.mark)

-- ---- the state of a refused start: every later call meets it with 3

abbrev pub zero_state : State
zero_state = state_as (pool_as 0 0) (pool_as 0 0) 0

module _ (nodes cells : List ℕ) (key len : ℕ) where
  zero_look : (sight : Result Sight Refusal) → lookup_of zero_state nodes cells key len sight ≡ WrongSlice
  zero_look sight = rw (zero_lookup (length nodes) (length cells) len)

  pub zero_exact : exact_of zero_state nodes cells key len ≡ WrongSlice
  unfolding exact_of
  zero_exact = zero_look (exact_sight nodes 0 key len)

  pub zero_longest : longest_of zero_state nodes cells key len ≡ WrongSlice
  unfolding longest_of
  zero_longest = zero_look (longest_sight nodes 0 key len)

  pub zero_shortest : shortest_of zero_state nodes cells key len ≡ WrongSlice
  unfolding shortest_of
  zero_shortest = zero_look (shortest_sight nodes 0 key len)

module _ (m : Memory) (key len : ℕ) where
  zero_number : edit_first (pool_as 0 0) (pool_as 0 0) 0 (length m.nodes) (length m.cells) (length m.node_free) (length m.cell_free) key len ≡ 3
  zero_number = zero_edit (length m.nodes) (length m.cells) (length m.node_free) (length m.cell_free) key len

  pub zero_insert : (v : Cell) → insert_of zero_state m key len v ≡ (edited WrongSlice zero_state, m)
  unfolding insert_of
  zero_insert v = rw zero_number

  pub zero_remove : remove_of zero_state m key len ≡ (edited WrongSlice zero_state, m)
  unfolding remove_of
  zero_remove = rw zero_number
