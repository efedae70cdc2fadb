-- Where a run is cut into batches makes no difference: n records, then k of what is left, are n + k. Assumes nothing.
use mathlib.Core.Path.{◌≡◌, refl, sym, ap, ◌∙◌}
use mathlib.Core.Bool.{Bool, true, false, cond}
use mathlib.Core.List.{List, ◌++◌, append-nil, append_assoc}
use Prim.Native.Nat.{ℕ, zero, suc, ◌+◌, ◌*◌}
use native.Mathlib.Nat.{add-zero, add-suc, add_assoc, add-mul}
use lib.ListN.{drop}
use lib.Seq.{get_or-drop}
use Rattle.octets.specs.Octets.{word_in, written}
use Rattle.map.specs.declared.State.{State}
use Rattle.map.specs.declared.Edited.{Edited}
use Rattle.map.specs.declared.Values.{Values}
use Rattle.map.specs.Answers.{values_of}
use Rattle.map.specs.Memory.{Memory}
use Rattle.records.specs.Records.{record_bytes, op_in, len_in, key_in, value_in, good_in, reply_of, bad_record, call_of}
use Rattle.records.specs.Runs.{Run, run, after, one_of, wholes_of, values_in, replies_of}

-- a number, read from what is left after d bytes
word_moved : (d : ℕ) (s : List ℕ) (at : ℕ) → word_in (drop d s) at ≡ word_in s (d + at)
unfolding word_in
word_moved d s at = simp (get_or-drop, add_assoc)

-- and so its test
good_moved : (d : ℕ) (s : List ℕ) (at : ℕ) → good_in (drop d s) at ≡ good_in s (d + at)
unfolding good_in
good_moved d s at = simp (get_or-drop, word_moved, add_assoc)

-- and its answer
values_moved : (st : State) (m : Memory) (d : ℕ) (s : List ℕ) (at : ℕ) → values_in st m (drop d s) at ≡ values_in st m s (d + at)
unfolding values_in
values_moved st m d s at = simp (good_moved, get_or-drop, word_moved, add_assoc)

-- state and memory after the record at `at`
call_in : State × Memory → List ℕ → ℕ → Edited × Memory
call_in x s at = call_of x.0 x.1 (op_in s at) (len_in s at) (key_in s at) (value_in s at)

left_of : State × Memory → List ℕ → ℕ → State × Memory
left_of x s at = cond (good_in s at) ((call_in x s at).0.state, (call_in x s at).1) x

-- they are those that the record leaves, whatever the output
one_after_of :
    (b : Bool) (c : Edited × Memory) (r : Run) (at : ℕ)
    → after (cond b (run c.0.state c.1 (written r.out at (reply_of (values_of c.0.answer)))) (run r.state r.memory (written r.out at (reply_of bad_record))))
    ≡ cond b (c.0.state, c.1) (after r)
one_after_of true c r at = refl
one_after_of false c r at = refl

one_after : (r : Run) (s : List ℕ) (at : ℕ) → after (one_of r s at) ≡ left_of (after r) s at
unfolding one_of left_of call_in
one_after r s at = one_after_of (good_in s at) (call_of r.state r.memory (op_in s at) (len_in s at) (key_in s at) (value_in s at)) r at

-- the same of what is left after d bytes
left_moved : (x : State × Memory) (d : ℕ) (s : List ℕ) (at : ℕ) → left_of x (drop d s) at ≡ left_of x s (d + at)
unfolding left_of call_in
left_moved x d s at = simp (good_moved, get_or-drop, word_moved, add_assoc)

one_moved : (r r' : Run) (s : List ℕ) (d at : ℕ) → after r ≡ after r' → after (one_of r (drop d s) at) ≡ after (one_of r' s (d + at))
one_moved r r' s d at p =
    one_after r (drop d s) at
    ∙ left_moved (after r) d s at
    ∙ ap (λ (x : State × Memory). left_of x s (d + at)) p
    ∙ sym (one_after r' s (d + at))

module _ (n : ℕ) (r r' : Run) (s : List ℕ) (p : after r' ≡ after (wholes_of n r s)) where
  -- the next batch leaves state and memory as one run would
  pub batch_after : (k : ℕ) → after (wholes_of k r' (drop (n * record_bytes) s)) ≡ after (wholes_of (n + k) r s)
  unfolding wholes_of
  batch_after zero = p ∙ ap (λ (i : ℕ). after (wholes_of i r s)) (sym (add-zero n))
  batch_after (suc k) =
      one_moved (wholes_of k r' (drop (n * record_bytes) s)) (wholes_of (n + k) r s) s (n * record_bytes) (k * record_bytes) (batch_after k)
      ∙ ap (λ (i : ℕ). after (one_of (wholes_of (n + k) r s) s i)) (sym (add-mul n k record_bytes))
      ∙ ap (λ (i : ℕ). after (wholes_of i r s)) (sym (add-suc n k))

  -- and its replies follow those of the batch before
  pub batch_replies : (k : ℕ) → replies_of n r s ++ replies_of k r' (drop (n * record_bytes) s) ≡ replies_of (n + k) r s
  unfolding replies_of
  batch_replies zero = append-nil (replies_of n r s) ∙ ap (λ (i : ℕ). replies_of i r s) (sym (add-zero n))
  batch_replies (suc k) =
      let w = wholes_of k r' (drop (n * record_bytes) s) in
      let u = wholes_of (n + k) r s in
      let a = values_in w.state w.memory (drop (n * record_bytes) s) (k * record_bytes) in
      let e : a ≡ values_in u.state u.memory s ((n + k) * record_bytes) =
      values_moved w.state w.memory (n * record_bytes) s (k * record_bytes)
      ∙ ap (λ (x : State × Memory). values_in x.0 x.1 s (n * record_bytes + k * record_bytes)) (batch_after k)
      ∙ ap (λ (i : ℕ). values_in u.state u.memory s i) (sym (add-mul n k record_bytes)) in
      sym (append_assoc (replies_of n r s) (replies_of k r' (drop (n * record_bytes) s)) (reply_of a))
      ∙ ap (λ (l : List ℕ). l ++ reply_of a) (batch_replies k)
      ∙ ap (λ (v : Values). replies_of (n + k) r s ++ reply_of v) e
      ∙ ap (λ (i : ℕ). replies_of i r s) (sym (add-suc n k))
