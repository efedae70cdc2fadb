-- A number names one operation, and the bytes at one place are one record. Assumes nothing.
use Rattle.std.specs.Prelude.{ℕ, ◌≤◌, cond, eqb, List, false, Option, Some, None, Ok, Err, Result, MatchOption}
use mathlib.Core.Path.{◌≡◌, refl, sym, ◌∙◌, ap}
use native.Mathlib.Omega.{arith}
use Rattle.blocks.proofs.Ways.{never}
use Rattle.records.specs.declared.codec.Operation.{Operation}
use Rattle.records.specs.declared.codec.Operation.TheVariants.{Insert, Remove, Exact, Longest, Shortest}
use Rattle.records.specs.declared.codec.UnknownOperation.{UnknownOperation}
use Rattle.records.specs.declared.codec.Record.{Record}
use Rattle.records.specs.Records.{good_in}
use Rattle.records.specs.Operations.{number_of, Named, IsRecordIn}

-- the operation of a number, where there is one
unfoldable named_by : ℕ → Operation
named_by n = cond (eqb n 1) Insert (cond (eqb n 2) Remove (cond (eqb n 3) Exact (cond (eqb n 4) Longest Shortest)))

named_back : (o : Operation) → named_by (number_of o) ≡ o
unfolding named_by
named_back Insert = refl
named_back Remove = refl
named_back Exact = refl
named_back Longest = refl
named_back Shortest = refl

-- no two operations have one number
pub number_same : (o p : Operation) → number_of o ≡ number_of p → o ≡ p
number_same o p e = sym (named_back o) ∙ ap named_by e ∙ named_back p

-- an operation's number is 1 to 5
pub number_some : (o : Operation) → (1 ≤ number_of o) × (number_of o ≤ 5)
number_some Insert = (omega arith, omega arith)
number_some Remove = (omega arith, omega arith)
number_some Exact = (omega arith, omega arith)
number_some Longest = (omega arith, omega arith)
number_some Shortest = (omega arith, omega arith)

-- a number that is named names no operation's error
named_once : (n : ℕ) (o : Operation) (e : UnknownOperation) → Named n (Ok o) → Named n (Err e) → ⊥
named_once n o e p q =
    let s = number_some o in
    let h : 1 ≤ n = rw p s.0 in
    omega (arith, q.1 h, p, s.1)

-- any two outcomes that name one number are equal
pub named_same : (n : ℕ) (r s : Result Operation UnknownOperation) → Named n r → Named n s → r ≡ s
named_same n (Ok o) (Ok p) h k = ap Ok (number_same o p (sym h ∙ k))
named_same n (Ok o) (Err e) h k = absurd (named_once n o e h k)
named_same n (Err e) (Ok o) h k = absurd (named_once n o e k h)
named_same n (Err d) (Err e) h k = ap (λ (x : ℕ). Err (record { 0 = x })) (h.0 ∙ sym k.0)

module _ (s : List ℕ) (at : ℕ) where
  -- any two records that are read at one place are equal
  pub record_same : (r q : Record) → IsRecordIn s at r → IsRecordIn s at q → r ≡ q
  record_same r q h k =
      let op = number_same r.op q.op (sym h.op ∙ k.op) in
      let len = h.len ∙ sym k.len in
      let key = h.key ∙ sym k.key in
      let value = h.value ∙ sym k.value in
      rw (op, len, key, value) refl

  -- and any two outcomes of reading there
  pub read_same :
      (r q : Option Record) → MatchOption r (good_in s at ≡ false) (λ x. IsRecordIn s at x) → MatchOption q (good_in s at ≡ false) (λ x. IsRecordIn s at x)
      → r ≡ q
  read_same (Some r) (Some q) h k = ap Some (record_same r q h k)
  read_same (Some r) None h k = absurd (never (sym h.good ∙ k))
  read_same None (Some q) h k = absurd (never (sym k.good ∙ h))
  read_same None None h k = refl
