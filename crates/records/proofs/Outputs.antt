-- What a run writes: the replies one after the other from the front on, and nothing behind them. Assumes nothing.
use mathlib.Core.Path.{◌≡◌, refl, sym, ap, ◌∙◌}
use mathlib.Core.Bool.{Bool, true, false, cond}
use mathlib.Core.List.{List, ◌++◌, append_assoc}
use Prim.Native.Nat.{ℕ, zero, suc, ◌+◌, ◌-◌, ◌*◌, ◌≤◌}
use native.Mathlib.Nat.{suc-mul}
use native.Mathlib.Omega.{arith}
use lib.ListN.{length, drop, length-append, length-drop}
use lib.Seq.{drop-drop}
use Rattle.octets.specs.Octets.{written}
use Rattle.octets.proofs.Written.{written_between}
use Rattle.map.specs.declared.Edited.{Edited}
use Rattle.map.specs.declared.Values.{Values}
use Rattle.map.specs.Answers.{values_of}
use Rattle.map.specs.Memory.{Memory}
use Rattle.records.specs.Records.{record_bytes, op_in, len_in, key_in, value_in, good_in, reply_of, bad_record, call_of}
use Rattle.records.specs.Runs.{Run, run, one_of, wholes_of, values_in, replies_of}

-- a reply has twelve bytes
pub reply_length : (v : Values) → length (reply_of v) ≡ record_bytes
unfolding reply_of
reply_length v = refl

-- one record writes its reply at its own place
one_out_of :
    (b : Bool) (c : Edited × Memory) (r : Run) (at : ℕ)
    → (cond b (run c.0.state c.1 (written r.out at (reply_of (values_of c.0.answer)))) (run r.state r.memory (written r.out at (reply_of bad_record)))).out
    ≡ written r.out at (reply_of (cond b (values_of c.0.answer) bad_record))
one_out_of true c r at = refl
one_out_of false c r at = refl

pub one_out : (r : Run) (s : List ℕ) (at : ℕ) → (one_of r s at).out ≡ written r.out at (reply_of (values_in r.state r.memory s at))
unfolding one_of values_in
one_out r s at = one_out_of (good_in s at) (call_of r.state r.memory (op_in s at) (len_in s at) (key_in s at) (value_in s at)) r at

-- n replies have 12 n bytes
pub replies_length : (n : ℕ) (r : Run) (s : List ℕ) → length (replies_of n r s) ≡ n * record_bytes
unfolding replies_of
replies_length zero r s = refl
replies_length (suc n) r s =
    let v = values_in (wholes_of n r s).state (wholes_of n r s).memory s (n * record_bytes) in
    length-append (replies_of n r s) (reply_of v)
    ∙ ap (λ (k : ℕ). k + length (reply_of v)) (replies_length n r s)
    ∙ ap (λ (k : ℕ). n * record_bytes + k) (reply_length v)
    ∙ sym (suc-mul n record_bytes)

-- the output after n records: their replies, then the bytes that were there
pub wholes_out : (n : ℕ) (r : Run) (s : List ℕ) → n * record_bytes ≤ length r.out → (wholes_of n r s).out ≡ replies_of n r s ++ drop (n * record_bytes) r.out
unfolding wholes_of replies_of
wholes_out zero r s h = refl
wholes_out (suc n) r s h =
    let o = r.out in
    let w = wholes_of n r s in
    let v = values_in w.state w.memory s (n * record_bytes) in
    let p = replies_of n r s in
    let m : suc n * record_bytes ≡ n * record_bytes + record_bytes = suc-mul n record_bytes in
    let l : n * record_bytes ≤ length o = omega arith in
    let e : length (reply_of v) ≡ record_bytes = reply_length v in
    let d : length (drop (n * record_bytes) o) ≡ length o - n * record_bytes = length-drop (n * record_bytes) o in
    let f : length (reply_of v) ≤ length (drop (n * record_bytes) o) = omega arith in
    let k : n * record_bytes + length (reply_of v) ≡ suc n * record_bytes = ap (λ (i : ℕ). n * record_bytes + i) e ∙ sym m in
    one_out w s (n * record_bytes)
    ∙ ap (λ (x : List ℕ). written x (n * record_bytes) (reply_of v)) (wholes_out n r s l)
    ∙ ap (λ (i : ℕ). written (p ++ drop (n * record_bytes) o) i (reply_of v)) (sym (replies_length n r s))
    ∙ written_between p (drop (n * record_bytes) o) (reply_of v) f
    ∙ ap (λ (x : List ℕ). p ++ (reply_of v ++ x)) (drop-drop (length (reply_of v)) (n * record_bytes) o ∙ ap (λ (i : ℕ). drop i o) k)
    ∙ sym (append_assoc p (reply_of v) (drop (suc n * record_bytes) o))
