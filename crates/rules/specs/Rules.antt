-- Live rules, and what a lookup answers (document 01, "What a rule is"). Assumes nothing.
-- Everything is read from the accepted edits alone. The type of a rule's value is a parameter: in document 01 it is u32.
use Rattle.std.specs.Prelude.{◌≡◌, Bool, true, false, ◌&&◌, cond, List, [], ◌∷◌, ℕ, zero, suc, ◌^◌, ◌≤◌, ◌<◌, eqb, length}
use Rattle.std.proofs.Math.Option.{Option, none, some}
use Rattle.prefix.specs.Prefix.{width, masked}

-- a rule: a prefix, its key masked, and a value
pub record Rule (Value : Type 0) : Type 0 where
  pub key : ℕ
  pub len : ℕ
  pub value : Value

-- rules in a list
abbrev pub Rules : Type 0 → Type 0
Rules Value = List (Rule Value)

-- an accepted edit: `put key len value` inserts a rule, `del key len` removes one
pub data Edit (Value : Type 0) : Type 0 where
  put : ℕ → ℕ → Value → Edit Value
  del : ℕ → ℕ → Edit Value

-- what a lookup answers: nothing, or a rule's masked key, length and value
pub data Answer (Value : Type 0) : Type 0 where
  nothing : Answer Value
  found : ℕ → ℕ → Value → Answer Value

-- (p, l) and (q, m) are the same prefix: one length, one masked key
unfoldable pub same : ℕ → ℕ → ℕ → ℕ → Bool
same p l q m = eqb l m && eqb (masked p l) (masked q m)

-- a key of 32 bits and a length of at most 32
pub record IsPrefix (key len : ℕ) : Type 0 where
  pub bits : key < 2 ^ width
  pub short : len ≤ width

module _ {Value : Type 0} where
  -- the value of the rule for the prefix (key, len), where there is one
  unfoldable pub value_at : Rules Value → ℕ → ℕ → Option Value
  value_at [] key len = none
  value_at (r ∷ rs) key len = cond (same r.key r.len key len) (some r.value) (value_at rs key len)

  -- there is a value
  abbrev pub is_some : Option Value → Bool
  is_some none = false
  is_some (some v) = true

  -- the rule count
  abbrev pub rule_count : Rules Value → ℕ
  rule_count rs = length rs

  -- there is a rule for that prefix
  abbrev pub is_live : Rules Value → ℕ → ℕ → Bool
  is_live rs key len = is_some (value_at rs key len)

  -- the rules but that for the prefix (key, len)
  unfoldable pub without : ℕ → ℕ → Rules Value → Rules Value
  without key len [] = []
  without key len (r ∷ rs) = cond (same r.key r.len key len) (without key len rs) (r ∷ without key len rs)

  -- the live rules after one more accepted edit: an inserted rule takes the place of the one that its prefix had
  unfoldable pub edited : Edit Value → Rules Value → Rules Value
  edited (put key len v) rs = record { key = masked key len; len = len; value = v } ∷ without key len rs
  edited (del key len) rs = without key len rs

  -- the live rules after a history, the newest edit first, that began with the rules rs
  unfoldable pub live_from : Rules Value → List (Edit Value) → Rules Value
  live_from rs [] = rs
  live_from rs (e ∷ h) = edited e (live_from rs h)

  -- the live rules of a history from a fresh start
  abbrev pub live : List (Edit Value) → Rules Value
  live h = live_from [] h

  -- an edit names a prefix, as every accepted one does
  abbrev pub Names : Edit Value → Type 0
  Names (put key len v) = IsPrefix key len
  Names (del key len) = IsPrefix key len

  -- and so does every edit of a history
  abbrev pub AllName : List (Edit Value) → Type 0
  AllName [] = Unit {0}
  AllName (e ∷ h) = Names e × AllName h

  -- a rule before others: it is for a prefix, its key masked, that none of them has
  pub record Stands (r : Rule Value) (rs : Rules Value) : Type 0 where
    pub prefix : IsPrefix r.key r.len
    pub shown : masked r.key r.len ≡ r.key
    pub once : value_at rs r.key r.len ≡ none

  -- rules as accepted edits leave them: each prefix once
  abbrev pub Proper : Rules Value → Type 0
  Proper [] = Unit {0}
  Proper (r ∷ rs) = Stands r rs × Proper rs

  -- a value found for a prefix, as an answer
  abbrev pub told : ℕ → ℕ → Option Value → Answer Value
  told key len none = nothing
  told key len (some v) = found (masked key len) len v

  -- the first answer, or else the second
  abbrev pub or_else : Answer Value → Answer Value → Answer Value
  or_else nothing b = b
  or_else (found key len v) b = found key len v

  -- exact: the rule for the query's own prefix
  unfoldable pub exact : Rules Value → ℕ → ℕ → Answer Value
  exact rs key len = told key len (value_at rs key len)

  -- longest: the first rule met among the query's prefixes, from its length down to 0
  unfoldable pub longest : Rules Value → ℕ → ℕ → Answer Value
  longest rs key zero = exact rs key zero
  longest rs key (suc len) = or_else (exact rs key (suc len)) (longest rs key len)

  -- shortest: the first one met from length 0 up
  unfoldable pub shortest : Rules Value → ℕ → ℕ → Answer Value
  shortest rs key zero = exact rs key zero
  shortest rs key (suc len) = or_else (shortest rs key len) (exact rs key (suc len))
