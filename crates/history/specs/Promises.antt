-- What holds after every trace: the theorem's own text (the order, demands 2 and 3; document 01, "The block ledger" and "The node
-- count"). N nodes, D cells; g is the ledger of the accepted edits, and its rules are the live rules. Assumes nothing.
use Rattle.std.specs.Prelude.{◌≡◌, List, [], ◌∷◌, ℕ}
use Rattle.store.specs.declared.Cell.{Cell}
use Rattle.rules.specs.Rules.{Edit, live, rule_count}
use Rattle.rules.specs.Ledger.{Ledger, fresh, ledger_from, Balanced}
use Rattle.blocks.specs.Blocks.{free_of}
use Rattle.map.specs.declared.State.{State}
use Rattle.map.specs.declared.Answer.{Answer}
use Rattle.map.specs.Memory.{Memory}
use Rattle.history.specs.Calls.{Call, Given, reply, noted}
use Rattle.history.specs.Traces.{promised}

-- the ledger of accepted edits, from a fresh start
abbrev pub ledger : ℕ → ℕ → List (Edit Cell) → Ledger Cell
ledger N D h = ledger_from N D fresh h

-- the answers to calls, newest first, and the accepted edits among them: functions of the calls and the sizes
unfoldable pub edits : ℕ → ℕ → List Call → List (Edit Cell)
edits N D [] = []
edits N D (c ∷ cs) = noted c (reply N D (ledger N D (edits N D cs)) c) (edits N D cs)

unfoldable pub replies : ℕ → ℕ → List Call → List Answer
replies N D [] = []
replies N D (c ∷ cs) = reply N D (ledger N D (edits N D cs)) c ∷ replies N D cs

-- after accepted edits h, with state s and memory m
pub record Right (N D : ℕ) (h : List (Edit Cell)) (s : State) (m : Memory) : Type 0 where
  -- the live rules are those of the accepted edits
  pub rules : (ledger N D h).rules ≡ live h
  -- every call from here on answers as the ledger says
  pub next : (c : Call) → Given c → (promised c s m).0.answer ≡ reply N D (ledger N D h) c
  -- the rule count is the number of live rules
  pub count : s.rules ≡ rule_count (live h)
  -- sizes, marks and free counts are the ledger's
  pub node_size : s.nodes.size ≡ N
  pub node_mark : s.nodes.mark ≡ (ledger N D h).nodes.mark
  pub node_free : (t : ℕ) → free_of s.nodes t ≡ (ledger N D h).nodes.free t
  pub cell_size : s.cells.size ≡ D
  pub cell_mark : s.cells.mark ≡ (ledger N D h).cells.mark
  pub cell_free : (t : ℕ) → free_of s.cells t ≡ (ledger N D h).cells.free t
  -- per pool, cells in use, free and never issued sum to the size
  pub balanced : Balanced N D (ledger N D h)
