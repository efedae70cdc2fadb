-- Traces there are: from every lent memory of allowed sizes, and on by every call. So nothing above is said of nothing. Assumes nothing.
use mathlib.Core.Path.{◌≡◌, refl}
use mathlib.Core.Bool.{true}
use mathlib.Core.List.{List, [], ◌∷◌}
use Prim.Native.Nat.{ℕ}
use lib.ListN.{length}
use Rattle.entry.specs.First.{edit_shaped}
use Rattle.map.specs.declared.State.{State}
use Rattle.map.specs.declared.Answer.{Answer}
use Rattle.map.specs.Memory.{Memory}
use Rattle.map.specs.Fresh.{fresh_of}
use Rattle.history.specs.Calls.{Call, Given}
use Rattle.history.specs.Traces.{promised, Trace, begun, called}

-- every start over slices of the right lengths is accepted, and begins a trace
pub begins : (N D : ℕ) (lent : Memory) → edit_shaped N D (length lent.nodes) (length lent.cells) (length lent.node_free) (length lent.cell_free) ≡ true
    → Trace N D [] [] (fresh_of lent N D).0.state (fresh_of lent N D).1
unfolding fresh_of
begins N D lent e = begun lent (fresh_of lent N D).1 (fresh_of lent N D).0.state (rw e refl)

-- every trace goes on by every call
pub goes_on : {N D : ℕ} {cs : List Call} {ans : List Answer} {s : State} {m : Memory} → Trace N D cs ans s m → (c : Call) → Given c
    → Trace N D (c ∷ cs) ((promised c s m).0.answer ∷ ans) (promised c s m).0.state (promised c s m).1
goes_on {cs = cs} {ans = ans} {s = s} {m = m} t c k = called cs ans s m c (promised c s m).0 (promised c s m).1 t k refl
