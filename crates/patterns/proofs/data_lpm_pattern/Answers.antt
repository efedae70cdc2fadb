-- `patterns::data_lpm_pattern` meets its contract: its entry is the one of the ancestors. Assumes nothing.
use native.Mathlib.Omega.{arith}
use Rattle.patterns.specs.Patterns.{rule_of}
use Rattle.patterns.proofs.Entries.{entry_word}
use Rattle.patterns.proofs.data_lpm_pattern.Goals as goal

pub returns : goal.returns
unfolding rule_of
returns c =
    let a = c.args in
    let h = c.requires in
    entry_word 0 a.level a.place _ _ c.entry.ensures (omega arith) h.0 h.1
