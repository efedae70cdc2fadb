-- Lemmas that the proofs of several functions are given together. Assumes nothing.
use Rattle.walk.proofs.Sights.{exact_seen, longest_seen, shortest_seen}

-- what a lookup sees keeps to the query
pub ruleset seen = (exact_seen, longest_seen, shortest_seen)
