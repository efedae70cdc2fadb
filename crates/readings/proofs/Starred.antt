-- The one statement that proves the starred readings: each row's input gives its result. Assumes nothing.
use mathlib.Core.Path.{refl}
use Rattle.bits.specs.Bits.{bit_at, set_below, with_bit, word}
use Rattle.prefix.specs.Prefix.{first, masked}
use Rattle.tiers.specs.Tiers.{spacing_of, tier_of, section_length, section_start}
use Rattle.places.specs.Places.{data_bit, child_bit, path_of, length_at, path_in}
use Rattle.patterns.specs.Patterns.{is_ancestor, is_child_below, lead}
use Rattle.node.specs.Masks.{covers_query}
use Rattle.node.specs.Matches.{found_or, longest_from as longest_from_level, longest_in}
use Rattle.blocks.specs.Blocks.{ask_of, less_of, take_of}
use Rattle.blocks.specs.Growth.{grow_ask_of, grow_of, stays_of, singles_of, chain_ask_of}
use Rattle.blocks.specs.Shape.{sections_of, sane_of}
use Rattle.store.specs.Moves.{run_of, open_of, widen_cells, widen_nodes}
use Rattle.store.specs.Words.{cell_at, save_cell, node_at, save_node}
use Rattle.walk.specs.Lookups.{better, walk_step, walk_from, walk_of}
use Rattle.walk.specs.Steps.{sound_of, children_within, data_within, step_of}
use Rattle.walk.specs.Trails.{trail_step, trail_from, trail_of}
use Rattle.entry.specs.First.{lookup_shaped, edit_shaped, sane_state, lookup_first, edit_first}
use Rattle.entry.specs.Fresh.{empty_nodes}
use Rattle.edits.specs.Adding.{keep_of, chain_of, make_of}
use Rattle.map.specs.Fresh.{fresh_of}
use Rattle.map.specs.Inserts.{below_of, arrived_of, walked_of, insert_of}
use Rattle.map.specs.Lookups.{told_of, answer_of, longest_of}
use Rattle.readings.specs.Small.{longest_after, said_of}
use Rattle.readings.specs.Reading.{reading_of}
use Rattle.readings.specs.Starred.{starred, AllHold}

pub all_starred : AllHold starred
unfolding reading_of longest_after said_of is_ancestor is_child_below lead bit_at set_below with_bit word first masked
    spacing_of tier_of section_length section_start data_bit child_bit path_of length_at path_in covers_query found_or
    longest_from_level longest_in ask_of less_of take_of grow_ask_of grow_of stays_of singles_of chain_ask_of
    sections_of sane_of run_of open_of widen_cells widen_nodes cell_at save_cell node_at save_node better
    walk_step walk_from walk_of sound_of children_within data_within step_of trail_step trail_from
    trail_of lookup_shaped edit_shaped sane_state lookup_first edit_first empty_nodes keep_of chain_of make_of fresh_of
    below_of arrived_of walked_of insert_of told_of answer_of longest_of
all_starred = (refl, (refl, (refl, (refl, (refl, (refl, (refl, (refl, (refl, (refl, (refl, (refl, (refl, (refl, (refl, (refl, (refl, tt)))))))))))))))))
