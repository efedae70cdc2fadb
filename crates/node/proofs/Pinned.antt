-- A view is pinned down: any two of one key, length and depth have the same left of the key, which the type ties to these. Assumes nothing.
use mathlib.Core.Path.{◌≡◌, sym, ap₂, ◌∙◌}
use Rattle.places.specs.Places.{rest_at}
use Rattle.node.specs.declared.views.View.{View}

pub view_same : (v w : View) → v.key ≡ w.key → v.depth ≡ w.depth → v.rest ≡ w.rest
view_same v w k d = v.left ∙ ap₂ rest_at k d ∙ sym w.left
