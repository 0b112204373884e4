-- What is known of a tree whose rules are accepted.
-- All that is proved of matching, crossing and the walk along the contour rests on these facts
-- alone.
use Rattle.std.specs.Prelude.{◌≡◌, ℕ, suc, ◌≤◌, ℤ, pos, negsuc, ◌+ℤ◌, ◌-ℤ◌, ◌*ℤ◌, ◌<ℤ◌, ◌≤ℤ◌}
use Rattle.tree_model.specs.Contours.{Mark, Tree, Opens, Closes}

-- A land of places, each a side of a tile.
-- At the left end of the side lies a corner.
-- The place has the type of this corner, the number of its tile among those round the corner, and
-- the depth of its tile.
-- A corner type has the number of its last tile, the depths of its tiles less that of the first
-- one, the corner at the other end of its key edge with the number there of its own first tile, and
-- a rank.
-- There are so many corner types.
pub record Land (P : Type 0) : Type 0 where
  pub left : P → P
  pub right : P → P
  pub hop : P → P
  pub mark : P → Mark
  pub corner : P → ℕ
  pub place : P → ℕ
  pub depth : P → ℕ
  pub last : ℕ → ℕ
  pub offset : ℕ → ℕ → ℤ
  pub outer : ℕ → ℕ
  pub entry : ℕ → ℕ
  pub rank : ℕ → ℕ
  pub corner_count : ℕ

-- The facts, of those places that are of the tree.
pub record IsPlane (P : Type 0) (IsThere : P → Type 0) (land : Land P) : Type 0 where
  -- turns undo each other, and going across a side of the tree undoes itself
  pub right_left : (p : P) → IsThere p → land.right (land.left p) ≡ p
  pub left_right : (p : P) → IsThere p → land.left (land.right p) ≡ p
  pub there_left : (p : P) → IsThere p → IsThere (land.left p)
  pub there_right : (p : P) → IsThere p → IsThere (land.right p)
  pub there_hop : (p : P) → IsThere p → land.mark p ≡ Tree → IsThere (land.hop p)
  pub hop_tree : (p : P) → IsThere p → land.mark p ≡ Tree → land.mark (land.hop p) ≡ Tree
  pub hop_hop : (p : P) → IsThere p → land.mark p ≡ Tree → land.hop (land.hop p) ≡ p
  -- the first tile of a corner is that of an opening side, and the last one lies before a closing
  -- side
  pub opens_first : (p : P) → IsThere p → land.mark p ≡ Opens → land.place p ≡ 0
  pub first_opens : (p : P) → IsThere p → land.place p ≡ 0 → land.mark p ≡ Opens
  pub closes_last :
      (p : P) → IsThere p → land.mark (land.left p) ≡ Closes →
      land.place p ≡ land.last (land.corner p)
  pub last_closes :
      (p : P) → IsThere p → land.place p ≡ land.last (land.corner p) →
      land.mark (land.left p) ≡ Closes
  pub within : (p : P) → IsThere p → land.place p ≤ land.last (land.corner p)
  pub few : (p : P) → IsThere p → land.last (land.corner p) ≤ 63
  -- a turn and a side of the tree lead to the next tile of the corner, whose depth the offsets tell
  pub tree_corner :
      (p : P) → IsThere p → land.mark (land.left p) ≡ Tree →
      land.corner (land.hop (land.left p)) ≡ land.corner p
  pub tree_place :
      (p : P) → IsThere p → land.mark (land.left p) ≡ Tree →
      land.place (land.hop (land.left p)) ≡ suc (land.place p)
  pub tree_depth :
      (p : P) → IsThere p → land.mark (land.left p) ≡ Tree →
      pos (land.depth (land.hop (land.left p))) +ℤ land.offset (land.corner p) (land.place p) ≡
      pos (land.depth p) +ℤ land.offset (land.corner p) (suc (land.place p))
  -- before an opening side lies its outer corner, and behind a closing side the next tile of that
  -- corner
  pub nested_corner :
      (p : P) → IsThere p → land.mark (land.left p) ≡ Opens →
      land.corner p ≡ land.outer (land.corner (land.left p))
  pub nested_place :
      (p : P) → IsThere p → land.mark (land.left p) ≡ Opens →
      land.place p ≡ land.entry (land.corner (land.left p))
  pub behind_corner :
      (p : P) → IsThere p → land.mark (land.left p) ≡ Closes →
      land.corner (land.left p) ≡ land.outer (land.corner p)
  pub behind_place :
      (p : P) → IsThere p → land.mark (land.left p) ≡ Closes →
      land.place (land.left p) ≡ suc (land.entry (land.corner p))
  pub left_depth : (p : P) → IsThere p → land.depth (land.left p) ≡ land.depth p
  -- across the key edge the depth changes by as much seen from the outer corner as seen from the
  -- corner, and by one at most
  pub first_offset : (p : P) → IsThere p → land.offset (land.corner p) 0 ≡ pos 0
  pub one_change :
      (p : P) → IsThere p →
      land.offset (land.outer (land.corner p)) (suc (land.entry (land.corner p))) -ℤ
      land.offset (land.outer (land.corner p)) (land.entry (land.corner p)) ≡
      land.offset (land.corner p) (land.last (land.corner p))
  pub falls_little :
      (p : P) → IsThere p →
      negsuc 0 ≤ℤ land.offset (land.corner p) (land.last (land.corner p))
  pub rises_little :
      (p : P) → IsThere p →
      land.offset (land.corner p) (land.last (land.corner p)) ≤ℤ pos 1
  -- the one fact on ranks
  pub ranked :
      (p : P) → IsThere p →
      (pos (land.rank (land.corner p)) +ℤ
      (pos land.corner_count *ℤ
      land.offset (land.outer (land.corner p)) (land.entry (land.corner p)))) <ℤ
      pos (land.rank (land.outer (land.corner p)))
