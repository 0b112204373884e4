-- A place has one mark.
use Rattle.std.proofs.Common.{◌≡◌, refl}
use Rattle.tree_model.specs.Contours.{Mark, Tree, Opens, Closes}

pub tree_open : {m : Mark} → m ≡ Tree → m ≡ Opens → ⊥
tree_open a b = absurd (cc)

pub tree_closes : {m : Mark} → m ≡ Tree → m ≡ Closes → ⊥
tree_closes a b = absurd (cc)

pub open_closes : {m : Mark} → m ≡ Opens → m ≡ Closes → ⊥
open_closes a b = absurd (cc)

-- the three cases of a mark
pub data Which (m : Mark) : Type 0 where
  its_tree : m ≡ Tree → Which m
  its_open : m ≡ Opens → Which m
  its_close : m ≡ Closes → Which m

pub which : (m : Mark) → Which m
which Tree = its_tree refl
which Opens = its_open refl
which Closes = its_close refl
