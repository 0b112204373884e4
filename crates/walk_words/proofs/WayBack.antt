-- The opposite letters, in reverse order, are the way back.
use Rattle.std.proofs.Common.{◌≡◌, List, [], ◌∷◌, ◌++◌, map, reverse, refl, sym, ap, ◌∙◌}
use Rattle.std.proofs.lemmas.List.{reverse-append}
use Rattle.tile_model.specs.declared.Letter.{Letter}
use Rattle.tile_model.specs.Walks.{opposite, inverse}
use Rattle.tile_model.proofs.Inverses.{inverse_cons}

pub reversed_opposites : (w : List Letter) → reverse (map opposite w) ≡ inverse w
reversed_opposites [] = refl
reversed_opposites (x ∷ w) = reverse-append (opposite x ∷ []) (map opposite w) ∙ (ap (λ (v : List Letter). v ++ opposite x ∷ []) (reversed_opposites w) ∙ sym (inverse_cons x w))
