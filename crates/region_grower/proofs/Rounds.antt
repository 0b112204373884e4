-- Round a corner: the walk of the dart come to, and that the last step leads back.
use Rattle.std.proofs.Common.{◌≡◌, ℕ, zero, suc, ◌+◌, ◌<◌, List, [], ◌∷◌, ◌++◌, length, replicate, Option, Some, None, option_and_then, refl, sym, ap, ◌∙◌, subst, append_assoc}
use Rattle.std.proofs.lemmas.List.{append-nil, replicate_more}
use Rattle.tile_model.specs.declared.Letter.{Letter}
use Rattle.tile_model.specs.declared.Letter.TheVariants.{L, X}
use Rattle.tile_model.specs.Tessellations.{valence}
use Rattle.tile_model.specs.Walks.{type_of, times}
use Rattle.tile_model.specs.Relation.{AreRelated, round_corner}
use Rattle.tile_model.proofs.Relations.{related_equal, related_back, related_on, related_behind, related_before, loop_empty}
use Rattle.coincidence.specs.Atlases.{LieAcross}
use Rattle.coincidence.specs.Tables.{JoinTable, dart_walk, kind_of, atlas}
use Rattle.coincidence.specs.Joined.{IsTable}
use Rattle.region_grower.specs.Ways.{IsDart}
use Rattle.region_grower.specs.Corners.{left_of, further, rounds, valence_at}
use Rattle.region_grower.proofs.Ways.{over_dart}

abbrev pub round : List Letter
round = L ∷ X ∷ []

-- the last time may be taken off
pub times_last : (n : ℕ) → times (suc n) round ≡ times n round ++ round
times_last zero = refl
times_last (suc n) = ap (λ u. round ++ u) (times_last n) ∙ sym (append_assoc round (times n round) round)

module _ (t : JoinTable) (table : IsTable t) where
  abbrev start : ℕ × ℕ
  start = (kind_of t.origins 0, 0)

  -- LX from a dart that is joined there
  step_walk : (d : ℕ × ℕ) → dart_walk t d ++ round ≡ dart_walk t (left_of d) ++ X ∷ []
  step_walk d =
      let w = (atlas t).walk_to d.0 in
      append_assoc w (replicate d.1 L) round ∙ (ap (λ u. w ++ u) (sym (append_assoc (replicate d.1 L) (L ∷ []) (X ∷ [])) ∙ ap (λ u. u ++ X ∷ []) (replicate_more d.1 L)) ∙ sym (append_assoc w (replicate (d.1 + 1) L) (X ∷ [])))

  -- the dart come to: there is one before it, joined
  pub rounds_before : (n : ℕ) (d e : ℕ × ℕ) → rounds (suc n) t d ≡ Some e → (f : ℕ × ℕ) × (rounds n t d ≡ Some f) × (further t f ≡ Some e)
  rounds_before n d e come = go (rounds n t d) refl
    where
      go : (o : Option (ℕ × ℕ)) → rounds n t d ≡ o → (f : ℕ × ℕ) × (rounds n t d ≡ Some f) × (further t f ≡ Some e)
      go None is = let none : rounds (suc n) t d ≡ None = ap (option_and_then (further t)) is in absurd (cc (none, come))
      go (Some f) is = (f, is, sym (ap (option_and_then (further t)) is) ∙ come)

  pub rounds_walk : (n : ℕ) (d e : ℕ × ℕ) → rounds n t d ≡ Some e → AreRelated t.kinds start (dart_walk t d ++ times n round) (dart_walk t e)
  rounds_walk zero d e come =
      let same : d ≡ e = cc (come) in
      related_on t.kinds (related_equal t.kinds (append-nil (dart_walk t d))) (related_equal t.kinds (ap (dart_walk t) same))
  rounds_walk (suc n) d e come =
      let before = rounds_before n d e come in
      let f = before.0 in
      let rest = rounds_walk n d f before.1 in
      let whole : dart_walk t d ++ times (suc n) round ≡ (dart_walk t d ++ times n round) ++ round = ap (λ u. dart_walk t d ++ u) (times_last n) ∙ sym (append_assoc (dart_walk t d) (times n round) round) in
      related_on t.kinds (related_equal t.kinds whole) (related_on t.kinds (related_behind t.kinds round rest) (related_on t.kinds (related_equal t.kinds (step_walk f)) (table.sound.joined (left_of f) e before.2)))

  -- a dart that was come to is one of a live cell
  pub rounds_dart : (n : ℕ) (d e : ℕ × ℕ) → IsDart t d → rounds n t d ≡ Some e → IsDart t e
  rounds_dart zero d e is_dart come = let same : d ≡ e = cc (come) in subst (IsDart t) same is_dart
  rounds_dart (suc n) d e is_dart come = let before = rounds_before n d e come in over_dart t table (left_of before.0) e before.2

  -- round the whole corner: the last dart, turned left, lies across from the first one
  pub round_across : (n : ℕ) (d e : ℕ × ℕ) → d.0 < length t.origins → suc n ≡ valence_at t d → rounds n t d ≡ Some e → LieAcross (atlas t) (left_of e) d
  round_across n d e made all come =
      let walk = dart_walk t d in
      let rest = rounds_walk n d e come in
      let type = table.walk_type d made in
      let loop : AreRelated t.kinds (type_of t.kinds start walk) (times (suc n) round) [] = subst (λ v. AreRelated t.kinds (type_of t.kinds start walk) (times v round) []) (ap (valence t.kinds) type ∙ sym all) (loop_empty t.kinds round_corner) in
      let home : AreRelated t.kinds start (walk ++ times (suc n) round) walk = related_on t.kinds (related_before t.kinds walk loop) (related_equal t.kinds (append-nil walk)) in
      let whole : walk ++ times (suc n) round ≡ (walk ++ times n round) ++ round = ap (λ u. walk ++ u) (times_last n) ∙ sym (append_assoc walk (times n round) round) in
      let there : AreRelated t.kinds start (walk ++ times (suc n) round) (dart_walk t (left_of e) ++ X ∷ []) = related_on t.kinds (related_equal t.kinds whole) (related_on t.kinds (related_behind t.kinds round rest) (related_equal t.kinds (step_walk e))) in
      record { related = related_on t.kinds (related_back t.kinds there) home }
