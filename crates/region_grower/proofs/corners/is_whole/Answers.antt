-- So many times as the valence says, and back.
use Rattle.std.proofs.Common.{◌≡◌, Some, sym, ap, ap₂, ◌∙◌}
use Rattle.tile_model.specs.Tessellations.{valence}
use Rattle.region_grower.specs.Corners.{rounds, valence_at}
use Rattle.region_grower.proofs.Ways.{dart_name}
use Rattle.region_grower.proofs.Closing.{dart_side}
use Rattle.region_grower.proofs.corners.is_whole.Goals as goal

pub comes_back-requires : goal.comes_back-requires
comes_back-requires c = dart_side c.args.joins.now c.requires.table c.args.d c.requires.dart

pub returns : goal.returns
returns c = λ yes.
    let t = c.args.joins.now in
    let all : c.valence-valence.result ≡ valence_at t c.args.d = c.valence-valence.ensures.value ∙ ap₂ (λ ks d. valence ks d) c.tessellation.ensures.value c.type_of.ensures.value in
    ap (λ n. rounds n t c.args.d) (sym all) ∙ (c.comes_back.ensures.0 yes ∙ ap Some (sym (dart_name t c.requires.table c.args.d c.requires.dart)))
