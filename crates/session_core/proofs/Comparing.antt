-- What the calls that compare two walkers come to.
use Rattle.std.proofs.Common.{◌≡◌, ℕ, ◌<◌, ◌⊎◌, inl, inr, List, subst}
use Rattle.std.specs.Prelude.{Some, Result, Ok, IsErrOf}
use Rattle.tile_model.specs.declared.Letter.{Letter}
use Rattle.structure_check.specs.Rules.{TreeRules}
use Rattle.turn_rules.specs.Spots.{TreeSpot}
use Rattle.cell_distance.specs.declared.fault.DistFault.{DistFault}
use Rattle.cell_distance.specs.declared.fault.DistFault.TheVariants.{Deep as TooFar, Memory}
use Rattle.reply_model.specs.declared.Command.TheVariants.{Dist, Path}
use Rattle.reply_model.specs.declared.Reply.TheVariants.{Deep, Dist as Apart, Path as Along}
use Rattle.reply_model.specs.Histories.{most_walkers}
use Rattle.session_core.specs.Sessions.{SessionState, walker_at, IsSession}
use Rattle.session_core.specs.Answered.{HasAnswered}
use Rattle.session_core.proofs.Steps.{IsFarPath, IsNearPath, AreSpotsApart, IsAlongName}
use Rattle.session_core.proofs.Steps.{dist_far, dist_spots, path_far, path_spots}
use Rattle.session_core.proofs.Standing.{answered}

-- what was told was not refused
pub was_not_far :
    {T : Type 0} (r : Result T DistFault) (x : T) → r ≡ Ok x →
    IsErrOf r TooFar ⊎ IsErrOf r Memory → ⊥
was_not_far r x e (inl f) = absurd (cc)
was_not_far r x e (inr f) = absurd (cc)

module _
    (s : SessionState) (is : IsSession s) (w v : ℕ) (below : w < most_walkers)
    (below' : v < most_walkers) (p q : TreeSpot) (first : walker_at s w ≡ Some p)
    (second : walker_at s v ≡ Some q) (r : TreeRules) (same : r ≡ s.rules)
  where
    near_too : IsNearPath r p q → IsNearPath s.rules p q
    near_too near = subst (λ r. IsNearPath r p q) same near

    pub has_far : IsFarPath r p q → HasAnswered s (Dist w v) Deep s
    has_far far =
        answered s (Dist w v) Deep s is (below, below')
        (dist_far w v p q first second (subst (λ r. IsFarPath r p q) same far))

    pub has_far_path : IsFarPath r p q → HasAnswered s (Path w v) Deep s
    has_far_path far =
        answered s (Path w v) Deep s is (below, below')
        (path_far w v p q first second (subst (λ r. IsFarPath r p q) same far))

    pub has_apart :
        (n : ℕ) → IsNearPath r p q → AreSpotsApart r p q n → HasAnswered s (Dist w v) (Apart n) s
    has_apart n near d =
        answered s (Dist w v) (Apart n) s is (below, below')
        (dist_spots w v n p q first second (near_too near)
        (subst (λ r. AreSpotsApart r p q n) same d))

    pub has_along :
        (z : List Letter) → IsNearPath r p q → IsAlongName r p q z →
        HasAnswered s (Path w v) (Along z) s
    has_along z near d =
        answered s (Path w v) (Along z) s is (below, below')
        (path_spots w v z p q first second (near_too near)
        (subst (λ r. IsAlongName r p q z) same d))
