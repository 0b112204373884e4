-- What a trial tells of all candidates to its horizon, and those before it of the horizons before.
use Rattle.std.proofs.Common.{◌≡◌, inl, inr, ℕ, ◌+◌, ◌<◌, List, Option, Some, None, IsNone, is_some, true, refl, subst, arith}
use Rattle.std.proofs.lemmas.Bool.{cases_lt}
use Rattle.tile_model.specs.Tessellations.{TileKind}
use Rattle.region_grower.specs.Regions.{RegionState}
use Rattle.tree_model.specs.Automata.{TreeAutomaton}
use Rattle.tree_model.specs.Conditions.{IsAccepted}
use Rattle.structure_check.specs.Rules.{TreeRules}
use Rattle.state_candidates.specs.Candidates.{IsCandidate}
use Rattle.state_learner.specs.Learning.{NoneAccepted}
use Rattle.state_learner.specs.Growing.{IsTrial, AreTried}
use Rattle.state_learner.specs.declared.attempts.Trial.{Trial}
use Rattle.state_learner.specs.declared.attempts.Trial.TheVariants.{Missing, Refused, Accepted}

module _ (tess : List TileKind) (regions : List RegionState) where
  -- where there is one candidate, and it is refused, each is
  pub one_refused : (h : ℕ) (a : TreeAutomaton) → ((b : TreeAutomaton) → IsCandidate tess regions h b → b ≡ a)
      → ¬ (IsAccepted tess a) → IsTrial tess regions h Refused
  one_refused h a only refused b is accepted = refused (subst (IsAccepted tess) (only b is) accepted)

  -- a trial in which no candidate was accepted
  pub not_accepted : (h : ℕ) (trial : Trial) → IsTrial tess regions h trial → ((rules : TreeRules) → trial ≡ Accepted rules → ⊥)
      → (a : TreeAutomaton) → IsCandidate tess regions h a → ¬ (IsAccepted tess a)
  not_accepted h Missing is none a candidate accepted = is a candidate
  not_accepted h Refused is none a candidate accepted = is a candidate accepted
  not_accepted h (Accepted rules) is none a candidate accepted = none rules refl

  -- one more horizon was tried
  pub tried_more : (h : ℕ) → AreTried tess regions h → ((a : TreeAutomaton) → IsCandidate tess regions h a → ¬ (IsAccepted tess a))
      → AreTried tess regions (h + 1)
  tried_more h before now g a low is accepted = elim (cases_lt g h) [
    | inl lower ↦ before g a lower is accepted
    | inr high ↦ let same : g ≡ h = omega (arith, low, high) in now a (subst (λ n. IsCandidate tess regions n a) same is) accepted
  ]

  pub all_tried : (h : ℕ) → 8 < h → AreTried tess regions h → NoneAccepted tess regions 8
  all_tried h high tried g a low is = tried g a (omega (arith, high, low)) is

  -- what was tried is the same regions to the same horizon
  pub trial_of : (h h' : ℕ) (regions' : List RegionState) (trial : Trial) → regions' ≡ regions → h' ≡ h
      → IsTrial tess regions' h' trial → IsTrial tess regions h trial
  trial_of h h' regions' trial same level is =
      subst (λ rs. IsTrial tess rs h trial) same (subst (λ n. IsTrial tess regions' n trial) level is)

-- what is there is not nothing
pub some_not_none : {A : Type 0} (o : Option A) → true ≡ is_some o → IsNone o → ⊥
some_not_none None is none = absurd (cc)
some_not_none (Some x) is none = absurd (cc)
