-- What the rules come to that are made for the kinds of a tessellation.
use Rattle.std.proofs.Common.{◌≡◌, ◌⊎◌, inl, inr, ℕ, List, Ok, Err, refl, sym, ◌∙◌, length, subst}
use Rattle.std.proofs.lemmas.Bool.{cases_eq}
use Rattle.tile_model.specs.Tessellations.{TileKind, kind_at}
use Rattle.tree_model.specs.Automata.{TreeAutomaton}
use Rattle.tree_model.specs.Conditions.{IsAccepted}
use Rattle.structure_check.specs.Rules.{TreeRules}
use Rattle.regular_maker.specs.Regular.{IsRegular, IsSpherical, p_of, q_of}
use Rattle.state_learner.specs.Learning.{AreLearnt, HasClosed, IsSphere}
use Rattle.walker_run.specs.declared.line.Line.{Line}
use Rattle.walker_run.specs.declared.line.Line.TheVariants.{Spherical, Closed, GaveUp}
use Rattle.walker_run.specs.declared.stop.Stop.TheVariants.{Say}
use Rattle.walker_run.specs.Held.{Loaded, Refused, Lesson, IsMade, made_spherical, made_rules, made_taught}
use Rattle.walker_run.specs.Effects.{lesson_of}

-- a tessellation is regular or not
regular_or_not : (kinds : List TileKind) → IsRegular kinds ⊎ (¬ IsRegular kinds)
regular_or_not kinds = elim (cases_eq (length kinds) 1) [
  | inl one ↦ elim (cases_eq (kind_at kinds 0).repeat 1) [
    | inl alike ↦ inl (record { one_kind = one; one_type = alike })
    | inr other ↦ inr (λ regular. other regular.one_type)
  ]
  | inr other ↦ inr (λ regular. other regular.one_kind)
]

-- rules that are learnt are what they come to
pub learnt_loaded : (kinds : List TileKind) (cells : ℕ) (rules : TreeRules) → AreLearnt kinds rules
    → IsMade (lesson_of (Ok rules)) kinds cells (Loaded rules.automaton)
learnt_loaded kinds cells rules known = elim (regular_or_not kinds) [
  | inl regular ↦
      let are = known.regular regular in
      subst (λ (a : TreeAutomaton). IsMade (lesson_of (Ok rules)) kinds cells (Loaded a)) (sym are.automaton)
      (made_rules are.regular are.infinite)
  | inr irregular ↦ made_taught (Loaded rules.automaton) irregular refl
      (subst (λ (ks : List TileKind). IsAccepted ks rules.automaton) known.kinds known.sound.accepted)
]

-- a tessellation that is told as spherical is so
pub sphere_made : (lesson : Lesson) (kinds : List TileKind) (cells p q : ℕ) → IsSphere kinds p q → (line : Line) → Spherical p q ≡ line → IsMade lesson kinds cells (Refused line)
sphere_made lesson kinds cells p q sphere line is =
    let low : IsSpherical (p_of kinds) (q_of kinds) = subst (λ (n : ℕ). IsSpherical (p_of kinds) n) sphere.tiles (subst (λ (n : ℕ). IsSpherical n q) sphere.sides sphere.spherical) in
    subst (λ (l : Line). IsMade lesson kinds cells (Refused l)) ((λ i. Spherical (sym sphere.sides i) (sym sphere.tiles i)) ∙ is)
    (made_spherical sphere.regular low)

-- what a teacher said of a tessellation that is not regular is what its rules come to
pub closed_made : (kinds : List TileKind) (cells n : ℕ) → HasClosed kinds n
    → (line : Line) → Closed n ≡ line → IsMade (lesson_of (Err (Say (Closed n)))) kinds cells (Refused line)
closed_made kinds cells n closed line is =
    subst (λ (l : Line). IsMade (lesson_of (Err (Say (Closed n)))) kinds cells (Refused l)) is
    (made_taught (Refused (Closed n)) closed.irregular refl closed)

pub given_up_made : (kinds : List TileKind) (cells : ℕ) → ¬ IsRegular kinds
    → (line : Line) → GaveUp cells ≡ line → IsMade (lesson_of (Err (Say (GaveUp cells)))) kinds cells (Refused line)
given_up_made kinds cells irregular line is =
    subst (λ (l : Line). IsMade (lesson_of (Err (Say (GaveUp cells)))) kinds cells (Refused l)) is
    (made_taught (Refused (GaveUp cells)) irregular refl refl)
